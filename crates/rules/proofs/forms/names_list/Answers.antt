-- `rules::forms::names_list` meets its contract. Assumes nothing.
use Rattle.rules.proofs.FormLaws.{list_none, list_broken, list_read}
use Rattle.rules.proofs.forms.names_list.Goals as goal

pub returns-in_err-a : goal.returns-in_err-a
returns-in_err-a c = rw c.from_residual.ensures (list_none c.args.head.now c.args.s.now c.args.from c.in_err-a.ensures)

pub returns-in_err-e : goal.returns-in_err-e
returns-in_err-e c =
    rw c.from_residual-in_err-e.ensures (list_broken c.args.head.now c.args.s.now c.args.from c.in_ok-a.ensures c.in_err-e.ensures)

pub returns : goal.returns
returns c = list_read c.args.head.now c.args.s.now c.args.from c.in_ok-a.ensures c.in_ok-e.ensures
