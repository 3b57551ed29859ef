use Rattle.book_lines.proofs.LineLaws.{step_broken, opens_at, opens_none}
use Rattle.book_lines.proofs.forms.read_line.Goals as goal

pub returns-in-Some : goal.returns-in-Some
returns-in-Some c =
    rw (opens_at c.args.line.now _ _ c.open_form.ensures c.in-Some.is) c.read_head.ensures

pub returns-in-None : goal.returns-in-None
returns-in-None c =
    step_broken _ _ _ (opens_none c.args.line.now _ c.open_form.ensures c.in-None.is)
