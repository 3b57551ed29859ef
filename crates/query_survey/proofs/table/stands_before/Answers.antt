-- `query_survey::table::stands_before` meets its contract. Assumes nothing.
use mathlib.Core.Path.{ap, ap₂, ◌∙◌}
use lib.ListN.{take}
use Rattle.query_pieces.specs.declared.Place.{Place}
use Rattle.query_survey.specs.Names.{names_in, found_at}
use Rattle.model.specs.Names.{mem}
use Rattle.model.specs.Answers.{name_at}
use Rattle.query_survey.proofs.table.stands_before.Goals as goal

pub is_listed-requires : goal.is_listed-requires
is_listed-requires c = (c.requires.0.lists c.if-n-table.true).has

pub returns-then-n-table : goal.returns-then-n-table
unfolding name_at
returns-then-n-table c =
    c.is_listed.ensures ∙ ap₂ mem c.part_of.ensures (c.requires.0.lists c.if-n-table.true).are

pub returns : goal.returns
returns c =
    c.stands.ensures ∙ ap (λ (p : Place). mem (name_at c.args.s.now c.args.name)
    (names_in c.args.which (take c.args.i (found_at c.args.s.now p)))) c.text_start.ensures
