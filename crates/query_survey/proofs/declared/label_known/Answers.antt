use Rattle.query_survey.proofs.DeclaredLaws.{label_place}
use Rattle.book_tables.specs.View.{book_at}
use Rattle.model.specs.Answers.{name_at}
use Rattle.model.specs.Names.{place}
use mathlib.Core.Path.{ap, ◌∙◌}
use Rattle.query_survey.proofs.declared.label_known.Goals as goal

pub returns : goal.returns
unfolding name_at
returns c =
    label_place c.args.book.now c.args.words.now c.args.counts (name_at c.args.s.now c.args.name)
    c.find_label-k.result (c.find_label-k.ensures
    ∙ ap (λ w. place w (book_at c.args.book.now c.args.words.now c.args.counts).labels) c.part_of.ensures)
