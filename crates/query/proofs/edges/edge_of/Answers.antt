-- `edge_of` meets its contract. Assumes nothing.
use mathlib.Core.Path.{ap, ◌∙◌}
use Rattle.model.specs.Names.{place}
use Rattle.model.specs.Answers.{name_at}
use Rattle.book_tables.specs.View.{book_at}
use Rattle.query.proofs.edges.edge_of.Goals.{then-points, else-points}
use Rattle.query.proofs.edges.edge_of.Goals as goal

pub returns : goal.returns
unfolding name_at
returns c =
    let a = c.args in
    let label = c.find_label-label.ensures
    ∙ ap (λ w. place w (book_at a.book.now a.words.now a.counts).labels) c.part_of.ensures in
    elim c.if-points.branch [
      | then-points w ↦ rw (w.from-is, w.if-points.true) (λ i. record { name = a.link.edge; label = label i; from = a.last; to = a.own })
      | else-points w ↦ rw (w.from-is, w.if-points.false) (λ i. record { name = a.link.edge; label = label i; from = a.own; to = a.last })
    ]
