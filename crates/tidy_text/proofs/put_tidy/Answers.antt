-- `put_tidy` meets its contract. Assumes nothing.
use Rattle.book_tables.specs.declared.Owner.TheVariants.{Node, Relationship}
use Rattle.putting.proofs.PuttingLaws.{puts_then, puts_same}
use Rattle.tidy_text.specs.Pieces.{book_text}
use Rattle.tidy_text.proofs.InsideLaws.{attrs_inside, labels_inside}
use Rattle.tidy_text.proofs.ModelLaws.{book_text_law}
use Rattle.tidy_text.proofs.put_tidy.Goals as goal

pub put_attrs-at-requires : goal.put_attrs-at-requires
put_attrs-at-requires c = attrs_inside c.requires Node

pub put_attrs-at-requires-2 : goal.put_attrs-at-requires-2
put_attrs-at-requires-2 c = attrs_inside c.requires Relationship

pub put_labels-at-requires : goal.put_labels-at-requires
put_labels-at-requires c =
    labels_inside c.requires

pub returns : goal.returns
unfolding book_text
returns c =
    let a = c.args in
    puts_same (book_text_law a.book.now a.words.now a.counts c.requires)
    (puts_then (puts_then (puts_then (puts_then c.put_attrs-at.ensures c.put_attrs-at-2.ensures)
    c.put_labels-at.ensures) c.put_owners-at.ensures) c.put_owners.ensures)
