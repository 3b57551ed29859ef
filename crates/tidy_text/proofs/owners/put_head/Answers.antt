-- `put_head` meets its contract, by what the owner is. Assumes nothing.
use Prim.Native.Nat.{◌+◌}
use mathlib.Core.Path.{sym, ap, subst}
use native.Mathlib.Omega.{arith}
use Rattle.book_tables.specs.Layout.{relationships}
use Rattle.putting.proofs.PuttingLaws.{puts_then, puts_same}
use Rattle.tidy_text.specs.Pieces.{head_piece}
use Rattle.tidy_text.specs.Inside.{HeadInside}
use Rattle.tidy_text.proofs.owners.put_head.Goals as goal

pub put_declared-requires : goal.put_declared-requires
put_declared-requires c =
    subst (λ o. HeadInside c.args.book.now c.args.words.now o c.args.number) c.in-Node.is c.requires

pub overflow_add-word : goal.overflow_add-word
overflow_add-word c = let f = subst (λ o. HeadInside c.args.book.now c.args.words.now o c.args.number) c.in-Relationship.is c.requires in omega (arith, f.0)

pub offset_bounds-words-number : goal.offset_bounds-words-number
offset_bounds-words-number c = let f = subst (λ o. HeadInside c.args.book.now c.args.words.now o c.args.number) c.in-Relationship.is c.requires in omega (arith, f.0)

pub bounds-words-number : goal.bounds-words-number
bounds-words-number c = let f = subst (λ o. HeadInside c.args.book.now c.args.words.now o c.args.number) c.in-Relationship.is c.requires in omega (arith, f.0)

pub overflow_cast-word : goal.overflow_cast-word
overflow_cast-word c = omega (arith, c.type_inv.words (relationships + c.args.number))

pub put_relationship-requires : goal.put_relationship-requires
put_relationship-requires c = (subst (λ o. HeadInside c.args.book.now c.args.words.now o c.args.number) c.in-Relationship.is c.requires).1

pub returns-in-Node : goal.returns-in-Node
unfolding head_piece
returns-in-Node c =
    let a = c.args in
    puts_same (sym (ap (λ o. head_piece a.book.now a.words.now o a.number) c.in-Node.is))
    (puts_then c.put_bytes-at.ensures c.put_declared.ensures)

pub returns-in-Relationship : goal.returns-in-Relationship
unfolding head_piece
returns-in-Relationship c =
    let a = c.args in
    puts_same (sym (ap (λ o. head_piece a.book.now a.words.now o a.number) c.in-Relationship.is))
    c.put_relationship.ensures
