-- `put_owners` meets its contract. The loop's invariant: the first i are put. Assumes nothing.
use Prim.Native.Nat.{◌-◌}
use mathlib.Core.Path.{◌≡◌, sym, ap, subst}
use native.Mathlib.Omega.{arith}
use Rattle.book_tables.specs.Owners.{tables_of}
use Rattle.putting.proofs.PuttingLaws.{puts_same, puts_keeps_length}
use Rattle.tidy_text.specs.Inside.{OwnerInside}
use Rattle.tidy_text.specs.Pieces.{owner_piece, owners_text}
use Rattle.tidy_text.proofs.TextLaws.{puts_none, puts_next}
use Rattle.tidy_text.proofs.InsideLaws.{owner_inside}
use Rattle.tidy_text.proofs.owners.put_owners.Goals as goal

pub loop-i-init : goal.loop-i-init
unfolding owners_text
loop-i-init c =
    let a = c.args in
    (omega arith, puts_none (owner_piece a.book.now a.words.now a.owner c.tables-tables.result) a.out.now a.at)

pub put_owner-next-requires : goal.put_owner-next-requires
put_owner-next-requires c =
    let a = c.args in
    let t = c.tables-tables in
    let i = c.loop-i.i in
    subst (λ t. OwnerInside a.book.now a.words.now a.owner t i) (sym t.ensures.is)
    (owner_inside c.requires a.owner i (omega (arith, t.ensures.count)))

pub loop-i-preserved : goal.loop-i-preserved
unfolding owners_text
loop-i-preserved c =
    let a = c.args in (
      omega arith,
      puts_next (owner_piece a.book.now a.words.now a.owner c.tables-tables.result) c.loop-i.i c.loop-i.invariant.1
          c.put_owner-next.ensures,
    )

pub shape_of-out : goal.shape_of-out
shape_of-out c = puts_keeps_length c.loop-i.invariant.1

pub returns : goal.returns
returns c =
    let a = c.args in
    let t = c.tables-tables in
    let all : c.loop-i.i ≡ (tables_of a.owner a.counts).count = omega (arith, t.ensures.count) in
    puts_same (ap (λ t. owners_text a.book.now a.words.now a.owner t (tables_of a.owner a.counts).count) t.ensures.is)
    (puts_same (ap (owners_text a.book.now a.words.now a.owner t.result) all) c.loop-i.invariant.1)
