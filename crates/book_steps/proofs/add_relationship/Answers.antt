use mathlib.Core.Path.{sym, ◌∙◌}
use native.Mathlib.Omega.{arith}
use Rattle.book_steps.proofs.OwnerLaws.{owner_room}
use Rattle.book_steps.proofs.RelLaws.{label_missing, from_missing, to_missing, rel_refused, rel_fine}
use Rattle.book_steps.proofs.add_relationship.Goals as goal

pub returns-then-counts-l : goal.returns-then-counts-l
returns-then-counts-l c =
    λ rule es after.
    let a = c.args in
    label_missing rule a.text.now a.words.now a.counts c.requires.3 a.read es _ _ _ _
    (rw c.part_of.ensures at c.find_label-l.ensures) c.if-counts-l.true

pub returns-then-counts-x : goal.returns-then-counts-x
returns-then-counts-x c =
    λ rule es after.
    let a = c.args in
    from_missing rule a.text.now a.words.now a.counts c.requires.3 a.read es _ _ _ _
    (rw c.part_of-2.ensures at c.find_node-x.ensures) c.if-counts-x.true

pub returns-then-counts-y : goal.returns-then-counts-y
returns-then-counts-y c =
    λ rule es after.
    let a = c.args in
    to_missing rule a.text.now a.words.now a.counts c.requires.3 a.read es _ _ _ _
    (rw c.part_of-3.ensures at c.find_node-y.ensures) c.if-counts-y.true

pub is_related-there-requires : goal.is_related-there-requires
is_related-there-requires c =
    (c.requires.3, c.if-counts-l.false, c.if-counts-x.false, c.if-counts-y.false)

pub is_full-full-requires : goal.is_full-full-requires
is_full-full-requires c =
    (c.requires.3.within.entries, c.requires.4)

pub returns-in-Some : goal.returns-in-Some
returns-in-Some c =
    λ rule es after.
    let a = c.args in
    let l = rw c.part_of.ensures at c.find_label-l.ensures in
    let x = rw c.part_of-2.ensures at c.find_node-x.ensures in
    let y = rw c.part_of-3.ensures at c.find_node-y.ensures in
    rel_refused rule a.text.now a.words.now a.counts c.requires.3 a.read es _ _ _ _ _ _ l x y c.if-counts-l.false c.if-counts-x.false
    c.if-counts-y.false after _ c.is_related-there.ensures _
    (sym c.in-Some.is ∙ rw c.is_full-full.ensures at c.owner_fault.ensures)

pub overflow_mul-word : goal.overflow_mul-word
overflow_mul-word c =
    omega (arith, c.if-counts-l.false, c.requires.3.within)

pub overflow_mul-word-2 : goal.overflow_mul-word-2
overflow_mul-word-2 c =
    omega (arith, c.if-counts-x.false, c.requires.3.within)

pub overflow_add-word : goal.overflow_add-word
overflow_add-word c =
    omega (arith, c.if-counts-l.false, c.if-counts-x.false, c.requires.3.within)

pub overflow_add-word-2 : goal.overflow_add-word-2
overflow_add-word-2 c =
    omega (arith, c.if-counts-l.false, c.if-counts-x.false, c.if-counts-y.false, c.requires.3.within)

pub overflow_cast-word : goal.overflow_cast-word
overflow_cast-word c =
    omega (arith, c.if-counts-l.false, c.if-counts-x.false, c.if-counts-y.false, c.requires.3.within)

pub store_owner-requires : goal.store_owner-requires
store_owner-requires c =
    let r = owner_room _ _ _ _ _ _ (sym c.owner_fault.ensures ∙ c.in_default.is) c.is_full-full.ensures in
    (c.requires.3.room, c.requires.3.within, r.0, omega (arith, c.if-counts-x.false, c.requires.3.within), r.1)

pub returns : goal.returns
returns c =
    λ rule es after.
    let a = c.args in
    let l = rw c.part_of.ensures at c.find_label-l.ensures in
    let x = rw c.part_of-2.ensures at c.find_node-x.ensures in
    let y = rw c.part_of-3.ensures at c.find_node-y.ensures in
    let fault = rw c.is_full-full.ensures at c.owner_fault.ensures in
    rw (c.store_owner.ensures.stored, c.store_owner.ensures.counted)
    (rel_fine rule a.text.now a.words.now a.counts c.requires.3 a.read es _ _ _ _ _ _ l x y c.if-counts-l.false c.if-counts-x.false
    c.if-counts-y.false after _ c.is_related-there.ensures (sym fault ∙ c.in_default.is))
