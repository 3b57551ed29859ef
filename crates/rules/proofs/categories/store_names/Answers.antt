-- `rules::categories::store_names` meets its contract. Assumes nothing.
use Prim.Native.Nat.{◌+◌, ◌≤◌}
use mathlib.Core.List.{[]}
use mathlib.Core.Path.{◌≡◌, refl, sym, ◌∙◌}
use native.Mathlib.Omega.{arith}
use lib.ListN.{length, length-set}
use Rattle.rules.proofs.StoreLaws.{stored_none, storing_next, storing_done, storing_room}
use Rattle.name_lists.proofs.Behind.{names_over}
use Rattle.item_forms.proofs.PlacedLaws.{placed_at}
use Rattle.rules.proofs.categories.store_names.Goals as goal

pub loop-i-init : goal.loop-i-init
loop-i-init c =
    let a = c.args in (
      refl,
      omega arith,
      λ x e. record {
        done = [];
        rest = x;
        here = e;
        split = refl;
        count = refl;
        stored = stored_none a.words.now a.at a.s.now a.base;
      },
    )

pub shape_of-words-in_default : goal.shape_of-words-in_default
shape_of-words-in_default c =
    c.loop-i.invariant.0

pub returns-in_default : goal.returns-in_default
returns-in_default c =
    let a = c.args in
    λ x e. storing_done a.words.now c.loop-i.words a.at a.s.now a.base c.loop-i.i c.loop-i.n
    x.names (c.loop-i.invariant.2 x e) (sym c.in_default.is ∙ c.next_name.ensures.is)

pub overflow_add-at : goal.overflow_add-at
overflow_add-at c = omega (arith, (let a = c.args in let r = c.requires.0 in storing_room a.words.now c.loop-i.words a.at a.s.now a.base c.loop-i.i c.loop-i.n r.read.names (c.loop-i.invariant.2 r.read r.is) r.room (sym c.in-Some.is ∙ c.next_name.ensures.is)))

pub overflow_add-base : goal.overflow_add-base
overflow_add-base c =
    let h = placed_at _ _ _ c.in-Some.is c.next_name.ensures.placed in
    omega (arith, h.inside, c.requires.1)

pub store_name-requires : goal.store_name-requires
store_name-requires c =
    let h = placed_at _ _ _ c.in-Some.is c.next_name.ensures.placed in
    (omega (arith, (let a = c.args in let r = c.requires.0 in storing_room a.words.now c.loop-i.words a.at a.s.now a.base c.loop-i.i c.loop-i.n r.read.names (c.loop-i.invariant.2 r.read r.is) r.room (sym c.in-Some.is ∙ c.next_name.ensures.is)), c.loop-i.invariant.0), omega (arith, h.inside, c.requires.1), omega (arith, h.short))

pub overflow_add-n : goal.overflow_add-n
overflow_add-n c =
    omega (arith, c.loop-i.invariant.1)

pub overflow_add-i : goal.overflow_add-i
overflow_add-i c =
    let h = placed_at _ _ _ c.in-Some.is c.next_name.ensures.placed in
    omega (arith, h.inside, c.requires.1)

pub loop-i-smaller : goal.loop-i-smaller
loop-i-smaller c =
    let h = placed_at _ _ _ c.in-Some.is c.next_name.ensures.placed in
    omega (arith, h.after, h.some)

pub loop-i-preserved : goal.loop-i-preserved
loop-i-preserved c =
    let a = c.args in
    let h = placed_at _ _ _ c.in-Some.is c.next_name.ensures.placed in
    let r = c.requires.0 in (
      rw c.store_name.ensures (simp length-set c.loop-i.invariant.0),
      omega (arith, h.after, h.some, c.loop-i.invariant.1),
      λ x e. let ri = r.is in let d : x ≡ r.read = cc in let room : a.at + length x.names ≤ length a.words.now = rw d r.room in
          rw c.store_name.ensures
          (storing_next a.words.now c.loop-i.words a.at a.s.now a.base c.loop-i.i c.loop-i.n x.names
          (c.loop-i.invariant.2 x e) (sym c.in-Some.is ∙ c.next_name.ensures.is) h room),
    )

pub shape_of-words : goal.shape_of-words
shape_of-words c = c.loop-i.invariant.0

pub returns : goal.returns
returns c =
    let a = c.args in
    λ x e. let g = c.loop-i.invariant.2 x e in absurd (names_over a.s.now c.loop-i.i g.rest c.loop-i-test.false g.here)
