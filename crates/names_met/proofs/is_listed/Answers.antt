-- `names_met::is_listed` meets its contract. The loop's invariant: no name that the walk has passed is this one. Assumes nothing.
use Rattle.names_met.proofs.TableLaws.{names_first, names_fall, names_inside, names_next, name_found, names_over}
use Rattle.chains.proofs.SlotLaws.{slot_small}
use Rattle.chains.proofs.WalkLaws.{begins_falling, begins_on, still_falling, stands_behind, still_on}
use Rattle.book_tables.specs.View.{word_at}
use Rattle.book_tables.proofs.NameLaws.{name_slice}
use Rattle.model.specs.Bytes.{same}
use Prim.Native.Nat.{◌+◌}
use mathlib.Core.Path.{ap, ◌∙◌}
use native.Mathlib.Omega.{arith}
use Rattle.names_met.proofs.is_listed.Goals as goal

pub words_from-words-requires : goal.words_from-words-requires
words_from-words-requires c = omega (arith, c.requires.room)

pub numbers-k-items-requires : goal.numbers-k-items-requires
numbers-k-items-requires c =
    let a = c.args in (
      omega (arith, c.requires.room, c.slot.ensures, slot_small a.name.now),
      names_fall a.s.now a.table.now a.n c.requires a.name.now _ c.slot.ensures,
    )

pub loop-k-init : goal.loop-k-init
loop-k-init c =
    let a = c.args in
    let o = c.numbers-k-items.ensures in
    rw c.into_iter-k-iterator.ensures.into_iter_gives (
      begins_falling _ _ _ _ o (names_fall a.s.now a.table.now a.n c.requires a.name.now _ c.slot.ensures),
      tt,
      begins_on _ _ _ _ o,
      names_first a.s.now a.table.now a.n c.requires a.name.now _ _ c.slot.ensures o.stands,
    )

pub overflow_add-word : goal.overflow_add-word
overflow_add-word c =
    let i = names_inside c.args.s.now c.args.table.now c.args.n c.requires c.args.name.now c.in-Some.k (rw c.in-Some.ensures.steps.0 at c.loop-k.invariant.3) in
    omega (arith, c.requires.room, c.words_from-words.ensures)

pub offset_bounds-table-words : goal.offset_bounds-table-words
offset_bounds-table-words c =
    let i = names_inside c.args.s.now c.args.table.now c.args.n c.requires c.args.name.now c.in-Some.k (rw c.in-Some.ensures.steps.0 at c.loop-k.invariant.3) in
    omega (arith, c.requires.room, c.words_from-words.ensures)

pub bounds-table-words : goal.bounds-table-words
bounds-table-words c =
    let i = names_inside c.args.s.now c.args.table.now c.args.n c.requires c.args.name.now c.in-Some.k (rw c.in-Some.ensures.steps.0 at c.loop-k.invariant.3) in
    omega (arith, c.requires.room, c.words_from-words.ensures)

pub overflow_cast-word : goal.overflow_cast-word
overflow_cast-word c = omega (arith, c.type_inv.table (c.words_from-words.result + c.in-Some.k))

pub overflow_add-end : goal.overflow_add-end
overflow_add-end c = omega (arith, c.type_inv.table (c.words_from-words.result + c.in-Some.k))

pub slice_bounds-same_bytes-end : goal.slice_bounds-same_bytes-end
slice_bounds-same_bytes-end c =
    let i = names_inside c.args.s.now c.args.table.now c.args.n c.requires c.args.name.now c.in-Some.k (rw c.in-Some.ensures.steps.0 at c.loop-k.invariant.3) in
    omega (arith, c.requires.inside c.in-Some.k i, ap (λ p. word_at c.args.table.now (p + c.in-Some.k)) c.words_from-words.ensures)

pub returns-then-same_bytes : goal.returns-then-same_bytes
returns-then-same_bytes c =
    let a = c.args in
    name_found a.s.now a.table.now a.n c.requires a.name.now c.in-Some.k (rw c.in-Some.ensures.steps.0 at c.loop-k.invariant.3) _
    c.words_from-words.ensures _
    (c.same_bytes.ensures ∙ ap (same a.name.now) (name_slice a.s.now a.table.now c.words_from-words.result c.in-Some.k))
    c.if-same_bytes.true

pub loop-k-preserved : goal.loop-k-preserved
loop-k-preserved c =
    let a = c.args in
    let s = c.in-Some.ensures.steps in
    let l = c.loop-k in (
      still_falling a.table.now 256 c.in-Some.k l.k-iterator c.next.new.self s l.invariant.0,
      tt,
      still_on a.table.now 256 c.in-Some.k l.k-iterator c.next.new.self s l.invariant.2,
      names_next a.s.now a.table.now a.n c.requires a.name.now c.in-Some.k (rw s.0 at l.invariant.3) _
          c.words_from-words.ensures _
          (c.same_bytes.ensures ∙ ap (same a.name.now) (name_slice a.s.now a.table.now c.words_from-words.result c.in-Some.k))
          c.if-same_bytes.false _ (stands_behind a.table.now 256 c.in-Some.k l.k-iterator c.next.new.self s l.invariant.2),
    )

pub returns : goal.returns
returns c =
    names_over c.args.s.now c.args.table.now c.args.n c.requires c.args.name.now c.loop-k.k-iterator.entry
    c.in-None.ensures.steps.0 c.loop-k.invariant.3
