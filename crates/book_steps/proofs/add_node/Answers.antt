use native.Mathlib.Omega.{arith}
use mathlib.Core.Path.{sym, ◌∙◌}
use Rattle.book_steps.proofs.OwnerLaws.{node_refused, node_fine, owner_room}
use Rattle.book_steps.proofs.add_node.Goals as goal

pub returns-in-Some : goal.returns-in-Some
returns-in-Some c =
    λ es after.
    let a = c.args in
    node_refused a.text.now a.words.now a.counts c.requires.1 a.read es a.rule a.name c.requires.0 after _
    (rw c.part_of.ensures at c.find_alike.ensures) _
    (sym c.in-Some.is ∙ rw c.is_full-full.ensures at c.owner_fault.ensures)

pub store_owner-requires : goal.store_owner-requires
store_owner-requires c =
    let r = owner_room _ _ _ c.args.counts.nodes 256 _ (sym c.owner_fault.ensures ∙ c.in_default.is)
    c.is_full-full.ensures in
    (c.requires.1.room, c.requires.1.within, omega (arith, r.0), c.slot_of-slot.ensures.1, r.1)

pub returns : goal.returns
returns c =
    λ es after.
    let a = c.args in
    let fault = rw c.is_full-full.ensures at c.owner_fault.ensures in
    rw (
      c.store_owner.ensures.stored,
      c.store_owner.ensures.counted,
      c.slot_of-slot.ensures.0,
      c.name_word-word.ensures,
    )
    (node_fine a.text.now a.words.now a.counts c.requires.1 a.read es a.rule a.name c.requires.0 after _
    (rw c.part_of.ensures at c.find_alike.ensures) (sym fault ∙ c.in_default.is))
