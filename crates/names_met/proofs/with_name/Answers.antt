-- `names_met::with_name` meets its contract. Assumes nothing.
use Rattle.names_met.proofs.TableLaws.{holds_full, holds_added}
use Rattle.chains.proofs.SlotLaws.{slot_small}
use Prim.Native.Nat.{◌+◌, ◌-◌}
use mathlib.Core.Path.{◌∙◌}
use native.Mathlib.Omega.{arith}
use lib.ListN.{length-set, take, drop}
use Rattle.names_met.proofs.with_name.Goals as goal

pub returns-then-n-ge-MAX_MET : goal.returns-then-n-ge-MAX_MET
returns-then-n-ge-MAX_MET c = λ names h. holds_full _ c.args.table.now _

pub returns-then-size-n : goal.returns-then-size-n
returns-then-size-n c = λ names h. holds_full _ c.args.table.now _

pub returns-then-start-ge-MAX_START : goal.returns-then-start-ge-MAX_START
returns-then-start-ge-MAX_START c = λ names h. holds_full _ c.args.table.now _

pub returns-then-length-ge-NAME_LENGTHS : goal.returns-then-length-ge-NAME_LENGTHS
returns-then-length-ge-NAME_LENGTHS c = λ names h. holds_full _ c.args.table.now _

pub returns-then-s-end : goal.returns-then-s-end
returns-then-s-end c = λ names h. holds_full _ c.args.table.now _

pub add-requires : goal.add-requires
add-requires c =
    let a = c.args in
    simp length-set (omega (
      arith,
      c.slot-slot.ensures,
      slot_small
          (take (a.name.start + a.name.length - a.name.start) (drop a.name.start a.s.now)),
    ))

pub shape_of-table : goal.shape_of-table
shape_of-table c = c.table-1.given ∙ simp length-set

pub returns : goal.returns
returns c =
    let a = c.args in
    holds_added a.s.now a.table.now a.n a.name (omega arith) (omega arith) (omega arith) _ _ _ c.words_from.ensures
    c.slot-slot.ensures c.add.ensures
