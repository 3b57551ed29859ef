-- All bytes of the names. The loop's invariant: what is put so far is each place's byte. The measure is what is left of them.
use Prim.Native.Nat.{ℕ, ◌-◌}
use lib.ListN.{length-replicate}
use native.Mathlib.Omega.{arith}
use Rattle.node_names.specs.Names.{name_bytes}
use Rattle.book_tables.proofs.PutLaws.{put_start, put_step, put_end}
use Rattle.node_names.proofs.bytes_of.Goals as goal

pub loop-k-init : goal.loop-k-init
loop-k-init c = put_start _ _ _ (length-replicate {A = ℕ} 6400 0)

pub loop-k-preserved : goal.loop-k-preserved
loop-k-preserved c = put_step _ _ _ _ _ c.loop-k-test.true c.loop-k.invariant c.byte_of.ensures

pub returns : goal.returns
unfolding name_bytes
returns c = put_end _ _ _ _ c.loop-k-test.false c.loop-k.invariant
