-- All bytes of the names. The loop's invariant: what is put so far is each place's byte. The measure is what is left of them.
use Prim.Native.Nat.{◌-◌}
use Rattle.model.specs.Book.{node_names}
use Rattle.book_tables.specs.View.{book_at}
use Rattle.node_names.specs.Names.{name_byte}
use Rattle.book_tables.proofs.PutLaws.{PutSoFar}
use Rattle.node_names.proofs.bytes_of.Given as goal

abbrev pub invariant-loop-k : goal.invariant-loop-k
invariant-loop-k l = PutSoFar (name_byte (node_names (book_at l.book l.words l.counts))) 6400 l.bytes l.k
