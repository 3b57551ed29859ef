-- `find_identity` meets its contract. The loop's invariant: none of the first i identities is the vertex's. Assumes nothing.
use Rattle.weave.specs.Identities.{no_identity}
use Rattle.woven_tables.specs.Tables.{vertex_of_word}
use Rattle.model.specs.Answers.{identity_in}
use Rattle.model.specs.Weave.{identified_by}
use lib.ListN.{get_or}
use mathlib.Core.Bool.{false}
use mathlib.Core.Path.{◌≡◌}
use Prim.Native.Nat.{ℕ, ◌-◌, ◌<◌, ◌≤◌}
use borrow.Author.Rules.{rules}
use Rattle.weave.proofs.identities.find_identity.Given as goal

abbrev pub invariant-loop-i : goal.invariant-loop-i
invariant-loop-i l = (l.i ≤ l.count)
    × ((j : ℕ) → j < l.i → identified_by (vertex_of_word l.query l.rules l.word) (identity_in l.request (get_or l.identities j no_identity)) ≡ false)
