-- `enforce::policies::weave_policies` meets its contract. The loop's invariant: the texts of the categories below are woven. Assumes nothing.
use Prim.Native.Nat.{◌≤◌}
use mathlib.Core.Path.{◌≡◌}
use lib.ListN.{length}
use Rattle.book_tables.specs.View.{book_at}
use Rattle.enforce.specs.Texts.{texts_below}
use Rattle.enforce.specs.Ready.{Held}
use Rattle.enforce.proofs.policies.weave_policies.Given as goal

abbrev pub invariant-loop-lower : goal.invariant-loop-lower
invariant-loop-lower l =
    (l.lower ≤ l.categories) × Held (book_at l.book l.words l.counts) l.counts l.query l.rules l.rules_words l.rules_counts l.category l.lower l.woven l.shape
    × (l.texts ≡ length (texts_below l.query l.rules l.rules_words l.rules_counts l.category l.lower)) × (length l.woven ≡ length l.initial.woven)
