-- `book_lookup::values::kind_of` meets its contract. Assumes nothing.
use Prim.Native.Nat.{ℕ, ◌%◌}
use mathlib.Core.Path.{ap, ◌∙◌}
use native.Mathlib.Omega.{arith}
use Rattle.book_tables.specs.View.{word_at}
use Rattle.book_lookup.proofs.values.kind_of.Goals as goal

pub returns : goal.returns
returns c = ap (λ (w : ℕ). w % 4) (c.word_of.ensures ∙ ap (word_at c.args.words.now) (omega arith))
