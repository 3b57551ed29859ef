-- `book_tables::stores::clear_chains` meets its contract. Assumes nothing.
use Rattle.chains.specs.Chains.{cleared}
use Rattle.book_tables.specs.Layout.{from_heads, keys}
use Rattle.book_tables.specs.Stores.{without_chains}
use Prim.Native.Nat.{ℕ}
use mathlib.Core.List.{List}
use mathlib.Core.Path.{ap, ◌∙◌}
use Rattle.book_tables.proofs.stores.clear_chains.Goals as goal

pub returns : goal.returns
unfolding without_chains
returns c =
    c.clear-2.ensures ∙ ap (λ (w : List ℕ). cleared w from_heads keys) c.clear.ensures
