-- `book_lookup::names::node_name` meets its contract. Assumes nothing.
use Prim.Native.Nat.{◌+◌}
use mathlib.Core.Path.{sym, ◌∙◌}
use native.Mathlib.Omega.{arith}
use Rattle.book_tables.proofs.NameLaws.{name_slice}
use Rattle.book_tables.specs.Layout.{node_names}
use Rattle.book_lookup.proofs.FoundLaws.{node_named}
use Rattle.book_lookup.proofs.names.node_name.Goals as goal

pub overflow_cast-word : goal.overflow_cast-word
overflow_cast-word c = omega (arith, c.type_inv.words (node_names + c.args.node))

pub overflow_add-end : goal.overflow_add-end
overflow_add-end c = omega (arith, c.type_inv.words (node_names + c.args.node))

pub slice_bounds-result-end : goal.slice_bounds-result-end
slice_bounds-result-end c = omega (arith, c.requires.fits.nodes.inside c.args.node c.requires.counted)

pub returns : goal.returns
returns c = let a = c.args in
    λ counts l. name_slice a.book.now a.words.now node_names a.node ∙ sym (node_named a.book.now a.words.now counts a.node l)
