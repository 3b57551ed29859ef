-- `tidy_size::declarations::attr_size` meets its contract. Assumes nothing.
use Prim.Native.Nat.{◌+◌}
use native.Mathlib.Omega.{arith}
use Rattle.book_tables.specs.Layout.{types_behind}
use Rattle.book_tables.specs.View.{word_at, kind_in}
use Rattle.tidy_size.proofs.DeclarationLaws.{type_small, attr_line_law}
use Rattle.tidy_size.proofs.declarations.attr_size.Goals as goal

pub overflow_add-result-2 : goal.overflow_add-result-2
overflow_add-result-2 c =
    let a = c.args in
    omega (arith, c.type_size.ensures, type_small (kind_in (word_at a.words.now (a.offset + types_behind + a.i))))

pub returns : goal.returns
returns c =
    let a = c.args in
    attr_line_law a.words.now a.offset a.i _ _ c.name_size.ensures c.type_size.ensures
