-- `book_lookup::entries::entries_of` meets its contract. Assumes nothing.
use Rattle.book_tables.specs.View.{word_at}
use mathlib.Core.Path.{ap}
use Prim.Native.Nat.{◌+◌}
use Rattle.book_lookup.proofs.entries.entries_of.Goals as goal

pub returns : goal.returns
returns c =
    let a = c.args in
    ap (λ t. word_at a.words.now (t.entries + a.number)) c.tables-tables.ensures.is
