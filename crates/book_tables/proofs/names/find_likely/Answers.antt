-- `book_tables::names::find_likely` meets its contract: among names of which no two are the same, one that is the name is at its place. Assumes nothing.
use Rattle.book_tables.proofs.NameLaws.{found_only}
use Rattle.book_tables.specs.View.{name_of}
use native.Mathlib.Omega.{arith}
use mathlib.Core.Path.{sym, ◌∙◌}
use Rattle.book_tables.proofs.names.find_likely.Goals as goal

pub is_named-requires : goal.is_named-requires
is_named-requires c = (omega (arith, c.requires.1), c.requires.0.inside c.args.likely c.if-likely-count.true)

pub returns-then-is_named : goal.returns-then-is_named
unfolding name_of
returns-then-is_named c =
    let a = c.args in found_only a.name.now a.text.now a.words.now a.offset a.count c.requires.0 a.likely c.if-likely-count.true
    (sym c.is_named.ensures ∙ c.if-is_named.true)
