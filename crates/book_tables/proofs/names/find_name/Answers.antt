-- `book_tables::names::find_name` meets its contract. The loop's invariant: no name before i is the name. Assumes nothing.
use Rattle.book_tables.proofs.NameLaws.{found_name, found_none}
use Rattle.book_tables.proofs.ListedLaws.{scan_none, scan_on}
use Rattle.book_tables.specs.View.{name_of}
use Rattle.model.specs.Bytes.{same}
use native.Mathlib.Omega.{arith}
use mathlib.Core.Path.{sym, ◌∙◌}
use Rattle.book_tables.proofs.names.find_name.Goals as goal

pub loop-i-init : goal.loop-i-init
loop-i-init c = let a = c.args in (omega arith, scan_none (same a.name.now) (name_of a.text.now a.words.now a.offset))

pub is_named-requires : goal.is_named-requires
is_named-requires c = (omega arith, c.requires.0.inside c.loop-i.i (omega arith))

pub returns-then-is_named : goal.returns-then-is_named
unfolding name_of
returns-then-is_named c =
    let a = c.args in found_name a.name.now a.text.now a.words.now a.offset a.count c.loop-i.i
    c.loop-i-test.true c.loop-i.invariant.1 (sym c.is_named.ensures ∙ c.if-is_named.true)

pub loop-i-preserved : goal.loop-i-preserved
unfolding name_of
loop-i-preserved c =
    let a = c.args in (
      omega arith,
      scan_on (same a.name.now) (name_of a.text.now a.words.now a.offset)
          c.loop-i.i c.loop-i.invariant.1 (sym c.is_named.ensures ∙ c.if-is_named.false),
    )

pub returns : goal.returns
returns c =
    let a = c.args in found_none a.name.now a.text.now a.words.now a.offset a.count c.loop-i.i (omega arith)
    c.loop-i.invariant.1
