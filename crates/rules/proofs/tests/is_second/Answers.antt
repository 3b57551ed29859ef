-- `rules::tests::is_second` meets its contract. Assumes nothing.
use native.Mathlib.Omega.{arith}
use Rattle.model.specs.Answers.{name_at}
use Rattle.rules_tables.specs.Layout.{names}
use Rattle.book_tables.proofs.NameLaws.{place_mem, place_out}
use Rattle.rules.proofs.tests.is_second.Goals as goal

pub returns-then-find_name-count : goal.returns-then-find_name-count
returns-then-find_name-count c =
    let a = c.args in
    let found = rw c.part_of-name_bytes.ensures at c.find_name.ensures in
    λ x y ex ey. rw (place_mem a.text.now a.words.now names a.count (name_at a.s.now a.name) (omega (arith, found, c.if-find_name-count.true)))

pub returns-then-has_twice : goal.returns-then-has_twice
returns-then-has_twice c =
    let a = c.args in
    let found = rw c.part_of-name_bytes.ensures at c.find_name.ensures in
    λ x y ex ey. rw (
      place_out a.text.now a.words.now names a.count (name_at a.s.now a.name) (omega (arith, found, c.if-find_name-count.false)),
      ← c.has_twice.ensures x ex,
      c.if-has_twice.true,
    )

pub returns : goal.returns
returns c =
    let a = c.args in
    let found = rw c.part_of-name_bytes.ensures at c.find_name.ensures in
    λ x y ex ey. rw (
      place_out a.text.now a.words.now names a.count (name_at a.s.now a.name) (omega (arith, found, c.if-find_name-count.false)),
      ← c.has_twice.ensures x ex,
      c.if-has_twice.false,
    ) (c.has_twice-2.ensures y ey)
