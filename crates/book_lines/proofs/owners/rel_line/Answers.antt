use Rattle.book_lines.proofs.LineSteps.{rel_broken, names_got, rel_spoilt, rel_step, entries_got}
use Rattle.book_lines.proofs.PieceLaws.{moved_asked}
use Rattle.book_tables.proofs.AgreeLaws.{fits_kept}
use native.Mathlib.Omega.{arith}
use Rattle.book_lines.proofs.owners.rel_line.Goals as goal

pub read_entries-requires : goal.read_entries-requires
read_entries-requires c =
    let a = c.args in
    (c.requires, (names_got a.line.now a.from _ c.read_names.ensures _ c.in-Some.is).inside)

pub moved-requires : goal.moved-requires
moved-requires c =
    let a = c.args in
    omega (arith, c.requires.inside, c.requires.limit, names_got a.line.now a.from _ c.read_names.ensures _ c.in-Some.is)

pub moved-requires-2 : goal.moved-requires-2
moved-requires-2 c =
    let a = c.args in
    omega (arith, c.requires.inside, c.requires.limit, names_got a.line.now a.from _ c.read_names.ensures _ c.in-Some.is)

pub moved-requires-3 : goal.moved-requires-3
moved-requires-3 c =
    let a = c.args in
    omega (arith, c.requires.inside, c.requires.limit, names_got a.line.now a.from _ c.read_names.ensures _ c.in-Some.is)

pub add_relationship-requires : goal.add_relationship-requires
add_relationship-requires c =
    let a = c.args in
    let n = names_got a.line.now a.from _ c.read_names.ensures _ c.in-Some.is in
    let asked = moved_asked a.text.now a.line.now a.words.now a.counts a.base in (
      rw c.moved.ensures (asked _ _ c.requires n.label),
      rw c.moved-2.ensures (asked _ _ c.requires n.start),
      rw c.moved-3.ensures (asked _ _ c.requires n.end),
      fits_kept a.text.now a.words.now _ a.counts c.read_entries.ensures.agrees c.requires.fits,
      (entries_got a.text.now a.line.now a.words.now _ a.counts _ _ _ _ _ c.read_entries.ensures c.in-Some-read_entries.is).few,
    )

pub returns : goal.returns
returns c =
    λ rule.
    let a = c.args in
    let got = entries_got a.text.now a.line.now a.words.now _ a.counts _ _ _ _ _ c.read_entries.ensures
    c.in-Some-read_entries.is in
    rw (
      rel_step rule _ a.text.now a.line.now a.words.now a.counts a.base a.from c.requires _ c.read_names.ensures _ c.in-Some.is _ _ _ _ c.read_entries.ensures _ c.in-Some-read_entries.is got,
      ← c.moved.ensures,
      ←
          c.moved-2.ensures,
      ← c.moved-3.ensures,
    ) (c.add_relationship.ensures rule got.got got.after)

pub returns-in_default-read_entries : goal.returns-in_default-read_entries
returns-in_default-read_entries c =
    λ rule.
    let a = c.args in
    rel_spoilt rule _ a.text.now a.line.now a.words.now a.counts a.base a.from c.requires _ c.read_names.ensures _ c.in-Some.is _ _ _ _ c.read_entries.ensures c.in_default-read_entries.is

pub returns-in_default : goal.returns-in_default
returns-in_default c =
    λ rule.
    let a = c.args in
    rel_broken rule _ a.text.now a.line.now a.words.now a.counts a.base a.from c.requires _ c.read_names.ensures
    c.in_default.is
