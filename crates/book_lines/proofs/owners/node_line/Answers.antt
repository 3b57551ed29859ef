-- `book_lines::owners::node_line` meets its contract.
use Rattle.book_lines.proofs.LineSteps.{node_broken, node_spoilt, node_step, entries_got}
use Rattle.book_lines.proofs.PieceLaws.{moved_asked}
use Rattle.item_forms.proofs.PlacedLaws.{placed_at}
use Rattle.book_tables.proofs.AgreeLaws.{fits_kept}
use native.Mathlib.Omega.{arith}
use Rattle.book_lines.proofs.owners.node_line.Goals as goal

pub overflow_add-name : goal.overflow_add-name
overflow_add-name c =
    let a = c.args in
    omega (arith, c.well_formed, (placed_at a.line.now a.from _ c.in-Some.is c.next_name.ensures.placed).inside)

pub read_entries-requires : goal.read_entries-requires
read_entries-requires c =
    let a = c.args in
    (c.requires, (placed_at a.line.now a.from _ c.in-Some.is c.next_name.ensures.placed).inside)

pub moved-requires : goal.moved-requires
moved-requires c =
    let a = c.args in
    let h = placed_at a.line.now a.from _ c.in-Some.is c.next_name.ensures.placed in
    omega (arith, c.requires.inside, c.requires.limit, h.inside)

pub add_node-requires : goal.add_node-requires
add_node-requires c =
    let a = c.args in
    let h = placed_at a.line.now a.from _ c.in-Some.is c.next_name.ensures.placed in (
      rw c.moved.ensures (moved_asked a.text.now a.line.now a.words.now a.counts a.base a.from _ c.requires h),
      fits_kept a.text.now a.words.now _ a.counts c.read_entries.ensures.agrees c.requires.fits,
      (entries_got a.text.now a.line.now a.words.now _ a.counts _ _ _ _ _ c.read_entries.ensures c.in-Some-read_entries.is).few,
    )

pub returns : goal.returns
returns c =
    let a = c.args in
    let got = entries_got a.text.now a.line.now a.words.now _ a.counts _ _ _ _ _ c.read_entries.ensures
    c.in-Some-read_entries.is in
    rw (
      node_step a.rule _ a.text.now a.line.now a.words.now a.counts a.base a.from c.requires _ c.next_name.ensures _
          c.in-Some.is _ _ _ _ c.read_entries.ensures _ c.in-Some-read_entries.is got,
      ← c.moved.ensures,
    ) (c.add_node.ensures got.got got.after)

pub returns-in_default-read_entries : goal.returns-in_default-read_entries
returns-in_default-read_entries c =
    let a = c.args in
    node_spoilt a.rule _ a.text.now a.line.now a.words.now a.counts a.base a.from c.requires _ c.next_name.ensures _
    c.in-Some.is _ _ _ _ c.read_entries.ensures c.in_default-read_entries.is

pub returns-in_default : goal.returns-in_default
returns-in_default c =
    let a = c.args in
    node_broken a.rule _ a.text.now a.line.now a.words.now a.counts a.base a.from c.requires _
    c.next_name.ensures
    c.in_default.is
