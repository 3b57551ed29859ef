-- `book_lines::owners::read_entries` meets its contract.
use Rattle.book_lines.specs.Entries.{shift}
use Rattle.book_lines.proofs.EntryForms.{entry_stands, reading_starts, reading_on, reading_ends, reading_spoilt, reading_broken}
use Rattle.book_lines.proofs.PieceLaws.{ends_moved}
use Rattle.book_tables.proofs.ValueLaws.{ends_later}
use Rattle.book_tables.proofs.AgreeLaws.{fits_kept}
use Rattle.book_tables.proofs.OwnerLaws.{attr_table}
use Rattle.std.specs.Prelude.{Some}
use mathlib.Core.Path.{ap, ◌∙◌}
use native.Mathlib.Omega.{arith}
use Rattle.book_lines.proofs.owners.read_entries.Goals as goal

pub loop-found-init : goal.loop-found-init
loop-found-init c =
    let a = c.args in
    reading_starts a.text.now a.line.now a.words.now a.counts c.tables-tables.result.attributes c.tables-tables.result.declared a.from
    c.requires.1

pub moved-requires : goal.moved-requires
moved-requires c =
    let a = c.args in
    let h = entry_stands a.line.now c.loop-found.at _ c.entry.ensures _ (c.in-Some-Item.is ∙ ap Some c.in-Some-Item.field-0-is) in
    omega (arith, c.requires.0.inside, c.requires.0.limit, h.inside)

pub shifted-requires : goal.shifted-requires
shifted-requires c =
    let a = c.args in
    let h = entry_stands a.line.now c.loop-found.at _ c.entry.ensures _ (c.in-Some-Item.is ∙ ap Some c.in-Some-Item.field-0-is) in
    let v = c.in-Some-Item.found.value in
    ends_later _ 65536 c.requires.0.limit (shift a.base v)
    (ends_moved a.text.now a.line.now a.base c.requires.0.is c.requires.0.inside v h.ends)

pub add_entry-known-requires : goal.add_entry-known-requires
add_entry-known-requires c =
    let a = c.args in
    let f = fits_kept a.text.now a.words.now c.loop-found.words a.counts c.loop-found.invariant.agrees c.requires.0.fits in
    let h = entry_stands a.line.now c.loop-found.at _ c.entry.ensures _ (c.in-Some-Item.is ∙ ap Some c.in-Some-Item.field-0-is) in
    record {
      fits = f;
      table = rw c.tables-tables.ensures.is (attr_table a.text.now c.loop-found.words a.counts f a.owner);
      short = c.requires.0.limit;
      name_inside = rw c.moved.ensures (omega (arith, c.requires.0.inside, h.inside));
      value_inside = rw c.shifted.ensures (ends_moved a.text.now a.line.now a.base c.requires.0.is c.requires.0.inside
          c.in-Some-Item.found.value h.ends);
      counted = omega (arith, c.loop-found.invariant.few, c.loop-found.invariant.inside, c.requires.0.inside, c.requires.0.limit);
    }

pub loop-found-smaller : goal.loop-found-smaller
loop-found-smaller c =
    let a = c.args in
    let h = entry_stands a.line.now c.loop-found.at _ c.entry.ensures _ (c.in-Some-Item.is ∙ ap Some c.in-Some-Item.field-0-is) in
    omega (arith, h.behind, h.next)

pub loop-found-preserved : goal.loop-found-preserved
loop-found-preserved c =
    let a = c.args in
    reading_on a.text.now a.line.now a.words.now a.counts c.tables-tables.result.attributes c.tables-tables.result.declared
    a.from c.loop-found.words c.loop-found.at c.loop-found.known c.loop-found.invariant _ c.entry.ensures a.base
    c.requires.0 _ _ _ (c.in-Some-Item.is ∙ ap Some c.in-Some-Item.field-0-is)
    (rw (c.moved.ensures, c.shifted.ensures) at c.add_entry-known.ensures)

pub shape_of-words-then-form_ends : goal.shape_of-words-then-form_ends
shape_of-words-then-form_ends c =
    c.loop-found.invariant.agrees.tables.size

pub returns-then-form_ends : goal.returns-then-form_ends
returns-then-form_ends c =
    let a = c.args in
    rw (← c.tables-tables.ensures.is) (record {
      agrees = c.loop-found.invariant.agrees;
      told = reading_ends a.text.now a.line.now a.words.now a.counts
          c.tables-tables.result.attributes c.tables-tables.result.declared a.from c.loop-found.words c.loop-found.at
          c.loop-found.known c.loop-found.invariant _ c.entry.ensures (omega (arith, c.requires.0.inside, c.requires.0.limit)) _
          (c.in-Some-Close.is ∙ ap Some c.in-Some-Close.field-0-is) _ c.form_ends.ensures c.if-form_ends.true;
    })

pub shape_of-words-in-Some-Close : goal.shape_of-words-in-Some-Close
shape_of-words-in-Some-Close c =
    c.loop-found.invariant.agrees.tables.size

pub returns-in-Some-Close : goal.returns-in-Some-Close
returns-in-Some-Close c =
    let a = c.args in
    rw (← c.tables-tables.ensures.is) (record {
      agrees = c.loop-found.invariant.agrees;
      told = reading_spoilt a.text.now a.line.now a.words.now a.counts
          c.tables-tables.result.attributes c.tables-tables.result.declared a.from c.loop-found.words c.loop-found.at
          c.loop-found.known c.loop-found.invariant _ c.entry.ensures _ (c.in-Some-Close.is ∙ ap Some c.in-Some-Close.field-0-is) _ c.form_ends.ensures c.if-form_ends.false;
    })

pub shape_of-words-in-None : goal.shape_of-words-in-None
shape_of-words-in-None c =
    c.loop-found.invariant.agrees.tables.size

pub returns-in-None : goal.returns-in-None
returns-in-None c =
    let a = c.args in
    rw (← c.tables-tables.ensures.is) (record {
      agrees = c.loop-found.invariant.agrees;
      told = reading_broken a.text.now a.line.now a.words.now a.counts
          c.tables-tables.result.attributes c.tables-tables.result.declared a.from c.loop-found.words c.loop-found.at
          c.loop-found.known c.loop-found.invariant _ c.entry.ensures c.in-None.is;
    })
