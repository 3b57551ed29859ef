use Rattle.book_tables.proofs.ValueLaws.{ends_later}
use Rattle.book_entries.proofs.EntryLaws.{part_slice, entry_undeclared, entry_declared}
use Rattle.book_tables.specs.View.{names_at}
use Rattle.model.specs.Names.{place}
use Rattle.model.specs.Bytes.{Bytes}
use mathlib.Core.Path.{ap, ◌∙◌}
use native.Mathlib.Omega.{arith}
use Rattle.book_entries.proofs.add_entry.Goals as goal

pub overflow_add-end : goal.overflow_add-end
overflow_add-end c = omega (arith, c.requires.name_inside, c.requires.short)

pub likely_next-likely-requires : goal.likely_next-likely-requires
likely_next-likely-requires c =
    (c.requires.fits.room, c.requires.fits.within.entries, c.requires.counted)

pub slice_bounds-find_likely-end : goal.slice_bounds-find_likely-end
slice_bounds-find_likely-end c = omega (arith, c.requires.name_inside)

pub find_likely-attribute-requires : goal.find_likely-attribute-requires
find_likely-attribute-requires c =
    (c.requires.table.names, omega (arith, c.requires.table.low, c.requires.table.few, c.requires.fits.room))

pub overflow_add-result : goal.overflow_add-result
overflow_add-result c = omega (arith, c.requires.counted)

pub returns-then-declared-attribute : goal.returns-then-declared-attribute
returns-then-declared-attribute c =
    entry_undeclared c.args.text.now c.args.words.now c.args.counts c.args.offset c.args.declared
    c.args.name c.args.value c.args.known c.requires _
    (c.find_likely-attribute.ensures ∙ ap
    (λ (w : Bytes). place w (names_at c.args.text.now c.args.words.now c.args.offset c.args.declared))
    (part_slice c.args.text.now c.args.name)) c.if-declared-attribute.true

pub bounds-words-offset : goal.bounds-words-offset
bounds-words-offset c =
    omega (arith, c.requires.table.low, c.requires.table.few, c.requires.fits.room)

pub has-requires : goal.has-requires
has-requires c = omega (arith, c.requires.table.few)

pub overflow_add-counts : goal.overflow_add-counts
overflow_add-counts c =
    omega (arith, c.requires.counted, c.requires.fits.within.entries)

pub put_entry-requires : goal.put_entry-requires
put_entry-requires c =
    record {
      room = c.requires.fits.room;
      declared = omega (arith, c.requires.table.few);
      short = ends_later _ 65536 c.requires.short
          c.args.value c.requires.value_inside;
    }

pub with-requires : goal.with-requires
with-requires c =
    omega (arith, c.requires.table.few, c.if-declared-attribute.false)

pub overflow_add-result-2 : goal.overflow_add-result-2
overflow_add-result-2 c =
    omega (arith, c.requires.counted)

pub returns : goal.returns
returns c =
    rw (c.lower_fault.ensures, c.entry_fault-own.ensures, c.with.ensures)
    (entry_declared c.args.text.now c.args.words.now c.args.counts c.args.offset c.args.declared
    c.args.name c.args.value c.args.known c.requires _
    (c.find_likely-attribute.ensures ∙ ap (λ (w : Bytes). place w
    (names_at c.args.text.now c.args.words.now c.args.offset c.args.declared))
    (part_slice c.args.text.now c.args.name)) c.if-declared-attribute.false _ c.put_entry.ensures _ _ c.has.ensures
    (c.of_kind.ensures c.args.text.now))
