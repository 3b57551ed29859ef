-- `tidy_size::values::value_size` meets its contract. Assumes nothing.
use Prim.Native.Nat.{◌+◌, ◌*◌}
use mathlib.Core.Path.{sym, ◌∙◌}
use native.Mathlib.Omega.{arith}
use Rattle.book_tables.specs.Layout.{entries}
use Rattle.book_lookup.proofs.ValueLaws.{kind_ints, kind_bools}
use Rattle.tidy_size.proofs.ValueLaws.{number_size, text_size, true_size, false_size}
use Rattle.tidy_size.proofs.values.value_size.Goals as goal

pub number_of-requires : goal.number_of-requires
number_of-requires c = record {
  room = c.requires.room;
  is = kind_ints _ (sym c.kind_of-kind.ensures ∙ c.if-kind-eq-INT.true);
}

pub returns-then-kind-eq-INT : goal.returns-then-kind-eq-INT
returns-then-kind-eq-INT c =
    let a = c.args in
    number_size a.words.now a.entry _ _ c.number_of.ensures c.whole_size.ensures.0 c.whole_size.ensures.1

pub overflow_cast-result : goal.overflow_cast-result
overflow_cast-result c = omega (arith, c.type_inv.words (entries + 3 * c.args.entry + 2))

pub overflow_add-result-then-kind-eq-STR-2 : goal.overflow_add-result-then-kind-eq-STR-2
overflow_add-result-then-kind-eq-STR-2 c = omega (arith, c.type_inv.words (entries + 3 * c.args.entry + 2))

pub returns-then-kind-eq-STR : goal.returns-then-kind-eq-STR
returns-then-kind-eq-STR c =
    let is_text_law = sym c.kind_of-kind.ensures ∙ c.if-kind-eq-STR.true in
    text_size c.args.words.now c.args.entry is_text_law (c.requires.short is_text_law)

pub truth_of-requires : goal.truth_of-requires
truth_of-requires c = record {
  room = c.requires.room;
  is = kind_bools _ (omega (arith, c.kind_of-kind.ensures, c.if-kind-eq-INT.false, c.if-kind-eq-STR.false));
}

pub returns-then-truth_of : goal.returns-then-truth_of
returns-then-truth_of c =
    let a = c.args in
    true_size a.words.now a.entry _ c.if-truth_of.true c.truth_of.ensures

pub returns : goal.returns
returns c =
    let a = c.args in
    false_size a.words.now a.entry _ c.if-truth_of.false c.truth_of.ensures
