-- `put_value` meets its contract, by the type of the value. Assumes nothing.
use mathlib.Core.Path.{sym, ap, ◌∙◌}
use native.Mathlib.Omega.{arith}
use Rattle.model.specs.Values.{str}
use Rattle.model.specs.Writing.{value_text}
use Rattle.book_lookup.proofs.ValueLaws.{kind_ints, kind_strs, kind_bools}
use Rattle.putting.proofs.PuttingLaws.{puts_same}
use Rattle.tidy_text.proofs.PieceLaws.{whole_part}
use Rattle.tidy_text.proofs.entries.put_value.Goals as goal

pub number_of-requires : goal.number_of-requires
number_of-requires c =
    record { room = c.requires.room; is = kind_ints _ (sym c.kind_of-kind.ensures ∙ c.if-kind-eq-INT.true) }

pub returns-then-kind-eq-INT : goal.returns-then-kind-eq-INT
unfolding value_text
returns-then-kind-eq-INT c =
    let a = c.args in
    puts_same (sym (ap value_text (c.number_of.ensures a.book.now))) c.put_whole.ensures

pub text_of-text-requires : goal.text_of-text-requires
text_of-text-requires c =
    let ready = c.requires in
    (ready, record { room = ready.room; is = kind_strs _ (sym c.kind_of-kind.ensures ∙ c.if-kind-eq-STR.true) })

pub put_quoted-requires : goal.put_quoted-requires
put_quoted-requires c = omega arith

pub returns-then-kind-eq-STR : goal.returns-then-kind-eq-STR
returns-then-kind-eq-STR c =
    puts_same (ap (λ t. value_text (str t)) (whole_part _) ∙ sym (ap value_text c.text_of-text.ensures)) c.put_quoted.ensures

pub truth_of-requires : goal.truth_of-requires
truth_of-requires c =
    let kind = c.kind_of-kind.ensures in
    record { room = c.requires.room; is = kind_bools _ (omega (arith, kind, c.if-kind-eq-STR.false, c.if-kind-eq-INT.false)) }

pub returns : goal.returns
returns c =
    let a = c.args in
    puts_same (sym (ap value_text (c.truth_of.ensures a.book.now))) c.put_truth.ensures
