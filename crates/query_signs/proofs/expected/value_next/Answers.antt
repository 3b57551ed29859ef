use Rattle.std.specs.Prelude.{Some}
use Rattle.query_signs.proofs.ExpectLaws.{value_end, value_mark, value_whole, value_text_law, value_word}
use Rattle.query_signs.specs.Reads.{ReadInside}
use Rattle.query_signs.specs.Expected.{ValueNext}
use Rattle.query_signs.specs.declared.Sign.{Sign}
use mathlib.Core.Path.{sym, ap, subst, ◌∙◌}
use Rattle.query_signs.proofs.expected.value_next.Goals as goal

pub returns-in_err-t : goal.returns-in_err-t
returns-in_err-t c =
    rw c.from_residual.ensures
    (value_end c.args.close c.args.s.now c.args.from c.next_sign.result
    c.next_sign.ensures c.in_err-t.was)

pub truth_or-requires : goal.truth_or-requires
truth_or-requires c =
    subst (ReadInside c.args.s.now)
    (c.in_ok-t.was ∙ ap (λ (t : Sign). Some (t, c.in_ok-t.q)) c.in-Word.is) c.next_sign.ensures.inside

pub returns-in-Word : goal.returns-in-Word
returns-in-Word c =
    subst (λ r. ValueNext c.args.close c.args.s.now c.args.from r) (sym c.truth_or.ensures)
    (value_word c.args.close c.args.s.now c.args.from c.next_sign.result
    c.next_sign.ensures c.in_ok-t.q c.in-Word.p
    (c.in_ok-t.was ∙ ap (λ (t : Sign). Some (t, c.in_ok-t.q)) c.in-Word.is))

pub returns-in-Whole : goal.returns-in-Whole
returns-in-Whole c =
    value_whole c.args.close c.args.s.now c.args.from c.next_sign.result c.next_sign.ensures
    c.in_ok-t.q c.in-Whole.n
    (c.in_ok-t.was ∙ ap (λ (t : Sign). Some (t, c.in_ok-t.q)) c.in-Whole.is)

pub returns-in-Text : goal.returns-in-Text
returns-in-Text c =
    value_text_law c.args.close c.args.s.now c.args.from c.next_sign.result c.next_sign.ensures
    c.in_ok-t.q c.in-Text.p
    (c.in_ok-t.was ∙ ap (λ (t : Sign). Some (t, c.in_ok-t.q)) c.in-Text.is)

pub returns-in-Mark : goal.returns-in-Mark
returns-in-Mark c =
    value_mark c.args.close c.args.s.now c.args.from c.next_sign.result c.next_sign.ensures
    c.in_ok-t.q c.in-Mark.field-0
    (c.in_ok-t.was ∙ ap (λ (t : Sign). Some (t, c.in_ok-t.q)) c.in-Mark.is)
