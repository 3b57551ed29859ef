use Rattle.query_signs.proofs.SignLaws.{sign_word, sign_whole, sign_text, sign_mark}
use Rattle.model.specs.Words.{is_letter}
use mathlib.Core.Path.{sym, ap, ◌∙◌}
use Rattle.query_signs.proofs.reading.sign_at.Goals as goal

pub returns-then-is_letter : goal.returns-then-is_letter
returns-then-is_letter c =
    record {
      got = sign_word c.args.s.now c.args.at c.args.chain c.requires _
          (ap is_letter (sym c.peek-b.ensures) ∙ sym c.is_letter.ensures ∙ c.if-is_letter.true)
          c.word_sign.ensures.got;
      part = c.word_sign.ensures.part;
    }

pub returns-then-starts_number : goal.returns-then-starts_number
returns-then-starts_number c =
    record {
      got = sign_whole c.args.s.now c.args.at c.args.chain c.requires _
          (ap is_letter (sym c.peek-b.ensures) ∙ sym c.is_letter.ensures ∙ c.if-is_letter.false)
          (sym c.starts_number.ensures ∙ c.if-starts_number.true) c.number_sign.ensures.got;
      part = c.number_sign.ensures.part;
    }

pub returns-then-b-eq-APOSTROPHE : goal.returns-then-b-eq-APOSTROPHE
returns-then-b-eq-APOSTROPHE c =
    record {
      got = sign_text c.args.s.now c.args.at c.args.chain c.requires _
          (ap is_letter (sym c.peek-b.ensures) ∙ sym c.is_letter.ensures ∙ c.if-is_letter.false)
          (sym c.starts_number.ensures ∙ c.if-starts_number.false) (sym c.peek-b.ensures ∙ c.if-b-eq-APOSTROPHE.true)
          c.text_sign.ensures.got;
      part = c.text_sign.ensures.part;
    }

pub returns : goal.returns
returns c =
    record {
      got = sign_mark c.args.s.now c.args.at c.args.chain c.requires _
          (ap is_letter (sym c.peek-b.ensures) ∙ sym c.is_letter.ensures ∙ c.if-is_letter.false)
          (sym c.starts_number.ensures ∙ c.if-starts_number.false) (λ z. c.if-b-eq-APOSTROPHE.false (c.peek-b.ensures ∙ z))
          c.mark_sign.ensures.got;
      part = c.mark_sign.ensures.part;
    }
