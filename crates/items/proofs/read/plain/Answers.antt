-- `items::read::plain` meets its contract.
use Rattle.items.proofs.ReadLaws.{read_word, read_whole, read_text, read_quoted, read_none}
use Rattle.items.specs.declared.ItemEnd.TheVariants.{Word, Number, Text, Quoted}
use Rattle.std.specs.Prelude.{option_map}
use Rattle.items.proofs.ReadLaws.{mapped}
use Rattle.model.specs.Words.{is_letter, is_digit}
use lib.Dec.{eqb}
use Prim.Native.Nat.{ℕ}
use mathlib.Core.Bool.{◌||◌}
use mathlib.Core.Path.{sym, ap, ◌∙◌}
use Rattle.items.proofs.read.plain.Goals as goal

pub returns-then-is_letter : goal.returns-then-is_letter
returns-then-is_letter c =
    mapped _ _ _ c.map.ensures.cases ∙ ap (option_map «Word») c.word.ensures
    ∙ read_word c.args.s.now c.args.at
    (ap is_letter (sym c.peek-b.ensures) ∙ sym c.is_letter.ensures ∙ c.if-is_letter.true)

pub returns-in_err-n : goal.returns-in_err-n
returns-in_err-n c =
    c.from_residual.ensures ∙ ap (option_map (λ (r : ℕ × ℕ). Number r.0 r.1)) (sym c.in_err-n.was ∙ c.whole.ensures)
    ∙ read_whole c.args.s.now c.args.at
    (ap is_letter (sym c.peek-b.ensures) ∙ sym c.is_letter.ensures ∙ c.if-is_letter.false)
    (ap (λ (b : ℕ). is_digit b || eqb b 45) (sym c.peek-b.ensures) ∙ sym c.starts_number.ensures
    ∙ c.if-starts_number.true)

pub returns-then-starts_number : goal.returns-then-starts_number
returns-then-starts_number c =
    ap (option_map (λ (r : ℕ × ℕ). Number r.0 r.1)) (sym c.in_ok-n.was ∙ c.whole.ensures)
    ∙ read_whole c.args.s.now c.args.at
    (ap is_letter (sym c.peek-b.ensures) ∙ sym c.is_letter.ensures ∙ c.if-is_letter.false)
    (ap (λ (b : ℕ). is_digit b || eqb b 45) (sym c.peek-b.ensures) ∙ sym c.starts_number.ensures
    ∙ c.if-starts_number.true)

pub returns-then-b-eq-APOSTROPHE : goal.returns-then-b-eq-APOSTROPHE
returns-then-b-eq-APOSTROPHE c =
    mapped _ _ _ c.map-then-b-eq-APOSTROPHE.ensures.cases ∙ ap (option_map «Text») c.text_value.ensures
    ∙ read_text c.args.s.now c.args.at
    (ap is_letter (sym c.peek-b.ensures) ∙ sym c.is_letter.ensures ∙ c.if-is_letter.false)
    (ap (λ (b : ℕ). is_digit b || eqb b 45) (sym c.peek-b.ensures) ∙ sym c.starts_number.ensures
    ∙ c.if-starts_number.false) (sym c.peek-b.ensures ∙ c.if-b-eq-APOSTROPHE.true)

pub returns-then-b-eq-DOUBLE_QUOTE : goal.returns-then-b-eq-DOUBLE_QUOTE
returns-then-b-eq-DOUBLE_QUOTE c =
    mapped _ _ _ c.map-then-b-eq-DOUBLE_QUOTE.ensures.cases ∙ ap (option_map «Quoted») c.quoted.ensures
    ∙ read_quoted c.args.s.now c.args.at
    (ap is_letter (sym c.peek-b.ensures) ∙ sym c.is_letter.ensures ∙ c.if-is_letter.false)
    (ap (λ (b : ℕ). is_digit b || eqb b 45) (sym c.peek-b.ensures) ∙ sym c.starts_number.ensures ∙ c.if-starts_number.false)
    (sym c.peek-b.ensures ∙ c.if-b-eq-DOUBLE_QUOTE.true)

pub returns : goal.returns
returns c =
    read_none c.args.s.now c.args.at
    (ap is_letter (sym c.peek-b.ensures) ∙ sym c.is_letter.ensures ∙ c.if-is_letter.false)
    (ap (λ (b : ℕ). is_digit b || eqb b 45) (sym c.peek-b.ensures) ∙ sym c.starts_number.ensures
    ∙ c.if-starts_number.false) (λ h. c.if-b-eq-APOSTROPHE.false (c.peek-b.ensures ∙ h)) (λ h. c.if-b-eq-DOUBLE_QUOTE.false (c.peek-b.ensures ∙ h))
