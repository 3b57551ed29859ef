-- A text up to an end: its parts are parts of the text, and its first word is a word of the line that ends there. Assumes nothing.
use Prim.Native.Nat.{ℕ, ◌+◌, ◌-◌, ◌≤◌}
use mathlib.Core.Path.{◌≡◌, sym, ap, ◌∙◌}
use native.Mathlib.Omega.{arith}
use native.Mathlib.Nat.{zero-add}
use lib.ListN.{length, take, drop, length-drop}
use lib.Seq.{length-take-le, take_all}
use Rattle.model.specs.Bytes.{Bytes}
use Rattle.model.specs.Answers.{part_of}
use Rattle.model.specs.Renaming.{behind_word}
use Rattle.text.proofs.PlaceLaws.{part_in_part}
use Rattle.renamed_text.specs.declared.words.Word.{Word}
use Rattle.renamed_text.specs.Words.{FirstWord, LineWord}

module _ (text : Bytes) (to : ℕ) where
  -- a part before the end
  pub front_part : (from n : ℕ) → from + n ≤ to → part_of (take to text) from n ≡ part_of text from n
  unfolding part_of
  front_part from n h = part_in_part text 0 to from n h ∙ ap (λ (m : ℕ). part_of text m n) (zero-add from)

  -- what stands from a place on to the end
  pub front_rest : (from : ℕ) → from ≤ to → to ≤ length text → drop from (take to text) ≡ part_of text from (to - from)
  unfolding part_of
  front_rest from h l =
      let n = length-take-le to text l in
      sym (take_all (to - from) (drop from (take to text)) (omega (arith, length-drop from (take to text)))) ∙ front_part from (to - from) (omega arith)

  pub line_word : (from : ℕ) (w : Word) → to ≤ length text → FirstWord (take to text) from w → LineWord text to from w
  unfolding part_of
  line_word from w l f =
      let n = length-take-le to text l in
      let i : w.end ≤ to = omega (arith, f.inside) in
      let e : w.end - from ≡ behind_word (drop from (take to text)) = omega (arith, f.behind) in
      record {
        forward = f.forward;
        order = f.order;
        inside = i;
        word = sym (front_part w.start (w.end - w.start) (omega (arith, f.order))) ∙ f.word;
        read = sym (front_part from (w.end - from) (omega (arith, f.order, f.forward)))
            ∙ ap (λ (m : ℕ). take m (drop from (take to text))) e;
        after = f.after;
      }
