-- Laws of words by places: the first word of a text from a place on begins behind a run of other bytes, and is a run of word bytes. Assumes nothing.
use Prim.Native.Nat.{ℕ, ◌+◌, ◌-◌, ◌≤◌}
use mathlib.Core.Path.{◌≡◌, sym, ap, ◌∙◌}
use native.Mathlib.Omega.{arith}
use lib.ListN.{length, drop}
use lib.Seq.{drop-drop}
use Rattle.model.specs.Bytes.{Bytes}
use Rattle.model.specs.Words.{is_word_byte, run}
use Rattle.model.specs.Renaming.{before_word, first_word, behind_word, after_word}
use Rattle.model.specs.Answers.{part_of}
use Rattle.text.specs.Places.{past}
use Rattle.text.proofs.PlaceLaws.{past_on, past_within, past_part}
use Rattle.renamed_text.specs.Words.{is_between, FirstWord}

module _ (s : Bytes) (from start end : ℕ) (inside : from ≤ length s) (e : start ≡ past is_between s from) (f : end ≡ past is_word_byte s start) where
  -- the bytes before the word
  word_begins : start ≡ from + before_word (drop from s)
  unfolding before_word past
  word_begins = e

  -- the text from the word on
  from_word : drop (before_word (drop from s)) (drop from s) ≡ drop start s
  from_word = drop-drop (before_word (drop from s)) from s ∙ ap (λ (n : ℕ). drop n s) (sym word_begins)

  word_is : part_of s start (end - start) ≡ first_word (drop from s)
  unfolding first_word
  word_is = ap (λ (n : ℕ). part_of s start (n - start)) f ∙ past_part is_word_byte s start ∙ ap (run is_word_byte) (sym from_word)

  word_ends : end ≡ from + behind_word (drop from s)
  unfolding behind_word first_word past
  word_ends =
      let n = ap (λ (t : Bytes). length (run is_word_byte t)) from_word in
      omega (arith, f, n, word_begins)

  pub first_word_law : FirstWord s from (record { start = start; end = end })
  unfolding after_word
  first_word_law =
      let a = past_on is_between s from in
      let b = past_on is_word_byte s start in
      let g = past_within is_word_byte s start (omega (arith, past_within is_between s from inside)) in
      record {
        forward = omega (arith, e);
        order = omega (arith, f);
        inside = omega (arith, f);
        word = word_is;
        behind = word_ends;
        after = ap (λ (n : ℕ). drop n s) word_ends ∙ sym (drop-drop (behind_word (drop from s)) from s);
      }
