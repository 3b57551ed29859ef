-- Words of a text by places.
use Rattle.std.specs.Prelude.{ℕ, ◌+◌, ◌-◌, ◌≤◌, ◌≡◌, Bool, not, length, take, drop}
use Rattle.model.specs.Bytes.{Bytes}
use Rattle.model.specs.Words.{is_word_byte}
use Rattle.model.specs.Renaming.{first_word, behind_word, after_word}
use Rattle.model.specs.Answers.{part_of}
use Rattle.renamed_text.specs.declared.words.Word.{Word}

-- a byte that stands in no word
abbrev pub is_between : ℕ → Bool
is_between b = not (is_word_byte b)

-- a word by its places is the first one of a text from a place on
pub record FirstWord (s : Bytes) (from : ℕ) (w : Word) : Type 0 where
  pub forward : from ≤ w.start
  pub order : w.start ≤ w.end
  pub inside : w.end ≤ length s
  pub word : part_of s w.start (w.end - w.start) ≡ first_word (drop from s)
  pub behind : w.end ≡ from + behind_word (drop from s)
  pub after : drop w.end s ≡ after_word (drop from s)

-- a word by its places is the first one, from a place on, of a line up to an end
pub record LineWord (text : Bytes) (to from : ℕ) (w : Word) : Type 0 where
  pub forward : from ≤ w.start
  pub order : w.start ≤ w.end
  pub inside : w.end ≤ to
  pub word : part_of text w.start (w.end - w.start) ≡ first_word (drop from (take to text))
  pub read : part_of text from (w.end - from) ≡ take (behind_word (drop from (take to text))) (drop from (take to text))
  pub after : drop w.end (take to text) ≡ after_word (drop from (take to text))
