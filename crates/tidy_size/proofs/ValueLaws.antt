-- How long the value of an entry is, by its type, and the entry.
use Prim.Native.Nat.{ℕ, ◌+◌, ◌%◌, ◌≤◌}
use mathlib.Core.Path.{◌≡◌, ap}
use mathlib.Core.Bool.{Bool, true, false}
use mathlib.Core.List.{List, ◌++◌}
use native.Mathlib.Omega.{arith}
use lib.ListN.{length}
use Rattle.model.specs.Bytes.{Bytes, bytes_of}
use Rattle.model.specs.Values.{Value, int, bool}
use Rattle.model.specs.Answers.{part_of}
use Rattle.model.specs.Writing.{whole_text, value_text}
use Rattle.model.specs.Tidy.{entry_text}
use Rattle.book_tables.specs.View.{word_at, name_in}
use Rattle.book_lookup.specs.Entries.{kind_at, first_at, second_at, entry_value}
use Rattle.book_lookup.specs.Ready.{EntryReady}
use Rattle.book_lookup.proofs.ValueLaws.{kind_strs, text_value}
use Rattle.tidy_size.specs.Pieces.{entry_at}
use Rattle.tidy_size.specs.Sizes.{Size, entry_most}
use Rattle.tidy_size.specs.Ready.{EntryIn}
use Rattle.tidy_size.proofs.LengthLaws.{part_length, name_length, text_length, true_length, false_length, entry_length}

-- the size of an entry's value
abbrev pub ValueSize : List ℕ → ℕ → ℕ → Type 0
ValueSize words k r = Size 65538 (λ text. EntryReady text words k) (λ text. value_text (entry_value text words k)) r

module _ (words : List ℕ) (k : ℕ) where
  -- a value that is the same whatever the text is
  fixed_size : (v : Value) (r : ℕ) → ((text : Bytes) → entry_value text words k ≡ v) → r ≡ length (value_text v) → r ≤ 65538 → ValueSize words k r
  fixed_size v r is e small = record { small = small; is = λ text _. rw (is text) e }

  pub number_size : (n r : ℕ) → ((text : Bytes) → entry_value text words k ≡ int n) → r ≡ length (whole_text n) → r ≤ 20 → ValueSize words k r
  number_size n r is e small = fixed_size (int n) r is (unfold value_text in e) (omega arith)

  pub true_size : (t : Bool) → t ≡ true → ((text : Bytes) → entry_value text words k ≡ bool t) → ValueSize words k 4
  true_size t e is = fixed_size (bool t) 4 is (true_length t e) (omega arith)

  pub false_size : (t : Bool) → t ≡ false → ((text : Bytes) → entry_value text words k ≡ bool t) → ValueSize words k 5
  false_size t e is = fixed_size (bool t) 5 is (false_length t e) (omega arith)

  -- a text is as long as its second word says, between two apostrophes
  pub text_size : kind_at words k ≡ 1 → second_at words k ≤ 65536 → ValueSize words k (2 + second_at words k)
  text_size e short = record {
    small = omega arith;
    is = λ text ready.
        let v = ap (λ v. length (value_text v)) (text_value text words k (kind_strs _ e)).1 in
        omega (arith, v, text_length (part_of text (first_at words k) (second_at words k)), part_length text _ _ (ready.inside e));
  }

  -- an entry: its name, its value, and four bytes
  pub entry_size : (at name value : ℕ) → name ≡ word_at words at % 32 → ValueSize words k value
      → Size entry_most (EntryIn words at k) (λ text. bytes_of " " ++ entry_text (entry_at text words at k)) (4 + name + value)
  unfolding entry_at
  entry_size at name value e s = record {
    small = omega (arith, s.small);
    is = λ text o. omega (
      arith,
      entry_length (record { attr = name_in text (word_at words at); value = entry_value text words k }),
      name_length text words at o.named,
      s.is text o.ready,
    );
  }
