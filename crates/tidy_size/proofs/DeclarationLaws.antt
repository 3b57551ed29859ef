-- The lines that declare attributes and labels: how long each is.
use Prim.Native.Nat.{ℕ, ◌+◌, ◌%◌, ◌≤◌}
use mathlib.Core.Path.{◌≡◌}
use mathlib.Core.List.{List}
use native.Mathlib.Omega.{arith}
use lib.ListN.{length}
use Rattle.model.specs.Values.{Kind, ints, strs, bools}
use Rattle.model.specs.Tidy.{kind_text, attr_line_of}
use Rattle.book_tables.specs.declared.Owner.{Owner}
use Rattle.book_tables.specs.Layout.{types_behind, label_names}
use Rattle.book_tables.specs.View.{word_at, name_of, kind_in, attr_of}
use Rattle.tidy_size.specs.Pieces.{attr_line, label_line}
use Rattle.tidy_size.specs.Sizes.{LineSize}
use Rattle.tidy_size.specs.Ready.{Named}
use Rattle.tidy_size.proofs.LengthLaws.{name_length, attr_length, label_length}

-- a type has at most four bytes
pub type_small : (k : Kind) → length (kind_text k) ≤ 4
unfolding kind_text
type_small ints = omega arith
type_small strs = omega arith
type_small bools = omega arith

module _ (words : List ℕ) where
  -- an attribute's line: its name, its type, and ten bytes
  pub attr_line_law : (offset i name type : ℕ) → name ≡ word_at words (offset + i) % 32
      → type ≡ length (kind_text (kind_in (word_at words (offset + types_behind + i)))) → (owner : Owner)
      → LineSize (Named words (offset + i)) (λ text. attr_line owner text words offset i) (10 + name + type)
  unfolding attr_line attr_line_of attr_of name_of
  attr_line_law offset i name type e f owner =
      let k = kind_in (word_at words (offset + types_behind + i)) in
      record {
        small = omega (arith, type_small k);
        is = λ text named. omega (arith, name_length text words (offset + i) named, attr_length owner (name_of text words offset i) k);
      }

  -- a label's line: its name, and nine bytes
  pub label_line_law : (i name : ℕ) → name ≡ word_at words (label_names + i) % 32
      → LineSize (Named words (label_names + i)) (λ text. label_line text words i) (9 + name)
  unfolding label_line name_of
  label_line_law i name e = record {
    small = omega arith;
    is = λ text named. omega (arith, name_length text words (label_names + i) named, label_length (name_of text words label_names i));
  }
