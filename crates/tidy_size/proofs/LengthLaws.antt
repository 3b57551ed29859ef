-- How long names, values, entries and lines are.
use Prim.Native.Nat.{ℕ, ◌+◌, ◌≤◌, ◌<◌, ◌%◌}
use mathlib.Core.Path.{◌≡◌, refl}
use mathlib.Core.List.{List, [], ◌∷◌, ◌++◌, map}
use mathlib.Core.Bool.{Bool, true, false}
use native.Mathlib.Omega.{arith}
use lib.ListN.{length, length-append, length-drop}
use lib.Seq.{length-take-le}
use borrow.Author.Tests.{ne_eqb}
use Rattle.logic.specs.Tests.{either, equal_or_not}
use Rattle.model.specs.Bytes.{Bytes, bytes_of}
use Rattle.model.specs.Names.{Name}
use Rattle.model.specs.Values.{str, bool, Kind, Entry}
use Rattle.model.specs.BookLines.{label, node, rel}
use Rattle.model.specs.Answers.{part_of}
use Rattle.model.specs.Writing.{join_by, each_behind, value_text}
use Rattle.model.specs.Tidy.{kind_text, list_text, entry_text, item_texts, line_text}
use Rattle.book_tables.specs.declared.Owner.{Owner}
use Rattle.book_tables.specs.declared.Owner.TheVariants.{Node, Relationship}
use Rattle.book_tables.specs.Owners.{declares}
use Rattle.book_tables.specs.View.{word_at, name_in, kind_in}
use Rattle.book_tables.specs.Fits.{Inside}
use Rattle.tidy_size.specs.Ready.{Named}

-- a part that ends inside the text is as long as is said
pub part_length : (text : Bytes) (start size : ℕ) → Inside text start size → length (part_of text start size) ≡ size
unfolding part_of
part_length text start size h = let e = length-drop start text in length-take-le size _ (omega arith)

-- a name in the text is as long as its word says
pub name_length : (text : Bytes) (words : List ℕ) (at : ℕ) → Named words at text → length (name_in text (word_at words at)) ≡ word_at words at % 32
unfolding name_in
name_length text words at h = part_length text _ _ h

-- types
pub short_type : (kind : ℕ) → kind ≤ 1 → 3 ≡ length (kind_text (kind_in kind))
unfolding kind_text kind_in
short_type kind h = either (equal_or_not kind 0) (λ e. rw e refl) (λ (_, d). let e : kind ≡ 1 = omega arith in rw e refl)

pub long_type : (kind : ℕ) → 1 < kind → 4 ≡ length (kind_text (kind_in kind))
unfolding kind_text kind_in
long_type kind h = rw (ne_eqb kind 0 (λ e. omega arith), ne_eqb kind 1 (λ e. omega arith)) refl

-- text values and truth values
pub text_length : (t : Bytes) → length (value_text (str t)) ≡ 2 + length t
unfolding value_text
text_length t = simp length-append (omega arith)

pub true_length : (t : Bool) → t ≡ true → 4 ≡ length (value_text (bool t))
unfolding value_text
true_length t e = rw e refl

pub false_length : (t : Bool) → t ≡ false → 5 ≡ length (value_text (bool t))
unfolding value_text
false_length t e = rw e refl

-- an entry behind its space
pub entry_length : (e : Entry) → length (bytes_of " " ++ entry_text e) ≡ 4 + length e.attr + length (value_text e.value)
unfolding entry_text list_text join_by each_behind
entry_length e = simp length-append (omega arith)

-- texts, each behind a text: of two lists one after the other
pub behind_length : (sep : Bytes) (ts us : List Bytes)
    → length (each_behind sep (ts ++ us)) ≡ length (each_behind sep ts) + length (each_behind sep us)
unfolding each_behind
behind_length sep [] us = omega arith
behind_length sep (t ∷ ts) us = let e = behind_length sep ts us in simp length-append (omega arith)

-- the lines: that of an attribute, of a label, of a node and of a relationship
pub attr_length : (owner : Owner) (n : Name) (k : Kind) → length (line_text (declares owner n k)) ≡ 10 + length n + length (kind_text k)
unfolding line_text list_text item_texts join_by each_behind
attr_length Node n k = simp length-append (omega arith)
attr_length Relationship n k = simp length-append (omega arith)

pub label_length : (n : Name) → length (line_text (label n)) ≡ 9 + length n
unfolding line_text list_text item_texts join_by each_behind
label_length n = simp length-append (omega arith)

pub node_length : (n : Name) (es : List Entry)
    → length (line_text (node n es)) ≡ 8 + length n + length (each_behind (bytes_of " ") (map entry_text es))
unfolding line_text list_text item_texts join_by
node_length n es = unfold each_behind in simp length-append (omega arith)

pub rel_length : (l x y : Name) (es : List Entry)
    → length (line_text (rel l x y es)) ≡ 9 + length l + length x + length y + length (each_behind (bytes_of " ") (map entry_text es))
unfolding line_text list_text item_texts join_by
rel_length l x y es = unfold each_behind in simp length-append (omega arith)
