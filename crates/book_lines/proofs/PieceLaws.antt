-- The pieces of a line and the rest behind them; parts of the line as parts of the whole text.
use Prim.Native.Nat.{ℕ, ◌+◌, ◌≤◌}
use mathlib.Core.Path.{◌≡◌, refl, sym, ap, ◌∙◌}
use mathlib.Core.List.{List}
use mathlib.Core.Bool.{Bool, true, false}
use native.Mathlib.Omega.{arith}
use lib.ListN.{length, take, drop, take-append-drop, length-drop}
use lib.Seq.{take-append-le, drop-append-le, drop-drop}
use Rattle.std.specs.Prelude.{None, Some, Option}
use Rattle.model.specs.Bytes.{Bytes, bytes_of, same}
use Rattle.model.specs.Choice.{pick, Maybe, nothing, just, and_then}
use Rattle.model.specs.Items.{Item}
use Rattle.model.specs.Values.{Kind, ints, strs, bools}
use Rattle.model.specs.Forms.{as_name, kind_of, first}
use Rattle.model.specs.BookLines.{vattr, eattr, attr_line, label_line, node_line, rel_line}
use Rattle.model.specs.Answers.{part_of, name_at, value_of}
use Rattle.model.specs.declared.Part.{Part}
use Rattle.model.specs.declared.Value.{Value}
use Rattle.model.specs.declared.Value.TheVariants.{Number, Text, Truth}
use Rattle.items.specs.declared.Next.{Next}
use Rattle.items.specs.declared.Next.TheVariants.{Item as ItemAt, Close}
use Rattle.item_forms.specs.declared.Form.{Form}
use Rattle.item_forms.specs.Ends.{form_at}
use Rattle.item_forms.specs.Places.{WordPlaces, ValueInside}
use Rattle.item_forms.specs.Pieces.{behind, item_place, name_next, on_piece, on_name}
use Rattle.item_forms.proofs.FormLaws.{form_name}
use Rattle.book_tables.specs.declared.BookCounts.{BookCounts}
use Rattle.book_tables.specs.View.{kind_in}
use Rattle.book_tables.specs.ValueWords.{EndsBefore}
use Rattle.book_tables.specs.declared.Owner.TheVariants.{Node, Relationship}
use Rattle.book_lines.specs.declared.Head.TheVariants as head
use Rattle.book_steps.specs.Steps.{NameAsked}
use Rattle.book_lines.specs.Forms.{FormAsked, head_of, line_of, kind_read, on_kind}
use Rattle.book_lines.specs.Names.{moved_part}
use Rattle.book_lines.specs.Entries.{shift}

-- a name, and the rest behind it
module _ {B : Type 0} (within : Form) (line : Bytes) (i : ℕ) where
  pub name_form : (k : Bytes → List Item → Maybe B)
      → form_at within false i line (λ is. first as_name is k)
      ≡ on_piece (item_place (name_next within.inner false line i)) (λ w. form_at within false (behind w) line (k (name_at line w)))
  unfolding on_name on_piece
  name_form k = form_name within false i line within.inner k ∙ go (name_next within.inner false line i)
    where
      go : (r : Option (Next Part)) → on_name line r (λ n q. form_at within false q line (k n)) (λ e. nothing)
          ≡ on_piece (item_place r) (λ w. form_at within false (behind w) line (k (name_at line w)))
      go (Some (ItemAt w)) = refl
      go (Some (Close e)) = refl
      go None = refl

-- a type, and the rest behind it
module _ {B : Type 0} (line : Bytes) (i : ℕ) where
  pub kind_word : (w : Bytes) (q : ℕ) (f : Kind → ℕ → Maybe B) → and_then (kind_of w) (λ k. f k q) ≡ on_kind (kind_read w q) f
  unfolding kind_of kind_read on_kind kind_in and_then
  kind_word w q f = go (same w (bytes_of "int")) (same w (bytes_of "str")) (same w (bytes_of "bool"))
    where
      go : (x y z : Bool)
          → and_then (pick x (just ints) (pick y (just strs) (pick z (just bools) nothing))) (λ k. f k q)
          ≡ on_kind (pick x (Some (0, q)) (pick y (Some (1, q)) (pick z (Some (2, q)) None))) f
      go true y z = refl
      go false true z = refl
      go false false true = refl
      go false false false = refl

-- a part of the line is a part of the text
module _ (text line : Bytes) (base : ℕ) (is : line ≡ part_of text base (length line)) (inside : base + length line ≤ length text) where
  pub part_moved : (start size : ℕ) → start + size ≤ length line → part_of text (base + start) size ≡ part_of line start size
  unfolding part_of
  part_moved start size l =
      let rest : Bytes = drop base text in
      let n : length (take (length line) rest) ≡ length line = ap length (sym is) in
      ap (take size) (sym (drop-drop start base text))
      ∙ ap (λ (x : Bytes). take size (drop start x)) (sym (take-append-drop (length line) rest))
      ∙ ap (take size) (drop-append-le start (take (length line) rest) (drop (length line) rest) (omega arith))
      ∙ take-append-le size (drop start (take (length line) rest)) (drop (length line) rest) (omega (arith, length-drop start (take (length line) rest)))
      ∙ ap (λ (x : Bytes). take size (drop start x)) (sym is)

  pub name_moved : (p : Part) → p.start + p.length ≤ length line → name_at text (moved_part base p) ≡ name_at line p
  unfolding name_at
  name_moved p l = part_moved p.start p.length l

  pub value_moved : (v : Value) → ValueInside line v → value_of text (shift base v) ≡ value_of line v
  unfolding value_of
  value_moved (Number n) h = refl
  value_moved (Text start size) h = ap Rattle.model.specs.Values.Value.str (part_moved start size h)
  value_moved (Truth t) h = refl

  pub ends_moved : (v : Value) → ValueInside line v → EndsBefore (length text) (shift base v)
  ends_moved (Number n) h = h
  ends_moved (Text start size) h = omega arith
  ends_moved (Truth t) h = h

-- a name of the line, as a name of the text
pub moved_asked : (text line : Bytes) (words : List ℕ) (c : BookCounts) (base i : ℕ) (p : Part) → FormAsked text line words c base → WordPlaces line i p
    → NameAsked text (moved_part base p)
moved_asked text line words c base i p f s = record { inside = omega (arith, f.inside, s.inside); short = omega (arith, s.short); limit = f.limit }

-- a line goes on by its first word
pub line_head : (w : Bytes) (is : List Item)
    → pick (same w (bytes_of "vattr")) (attr_line vattr is)
    (pick (same w (bytes_of "eattr")) (attr_line eattr is)
    (pick (same w (bytes_of "label")) (label_line is)
    (pick (same w (bytes_of "node")) (node_line is)
    (pick (same w (bytes_of "rel")) (rel_line is) nothing))))
    ≡ line_of (head_of w) is
unfolding head_of line_of
line_head w is = go (same w (bytes_of "vattr")) (same w (bytes_of "eattr")) (same w (bytes_of "label")) (same w (bytes_of "node")) (same w (bytes_of "rel"))
  where
    go : (a b c d e : Bool)
        → pick a (attr_line vattr is) (pick b (attr_line eattr is) (pick c (label_line is) (pick d (node_line is) (pick e (rel_line is) nothing))))
        ≡ line_of (pick a (head.Attr Node) (pick b (head.Attr Relationship) (pick c head.Label (pick d head.Node (pick e head.Rel head.Other))))) is
    go true b c d e = refl
    go false true c d e = refl
    go false false true d e = refl
    go false false false true e = refl
    go false false false false true = refl
    go false false false false false = refl
