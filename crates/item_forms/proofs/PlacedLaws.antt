-- Where what follows stands: inside the text, and behind the place it is read from; a word has at most 24 bytes.
use Prim.Native.Nat.{ℕ, ◌+◌, ◌-◌, ◌≤◌, ◌<◌}
use mathlib.Core.Path.{◌≡◌, refl, sym, subst}
use mathlib.Core.Bool.{Bool, true, false, not, ◌||◌}
use native.Mathlib.Omega.{arith}
use lib.ListN.{length}
use lib.Dec.{ltb, eqb}
use borrow.Author.Tests.{eqb-true}
use Rattle.std.specs.Prelude.{Option, Some, None}
use Rattle.model.specs.Bytes.{Bytes, bytes_of, same}
use Rattle.model.specs.Choice.{pick}
use Rattle.model.specs.Names.{mem}
use Rattle.model.specs.Forms.{never_names}
use Rattle.model.specs.Answers.{part_of, name_at}
use Rattle.model.specs.declared.Part.{Part}
use Rattle.model.specs.declared.Value.{Value as ValueData}
use Rattle.model.specs.declared.Value.TheVariants as value
use Rattle.text.specs.Places.{peek_at, past, is_space}
use Rattle.text.proofs.PlaceLaws.{peek_in, past_on}
use Rattle.items.specs.declared.ItemEnd.{ItemEnd}
use Rattle.items.specs.declared.ItemEnd.TheVariants.{Word, Number, Text, Quoted, List}
use Rattle.items.specs.declared.Next.{Next}
use Rattle.items.specs.declared.Next.TheVariants.{Item, Close}
use Rattle.item_forms.specs.declared.EntryParts.{EntryParts}
use Rattle.items.specs.Reads.{next_at}
use Rattle.item_forms.specs.Pieces.{behind, item_place, after_end, word_piece, quoted_piece, name_piece, truth_piece, value_piece, read_at, word_next}
use Rattle.item_forms.specs.Pieces.{quoted_next, name_after, name_next, value_next, open_after, open_next, close_after, close_next}
use Rattle.item_forms.specs.Forms.{entry_to, entry_valued, entry_named, entry_after, entry_next}
use Rattle.item_forms.specs.Places.{WordPlaces, Placed, NextWord, NextName, QuotedPlaced, NextQuoted, ValueInside, EntryPlaced, NextEntry}
use Rattle.items.proofs.ReadLaws.{read_within, text_within, quoted_within, word_small}

-- where a piece that was read stands
pub placed_at : (s : Bytes) (i : ℕ) {w : Part} (r : Option Part) → r ≡ Some w → Placed s i r → WordPlaces s i w
placed_at s i r e h = subst (Placed s i) e h

-- what follows in a list stands behind the place
abbrev Follows : Bytes → ℕ → Option (Next ℕ) → Type 0
Follows s i (Some (Item p)) = i ≤ p
Follows s i (Some (Close e)) = (i < e) × (e ≤ length s)
Follows s i None = Unit {0}

follows : (free : Bool) (s : Bytes) (i : ℕ) → Follows s i (next_at free s i)
unfolding next_at
follows free s i = go (eqb (peek_at s p) 41) refl (ltb i p) (free || eqb (peek_at s p) 40)
  where
    p : ℕ
    p = past is_space s i

    go : (x : Bool) → eqb (peek_at s p) 41 ≡ x → (y z : Bool) → Follows s i (pick x (Some (Close (p + 1))) (pick y (Some (Item p)) (pick z (Some (Item p)) None)))
    go true e y z = (omega (arith, past_on is_space s i), omega (arith, peek_in s p (omega (arith, eqb-true (peek_at s p) 41 e))))
    go false e true z = past_on is_space s i
    go false e false true = past_on is_space s i
    go false e false false = tt

-- a word, a name, a policy text
module _ (d : ℕ) (free : Bool) (s : Bytes) (i : ℕ) where
  word_piece_law : (p : ℕ) → i ≤ p → Placed s i (word_piece p (read_at d s p))
  unfolding word_piece after_end
  word_piece_law p l = go (read_at d s p) refl
    where
      go : (r : Option ItemEnd) → r ≡ read_at d s p → Placed s i (word_piece p r)
      go (Some (Word q)) e =
          let w = read_within d s p q (Some (Word q)) e refl in
          record { after = l; some = omega (arith, w.after); inside = omega (arith, w.after, w.inside); short = word_small d s p q e }
      go (Some (Number n q)) e = tt
      go (Some (Text q)) e = tt
      go (Some (Quoted q)) e = tt
      go (Some (List q)) e = tt
      go None e = tt

  pub word_placed : Placed s i (word_next d free s i)
  unfolding word_next after_end
  word_placed = go (next_at free s i) (follows free s i)
    where
      go : (n : Option (Next ℕ)) → Follows s i n → Placed s i (after_end (item_place n) (λ p. word_piece p (read_at d s p)) None)
      go (Some (Item p)) h = word_piece_law p h
      go (Some (Close e)) h = tt
      go None h = tt

  pub name_placed : Placed s i (item_place (name_next d free s i))
  unfolding name_next name_after name_piece
  name_placed = go (next_at free s i) (follows free s i)
    where
      named : (w : Option Part) → Placed s i w → Placed s i (item_place (name_piece s w))
      named (Some w) h = by (not (mem (name_at s w) never_names))
        where
          by : (b : Bool) → Placed s i (item_place (pick b (Some (Item w)) None))
          by true = h
          by false = tt
      named None h = tt

      go : (n : Option (Next ℕ)) → Follows s i n → Placed s i (item_place (name_after d s n))
      go (Some (Item p)) h = named (word_piece p (read_at d s p)) (word_piece_law p h)
      go (Some (Close e)) h = tt
      go None h = tt

  quoted_placed : QuotedPlaced s (quoted_next d free s i)
  unfolding quoted_next quoted_piece after_end
  quoted_placed = go (next_at free s i)
    where
      at : (p : ℕ) (r : Option ItemEnd) → r ≡ read_at d s p → QuotedPlaced s (quoted_piece p r)
      at p (Some (Word q)) e = tt
      at p (Some (Number z q)) e = tt
      at p (Some (Text q)) e = tt
      at p (Some (Quoted q)) e = let w = quoted_within d s p q e in omega (arith, w.0, w.1)
      at p (Some (List q)) e = tt
      at p None e = tt

      go : (n : Option (Next ℕ)) → QuotedPlaced s (after_end (item_place n) (λ p. quoted_piece p (read_at d s p)) None)
      go (Some (Item p)) = at p (read_at d s p) refl
      go (Some (Close e)) = tt
      go None = tt

-- a value, a closing bracket, an opening one
record ValuePlaces (s : Bytes) (i : ℕ) (v : ValueData) (q : ℕ) : Type 0 where
  behind : i < q
  inside : q ≤ length s
  ends : ValueInside s v

abbrev ValuePlaced : Bytes → ℕ → Option (ValueData × ℕ) → Type 0
ValuePlaced s i (Some (v, q)) = ValuePlaces s i v q
ValuePlaced s i None = Unit {0}

abbrev ClosePlaced : Bytes → ℕ → Option ℕ → Type 0
ClosePlaced s i (Some e) = (i < e) × (e ≤ length s)
ClosePlaced s i None = Unit {0}

module _ (s : Bytes) (i : ℕ) where
  truth_placed : (p q : ℕ) → i < q → q ≤ length s → ValuePlaced s i (truth_piece s p q)
  unfolding truth_piece
  truth_placed p q l m = go (same (part_of s p (q - p)) (bytes_of "true")) (same (part_of s p (q - p)) (bytes_of "false"))
    where
      go : (x y : Bool) → ValuePlaced s i (pick x (Some (value.Truth true, q)) (pick y (Some (value.Truth false, q)) None))
      go true y = record { behind = l; inside = m; ends = tt }
      go false true = record { behind = l; inside = m; ends = tt }
      go false false = tt

  value_placed : (d : ℕ) → ValuePlaced s i (value_next d false s i)
  unfolding value_next value_piece after_end
  value_placed d = go (next_at false s i) (follows false s i)
    where
      at : (p : ℕ) → i ≤ p → (r : Option ItemEnd) → r ≡ read_at d s p → ValuePlaced s i (value_piece s p r)
      at p l (Some (Word q)) e = let w = read_within d s p q (Some (Word q)) e refl in truth_placed p q (omega (arith, w.after)) w.inside
      at p l (Some (Number n q)) e = let w = read_within d s p q (Some (Number n q)) e refl in record { behind = omega (arith, w.after); inside = w.inside; ends = tt }
      at p l (Some (Text q)) e = let w = text_within d s p q e in record { behind = omega (arith, w.0); inside = w.1; ends = omega (arith, w.0, w.1) }
      at p l (Some (Quoted q)) e = tt
      at p l (Some (List q)) e = tt
      at p l None e = tt

      go : (n : Option (Next ℕ)) → Follows s i n → ValuePlaced s i (after_end (item_place n) (λ p. value_piece s p (read_at d s p)) None)
      go (Some (Item p)) h = at p h (read_at d s p) refl
      go (Some (Close e)) h = tt
      go None h = tt

  close_placed : ClosePlaced s i (close_next s i)
  unfolding close_next close_after
  close_placed = go (next_at true s i) (follows true s i)
    where
      go : (n : Option (Next ℕ)) → Follows s i n → ClosePlaced s i (close_after n)
      go (Some (Item p)) h = tt
      go (Some (Close e)) h = h
      go None h = tt

  open_placed : Follows s i (open_next s i)
  unfolding open_next open_after
  open_placed = go (next_at true s i) (follows true s i)
    where
      by : (t : Bool) (p : ℕ) → i ≤ p → Follows s i (pick t (Some (Item (p + 1))) None)
      by true p h = omega arith
      by false p h = tt

      go : (n : Option (Next ℕ)) → Follows s i n → Follows s i (open_after s n)
      go (Some (Item p)) h = by (eqb (peek_at s p) 40) p h
      go (Some (Close e)) h = h
      go None h = tt

-- (ATTR VALUE)
module _ (d : ℕ) (s : Bytes) (i : ℕ) where
  entry_valued_law : (a : Part) → WordPlaces s i a → (r : Option (ValueData × ℕ)) → ValuePlaced s (behind a) r → EntryPlaced s i (entry_valued s a r)
  unfolding entry_valued after_end
  entry_valued_law a w (Some (v, q)) h = go (close_next s q) (close_placed s q)
    where
      go : (e : Option ℕ) → ClosePlaced s q e → EntryPlaced s i (after_end e (λ z. Some (Item (entry_to a v z))) None)
      go (Some z) k = record { inside = w.inside; ends = h.ends; behind = omega (arith, w.after, w.some, h.behind, k.0); next = k.1 }
      go None k = tt
  entry_valued_law a w None h = tt

  entry_named_law : (p : ℕ) → i ≤ p → (r : Option Part) → Placed s p r → EntryPlaced s i (entry_named d s r)
  unfolding entry_named
  entry_named_law p l (Some a) w =
      entry_valued_law a (record { after = omega (arith, w.after); some = w.some; inside = w.inside; short = w.short }) (value_next d false s (behind a))
      (value_placed s (behind a) d)
  entry_named_law p l None w = tt

  entry_placed : EntryPlaced s i (entry_next d s i)
  unfolding entry_next entry_after
  entry_placed = go (open_next s i) (open_placed s i)
    where
      go : (n : Option (Next ℕ)) → Follows s i n → EntryPlaced s i (entry_after d s n)
      go (Some (Item p)) h = entry_named_law p h (item_place (name_next d true s p)) (name_placed d true s p)
      go (Some (Close e)) h = tt
      go None h = tt

-- what the readers give stands there
pub told_word : {d : ℕ} {free : Bool} {s : Bytes} {i : ℕ} {r : Option Part} → r ≡ word_next d free s i → NextWord d free s i r
told_word {d} {free} {s} {i} e = record { is = e; placed = subst (Placed s i) (sym e) (word_placed d free s i) }

pub told_name : {d : ℕ} {s : Bytes} {i : ℕ} {r : Option Part} → r ≡ item_place (name_next d false s i) → NextName d s i r
told_name {d} {s} {i} e = record { is = e; placed = subst (Placed s i) (sym e) (name_placed d false s i) }

pub told_quoted : {d : ℕ} {s : Bytes} {i : ℕ} {r : Option Part} → r ≡ quoted_next d false s i → NextQuoted d s i r
told_quoted {d} {s} {i} e = record { is = e; placed = subst (QuotedPlaced s) (sym e) (quoted_placed d false s i) }

pub told_entry : {d : ℕ} {s : Bytes} {i : ℕ} {r : Option (Next EntryParts)} → r ≡ entry_next d s i → NextEntry d s i r
told_entry {d} {s} {i} e = record { is = e; placed = subst (EntryPlaced s i) (sym e) (entry_placed d s i) }
