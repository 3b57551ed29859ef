-- Laws of the names at an offset: membership, places, one name more.
use Prim.Native.Nat.{ℕ, ◌+◌, ◌-◌, ◌/◌, ◌%◌, ◌≤◌, ◌<◌}
use mathlib.Core.Path.{◌≡◌, refl, sym, ap, ◌∙◌, subst}
use mathlib.Core.List.{List, [], ◌∷◌, ◌++◌}
use mathlib.Core.Bool.{Bool, true, false}
use native.Mathlib.Omega.{arith}
use lib.ListN.{length, take, drop}
use lib.Dec.{T, ltb}
use borrow.Author.Tests.{lt-ltb, le-ltb}
pub use Rattle.compare.proofs.CompareLaws.{same_equal}
use Rattle.logic.specs.Tests.{either, equal_or_not, below_or_not, passes→true}
use Rattle.model.specs.Bytes.{Bytes, same}
use Rattle.model.specs.Lists.{any, place_where}
use Rattle.model.specs.Names.{mem, place}
use Rattle.model.specs.Answers.{part_of}
use Rattle.model.proofs.Decides.{same_refl}
use Rattle.book_tables.specs.Listed.{listed}
use Rattle.model.specs.Book.{attr_names, node_names}
use Rattle.book_tables.specs.declared.BookCounts.{BookCounts}
use Rattle.book_tables.specs.Layout as layout
use Rattle.book_tables.specs.View.{word_at, name_in, name_of, names_at, attr_of, attrs_at, node_of, book_at}
use Rattle.book_tables.specs.Fits.{Inside, NamesFit}
use Rattle.book_tables.proofs.ListedLaws.{listed_more, length_listed, map_listed, get_or_listed, scan_found, scan_place, scan_absent}
use Rattle.book_tables.proofs.ListedLaws.{place_inside, place_none, place_passes}

true→T : (b : Bool) → b ≡ true → T b
true→T b e = subst T (sym e) tt

-- the same bytes
pub equal_same : (a b : Bytes) → a ≡ b → same a b ≡ true
equal_same a b e = rw e (passes→true (same b b) (same_refl b))

-- a name is in a list exactly if its place is inside
pub mem_place : (w : Bytes) (ws : List Bytes) → mem w ws ≡ ltb (place w ws) (length ws)
unfolding mem place
mem_place w ws = go (any (same w) ws) refl
  where
    go : (b : Bool) → any (same w) ws ≡ b → b ≡ ltb (place_where (same w) ws) (length ws)
    go true e = sym (lt-ltb _ _ (place_inside (same w) ws e))
    go false e = sym (le-ltb (place_where (same w) ws) (length ws) (omega (arith, place_none (same w) ws e)))

module _ (text : Bytes) (words : List ℕ) (offset count : ℕ) where
  pub length_names : length (names_at text words offset count) ≡ count
  unfolding names_at
  length_names = length_listed (name_of text words offset) count

  pub names_end_law : names_at text words offset (count + 1) ≡ names_at text words offset count ++ (name_of text words offset count ∷ [])
  unfolding names_at
  names_end_law = listed_more (name_of text words offset) count

  -- a name counted is among the names
  pub name_mem : (w : Bytes) (i : ℕ) → i < count → name_of text words offset i ≡ w → mem w (names_at text words offset count) ≡ true
  unfolding mem names_at
  name_mem w i l e = scan_found (same w) (name_of text words offset) count i l (equal_same w (name_of text words offset i) (sym e))

  -- the name at a name's place is the name
  pub place_named : (w : Bytes) → place w (names_at text words offset count) < count → name_of text words offset (place w (names_at text words offset count)) ≡ w
  unfolding place names_at
  place_named w l =
      let m : place_where (same w) (listed (name_of text words offset) count) < length (listed (name_of text words offset) count) = omega
      (arith, length_listed (name_of text words offset) count) in
      sym (same_equal _ _ (ap (same w) (sym (get_or_listed (name_of text words offset) count _ [] l))
      ∙ place_passes (same w) (listed (name_of text words offset) count) [] m))

  pub place_mem : (w : Bytes) → place w (names_at text words offset count) < count → mem w (names_at text words offset count) ≡ true
  place_mem w l = name_mem w (place w (names_at text words offset count)) l (place_named w l)

  pub place_out : (w : Bytes) → count ≤ place w (names_at text words offset count) → mem w (names_at text words offset count) ≡ false
  place_out w l = mem_place w (names_at text words offset count)
      ∙ le-ltb (place w (names_at text words offset count)) (length (names_at text words offset count)) (rw length_names l)

  -- one name more, which is none of those before
  pub names_fit_more :
      NamesFit text words offset count
      → Inside text (word_at words (offset + count) / 32) (word_at words (offset + count) % 32)
      → mem (name_of text words offset count) (names_at text words offset count) ≡ false
      → NamesFit text words offset (count + 1)
  names_fit_more f inside new = record {
    inside = λ i l. either (equal_or_not i count) (λ e. rw e inside) (λ e. f.inside i (omega arith));
    differ = λ i j l m e. either (equal_or_not i count)
        (λ p. either (equal_or_not j count) (λ q. p ∙ sym q) (λ q. absurd (not_new j (omega arith) (sym e ∙ ap (name_of text words offset) p))))
        (λ p. either (equal_or_not j count) (λ q. absurd (not_new i (omega arith) (e ∙ ap (name_of text words offset) q)))
        (λ q. f.differ i j (omega arith) (omega arith) e));
  }
    where
      not_new : (i : ℕ) → i < count → name_of text words offset i ≡ name_of text words offset count → ⊥
      not_new i l e =
          let yes = name_mem (name_of text words offset count) i l e in
          let z : ◌≡◌ {A = ℕ} 0 1 = cc in omega arith

-- the names of the attributes, and of the nodes
pub attr_names_law : (text : Bytes) (words : List ℕ) (offset count : ℕ) → attr_names (attrs_at text words offset count) ≡ names_at text words offset count
unfolding attr_names attrs_at attr_of names_at
attr_names_law text words offset count = map_listed (λ d. d.name) (attr_of text words offset) count

pub node_names_law : (text : Bytes) (words : List ℕ) (c : BookCounts) → node_names (book_at text words c) ≡ names_at text words layout.node_names c.nodes
unfolding node_names book_at node_of names_at
node_names_law text words c = map_listed (λ n. n.name) (node_of text words) c.nodes

-- a scan of the names upwards
module _ (name text : Bytes) (words : List ℕ) (offset count : ℕ) where
  pub found_name : (i : ℕ) → i < count → any (same name) (listed (name_of text words offset) i) ≡ false → same name (name_of text words offset i) ≡ true
      → i ≡ place name (names_at text words offset count)
  unfolding place names_at
  found_name i l before here = sym (scan_place (same name) (name_of text words offset) count i l before here)

  pub found_none : (i : ℕ) → i ≡ count → any (same name) (listed (name_of text words offset) i) ≡ false → count ≡ place name (names_at text words offset count)
  unfolding place names_at
  found_none i e none = sym (scan_absent (same name) (name_of text words offset) count (rw e at none))

  -- among names of which no two are the same, one that is the name is at its place
  pub found_only : NamesFit text words offset count → (i : ℕ) → i < count → same name (name_of text words offset i) ≡ true
      → i ≡ place name (names_at text words offset count)
  found_only f i l t =
      let e = same_equal name (name_of text words offset i) t in
      let yes = name_mem text words offset count name i l (sym e) in
      either (below_or_not (place name (names_at text words offset count)) count)
      (λ m. f.differ i (place name (names_at text words offset count)) l m (sym e ∙ sym (place_named text words offset count name m)))
      (λ m. let no = place_out text words offset count name m in let z : ◌≡◌ {A = ℕ} 0 1 = cc in absurd (omega arith))

-- the part of the text that a word says
pub word_slice : (text : Bytes) (w : ℕ) → take (w / 32 + w % 32 - w / 32) (drop (w / 32) text) ≡ name_in text w
unfolding name_in part_of
word_slice text w = let e : w / 32 + w % 32 - w / 32 ≡ w % 32 = omega arith in rw e

-- the part of the text that a name's word says
pub name_slice : (text : Bytes) (words : List ℕ) (offset i : ℕ)
    → take (word_at words (offset + i) / 32 + word_at words (offset + i) % 32 - word_at words (offset + i) / 32) (drop (word_at words (offset + i) / 32) text)
    ≡ name_of text words offset i
unfolding name_of
name_slice text words offset i = word_slice text (word_at words (offset + i))
