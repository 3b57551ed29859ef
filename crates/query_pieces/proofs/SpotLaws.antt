-- The piece at each spot, by what its first sign is.
use Prim.Native.Nat.{ℕ, ◌≤◌, ◌<◌}
use mathlib.Core.Path.{◌≡◌, refl, sym, ap, ◌∙◌, subst}
use mathlib.Core.List.{List, [], ◌∷◌}
use mathlib.Core.Bool.{true, false}
use native.Mathlib.Omega.{arith}
use lib.ListN.{length}
use lib.Dec.{T}
use borrow.Author.Tests.{ne_eqb}
use Rattle.std.specs.Prelude.{Option, Some, None, Result, Bool}
use Rattle.logic.specs.Tests.{either, equal_or_not}
use Rattle.model.specs.Bytes.{Bytes, bytes_of, same}
use Rattle.model.specs.Choice.{nothing, just, and_then}
use Rattle.model.specs.Signs.{Sign, word, whole, text, mark, broken, is_word, is_mark, wordy}
use Rattle.model.specs.Signs.{chain_behind}
use Rattle.model.specs.Grammar.{goes, comes, spot_after, Spot, at_start, in_chain, in_where, in_return, start_at, link_at, condition_at, return_at, piece_at}
use Rattle.model.specs.Places.{none, bracket_of, Standing, variable_at, standing_at}
use Rattle.model.proofs.Decides.{same→eq}
use Rattle.query_signs.specs.declared.Sign.{Sign as SignData}
use Rattle.query_signs.specs.declared.Sign.TheVariants as read
use Rattle.query_signs.specs.Marks.{mark_bytes}
use Rattle.query_signs.specs.Reads.{sign_of, signs_from, standings_from, standing_of, First, first, first_of, Behind, SignStands, NextSign}
use Rattle.query_signs.specs.Expected.{code_of}
use Rattle.query_signs.specs.Reads.{is_blank}
use Rattle.query_signs.proofs.ExpectLaws.{code_is, code_mark}
use Rattle.query_signs.proofs.SignLaws.{no_signs, some_sign}
use Rattle.text.specs.Places.{past}
use Rattle.query_pieces.specs.declared.Place.{Place}
use Rattle.query_pieces.specs.declared.Spot.{Spot as SpotData}
use Rattle.query_pieces.specs.declared.Spot.TheVariants.{AtStart, InChain, InWhere, InReturn}
use Rattle.query_pieces.specs.declared.Step.{Step}
use Rattle.query_pieces.specs.Walk.{Walk, stopped, or_stopped, ends_well, walk}
use Rattle.query_pieces.proofs.PartLaws.{step_stands}
use Rattle.query_pieces.specs.Steps.{
  spot_of,
  chain_at,
  walk_at,
  pieces_by,
  link_then,
  arrow_behind,
  link_piece,
  chained,
  StepIs,
  walk_by,
  standings_at,
  standings_by,
}
use Rattle.query_pieces.proofs.StepLaws.{link_by}

-- a sign that is this word
word_is : (w : Bytes) (x : Sign) → is_word w x ≡ true → x ≡ word w
unfolding is_word
word_is w (word y) e = ap word (same→eq y w (subst T (sym e) tt))
word_is w (whole n) e = cc
word_is w (text t) e = cc
word_is w (mark m) e = cc
word_is w broken e = cc

module _ (s : Bytes) (t : SignData) (q : ℕ) where
  -- a sign that is no text value says nothing at the front of a piece
  quiet : (x : Sign) → sign_of s t ≡ x → standing_at x none 0 ≡ [] → standing_of none t ≡ []
  unfolding standing_at sign_of standing_of variable_at
  quiet x e n = go t (ap (λ y. standing_at y none 0) e ∙ n)
    where
      go : (t : SignData) → standing_at (sign_of s t) none 0 ≡ [] → standing_of none t ≡ []
      go (read.Word p) h = refl
      go (read.Whole m) h = refl
      go (read.Text p) h = cc
      go (read.Mark c) h = refl

  by_sign : (p : SpotData) (x : Sign) → sign_of s t ≡ x → standing_at x none 0 ≡ []
      → (walk_by p s t q ≡ pieces_by (piece_at (spot_of p) x (signs_from (chain_behind (chain_at p) x) (wordy x) s q))
      (signs_from (chain_behind (chain_at p) x) (wordy x) s q))
      × (standings_by p s t q ≡ standings_from (bracket_of x) (chain_behind (chain_at p) x) (wordy x) s q)
  unfolding walk_by
  by_sign p x e n = (rw e, rw (quiet x e n, e))

  -- at another spot that is the same
  pub by_spot : {o p : SpotData} → o ≡ p → (walk_by o s t q ≡ walk_by p s t q) × (standings_by o s t q ≡ standings_by p s t q)
  by_spot e = (ap (λ p. walk_by p s t q) e, ap (λ p. standings_by p s t q) e)

  pub first_match : is_word (bytes_of "Match") (sign_of s t) ≡ true
      → (walk_by AtStart s t q ≡ pieces_by (start_at (signs_from true true s q)) (signs_from true true s q))
      × (standings_by AtStart s t q ≡ standings_from none true true s q)
  unfolding piece_at is_word is_mark same chain_behind chain_at spot_of wordy bracket_of standing_at variable_at
  first_match e = by_sign AtStart (word (bytes_of "Match")) (word_is (bytes_of "Match") (sign_of s t) e) refl

  pub chain_match : is_word (bytes_of "Match") (sign_of s t) ≡ true
      → (walk_by InChain s t q ≡ pieces_by (start_at (signs_from true true s q)) (signs_from true true s q))
      × (standings_by InChain s t q ≡ standings_from none true true s q)
  unfolding piece_at is_word is_mark same chain_behind chain_at spot_of wordy bracket_of standing_at variable_at
  chain_match e = by_sign InChain (word (bytes_of "Match")) (word_is (bytes_of "Match") (sign_of s t) e) refl

  pub where_match : is_word (bytes_of "Match") (sign_of s t) ≡ true
      → (walk_by InWhere s t q ≡ pieces_by (start_at (signs_from true true s q)) (signs_from true true s q))
      × (standings_by InWhere s t q ≡ standings_from none true true s q)
  unfolding piece_at is_word is_mark same chain_behind chain_at spot_of wordy bracket_of standing_at variable_at
  where_match e = by_sign InWhere (word (bytes_of "Match")) (word_is (bytes_of "Match") (sign_of s t) e) refl

  pub chain_where : is_word (bytes_of "Where") (sign_of s t) ≡ true
      → (walk_by InChain s t q ≡ pieces_by (condition_at (signs_from false true s q)) (signs_from false true s q))
      × (standings_by InChain s t q ≡ standings_from none false true s q)
  unfolding piece_at is_word is_mark same chain_behind chain_at spot_of wordy bracket_of standing_at variable_at
  chain_where e = by_sign InChain (word (bytes_of "Where")) (word_is (bytes_of "Where") (sign_of s t) e) refl

  pub where_and : is_word (bytes_of "AND") (sign_of s t) ≡ true
      → (walk_by InWhere s t q ≡ pieces_by (condition_at (signs_from false true s q)) (signs_from false true s q))
      × (standings_by InWhere s t q ≡ standings_from none false true s q)
  unfolding piece_at is_word is_mark same chain_behind chain_at spot_of wordy bracket_of standing_at variable_at
  where_and e = by_sign InWhere (word (bytes_of "AND")) (word_is (bytes_of "AND") (sign_of s t) e) refl

  pub chain_return : is_word (bytes_of "Return") (sign_of s t) ≡ true
      → (walk_by InChain s t q ≡ pieces_by (return_at (signs_from false true s q)) (signs_from false true s q))
      × (standings_by InChain s t q ≡ standings_from none false true s q)
  unfolding piece_at is_word is_mark same chain_behind chain_at spot_of wordy bracket_of standing_at variable_at
  chain_return e = by_sign InChain (word (bytes_of "Return")) (word_is (bytes_of "Return") (sign_of s t) e) refl

  pub where_return : is_word (bytes_of "Return") (sign_of s t) ≡ true
      → (walk_by InWhere s t q ≡ pieces_by (return_at (signs_from false true s q)) (signs_from false true s q))
      × (standings_by InWhere s t q ≡ standings_from none false true s q)
  unfolding piece_at is_word is_mark same chain_behind chain_at spot_of wordy bracket_of standing_at variable_at
  where_return e = by_sign InWhere (word (bytes_of "Return")) (word_is (bytes_of "Return") (sign_of s t) e) refl

  pub chain_goes : code_of t ≡ 45 → (walk_by InChain s t q ≡ pieces_by (link_at goes (bytes_of "->") (signs_from true false s q)) (signs_from true false s q))
      × (standings_by InChain s t q ≡ standings_from none true false s q)
  unfolding piece_at is_word is_mark same chain_behind chain_at spot_of wordy bracket_of standing_at variable_at mark_bytes
  chain_goes e = by_sign InChain (mark (bytes_of "-")) (code_is s t 45 (omega arith) e) refl

  pub chain_comes : code_of t ≡ 15405 → (walk_by InChain s t q ≡ pieces_by (link_at comes (bytes_of "-") (signs_from true false s q)) (signs_from true false s q))
      × (standings_by InChain s t q ≡ standings_from none true false s q)
  unfolding piece_at is_word is_mark same chain_behind chain_at spot_of wordy bracket_of standing_at variable_at mark_bytes
  chain_comes e = by_sign InChain (mark (bytes_of "<-")) (code_is s t 15405 (omega arith) e) refl

  -- a link, by the mark that ends it
  goes_link : code_of t ≡ 45 → walk_by InChain s t q ≡ or_stopped (link_then (mark_bytes 11582) (signs_from true false s q) (chained 11582))
  unfolding link_piece mark_bytes spot_after
  goes_link e = (chain_goes e).0 ∙ link_by goes (bytes_of "->") (λ e l v. refl) (signs_from true false s q)

  comes_link : code_of t ≡ 15405 → walk_by InChain s t q ≡ or_stopped (link_then (mark_bytes 45) (signs_from true false s q) (chained 45))
  unfolding link_piece mark_bytes spot_after
  comes_link e = (chain_comes e).0 ∙ link_by comes (bytes_of "-") (λ e l v. refl) (signs_from true false s q)

  pub chain_link : (arrow : ℕ) → arrow ≡ arrow_behind (code_of t) → (arrow ≡ 0 → ⊥)
      → (walk_by InChain s t q ≡ or_stopped (link_then (mark_bytes arrow) (signs_from true false s q) (chained arrow)))
      × (standings_by InChain s t q ≡ standings_from none true false s q)
  chain_link arrow a some = either (equal_or_not (code_of t) 45)
      (λ e. let z : arrow ≡ 11582 = a ∙ rw e in
      (goes_link e ∙ ap (λ (n : ℕ). or_stopped (link_then (mark_bytes n) (signs_from true false s q) (chained n))) (sym z), (chain_goes e).1))
      (λ d. either (equal_or_not (code_of t) 15405)
      (λ e. let z : arrow ≡ 45 = a ∙ rw e in
      (comes_link e ∙ ap (λ (n : ℕ). or_stopped (link_then (mark_bytes n) (signs_from true false s q) (chained n))) (sym z), (chain_comes e).1))
      (λ f. absurd (some (a ∙ rw (ne_eqb (code_of t) 45 d.1, ne_eqb (code_of t) 15405 f.1)))))

  pub no_link_law : arrow_behind (code_of t) ≡ 0 → (code_of t ≡ 45 → ⊥) × (code_of t ≡ 15405 → ⊥)
  no_link_law a = (
    λ e. let z : ◌≡◌ {A = ℕ} 11582 0 = sym (ap arrow_behind e) ∙ a in absurd (omega arith),
    λ e. let z : ◌≡◌ {A = ℕ} 45 0 = sym (ap arrow_behind e) ∙ a in absurd (omega arith),
  )

  pub return_comma : code_of t ≡ 44 → (walk_by InReturn s t q ≡ pieces_by (return_at (signs_from false false s q)) (signs_from false false s q))
      × (standings_by InReturn s t q ≡ standings_from none false false s q)
  unfolding piece_at is_word is_mark same chain_behind chain_at spot_of wordy bracket_of standing_at variable_at mark_bytes
  return_comma e = by_sign InReturn (mark (bytes_of ",")) (code_is s t 44 (omega arith) e) refl

  pub first_none : is_word (bytes_of "Match") (sign_of s t) ≡ false → walk_by AtStart s t q ≡ stopped false
  unfolding walk_by piece_at pieces_by and_then or_stopped spot_of
  first_none e = rw e

  no_mark : (c : ℕ) → 0 < c → (code_of t ≡ c → ⊥) → is_mark (mark_bytes c) (sign_of s t) ≡ false
  no_mark c p h = code_mark s t c p ∙ ne_eqb (code_of t) c h

  pub chain_none : (code_of t ≡ 45 → ⊥) → (code_of t ≡ 15405 → ⊥) → is_word (bytes_of "Where") (sign_of s t) ≡ false
      → is_word (bytes_of "Match") (sign_of s t) ≡ false → is_word (bytes_of "Return") (sign_of s t) ≡ false → walk_by InChain s t q ≡ stopped false
  unfolding walk_by piece_at pieces_by and_then or_stopped spot_of mark_bytes
  chain_none a b c d e = rw (no_mark 45 (omega arith) a, no_mark 15405 (omega arith) b, c, d, e)

  pub where_none : is_word (bytes_of "AND") (sign_of s t) ≡ false → is_word (bytes_of "Match") (sign_of s t) ≡ false
      → is_word (bytes_of "Return") (sign_of s t) ≡ false → walk_by InWhere s t q ≡ stopped false
  unfolding walk_by piece_at pieces_by and_then or_stopped spot_of
  where_none c d e = rw (c, d, e)

  pub return_none : (code_of t ≡ 44 → ⊥) → walk_by InReturn s t q ≡ stopped false
  unfolding walk_by piece_at pieces_by and_then or_stopped spot_of mark_bytes
  return_none a = rw (no_mark 44 (omega arith) a)

-- a step of an equal walk
pub step_same : {k l : List Standing} (v w : Walk) (s : Bytes) (from : ℕ) (r : Result Step Bool) → (v ≡ w) × (k ≡ l) → StepIs w l s from r → StepIs v k s from r
step_same v w s from r e h = record { reads = e.0 ∙ h.reads; moves = h.moves; inside = h.inside; stands = step_stands s r e.1 h.stands; ends = h.ends }

-- the first sign of a list that has one
first_some : (ts : List Sign) (x : First) → first ts ≡ just x → ts ≡ x.sign ∷ x.rest
unfolding first
first_some [] x e = cc
first_some (word w ∷ ts) x e = let z : record { sign = word w; rest = ts } ≡ x = cc in ap (λ y. y.sign ∷ y.rest) z
first_some (whole n ∷ ts) x e = let z : record { sign = whole n; rest = ts } ≡ x = cc in ap (λ y. y.sign ∷ y.rest) z
first_some (text t ∷ ts) x e = let z : record { sign = text t; rest = ts } ≡ x = cc in ap (λ y. y.sign ∷ y.rest) z
first_some (mark m ∷ ts) x e = let z : record { sign = mark m; rest = ts } ≡ x = cc in ap (λ y. y.sign ∷ y.rest) z
first_some (broken ∷ ts) x e = cc

-- no piece begins with a broken sign
broken_piece : (p : Spot) (ts : List Sign) → walk p 0 (broken ∷ ts) ≡ stopped false
unfolding walk piece_at is_word is_mark and_then or_stopped
broken_piece at_start ts = refl
broken_piece in_chain ts = refl
broken_piece in_where ts = refl
broken_piece in_return ts = refl

unread_piece : (p : Spot) (t : Sign) (ts : List Sign) → first (t ∷ ts) ≡ nothing → walk p 0 (t ∷ ts) ≡ stopped false
unfolding first
unread_piece p (word w) ts e = cc
unread_piece p (whole n) ts e = cc
unread_piece p (text t) ts e = cc
unread_piece p (mark m) ts e = cc
unread_piece p broken ts e = broken_piece p ts

module _ (s : Bytes) (place : Place) (at : ℕ) (p : at ≡ past is_blank s place.at) where
  abbrev here : List Sign
  here = signs_from (chain_at place.spot) place.close s place.at

  pub place_ends : length s ≤ at → walk_at s place ≡ stopped (ends_well (spot_of place.spot))
  unfolding walk_at walk
  place_ends h = rw (no_signs (chain_at place.spot) place.close s place.at at p h)

  module _ (l : at < length s) (r : Option (SignData × ℕ)) (h : NextSign (chain_at place.spot) place.close s place.at r) where
    pub place_broken : r ≡ None → walk_at s place ≡ stopped false
    unfolding walk_at first_of
    place_broken e =
        let x = some_sign (chain_at place.spot) place.close s place.at at p l in
        let f : first (x.0 ∷ x.1) ≡ nothing = ap first (sym x.2) ∙ h.reads ∙ ap (first_of (chain_at place.spot) s) e in
        ap (walk (spot_of place.spot) 0) x.2 ∙ unread_piece (spot_of place.spot) x.0 x.1 f

    pub place_piece : (t : SignData) (q : ℕ) → r ≡ Some (t, q) → walk_at s place ≡ walk_by place.spot s t q
    unfolding walk_at first_of walk_by walk pieces_by
    place_piece t q e = ap (walk (spot_of place.spot) 0) (first_some here _ (h.reads ∙ ap (first_of (chain_at place.spot) s) e))

    pub place_moves : (t : SignData) (q : ℕ) → r ≡ Some (t, q) → place.at < q
    place_moves t q e = subst (Behind place.at) e h.moves

    pub place_stands : (t : SignData) (q : ℕ) → r ≡ Some (t, q) → standings_at s place ≡ standings_by place.spot s t q
    place_stands t q e = subst (SignStands none (chain_at place.spot) place.close s place.at) e (h.stands none)
