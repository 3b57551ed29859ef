-- Laws of names among pieces, and of the pieces from a place on.
use Prim.Native.Nat.{ℕ, zero, suc, ◌+◌, ◌-◌, ◌<◌, ◌≤◌}
use mathlib.Core.Path.{◌≡◌, refl, sym, ap, ◌∙◌}
use mathlib.Core.List.{List, [], ◌∷◌, ◌++◌}
use mathlib.Core.Bool.{Bool, true, false, ◌||◌}
use native.Mathlib.Omega.{arith}
use native.Mathlib.Numerals.{add-one}
use lib.ListN.{length, take, drop, get_or, length-drop}
use lib.Seq.{take-suc, drop-cons, drop-drop}
use lib.Dec.{eqb}
use Rattle.std.specs.Prelude.{Option, Some, None, Result, Ok, Err}
use Rattle.model.specs.Bytes.{Bytes, same}
use Rattle.model.specs.Choice.{pick, Maybe, nothing, just, and_then}
use Rattle.model.specs.Lists.{any, joined}
use Rattle.model.specs.Names.{mem}
use Rattle.model.specs.Words.{Got}
use Rattle.model.specs.Signs.{Sign, signs, sign_at, chain_behind, wordy}
use Rattle.model.specs.Grammar.{Piece, Spot, spot_after, piece_at}
use Rattle.model.specs.Answers.{name_at}
use Rattle.model.specs.declared.Part.{Part}
use Rattle.query_pieces.specs.Walk.{Walk, stopped, ahead, or_stopped, walk}
use Rattle.query_signs.specs.Reads.{signs_from}
use Rattle.query_pieces.specs.Steps.{spot_of, chain_at, piece_of, walk_at, step_of, StepAt}
use Rattle.query_pieces.specs.Named.{vertex_in, edge_in, return_in}
use Rattle.query_pieces.specs.declared.Link.{Link}
use Rattle.query_pieces.specs.declared.Piece.{Piece as PieceData}
use Rattle.query_pieces.specs.declared.Piece.TheVariants as piece
use Rattle.query_pieces.specs.declared.Place.{Place}
use Rattle.query_pieces.specs.declared.Step.{Step}
use Rattle.query_survey.specs.declared.Which.{Which}
use Rattle.query_survey.specs.Names.{name_in, names_in, as_list, found_at}

pub mem_append : (w : Bytes) (a b : List Bytes) → mem w (a ++ b) ≡ (mem w a || mem w b)
unfolding mem any
mem_append w [] b = refl
mem_append w (x ∷ a) b = rw (mem_append w a b) (go (same w x) (any (same w) a) (any (same w) b))
  where
    go : (t x y : Bool) → pick t true (x || y) ≡ (pick t true x || y)
    go true x y = refl
    go false x y = refl

-- a name in a list of one or none
pub name_is : (s : Bytes) (w : Which) (p : Piece) (n : Bytes) (r : Option Part) → as_list s r ≡ name_in w p → (q : Part) → r ≡ Some q
    → same n (name_at s q) ≡ mem n (name_in w p)
unfolding as_list mem any
name_is s w p n r h q e = rw (← h, e) (sym (go (same n (name_at s q))))
  where
    go : (t : Bool) → pick t true false ≡ t
    go true = refl
    go false = refl

pub name_none : (s : Bytes) (w : Which) (p : Piece) (n : Bytes) (r : Option Part) → as_list s r ≡ name_in w p → r ≡ None → false ≡ mem n (name_in w p)
unfolding as_list mem any
name_none s w p n r h e = rw (← h, e)

-- the pieces from a place on, one step further
module _ (s : Bytes) (place : Place) (r : Result Step Bool) (h : StepAt s place r) where
  pub step_found : (x : Step) → r ≡ Ok x → walk_at s place ≡ ahead (piece_of s x.piece) (walk_at s x.next)
  unfolding step_of
  step_found x e = h.reads ∙ ap (step_of s) e

  pub step_list : (x : Step) → r ≡ Ok x → found_at s place ≡ piece_of s x.piece ∷ found_at s x.next
  unfolding ahead
  step_list x e = ap (λ (w : Walk). w.found) (step_found x e)

  pub step_whole : (x : Step) → r ≡ Ok x → (walk_at s place).whole ≡ (walk_at s x.next).whole
  unfolding ahead
  step_whole x e = ap (λ (w : Walk). w.whole) (step_found x e)

  pub step_none : (w : Bool) → r ≡ Err w → found_at s place ≡ []
  unfolding step_of stopped
  step_none w e = ap (λ (w : Walk). w.found) (h.reads ∙ ap (step_of s) e)

  pub step_ends : (w : Bool) → r ≡ Err w → (walk_at s place).whole ≡ w
  unfolding step_of stopped
  step_ends w e = ap (λ (w : Walk). w.whole) (h.reads ∙ ap (step_of s) e)

module _ (n : Bytes) (w : Which) (count i : ℕ) (l : i < count) (p : Piece) (ps qs : List Piece) (e : ps ≡ p ∷ qs) where
  pub stands_on : mem n (name_in w p) ≡ false → mem n (names_in w (take (count - i) ps)) ≡ mem n (names_in w (take (count - (i + 1)) qs))
  unfolding joined
  stands_on h = let d : count - i ≡ suc (count - (i + 1)) = omega arith in rw (e, d, mem_append n (name_in w p) (names_in w (take (count - (i + 1)) qs)), h)

  pub stands_here : mem n (name_in w p) ≡ true → mem n (names_in w (take (count - i) ps)) ≡ true
  unfolding joined
  stands_here h = let d : count - i ≡ suc (count - (i + 1)) = omega arith in rw (e, d, mem_append n (name_in w p) (names_in w (take (count - (i + 1)) qs)), h)

pub stands_none : (n : Bytes) (w : Which) (count : ℕ) (ps : List Piece) → ps ≡ [] → mem n (names_in w (take count ps)) ≡ false
unfolding joined mem any
stands_none n w count ps e = rw (e, lib.Seq.take-nil count)

pub stands_end : (n : Bytes) (w : Which) (count i : ℕ) (ps : List Piece) → count ≤ i → mem n (names_in w (take (count - i) ps)) ≡ false
unfolding joined mem any
stands_end n w count i ps l = let d : count - i ≡ 0 = omega arith in rw d

-- a text has no more pieces than bytes
pick_bound : (t : Bool) (x y : List Sign) (n : ℕ) → length x ≤ n → length y ≤ n → length (pick t x y) ≤ n
pick_bound true x y n h k = h
pick_bound false x y n h k = k

signs_bound : (c k : Bool) (n : ℕ) (s : Bytes) → length (signs c k n s) ≤ length s
unfolding signs
signs_bound c k n [] = omega arith
signs_bound c k (suc n) (b ∷ s) = omega (arith, signs_bound c k n s)
signs_bound c k zero (b ∷ s) =
    let g = sign_at c b s in
    pick_bound (eqb b 32 || eqb b 10) _ _ (suc (length s)) (omega (arith, signs_bound c false 0 s))
    (omega (arith, signs_bound (chain_behind c g.got) (wordy g.got) (g.size - 1) s))

walk_bound : (p : Spot) (k : ℕ) (ts : List Sign) → length (walk p k ts).found ≤ length ts
unfolding walk stopped or_stopped and_then ahead
walk_bound p k [] = omega arith
walk_bound p (suc k) (t ∷ ts) = omega (arith, walk_bound p k ts)
walk_bound p zero (t ∷ ts) = go (piece_at p t ts) (λ g. walk_bound (spot_after g.got) (g.size - 1) ts)
  where
    go : (m : Maybe (Got Piece)) → ((g : Got Piece) → length (walk (spot_after g.got) (g.size - 1) ts).found ≤ length ts)
        → length (or_stopped (and_then m (λ g. just (ahead g.got (walk (spot_after g.got) (g.size - 1) ts))))).found ≤ suc (length ts)
    go nothing h = omega arith
    go (just g) h = omega (arith, h g)

pub found_bound : (s : Bytes) (place : Place) → length (found_at s place) ≤ length s
unfolding walk_at
found_bound s place =
    omega (
      arith,
      walk_bound (spot_of place.spot) 0 (signs_from (chain_at place.spot) place.close s place.at),
      signs_bound (chain_at place.spot)
          place.close 0 (drop place.at s),
      length-drop place.at s,
    )

-- one piece further in a text
module _ (text : List Piece) (i : ℕ) (p : Piece) (qs : List Piece) (e : drop i text ≡ p ∷ qs) where
  pub further_in : i < length text
  further_in = let z : length text - i ≡ suc (length qs) = sym (length-drop i text) ∙ ap length e in omega arith

  pub further_rest : drop (i + 1) text ≡ qs
  further_rest = sym (drop-drop 1 i text) ∙ ap (drop 1) e

  pub further_done : take (i + 1) text ≡ take i text ++ (p ∷ [])
  further_done = rw add-one (take-suc text i p further_in ∙ ap (λ x. take i text ++ (x ∷ [])) head)
    where
      head : get_or text i p ≡ p
      head = let z = drop-cons text i p further_in in cc

-- the names of a link, whichever way it points
module _ (s : Bytes) (l : Link) where
  pub linked_vertex : (points : Bool) → vertex_in (piece_of s (piece.Linked points l)) ≡ name_at s l.vertex ∷ []
  unfolding vertex_in piece_of
  linked_vertex true = refl
  linked_vertex false = refl

  pub linked_edge : (points : Bool) → edge_in (piece_of s (piece.Linked points l)) ≡ name_at s l.edge ∷ []
  unfolding edge_in piece_of
  linked_edge true = refl
  linked_edge false = refl

-- a piece that is none of those with a name of the kind
module _ (s : Bytes) where
  pub no_vertex : (p : PieceData) → ((v : Part) → p ≡ piece.Start v → ⊥) → ((points : Bool) (l : Link) → p ≡ piece.Linked points l → ⊥)
      → [] ≡ vertex_in (piece_of s p)
  unfolding vertex_in piece_of
  no_vertex (piece.Start v) h k = absurd (h v refl)
  no_vertex (piece.Linked points l) h k = absurd (k points l refl)
  no_vertex (piece.Differ v u) h k = refl
  no_vertex (piece.Asks d) h k = refl
  no_vertex (piece.Returns v) h k = refl

  pub no_edge : (p : PieceData) → ((points : Bool) (l : Link) → p ≡ piece.Linked points l → ⊥) → [] ≡ edge_in (piece_of s p)
  unfolding edge_in piece_of
  no_edge (piece.Start v) k = refl
  no_edge (piece.Linked points l) k = absurd (k points l refl)
  no_edge (piece.Differ v u) k = refl
  no_edge (piece.Asks d) k = refl
  no_edge (piece.Returns v) k = refl

  pub no_return : (p : PieceData) → ((v : Part) → p ≡ piece.Returns v → ⊥) → [] ≡ return_in (piece_of s p)
  unfolding return_in piece_of
  no_return (piece.Start v) h = refl
  no_return (piece.Linked true l) h = refl
  no_return (piece.Linked false l) h = refl
  no_return (piece.Differ v u) h = refl
  no_return (piece.Asks d) h = refl
  no_return (piece.Returns v) h = absurd (h v refl)
