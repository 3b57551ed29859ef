-- A walk gives the pieces of the grammar, and each stands where it may.
use Prim.Native.Nat.{ℕ, zero, suc, ◌-◌}
use mathlib.Core.Path.{◌≡◌, refl}
use mathlib.Core.List.{List, [], ◌∷◌}
use mathlib.Core.Bool.{Bool, true, false}
use lib.Dec.{T}
use Rattle.model.specs.Bytes.{Bytes, bytes_of}
use Rattle.model.specs.Choice.{pick, Maybe, nothing, just, and_then}
use Rattle.model.specs.Words.{Got}
use Rattle.model.specs.Signs.{Sign, is_word, is_mark, sign_name, sign_value, next, expect}
use Rattle.model.specs.QueryText.{differ, demand}
use Rattle.model.specs.Grammar.{Piece, start, goes, comes, asks, returns, Spot, at_start, in_chain, in_where, in_return, spot_after, sign_relation}
use Rattle.model.specs.Grammar.{vertex_at, start_at, link_at, condition_at, return_at, piece_at, ends_at, pieces}
use Rattle.query_pieces.specs.Walk.{Walk, stopped, ahead, or_stopped, ends_well, walk, may_stand, Ordered}

-- what a walk found, if the grammar is kept
abbrev pub kept : Walk → Maybe (List Piece)
kept w = pick w.whole (just w.found) nothing

ends_kept : (p : Spot) → ends_at p ≡ kept (stopped (ends_well p))
unfolding ends_at stopped ends_well
ends_kept at_start = refl
ends_kept in_chain = refl
ends_kept in_where = refl
ends_kept in_return = refl

ahead_kept : (p : Piece) (w : Walk) → and_then (kept w) (λ ps. just (p ∷ ps)) ≡ kept (ahead p w)
unfolding and_then ahead
ahead_kept p w = go w.whole
  where
    go : (t : Bool) → and_then (pick t (just w.found) nothing) (λ ps. just (p ∷ ps)) ≡ pick t (just (p ∷ w.found)) nothing
    go true = refl
    go false = refl

pub pieces_are_walked : (p : Spot) (k : ℕ) (ts : List Sign) → pieces p k ts ≡ kept (walk p k ts)
unfolding pieces walk and_then or_stopped stopped
pieces_are_walked p k [] = ends_kept p
pieces_are_walked p (suc k) (t ∷ ts) = pieces_are_walked p k ts
pieces_are_walked p zero (t ∷ ts) = go (piece_at p t ts) (λ g. pieces_are_walked (spot_after g.got) (g.size - 1) ts)
  where
    go : (m : Maybe (Got Piece)) → ((g : Got Piece) → pieces (spot_after g.got) (g.size - 1) ts ≡ kept (walk (spot_after g.got) (g.size - 1) ts))
        → and_then m (λ g. and_then (pieces (spot_after g.got) (g.size - 1) ts) (λ ps. just (g.got ∷ ps)))
        ≡ kept (or_stopped (and_then m (λ g. just (ahead g.got (walk (spot_after g.got) (g.size - 1) ts)))))
    go nothing h = refl
    go (just g) h = rw (h g) (ahead_kept g.got (walk (spot_after g.got) (g.size - 1) ts))

-- what holds of whatever is there
abbrev Where : {A : Type 0} → (A → Type 0) → Maybe A → Type 0
Where P nothing = T true
Where P (just a) = P a

-- a piece that was read may stand at a spot
abbrev Stands : Spot → Maybe (Got Piece) → Type 0
Stands p m = Where (λ (g : Got Piece). T (may_stand p g.got)) m

module _ (p : Spot) where
  choice_stands : (t : Bool) (x y : Maybe (Got Piece)) → Stands p x → Stands p y → Stands p (pick t x y)
  choice_stands true x y h k = h
  choice_stands false x y h k = k

  then_stands : {A : Type 0} (m : Maybe A) (f : A → Maybe (Got Piece)) → ((a : A) → Stands p (f a)) → Stands p (and_then m f)
  unfolding and_then
  then_stands nothing f h = tt
  then_stands (just a) f h = h a

  next_stands : {A : Type 0} (read : Sign → Maybe A) (ts : List Sign) (f : A → List Sign → Maybe (Got Piece))
      → ((a : A) (ts : List Sign) → Stands p (f a ts)) → Stands p (next read ts f)
  unfolding next
  next_stands read [] f h = tt
  next_stands read (t ∷ ts) f h = then_stands (read t) (λ a. f a ts) (λ a. h a ts)

  expect_stands : (m : Bytes) (ts : List Sign) (f : List Sign → Maybe (Got Piece)) → ((ts : List Sign) → Stands p (f ts)) → Stands p (expect m ts f)
  unfolding expect
  expect_stands m [] f h = tt
  expect_stands m (t ∷ ts) f h = choice_stands (is_mark m t) (f ts) nothing (h ts) tt

  vertex_stands : (ts : List Sign) (f : Bytes → Maybe (Got Piece)) → ((v : Bytes) → Stands p (f v)) → Stands p (vertex_at ts f)
  unfolding vertex_at
  vertex_stands ts f h = expect_stands _ ts _ (λ ts. next_stands sign_name ts _ (λ v ts. expect_stands _ ts _ (λ ts. h v)))

  start_stands : ((v : Bytes) → T (may_stand p (start v))) → (ts : List Sign) → Stands p (start_at ts)
  unfolding start_at
  start_stands h ts = vertex_stands ts _ h

  link_stands : (make : Bytes → Bytes → Bytes → Piece) (arrow : Bytes) → ((e l v : Bytes) → T (may_stand p (make e l v))) → (ts : List Sign)
      → Stands p (link_at make arrow ts)
  unfolding link_at
  link_stands make arrow h ts =
      expect_stands _ ts _ (λ ts.
      next_stands sign_name ts _ (λ e ts.
      expect_stands _ ts _ (λ ts.
      next_stands sign_name ts _ (λ l ts.
      expect_stands _ ts _ (λ ts.
      expect_stands _ ts _ (λ ts.
      vertex_stands ts _ (λ v. h e l v)))))))

  return_stands : ((v : Bytes) → T (may_stand p (returns v))) → (ts : List Sign) → Stands p (return_at ts)
  unfolding return_at
  return_stands h ts = next_stands sign_name ts _ (λ v ts. h v)

  condition_stands : ((c : Rattle.model.specs.QueryText.Condition) → T (may_stand p (asks c))) → (ts : List Sign) → Stands p (condition_at ts)
  unfolding condition_at
  condition_stands h ts =
      next_stands sign_name ts _ (λ x ts.
      next_stands just ts _ (λ t ts.
      choice_stands (is_mark (bytes_of "<>") t) _ _
      (next_stands sign_name ts _ (λ u ts. h (differ x u)))
      (choice_stands (is_mark (bytes_of ".") t) _ _
      (next_stands sign_name ts _ (λ a ts. next_stands sign_relation ts _ (λ r ts. next_stands sign_value ts _ (λ v ts. h (demand x a r v))))) tt)))

piece_stands : (p : Spot) (t : Sign) (ts : List Sign) → Stands p (piece_at p t ts)
unfolding piece_at may_stand
piece_stands at_start t ts = choice_stands at_start (is_word (bytes_of "Match") t) _ _ (start_stands at_start (λ v. tt) ts) tt
piece_stands in_chain t ts =
    choice_stands in_chain (is_mark (bytes_of "-") t) _ _ (link_stands in_chain goes (bytes_of "->") (λ e l v. tt) ts)
    (choice_stands in_chain (is_mark (bytes_of "<-") t) _ _ (link_stands in_chain comes (bytes_of "-") (λ e l v. tt) ts)
    (choice_stands in_chain (is_word (bytes_of "Where") t) _ _ (condition_stands in_chain (λ c. tt) ts)
    (choice_stands in_chain (is_word (bytes_of "Match") t) _ _ (start_stands in_chain (λ v. tt) ts)
    (choice_stands in_chain (is_word (bytes_of "Return") t) _ _ (return_stands in_chain (λ v. tt) ts) tt))))
piece_stands in_where t ts =
    choice_stands in_where (is_word (bytes_of "AND") t) _ _ (condition_stands in_where (λ c. tt) ts)
    (choice_stands in_where (is_word (bytes_of "Match") t) _ _ (start_stands in_where (λ v. tt) ts)
    (choice_stands in_where (is_word (bytes_of "Return") t) _ _ (return_stands in_where (λ v. tt) ts) tt))
piece_stands in_return t ts = choice_stands in_return (is_mark (bytes_of ",") t) _ _ (return_stands in_return (λ v. tt) ts) tt

pub walk_ordered : (p : Spot) (k : ℕ) (ts : List Sign) → Ordered p (walk p k ts).found
unfolding walk Ordered stopped and_then or_stopped ahead
walk_ordered p k [] = tt
walk_ordered p (suc k) (t ∷ ts) = walk_ordered p k ts
walk_ordered p zero (t ∷ ts) = go (piece_at p t ts) (piece_stands p t ts) (λ g. walk_ordered (spot_after g.got) (g.size - 1) ts)
  where
    go : (m : Maybe (Got Piece)) → Stands p m → ((g : Got Piece) → Ordered (spot_after g.got) (walk (spot_after g.got) (g.size - 1) ts).found)
        → Ordered p (or_stopped (and_then m (λ g. just (ahead g.got (walk (spot_after g.got) (g.size - 1) ts))))).found
    go nothing k h = tt
    go (just g) k h = (k, h g)
