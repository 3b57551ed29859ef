-- A piece that was read, and what follows it, with the signs that it took passed over.
use Prim.Native.Nat.{◌-◌}
use mathlib.Core.Path.{◌≡◌, refl, ap}
use mathlib.Core.List.{List, [], ◌∷◌}
use mathlib.Core.Bool.{Bool, true, false}
use Rattle.model.specs.Bytes.{Bytes, bytes_of}
use Rattle.model.specs.Choice.{pick, Maybe, nothing, just, and_then}
use Rattle.model.specs.Words.{Got}
use Rattle.model.specs.Signs.{Sign, is_mark, sign_name, sign_value, next, expect}
use Rattle.model.specs.Grammar.{Piece, start, returns, in_chain, in_return, spot_after, sign_relation, vertex_at, start_at, link_at, condition_at, return_at}
use Rattle.query_pieces.specs.Walk.{Walk, ahead, or_stopped, walk}
use Rattle.query_pieces.specs.Steps.{pieces_by, vertex_then, link_then, other_then, value_then, rest_then, asked}

-- what is read at the front, made more of with the signs behind the front
module _ (H : Got Piece → List Sign → Maybe Walk) where
  expect_passed : (m : Bytes) (ts : List Sign) (f : List Sign → Maybe (Got Piece)) (F : List Sign → Maybe Walk)
      → ((t : Sign) (r : List Sign) → and_then (f r) (λ g. H g (t ∷ r)) ≡ F r) → and_then (expect m ts f) (λ g. H g ts) ≡ expect m ts F
  unfolding expect and_then
  expect_passed m [] f F h = refl
  expect_passed m (t ∷ ts) f F h = go (is_mark m t)
    where
      go : (x : Bool) → and_then (pick x (f ts) nothing) (λ g. H g (t ∷ ts)) ≡ pick x (F ts) nothing
      go true = h t ts
      go false = refl

  next_passed : {A : Type 0} (r : Sign → Maybe A) (ts : List Sign) (f : A → List Sign → Maybe (Got Piece)) (F : A → List Sign → Maybe Walk)
      → ((a : A) (t : Sign) (ts : List Sign) → and_then (f a ts) (λ g. H g (t ∷ ts)) ≡ F a ts) → and_then (next r ts f) (λ g. H g ts) ≡ next r ts F
  unfolding next and_then
  next_passed r [] f F h = refl
  next_passed {A} r (t ∷ ts) f F h = go (r t)
    where
      go : (m : Maybe A) → and_then (and_then m (λ a. f a ts)) (λ g. H g (t ∷ ts)) ≡ and_then m (λ a. F a ts)
      go nothing = refl
      go (just a) = h a t ts

-- a piece and the walk behind it
abbrev onward : Got Piece → List Sign → Maybe Walk
onward g ts = just (ahead g.got (walk (spot_after g.got) (g.size - 1) ts))

pub start_by : (ts : List Sign) → pieces_by (start_at ts) ts ≡ or_stopped (vertex_then ts (λ v ts. just (ahead (start v) (walk in_chain 0 ts))))
unfolding pieces_by start_at vertex_at vertex_then walk spot_after and_then
start_by ts = ap or_stopped (
    expect_passed onward (bytes_of "(") ts _ _ (λ a ts.
    next_passed (λ g r. onward g (a ∷ r)) sign_name ts _ _ (λ v b ts.
    expect_passed (λ g r. onward g (a ∷ b ∷ r)) (bytes_of ")") ts _ _ (λ c ts. refl))))

pub link_by : (make : Bytes → Bytes → Bytes → Piece) (arrow : Bytes) → ((e l v : Bytes) → spot_after (make e l v) ≡ in_chain) → (ts : List Sign)
    → pieces_by (link_at make arrow ts) ts ≡ or_stopped (link_then arrow ts (λ e l v ts. just (ahead (make e l v) (walk in_chain 0 ts))))
unfolding pieces_by link_at link_then vertex_at vertex_then walk and_then
link_by make arrow h ts = ap or_stopped (
    expect_passed onward (bytes_of "[") ts _ _ (λ a ts.
    next_passed (λ g r. onward g (a ∷ r)) sign_name ts _ _ (λ e b ts.
    expect_passed (λ g r. onward g (a ∷ b ∷ r)) (bytes_of ":") ts _ _ (λ c ts.
    next_passed (λ g r. onward g (a ∷ b ∷ c ∷ r)) sign_name ts _ _ (λ l d ts.
    expect_passed (λ g r. onward g (a ∷ b ∷ c ∷ d ∷ r)) (bytes_of "]") ts _ _ (λ i ts.
    expect_passed (λ g r. onward g (a ∷ b ∷ c ∷ d ∷ i ∷ r)) arrow ts _ _ (λ j ts.
    expect_passed (λ g r. onward g (a ∷ b ∷ c ∷ d ∷ i ∷ j ∷ r)) (bytes_of "(") ts _ _ (λ k ts.
    next_passed (λ g r. onward g (a ∷ b ∷ c ∷ d ∷ i ∷ j ∷ k ∷ r)) sign_name ts _ _ (λ v m ts.
    expect_passed (λ g r. onward g (a ∷ b ∷ c ∷ d ∷ i ∷ j ∷ k ∷ m ∷ r)) (bytes_of ")") ts _ _ (λ n ts. rw (h e l v)))))))))))

pub return_by : (ts : List Sign) → pieces_by (return_at ts) ts ≡ or_stopped (next sign_name ts (λ v ts. just (ahead (returns v) (walk in_return 0 ts))))
unfolding pieces_by return_at walk spot_after and_then
return_by ts = ap or_stopped (next_passed onward sign_name ts _ _ (λ v a ts. refl))

pick_passed : (t : Bool) (x y : Maybe (Got Piece)) (a b : Maybe Walk) (H : Got Piece → Maybe Walk) → and_then x H ≡ a → and_then y H ≡ b
    → and_then (pick t x y) H ≡ pick t a b
pick_passed true x y a b H h k = h
pick_passed false x y a b H h k = k

pub condition_by : (ts : List Sign) → pieces_by (condition_at ts) ts ≡ or_stopped (next sign_name ts (λ x ts. rest_then x ts asked))
unfolding pieces_by condition_at rest_then other_then value_then walk spot_after and_then
condition_by ts = ap or_stopped (
    next_passed onward sign_name ts _ _ (λ x a ts.
    next_passed (λ g r. onward g (a ∷ r)) just ts _ _ (λ t b ts.
    pick_passed (is_mark (bytes_of "<>") t) _ _ _ _ (λ g. onward g (a ∷ b ∷ ts))
    (next_passed (λ g r. onward g (a ∷ b ∷ r)) sign_name ts _ _ (λ u c ts. refl))
    (pick_passed (is_mark (bytes_of ".") t) _ _ _ _ (λ g. onward g (a ∷ b ∷ ts))
    (next_passed (λ g r. onward g (a ∷ b ∷ r)) sign_name ts _ _ (λ y c ts.
    next_passed (λ g r. onward g (a ∷ b ∷ c ∷ r)) sign_relation ts _ _ (λ r d ts.
    next_passed (λ g r. onward g (a ∷ b ∷ c ∷ d ∷ r)) sign_value ts _ _ (λ v i ts. refl))))
    refl))))
