-- What the number of entries looked at says: up to the attribute's own, or all of them; what stands behind makes no difference.
use Prim.Native.Nat.{◌+◌, ◌≤◌}
use mathlib.Core.Path.{◌≡◌, refl, subst}
use mathlib.Core.Logic.{⊎_elim}
use mathlib.Core.List.{List, [], ◌∷◌, ◌++◌}
use native.Mathlib.Omega.{arith}
use lib.Dec.{T}
use lib.ListN.{length}
use Rattle.model.specs.Bytes.{Bytes, same}
use Rattle.model.specs.Values.{Entry}
use Rattle.model.specs.Graph.{looked_at}
use Rattle.model.proofs.Decides.{same→eq, same_refl}
use Rattle.model.proofs.Members.{test, is_true, is_false}
use Rattle.model.proofs.AbsentAttributes.{Absent}

module _ (a : Bytes) where
  -- an entry of another attribute is looked at, and then the rest; one of the attribute is the last
  passed : (e : Entry) (es : List Entry) → (e.attr ≡ a → ⊥) → looked_at (e ∷ es) a ≡ 1 + looked_at es a
  unfolding looked_at
  passed e es d = rw (is_false (same e.attr a) (λ t. d (same→eq e.attr a t)))

  own : (e : Entry) (es : List Entry) → e.attr ≡ a → looked_at (e ∷ es) a ≡ 1
  unfolding looked_at
  own e es p = rw (is_true (same e.attr a) (subst (λ z. T (same e.attr z)) p (same_refl e.attr)))

  -- where the attribute is absent, all entries are looked at
  pub looked_at_all : (es : List Entry) → Absent es a → looked_at es a ≡ length es
  looked_at_all [] h = unfold looked_at in refl
  looked_at_all (e ∷ es) h = let first = passed e es h.0 in let rest = looked_at_all es h.1 in omega arith

  -- where it stands behind entries of others, those and its own are looked at, and none behind it
  pub looked_to_its_own : (others : List Entry) (e : Entry) (behind : List Entry) → Absent others a → e.attr ≡ a
      → looked_at (others ++ (e ∷ behind)) a ≡ length others + 1
  looked_to_its_own [] e behind h p = own e behind p
  looked_to_its_own (x ∷ others) e behind h p =
      let first = passed x (others ++ (e ∷ behind)) h.0 in let rest = looked_to_its_own others e behind h.1 p in omega arith

  -- never more than there are
  pub looked_within : (es : List Entry) → looked_at es a ≤ length es
  looked_within [] = unfold looked_at in omega arith
  looked_within (e ∷ es) = ⊎_elim
      (λ t. let one = own e es (same→eq e.attr a t) in omega arith)
      (λ t. let more = passed e es (λ p. t (subst (λ z. T (same e.attr z)) p (same_refl e.attr))) in let rest = looked_within es in omega arith)
      (test (same e.attr a))
