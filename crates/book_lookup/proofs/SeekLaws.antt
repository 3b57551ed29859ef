-- Laws of looking for an attribute among entries, step by step.
use Prim.Native.Nat.{ℕ, zero, suc, ◌+◌, ◌-◌, ◌/◌, ◌≤◌, ◌<◌}
use mathlib.Core.Path.{◌≡◌, refl, ap, ◌∙◌}
use mathlib.Core.Bool.{Bool, true, false}
use mathlib.Core.List.{List}
use native.Mathlib.Omega.{arith}
use lib.Dec.{eqb}
use Rattle.model.specs.Choice.{pick, nothing, just}
use Rattle.book_tables.specs.View.{entry_head}
use Rattle.book_lookup.specs.Entries.{seek}

-- one entry, then the rest
pub seek_step : (words : List ℕ) (attribute k n : ℕ)
    → seek words attribute k (suc n) ≡ pick (eqb (entry_head words k / 4) attribute) (just k) (seek words attribute (k + 1) n)
unfolding seek
seek_step words attribute k n = refl

-- before any entry is looked at
pub seek_begins : (words : List ℕ) (attribute start count : ℕ) → seek words attribute start count ≡ seek words attribute (start + 0) (count - 0)
seek_begins words attribute start count = let first : start + 0 ≡ start = omega arith in let all : count - 0 ≡ count = omega arith in rw (first, all)

module _ (words : List ℕ) (attribute start count i : ℕ) (below : i < count) where
  at_least_one : count - i ≡ suc (count - (i + 1))
  at_least_one = omega arith

  -- an entry of another attribute is passed over
  pub seek_passes : eqb (entry_head words (start + i) / 4) attribute ≡ false
      → seek words attribute (start + i) (count - i) ≡ seek words attribute (start + (i + 1)) (count - (i + 1))
  seek_passes e =
      let next : start + i + 1 ≡ start + (i + 1) = omega arith in
      ap (seek words attribute (start + i)) at_least_one ∙ seek_step words attribute (start + i) (count - (i + 1))
      ∙ ap (λ t. pick t (just (start + i)) (seek words attribute (start + i + 1) (count - (i + 1)))) e ∙ ap (λ z. seek words attribute z (count - (i + 1))) next

  -- an entry of the attribute is the one
  pub seek_finds : eqb (entry_head words (start + i) / 4) attribute ≡ true → seek words attribute (start + i) (count - i) ≡ just (start + i)
  seek_finds e =
      ap (seek words attribute (start + i)) at_least_one ∙ seek_step words attribute (start + i) (count - (i + 1))
      ∙ ap (λ t. pick t (just (start + i)) (seek words attribute (start + i + 1) (count - (i + 1)))) e

-- where no entry is left there is none of the attribute
pub seek_ends : (words : List ℕ) (attribute start count i : ℕ) → count ≤ i → seek words attribute (start + i) (count - i) ≡ nothing
seek_ends words attribute start count i h = let e : count - i ≡ 0 = omega arith in ap (seek words attribute (start + i)) e ∙ none
  where
    none : seek words attribute (start + i) 0 ≡ nothing
    none = unfold seek in refl

-- what is found is one of the entries looked at
pub seek_within : (words : List ℕ) (attribute n start k : ℕ) → seek words attribute start n ≡ just k → (i : ℕ) × (i < n) × (start + i ≡ k)
unfolding seek
seek_within words attribute zero start k e = let o : ◌≡◌ {A = ℕ} 0 1 = cc in absurd (omega arith)
seek_within words attribute (suc n) start k e = go (eqb (entry_head words start / 4) attribute) (seek_within words attribute n (start + 1) k) e
  where
    go : (t : Bool) → (seek words attribute (start + 1) n ≡ just k → (i : ℕ) × (i < n) × (start + 1 + i ≡ k))
        → pick t (just start) (seek words attribute (start + 1) n) ≡ just k → (i : ℕ) × (i < suc n) × (start + i ≡ k)
    go true rest e = let first : start ≡ k = cc in (0, omega arith, omega arith)
    go false rest e = let r = rest e in let below : r.0 < n = r.1 in let place : start + 1 + r.0 ≡ k = r.2 in (suc r.0, omega arith, omega arith)
