-- A walk along a chain, from what its iterator says. Assumes nothing.
use Prim.Native.Nat.{ℕ, ◌+◌}
use mathlib.Core.Path.{◌≡◌, refl, ap₂, ◌∙◌}
use mathlib.Core.List.{List}
use native.Mathlib.Omega.{arith}
use Rattle.std.specs.Prelude.{Some}
use Rattle.chains.specs.Chains.{word_at}
use Rattle.chains.specs.declared.walk.Chain.{Chain}
use Rattle.chains.specs.Walks.{Falls, OnChain, Follows}

-- ---- where it begins
module _ (words : List ℕ) (links entry : ℕ) (c : Chain) (w : OnChain words links entry c) where
  pub begins_falling : Falls words links entry → Falls c.words.now c.links c.entry
  begins_falling f = rw (w.words_are, w.links_are, w.stands) f

  pub begins_on : OnChain words links c.entry c
  begins_on = record { words_are = w.words_are; links_are = w.links_are; stands = refl }

-- ---- a step
module _ (words : List ℕ) (links n : ℕ) (old new : Chain) (s : Follows old (Some n) new) where
  pub still_falling : Falls old.words.now old.links old.entry → Falls new.words.now new.links new.entry
  still_falling f =
      let b = f.lower n (omega (arith, s.0)) in
      rw (s.1.words_are, s.1.links_are) (record {
        room = λ k l. f.room k (omega (arith, s.1.stands, s.0, b));
        lower = λ k l. f.lower k (omega (arith, s.1.stands, s.0, b));
      })

  -- it stands at what is behind the number, in the same words
  module _ (w : OnChain words links old.entry old) where
    pub stands_behind : new.entry ≡ word_at words (links + n)
    stands_behind = s.1.stands ∙ ap₂ (λ (l : List ℕ) (k : ℕ). word_at l (k + n)) w.words_are w.links_are

    pub still_on : OnChain words links new.entry new
    still_on = record { words_are = s.1.words_are ∙ w.words_are; links_are = s.1.links_are ∙ w.links_are; stands = refl }
