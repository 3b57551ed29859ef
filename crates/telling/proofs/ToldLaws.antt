-- What tells a verdict, and an outcome that is known to be accepted or refused.
use Prim.Native.Nat.{ℕ}
use mathlib.Core.Path.{◌≡◌, sym, ap, ◌∙◌}
use mathlib.Core.Bool.{Bool}
use Rattle.std.specs.Prelude.{Result, Ok, Err}
use Rattle.model.specs.Refusal.{Outcome, accepted, refused}
use Rattle.model.specs.Answers.{refusal_of}
use Rattle.model.specs.declared.Refusal.{Refusal as RefusalData}
use Rattle.telling.specs.Told.{accepts, told, refused_by, accepting, of_refusal, VerdictTold, Told}

-- the verdict of an answer that is known
pub tells : {A : Type 0} (v u : Result A RefusalData) → v ≡ u → VerdictTold v (accepting u) (of_refusal (λ x. x.number) u) (of_refusal (λ x. x.text) u) (of_refusal (λ x. x.line) u)
tells v u e = record {
  verdict = sym (ap accepting e);
  number = sym (ap (of_refusal (λ x. x.number)) e);
  text = sym (ap (of_refusal (λ x. x.text)) e);
  line = sym (ap (of_refusal (λ x. x.line)) e);
}

module _ {A : Type 0} {o : Outcome A} where
  module _ {a : A} (e : accepted a ≡ o) where
    -- accepted: what is told of that verdict, and a number of what is given
    pub accepted_told : {B : Type 0} {x : B} {r : Bool} {n t l : ℕ} → VerdictTold (Ok x) r n t l → Told o r n t l
    unfolding accepting of_refusal accepts refused_by
    accepted_told w = record {
      verdict = w.verdict ∙ ap accepts e;
      number = w.number ∙ ap (refused_by (λ x. x.number)) e;
      text = w.text ∙ ap (refused_by (λ x. x.text)) e;
      line = w.line ∙ ap (refused_by (λ x. x.line)) e;
    }

    pub accepted_value : (f : A → ℕ) → f a ≡ told f o
    unfolding told
    accepted_value f = ap (told f) e

  module _ (q : RefusalData) (e : refused (refusal_of q) ≡ o) where
    -- refused: what is told of that verdict, and that nothing is given
    pub refused_told : {B : Type 0} {r : Bool} {n t l : ℕ} → VerdictTold {A = B} (Err q) r n t l → Told o r n t l
    unfolding accepting of_refusal accepts refused_by refusal_of
    refused_told w = record {
      verdict = w.verdict ∙ ap accepts e;
      number = w.number ∙ ap (refused_by (λ x. x.number)) e;
      text = w.text ∙ ap (refused_by (λ x. x.text)) e;
      line = w.line ∙ ap (refused_by (λ x. x.line)) e;
    }

    pub refused_value : (f : A → ℕ) → 0 ≡ told f o
    unfolding told
    refused_value f = ap (told f) e
