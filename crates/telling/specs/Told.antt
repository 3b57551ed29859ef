-- An outcome told in numbers: whether it is accepted, what it gives, and the three numbers of a refusal; what does not apply is 0.
use Rattle.std.specs.Prelude.{ℕ, ◌≡◌, Bool, true, false, cond, Result, Ok, Err}
use Rattle.model.specs.Refusal.{Refusal, Outcome, accepted, refused}
use Rattle.model.specs.Service.{BookAnswer, RulesAnswer, ListAnswer}
use Rattle.model.specs.declared.Refusal.{Refusal as RefusalData}

-- whether an outcome is accepted
unfoldable pub accepts : {A : Type 0} → Outcome A → Bool
accepts (accepted a) = true
accepts (refused r) = false

-- a number of what is accepted, or 0
unfoldable pub told : {A : Type 0} → (A → ℕ) → Outcome A → ℕ
told f (accepted a) = f a
told f (refused r) = 0

-- a number of a refusal, or 0
unfoldable pub refused_by : {A : Type 0} → (Refusal → ℕ) → Outcome A → ℕ
refused_by f (accepted a) = 0
refused_by f (refused r) = f r

-- whether an answer accepts
unfoldable pub accepting : {A : Type 0} → Result A RefusalData → Bool
accepting (Ok a) = true
accepting (Err r) = false

-- a number of an answer's refusal, or 0
unfoldable pub of_refusal : {A : Type 0} → (RefusalData → ℕ) → Result A RefusalData → ℕ
of_refusal f (Ok a) = 0
of_refusal f (Err r) = f r

-- the verdict of an answer told by itself and the three numbers of a refusal
pub record VerdictTold {A : Type 0} (v : Result A RefusalData) (r : Bool) (n t l : ℕ) : Type 0 where
  pub verdict : r ≡ accepting v
  pub number : n ≡ of_refusal (λ x. x.number) v
  pub text : t ≡ of_refusal (λ x. x.text) v
  pub line : l ≡ of_refusal (λ x. x.line) v

-- the verdict and the three numbers that tell an outcome
pub record Told {A : Type 0} (o : Outcome A) (r : Bool) (n t l : ℕ) : Type 0 where
  pub verdict : r ≡ accepts o
  pub number : n ≡ refused_by (λ x. x.number) o
  pub text : t ≡ refused_by (λ x. x.text) o
  pub line : l ≡ refused_by (λ x. x.line) o

-- a book told by its counts
pub record BookTold (o : Outcome BookAnswer) (r : Bool) (x y z n t l : ℕ) : Type 0 where
  pub told_as : Told o r n t l
  pub nodes : x ≡ told (λ a. a.nodes) o
  pub relationships : y ≡ told (λ a. a.rels) o
  pub entries : z ≡ told (λ a. a.entries) o

-- the names of a book's nodes told by their count
pub record NamesTold (o : Outcome BookAnswer) (r : Bool) (x n t l : ℕ) : Type 0 where
  pub told_as : Told o r n t l
  pub count : x ≡ told (λ a. a.nodes) o

-- rules told by their counts
pub record RulesTold (o : Outcome RulesAnswer) (r : Bool) (x y n t l : ℕ) : Type 0 where
  pub told_as : Told o r n t l
  pub categories : x ≡ told (λ a. a.categories) o
  pub policies : y ≡ told (λ a. a.policies) o

-- a number that is given: a written query's length
pub record CountTold (o : Outcome ℕ) (r : Bool) (x n t l : ℕ) : Type 0 where
  pub told_as : Told o r n t l
  pub count : x ≡ told (λ a. a) o

-- a list told by the number of its rows and of their Return names
pub record RowsTold (o : Outcome ListAnswer) (r : Bool) (x w n t l : ℕ) : Type 0 where
  pub told_as : Told o r n t l
  pub count : x ≡ told (λ a. a.rows) o
  pub width : w ≡ told (λ a. a.width) o

-- the lamp told by 1 for yes and 0 for no
pub record LampTold (o : Outcome Bool) (r : Bool) (x n t l : ℕ) : Type 0 where
  pub told_as : Told o r n t l
  pub yes : x ≡ told (λ a. cond a 1 0) o
