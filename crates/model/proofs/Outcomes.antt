-- What an accepted outcome says: of its bytes, of its table of faults, of each of its lines.
use Prim.Native.Nat.{ℕ, ◌+◌, ◌≤◌}
use mathlib.Core.Path.{◌≡◌, refl, subst}
use mathlib.Core.Logic.{◌⊎◌, inl, inr, ◌↔◌}
use mathlib.Core.List.{List, [], ◌∷◌}
use mathlib.Core.Bool.{Bool, true, false}
use native.Mathlib.Omega.{arith}
use lib.ListN.{length}
use lib.Dec.{T, ltb, ltb→lt, nltb→le}
use Rattle.model.specs.Bytes.{Bytes}
use Rattle.model.specs.Choice.{pick, Maybe, nothing, just, and_then}
use Rattle.model.specs.Refusal.{Refusal, Outcome, accepted, refused, on_accept, refusal, refused_if, Row, ◌if◌, lowest}
use Rattle.model.specs.Lines.{bad_line, Line, Step, fault, known, step_then, read_lines, refused_at, bytes_first, fault_or, form_step}
use Rattle.model.specs.Graph.{Each}
use Rattle.model.proofs.Members.{is_false, each_i}

-- a refusal is no acceptance
pub never : {A : Type 0} {C : Type 0} (r : Refusal) (a : A) → ◌≡◌ {A = Outcome A} (refused r) (accepted a) → C
never r a e = let z : ◌≡◌ {A = ℕ} 0 1 = cc in absurd (omega arith)

-- nothing is not there
pub no_just : {A C : Type 0} (a : A) → ◌≡◌ {A = Maybe A} nothing (just a) → C
no_just a e = let z : ◌≡◌ {A = ℕ} 0 1 = cc in absurd (omega arith)

-- what `and_then` gave, it gave from something
pub then_e : {A B : Type 0} (m : Maybe A) (f : A → Maybe B) (y : B) → and_then m f ≡ just y → (a : A) × (m ≡ just a) × (f a ≡ just y)
unfolding and_then
then_e nothing f y e = no_just y e
then_e (just a) f y e = (a, refl, e)

-- what a choice gave, one of its sides gave
pub pick_e : {A : Type 0} (t : Bool) (m n : Maybe A) (y : A) → pick t m n ≡ just y → (m ≡ just y) ⊎ (n ≡ just y)
pick_e true m n y e = inl e
pick_e false m n y e = inr e

-- a choice of a refusal or an outcome is accepted by the outcome
pub else_e : {A : Type 0} (c : Bool) (r : Refusal) (o : Outcome A) (a : A) → pick c (refused r) o ≡ accepted a → (c ≡ false) × (o ≡ accepted a)
else_e true r o a e = never r a e
else_e false r o a e = (refl, e)

-- a text whose bytes come first: it is not too long, its bytes are allowed, and the rest accepts
pub record BytesAccepted {A : Type 0} (n : ℕ) (s : Bytes) (o : Outcome A) (a : A) : Type 0 where
  pub short : length s ≤ n
  pub allowed : bad_line 1 s ≡ nothing
  pub rest : o ≡ accepted a

-- accepted bytes are such bytes
pub bytes_accepted : {A : Type 0} (t n : ℕ) (f : ℕ → ℕ) (s : Bytes) (o : Outcome A) (a : A) → bytes_first t n f s o ≡ accepted a → BytesAccepted n s o a
unfolding bytes_first refused_at refusal
bytes_accepted {A} t n f s o a e =
    let r = else_e (ltb n (length s)) (record { number = 1; text = t; line = 0 }) (refused_at (bad_line 1 s) t f o) a e in
    let u = second (bad_line 1 s) r.1 in
    record { short = nltb→le n (length s) (rw r.0 tt); allowed = u.0; rest = u.1 }
  where
    second : (m : Maybe ℕ) → refused_at m t f o ≡ accepted a → (m ≡ nothing) × (o ≡ accepted a)
    second nothing e = (refl, e)
    second (just l) e = never _ a e

-- such bytes are accepted
pub accept_bytes : {A : Type 0} (t n : ℕ) (f : ℕ → ℕ) (s : Bytes) (o : Outcome A) (a : A) → BytesAccepted n s o a → bytes_first t n f s o ≡ accepted a
unfolding bytes_first refused_at
accept_bytes t n f s o a h = rw (is_false (ltb n (length s)) (λ u. let z = ltb→lt n (length s) u in omega (arith, h.short)), h.allowed) h.rest

-- what follows accepted bytes accepts
pub bytes_e : {A : Type 0} (t n : ℕ) (f : ℕ → ℕ) (s : Bytes) (o : Outcome A) (a : A) → bytes_first t n f s o ≡ accepted a → o ≡ accepted a
bytes_e t n f s o a e = (bytes_accepted t n f s o a e).rest

-- an accepted outcome that goes on went on from an accepted one
pub accept_e : {A B : Type 0} (o : Outcome A) (f : A → Outcome B) (y : B) → on_accept o f ≡ accepted y → (a : A) × (o ≡ accepted a) × (f a ≡ accepted y)
unfolding on_accept
accept_e (accepted a) f y e = (a, refl, e)
accept_e (refused r) f y e = never r y e

-- accepted where a fault would refuse: there is none
pub if_e : {A : Type 0} (m : Maybe ℕ) (t l : ℕ) (o : Outcome A) (a : A) → refused_if m t l o ≡ accepted a → (m ≡ nothing) × (o ≡ accepted a)
unfolding refused_if refusal
if_e nothing t l o a e = (refl, e)
if_e (just n) t l o a e = never _ a e

-- a table gives no fault exactly if none of its rows is found
pub no_fault : (rs : List Row) → (lowest rs ≡ nothing) ↔ Each (λ r. T r.found → ⊥) rs
unfolding lowest
no_fault [] = (λ e. tt, λ u. refl)
no_fault (r ∷ rs) = go r.found (no_fault rs)
  where
    Later : Type 0
    Later = Each (λ (y : Row). T y.found → ⊥) rs

    go : (x : Bool) → (lowest rs ≡ nothing) ↔ Later → (pick x (just r.fault) (lowest rs) ≡ nothing) ↔ ((T x → ⊥) × Later)
    go true ih = (λ e. let z : ◌≡◌ {A = ℕ} 0 1 = cc in absurd (omega arith), λ u. absurd (u.0 tt))
    go false ih = (λ e. (λ t. t, ih.0 e), λ u. ih.1 u.1)

-- the first row of a table without a fault does not hold
pub lowest_e : (n : ℕ) (x : Bool) (rs : List Row) → lowest ((n if x) ∷ rs) ≡ nothing → T x → ⊥
lowest_e n x rs e = ((no_fault ((n if x) ∷ rs)).0 e).0

-- a line that was read has a form, and what follows the form reads it
pub form_e : {S L : Type 0} (m : Maybe L) (f : L → Step S) (y : S) → form_step m f ≡ known y → (l : L) × (m ≡ just l) × (f l ≡ known y)
unfolding form_step
form_e nothing f y e = let w : ◌≡◌ {A = ℕ} 0 1 = cc in absurd (omega arith)
form_e (just l) f y e = (l, refl, e)

-- a line that was read has no fault
pub fault_e : {S : Type 0} (m : Maybe ℕ) (z y : S) → fault_or m z ≡ known y → (m ≡ nothing) × (z ≡ y)
unfolding fault_or
fault_e nothing z y e = (refl, cc)
fault_e (just n) z y e = let w : ◌≡◌ {A = ℕ} 0 1 = cc in absurd (omega arith)

-- what holds of the state at first, and after a line of these where it held before, holds at the end
pub lines_keep : {S : Type 0} (P : S → Type 0) (Q : Line → Type 0) (t : ℕ) (step : S → Line → Step S)
    → ((x : S) (l : Line) (y : S) → Q l → step x l ≡ known y → P x → P y)
    → (n : ℕ) (x : S) (ls : List Line) (y : S) → Each Q ls → read_lines t step n x ls ≡ accepted y → P x → P y
unfolding read_lines step_then refusal
lines_keep P Q t step h n x [] y q e p = let d : x ≡ y = cc in subst P d p
lines_keep {S} P Q t step h n x (l ∷ ls) y q e p = go (λ z d. lines_keep P Q t step h (n + 1) z ls y q.1 d) (step x l) refl e
  where
    go : ((z : S) → read_lines t step (n + 1) z ls ≡ accepted y → P z → P y) → (s : Step S) → step x l ≡ s
        → step_then s t n (λ z. read_lines t step (n + 1) z ls) ≡ accepted y → P y
    go ih (fault k) d e = never _ y e
    go ih (known z) d e = ih z e (h x l z q.0 d p)

-- the same where nothing is said of the lines
pub lines_inv : {S : Type 0} (P : S → Type 0) (t : ℕ) (step : S → Line → Step S) → ((x : S) (l : Line) (y : S) → step x l ≡ known y → P x → P y)
    → (n : ℕ) (x : S) (ls : List Line) (y : S) → read_lines t step n x ls ≡ accepted y → P x → P y
lines_inv P t step h n x ls y = lines_keep P (λ l. T true) t step (λ x l y q. h x l y) n x ls y (each_i (λ l. T true) ls (λ l k. tt))
