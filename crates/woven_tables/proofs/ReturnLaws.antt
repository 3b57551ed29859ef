-- Laws of the Return table: a stored number stands behind those there. Assumes nothing.
use Prim.Native.Nat.{ℕ, ◌+◌, ◌<◌, ◌≤◌}
use mathlib.Core.Path.{◌≡◌, refl, sym, ap, ap₂, ◌∙◌}
use mathlib.Core.Logic.{⊎_elim}
use mathlib.Core.List.{List, [], ◌∷◌, ◌++◌, map}
use native.Mathlib.Numerals.{add-one}
use native.Mathlib.Omega.{arith}
use lib.ListN.{length, get_or, set, take, length-set}
use lib.Seq.{get_or-set_same, get_or-set_other, take-suc}
use Rattle.book_tables.proofs.ListedLaws.{listed_none, listed_more, listed_same, map_end}
use Rattle.woven_tables.specs.Tables.{returns_at, woven_words}
use Rattle.woven_tables.specs.Steps.{ReturnsAdded}

-- Return vertices that were there stay
pub returns_same : (old new : List ℕ) (n : ℕ) → ((i : ℕ) → 408 ≤ i → i < 408 + n → get_or new i 0 ≡ get_or old i 0) → returns_at new n ≡ returns_at old n
unfolding returns_at
returns_same old new n f = listed_same _ _ n (λ i l. f (408 + i) (omega arith) (omega arith))

-- the first i Return vertices of a text are stored
pub record ReturnsSoFar (returns : List ℕ) (i : ℕ) (numbers old new : List ℕ) : Type 0 where
  pub size : length new ≡ length old
  pub added : ReturnsAdded returns i numbers old new

pub returns_start : (returns numbers old : List ℕ) → ReturnsSoFar returns 0 numbers old old
unfolding returns_at
returns_start returns numbers old = record { size = refl; added = record { returns_are = listed_none _; kept = λ i z. refl } }

pub returns_more : (returns : List ℕ) (i : ℕ) (numbers old words : List ℕ) → ReturnsSoFar returns i numbers old words → i < length returns → i < 4
    → woven_words ≤ length words
    → ReturnsSoFar returns (i + 1) numbers old (set words (408 + i) (get_or numbers (get_or returns i 0) 0))
unfolding returns_at
returns_more returns i numbers old words so_far more few size =
    let x = get_or numbers (get_or returns i 0) 0 in
    let new = set words (408 + i) x in
    record {
      size = length-set words (408 + i) x ∙ so_far.size;
      added = record {
        returns_are =
            listed_more _ i
            ∙ ap₂ (λ xs y. xs ++ (y ∷ [])) (returns_same words new i (λ j l u. get_or-set_other words (408 + i) j x 0 (λ e. omega arith))
            ∙ so_far.added.returns_are) (get_or-set_same words (408 + i) x 0 (omega arith))
            ∙ sym (ap (λ n. map (λ v. get_or numbers v 0) (take n returns)) (add-one i) ∙ ap (map (λ v. get_or numbers v 0)) (take-suc returns i 0 more)
            ∙ map_end (λ v. get_or numbers v 0) (take i returns) (get_or returns i 0));
        kept = λ j z. get_or-set_other words (408 + i) j x 0 (λ e. ⊎_elim (λ y. omega arith) (λ y. omega arith) z) ∙ so_far.added.kept j z;
      };
    }
