-- Laws of arrays of which the first elements count, of the walk over the pieces of a text, and of what a text declares.
use Prim.Native.Nat.{ℕ, zero, suc, ◌+◌, ◌-◌, ◌<◌, ◌≤◌}
use mathlib.Core.Path.{◌≡◌, refl, sym, ap, subst, ◌∙◌}
use mathlib.Core.List.{List, [], ◌∷◌, ◌++◌, map}
use mathlib.Core.Bool.{Bool, true, false, not, ◌||◌}
use mathlib.Core.Logic.{⊎_elim}
use native.Mathlib.Numerals.{add-one}
use native.Mathlib.Omega.{arith}
use lib.ListN.{length, get_or, take, drop, set, replicate, length-map, length-append, take-append-drop}
use lib.Seq.{take-suc, take-suc-set, length-take-le, get_or-set_same, get_or-set_other, drop-drop, drop-set-lt}
use lib.Dec.{T}
use Rattle.std.specs.Prelude.{Result, Ok}
use Rattle.logic.specs.Tests.{either, equal_or_not}
use Rattle.model.specs.Bytes.{Bytes}
use Rattle.model.specs.Lists.{any}
use Rattle.model.specs.Names.{mem, firsts}
use Rattle.model.specs.Book.{Book}
use Rattle.model.specs.Grammar.{Piece, at_start}
use Rattle.model.specs.Query.{ChainEdge}
use Rattle.model.specs.ReadQuery.{has_undeclared}
use Rattle.model.specs.WholeAnswers.{padded}
use Rattle.model.proofs.Members.{◌∈◌, test, is_false, any_i, mem_e}
use Rattle.query_pieces.specs.Walk.{Ordered}
use Rattle.query_pieces.specs.Named.{vertices_in, returns_in, links_from}
use Rattle.query_pieces.specs.Faults.{some_where, undeclared_at}
use Rattle.query_pieces.specs.Steps.{StepAt}
use Rattle.query_pieces.specs.declared.Place.{Place}
use Rattle.query_pieces.specs.declared.Step.{Step}
use Rattle.query_pieces.proofs.Trees.{tree_names, returns_same}
use Rattle.query_pieces.proofs.Tests.{vertex_names_law, undeclared_found}
use Rattle.query_survey.specs.Names.{found_at}
use Rattle.query_survey.proofs.ScanLaws.{step_list}
use Rattle.book_tables.specs.Listed.{listed}
use Rattle.book_tables.proofs.ListedLaws.{map_end}

-- the slots of an array of n past the first count hold one fixed value
abbrev pub Blank : {A : Type 0} → ℕ → A → ℕ → List A → Type 0
Blank n x count l = drop count l ≡ replicate (n - count) x

-- the first elements of an array
module _ {A : Type 0} where
  -- f of them, one after another
  pub taken_listed : {B : Type 0} (f : A → B) (l : List A) (d : A) (n : ℕ) → n ≤ length l → map f (take n l) ≡ listed (λ i. f (get_or l i d)) n
  unfolding listed
  taken_listed f l d zero h = refl
  taken_listed f l d (suc n) h = rw (take-suc l n d)
      (map_end f (take n l) (get_or l n d) ∙ ap (λ z. z ++ (f (get_or l n d) ∷ [])) (taken_listed f l d n (omega arith)))

  pub length_taken : {B : Type 0} (f : A → B) (l : List A) (n : ℕ) → n ≤ length l → length (map f (take n l)) ≡ n
  length_taken f l n h = length-map (take n l) f ∙ length-take-le n l h

  -- one more element behind them
  pub taken_more : {B : Type 0} (f : A → B) (l : List A) (n : ℕ) (x : A) → n < length l → map f (take (n + 1) (set l n x)) ≡ map f (take n l) ++ (f x ∷ [])
  taken_more f l n x h = rw (add-one, take-suc-set l n x) (map_end f (take n l) x)

  pub each_more : (P : A → Type 0) (d : A) (l : List A) (n : ℕ) (x : A) → n < length l → ((i : ℕ) → i < n → P (get_or l i d)) → P x → (i : ℕ) → i < n + 1
      → P (get_or (set l n x) i d)
  each_more P d l n x h each px i less = either (equal_or_not i n)
      (λ e. subst P (sym (ap (λ k. get_or (set l n x) k d) e ∙ get_or-set_same l n x d h)) px)
      (λ e. subst P (sym (get_or-set_other l n i x d e.1)) (each i (omega arith)))

  -- the slots past the count: one fewer, and as the model pads the elements that count
  pub blank_more : (n : ℕ) (d : A) (l : List A) (count : ℕ) (x : A) → count < n → Blank n d count l → Blank n d (count + 1) (set l count x)
  blank_more n d l count x h e =
      let m : n - count ≡ suc (n - (count + 1)) = omega arith in
      drop-set-lt (count + 1) l count x (omega arith) ∙ sym (drop-drop 1 count l) ∙ ap (drop 1) (e ∙ ap (λ k. replicate k d) m)

  pub blank_padded : (n : ℕ) (d : A) (l : List A) (count : ℕ) → count ≤ length l → Blank n d count l → l ≡ padded n d (take count l)
  unfolding padded
  blank_padded n d l count h e = sym (take-append-drop count l) ∙ ap (λ r. take count l ++ r) e
      ∙ ap (λ k. take count l ++ replicate (n - k) d) (sym (length-take-le count l h))

-- what is found, and more of the rest, is no more than all
pub room_for : {A : Type 0} (found more later : List A) {every : List A} → (found ++ more) ++ later ≡ every → length found + length more ≤ length every
room_for found more later e = omega (arith, ap length e, length-append (found ++ more) later, length-append found more)

-- a piece that is read leaves fewer pieces to read
pub fewer_pieces : {s : Bytes} {place : Place} {r : Result Step Bool} → StepAt s place r → {x : Step} → r ≡ Ok x
    → length (found_at s x.next) < length (found_at s place)
fewer_pieces {s} {place} {r} h {x} e = let z = ap length (step_list s place r h x e) in omega arith

-- a test that fails nowhere holds of each element
none_fails : {A : Type 0} (p : A → Bool) (l : List A) → any (λ x. not (p x)) l ≡ false → (x : A) → x ∈ l → T (p x)
none_fails p l h x m = ⊎_elim (λ t. t) (λ f. absurd (subst T h (any_i (λ y. not (p y)) l x m (rw (is_false (p x) f) tt)))) (test (p x))

neither : (a b c : Bool) → (a || b || c) ≡ false → (a ≡ false) × (c ≡ false)
neither false false false h = (refl, refl)
neither true b c h = let z : ◌≡◌ {A = Bool} true false = h in (z, cc)
neither false true c h = let z : ◌≡◌ {A = Bool} true false = h in (refl, cc)
neither false false true h = (refl, h)

-- where all that a text names is declared, so are its labels and its returned names
module _ (b : Book) (ps : List Piece) (ordered : Ordered at_start ps) (h : some_where (undeclared_at b ps) [] ps ≡ false) where
  declared_parts : (any (λ (e : ChainEdge). not (mem e.label b.labels)) (links_from [] ps) ≡ false)
      × (any (λ v. not (mem v (firsts [] (vertices_in ps)))) (returns_in ps) ≡ false)
  unfolding has_undeclared
  declared_parts = neither _ _ _ (rw ((tree_names ps ordered).edges_same, returns_same ps, vertex_names_law ps ordered) at (undeclared_found ps ordered b ∙ h))

  pub label_declared : (e : ChainEdge) → e ∈ links_from [] ps → e.label ∈ b.labels
  label_declared e m = mem_e e.label b.labels (none_fails (λ (x : ChainEdge). mem x.label b.labels) (links_from [] ps) declared_parts.0 e m)

  pub return_declared : (v : Bytes) → v ∈ returns_in ps → v ∈ firsts [] (vertices_in ps)
  return_declared v m = mem_e v (firsts [] (vertices_in ps)) (none_fails (λ x. mem x (firsts [] (vertices_in ps))) (returns_in ps) declared_parts.1 v m)
