-- What follows where no element of a list is like an earlier one, and where entries suit the attributes declared for them.
use mathlib.Core.Path.{◌≡◌, refl, subst}
use mathlib.Core.Logic.{⊎_elim}
use mathlib.Core.List.Memᴰ
use mathlib.Core.List.{List, [], ◌∷◌, ◌++◌, map}
use mathlib.Core.Bool.{Bool, true, false, not, ◌&&◌}
use lib.Dec.{T, T_not}
use Rattle.model.specs.Bytes.{same}
use Rattle.model.specs.Lists.{any, all}
use Rattle.model.specs.Names.{Name, mem, twice, lowered, same_but_case}
use Rattle.model.specs.Values.{Entry, of_kind}
use Rattle.model.specs.Book.{Attr, attr_names}
use Rattle.model.specs.ReadBook.{suits, undeclared}
use Rattle.model.specs.Graph.{Each}
use Rattle.model.proofs.Decides.{and_iff, same→eq, same_refl}
use Rattle.model.proofs.Members.{◌∈◌, test, is_false, each_e, each_i, any_e, all_e, map_i, mem_e, mem_i}
use Rattle.tidying.proofs.Made.{NoneAlike}

-- an element is like none of those before it
pub none_before : {A : Type 0} (alike : A → A → Bool) (before : List A) (x : A) (after : List A) → NoneAlike alike (before ++ (x ∷ after))
    → T (any (alike x) before) → ⊥
unfolding any
none_before alike [] x after h t = t
none_before alike (y ∷ before) x after h t = ⊎_elim
    (each_e (λ z. T (alike z y) → ⊥) (before ++ (x ∷ after)) h.0 x (Memᴰ.append_right before (Memᴰ.head refl)))
    (λ u. none_before alike before x after h.1 (rw (is_false (alike x y) u) at t))
    (test (alike x y))

-- names that are apart case aside are apart
pub case_apart : (names : List Name) → NoneAlike same_but_case names → NoneAlike same names
unfolding same_but_case
case_apart [] h = tt
case_apart (n ∷ names) h = (
  each_i (λ y. T (same y n) → ⊥) names
      (λ y m t. each_e (λ y. T (same_but_case y n) → ⊥) names h.0 y m (rw (same→eq y n t) (same_refl (map lowered n)))),
  case_apart names h.1,
)

-- a name is none of those behind it
pub not_behind : (n : Name) (names : List Name) → Each (λ y. T (same y n) → ⊥) names → T (mem n names) → ⊥
not_behind n names h t = each_e (λ y. T (same y n) → ⊥) names h n (mem_e n names t) (same_refl n)

-- names that are apart stand once
pub apart_once : (names : List Name) → NoneAlike same names → twice names ≡ false
unfolding twice
apart_once [] h = refl
apart_once (n ∷ names) h = rw (is_false (mem n names) (not_behind n names h.0)) (apart_once names h.1)

-- an entry that suits: an attribute of its name is declared
pub suited_by : (ds : List Attr) (e : Entry) → T (suits ds e) → (d : Attr) × (d ∈ ds) × (d.name ≡ e.attr)
unfolding suits
suited_by ds e t =
    let (d, m, u) = any_e (λ d. same d.name e.attr && of_kind d.kind e.value) ds t in
    (d, m, same→eq d.name e.attr ((and_iff (same d.name e.attr) (of_kind d.kind e.value)).1 u).0)

-- so that name is among the declared ones
pub suited_name : (ds : List Attr) (e : Entry) → T (suits ds e) → e.attr ∈ attr_names ds
unfolding attr_names
suited_name ds e t = let (d, m, k) = suited_by ds e t in subst (λ n. n ∈ attr_names ds) k (map_i (λ (z : Attr). z.name) ds d m)

-- entries that all suit are all declared
pub suited_declared : (ds : List Attr) (es : List Entry) → all (suits ds) es ≡ true → T (undeclared ds es) → ⊥
unfolding undeclared
suited_declared ds es h t =
    let (e, m, u) = any_e (λ e. not (mem e.attr (attr_names ds))) es t in
    T_not (mem e.attr (attr_names ds)) u (mem_i e.attr (attr_names ds) (suited_name ds e (all_e (suits ds) es (rw h tt) e m)))
