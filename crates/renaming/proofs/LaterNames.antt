-- The new names of a book whose later names can all have theirs: no two are equal but for case, none is too long, and the book is not too long.
use Prim.Native.Nat.{ℕ, ◌+◌, ◌<◌, ◌≤◌}
use mathlib.Core.Path.{◌≡◌, refl, sym, ap, subst, ◌∙◌}
use mathlib.Core.Logic.{◌⊎◌, inl, inr, ⊎_elim}
use mathlib.Core.List.Memᴰ
use mathlib.Core.List.Memᴰ.{cases_cons}
use mathlib.Core.List.{List, [], ◌∷◌, ◌++◌, map, append_assoc}
use mathlib.Core.Bool.{Bool, false, ◌||◌}
use native.Mathlib.Omega.{arith}
use lib.ListN.{length, get_or}
use lib.Dec.{T, ltb, nltb→le, not_T}
use Rattle.model.specs.Bytes.{Bytes, same}
use Rattle.model.specs.Choice.{nothing}
use Rattle.model.specs.Limits.{max_word_bytes, max_book_bytes}
use Rattle.model.specs.Lists.{any}
use Rattle.model.specs.Names.{Name, mem, twice, place, same_but_case}
use Rattle.model.specs.Renaming.{suffix, later_names, renamed, cannot_have, first_stuck, new_name}
use Rattle.model.proofs.Decides.{or_l, or_r}
use Rattle.model.proofs.Members.{◌∈◌, test, is_true, is_false, any_i, map_i, mem_e, mem_i}
use Rattle.model.proofs.Places.{get_or_in, get_or_map, place_at}
use Rattle.model.proofs.Outcomes.{no_just}
use Rattle.renaming.proofs.AcceptedBook.{case_turned}

-- a name that is, case aside, one above is later
later_first : (above : List Name) (n : Name) (ns : List Name) → T (any (same_but_case n) above) → n ∈ later_names above (n ∷ ns)
unfolding later_names
later_first above n ns t = rw (is_true (any (same_but_case n) above) t) (Memᴰ.head refl)

-- what is later among the names below is later
later_tail : (above : List Name) (n : Name) (ns : List Name) (x : Name) → x ∈ later_names (n ∷ above) ns → x ∈ later_names above (n ∷ ns)
unfolding later_names
later_tail above n ns x m = ⊎_elim
    (λ t. rw (is_true (any (same_but_case n) above) t) (Memᴰ.tail m))
    (λ t. rw (is_false (any (same_but_case n) above) t) m)
    (test (any (same_but_case n) above))

-- so each name below that is, case aside, one above is later
below_above : (above ns : List Name) (x y : Name) → x ∈ above → y ∈ ns → T (same_but_case y x) → y ∈ later_names above ns
below_above above [] x y m k t = elim k [ ]
below_above above (n ∷ ns) x y m k t = ⊎_elim
    (λ e. rw e (later_first above n ns (any_i (same_but_case n) above x m (rw e at t))))
    (λ j. later_tail above n ns y (below_above (n ∷ above) ns x y (Memᴰ.tail m) j t))
    (cases_cons k)

-- of two names equal but for case one is later
one_later : (above ns : List Name) (x y : Name) → x ∈ ns → y ∈ ns → T (same_but_case x y) → (x ≡ y) ⊎ ((x ∈ later_names above ns) ⊎ (y ∈ later_names above ns))
one_later above [] x y m k t = elim m [ ]
one_later above (n ∷ ns) x y m k t = ⊎_elim
    (λ d. ⊎_elim (λ e. inl (d ∙ sym e))
    (λ j. inr (inr (later_tail above n ns y (below_above (n ∷ above) ns x y (Memᴰ.head d) j (case_turned x y t)))))
    (cases_cons k))
    (λ i. ⊎_elim (λ e. inr (inl (later_tail above n ns x (below_above (n ∷ above) ns y x (Memᴰ.head e) i t))))
    (λ j. ⊎_elim inl (λ u. inr (⊎_elim (λ v. inl (later_tail above n ns x v)) (λ v. inr (later_tail above n ns y v)) u)) (one_later (n ∷ above) ns x y i j t))
    (cases_cons k))
    (cases_cons m)

-- a name that can have its new one, after those above
pub record CanHave (s : Bytes) (names above : List Name) (n : Name) : Type 0 where
  pub no_node_law : T (any (same_but_case (n ++ suffix)) names) → ⊥
  pub not_given : T (any (same_but_case (n ++ suffix)) (map (λ m. m ++ suffix) above)) → ⊥
  pub name_short : length (n ++ suffix) ≤ max_word_bytes
  pub book_short : length (renamed (above ++ (n ∷ [])) s) ≤ max_book_bytes

-- the first of names that can all have theirs, and the others
first_can : (s : Bytes) (names above : List Name) (n : Name) (ns : List Name) → first_stuck s names above (n ∷ ns) ≡ nothing
    → CanHave s names above n × (first_stuck s names (above ++ (n ∷ [])) ns ≡ nothing)
unfolding first_stuck cannot_have
first_can s names above n ns e = ⊎_elim
    (λ t. no_just n (sym (rw (is_true (cannot_have s names above n) t) at e)))
    (λ t. (can t, rw (is_false (cannot_have s names above n) t) at e))
    (test (cannot_have s names above n))
  where
    A : Bool
    A = any (same_but_case (n ++ suffix)) names

    B : Bool
    B = any (same_but_case (n ++ suffix)) (map (λ m. m ++ suffix) above)

    C : Bool
    C = ltb max_word_bytes (length (n ++ suffix))

    D : Bool
    D = ltb max_book_bytes (length (renamed (above ++ (n ∷ [])) s))

    can : (T (cannot_have s names above n) → ⊥) → CanHave s names above n
    can h = record {
      no_node_law = λ t. h (or_l (A || B || C) D (or_l (A || B) C (or_l A B t)));
      not_given = λ t. h (or_l (A || B || C) D (or_l (A || B) C (or_r A B t)));
      name_short = nltb→le max_word_bytes (length (n ++ suffix)) (not_T C (λ t. h (or_l (A || B || C) D (or_r (A || B) C t))));
      book_short = nltb→le max_book_bytes (length (renamed (above ++ (n ∷ [])) s)) (not_T D (λ t. h (or_r (A || B || C) D t)));
    }

-- each of names that can all have theirs can have it, after those above it
can_have : (s : Bytes) (names above ns : List Name) → first_stuck s names above ns ≡ nothing → (x : Name) → x ∈ ns
    → (before : List Name) × CanHave s names before x
can_have s names above [] e x m = elim m [ ]
can_have s names above (n ∷ ns) e x m = let r = first_can s names above n ns e in ⊎_elim
    (λ d. (above, subst (CanHave s names above) (sym d) r.0))
    (λ k. can_have s names (above ++ (n ∷ [])) ns r.1 x k)
    (cases_cons m)

-- a new name is, case aside, none of those given above
none_above : (s : Bytes) (names above ns : List Name) → first_stuck s names above ns ≡ nothing → (x y : Name) → x ∈ above → y ∈ ns
    → T (same_but_case (y ++ suffix) (x ++ suffix)) → ⊥
none_above s names above [] e x y m k t = elim k [ ]
none_above s names above (n ∷ ns) e x y m k t = let r = first_can s names above n ns e in ⊎_elim
    (λ d. r.0.not_given (any_i (same_but_case (n ++ suffix)) (map (λ m. m ++ suffix) above) (x ++ suffix) (map_i (λ m. m ++ suffix) above x m) (rw d at t)))
    (λ j. none_above s names (above ++ (n ∷ [])) ns r.1 x y (Memᴰ.append_left (n ∷ []) m) j t)
    (cases_cons k)

-- new names that are equal but for case are those of one name
given_apart : (s : Bytes) (names above ns : List Name) → first_stuck s names above ns ≡ nothing → (x y : Name) → x ∈ ns → y ∈ ns
    → T (same_but_case (x ++ suffix) (y ++ suffix)) → x ≡ y
given_apart s names above [] e x y m k t = elim m [ ]
given_apart s names above (n ∷ ns) e x y m k t =
    let r = first_can s names above n ns e in
    let given : (z : Name) → z ≡ n → z ∈ (above ++ (n ∷ [])) = λ z d. Memᴰ.append_right above (Memᴰ.head d) in
    ⊎_elim
    (λ d. ⊎_elim (λ c. d ∙ sym c) (λ j. absurd (none_above s names (above ++ (n ∷ [])) ns r.1 x y (given x d) j (case_turned (x ++ suffix) (y ++ suffix) t)))
    (cases_cons k))
    (λ i. ⊎_elim (λ c. absurd (none_above s names (above ++ (n ∷ [])) ns r.1 y x (given y c) i t))
    (λ j. given_apart s names (above ++ (n ∷ [])) ns r.1 x y i j t) (cases_cons k))
    (cases_cons m)

-- with all of them the book is not too long
pub all_fit : (s : Bytes) (names above : List Name) (n : Name) (ns : List Name) → first_stuck s names above (n ∷ ns) ≡ nothing
    → length (renamed (above ++ (n ∷ ns)) s) ≤ max_book_bytes
all_fit s names above n [] e = (first_can s names above n [] e).0.book_short
all_fit s names above n (m ∷ ns) e = subst (λ l. length (renamed l s) ≤ max_book_bytes) (append_assoc above (n ∷ []) (m ∷ ns))
    (all_fit s names (above ++ (n ∷ [])) m ns (first_can s names above n (m ∷ ns) e).1)

-- the new name of a later name, and of another
new_later : (later : List Name) (x : Name) → x ∈ later → new_name later x ≡ x ++ suffix
unfolding new_name
new_later later x m = rw (is_true (mem x later) (mem_i x later m)) refl

new_other : (later : List Name) (x : Name) → (x ∈ later → ⊥) → new_name later x ≡ x
unfolding new_name
new_other later x h = rw (is_false (mem x later) (λ t. h (mem_e x later t))) refl

-- a name is later or not
is_later_law : (later : List Name) (x : Name) → (x ∈ later) ⊎ (x ∈ later → ⊥)
is_later_law later x = ⊎_elim (λ t. inl (mem_e x later t)) (λ t. inr (λ m. t (mem_i x later m))) (test (mem x later))

-- where every later name of a book can have its new one
module _ (s : Bytes) (names : List Name) (free : first_stuck s names [] (later_names [] names) ≡ nothing) where
  -- new names that are equal but for case are those of one name
  pub one_name : (x y : Name) → x ∈ names → y ∈ names → T (same_but_case (new_name (later_names [] names) x) (new_name (later_names [] names) y)) → x ≡ y
  one_name x y m k t = ⊎_elim
      (λ i. ⊎_elim
      (λ j. given_apart s names [] later free x y i j (rw (new_later later x i, new_later later y j) at t))
      (λ j. absurd (taken x y i k (rw (new_later later x i, new_other later y j) at t)))
      (is_later_law later y))
      (λ i. ⊎_elim
      (λ j. absurd (taken y x j m (case_turned x (y ++ suffix) (rw (new_other later x i, new_later later y j) at t))))
      (λ j. ⊎_elim (λ e. e) (λ u. absurd (⊎_elim i j u)) (one_later [] names x y m k (rw (new_other later x i, new_other later y j) at t)))
      (is_later_law later y))
      (is_later_law later x)
    where
      later : List Name
      later = later_names [] names

      taken : (x y : Name) → x ∈ later → y ∈ names → T (same_but_case (x ++ suffix) y) → ⊥
      taken x y i k t = (can_have s names [] later free x i).1.no_node_law (any_i (same_but_case (x ++ suffix)) names y k t)

  -- no new name is too long if no old one is
  pub new_short : (x : Name) → length x ≤ max_word_bytes → length (new_name (later_names [] names) x) ≤ max_word_bytes
  new_short x l = let later = later_names [] names in ⊎_elim
      (λ i. rw (new_later later x i) (can_have s names [] later free x i).1.name_short)
      (λ i. rw (new_other later x i) l)
      (is_later_law later x)

  -- no two new names are equal but for case if no two old ones are the same
  pub apart : (T (twice names) → ⊥) → (i j : ℕ) → i < j → j < length names
      → same_but_case (get_or (map (new_name (later_names [] names)) names) i []) (get_or (map (new_name (later_names [] names)) names) j []) ≡ false
  apart once i j l k = is_false _ (λ t.
      let h : i < length names = omega arith in
      let e = one_name (get_or names i []) (get_or names j []) (get_or_in names i [] h) (get_or_in names j [] k)
      (rw (get_or_map (new_name (later_names [] names)) names i [] [] h, get_or_map (new_name (later_names [] names)) names j [] [] k) at t) in
      let p = place_at names i once h in
      let q = place_at names j once k in
      let r : i ≡ j = sym p ∙ ap (λ z. place z names) e ∙ q in
      omega arith)
