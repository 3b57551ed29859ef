-- A book without a pair of names that are equal but for case is written unchanged.
use Prim.Native.Nat.{ℕ, suc, ◌+◌}
use mathlib.Core.Path.{◌≡◌, refl, ap}
use mathlib.Core.Logic.{⊎_elim}
use mathlib.Core.List.Memᴰ
use mathlib.Core.List.Memᴰ.{cases_cons}
use mathlib.Core.List.{List, [], ◌∷◌, map}
use mathlib.Core.Bool.{Bool}
use native.Mathlib.Omega.{arith}
use lib.Dec.{T}
use Rattle.model.specs.Bytes.{Bytes, same}
use Rattle.model.specs.Choice.{nothing}
use Rattle.model.specs.Limits.{max_book_bytes}
use Rattle.model.specs.Lists.{any}
use Rattle.model.specs.Names.{Name, twice, place, same_but_case}
use Rattle.model.specs.Refusal.{accepted, on_accept}
use Rattle.model.specs.Lines.{Line, fault_or, form_step, lines_of, step_then, read_lines}
use Rattle.model.specs.Values.{Entry}
use Rattle.model.specs.Book.{Book, empty_book, node_names}
use Rattle.model.specs.BookLines.{label, BookLine, vattr, eattr, node, rel}
use Rattle.model.specs.ReadBook.{node_faults, node_fault, line_fault, book_step, read_book_by, read_book}
use Rattle.model.specs.Renaming.{later_names, first_stuck, unless_stuck, renamed_book}
use Rattle.model.proofs.Decides.{or_l, or_r, or_cases, same→eq, same_refl}
use Rattle.model.proofs.Members.{◌∈◌, is_false, any_e, any_i}
use Rattle.model.proofs.Places.{at_place}
use Rattle.model.proofs.Outcomes.{no_fault, accept_bytes}
use Rattle.renaming.proofs.AcceptedBook.{Apart, step_read, first_read, book_bytes, book_holds}
use Rattle.renaming.proofs.RenamedText.{renamed_none}

-- names that are the same are equal but for case
same_case : (m n : Name) → T (same m n) → T (same_but_case m n)
unfolding same_but_case
same_case m n t = rw (same→eq m n t) (same_refl _)

-- a line without a fault by the rule of case has none by the very names
fewer_faults : (b : Book) (x : BookLine) → line_fault same_but_case b x ≡ nothing → line_fault same b x ≡ nothing
unfolding line_fault node_fault
fewer_faults b (vattr n k) f = f
fewer_faults b (eattr n k) f = f
fewer_faults b (label n) f = f
fewer_faults b (rel l x y es) f = f
fewer_faults b (node n es) f =
    let no = (no_fault (node_faults same_but_case b n es)).0 f in
    (no_fault (node_faults same b n es)).1 (
      no.0,
      (
        λ t. ⊎_elim (λ u. no.1.0 (or_l (any (same_but_case n) (node_names b)) doubled (wider u)))
            (λ u. no.1.0 (or_r (any (same_but_case n) (node_names b)) doubled u)) (or_cases (any (same n) (node_names b)) doubled t),
        no.1.1,
      ),
    )
  where
    doubled : Bool
    doubled = twice (map (λ (e : Entry). e.attr) es)

    wider : T (any (same n) (node_names b)) → T (any (same_but_case n) (node_names b))
    wider t = let r = any_e (same n) (node_names b) t in any_i (same_but_case n) (node_names b) r.0 r.1 (same_case n r.0 r.2)

-- lines that are read by the rule of case are read by the very names
lines_by_names : (n : ℕ) (b : Book) (ls : List Line) (y : Book) → read_lines 1 (book_step same_but_case) n b ls ≡ accepted y
    → read_lines 1 (book_step same) n b ls ≡ accepted y
unfolding read_lines step_then book_step form_step fault_or
lines_by_names n b [] y e = e
lines_by_names n b (l ∷ ls) y e =
    let (z, d, f) = first_read same_but_case n b l ls y e in
    let r = step_read same_but_case b l z d in
    rw (r.has_form, fewer_faults b r.says r.faultless, r.gives) (lines_by_names (n + 1) z ls y f)

-- an accepted book is accepted by the very names
pub read_by_names : (s : Bytes) (b : Book) → read_book s ≡ accepted b → read_book_by same s ≡ accepted b
unfolding read_book read_book_by
read_by_names s b e =
    let r = book_bytes same_but_case s b e in
    accept_bytes 1 max_book_bytes (λ l. l) s _ b (record { short = r.short; allowed = r.allowed; rest = lines_by_names 1 empty_book (lines_of s) b r.rest })

-- names that are apart case aside, from each other and from those above: none is later
none_later : (above ns : List Name) → ((x y : Name) → x ∈ above → y ∈ ns → T (same_but_case y x) → ⊥) → Apart same_but_case ns → later_names above ns ≡ []
unfolding later_names
none_later above [] h a = refl
none_later above (n ∷ ns) h a =
    rw (is_false (any (same_but_case n) above) (λ t. let r = any_e (same_but_case n) above t in h r.0 n r.1 (Memᴰ.head refl) r.2))
    (none_later (n ∷ above) ns (λ x y m k t. ⊎_elim (λ e. first y k (rw e at t)) (λ i. h x y i (Memᴰ.tail k) t) (cases_cons m))
    (λ i j l k. a (suc i) (suc j) (omega arith) (omega arith)))
  where
    first : (y : Name) → y ∈ ns → T (same_but_case y n) → ⊥
    first y k t = let p = at_place ns y k in a 0 (suc (place y ns)) (omega arith) (omega (arith, p.0)) (rw p.1 t)

-- a book without later names is written as it is
pub unchanged_by_names : (s : Bytes) (b : Book) → read_book_by same s ≡ accepted b → later_names [] (node_names b) ≡ [] → renamed_book s ≡ accepted s
unfolding renamed_book on_accept first_stuck unless_stuck
unchanged_by_names s b e n = rw (e, n) (ap accepted (renamed_none s))

-- an accepted book is written as it is
pub unchanged : (s : Bytes) (b : Book) → read_book s ≡ accepted b → renamed_book s ≡ accepted s
unfolding read_book
unchanged s b e = unchanged_by_names s b (read_by_names s b e)
    (none_later [] (node_names b) (λ x y m. elim m [ ]) (book_holds same_but_case s b e).apart)
