-- The lowest fault of entries, when one entry more comes behind them.
use Prim.Native.Nat.{ℕ}
use mathlib.Core.Path.{◌≡◌, refl}
use mathlib.Core.List.{List, [], ◌∷◌, ◌++◌, map}
use mathlib.Core.Bool.{Bool, true, false, not, ◌||◌, ◌&&◌}
use Rattle.std.specs.Prelude.{Option, None, Some}
use Rattle.model.specs.Choice.{pick}
use Rattle.model.specs.Lists.{all}
use Rattle.model.specs.Names.{mem, twice}
use Rattle.model.specs.Values.{Entry}
use Rattle.model.specs.Book.{Attr, attr_names}
use Rattle.model.specs.ReadBook.{suits, undeclared}
use Rattle.book_tables.proofs.ListedLaws.{any_end, all_end, map_end}
use Rattle.book_entries.specs.Faults.{entries_fault, entry_fault, lower}
use Rattle.book_tables.proofs.MemberLaws.{twice_end}

-- undeclared, twice, suited of the entries before; declared, seen, suited of the new one
cases : (u t s d n w : Bool)
    → pick (u || not d) (Some 4) (pick (t || n) (Some 5) (pick (s && w) None (Some 6)))
    ≡ lower (pick u (Some 4) (pick t (Some 5) (pick s None (Some 6)))) (entry_fault d n w)
unfolding lower entry_fault
cases true t s true true w = refl
cases true t s true false true = refl
cases true t s true false false = refl
cases true t s false n w = refl
cases false true s true true w = refl
cases false true s true false true = refl
cases false true s true false false = refl
cases false true s false n w = refl
cases false false true true true w = refl
cases false false true true false true = refl
cases false false true true false false = refl
cases false false true false n w = refl
cases false false false true true w = refl
cases false false false true false true = refl
cases false false false true false false = refl
cases false false false false n w = refl

pub fault_more : (ds : List Attr) (es : List Entry) (e : Entry)
    → entries_fault ds (es ++ (e ∷ []))
    ≡ lower (entries_fault ds es) (entry_fault (mem e.attr (attr_names ds)) (mem e.attr (map (λ x. x.attr) es)) (suits ds e))
unfolding entries_fault undeclared
fault_more ds es e =
    rw (
      any_end (λ (x : Entry). not (mem x.attr (attr_names ds))) es e,
      map_end (λ (x : Entry). x.attr) es e,
      twice_end (map (λ (x : Entry). x.attr) es) e.attr,
      all_end (suits ds) es e,
    )
    (cases (undeclared ds es) (twice (map (λ (x : Entry). x.attr) es)) (all (suits ds) es) (mem e.attr (attr_names ds))
    (mem e.attr (map (λ (x : Entry). x.attr) es)) (suits ds e))

-- an attribute that is not declared
pub fault_undeclared : (ds : List Attr) (es : List Entry) (e : Entry) → mem e.attr (attr_names ds) ≡ false → entries_fault ds (es ++ (e ∷ [])) ≡ Some 4
unfolding entries_fault undeclared
fault_undeclared ds es e h = rw (any_end (λ (x : Entry). not (mem x.attr (attr_names ds))) es e, h) (go (undeclared ds es) _)
  where
    go : (u : Bool) (a : Option ℕ) → pick (u || true) (Some 4) a ≡ Some 4
    go true a = refl
    go false a = refl

-- no fault with the new entry, none before
pub lower_none : (f n : Option ℕ) → lower f n ≡ None → f ≡ None
unfolding lower
lower_none None n h = refl
lower_none (Some x) None h = h
lower_none (Some x) (Some y) h = cc
