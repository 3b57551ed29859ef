-- Names looked up among those before them: one stands twice exactly if one is met again. Assumes nothing.
use Prim.Native.Nat.{ℕ, ◌<◌}
use mathlib.Core.Path.{◌≡◌, refl, sym, ap, ◌∙◌}
use mathlib.Core.List.{List, [], ◌∷◌, ◌++◌, append_assoc, append-nil}
use mathlib.Core.Bool.{Bool, true, false, ◌||◌}
use lib.ListN.{length}
use Rattle.std.specs.Prelude.{Some, None}
use Rattle.model.specs.Bytes.{Bytes}
use Rattle.model.specs.Choice.{pick, just}
use Rattle.model.specs.Names.{mem, twice}
use Rattle.model.specs.Answers.{name_at}
use Rattle.model.specs.declared.Part.{Part}
use Rattle.item_forms.specs.Pieces.{behind, name_next, item_place}
use Rattle.names_met.specs.Table.{Names, names_met, Holds}
use Rattle.book_tables.proofs.MemberLaws.{twice_end}
use Rattle.name_lists.specs.Names.{NamesRead, names_behind, Left}
use Rattle.name_lists.proofs.Behind.{left_next, left_found, left_done}

-- some name stands among those before it, the names done standing before them all
unfoldable pub again : Names → Names → Bool
again done [] = false
again done (x ∷ xs) = pick (mem x done) true (again (done ++ (x ∷ [])) xs)

pub twice_again : (done xs : Names) → twice (done ++ xs) ≡ (twice done || again done xs)
unfolding again
twice_again done [] = ap twice (append-nil done) ∙ go (twice done)
  where
    go : (b : Bool) → b ≡ (b || false)
    go true = refl
    go false = refl
twice_again done (x ∷ xs) =
    ap twice (sym (append_assoc done (x ∷ []) xs))
    ∙ twice_again (done ++ (x ∷ [])) xs
    ∙ rw (twice_end done x) (go (twice done) (mem x done) (again (done ++ (x ∷ [])) xs))
  where
    go : (a b c : Bool) → ((a || b) || c) ≡ (a || pick b true c)
    go true b c = refl
    go false true c = refl
    go false false c = refl

-- the table has the names up to a place, and some name stands twice exactly if one from there on is met again
pub record MetBefore (s : Bytes) (table : List ℕ) (from n i : ℕ) : Type 0 where
  pub done : Names
  pub held : Holds s table n done
  pub left : Left twice (again done) s from i

pub met_start : (s : Bytes) (table : List ℕ) (from n : ℕ) → Holds s table n [] → MetBefore s table from n from
unfolding twice
met_start s table from n h = record { done = []; held = h; left = λ x e. (x, e, twice_again [] x.names) }

module _ (s : Bytes) (table : List ℕ) (from n i : ℕ) (m : MetBefore s table from n i) where
  pub met_done : None ≡ item_place (name_next 2 false s i) → (x : NamesRead) → names_behind s from ≡ just x → false ≡ twice x.names
  unfolding again
  met_done e = left_done twice (again m.done) s from i m.left e

  -- r is what the look-up of the name that follows says
  module _ (w : Part) (e : Some w ≡ item_place (name_next 2 false s i)) (room : n < length table) (r : Bool)
      (is : r ≡ mem (name_at s w) (names_met s table n)) where
    looked : mem (name_at s w) m.done ≡ r
    looked = sym (is ∙ ap (mem (name_at s w)) (m.held.lists room).are)

    pub met_again : r ≡ true → (x : NamesRead) → names_behind s from ≡ just x → true ≡ twice x.names
    unfolding again
    met_again t = left_found twice (again m.done) s from i true w m.left e (λ y _. rw (looked ∙ t))

    pub met_more : r ≡ false → (table' : List ℕ) (n' : ℕ)
        → ((names : Names) → Holds s table n names → Holds s table' n' (names ++ (name_at s w ∷ [])))
        → MetBefore s table' from n' (behind w)
    unfolding again
    met_more f table' n' h = record {
      done = m.done ++ (name_at s w ∷ []);
      held = h m.done m.held;
      left = left_next twice (again m.done) s from i (again (m.done ++ (name_at s w ∷ []))) w m.left e (λ y _. rw (looked ∙ f));
    }
