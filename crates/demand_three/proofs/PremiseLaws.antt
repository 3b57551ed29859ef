-- What a list gives where its premises hold: exactly the rows that may be had, or 14 where they do not fit.
use Prim.Native.Nat.{ℕ, ◌*◌}
use mathlib.Core.Path.{◌≡◌, refl}
use mathlib.Core.Logic.{◌↔◌}
use mathlib.Core.Bool.{Bool, true, false, not}
use mathlib.Core.List.{List}
use native.Mathlib.Omega.{arith}
use lib.ListN.{length}
use lib.Dec.{T, ltb}
use Rattle.model.specs.Bytes.{Bytes}
use Rattle.model.specs.Choice.{pick, Maybe, nothing, just}
use Rattle.model.specs.Lists.{all, memℕ, below}
use Rattle.model.specs.Refusal.{accepted, refusal, on_accept, lowest}
use Rattle.model.specs.Book.{Book}
use Rattle.model.specs.QueryText.{QueryText}
use Rattle.model.specs.Rules.{Rules}
use Rattle.model.specs.Request.{Identity, Request}
use Rattle.model.specs.Weave.{WovenPattern, asked_query, asked_policies, tied, woven_too_many, woven_fault}
use Rattle.model.specs.Service.{list_found}
use Rattle.model.proofs.Members.{all_e, all_i, below_i, below_e}
use Rattle.model.proofs.Tied.{tied_by_path, memℕ-e, memℕ-i}
use Rattle.model.proofs.AcceptedQuery.{query_named}
use Rattle.model.proofs.Accepted.{policies_named}
use Rattle.model.proofs.RowsHad.{rows_may_be_had}
use Rattle.model.proofs.Ascending.{rows_ascend, ascending_none_twice}
use Rattle.rows.specs.SortedLaws.{same_list}
use Rattle.asking.proofs.AskedLaws.{ascending_sorted}
use Rattle.model.proofs.Refusals.{gives_rows}
use Rattle.model.specs.Tied.{IsVertex, TiedTo}
use Rattle.model.specs.Refused.{AllRead, woven, woven_number, rows_for, found_for}
use Rattle.model.specs.Demands.{Premises, HadRows}

-- a woven pattern has no fault exactly if it passes no limit and each of its vertices is tied to an identity
pub woven_clear : (p : WovenPattern) (ids : List Identity)
    → (woven_fault p ids ≡ nothing) ↔ ((T (woven_too_many p) → ⊥) × ((v : ℕ) → IsVertex p v → TiedTo p ids v))
unfolding woven_fault lowest
woven_clear p ids = (λ e. let u = (go (woven_too_many p) every).0 e in (u.0, each u.1), λ u. (go (woven_too_many p) every).1 (u.0, back u.1))
  where
    every : Bool
    every = all (λ v. memℕ v (tied p ids)) (below (length p.vertices))

    each : T every → (v : ℕ) → IsVertex p v → TiedTo p ids v
    each t v l = (tied_by_path p ids v).0 (memℕ-e v (tied p ids)
        (all_e (λ v. memℕ v (tied p ids)) (below (length p.vertices)) t v (below_i (length p.vertices) v l)))

    back : ((v : ℕ) → IsVertex p v → TiedTo p ids v) → T every
    back h = all_i (λ v. memℕ v (tied p ids)) (below (length p.vertices))
        (λ v m. memℕ-i v (tied p ids) ((tied_by_path p ids v).1 (h v (below_e (length p.vertices) v m))))

    go : (a c : Bool) → (pick {A = Maybe ℕ} a (just 12) (pick (not c) (just 13) nothing) ≡ nothing) ↔ ((T a → ⊥) × T c)
    go true c = (λ e. let z : ◌≡◌ {A = ℕ} 0 1 = cc in absurd (omega arith), λ u. absurd (u.0 tt))
    go false true = (λ e. (λ t. t, tt), λ u. refl)
    go false false = (λ e. let z : ◌≡◌ {A = ℕ} 0 1 = cc in absurd (omega arith), λ u. absurd u.1)

module _ (work : ℕ) (book rules query request : Bytes) (b : Book) (r : Rules) (q : QueryText) (x : Request) where
  -- the premises are that the texts are read and that the woven pattern has no fault
  pub premises_of : AllRead work book rules query request b r q x → woven_number r q x ≡ nothing → Premises work book rules query request b r q x
  premises_of read e = let u = (woven_clear (woven r q x) x.identities).0 e in record { read = read; within_limits = u.0; all_tied = u.1 }

  module _ (h : Premises work book rules query request b r q x) where
    pub no_woven_fault : woven_number r q x ≡ nothing
    no_woven_fault = (woven_clear (woven r q x) x.identities).1 (h.within_limits, h.all_tied)

    -- the rows that the list is defined by are these rows
    pub had_rows : HadRows b r q x (rows_for b r q x)
    unfolding asked_query
    had_rows =
        let a = rows_ascend b x.identities (asked_query r x q) (asked_policies r x) in
        record {
          every_row_and_no_other = rows_may_be_had b x.identities (asked_query r x q) (asked_policies r x) (query_named b query q h.read.query_read)
              (policies_named b rules r h.read.rules_before.rules_read x);
          ascending = a;
          each_once = ascending_none_twice (rows_for b r q x) a;
        }

    -- and there is only one such list
    pub only_list : (list : List (List ℕ)) → HadRows b r q x list → list ≡ rows_for b r q x
    only_list list g = same_list list (rows_for b r q x) (ascending_sorted list g.ascending) (ascending_sorted (rows_for b r q x) had_rows.ascending)
        (λ row m. (had_rows.every_row_and_no_other row).1 ((g.every_row_and_no_other row).0 m))
        (λ row m. (g.every_row_and_no_other row).1 ((had_rows.every_row_and_no_other row).0 m))

    -- what the list gives: these rows, or 14 where they do not fit
    pub rows_given : (words : ℕ) → list_found work words book rules query request
        ≡ pick (ltb words (length (rows_for b r q x) * length q.returns)) (refusal 14 5 0) (accepted (found_for b r q x))
    unfolding list_found on_accept
    rows_given words = rw (gives_rows work book rules query request b r q x h.read no_woven_fault)
