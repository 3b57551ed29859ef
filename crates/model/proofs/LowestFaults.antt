-- Every table of faults gives its lowest number: one law over tables whose numbers ascend, and the theorem for each table of the paper.
use Prim.Native.Nat.{ℕ, ◌<◌, ◌≤◌}
use mathlib.Core.Path.{◌≡◌, refl, sym, ap, subst}
use mathlib.Core.Logic.{◌↔◌}
use mathlib.Core.List.Memᴰ
use mathlib.Core.List.{List, [], ◌∷◌}
use mathlib.Core.Bool.{Bool, true, ◌&&◌}
use native.Mathlib.Omega.{arith}
use lib.Dec.{T, ltb, ltb→lt}
use Rattle.model.specs.Bytes.{Bytes}
use Rattle.model.specs.Choice.{Maybe, nothing, just}
use Rattle.model.specs.Lists.{all}
use Rattle.model.specs.Refusal.{Row, lowest}
use Rattle.model.specs.Values.{Entry}
use Rattle.model.specs.Book.{Book}
use Rattle.model.specs.ReadBook.{NamesAlike, name_faults, name_fault, node_faults, node_fault, rel_faults, rel_fault}
use Rattle.model.specs.QueryText.{QueryText}
use Rattle.model.specs.ReadQuery.{query_faults, query_fault}
use Rattle.model.specs.Rules.{Rules}
use Rattle.model.specs.ReadRules.{category, policy, category_faults, policy_faults, rules_fault}
use Rattle.model.specs.Request.{Identity, RequestLine, request_faults, request_fault}
use Rattle.model.specs.Weave.{WovenPattern, woven_faults, woven_fault}
use Rattle.model.proofs.Decides.{and_iff}
use Rattle.model.proofs.Members.{◌∈◌, each_e, each_i, all_e}
use Rattle.model.proofs.Pairwise.{Pairwise}
use Rattle.model.proofs.Faults.{NotFound, lowest_none, lowest_first, lowest_is_lowest}

-- n is the lowest number found in a table: the number of a row whose fault is there, and no row of a lower number has its fault there
pub record LowestFound (rows : List Row) (n : ℕ) : Type 0 where
  pub row : Row
  pub stands : row ∈ rows
  pub number : row.fault ≡ n
  pub is_found : T row.found
  pub none_lower : (r : Row) → r ∈ rows → r.fault < n → NotFound r

-- the numbers of a table ascend, as a test
unfoldable pub ascending : List Row → Bool
ascending [] = true
ascending (r ∷ rows) = all (λ s. ltb r.fault s.fault) rows && ascending rows

ascends : (rows : List Row) → T (ascending rows) → Pairwise (λ r s. r.fault < s.fault) rows
unfolding ascending
ascends [] t = tt
ascends (r ∷ rows) t =
    let u = (and_iff (all (λ s. ltb r.fault s.fault) rows) (ascending rows)).1 t in
    (each_i (λ s. r.fault < s.fault) rows (λ s m. ltb→lt _ _ (all_e (λ s. ltb r.fault s.fault) rows u.0 s m)), ascends rows u.1)

-- a table whose numbers ascend gives n exactly if n is the lowest number found in it
pub gives_lowest : (rows : List Row) → T (ascending rows) → (n : ℕ) → (lowest rows ≡ just n) ↔ LowestFound rows n
gives_lowest rows t n = (there n, λ h. back h (lowest rows) refl)
  where
    there : (n : ℕ) → lowest rows ≡ just n → LowestFound rows n
    there n e =
        let f = (lowest_first rows n).0 e in
        let l = lowest_is_lowest rows (ascends rows t) n e in record {
          row = f.row;
          stands = subst (λ z. f.row ∈ z) (sym f.stands) (Memᴰ.append_right f.earlier (Memᴰ.head refl));
          number = f.number;
          is_found = f.is_found;
          none_lower = λ r m below found. let k = each_e (λ r. T r.found → n ≤ r.fault) rows l r m found in omega arith;
        }

    back : LowestFound rows n → (m : Maybe ℕ) → lowest rows ≡ m → m ≡ just n
    back h nothing e = absurd (each_e NotFound rows ((lowest_none rows).0 e) h.row h.stands h.is_found)
    back h (just k) e =
        let g = there k e in
        let a : h.row.fault < k → ⊥ = λ l. g.none_lower h.row h.stands l h.is_found in
        let b : g.row.fault < n → ⊥ = λ l. h.none_lower g.row g.stands l g.is_found in
        let d = h.number in let f = g.number in
        let same : k ≡ n = omega arith in ap just same

-- a declared name (vattr, eattr, label): 5, 7
pub name_fault_lowest : (x : Bytes) (xs : List Bytes) (n : ℕ) → (name_fault x xs ≡ just n) ↔ LowestFound (name_faults x xs) n
unfolding name_fault ascending all
name_fault_lowest x xs n = gives_lowest (name_faults x xs) tt n

-- a node line: 4, 5, 6, 7
pub node_fault_lowest : (alike : NamesAlike) (b : Book) (x : Bytes) (es : List Entry) (n : ℕ)
    → (node_fault alike b x es ≡ just n) ↔ LowestFound (node_faults alike b x es) n
unfolding node_fault ascending all
node_fault_lowest alike b x es n = gives_lowest (node_faults alike b x es) tt n

-- a rel line: 4, 5, 6, 7
pub rel_fault_lowest : (b : Book) (l x y : Bytes) (es : List Entry) (n : ℕ) → (rel_fault b l x y es ≡ just n) ↔ LowestFound (rel_faults b l x y es) n
unfolding rel_fault ascending all
rel_fault_lowest b l x y es n = gives_lowest (rel_faults b l x y es) tt n

-- a category line: 4, 5, 7, 9
pub category_fault_lowest : (b : Book) (r : Rules) (c : Bytes) (actors over : List Bytes) (n : ℕ)
    → (rules_fault b r (category c actors over) ≡ just n) ↔ LowestFound (category_faults r c actors over) n
unfolding rules_fault ascending all
category_fault_lowest b r c actors over n = gives_lowest (category_faults r c actors over) tt n

-- a policy line: 4, 5, 6, 7, 8
pub policy_fault_lowest : (b : Book) (r : Rules) (c : Bytes) (bytes : ℕ) (q : QueryText) (n : ℕ)
    → (rules_fault b r (policy c bytes q) ≡ just n) ↔ LowestFound (policy_faults b r c bytes q) n
unfolding rules_fault ascending all
policy_fault_lowest b r c bytes q n = gives_lowest (policy_faults b r c bytes q) tt n

-- a query: 4, 5, 6, 7, 8
pub query_fault_lowest : (b : Book) (q : QueryText) (n : ℕ) → (query_fault b q ≡ just n) ↔ LowestFound (query_faults b q) n
unfolding query_fault ascending all
query_fault_lowest b q n = gives_lowest (query_faults b q) tt n

-- a request: 4, 5, 11
pub request_fault_lowest : (b : Book) (r : Rules) (x : RequestLine) (n : ℕ) → (request_fault b r x ≡ just n) ↔ LowestFound (request_faults b r x) n
unfolding request_fault ascending all
request_fault_lowest b r x n = gives_lowest (request_faults b r x) tt n

-- the woven pattern: 12, 13
pub woven_fault_lowest : (p : WovenPattern) (ids : List Identity) (n : ℕ) → (woven_fault p ids ≡ just n) ↔ LowestFound (woven_faults p ids) n
unfolding woven_fault ascending all
woven_fault_lowest p ids n = gives_lowest (woven_faults p ids) tt n
