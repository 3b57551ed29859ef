-- Weaving: the mappings of the woven pattern that keep the identities are the families of mappings of the query and of each enforced policy.
-- The mappings of a family agree on actors of one name and on the identities, and the row is the same.
use Prim.Native.Nat.{ℕ}
use Prim.Native.String.{String, ◌++◌ as ◌then◌}
use mathlib.Core.Path.{◌≡◌, refl, sym, ap, subst, ◌∙◌}
use mathlib.Core.Logic.{⊎_elim, ◌↔◌, ◌≢◌}
use mathlib.Core.List.Memᴰ
use mathlib.Core.List.Memᴰ.{cases_cons}
use mathlib.Core.List.{List, [], ◌∷◌, map}
use lib.Dec.{T}
use Rattle.model.specs.Bytes.{Bytes, bytes_of}
use Rattle.model.specs.Names.{mem}
use Rattle.model.specs.Refusal.{Outcome, accepted, on_accept}
use Rattle.model.specs.Book.{Book}
use Rattle.model.specs.QueryText.{QueryText}
use Rattle.model.specs.Query.{vertex_names}
use Rattle.model.specs.ReadQuery.{read_query}
use Rattle.model.specs.Rules.{Rules}
use Rattle.model.specs.ReadRules.{read_rules}
use Rattle.model.specs.Request.{Identity, Request, read_request}
use Rattle.model.specs.Satisfies.{NumberedMapping}
use Rattle.model.specs.Weave.{Asked, asked_query, asked_policies, weave, WovenPattern, actor, own, place_vertex, weave_vertex}
use Rattle.model.specs.MayHave.{Mapped, MayHave}
use Rattle.model.specs.Rows.{rows_of}
use Rattle.model.specs.Service.{list_rows}
use Rattle.model.specs.Computing.{computing}
use Rattle.model.proofs.Members.{◌∈◌, map_i}
use Rattle.model.proofs.RowsHad.{rows_may_be_had}
use Rattle.model.proofs.AcceptedQuery.{query_clear, query_named, ClearNames}
use Rattle.model.proofs.AcceptedRules.{policy_clear, asked_policy}
use Rattle.model.proofs.Accepted.{list_is_exact, policies_named}
use Rattle.model.proofs.NumberedMappings.{SameOnNumbers}
use Rattle.model.proofs.WovenNames.{joined_exactly, never_joined_within}
use Rattle.model.proofs.Families.{asked_of, Family, family_row, WovenModel, woven_row, WovenRow, had_by_family}
use Rattle.model.proofs.WovenParts.{Counted}
use Rattle.model.proofs.WovenMapping.{woven_of, woven_model, woven_row_law}
use Rattle.model.proofs.WovenFamily.{vertices_woven, family_of, SameFamily, family_of_woven, family_row_law, family_again, woven_again}
use Rattle.model.proofs.Example.{book, rules, query, the_book, the_rules, the_query, the_request, rules_read, query_read_law}
use Rattle.model.proofs.WovenVertices.{vertex_by_place}

-- families and woven mappings correspond: each gives the other, with the same row, and either way back it is the same
pub record ExactWeaving (b : Book) (ids : List Identity) (asked : List Asked) : Type 0 where
  pub to_woven : (hs : List Mapped) → Family b ids asked hs → WovenModel b ids asked (woven_of hs) × (woven_row asked (woven_of hs) ≡ family_row hs)
  pub to_family : (m : NumberedMapping) → WovenModel b ids asked m → Family b ids asked (family_of asked m) × (family_row (family_of asked m) ≡ woven_row asked m)
  pub family_back : (hs : List Mapped) → Family b ids asked hs → SameFamily (family_of asked (woven_of hs)) hs
  pub woven_back : (m : NumberedMapping) → WovenModel b ids asked m → SameOnNumbers (weave asked) (woven_of (family_of asked m)) m

-- texts whose names are clear are woven exactly
clear_exact : (b : Book) (ids : List Identity) (asked : List Asked) → ((a : Asked) → a ∈ asked → ClearNames a.text) → ExactWeaving b ids asked
clear_exact b ids asked clear = record {
  to_woven = λ hs f. by hs f (λ z. WovenModel b ids z (woven_of hs) × (woven_row z (woven_of hs) ≡ family_row hs))
      (λ g w. (woven_model b ids hs g w, woven_row_law b ids hs g w));
  to_family = λ m w. (family_of_woven b ids asked m w clear, family_row_law asked m clear);
  family_back = λ hs f. by hs f (λ z. SameFamily (family_of z (woven_of hs)) hs) (λ g w. family_again b ids hs g w);
  woven_back = λ m w. woven_again b ids asked m w clear;
}
  where
    by : (hs : List Mapped) → Family b ids asked hs → (C : List Asked → Type 0)
        → (Family b ids (map asked_of hs) hs → ((h : Mapped) → h ∈ hs → ClearNames h.asked.text) → C (map asked_of hs)) → C asked
    by hs f C k = subst C f.one_each (k (subst (λ z. Family b ids z hs) (sym f.one_each) f)
        (λ h i. clear h.asked (subst (λ z. h.asked ∈ z) f.one_each (map_i asked_of hs h i))))

-- the query and the enforced policies
abbrev pub asked_all : Rules → Request → QueryText → List Asked
asked_all r x q = asked_query r x q ∷ asked_policies r x

-- the names of accepted texts are clear
pub accepted_clear : (b : Book) (rules query : Bytes) (r : Rules) (q : QueryText) (x : Request) → read_rules b rules ≡ accepted r
    → read_query b query ≡ accepted q → (a : Asked)
    → a ∈ asked_all r x q → ClearNames a.text
unfolding asked_query
accepted_clear b rules query r q x e f a k = ⊎_elim
    (λ p. subst (λ (z : Asked). ClearNames z.text) (sym p) (query_clear b query q f))
    (λ i. let p = asked_policy r x a i in subst (λ (z : Asked). ClearNames z.text) (sym p.2) (policy_clear b rules r e p.0 p.1))
    (cases_cons k)

-- the theorem: accepted texts are woven exactly
pub exact_weaving : (b : Book) (rules query : Bytes) (r : Rules) (q : QueryText) (x : Request) → read_rules b rules ≡ accepted r → read_query b query ≡ accepted q
    → ExactWeaving b x.identities (asked_all r x q)
exact_weaving b rules query r q x e f = clear_exact b x.identities (asked_all r x q) (accepted_clear b rules query r q x e f)

-- so the rows of the woven pattern are exactly the rows that may be had
pub rows_of_woven : (b : Book) (rules query : Bytes) (r : Rules) (q : QueryText) (x : Request) → read_rules b rules ≡ accepted r → read_query b query ≡ accepted q
    → (row : List ℕ) → MayHave b x.identities (asked_query r x q) (asked_policies r x) row ↔ WovenRow b x.identities (asked_all r x q) row
rows_of_woven b rules query r q x e f row =
    let w = exact_weaving b rules query r q x e f in
    let had = had_by_family b x.identities (asked_query r x q) (asked_policies r x) row in (
      λ h. let z = had.0 h in let t = w.to_woven z.0 z.1 in record { woven = woven_of z.0; model = t.0; gives = sym (t.1 ∙ z.2) },
      λ h. let t = w.to_family h.woven h.model in had.1 (family_of (asked_all r x q) h.woven, t.0, t.1 ∙ sym h.gives),
    )

-- and exactly the rows of an accepted list
pub list_of_woven : (work words : ℕ) (book rules query request : Bytes) (rows : List (List ℕ))
    (e : list_rows work words book rules query request ≡ accepted rows)
    → let R = list_is_exact work words book rules query request rows e in (row : List ℕ)
    → (row ∈ rows) ↔ WovenRow R.b R.x.identities (asked_all R.r R.x R.q) row
list_of_woven work words book rules query request rows e row =
    let R = list_is_exact work words book rules query request rows e in
    let w = rows_of_woven R.b rules query R.r R.q R.x R.rules_read R.query_read row in
    (λ k. w.0 ((R.may_be_had row).0 k), λ k. (R.may_be_had row).1 (w.1 k))

-- the number of the woven vertex of vertex v of the kth text, a, the texts being counted from 0, the query first
abbrev pub woven_vertex : List Asked → ℕ → Asked → Bytes → ℕ
woven_vertex asked k a v = place_vertex (weave_vertex k a.actors v) (weave asked).vertices

-- it is there
abbrev pub IsWoven : List Asked → ℕ → Asked → Bytes → Type 0
IsWoven asked k a v = weave_vertex k a.actors v ∈ (weave asked).vertices

-- for every vertex of every text it is there
pub vertices_are_woven : (asked : List Asked) → Counted (λ a. a) (λ k n a. (v : Bytes) → v ∈ vertex_names a.text → IsWoven asked k a v) 0 0 asked
unfolding weave
vertices_are_woven asked = vertices_woven asked

-- joined are actor vertices of one name only, each an actor of its own text's category
pub joined_are_actors : (asked : List Asked) (j k : ℕ) (a c : Asked) → j ≢ k → (v u : Bytes) → IsWoven asked j a v → IsWoven asked k c u
    → (woven_vertex asked j a v ≡ woven_vertex asked k c u) ↔ ((v ≡ u) × T (mem v a.actors) × T (mem u c.actors))
joined_are_actors asked j k a c d v u n m =
    let w = joined_exactly j k a.actors c.actors v u d in
    (λ e. w.0 (vertex_by_place (weave asked).vertices _ _ n m e), λ h. ap (λ z. place_vertex z (weave asked).vertices) (w.1 h))

-- and no two vertices of one text are joined
pub apart_within_a_text : (asked : List Asked) (k : ℕ) (a : Asked) (v u : Bytes) → IsWoven asked k a v → IsWoven asked k a u
    → woven_vertex asked k a v ≡ woven_vertex asked k a u → v ≡ u
apart_within_a_text asked k a v u n m e = never_joined_within k a.actors v u (vertex_by_place (weave asked).vertices _ _ n m e)

-- Not vacuous: the paper's rules, query and request are accepted,
weaving_example : ExactWeaving the_book the_request.identities (asked_all the_rules the_request the_query)
weaving_example = exact_weaving the_book (bytes_of rules) (bytes_of query) the_rules the_query the_request rules_read query_read_law

-- the two requestors are joined and the two h, of the query and of the policy, are not,
vertices_example : (weave (asked_all the_rules the_request the_query)).vertices
    ≡ actor (bytes_of "requestor") ∷ own 0 (bytes_of "h") ∷ own 0 (bytes_of "s") ∷ own 1 (bytes_of "h") ∷ []
unfolding computing
vertices_example = refl

-- the woven Return is the query's alone,
returns_example : (weave (asked_all the_rules the_request the_query)).returns ≡ 2 ∷ []
unfolding computing
returns_example = refl

-- and the row of S5 is had, by a family and so by a woven mapping
rows_example : rows_of the_book the_request.identities (asked_query the_rules the_request the_query) (asked_policies the_rules the_request) ≡ (2 ∷ []) ∷ []
unfolding computing
rows_example = refl

row_example : WovenRow the_book the_request.identities (asked_all the_rules the_request the_query) (2 ∷ [])
unfolding asked_query
row_example = (rows_of_woven the_book (bytes_of rules) (bytes_of query) the_rules the_query the_request rules_read query_read_law (2 ∷ [])).0
    ((rows_may_be_had the_book the_request.identities (asked_query the_rules the_request the_query) (asked_policies the_rules the_request)
    (query_named the_book (bytes_of query) the_query query_read_law) (policies_named the_book (bytes_of rules) the_rules rules_read the_request) (2 ∷ [])).0
    (subst (λ rows. 2 ∷ [] ∈ rows) (sym rows_example) (Memᴰ.head refl)))

-- Two categories, one over the other: boss is an actor of audit, and of the query's category, audit, but not of view.
abbrev more_rules : String
more_rules = "(category view (actors requestor) (over))\n(category audit (actors requestor boss) (over view))\n"
    then "(policy audit \"Match (boss)-[f:feeds]->(h) Return h\")\n(policy view \"Match (requestor)-[r:runs]->(boss) Return boss\")\n"

abbrev more_query : String
more_query = "Match (requestor)-[a:runs]->(h)<-[b:feeds]-(boss) Return h, boss"

abbrev more_request : String
more_request = "(request audit (id requestor ana))\n"

-- what the rules and the query are woven to, against the paper's book
abbrev more_woven : Outcome WovenPattern
more_woven =
    on_accept (read_rules the_book (bytes_of more_rules)) (λ r.
    on_accept (read_query the_book (bytes_of more_query)) (λ q.
    on_accept (read_request the_book r (bytes_of more_request)) (λ x. accepted (weave (asked_all r x q)))))

-- both policies are enforced, view's first; the query's boss is joined to audit's, and view's boss is a vertex of its own
more_example : more_woven ≡ accepted (record {
  vertices = actor (bytes_of "requestor") ∷ own 0 (bytes_of "h") ∷ actor (bytes_of "boss") ∷ own 1 (bytes_of "boss") ∷ own 2 (bytes_of "h") ∷ [];
  edges = record { name = bytes_of "a"; label = bytes_of "runs"; from = 0; to = 1 } ∷ record { name = bytes_of "b"; label = bytes_of "feeds"; from = 2; to = 1 }
      ∷ record { name = bytes_of "r"; label = bytes_of "runs"; from = 0; to = 3 } ∷ record { name = bytes_of "f"; label = bytes_of "feeds"; from = 2; to = 4 } ∷ [];
  clauses = [];
  returns = 1 ∷ 2 ∷ [];
})
unfolding computing
more_example = refl

-- so S5 and S6 are had, each as boss
more_rows_example : list_rows 16384 16384 (bytes_of book) (bytes_of more_rules) (bytes_of more_query) (bytes_of more_request)
    ≡ accepted ((1 ∷ 2 ∷ []) ∷ (1 ∷ 3 ∷ []) ∷ [])
unfolding computing
more_rows_example = refl
