-- What acceptance of a query says, both ways, and that the names of an accepted query are clear.
use Prim.Native.Nat.{◌≤◌}
use mathlib.Core.Path.{◌≡◌, refl, ap, subst}
use mathlib.Core.Logic.{◌≢◌}
use mathlib.Core.Bool.{◌||◌}
use lib.ListN.{length}
use lib.Dec.{T}
use Rattle.model.specs.Bytes.{Bytes, same}
use Rattle.model.specs.Choice.{Maybe, nothing, just}
use Rattle.model.specs.Lists.{any}
use Rattle.model.specs.Names.{mem, twice}
use Rattle.model.specs.Refusal.{accepted, refusal, refused_if}
use Rattle.model.specs.Lines.{bad_line}
use Rattle.model.specs.Book.{Book}
use Rattle.model.specs.QueryText.{differ, QueryText}
use Rattle.model.specs.Grammar.{query_text}
use Rattle.model.specs.Query.{vertex_names, edge_names, conditions_of}
use Rattle.model.specs.ReadQuery.{from_itself, has_twice, has_from_itself, query_faults, query_fault, text_or_fault, read_query}
use Rattle.model.proofs.Decides.{or_l, or_r, same_refl}
use Rattle.model.proofs.Members.{◌∈◌, any_i, mem_i}
use Rattle.model.proofs.ByNodes.{Named}
use Rattle.model.proofs.Outcomes.{never, if_e, no_fault, bytes_accepted, accept_bytes}
use Rattle.model.proofs.Scopes.{named_of}

-- a query that is accepted: at most 2,048 bytes, all allowed, of the grammar and without a fault
pub record QueryAccepted (b : Book) (s : Bytes) (q : QueryText) : Type 0 where
  pub short : length s ≤ 2048
  pub allowed : bad_line 1 s ≡ nothing
  pub is_text : query_text s ≡ just q
  pub faultless : query_fault b q ≡ nothing

-- an accepted query is such a query
pub query_accepted : (b : Book) (s : Bytes) (q : QueryText) → read_query b s ≡ accepted q → QueryAccepted b s q
unfolding read_query text_or_fault refusal
query_accepted b s q e =
    let h = bytes_accepted 3 2048 (λ l. 1) s (text_or_fault b (query_text s)) q e in
    let r = go (query_text s) h.rest in
    record { short = h.short; allowed = h.allowed; is_text = r.0; faultless = r.1 }
  where
    go : (m : Maybe QueryText) → text_or_fault b m ≡ accepted q → (m ≡ just q) × (query_fault b q ≡ nothing)
    go nothing f = never _ q f
    go (just p) f = let r = if_e (query_fault b p) 3 1 (accepted p) q f in
        let k : p ≡ q = cc r.1 in (ap just k, subst (λ z. query_fault b z ≡ nothing) k r.0)

-- such a query is accepted
pub accept_query : (b : Book) (s : Bytes) (q : QueryText) → QueryAccepted b s q → read_query b s ≡ accepted q
unfolding read_query text_or_fault refused_if
accept_query b s q h =
    accept_bytes 3 2048 (λ l. 1) s (text_or_fault b (query_text s)) q
    (record { short = h.short; allowed = h.allowed; rest = rw (h.is_text, h.faultless) refl })

-- the names of a text are clear: conditions and Return name what stands in the chains, no name is a vertex and an edge, no edge variable stands twice,
-- no vertex is excluded from itself
pub record ClearNames (q : QueryText) : Type 0 where
  pub declared : Named q
  pub apart : (x : Bytes) → x ∈ vertex_names q → x ∈ edge_names q → ⊥
  pub once : T (twice (edge_names q)) → ⊥
  pub differing : (v u : Bytes) → differ v u ∈ conditions_of q → v ≢ u

-- the names of a text without a fault are clear
pub clear_names : (b : Book) (q : QueryText) → query_fault b q ≡ nothing → ClearNames q
unfolding query_fault has_twice has_from_itself from_itself
clear_names b q e =
    let h = (no_fault (query_faults b q)).0 e in
    let A = twice (edge_names q) in
    let B = any (λ x. mem x (vertex_names q)) (edge_names q) in
    let C = twice q.returns in
    record {
      declared = named_of b q h.0;
      apart = λ x v w. h.1.0 (or_l (A || B) C (or_r A B (any_i (λ z. mem z (vertex_names q)) (edge_names q) x w (mem_i x (vertex_names q) v))));
      once = λ t. h.1.0 (or_l (A || B) C (or_l A B t));
      differing = λ v u m e. h.1.1.1.1.0 (any_i from_itself (conditions_of q) (differ v u) m (subst (λ z. T (same v z)) e (same_refl v)));
    }

-- the names of an accepted query are clear
pub query_clear : (b : Book) (s : Bytes) (q : QueryText) → read_query b s ≡ accepted q → ClearNames q
query_clear b s q e = clear_names b q (query_accepted b s q e).faultless

-- an accepted query names in its conditions and in Return what stands in its chains
pub query_named : (b : Book) (s : Bytes) (q : QueryText) → read_query b s ≡ accepted q → Named q
query_named b s q e = (query_clear b s q e).declared
