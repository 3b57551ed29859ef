-- What an accepted request holds: a declared category, and identities of its actors.
use mathlib.Core.Path.{◌≡◌, sym, ap, subst}
use mathlib.Core.List.{List, [], ◌∷◌}
use mathlib.Core.Bool.{Bool, true, false, not, ◌||◌}
use lib.Dec.{T}
use Rattle.model.specs.Bytes.{Bytes}
use Rattle.model.specs.Choice.{pick, nothing, and_then}
use Rattle.model.specs.Lists.{is_nil, any}
use Rattle.model.specs.Names.{mem, place}
use Rattle.model.specs.Refusal.{accepted, refusal}
use Rattle.model.specs.Lines.{Line, lines_of, Step, fault, known, step_then, fault_or}
use Rattle.model.specs.Forms.{form_of}
use Rattle.model.specs.Book.{Book, node_names}
use Rattle.model.specs.Rules.{Rules, category_names, actors_of}
use Rattle.model.specs.ReadRules.{category}
use Rattle.model.specs.Request.{Claim, Identity, Request, RequestLine, request_line, request_fault, request_of, request_step, one_line, read_request}
use Rattle.model.proofs.Decides.{not_e, or_l, or_r}
use Rattle.model.proofs.Members.{◌∈◌, any_i, map_e, mem_e}
use Rattle.model.proofs.Outcomes.{never, bytes_e, lowest_e, form_e, fault_e}

-- an accepted request is that of a line without a fault
pub record RequestAccepted (b : Book) (r : Rules) (x : Request) : Type 0 where
  pub line : RequestLine
  pub faultless : request_fault b r line ≡ nothing
  pub is_request : request_of b line ≡ x

-- there is such a line
pub request_accepted : (b : Book) (r : Rules) (s : Bytes) (x : Request) → read_request b r s ≡ accepted x → RequestAccepted b r x
unfolding read_request one_line request_step refusal step_then
request_accepted b r s x e = lines (lines_of s) (bytes_e 4 2048 (λ l. l) s (one_line b r (lines_of s)) x e)
  where
    step : (y : Step Request) (ls : List Line) → step_then y 4 1 (λ x. pick (is_nil ls) (accepted x) (refusal 3 4 2)) ≡ accepted x → y ≡ known x
    step (fault n) ls e = never _ x e
    step (known y) ls e = last (is_nil ls) e
      where
        last : (t : Bool) → pick t (accepted y) (refusal 3 4 2) ≡ accepted x → known y ≡ known x
        last true e = let d : y ≡ x = cc in ap known d
        last false e = never _ x e

    lines : (ls : List Line) → one_line b r ls ≡ accepted x → RequestAccepted b r x
    lines [] e = never _ x e
    lines (l ∷ ls) e =
        let f = form_e (and_then (form_of l) request_line) (λ z. fault_or (request_fault b r z) (request_of b z)) x (step (request_step b r l) ls e) in
        let g = fault_e (request_fault b r f.0) (request_of b f.0) x f.2 in
        record { line = f.0; faultless = g.0; is_request = g.1 }

-- the category of an accepted request is declared
pub category_declared : (b : Book) (r : Rules) (s : Bytes) (x : Request) → read_request b r s ≡ accepted x → x.category ∈ category_names r
unfolding request_fault request_of
category_declared b r s x e =
    let h = request_accepted b r s x e in
    let c = h.line.category in
    let t = not_e (mem c (category_names r)) (λ u. lowest_e 4 _ _ h.faultless (or_l (not (mem c (category_names r))) _ u)) in
    subst (λ (z : Request). z.category ∈ category_names r) h.is_request (mem_e c (category_names r) t)

-- every identity of an accepted request is of an actor of the request's category
pub identity_of_actor : (b : Book) (r : Rules) (s : Bytes) (x : Request) → read_request b r s ≡ accepted x → (d : Identity) → d ∈ x.identities
    → d.actor ∈ actors_of r x.category
unfolding request_fault request_of
identity_of_actor b r s x e =
    let h = request_accepted b r s x e in
    subst (λ (z : Request). (d : Identity) → d ∈ z.identities → d.actor ∈ actors_of r z.category) h.is_request
    (λ d k. of_line h.line h.faultless d k)
  where
    of_line : (z : RequestLine) → request_fault b r z ≡ nothing → (d : Identity) → d ∈ (request_of b z).identities → d.actor ∈ actors_of r z.category
    of_line z f d k =
        let wrong : Claim → Bool = λ c. not (mem c.actor (actors_of r z.category)) || not (mem c.node (node_names b)) in
        let m = map_e (λ (c : Claim). let i : Identity = record { actor = c.actor; node = place c.node (node_names b) } in i) z.claims d k in
        let c : Claim = m.0 in
        let A = mem c.actor (actors_of r z.category) in
        let g : T (any wrong z.claims) → ⊥ = λ t. lowest_e 4 _ _ f (or_r (not (mem z.category (category_names r))) (any wrong z.claims) t) in
        let n = mem_e c.actor (actors_of r z.category)
        (not_e A (λ t. g (any_i wrong z.claims c m.1 (or_l (not A) (not (mem c.node (node_names b))) t)))) in
        subst (λ w. w ∈ actors_of r z.category) (sym (ap (λ i. i.actor) m.2)) n
