-- The request: a category, and identities of its actors.
use Rattle.std.specs.Prelude.{ℕ, List, [], ◌∷◌, map, not, ◌||◌}
use Rattle.model.specs.Bytes.{Bytes, bytes_of, same}
use Rattle.model.specs.Choice.{pick, Maybe, nothing, just, and_then}
use Rattle.model.specs.Lists.{is_nil, any, each}
use Rattle.model.specs.Limits.{max_request_bytes}
use Rattle.model.specs.Names.{Name, mem, twice, place}
use Rattle.model.specs.Items.{Item, items_of}
use Rattle.model.specs.Refusal.{Outcome, accepted, refusal, Row, lowest, ◌if◌}
use Rattle.model.specs.Lines.{Line, Step, step_then, lines_of, bytes_first, fault_or, form_step}
use Rattle.model.specs.Forms.{as_word, as_name, first, at_end, form_of}
use Rattle.model.specs.Book.{Book, node_names}
use Rattle.model.specs.Rules.{Rules, category_names, actors_of}

-- an identity as it is written
pub record Claim : Type 0 where
  pub actor : Name
  pub node : Name

-- an identity: an actor, and the number of its node
pub record Identity : Type 0 where
  pub actor : Name
  pub node : ℕ

-- what a request asks
pub record Request : Type 0 where
  pub category : Name
  pub identities : List Identity

-- (id ACTOR NODE)
unfoldable pub claim_of : Item → Maybe Claim
claim_of i =
    and_then (items_of i) (λ is.
    first as_word is (λ w is.
    first as_name is (λ a is.
    first as_name is (λ n is.
    pick (same w (bytes_of "id")) (at_end is (record { actor = a; node = n })) nothing))))

-- a request as it is written
pub record RequestLine : Type 0 where
  pub category : Name
  pub claims : List Claim

-- request CATEGORY (id ACTOR NODE)...
unfoldable pub request_line : List Item → Maybe RequestLine
request_line is =
    first as_word is (λ w is.
    first as_name is (λ c is.
    and_then (each claim_of is) (λ cs.
    pick (same w (bytes_of "request")) (just (record { category = c; claims = cs })) nothing)))

-- the table of faults of the request's line
abbrev pub request_faults : Book → Rules → RequestLine → List Row
request_faults b r x =
    (4 if not (mem x.category (category_names r))
    || any (λ c. not (mem c.actor (actors_of r x.category)) || not (mem c.node (node_names b))) x.claims)
    ∷ (5 if twice (map (λ c. c.actor) x.claims))
    ∷ (11 if not (mem (bytes_of "requestor") (map (λ c. c.actor) x.claims)))
    ∷ []

-- the lowest of them
unfoldable pub request_fault : Book → Rules → RequestLine → Maybe ℕ
request_fault b r x = lowest (request_faults b r x)

-- the identities by node number
unfoldable pub request_of : Book → RequestLine → Request
request_of b x = record { category = x.category; identities = map (λ c. record { actor = c.actor; node = place c.node (node_names b) }) x.claims }

-- the request's line
unfoldable pub request_step : Book → Rules → Line → Step Request
request_step b r l = form_step (and_then (form_of l) request_line) (λ x. fault_or (request_fault b r x) (request_of b x))

-- one line; no line is 3 on line 1, a second line 3 on line 2
unfoldable pub one_line : Book → Rules → List Line → Outcome Request
one_line b r [] = refusal 3 4 1
one_line b r (l ∷ ls) = step_then (request_step b r l) 4 1 (λ x. pick (is_nil ls) (accepted x) (refusal 3 4 2))

-- text 4
unfoldable pub read_request : Book → Rules → Bytes → Outcome Request
read_request b r s = let request = one_line b r (lines_of s) in bytes_first 4 max_request_bytes (λ l. l) s request
