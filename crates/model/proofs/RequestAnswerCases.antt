-- Whole answers of the request reader, computed: where each identity's actor stands, and what every other slot holds.
use Prim.Native.Nat.{ℕ}
use Prim.Native.String.{String}
use mathlib.Core.Path.{◌≡◌, refl}
use mathlib.Core.List.{List, [], ◌∷◌, map}
use Rattle.std.specs.Prelude.{Ok, Err}
use Rattle.model.specs.Bytes.{bytes_of}
use Rattle.model.specs.RequestPlaces.{no_identity}
use Rattle.model.specs.RequestAnswer.{request_read}
use Rattle.model.specs.Computing.{computing}
use Rattle.model.specs.declared.Identity.{Identity as IdentityData}
use Rattle.model.specs.declared.RequestRead.{RequestRead}

-- two nodes
abbrev book : String
book = "(node ana)\n(node hub)\n"

-- two categories; the second has an actor of its own name
abbrev rules : String
rules = "(category view (actors requestor) (over))\n(policy view \"Match (requestor) Return requestor\")\n(category edit (actors requestor edit) (over view))\n"

-- what is read of a request
abbrev read : String → RequestRead
read request = request_read 16384 (bytes_of book) (bytes_of rules) (bytes_of request)

-- an identity by the start and the length of its actor's name and by its node
abbrev at : ℕ → ℕ → ℕ → IdentityData
at start size node = record { actor = record { start = start; length = size }; node = node }

-- accepted
abbrev gives : ℕ → ℕ → List IdentityData → RequestRead
gives category count is = record { verdict = Ok tt; category = category; identities = is; count = count }

-- refused
abbrev refuses : ℕ → ℕ → RequestRead
refuses number line = record {
  verdict = Err (record { number = number; text = 4; line = line });
  category = 0;
  identities = no_identity ∷ no_identity ∷ no_identity ∷ no_identity ∷ no_identity ∷ no_identity ∷ no_identity ∷ no_identity ∷ [];
  count = 0;
}

-- a request, and the whole answer
record Case : Type 0 where
  request : String
  answer : RequestRead

-- one identity; many spaces; no spaces beside brackets, two identities of one node, an actor named like its category; none for the requestor; a second line
abbrev cases : List Case
cases =
    record {
      request = "(request view (id requestor ana))\n";
      answer = gives 0 1
          (at 18 9 0 ∷ no_identity ∷ no_identity ∷ no_identity ∷ no_identity ∷ no_identity ∷ no_identity ∷ no_identity ∷ []);
    }
    ∷ record {
      request = "  ( request   view  (  id   requestor  hub  )  )  \n";
      answer = gives 0 1
          (at 28 9 1 ∷ no_identity ∷ no_identity ∷ no_identity ∷ no_identity ∷ no_identity ∷ no_identity ∷ no_identity ∷ []);
    }
    ∷ record {
      request = "(request edit(id edit hub)(id requestor hub))\n";
      answer = gives 1 2
          (at 17 4 1 ∷ at 30 9 1 ∷ no_identity ∷ no_identity ∷ no_identity ∷ no_identity ∷ no_identity ∷ no_identity ∷ []);
    }
    ∷ record { request = "(request edit (id edit hub))\n"; answer = refuses 11 1 }
    ∷ record { request = "(request view (id requestor ana))\n\n"; answer = refuses 3 2 }
    ∷ []

-- each answer is that one
whole_answers : map (λ c. read c.request) cases ≡ map (λ c. c.answer) cases
unfolding computing
whole_answers = refl
