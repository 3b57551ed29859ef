-- The texts of "Checked by hand", and what they are read as: theorems are shown to be about something by them.
use Prim.Native.Nat.{ℕ}
use Prim.Native.String.{String, ◌++◌ as ◌then◌}
use mathlib.Core.Path.{◌≡◌, refl}
use mathlib.Core.List.{[], ◌∷◌}
use Rattle.model.specs.Bytes.{bytes_of, same}
use Rattle.model.specs.Choice.{pick}
use Rattle.model.specs.Refusal.{accepted}
use Rattle.model.specs.Values.{int, str, ints, strs}
use Rattle.model.specs.Book.{Book}
use Rattle.model.specs.ReadBook.{read_book}
use Rattle.model.specs.QueryText.{QueryText, end, right, left, demand, lt}
use Rattle.model.specs.ReadQuery.{read_query}
use Rattle.model.specs.Rules.{Rules}
use Rattle.model.specs.ReadRules.{read_rules}
use Rattle.model.specs.Request.{Request, read_request}
use Rattle.model.specs.Models.{Mapping}
use Rattle.model.specs.Computing.{computing}

-- the book, of the nodes ana, hub, S5, S6, which are 0, 1, 2, 3
abbrev pub book : String
book = "(vattr kind str)\n(vattr rate int)\n(label runs)\n(label feeds)\n(node ana)\n"
    then "(node hub (kind 'hub'))\n(node S5 (rate 40))\n(node S6)\n(rel runs ana hub)\n(rel feeds S5 hub)\n(rel feeds S6 hub)\n"

-- the rules, of one category with one policy
abbrev pub rules : String
rules = "(category view (actors requestor) (over))\n(policy view \"Match (requestor)-[r:runs]->(h) Return h\")\n"

-- the query
abbrev pub query : String
query = "Match (requestor)-[a:runs]->(h)<-[b:feeds]-(s) Where s.rate < 50 Return s"

-- the request
abbrev pub request : String
request = "(request view (id requestor ana))\n"

-- the book as it is read; 40 is kept as 2^63 + 40
abbrev pub the_book : Book
the_book = record {
  vattrs = record { name = bytes_of "kind"; kind = strs } ∷ record { name = bytes_of "rate"; kind = ints } ∷ [];
  eattrs = [];
  labels = bytes_of "runs" ∷ bytes_of "feeds" ∷ [];
  nodes = record { name = bytes_of "ana"; entries = [] } ∷
      record { name = bytes_of "hub"; entries = record { attr = bytes_of "kind"; value = str (bytes_of "hub") } ∷ [] }
      ∷ record { name = bytes_of "S5"; entries = record { attr = bytes_of "rate"; value = int 9223372036854775848 } ∷ [] } ∷
      record { name = bytes_of "S6"; entries = [] } ∷ [];
  rels = record { label = bytes_of "runs"; from = 0; to = 1; entries = [] } ∷ record { label = bytes_of "feeds"; from = 2; to = 1; entries = [] } ∷
      record { label = bytes_of "feeds"; from = 3; to = 1; entries = [] } ∷ [];
}

-- the query as it is read
abbrev pub the_query : QueryText
the_query = record {
  matches = record {
    chain = right (bytes_of "requestor") (bytes_of "a") (bytes_of "runs") (left (bytes_of "h") (bytes_of "b") (bytes_of "feeds") (end (bytes_of "s")));
    conditions = demand (bytes_of "s") (bytes_of "rate") lt (int 9223372036854775858) ∷ [];
  } ∷ [];
  returns = bytes_of "s" ∷ [];
}

-- the text of the policy as it is read
abbrev pub the_policy : QueryText
the_policy = record {
  matches = record { chain = right (bytes_of "requestor") (bytes_of "r") (bytes_of "runs") (end (bytes_of "h")); conditions = [] } ∷ [];
  returns = bytes_of "h" ∷ [];
}

-- the rules as they are read
abbrev pub the_rules : Rules
the_rules = record {
  categories = record { name = bytes_of "view"; actors = bytes_of "requestor" ∷ []; over = [] } ∷ [];
  policies =
      record { category = bytes_of "view"; text = the_policy } ∷ [];
}

-- the request as it is read
abbrev pub the_request : Request
the_request = record { category = bytes_of "view"; identities = record { actor = bytes_of "requestor"; node = 0 } ∷ [] }

-- the mapping of the query to ana, hub and the node s, and to the relationships from ana to hub and from S5 to hub
abbrev pub the_mapping : ℕ → Mapping
the_mapping s = record { node = λ v. pick (same v (bytes_of "requestor")) 0 (pick (same v (bytes_of "h")) 1 s); rel = λ e. pick (same e (bytes_of "a")) 0 1 }

-- the book is accepted, and so are the others
pub book_read : read_book (bytes_of book) ≡ accepted the_book
unfolding computing
book_read = refl

-- the rules against the book
pub rules_read : read_rules the_book (bytes_of rules) ≡ accepted the_rules
unfolding computing
rules_read = refl

-- the query against the book
pub query_read_law : read_query the_book (bytes_of query) ≡ accepted the_query
unfolding computing
query_read_law = refl

-- the request against the book and the rules
pub request_read_law : read_request the_book the_rules (bytes_of request) ≡ accepted the_request
unfolding computing
request_read_law = refl
