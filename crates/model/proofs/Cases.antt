-- "Checked by hand": the example and its ten cases marked *, one table and one theorem over it: of each the answer and every word of the row buffer.
use Prim.Native.Nat.{ℕ, ◌-◌}
use Prim.Native.String.{String}
use mathlib.Core.Path.{◌≡◌, refl, ap}
use mathlib.Core.List.{List, [], ◌∷◌, ◌++◌, map}
use lib.ListN.{length}
use Rattle.model.specs.Bytes.{bytes_of}
use Rattle.model.specs.Lists.{joined}
use Rattle.model.specs.Refusal.{Outcome, accepted, refused, on_accept}
use Rattle.model.specs.Service.{FoundRows, ListAnswer, Listed, ones, list_found, row_words, list_service}
use Rattle.model.specs.Computing.{computing}
use Rattle.model.proofs.Example.{book, rules, request}

-- a query, the request, the words of the row buffer; what the list answers, and the words that its rows are
pub record Case : Type 0 where
  pub query : String
  pub request : String
  pub words : ℕ
  pub answer : Outcome ListAnswer
  pub rows : List ℕ

-- what the list is to leave: its answer, its rows from the first word on and then all ones, a working memory of all ones
abbrev pub leaves : Case → Listed
leaves c = record { answer = c.answer; rows = c.rows ++ ones (c.words - length c.rows); work = ones 16384 }

-- what it leaves
abbrev pub run : Case → Listed
run c = list_service 16384 c.words (bytes_of book) (bytes_of rules) (bytes_of c.query) (bytes_of c.request)

-- the example's request, and the row buffer that the list program lends
abbrev asks : String → Outcome ListAnswer → List ℕ → Case
asks q o ws = record { query = q; request = request; words = 16384; answer = o; rows = ws }

-- returned (number, text, line)
abbrev returned : ℕ → ℕ → ℕ → Outcome ListAnswer
returned n t l = refused (record { number = n; text = t; line = l })

-- so many rows, of one Return name each
abbrev counted : ℕ → Outcome ListAnswer
counted n = accepted (record { rows = n; width = 1 })

-- the example, then the ten cases in the paper's order; ana, hub, S5, S6 are the nodes 0, 1, 2, 3
abbrev pub cases : List Case
cases =
    asks "Match (requestor)-[a:runs]->(h)<-[b:feeds]-(s) Where s.rate < 50 Return s" (counted 1) (2 ∷ [])
    ∷ asks "Match (requestor)-[a:runs]->(h)<-[b:feeds]-(s) Return s" (counted 2) (2 ∷ 3 ∷ [])
    ∷ asks "Match (requestor)-[a:runs]->(h)<-[b:feeds]-(s) Where s.rate <> 50 Return s" (counted 1) (2 ∷ [])
    ∷ asks "Match (requestor)-[a:runs]->(h)<-[b:feeds]-(s) Where s.rate < 40 Return s" (counted 0) []
    ∷ asks "Match (requestor)-[a:runs]->(h)<-[b:feeds]-(s) Where s.rate <= 40 Return s" (counted 1) (2 ∷ [])
    ∷ record {
      query = "Match (requestor)-[a:runs]->(h)<-[b:feeds]-(s) Where s.rate < 50 Return s";
      request = "(request view (id requestor S5))\n";
      words =
          16384;
      answer = counted 0;
      rows = [];
    }
    ∷ asks "Match (requestor)-[a:runs]->(h)<-[b:feeds]-(s) Where s.rate < 50 Match (t) Return s" (returned 13 5 0) []
    ∷ asks "Match (requestor)-[a:runs]->(h)<-[b:feeds]-(s) Where h <> h Return s" (returned 8 3 1) []
    ∷ record {
      query = "Match (requestor)-[a:runs]->(h)<-[b:feeds]-(s) Where s.rate < 50 Return s";
      request = request;
      words = 0;
      answer = returned 14 5 0;
      rows = [];
    }
    ∷ record {
      query = "Match (requestor)-[a:runs]->(h)<-[b:feeds]-(s) Where s.rate < 40 Return s";
      request = request;
      words = 0;
      answer = counted 0;
      rows = [];
    }
    ∷ asks "Match (requestor)-[a:runs]->(h)<-[b:feeds]-(s) Where s.rate = 'x' Return s" (returned 6 3 1) []
    ∷ asks "Match (requestor)-[a:runs]->(h)<-[b:feeds]-(s) Where s.rate < 50 Return s, s" (returned 5 3 1) []
    ∷ []

-- the words lent for a case and what is found of it, and what is to be found: of each row the node of the one Return name
abbrev finds : Case → ℕ × Outcome FoundRows
finds c = (c.words, list_found 16384 c.words (bytes_of book) (bytes_of rules) (bytes_of c.query) (bytes_of c.request))

abbrev to_find : Case → ℕ × Outcome FoundRows
to_find c = (c.words, on_accept c.answer (λ a. accepted (record { rows = map (λ n. n ∷ []) c.rows; width = a.width })))

-- what the list leaves of what is found; the words of all ones are not written out
abbrev left : ℕ × Outcome FoundRows → Listed
left f = record {
  answer = on_accept f.1 (λ a. accepted (record { rows = length a.rows; width = a.width }));
  rows = row_words f.0 f.1;
  work = ones 16384;
}

found_by_hand : map finds cases ≡ map to_find cases
unfolding computing
found_by_hand = refl

-- the list leaves of each case what it is to leave
pub checked_by_hand : map run cases ≡ map leaves cases
unfolding list_service row_words on_accept joined
checked_by_hand = ap (map left) found_by_hand
