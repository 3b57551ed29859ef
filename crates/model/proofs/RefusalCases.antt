-- Texts with two faults at once: the refusal given is the first in the paper's order. One table and one theorem over it.
use Prim.Native.Nat.{ℕ}
use Prim.Native.String.{String, ◌++◌ as ◌then◌}
use mathlib.Core.Path.{◌≡◌, refl}
use mathlib.Core.List.{List, [], ◌∷◌, ◌++◌, map}
use lib.ListN.{replicate}
use Rattle.model.specs.Bytes.{Bytes, bytes_of}
use Rattle.model.specs.Choice.{just}
use Rattle.model.specs.Refusal.{Outcome, accepted, refused}
use Rattle.model.specs.Values.{int, str, ints}
use Rattle.model.specs.Book.{Book}
use Rattle.model.specs.Names.{same_but_case}
use Rattle.model.specs.ReadBook.{name_fault, node_fault, rel_fault}
use Rattle.model.specs.Service.{list_rows}
use Rattle.model.specs.Computing.{computing}

-- what a list is given, and what it gives
record Case : Type 0 where
  work : ℕ
  words : ℕ
  book : Bytes
  rules : Bytes
  query : Bytes
  request : Bytes
  gives : Outcome (List (List ℕ))

-- what the list gives for a case
abbrev run : Case → Outcome (List (List ℕ))
run c = list_rows c.work c.words c.book c.rules c.query c.request

-- returned (number, text, line)
abbrev returned : ℕ → ℕ → ℕ → Outcome (List (List ℕ))
returned n t l = refused (record { number = n; text = t; line = l })

-- four texts that are accepted
abbrev good_book : Bytes
good_book = bytes_of "(vattr rate int)\n(label runs)\n(node ana)\n(node hub (rate 40))\n(rel runs ana hub)\n"

abbrev good_rules : Bytes
good_rules = bytes_of "(category view (actors requestor guest) (over))\n(policy view \"Match (requestor)-[r:runs]->(h) Return h\")\n"

abbrev good_query : Bytes
good_query = bytes_of "Match (requestor)-[a:runs]->(h) Return h"

abbrev good_request : Bytes
good_request = bytes_of "(request view (id requestor ana))\n"

-- one text of a list, the others being accepted
abbrev in_book : String → Outcome (List (List ℕ)) → Case
in_book s o = record { work = 16384; words = 1; book = bytes_of s; rules = good_rules; query = good_query; request = good_request; gives = o }

abbrev in_rules : String → Outcome (List (List ℕ)) → Case
in_rules s o = record { work = 16384; words = 1; book = good_book; rules = bytes_of s; query = good_query; request = good_request; gives = o }

abbrev in_query : String → Outcome (List (List ℕ)) → Case
in_query s o = record { work = 16384; words = 1; book = good_book; rules = good_rules; query = bytes_of s; request = good_request; gives = o }

abbrev in_request : String → Outcome (List (List ℕ)) → Case
in_request s o = record { work = 16384; words = 1; book = good_book; rules = good_rules; query = good_query; request = bytes_of s; gives = o }

-- 15, then book, rules, query, request; a text of one bracket breaks the grammar
abbrev bad : Bytes
bad = bytes_of "(\n"

-- a fault in each text from one on
abbrev in_turn : List Case
in_turn =
    record { work = 16383; words = 0; book = bad; rules = bad; query = bad; request = bad; gives = returned 15 0 0 }
    ∷ record { work = 16384; words = 0; book = bad; rules = bad; query = bad; request = bad; gives = returned 3 1 1 }
    ∷ record { work = 16384; words = 0; book = good_book; rules = bad; query = bad; request = bad; gives = returned 3 2 1 }
    ∷ record { work = 16384; words = 0; book = good_book; rules = good_rules; query = bad; request = bad; gives = returned 3 3 1 }
    ∷ record { work = 16384; words = 0; book = good_book; rules = good_rules; query = good_query; request = bad; gives = returned 3 4 1 }
    ∷ record { work = 16384; words = 0; book = good_book; rules = good_rules; query = good_query; request = good_request; gives = returned 14 5 0 }
    ∷ record { work = 16384; words = 1; book = good_book; rules = good_rules; query = good_query; request = good_request; gives = accepted ((1 ∷ []) ∷ []) }
    ∷ []

-- a category over another, and its policy of eight vertices that no edge ties
abbrev eight : String → String → String
eight name over = "(category " then name then " (actors requestor) (over" then over then "))\n(policy " then name
    then " \"Match (a) Match (b) Match (c) Match (d) Match (e) Match (f) Match (g) Match (h) Return a\")\n"

-- three such policies, and a query of two: 12 before 13, and 13 before 14
abbrev wide : String
wide = eight "low" "" then eight "mid" " low" then eight "view" " mid"

abbrev in_woven : List Case
in_woven =
    in_rules wide (returned 12 5 0)
    ∷ record {
      work = 16384;
      words = 0;
      book = good_book;
      rules = good_rules;
      query = bytes_of "Match (requestor)-[a:runs]->(h) Match (t) Return h";
      request =
          good_request;
      gives = returned 13 5 0;
    }
    ∷ []

-- within a text 1, then 2, then lines upwards; 10 after all lines
abbrev in_text : List Case
in_text =
    record { work = 16384; words = 1; book = good_book; rules = good_rules; query = replicate 2049 0; request = good_request; gives = returned 1 3 0 }
    ∷ record {
      work = 16384;
      words = 1;
      book = bytes_of "(label)\n"
          ++ (0 ∷ []);
      rules = good_rules;
      query = good_query;
      request = good_request;
      gives = returned 2 1 2;
    }
    ∷ in_book "(label a)\n(node)\n(label a)\n" (returned 3 1 2)
    ∷ in_rules "(category view (actors requestor) (over))\n(category)\n" (returned 3 2 2)
    ∷ in_rules "(category view (actors requestor) (over))\n" (returned 10 2 0)
    ∷ in_request "(request view (id guest ana))\n(request)\n" (returned 11 4 1)
    ∷ in_request "(request view (id requestor ana))\n(request)\n" (returned 3 4 2)
    ∷ []

-- on a line the lowest number: 4 before 5, 5 before 6, 6 before 7, 7 before 8 or 9, 5 before 11
abbrev on_line : List Case
on_line =
    in_book "(node n)\n(node n (x 1))\n" (returned 4 1 2)
    ∷ in_book "(vattr x int)\n(node n)\n(node n (x 'a'))\n" (returned 5 1 3)
    ∷ in_book "(label l)\n(node n)\n(rel l n n)\n(rel l n n (x 1))\n" (returned 4 1 4)
    ∷ in_book "(eattr x int)\n(label l)\n(node n)\n(rel l n n)\n(rel l n n (x 'a'))\n" (returned 5 1 5)
    ∷ in_rules "(category c (actors requestor requestor) (over d))\n" (returned 4 2 1)
    ∷ in_rules "(category c (actors requestor a b c d e f g g) (over))\n" (returned 5 2 1)
    ∷ in_rules "(category c (actors a b c d e f g h i) (over))\n" (returned 7 2 1)
    ∷ in_rules "(policy c \"Match (v) Return v, v\")\n" (returned 4 2 1)
    ∷ in_rules "(category c (actors requestor) (over))\n(policy c \"Match (v) Where v.rate = 'x' Return v, v\")\n" (returned 5 2 2)
    ∷ in_rules ("(category c (actors requestor) (over))\n(policy c \"Match (a) Match (b) Match (c) Match (d) Match (e) Match (f) Match (g) Match (h)"
    then " Match (i) Where a.rate = 'x' Return a\")\n") (returned 6 2 2)
    ∷ in_rules ("(category c (actors requestor) (over))\n(policy c \"Match (a) Match (b) Match (c) Match (d) Match (e) Match (f) Match (g) Match (h)"
    then " Match (i) Where a <> a Return a\")\n") (returned 7 2 2)
    ∷ in_query "Match (v)-[e:feeds]->(v) Return v, v" (returned 4 3 1)
    ∷ in_query "Match (v) Where v.rate = 'x' Return v, v" (returned 5 3 1)
    ∷ in_query "Match (a) Match (b) Match (c) Match (d) Match (e) Match (f) Match (g) Match (h) Match (i) Where a.rate = 'x' Return a" (returned 6 3 1)
    ∷ in_query "Match (a) Match (b) Match (c) Match (d) Match (e) Match (f) Match (g) Match (h) Match (i) Where a <> a Return a" (returned 7 3 1)
    ∷ in_request "(request view (id host ana) (id host ana))\n" (returned 4 4 1)
    ∷ in_request "(request view (id guest ana) (id guest ana))\n" (returned 5 4 1)
    ∷ []

-- node names that are equal but for case: 5 after 4 and before 6; other names may be, a word that is never a name may be but for case, and a name is used by
-- the very name
abbrev by_case : List Case
by_case =
    in_book "(node S6)\n(node s6)\n" (returned 5 1 2)
    ∷ in_book "(node S6)\n(node s6 (x 1))\n" (returned 4 1 2)
    ∷ in_book "(vattr x int)\n(node S6)\n(node s6 (x 'a'))\n" (returned 5 1 3)
    ∷ in_book "(label l)\n(label L)\n(vattr x int)\n(vattr X int)\n(eattr e int)\n(eattr E int)\n(node match)\n(node)\n" (returned 3 1 8)
    ∷ in_book "(label l)\n(node S6)\n(rel l s6 S6)\n" (returned 4 1 3)
    ∷ in_request "(request view (id requestor Ana))\n" (returned 4 4 1)
    ∷ []

-- all of them
abbrev cases : List Case
cases = in_turn ++ in_woven ++ in_text ++ on_line ++ by_case

-- each case gives its refusal
table : map run cases ≡ map (λ c. c.gives) cases
unfolding computing
table = refl

-- the limits of a book are the last on a line: 5 before 7 of a name, 6 before 7 of a node and of a relationship
abbrev full_book : Book
full_book = record {
  vattrs = record { name = bytes_of "x"; kind = ints } ∷ [];
  eattrs = record { name = bytes_of "x"; kind = ints } ∷ [];
  labels = bytes_of "l" ∷ [];
  nodes = replicate 256 (record { name = bytes_of "n"; entries = [] });
  rels = replicate 1024 (record { label = bytes_of "k"; from = 0; to = 0; entries = [] });
}

-- a full book and one fault more
full : (name_fault (bytes_of "l") (replicate 32 (bytes_of "l")) ≡ just 5)
    × (node_fault same_but_case full_book (bytes_of "m") (record { attr = bytes_of "x"; value = str [] } ∷ []) ≡ just 6)
    × (rel_fault full_book (bytes_of "l") (bytes_of "n") (bytes_of "n") (record { attr = bytes_of "x"; value = str [] } ∷ []) ≡ just 6)
unfolding computing
full = (refl, refl, refl)
