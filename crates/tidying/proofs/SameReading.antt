-- Books that say the same read rules, queries and requests alike: a text is read by a book's declarations and the names of its nodes.
use mathlib.Core.Path.{◌≡◌, refl}
use mathlib.Core.List.{List, [], ◌∷◌, map}
use mathlib.Core.Bool.{not, ◌&&◌, ◌||◌}
use lib.Dec.{ltb}
use Rattle.model.specs.Bytes.{Bytes, bytes_of}
use Rattle.model.specs.Choice.{pick, Maybe, nothing, just, and_then}
use Rattle.model.specs.Limits.{max_rules_bytes, max_query_bytes, max_request_bytes, max_policy_bytes}
use Rattle.model.specs.Lists.{is_nil, any}
use Rattle.model.specs.Names.{Name, mem, twice, place}
use Rattle.model.specs.Refusal.{accepted, refusal, on_accept, refused_if, lowest, ◌if◌}
use Rattle.model.specs.Lines.{Line, lines_of, read_lines, step_then, bytes_first, fault_or, form_step}
use Rattle.model.specs.Forms.{form_of}
use Rattle.model.specs.Book.{Book, attr_names, node_names}
use Rattle.model.specs.QueryText.{Condition, differ, demand, QueryText}
use Rattle.model.specs.Grammar.{query_text}
use Rattle.model.specs.Query.{vertex_names, edges_of}
use Rattle.model.specs.ReadQuery.{scoped, unknown, mistyped, typed, has_undeclared, has_twice, has_mistyped, too_many, has_from_itself}
use Rattle.model.specs.ReadQuery.{query_fault, text_or_fault, read_query}
use Rattle.model.specs.Rules.{Rules, category_names, actors_of}
use Rattle.model.specs.ReadRules.{RulesLine, category, policy, rules_line, has_policy, rules_fault, add_rule, rules_step, covered, read_rules}
use Rattle.model.specs.Request.{RequestLine, request_line, request_fault, request_of, request_step, one_line, read_request}
use Rattle.model.specs.SameBook.{SameNode, SameBook}
use Rattle.tidying.proofs.Together.{together_map}

module _ {b c : Book} (h : SameBook b c) where
  -- the nodes have the same names
  same_names : node_names b ≡ node_names c
  unfolding node_names
  same_names = together_map SameNode (λ n. n.name) (λ m n s. s.name) b.nodes c.nodes h.nodes

  -- a condition names what is not declared in both or in neither
  same_unknown : (k : Condition) (vs es : List Name) → unknown b k vs es ≡ unknown c k vs es
  unfolding unknown
  same_unknown (differ v u) vs es = refl
  same_unknown (demand x a r v) vs es = λ i. not (mem x vs && mem a (attr_names (h.vattrs i)) || mem x es && mem a (attr_names (h.eattrs i)))

  -- its relation or value is not of the declared type in both or in neither
  same_mistyped : (k : Condition) (vs es : List Name) → mistyped b k vs es ≡ mistyped c k vs es
  unfolding mistyped
  same_mistyped (differ v u) vs es = refl
  same_mistyped (demand x a r v) vs es = λ i. not (mem x vs && typed (h.vattrs i) a r v || mem x es && typed (h.eattrs i) a r v)

  -- a query or policy names what is not declared in both or in neither
  same_undeclared : (q : QueryText) → has_undeclared b q ≡ has_undeclared c q
  unfolding has_undeclared
  same_undeclared q = λ i.
      any (λ e. not (mem e.label (h.labels i))) (edges_of q)
      || any (λ s. same_unknown s.condition s.vertices s.edges i) (scoped [] [] q.matches)
      || any (λ v. not (mem v (vertex_names q))) q.returns

  -- some relation or value of it is not of the declared type in both or in neither
  same_types : (q : QueryText) → has_mistyped b q ≡ has_mistyped c q
  unfolding has_mistyped
  same_types q = λ i. any (λ s. same_mistyped s.condition s.vertices s.edges i) (scoped [] [] q.matches)

  -- the lowest fault of a query is the same
  same_query_fault : (q : QueryText) → query_fault b q ≡ query_fault c q
  unfolding query_fault
  same_query_fault q = λ i. lowest (
      (4 if same_undeclared q i) ∷ (5 if has_twice q) ∷ (6 if same_types q i) ∷ (7 if too_many q) ∷ (8 if has_from_itself q) ∷ [])

  -- what is read of a query, by its grammar, is accepted or refused alike
  same_text_or_fault : (m : Maybe QueryText) → text_or_fault b m ≡ text_or_fault c m
  unfolding text_or_fault
  same_text_or_fault nothing = refl
  same_text_or_fault (just q) = λ i. refused_if (same_query_fault q i) 3 1 (accepted q)

  -- a query is read alike
  pub same_query : (s : Bytes) → read_query b s ≡ read_query c s
  unfolding read_query
  same_query s = λ i. bytes_first 3 max_query_bytes (λ l. 1) s (same_text_or_fault (query_text s) i)

  -- the lowest fault of a line of the rules is the same
  same_rules_fault : (r : Rules) (x : RulesLine) → rules_fault b r x ≡ rules_fault c r x
  unfolding rules_fault
  same_rules_fault r (category n actors over) = refl
  same_rules_fault r (policy n bytes q) = λ i. lowest (
      (4 if not (mem n (category_names r)) || same_undeclared q i)
      ∷ (5 if has_policy r n || has_twice q)
      ∷ (6 if same_types q i)
      ∷ (7 if ltb max_policy_bytes bytes || too_many q)
      ∷ (8 if has_from_itself q)
      ∷ [])

  -- a line of the rules gives the same
  same_rules_step : rules_step b ≡ rules_step c
  unfolding rules_step
  same_rules_step = λ i r l. form_step (and_then (form_of l) rules_line) (λ x. fault_or (same_rules_fault r x i) (add_rule r x))

  -- rules are read alike
  pub same_rules : (s : Bytes) → read_rules b s ≡ read_rules c s
  unfolding read_rules
  same_rules s = λ i.
      bytes_first 2 max_rules_bytes (λ l. l) s (on_accept (read_lines 2 (same_rules_step i) 1 (record { categories = []; policies = [] }) (lines_of s)) covered)

  -- the lowest fault of a request's line is the same
  same_request_fault : (r : Rules) (x : RequestLine) → request_fault b r x ≡ request_fault c r x
  unfolding request_fault
  same_request_fault r x = λ i. lowest (
      (4 if not (mem x.category (category_names r))
      || any (λ k. not (mem k.actor (actors_of r x.category)) || not (mem k.node (same_names i))) x.claims)
      ∷ (5 if twice (map (λ k. k.actor) x.claims))
      ∷ (11 if not (mem (bytes_of "requestor") (map (λ k. k.actor) x.claims)))
      ∷ [])

  -- what it asks is the same
  same_request_of : (x : RequestLine) → request_of b x ≡ request_of c x
  unfolding request_of
  same_request_of x = λ i.
      record { category = x.category; identities = map (λ k. record { actor = k.actor; node = place k.node (same_names i) }) x.claims }

  -- the line gives the same
  same_request_step : (r : Rules) (l : Line) → request_step b r l ≡ request_step c r l
  unfolding request_step
  same_request_step r l = λ i. form_step (and_then (form_of l) request_line) (λ x. fault_or (same_request_fault r x i) (same_request_of x i))

  -- the lines of a request give the same
  same_line : (r : Rules) (ls : List Line) → one_line b r ls ≡ one_line c r ls
  unfolding one_line
  same_line r [] = refl
  same_line r (l ∷ ls) = λ i. step_then (same_request_step r l i) 4 1 (λ x. pick (is_nil ls) (accepted x) (refusal 3 4 2))

  -- a request is read alike
  pub same_request : (r : Rules) (s : Bytes) → read_request b r s ≡ read_request c r s
  unfolding read_request
  same_request r s = λ i. bytes_first 4 max_request_bytes (λ l. l) s (same_line r (lines_of s) i)
