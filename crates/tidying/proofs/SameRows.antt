-- Books that say the same have the same rows, so that the services answer the same: a row is found by the numbers of nodes and relationships, by labels, and
-- by the values of attributes.
use Prim.Native.Nat.{ℕ, ◌*◌}
use mathlib.Core.Path.{◌≡◌, refl}
use mathlib.Core.List.{List, [], ◌∷◌, ◌++◌, map}
use mathlib.Core.Bool.{Bool, true, false, not, ◌&&◌, ◌||◌}
use lib.ListN.{length, get_or}
use lib.Dec.{ltb, eqb}
use Rattle.model.specs.Bytes.{Bytes, same}
use Rattle.model.specs.Choice.{pick}
use Rattle.model.specs.Limits.{max_query_bytes}
use Rattle.model.specs.Lists.{is_nil, all, keep}
use Rattle.model.specs.Names.{Name, mem, place}
use Rattle.model.specs.Values.{Entry}
use Rattle.model.specs.Refusal.{accepted, on_accept, refusal, refused_if}
use Rattle.model.specs.Book.{Book, Node, Rel}
use Rattle.model.specs.ReadBook.{read_book}
use Rattle.model.specs.QueryText.{Chain, end, right, left, Condition, differ, demand, QueryText}
use Rattle.model.specs.Query.{hd, ChainEdge, vertex_names, edges_of, edge_names, conditions_of}
use Rattle.model.specs.Pattern.{pattern_of}
use Rattle.model.specs.Writing.{written_query}
use Rattle.model.specs.Rules.{category_names}
use Rattle.model.specs.Request.{Identity}
use Rattle.model.specs.Weave.{Asked, asked_query, asked_policies, weave, woven_fault}
use Rattle.model.specs.MayHave.{is_actor}
use Rattle.model.specs.Graph.{node_entries, rel_of, rel_entries, runs, meets, is_node, is_rel}
use Rattle.model.specs.Models.{Mapping, entries_of, edge_holds, chain_holds, condition_holds, models, is_on, met_by, suits_edge, rel_for, mapping_of}
use Rattle.model.specs.Rows.{some_choice, actor_nodes, all_have, row_given, may_have, tuples, rows_of}
use Rattle.model.specs.Service.{ones, with_work, rules_service, query_service, request_service, writer_text, onto, writer_service}
use Rattle.model.specs.Service.{rows_asked, list_found, row_words, list_service, lamp_service}
use Rattle.model.specs.SameBook.{SameEntries, SameNode, SameRel, SameBook}
use Rattle.tidying.proofs.Together.{together_length, together_at, together_place, together_both}
use Rattle.tidying.proofs.SameReading.{same_rules, same_query, same_request}

-- relationships that say the same run alike
same_runs : (r t : Rel) → SameRel r t → (l : Name) (x y : ℕ) → runs r l x y ≡ runs t l x y
unfolding runs
same_runs r t s l x y = λ i. pick (eqb (s.from i) x && eqb (s.to i) y) (same (s.label i) l) false

-- they meet the same requirements
same_met : (r t : Rel) → SameRel r t → (k : Condition) → met_by r k ≡ met_by t k
unfolding met_by
same_met r t s (differ v u) = refl
same_met r t s (demand y a z v) = λ i. meets (s.entries a i) z v

-- they suit the same edge variables
same_suits : (node : Name → ℕ) (es : List ChainEdge) (cs : List Condition) (r t : Rel) → SameRel r t → suits_edge node es cs r ≡ suits_edge node es cs t
unfolding suits_edge
same_suits node es cs r t s = λ i.
    pick (all (λ e. same_runs r t s e.label (node e.from) (node e.to) i) es) (all (λ k. same_met r t s k i) cs) false

module _ {b c : Book} (h : SameBook b c) where
  -- as many nodes
  same_nodes : length b.nodes ≡ length c.nodes
  same_nodes = together_length SameNode b.nodes c.nodes h.nodes

  -- as many relationships
  same_rels : length b.rels ≡ length c.rels
  same_rels = together_length SameRel b.rels c.rels h.rels

  -- the relationships of one number say the same
  same_rel : (n : ℕ) → SameRel (rel_of b n) (rel_of c n)
  unfolding rel_of
  same_rel n = together_at SameRel _ _ (record { label = refl; from = refl; to = refl; entries = λ a. refl }) b.rels c.rels h.rels n

  -- the nodes of one number have the same attributes and values
  same_node : (n : ℕ) → SameEntries (node_entries b n) (node_entries c n)
  unfolding node_entries
  same_node n =
      let of : Node → List Entry = λ x. x.entries in
      let both = together_both SameNode SameEntries of (λ x y s. s.entries) b.nodes c.nodes h.nodes in
      together_at SameEntries [] [] (λ a. refl) (map of b.nodes) (map of c.nodes) both n

  -- what a mapping gives a variable has the same attributes and values
  same_entries : (m : Mapping) (es : List Name) (x : Name) → SameEntries (entries_of b m es x) (entries_of c m es x)
  unfolding entries_of rel_entries
  same_entries m es x = go (mem x es)
    where
      go : (t : Bool)
          → SameEntries (pick t (rel_entries b (m.rel x)) (node_entries b (m.node x))) (pick t (rel_entries c (m.rel x)) (node_entries c (m.node x)))
      go true = (same_rel (m.rel x)).entries
      go false = same_node (m.node x)

  -- an edge has its relationship in both or in neither
  same_edge : (r : ℕ) (l : Name) (x y : ℕ) → edge_holds b r l x y ≡ edge_holds c r l x y
  unfolding edge_holds is_rel
  same_edge r l x y = λ i. ltb r (same_rels i) && same_runs (rel_of b r) (rel_of c r) (same_rel r) l x y i

  -- so with a chain
  same_chain : (m : Mapping) (k : Chain) → chain_holds b m k ≡ chain_holds c m k
  unfolding chain_holds is_node
  same_chain m (end v) = λ i. ltb (m.node v) (same_nodes i)
  same_chain m (right v e l k) = let rest = same_chain m k in
      λ i. ltb (m.node v) (same_nodes i) && same_edge (m.rel e) l (m.node v) (m.node (hd k)) i && rest i
  same_chain m (left v e l k) = let rest = same_chain m k in
      λ i. ltb (m.node v) (same_nodes i) && same_edge (m.rel e) l (m.node (hd k)) (m.node v) i && rest i

  -- so with a condition
  same_condition : (m : Mapping) (es : List Name) (k : Condition) → condition_holds b m es k ≡ condition_holds c m es k
  unfolding condition_holds
  same_condition m es (differ v u) = refl
  same_condition m es (demand x a r v) = λ i. meets (same_entries m es x a i) r v

  -- a mapping is a model of a text in both or in neither
  same_models : (q : QueryText) (m : Mapping) → models b q m ≡ models c q m
  unfolding models
  same_models q m = λ i. all (λ k. same_chain m k.chain i) q.matches
      && all (λ k. all (λ d. same_condition m (edge_names q) d i) k.conditions) q.matches

  -- an edge variable gets the same relationship
  same_rel_for : (q : QueryText) (node : Name → ℕ) (x : Name) → rel_for b q node x ≡ rel_for c q node x
  unfolding rel_for
  same_rel_for q node x =
      let es = keep (λ e. same e.name x) (edges_of q) in
      let cs = keep (is_on x) (conditions_of q) in
      together_place SameRel (suits_edge node es cs) (same_suits node es cs) b.rels c.rels h.rels

  -- nodes for the vertices of a text give the same mapping
  same_mapping : (q : QueryText) (ns : List ℕ) → mapping_of b q ns ≡ mapping_of c q ns
  unfolding mapping_of
  same_mapping q ns = λ i.
      let node : Name → ℕ = λ v. get_or ns (place v (vertex_names q)) (same_nodes i) in
      record { node = node; rel = λ x. same_rel_for q node x i }

  -- a choice of nodes is tried alike: a mapping that is a model, and what is asked after it
  same_trial : (q : QueryText) (ns : List ℕ) (f g : Mapping → Bool) → ((m : Mapping) → f m ≡ g m)
      → pick (models b q (mapping_of b q ns)) (f (mapping_of b q ns)) false ≡ pick (models c q (mapping_of c q ns)) (g (mapping_of c q ns)) false
  same_trial q ns f g e = λ i. let m = same_mapping q ns i in pick (same_models q m i) (e m i) false

  -- the texts have mappings in both or in neither
  same_all : (given : List Identity) (others : List Asked) → all_have b given others ≡ all_have c given others
  unfolding all_have
  same_all given [] = refl
  same_all given (a ∷ others) =
      λ i. some_choice (same_nodes i) (keep (λ g. is_actor a g.actor) given) (vertex_names a.text)
      (λ ns. same_trial a.text ns (λ m. all_have b (given ++ actor_nodes a m) others) (λ m. all_have c (given ++ actor_nodes a m) others)
      (λ m. same_all (given ++ actor_nodes a m) others) i)

  -- a row may be had in both or in neither
  same_may_have : (ids : List Identity) (query : Asked) (policies : List Asked) (row : List ℕ)
      → may_have b ids query policies row ≡ may_have c ids query policies row
  unfolding may_have
  same_may_have ids query policies row = λ i.
      some_choice (same_nodes i) (keep (λ g. is_actor query g.actor) ids ++ row_given query.text.returns row) (vertex_names query.text)
      (λ ns. same_trial query.text ns (λ m. all_have b (ids ++ actor_nodes query m) policies) (λ m. all_have c (ids ++ actor_nodes query m) policies)
      (λ m. same_all (ids ++ actor_nodes query m) policies) i)

  -- the rows are the same
  pub same_rows : (ids : List Identity) (query : Asked) (policies : List Asked) → rows_of b ids query policies ≡ rows_of c ids query policies
  unfolding rows_of
  same_rows ids query policies = λ i.
      keep (λ row. same_may_have ids query policies row i) (tuples (length query.text.returns) (same_nodes i))

-- two texts that are read as books that say the same; every other text, the row buffer's words and the working memory are whatever they are
module _ (s t : Bytes) {b c : Book} (read-s : read_book s ≡ accepted b) (read-t : read_book t ≡ accepted c) (h : SameBook b c) where
  -- the rules reader answers the same
  pub same_rules_service : (work : ℕ) (rules : Bytes) → rules_service work s rules ≡ rules_service work t rules
  unfolding rules_service on_accept
  same_rules_service work rules = rw (read-s, read-t) (λ i. record {
    answer = with_work work (on_accept (same_rules h rules i)
        (λ r. accepted (record { categories = length r.categories; policies = length r.policies })));
    work = ones work;
  })

  -- the query reader
  pub same_query_service : (work : ℕ) (query : Bytes) → query_service work s query ≡ query_service work t query
  unfolding query_service on_accept
  same_query_service work query = rw (read-s, read-t) (λ i. record {
    answer = with_work work (on_accept (same_query h query i) (λ q. accepted (pattern_of q)));
    work = ones work;
  })

  -- the request reader
  pub same_request_service : (work : ℕ) (rules request : Bytes) → request_service work s rules request ≡ request_service work t rules request
  unfolding request_service on_accept
  same_request_service work rules request = rw (read-s, read-t) (λ i. record {
    answer = with_work work (
        on_accept (same_rules h rules i) (λ r.
        on_accept (same_request h r request i) (λ x. accepted (record { category = place x.category (category_names r); identities = x.identities }))));
    work = ones work;
  })

  -- the query is written the same
  same_written : (work room : ℕ) (rules query : Bytes) → writer_text work room s rules query ≡ writer_text work room t rules query
  unfolding writer_text on_accept
  same_written work room rules query = rw (read-s, read-t) (λ i. with_work work (
      on_accept (same_rules h rules i) (λ r.
      on_accept (same_query h query i) (λ q.
      let text = written_query (pattern_of q) in
      pick (ltb room (length text) || ltb max_query_bytes (length text)) (refusal 14 3 1) (accepted text)))))

  -- the query writer leaves the same
  pub same_writer_service : (work : ℕ) (buffer rules query : Bytes) → writer_service work buffer s rules query ≡ writer_service work buffer t rules query
  unfolding writer_service
  same_writer_service work buffer rules query = λ i.
      let text = same_written work (length buffer) rules query i in
      record { answer = on_accept text (λ x. accepted (length x)); text = onto text buffer; work = ones work }

  -- the same rows are asked for
  pub same_asked : (work : ℕ) (rules query request : Bytes) → rows_asked work s rules query request ≡ rows_asked work t rules query request
  unfolding rows_asked on_accept
  same_asked work rules query request = rw (read-s, read-t) (λ i. with_work work (
      on_accept (same_rules h rules i) (λ r.
      on_accept (same_query h query i) (λ q.
      on_accept (same_request h r request i) (λ x.
      let rows = same_rows h x.identities (asked_query r x q) (asked_policies r x) i in
      let found = accepted (record { rows = rows; width = length q.returns }) in
      refused_if (woven_fault (weave (asked_query r x q ∷ asked_policies r x)) x.identities) 5 0 found)))))

  -- the list is the same
  pub same_list : (work words : ℕ) (rules query request : Bytes) → list_service work words s rules query request ≡ list_service work words t rules query request
  unfolding list_service list_found
  same_list work words rules query request = λ i.
      let found = on_accept (same_asked work rules query request i) (λ f. pick (ltb words (length f.rows * f.width)) (refusal 14 5 0) (accepted f)) in
      record { answer = on_accept found (λ f. accepted (record { rows = length f.rows; width = f.width })); rows = row_words words found; work = ones work }

  -- the lamp says the same
  pub same_lamp : (work : ℕ) (rules query request : Bytes) → lamp_service work s rules query request ≡ lamp_service work t rules query request
  unfolding lamp_service
  same_lamp work rules query request = λ i. record {
    answer = on_accept (same_asked work rules query request i) (λ f. accepted (not (is_nil f.rows)));
    work = ones work;
  }
