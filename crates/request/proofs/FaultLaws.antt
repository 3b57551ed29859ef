-- The tests of a request's line, identity by identity, and its lowest fault.
use Prim.Native.Nat.{ℕ, ◌≤◌, ◌<◌}
use mathlib.Core.Path.{◌≡◌, refl, sym, ap, subst, ◌∙◌}
use mathlib.Core.List.{List, [], ◌∷◌, ◌++◌}
use mathlib.Core.Bool.{Bool, true, false, not}
use native.Mathlib.Omega.{arith}
use lib.ListN.{length, length-map}
use lib.Dec.{T, ltb}
use borrow.Author.Tests.{lt-ltb, le-ltb}
use Rattle.model.specs.Bytes.{Bytes, bytes_of}
use Rattle.model.specs.Choice.{pick, Maybe, nothing, just}
use Rattle.model.specs.Lists.{any}
use Rattle.model.specs.Names.{mem, twice, place}
use Rattle.model.specs.Refusal.{lowest, ◌if◌}
use Rattle.model.specs.Book.{Book, node_names}
use Rattle.model.specs.Rules.{category_names, actors_of}
use Rattle.model.specs.Request.{Claim, request_fault}
use Rattle.model.proofs.Decides.{not_e, or_l}
use Rattle.model.proofs.Members.{◌∈◌, any_i, map_e, mem_e}
use Rattle.book_tables.specs.declared.BookCounts.{BookCounts}
use Rattle.book_tables.specs.Layout.{node_names as nodes_from}
use Rattle.book_tables.specs.View.{word_at, name_of, names_at, book_at}
use Rattle.book_tables.proofs.NameLaws.{mem_place, length_names, node_names_law, place_named, place_mem, place_out}
use Rattle.rules_tables.specs.declared.RulesCounts.{RulesCounts}
use Rattle.rules_tables.specs.Layout.{names, actors_from, actor_count_at}
use Rattle.rules_tables.specs.View.{actors_at, rules_at}
use Rattle.rules_tables.specs.Fits.{Fits}
use Rattle.rules_tables.proofs.Lowers.{category_names_law}
use Rattle.rules_tables.proofs.Downs.{actors_of_law}
use Rattle.rules_tables.proofs.Fewer.{fewer_names}
use Rattle.request.specs.Claims.{actors_in, is_unknown}
use Rattle.request.specs.Faults.{category_place}

-- a name that was looked up is among the names exactly if its place is below their count
pub named_test : (text : Bytes) (words : List ℕ) (offset count : ℕ) (w : Bytes) (r : ℕ) → r ≡ place w (names_at text words offset count)
    → ltb r count ≡ mem w (names_at text words offset count)
named_test text words offset count w r e =
    ap (λ (n : ℕ). ltb n count) e
    ∙ sym (mem_place w (names_at text words offset count) ∙ ap (ltb (place w (names_at text words offset count))) (length_names text words offset count))

-- an identity that passes a test among others
module _ (p : Claim → Bool) where
  pub any_none : any p [] ≡ false
  unfolding any
  any_none = refl

  pub any_found : (x : Claim) (xs : List Claim) → p x ≡ true → any p (x ∷ xs) ≡ true
  unfolding any
  any_found x xs e = rw e

  pub any_other : (x : Claim) (xs : List Claim) → p x ≡ false → any p (x ∷ xs) ≡ any p xs
  unfolding any
  any_other x xs e = rw e

  pub any_behind : (xs ys : List Claim) → any p xs ≡ false → any p (xs ++ ys) ≡ any p ys
  unfolding any
  any_behind [] ys h = refl
  any_behind (x ∷ xs) ys h = go (p x) h (any_behind xs ys)
    where
      go : (t : Bool) → pick t true (any p xs) ≡ false → (any p xs ≡ false → any p (xs ++ ys) ≡ any p ys) → pick t true (any p (xs ++ ys)) ≡ any p ys
      go true h r = let z : ◌≡◌ {A = ℕ} 0 1 = cc in absurd (omega arith)
      go false h r = r h

-- an identity by its two names
module _ (actors nodes : List Bytes) (c : Claim) where
  pub no_actor : mem c.actor actors ≡ false → is_unknown actors nodes c ≡ true
  no_actor e = rw e

  module _ (h : mem c.actor actors ≡ true) where
    pub no_node_law : mem c.node nodes ≡ false → is_unknown actors nodes c ≡ true
    no_node_law e = rw (h, e)

    pub both_known : mem c.node nodes ≡ true → is_unknown actors nodes c ≡ false
    both_known e = rw (h, e)

-- the lowest fault, by the tests of the code
module _ (text : Bytes) (words : List ℕ) (c : RulesCounts) (f : Fits text words c) (b : Book) (w : Bytes) (k : ℕ) (e : k ≡ category_place text words c w)
    (xs : List Claim) where
  -- what the model says
  abbrev fault : Maybe ℕ
  fault = request_fault b (rules_at text words c) (record { category = w; claims = xs })

  abbrev pub unknown_test : Bool
  unknown_test = any (is_unknown (actors_at text words k) (node_names b)) xs

  pub is_undeclared : c.categories ≤ k → fault ≡ just 4
  unfolding request_fault lowest
  is_undeclared l =
      let m : mem w (category_names (rules_at text words c)) ≡ false = ap (mem w) (category_names_law text words c)
      ∙ place_out text words names c.categories w (omega arith) in
      rw m

  module _ (l : k < c.categories) where
    pub is_named : name_of text words names k ≡ w
    is_named = ap (name_of text words names) e ∙ place_named text words names c.categories w (omega arith)

    known_category : mem w (category_names (rules_at text words c)) ≡ true
    known_category = ap (mem w) (category_names_law text words c) ∙ place_mem text words names c.categories w (omega arith)

    its_actors : actors_of (rules_at text words c) w ≡ actors_at text words k
    its_actors = ap (actors_of (rules_at text words c)) (sym is_named) ∙ actors_of_law text words c f k l

    by_tests : fault ≡ lowest ((4 if unknown_test) ∷ (5 if twice (actors_in xs)) ∷ (11 if not (mem (bytes_of "requestor") (actors_in xs))) ∷ [])
    unfolding request_fault
    by_tests = rw (known_category, its_actors)

    pub is_4 : unknown_test ≡ true → fault ≡ just 4
    unfolding lowest
    is_4 h = by_tests ∙ rw h

    module _ (h4 : unknown_test ≡ false) where
      pub is_5 : twice (actors_in xs) ≡ true → fault ≡ just 5
      unfolding lowest
      is_5 h = by_tests ∙ rw (h4, h)

      module _ (h5 : twice (actors_in xs) ≡ false) where
        pub is_11 : mem (bytes_of "requestor") (actors_in xs) ≡ false → fault ≡ just 11
        unfolding lowest
        is_11 h = by_tests ∙ rw (h4, h5, h)

        pub is_none : mem (bytes_of "requestor") (actors_in xs) ≡ true → fault ≡ nothing
        unfolding lowest
        is_none h = by_tests ∙ rw (h4, h5, h)

-- where no identity is unknown, the actors are among the category's
module _ (actors nodes : List Bytes) where
  actors_among : (xs : List Claim) → any (is_unknown actors nodes) xs ≡ false → (w : Bytes) → w ∈ actors_in xs → w ∈ actors
  actors_among xs h w m =
      let x = map_e (λ (c : Claim). c.actor) xs w m in
      let A = mem x.0.actor actors in
      let t : T A = not_e A (λ t. subst T h (any_i (is_unknown actors nodes) xs x.0 x.1 (or_l (not A) (not (mem x.0.node nodes)) t))) in
      subst (λ (v : Bytes). v ∈ actors) (sym x.2) (mem_e x.0.actor actors t)

  pub few_claims : (xs : List Claim) → any (is_unknown actors nodes) xs ≡ false → twice (actors_in xs) ≡ false → length xs ≤ length actors
  few_claims xs h t = omega (arith, fewer_names (actors_in xs) actors (λ u. subst T t u) (actors_among xs h), length-map xs (λ (c : Claim). c.actor))

-- a category has at most eight actors
pub few_actors : (text : Bytes) (words : List ℕ) (c : RulesCounts) → Fits text words c → (k : ℕ) → k < c.categories → length (actors_at text words k) ≤ 8
unfolding actors_at
few_actors text words c f k l =
    omega (arith, length_names text words (actors_from k) (word_at words (actor_count_at k)), (f.each k l).few_actors)

-- a node's name that was looked up is one of the book's exactly if its place is below their count
module _ (book : Bytes) (words : List ℕ) (counts : BookCounts) (w : Bytes) (r : ℕ) (e : r ≡ place w (node_names (book_at book words counts))) where
  pub node_test : ltb r counts.nodes ≡ mem w (node_names (book_at book words counts))
  node_test = rw (node_names_law book words counts) (named_test book words nodes_from counts.nodes w r (rw (node_names_law book words counts) at e))

  pub node_unknown : counts.nodes ≤ r → mem w (node_names (book_at book words counts)) ≡ false
  node_unknown l = sym node_test ∙ le-ltb r counts.nodes l

  pub node_known : r < counts.nodes → mem w (node_names (book_at book words counts)) ≡ true
  node_known l = sym node_test ∙ lt-ltb r counts.nodes l
