-- Laws of the vertex table: a vertex that is there keeps the table, a new one comes behind; the numbers of a text's vertices. Assumes nothing.
use Prim.Native.Nat.{ℕ, ◌+◌, ◌/◌, ◌<◌, ◌≤◌}
use mathlib.Core.Path.{◌≡◌, refl, sym, ap, ap₂, subst, subst₂, ◌∙◌}
use mathlib.Core.Logic.{◌⊎◌, ⊎_elim}
use mathlib.Core.List.{List, [], ◌∷◌, ◌++◌, map}
use mathlib.Core.Bool.{Bool, true, false}
use native.Mathlib.Numerals.{add-one}
use native.Mathlib.Omega.{arith}
use lib.ListN.{length, get_or, set, take, drop, length-append, length-set, take-append-drop}
use lib.Seq.{get_or-set_same, get_or-set_other, get_or-take, take-suc, take_all, length-take-le}
use Rattle.logic.specs.Tests.{either, equal_or_not, below_or_not}
use Rattle.model.specs.Bytes.{Bytes}
use Rattle.model.specs.Choice.{pick}
use Rattle.model.specs.Answers.{part_of, name_at}
use Rattle.model.specs.Weave.{WovenVertex, same_vertex, place_vertex, first_vertices, no_vertex, weave_vertex}
use Rattle.model.specs.declared.Part.{Part}
use Rattle.model.proofs.Members.{◌∈◌}
use Rattle.model.proofs.FirstNames.{firsts_by_append}
use Rattle.model.proofs.Places.{get_or_in, get_or_map, length_map}
use Rattle.book_tables.proofs.ListedLaws.{listed_more, listed_same, length_listed}
use Rattle.woven_tables.specs.declared.vertices.Placed.{Placed}
use Rattle.woven_tables.specs.Tables.{NameInside, VerticesInside, vertices_at, vertex_of_word, woven_words}
use Rattle.model.specs.PlainData.{no_part}
use Rattle.woven_tables.specs.Steps.{KeptOutside, VertexPlaced, VerticesAdded, text_vertices}
use Rattle.woven_tables.proofs.NameLaws.{part_of_rest}
use Rattle.woven_tables.proofs.Places.{place_none, place_some, place_behind, place_firsts, vertices_grow}
use Rattle.model.specs.Lists.{any, add_new_by, firsts_by}
use Rattle.model.proofs.WovenVertices.{first_vertices_i}

pub length_vertices : (q r : Bytes) (words : List ℕ) (n : ℕ) → length (vertices_at q r words n) ≡ n
unfolding vertices_at
length_vertices q r words n = length_listed (λ i. vertex_of_word q r (get_or words i 0)) n

-- a vertex is there exactly if its place is below the length
below_there : (w : WovenVertex) (vs : List WovenVertex) → place_vertex w vs < length vs → any (same_vertex w) vs ≡ true
below_there w vs h = go (any (same_vertex w) vs) refl
  where
    go : (t : Bool) → any (same_vertex w) vs ≡ t → any (same_vertex w) vs ≡ true
    go true e = e
    go false e = absurd (omega (arith, place_none w vs e))

behind_new : (w : WovenVertex) (vs : List WovenVertex) → length vs ≤ place_vertex w vs → any (same_vertex w) vs ≡ false
behind_new w vs h = go (any (same_vertex w) vs) refl
  where
    go : (t : Bool) → any (same_vertex w) vs ≡ t → any (same_vertex w) vs ≡ false
    go true e = absurd (omega (arith, place_some w vs e))
    go false e = e

-- the words of the vertices that were there stay
pub vertices_same : (q r : Bytes) (old new : List ℕ) (n : ℕ) → ((i : ℕ) → i < n → get_or new i 0 ≡ get_or old i 0) → vertices_at q r new n ≡ vertices_at q r old n
unfolding vertices_at
vertices_same q r old new n h = listed_same (λ i. vertex_of_word q r (get_or new i 0)) (λ i. vertex_of_word q r (get_or old i 0)) n
    (λ i l. ap (vertex_of_word q r) (h i l))

-- placing a vertex, by what the search for it found
module _ (q r : Bytes) (words : List ℕ) (n word at : ℕ) (found : at ≡ place_vertex (vertex_of_word q r word) (vertices_at q r words n))
    (there : VerticesInside q r words n) (own : NameInside q r (word / 2)) where
  pub place_there : at < n → VertexPlaced q r words words n word (record { at = at; count = n })
  unfolding add_new_by
  place_there h =
      let l = length_vertices q r words n in
      let e = below_there (vertex_of_word q r word) (vertices_at q r words n) (omega arith) in
      record { at = found; counted = rw e (sym l); vertices = λ z. rw e; inside = λ z. there; kept = λ i j. refl }

  new_count : n ≤ at → n + 1 ≡ length (add_new_by same_vertex (vertices_at q r words n) (vertex_of_word q r word))
  unfolding add_new_by
  new_count h =
      let l = length_vertices q r words n in
      let e = behind_new (vertex_of_word q r word) (vertices_at q r words n) (omega arith) in
      rw e (omega (arith, length-append (vertices_at q r words n) (vertex_of_word q r word ∷ [])))

  pub place_new : n ≤ at → n < 24 → woven_words ≤ length words → VertexPlaced q r words (set words n word) n word (record { at = at; count = n + 1 })
  unfolding add_new_by vertices_at
  place_new h g s =
      let l = length_vertices q r words n in
      let e = behind_new (vertex_of_word q r word) (vertices_at q r words n) (omega arith) in
      record {
        at = found;
        counted = new_count h;
        vertices = λ z. rw e (listed_more (λ i. vertex_of_word q r (get_or (set words n word) i 0)) n
            ∙ ap₂ (λ x y. x ++ (y ∷ [])) (vertices_same q r words (set words n word) n (λ i k. get_or-set_other words n i word 0 (λ p. omega arith)))
            (ap (vertex_of_word q r) (get_or-set_same words n word 0 (omega arith))));
        inside = λ z i k. either (below_or_not i n)
            (λ h. subst (λ w. NameInside q r (w / 2)) (sym (get_or-set_other words n i word 0 (λ p. omega arith))) (there i h))
            (λ h. let e : i ≡ n = omega arith in subst (λ w. NameInside q r (w / 2))
            (sym (ap (λ j. get_or (set words n word) j 0) e ∙ get_or-set_same words n word 0 (omega arith))) own);
        kept = λ i z. get_or-set_other words n i word 0 (λ p. ⊎_elim (λ y. omega arith) (λ y. omega arith) z);
      }

  pub place_passed : n ≤ at → 24 ≤ n → VertexPlaced q r words words n word (record { at = at; count = n + 1 })
  place_passed h g = record {
    at = found;
    counted = new_count h;
    vertices = λ z. absurd (omega arith);
    inside = λ z. absurd (omega arith);
    kept = λ i j. refl;
  }

-- a vertex has the place that it has once it is put behind
place_own : (w : WovenVertex) (vs : List WovenVertex) → place_vertex w (add_new_by same_vertex vs w) ≡ place_vertex w vs
unfolding add_new_by
place_own w vs = go (any (same_vertex w) vs) refl
  where
    go : (t : Bool) → any (same_vertex w) vs ≡ t → place_vertex w (pick t vs (vs ++ (w ∷ []))) ≡ place_vertex w vs
    go true e = refl
    go false e = place_behind w vs e ∙ sym (place_none w vs e)

-- the first i of a text's vertices are woven into vs, and these are their numbers
pub record Numbered (vs names : List WovenVertex) (i : ℕ) (all : List WovenVertex) (given : List ℕ) : Type 0 where
  pub vertices : all ≡ first_vertices vs (take i names)
  pub numbers : (j : ℕ) → j < i → get_or given j 0 ≡ place_vertex (get_or names j no_vertex) all

pub numbered_none : (vs names : List WovenVertex) (numbers : List ℕ) → Numbered vs names 0 vs numbers
unfolding firsts_by
numbered_none vs names numbers = record { vertices = refl; numbers = λ j h. absurd (omega arith) }

-- one vertex more
firsts_suc : (vs names : List WovenVertex) (i : ℕ) → i < length names
    → first_vertices vs (take (i + 1) names) ≡ add_new_by same_vertex (first_vertices vs (take i names)) (get_or names i no_vertex)
unfolding firsts_by
firsts_suc vs names i h = ap (first_vertices vs) (ap (λ n. take n names) (add-one i) ∙ take-suc names i no_vertex h)
    ∙ firsts_by_append same_vertex vs (take i names) (get_or names i no_vertex ∷ [])

module _ (vs names : List WovenVertex) (i : ℕ) (all : List WovenVertex) (numbers : List ℕ) (so_far : Numbered vs names i all numbers)
    (more : i < length names) where
  next_vertices : add_new_by same_vertex all (get_or names i no_vertex) ≡ first_vertices vs (take (i + 1) names)
  next_vertices = ap (λ z. add_new_by same_vertex z (get_or names i no_vertex)) so_far.vertices ∙ sym (firsts_suc vs names i more)

  place_stays : (j : ℕ) → j < i → place_vertex (get_or names j no_vertex) (add_new_by same_vertex all (get_or names i no_vertex))
      ≡ place_vertex (get_or names j no_vertex) all
  unfolding firsts_by
  place_stays j h =
      let there : get_or names j no_vertex ∈ all = subst (λ z. get_or names j no_vertex ∈ z) (sym so_far.vertices)
      (first_vertices_i vs (take i names) (get_or names j no_vertex)
      (subst (λ z. z ∈ take i names) (get_or-take i names j no_vertex h)
      (get_or_in (take i names) j no_vertex (omega (arith, length-take-le i names (omega arith)))))) in
      place_firsts (get_or names j no_vertex) all (get_or names i no_vertex ∷ []) there

  pub numbered_more : i < length numbers → Numbered vs names (i + 1) (add_new_by same_vertex all (get_or names i no_vertex))
      (set numbers i (place_vertex (get_or names i no_vertex) all))
  numbered_more room = record {
    vertices = next_vertices;
    numbers = λ j h. either (equal_or_not j i)
        (λ e. subst (λ z. get_or (set numbers i (place_vertex (get_or names i no_vertex) all)) z 0
        ≡ place_vertex (get_or names z no_vertex) (add_new_by same_vertex all (get_or names i no_vertex))) (sym e)
        (get_or-set_same numbers i (place_vertex (get_or names i no_vertex) all) 0 room ∙ sym (place_own (get_or names i no_vertex) all)))
        (λ e. get_or-set_other numbers i j (place_vertex (get_or names i no_vertex) all) 0 e.1 ∙ so_far.numbers j (omega arith)
        ∙ sym (place_stays j (omega arith)));
  }

  -- what is passed with one vertex more stays passed
  pub numbered_passed : 24 < length (add_new_by same_vertex all (get_or names i no_vertex)) → 24 < length (first_vertices vs names)
  numbered_passed h =
      let e : first_vertices vs names ≡ first_vertices (add_new_by same_vertex all (get_or names i no_vertex)) (drop (i + 1) names) =
      ap (first_vertices vs) (sym (take-append-drop (i + 1) names)) ∙ firsts_by_append same_vertex vs (take (i + 1) names) (drop (i + 1) names)
      ∙ ap (λ z. first_vertices z (drop (i + 1) names)) (sym next_vertices) in
      omega (arith, ap length e, vertices_grow (add_new_by same_vertex all (get_or names i no_vertex)) (drop (i + 1) names))

-- all vertices are woven
pub numbered_all : (vs names all : List WovenVertex) (numbers : List ℕ) (i : ℕ) → length names ≤ i → Numbered vs names i all numbers
    → all ≡ first_vertices vs names
numbered_all vs names all numbers i h n = n.vertices ∙ ap (first_vertices vs) (take_all i names h)

-- what weaving makes of a text's vertex
module _ (text : Bytes) (k : ℕ) (actors : List Bytes) (parts : List Part) (count : ℕ) (few : count ≤ length parts) where
  pub length_names : length (text_vertices text k actors parts count) ≡ count
  length_names = length_map (weave_vertex k actors) (map (name_at text) (take count parts)) ∙ length_map (name_at text) (take count parts)
      ∙ length-take-le count parts few

  pub own_name : (i : ℕ) → i < count → get_or (text_vertices text k actors parts count) i no_vertex ≡ weave_vertex k actors (name_at text (get_or parts i no_part))
  own_name i h =
      let few-taken = length-take-le count parts few in
      let few-mapped = length_map (name_at text) (take count parts) in
      get_or_map (weave_vertex k actors) (map (name_at text) (take count parts)) i [] no_vertex (omega arith)
      ∙ ap (weave_vertex k actors) (get_or_map (name_at text) (take count parts) i no_part [] (omega arith) ∙ ap (name_at text) (get_or-take count parts i no_part h))

-- the same, the text being what stands from a base on
pub own_says : (text : Bytes) (base k : ℕ) (actors : List Bytes) (parts : List Part) (count : ℕ) → count ≤ length parts → (i : ℕ) → i < count
    → weave_vertex k actors (part_of text (base + (get_or parts i no_part).start) (get_or parts i no_part).length)
    ≡ get_or (text_vertices (drop base text) k actors parts count) i no_vertex
unfolding name_at
own_says text base k actors parts count few i h =
    let p : Part = get_or parts i no_part in
    ap (weave_vertex k actors) (sym (part_of_rest text base p.start p.length)) ∙ sym (own_name (drop base text) k actors parts count few i h)

-- the first i of a text's vertices are woven into the words
pub record VerticesSoFar (q r : Bytes) (names : List WovenVertex) (old words : List ℕ) (woven n i : ℕ) (given : List ℕ) : Type 0 where
  pub few : n ≤ 24
  pub room : length words ≡ length old
  pub size : length given ≡ 8
  pub numbered : Numbered (vertices_at q r old woven) names i (vertices_at q r words n) given
  pub inside : VerticesInside q r words n
  pub kept : KeptOutside 0 24 old words

pub vertices_start : (q r : Bytes) (names : List WovenVertex) (old : List ℕ) (woven : ℕ) (given : List ℕ) → woven ≤ 24 → length given ≡ 8
    → VerticesInside q r old woven → VerticesSoFar q r names old old woven woven 0 given
vertices_start q r names old woven given h s there =
    record { few = h; room = refl; size = s; numbered = numbered_none (vertices_at q r old woven) names given; inside = there; kept = λ i z. refl }

module _ (q r : Bytes) (names : List WovenVertex) (old words : List ℕ) (woven n i : ℕ) (given : List ℕ)
    (so_far : VerticesSoFar q r names old words woven n i given) (more : i < length names)
    (new : List ℕ) (word : ℕ) (out : Placed) (placed : VertexPlaced q r words new n word out) (says : vertex_of_word q r word ≡ get_or names i no_vertex) where
  pub vertices_more : out.count ≤ 24 → length new ≡ length words → i < 8 → VerticesSoFar q r names old new woven out.count (i + 1) (set given i out.at)
  vertices_more h s room = record {
    few = h;
    room = s ∙ so_far.room;
    size = length-set given i out.at ∙ so_far.size;
    numbered = subst₂ (Numbered (vertices_at q r old woven) names (i + 1))
        (sym (placed.vertices h ∙ ap (add_new_by same_vertex (vertices_at q r words n)) says))
        (ap (set given i) (sym (placed.at ∙ ap (λ z. place_vertex z (vertices_at q r words n)) says)))
        (numbered_more (vertices_at q r old woven) names i (vertices_at q r words n) given so_far.numbered more (omega (arith, so_far.size)));
    inside = placed.inside h;
    kept = λ j z. placed.kept j z ∙ so_far.kept j z;
  }

  pub vertices_passed : (count : ℕ) → length names ≡ count → 24 < out.count
      → VerticesAdded q r names count old new woven (record { numbers = given; count = out.count })
  vertices_passed count all h = record {
    all = all;
    passed = λ z. numbered_passed (vertices_at q r old woven) names i (vertices_at q r words n) given so_far.numbered more
        (subst (λ z. 24 < z) (placed.counted ∙ ap (λ z. length (add_new_by same_vertex (vertices_at q r words n) z)) says) h);
    vertices = λ z. absurd (omega arith);
    numbers = λ z. absurd (omega arith);
    inside = λ z. absurd (omega arith);
    kept = λ j z. placed.kept j z ∙ so_far.kept j z;
  }

pub vertices_end : (q r : Bytes) (names : List WovenVertex) (old words : List ℕ) (woven n i : ℕ) (given : List ℕ)
    → VerticesSoFar q r names old words woven n i given → (count : ℕ) → length names ≡ count → length names ≤ i
    → VerticesAdded q r names count old words woven (record { numbers = given; count = n })
vertices_end q r names old words woven n i given s count all_named h =
    let all = numbered_all (vertices_at q r old woven) names (vertices_at q r words n) given i h s.numbered in
    record {
      all = all_named;
      passed = λ z. absurd (omega (arith, s.few));
      vertices = λ z. all;
      numbers = λ z j l. s.numbered.numbers j (omega arith) ∙ ap (place_vertex (get_or names j no_vertex)) all;
      inside = λ z. s.inside;
      kept = s.kept;
    }
