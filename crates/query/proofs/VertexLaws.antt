-- Laws of the vertices found so far.
use Prim.Native.Nat.{ℕ, suc, ◌+◌, ◌<◌, ◌≤◌}
use mathlib.Core.Path.{◌≡◌, refl, sym, ap, ◌∙◌, subst}
use mathlib.Core.List.{List, [], ◌∷◌, ◌++◌, map, append-nil, append_assoc}
use mathlib.Core.Bool.{Bool, true, false, ◌||◌}
use native.Mathlib.Omega.{arith}
use native.Mathlib.Numerals.{add-one}
use lib.ListN.{length, take, get_or, set, length-append, length-set}
use lib.Seq.{take-suc-set, get_or-take, length-take-le}
use borrow.Author.Tests.{lt-ltb, le-ltb}
use Rattle.std.specs.Prelude.{Result, Ok, Err}
use Rattle.logic.specs.Tests.{either, below_or_not}
use Rattle.model.specs.Bytes.{Bytes, same}
use Rattle.model.specs.Choice.{pick}
use Rattle.model.specs.Lists.{any, joined, place_where, add_new_by, firsts_by}
use Rattle.model.specs.Names.{mem, place, add_new, firsts}
use Rattle.model.specs.Answers.{name_at}
use Rattle.model.specs.Places.{vertex_part, add_part, first_parts, vertex_parts}
use Rattle.model.specs.PlainData.{no_part}
use Rattle.model.specs.Graph.{Each}
use Rattle.text.specs.Parts.{HasPart}
use Rattle.model.specs.declared.Part.{Part}
use Rattle.model.proofs.FirstNames.{firsts_append, firsts_grow}
use Rattle.query_pieces.specs.Named.{vertex_in, vertices_in}
use Rattle.query_pieces.specs.Steps.{piece_of, StepAt, piece_standing, walk_at, standings_at}
use Rattle.query_pieces.specs.declared.Place.{Place}
use Rattle.query_pieces.specs.declared.Step.{Step}
use Rattle.query_survey.specs.Names.{text_start, found_at, text_pieces}
use Rattle.query_survey.proofs.ScanLaws.{mem_append, step_list, step_none, step_whole}
use Rattle.book_tables.specs.Listed.{listed}
use Rattle.book_tables.proofs.ListedLaws.{scan_none, scan_on, scan_place, scan_absent, place_end, place_none}
use Rattle.book_tables.proofs.NameLaws.{equal_same, mem_place}
use Rattle.query.specs.Vertices.{Vertices}
use Rattle.query.specs.Vertices.{parts_of, names_of, VerticesInside, no_vertices, Placed}
use Rattle.query.proofs.ArrayLaws.{Blank, taken_listed, length_taken, taken_more, blank_more}
use Rattle.query.proofs.StandingLaws.{text_standing, parts_found, parts_none, each_at, each_seen, vertices_end as all-inside}

-- the names of the vertices of a text by first appearance
abbrev pub vertex_names_in : Bytes → List Bytes
vertex_names_in s = firsts [] (vertices_in (text_pieces s))

-- v are the vertices of these names
pub record Found (s : Bytes) (v : Vertices) (names : List Bytes) : Type 0 where
  pub size : length v.items ≡ 8
  pub within : v.count ≤ 8
  pub named : names_of s v ≡ names
  pub blank : Blank 8 no_part v.count v.items

-- v are the vertices of these names: the old ones, and those that appear first at more parts
pub record MoreVertices (s : Bytes) (old : Vertices) (more : List Part) (names : List Bytes) (v : Vertices) : Type 0 where
  pub found : Found s v names
  pub parts : parts_of v ≡ first_parts s (parts_of old) more

-- v are the vertices of a text; of a whole one, each stands at its first appearance
pub record VerticesRead (s : Bytes) (v : Vertices) : Type 0 where
  pub found : Found s v (vertex_names_in s)
  pub parts : (walk_at s text_start).whole ≡ true → parts_of v ≡ vertex_parts s
  pub inside : VerticesInside s v

-- a name looked for among the first elements of an array: none of the first k has it
abbrev pub NoneNamed : {A : Type 0} → (A → Bytes) → A → List A → Bytes → ℕ → Type 0
NoneNamed f d l w k = any (same w) (listed (λ i. f (get_or l i d)) k) ≡ false

module _ {A : Type 0} (f : A → Bytes) (d : A) (l : List A) (w : Bytes) where
  pub number_start : NoneNamed f d l w 0
  number_start = scan_none (same w) (λ i. f (get_or l i d))

  pub number_on : (k : ℕ) → NoneNamed f d l w k → same w (f (get_or l k d)) ≡ false → NoneNamed f d l w (k + 1)
  number_on k h t = scan_on (same w) (λ i. f (get_or l i d)) k h t

  module _ (n : ℕ) (few : n ≤ length l) where
    pub number_found : (k : ℕ) → k < n → NoneNamed f d l w k → same w (f (get_or l k d)) ≡ true → k ≡ place w (map f (take n l))
    unfolding place
    number_found k m h t = rw (taken_listed f l d n few) (sym (scan_place (same w) (λ i. f (get_or l i d)) n k m h t))

    pub number_none : (k : ℕ) → k ≤ n → n ≤ k → NoneNamed f d l w k → n ≡ place w (map f (take n l))
    unfolding place
    number_none k m o h = let e : k ≡ n = omega arith in rw (taken_listed f l d n few) (sym (scan_absent (same w) (λ i. f (get_or l i d)) n (rw e at h)))

-- there are as many names as are counted
pub names_counted : (s : Bytes) (v : Vertices) → length v.items ≡ 8 → v.count ≤ 8 → length (names_of s v) ≡ v.count
names_counted s v size few = length_taken (name_at s) v.items v.count (omega arith)

pub found_counted : (s : Bytes) (v : Vertices) (names : List Bytes) → Found s v names → length names ≡ v.count
found_counted s v names h = sym (ap length h.named) ∙ names_counted s v h.size h.within

-- a name has a place in a list exactly if it is there
pub place_known : (w : Bytes) (ws : List Bytes) → place w ws < length ws → mem w ws ≡ true
place_known w ws h = mem_place w ws ∙ lt-ltb (place w ws) (length ws) h

pub place_new : (w : Bytes) (ws : List Bytes) → length ws ≤ place w ws → mem w ws ≡ false
place_new w ws h = mem_place w ws ∙ le-ltb (place w ws) (length ws) h

-- a list goes on from another: what stands in that one stands in it at the same place
abbrev pub Begins : List Bytes → List Bytes → Type 0
Begins ws vs = (more : List Bytes) × (vs ≡ ws ++ more)

place_before : (w : Bytes) (a b : List Bytes) → mem w a ≡ true → place w (a ++ b) ≡ place w a
unfolding mem any place place_where
place_before w [] b h = cc
place_before w (x ∷ a) b h = go (same w x) (place_before w a b) h
  where
    go : (t : Bool) → (any (same w) a ≡ true → place_where (same w) (a ++ b) ≡ place_where (same w) a) → pick t true (any (same w) a) ≡ true
        → pick t 0 (suc (place_where (same w) (a ++ b))) ≡ pick t 0 (suc (place_where (same w) a))
    go true k h = refl
    go false k h = ap suc (k h)

or_true : (x y : Bool) → x ≡ true → (x || y) ≡ true
or_true true y h = refl
or_true false y h = cc

module _ (ws vs : List Bytes) (g : Begins ws vs) (w : Bytes) (m : mem w ws ≡ true) where
  pub begun_place : place w vs ≡ place w ws
  begun_place = ap (place w) g.1 ∙ place_before w ws g.0 m

  pub begun_mem : mem w vs ≡ true
  begun_mem = ap (mem w) g.1 ∙ mem_append w ws g.0 ∙ or_true _ _ m

-- first appearances go on from those before
pub firsts_begun : (seen l : List Bytes) → Begins seen (firsts seen l)
unfolding firsts_by add_new_by
firsts_begun seen [] = ([], sym (append-nil seen))
firsts_begun seen (x ∷ l) = go (any (same x) seen) (firsts_begun (add_new seen x) l)
  where
    go : (t : Bool) → Begins (pick t seen (seen ++ (x ∷ []))) (firsts (pick t seen (seen ++ (x ∷ []))) l)
        → Begins seen (firsts (pick t seen (seen ++ (x ∷ []))) l)
    go true h = h
    go false h = (x ∷ h.0, h.1 ∙ append_assoc seen (x ∷ []) h.0)

-- a name that is known or put behind keeps its number
pub number_later : (w : Bytes) (ws l : List Bytes) → place w (firsts (add_new ws w) l) ≡ place w ws
unfolding add_new_by mem place
number_later w ws l = go (mem w ws) refl
  where
    go : (t : Bool) → mem w ws ≡ t → place w (firsts (pick t ws (ws ++ (w ∷ []))) l) ≡ place w ws
    go true e = begun_place ws (firsts ws l) (firsts_begun ws l) w e
    go false e =
        let more = ws ++ (w ∷ []) in
        let at : place w more ≡ length ws = place_end (same w) ws w e (equal_same w w refl) in
        let m = place_known w more (omega (arith, at, length-append ws (w ∷ []))) in
        begun_place more (firsts more l) (firsts_begun more l) w m ∙ at ∙ sym (place_none (same w) ws e)

-- no vertex more, or one
pub vertices_same : (s : Bytes) (v : Vertices) → Found s v (names_of s v) → MoreVertices s v [] (names_of s v) v
unfolding first_parts
vertices_same s v h = record { found = h; parts = refl }

module _ (s : Bytes) (v : Vertices) (h : Found s v (names_of s v)) (name : Part) (n : ℕ) (e : n ≡ place (name_at s name) (names_of s v))
    (few : length (add_new (names_of s v) (name_at s name)) ≤ 8) where
  abbrev ws : List Bytes
  ws = names_of s v

  abbrev w : Bytes
  w = name_at s name

  counted : length ws ≡ v.count
  counted = names_counted s v h.size h.within

  vertex_known : n < v.count → MoreVertices s v (name ∷ []) (add_new ws w) v
  unfolding add_new_by mem add_part first_parts
  vertex_known l = let t = place_known w ws (omega (arith, counted)) in
      record { found = record { size = h.size; within = h.within; named = rw t; blank = h.blank }; parts = rw t }

  module _ (l : v.count ≤ n) where
    grown : add_new ws w ≡ ws ++ (w ∷ [])
    unfolding add_new_by mem
    grown = rw (place_new w ws (omega (arith, counted)))

    room : v.count < 8
    room = let a = ap length grown in let b = length-append ws (w ∷ []) in omega (arith, counted)

    added : add_part s (parts_of v) name ≡ parts_of v ++ (name ∷ [])
    unfolding add_part
    added = rw (place_new w ws (omega (arith, counted)))

    vertex_new : MoreVertices s v (name ∷ []) (add_new ws w) (record { items = set v.items v.count name; count = v.count + 1 })
    unfolding first_parts
    vertex_new =
        let inside : v.count < length v.items = omega (arith, room, h.size) in
        record {
          found = record {
            size = length-set v.items v.count name ∙ h.size;
            within = omega (arith, room);
            named = taken_more (name_at s) v.items v.count name inside ∙ sym grown;
            blank = blank_more 8 no_part v.items v.count name room h.blank;
          };
          parts = rw (add-one, take-suc-set v.items v.count name inside) (sym added);
        }

  -- the number is that of a slot
  pub number_room : n < 8
  unfolding place mem
  number_room = either (below_or_not n v.count) (λ l. omega (arith, h.within))
      (λ l. omega (arith, room l, counted, e, place_none (same w) ws (place_new w ws (omega (arith, counted)))))

  pub vertex_placed : (u : Vertices) → Placed v n name u → MoreVertices s v (name ∷ []) (add_new ws w) u
  vertex_placed u p = either (below_or_not n v.count)
      (λ l. subst (MoreVertices s v (name ∷ []) (add_new ws w)) (sym (p.known l)) (vertex_known l))
      (λ l. subst (MoreVertices s v (name ∷ []) (add_new ws w)) (sym (p.new l)) (vertex_new l))

-- the vertices found from the text's start to a place, and those of the pieces behind it
pub record VerticesSoFar (s : Bytes) (from : Place) (v : Vertices) : Type 0 where
  pub stored : Found s v (names_of s v)
  pub rest : firsts (names_of s v) (vertices_in (found_at s from)) ≡ vertex_names_in s
  pub parts : first_parts s (parts_of v) (joined vertex_part (standings_at s from)) ≡ vertex_parts s
  pub whole : (walk_at s text_start).whole ≡ (walk_at s from).whole

pub vertices_start : (s : Bytes) (from : Place) (v : Vertices) → from ≡ text_start → v ≡ no_vertices → VerticesSoFar s from v
vertices_start s from v e f = subst (λ (p : Place). VerticesSoFar s p v) (sym e) (subst (λ (u : Vertices). VerticesSoFar s text_start u) (sym f) none_yet)
  where
    none_yet : VerticesSoFar s text_start no_vertices
    none_yet = record {
      stored = record { size = refl; within = omega arith; named = refl; blank = refl };
      rest = refl;
      parts = unfold vertex_parts in ap (λ l. first_parts s [] (joined vertex_part l)) (text_standing s);
      whole = refl;
    }

-- every vertex found so far is a part of the text
pub vertices_inside : (s : Bytes) (from : Place) (v : Vertices) → VerticesSoFar s from v → VerticesInside s v
vertices_inside s from v so = record {
  few = so.stored.within;
  inside = λ i l. subst (HasPart s) (get_or-take v.count v.items i no_part l)
      (each_at (HasPart s) no_part (parts_of v)
      (each_seen (HasPart s) s (parts_of v) (joined vertex_part (standings_at s from)) (subst (Each (HasPart s)) (sym so.parts) (all-inside s))) i
      (omega (arith, length-take-le v.count v.items (omega (arith, so.stored.within, so.stored.size)))));
}

first_parts_append : (s : Bytes) (seen a b : List Part) → first_parts s seen (a ++ b) ≡ first_parts s (first_parts s seen a) b
unfolding first_parts
first_parts_append s seen [] b = refl
first_parts_append s seen (p ∷ a) b = first_parts_append s (add_part s seen p) a b

module _ (s : Bytes) (from : Place) (v : Vertices) (so : VerticesSoFar s from v) (r : Result Step Bool) (h : StepAt s from r) where
  module _ (x : Step) (e : r ≡ Ok x) where
    pub vertices_ahead : firsts (firsts (names_of s v) (vertex_in (piece_of s x.piece))) (vertices_in (found_at s x.next)) ≡ vertex_names_in s
    unfolding joined
    vertices_ahead = sym (firsts_append (names_of s v) (vertex_in (piece_of s x.piece)) (vertices_in (found_at s x.next)))
        ∙ ap (λ ps. firsts (names_of s v) (vertices_in ps)) (sym (step_list s from r h x e)) ∙ so.rest

    parts_ahead : first_parts s (first_parts s (parts_of v) (joined vertex_part (piece_standing x.piece))) (joined vertex_part (standings_at s x.next))
        ≡ vertex_parts s
    parts_ahead =
        sym (first_parts_append s (parts_of v) (joined vertex_part (piece_standing x.piece)) (joined vertex_part (standings_at s x.next)))
        ∙ ap (first_parts s (parts_of v)) (sym (parts_found s from r h vertex_part x e)) ∙ so.parts

    pub vertices_room : length (vertex_names_in s) ≤ 8 → length (firsts (names_of s v) (vertex_in (piece_of s x.piece))) ≤ 8
    vertices_room few = let a = ap length vertices_ahead in
        omega (arith, firsts_grow (firsts (names_of s v) (vertex_in (piece_of s x.piece))) (vertices_in (found_at s x.next)))

    pub vertices_on : (u : Vertices) → MoreVertices s v (joined vertex_part (piece_standing x.piece))
        (firsts (names_of s v) (vertex_in (piece_of s x.piece))) u → VerticesSoFar s x.next u
    vertices_on u f = record {
      stored = record { size = f.found.size; within = f.found.within; named = refl; blank = f.found.blank };
      rest = ap (λ l. firsts l (vertices_in (found_at s x.next))) f.found.named ∙ vertices_ahead;
      parts = ap (λ l. first_parts s l (joined vertex_part (standings_at s x.next))) f.parts ∙ parts_ahead;
      whole = so.whole ∙ step_whole s from r h x e;
    }

  pub vertices_end : (w : Bool) → r ≡ Err w → VerticesRead s v
  unfolding joined firsts_by first_parts
  vertices_end w e = record {
    found = record {
      size = so.stored.size;
      within = so.stored.within;
      named = sym (ap (λ ps. firsts (names_of s v) (vertices_in ps)) (step_none s from r h w e)) ∙ so.rest;
      blank = so.stored.blank;
    };
    parts = λ k. sym (ap (first_parts s (parts_of v)) (parts_none s from r h vertex_part w e (sym so.whole ∙ k))) ∙ so.parts;
    inside = vertices_inside s from v so;
  }
