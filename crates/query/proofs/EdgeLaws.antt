-- Laws of the edges found so far, by the name of each and its numbers: of its label in the book, of its ends among the vertices.
use Prim.Native.Nat.{ℕ, ◌+◌, ◌<◌, ◌≤◌}
use mathlib.Core.Path.{◌≡◌, refl, sym, ap, ap₂, subst, ◌∙◌}
use mathlib.Core.Logic.{⊎_elim}
use mathlib.Core.List.Memᴰ
use mathlib.Core.List.Memᴰ.{cases_cons}
use mathlib.Core.List.{List, [], ◌∷◌, ◌++◌, map, append-nil, append_assoc}
use mathlib.Core.Bool.{Bool, true, false}
use native.Mathlib.Omega.{arith}
use lib.ListN.{length, get_or, take, set, length-set, length-map}
use lib.Seq.{get_or-take, length-take-le}
use Rattle.std.specs.Prelude.{Result, Ok, Err}
use Rattle.model.specs.Bytes.{Bytes}
use Rattle.model.specs.Lists.{joined}
use Rattle.model.specs.Names.{place}
use Rattle.model.specs.Book.{Book}
use Rattle.model.specs.Grammar.{Piece, start, goes, comes, asks, returns, at_start}
use Rattle.model.specs.Query.{ChainEdge}
use Rattle.model.specs.Pattern.{Edge, edge_of}
use Rattle.model.specs.Answers.{name_at, edge_in}
use Rattle.model.specs.Places.{edge_part, edge_parts}
use Rattle.model.specs.PlainData.{no_edge}
use Rattle.model.specs.Graph.{Each}
use Rattle.text.specs.Parts.{HasPart}
use Rattle.model.specs.WholeAnswers.{first_part, edge_data, edges_data}
use Rattle.model.specs.declared.Part.{Part}
use Rattle.model.specs.declared.Edge.{Edge as EdgeData}
use Rattle.model.proofs.Members.{◌∈◌, firsts_i}
use Rattle.model.proofs.Places.{at_place, get_or_in, get_or_map, map_to}
use Rattle.query_pieces.specs.Walk.{may_stand, Ordered}
use Rattle.query_pieces.specs.Named.{vertex_in, vertices_in, links_from}
use Rattle.query_pieces.specs.Faults.{some_where, undeclared_at}
use Rattle.query_pieces.specs.Steps.{piece_of, piece_standing, walk_at, standings_at, StepAt}
use Rattle.query_pieces.specs.declared.Place.{Place}
use Rattle.query_pieces.specs.declared.Link.{Link}
use Rattle.query_pieces.specs.declared.Step.{Step}
use Rattle.query_survey.specs.Names.{text_start, found_at, text_pieces}
use Rattle.query_survey.proofs.ScanLaws.{step_list, step_none}
use Rattle.query_faults.proofs.FaultLaws.{text_ordered}
use Rattle.book_tables.specs.Layout.{label_names}
use Rattle.book_tables.specs.View.{book_at}
use Rattle.book_tables.specs.declared.BookCounts.{BookCounts}
use Rattle.book_tables.proofs.NameLaws.{length_names}
use Rattle.query.specs.Vertices.{Vertices}
use Rattle.query.specs.Edges.{Edges}
use Rattle.query.specs.Edges.{edge_names_of, EdgesInside, no_edges, edge_made}
use Rattle.query.proofs.ArrayLaws.{Blank, room_for, length_taken, taken_more, blank_more, label_declared}
use Rattle.query.proofs.StandingLaws.{PartsSoFar, parts_start, parts_on, parts_all, each_at, each_of, each_front, edges_end}
use Rattle.query.proofs.VertexLaws.{vertex_names_in, Found, found_counted}

-- an edge by its name and its numbers
pub record Numbered : Type 0 where
  pub name : Bytes
  pub label : ℕ
  pub from : ℕ
  pub to : ℕ

-- an edge of a variable and a label between two vertices
unfoldable pub numbered : Book → Bytes → Bytes → ℕ → ℕ → Numbered
numbered b e l from to = record { name = e; label = place l b.labels; from = from; to = to }

-- an edge that is found
unfoldable pub numbered_in : Bytes → EdgeData → Numbered
numbered_in s e = record { name = name_at s e.name; label = e.label; from = e.from; to = e.to }

-- the number of a vertex, if there is one; that of the last vertex where there is none
unfoldable pub number_after : List Bytes → ℕ → List Bytes → ℕ
number_after vs last [] = last
number_after vs last (v ∷ more) = place v vs

-- the edge of a piece, between the last vertex and its own
unfoldable pub edges_between : Book → ℕ → ℕ → Piece → List Numbered
edges_between b last own (start v) = []
edges_between b last own (goes e l v) = numbered b e l last own ∷ []
edges_between b last own (comes e l v) = numbered b e l own last ∷ []
edges_between b last own (asks c) = []
edges_between b last own (returns v) = []

-- the edges found, by their numbers
abbrev pub numbered_of : Bytes → Edges → List Numbered
numbered_of s r = map (numbered_in s) (take r.count r.items)

-- the parts of their variables
abbrev pub edge_parts_of : Edges → List Part
edge_parts_of r = map (λ e. e.name) (take r.count r.items)

-- the edges found are no more than there is room for
pub record Stored (r : Edges) : Type 0 where
  pub room : length r.items ≡ 16
  pub few : r.count ≤ 16
  pub blank : Blank 16 no_edge r.count r.items

-- r are the edges with more behind them, their variables at more parts
pub record MoreEdges (s : Bytes) (edges : Edges) (more : List Numbered) (ps : List Part) (r : Edges) : Type 0 where
  pub stored : Stored r
  pub is : numbered_of s r ≡ numbered_of s edges ++ more
  pub parts : edge_parts_of r ≡ edge_parts_of edges ++ ps
  pub names : edge_names_of s r ≡ edge_names_of s edges ++ map (name_at s) ps

-- an edge's numbers are below the counts
pub record EdgeStands (c : BookCounts) (vertices : Vertices) (e : EdgeData) : Type 0 where
  pub label : e.label < c.labels
  pub from : e.from < vertices.count
  pub to : e.to < vertices.count

-- r are the edges of a text; of a whole one, each variable stands at its place
pub record EdgesRead (b : Book) (c : BookCounts) (s : Bytes) (vertices : Vertices) (r : Edges) : Type 0 where
  pub is : map (edge_in b s) (take r.count r.items) ≡ map (edge_of (vertex_names_in s)) (links_from [] (text_pieces s))
  pub few : r.count ≤ 16
  pub counted : r.count ≡ length (links_from [] (text_pieces s))
  pub each : (i : ℕ) → i < r.count → EdgeStands c vertices (get_or r.items i no_edge)
  pub stored : Stored r
  pub parts : (walk_at s text_start).whole ≡ true → edge_parts_of r ≡ edge_parts s
  pub inside : EdgesInside s r
  pub told : edges_data b (edge_parts_of r) (map (edge_of (vertex_names_in s)) (links_from [] (text_pieces s))) ≡ take r.count r.items

-- no edge more, or one
module _ (s : Bytes) (edges : Edges) (h : Stored edges) where
  pub edges_same : MoreEdges s edges [] [] edges
  edges_same = record {
    stored = h;
    is = sym (append-nil (numbered_of s edges));
    parts = sym (append-nil (edge_parts_of edges));
    names = sym (append-nil (edge_names_of s edges));
  }

  pub link_more : (b : Book) (link : Link) (from to : ℕ) (x : EdgeData) → x ≡ edge_made b s link from to → edges.count < 16
      → MoreEdges s edges (numbered b (name_at s link.edge) (name_at s link.label) from to ∷ []) (link.edge ∷ [])
      (record { items = set edges.items edges.count x; count = edges.count + 1 })
  unfolding numbered_in numbered
  link_more b link from to x e room = let inside : edges.count < length edges.items = omega (arith, h.room) in record {
    stored = record {
      room = length-set edges.items edges.count x ∙ h.room;
      few = omega arith;
      blank = blank_more 16 no_edge edges.items edges.count x room h.blank;
    };
    is = taken_more (numbered_in s) edges.items edges.count x inside ∙ ap (λ (y : EdgeData). numbered_of s edges ++ (numbered_in s y ∷ [])) e;
    parts = taken_more (λ (y : EdgeData). y.name) edges.items edges.count x inside ∙ ap (λ (y : EdgeData). edge_parts_of edges ++ (y.name ∷ [])) e;
    names = taken_more (λ (y : EdgeData). name_at s y.name) edges.items edges.count x inside
        ∙ ap (λ (y : EdgeData). edge_names_of s edges ++ (name_at s y.name ∷ [])) e;
  }

-- the edges of pieces behind the last vertex
unfoldable pub edges_from : Book → List Bytes → ℕ → List Piece → List Numbered
edges_from b vs last [] = []
edges_from b vs last (p ∷ ps) = edges_between b last (number_after vs last (vertex_in p)) p ++ edges_from b vs (number_after vs last (vertex_in p)) ps

-- an edge of a text by its numbers
unfoldable pub link_numbered : Book → List Bytes → ChainEdge → Numbered
link_numbered b vs e = numbered b e.name e.label (place e.from vs) (place e.to vs)

module _ (b : Book) (vs : List Bytes) where
  links_behind : (v : Bytes) (ps : List Piece) → edges_from b vs (place v vs) ps ≡ map (link_numbered b vs) (links_from v ps)
  unfolding edges_from edges_between number_after vertex_in link_numbered links_from
  links_behind v [] = refl
  links_behind v (start u ∷ ps) = links_behind u ps
  links_behind v (goes e l u ∷ ps) = ap (λ r. numbered b e l (place v vs) (place u vs) ∷ r) (links_behind u ps)
  links_behind v (comes e l u ∷ ps) = ap (λ r. numbered b e l (place u vs) (place v vs) ∷ r) (links_behind u ps)
  links_behind v (asks c ∷ ps) = links_behind v ps
  links_behind v (returns u ∷ ps) = links_behind v ps

  -- a text begins with a vertex
  links_all : (last : ℕ) (ps : List Piece) → Ordered at_start ps → edges_from b vs last ps ≡ map (link_numbered b vs) (links_from [] ps)
  unfolding edges_from edges_between number_after vertex_in links_from Ordered may_stand
  links_all last [] h = refl
  links_all last (start u ∷ ps) h = links_behind u ps
  links_all last (goes e l u ∷ ps) h = absurd h.0
  links_all last (comes e l u ∷ ps) h = absurd h.0
  links_all last (asks c ∷ ps) h = absurd h.0
  links_all last (returns u ∷ ps) h = absurd h.0

-- the edges found from the text's start to a place, and those of the pieces behind it
pub record EdgesSoFar (b : Book) (s : Bytes) (vs : List Bytes) (from : Place) (last : ℕ) (edges : Edges) : Type 0 where
  pub stored : Stored edges
  pub rest : numbered_of s edges ++ edges_from b vs last (found_at s from) ≡ map (link_numbered b vs) (links_from [] (text_pieces s))
  pub parts : PartsSoFar edge_part s from (edge_parts_of edges)

-- the variable of every edge found so far is a part of the text
pub edges_inside : {b : Book} {s : Bytes} {vs : List Bytes} {from : Place} {last : ℕ} {edges : Edges} → EdgesSoFar b s vs from last edges → EdgesInside s edges
unfolding edge_parts
edges_inside {s = s} {from = from} {edges = edges} so = record {
  few = so.stored.few;
  inside = λ i l. subst (λ (x : EdgeData). HasPart s x.name) (get_or-take edges.count edges.items i no_edge l)
      (each_at (λ (x : EdgeData). HasPart s x.name) no_edge (take edges.count edges.items)
      (each_of (HasPart s) (λ (x : EdgeData). x.name) (take edges.count edges.items)
      (each_front (HasPart s) (edge_parts_of edges) (joined edge_part (standings_at s from)) (subst (Each (HasPart s)) (sym so.parts.rest) (edges_end s))).0) i
      (omega (arith, length-take-le edges.count edges.items (omega (arith, so.stored.few, so.stored.room)))));
}

pub edges_start : (b : Book) (s : Bytes) (vs : List Bytes) (from : Place) (last : ℕ) (edges : Edges) → from ≡ text_start → edges ≡ no_edges
    → EdgesSoFar b s vs from last edges
edges_start b s vs from last edges e f = subst (λ (r : Edges). EdgesSoFar b s vs from last r) (sym f) (record {
  stored = record { room = refl; few = omega arith; blank = refl };
  rest = ap (λ (q : Place). edges_from b vs last (found_at s q)) e ∙ links_all b vs last (text_pieces s) (text_ordered s);
  parts = parts_start edge_part s from e;
})

module _ (b : Book) (s : Bytes) (vs : List Bytes) (from : Place) (last : ℕ) (edges : Edges) (so : EdgesSoFar b s vs from last edges) (r : Result Step Bool)
    (h : StepAt s from r) where
  module _ (x : Step) (e : r ≡ Ok x) (own : ℕ) (f : own ≡ number_after vs last (vertex_in (piece_of s x.piece))) where
    ahead : (numbered_of s edges ++ edges_between b last own (piece_of s x.piece)) ++ edges_from b vs own (found_at s x.next)
        ≡ map (link_numbered b vs) (links_from [] (text_pieces s))
    unfolding edges_from
    ahead =
        append_assoc (numbered_of s edges) (edges_between b last own (piece_of s x.piece)) (edges_from b vs own (found_at s x.next))
        ∙ ap (λ n. numbered_of s edges ++ (edges_between b last n (piece_of s x.piece) ++ edges_from b vs n (found_at s x.next))) f
        ∙ ap (λ ps. numbered_of s edges ++ edges_from b vs last ps) (sym (step_list s from r h x e)) ∙ so.rest

    pub edges_room : length (links_from [] (text_pieces s)) ≤ 16 → edges.count + length (edges_between b last own (piece_of s x.piece)) ≤ 16
    edges_room few = omega (
      arith,
      room_for (numbered_of s edges) (edges_between b last own (piece_of s x.piece)) (edges_from b vs own (found_at s x.next)) ahead,
      length-map (links_from [] (text_pieces s)) (link_numbered b vs),
      length_taken (numbered_in s) edges.items edges.count (omega (arith, so.stored.few, so.stored.room)),
    )

    pub edges_on : (more : Edges) → MoreEdges s edges (edges_between b last own (piece_of s x.piece)) (joined edge_part (piece_standing x.piece)) more
        → EdgesSoFar b s vs x.next own more
    edges_on more m = record {
      stored = m.stored;
      rest = ap (λ l. l ++ edges_from b vs own (found_at s x.next)) m.is ∙ ahead;
      parts = parts_on edge_part s from (edge_parts_of edges) so.parts r h x e (edge_parts_of more) m.parts;
    }

  pub edges_all : (w : Bool) → r ≡ Err w → numbered_of s edges ≡ map (link_numbered b vs) (links_from [] (text_pieces s))
  unfolding edges_from
  edges_all w e = sym (append-nil (numbered_of s edges)) ∙ ap (λ ps. numbered_of s edges ++ edges_from b vs last ps) (sym (step_none s from r h w e)) ∙ so.rest

  pub edge_parts_all : (w : Bool) → r ≡ Err w → (walk_at s text_start).whole ≡ true → edge_parts_of edges ≡ edge_parts s
  unfolding edge_parts
  edge_parts_all w e k = parts_all edge_part s from (edge_parts_of edges) so.parts r h w e k

-- the ends of edges are vertices of their pieces
ends_behind : (v : Bytes) (ps : List Piece) (e : ChainEdge) → e ∈ links_from v ps → (e.from ∈ v ∷ vertices_in ps) × (e.to ∈ v ∷ vertices_in ps)
unfolding links_from joined vertex_in
ends_behind v [] e m = elim m [ ]
ends_behind v (start u ∷ ps) e m = let r = ends_behind u ps e m in (Memᴰ.tail r.0, Memᴰ.tail r.1)
ends_behind v (goes d l u ∷ ps) e m = ⊎_elim
    (λ q. (Memᴰ.head (ap (λ (c : ChainEdge). c.from) q), Memᴰ.tail (Memᴰ.head (ap (λ (c : ChainEdge). c.to) q))))
    (λ n. let r = ends_behind u ps e n in (Memᴰ.tail r.0, Memᴰ.tail r.1)) (cases_cons m)
ends_behind v (comes d l u ∷ ps) e m = ⊎_elim
    (λ q. (Memᴰ.tail (Memᴰ.head (ap (λ (c : ChainEdge). c.from) q)), Memᴰ.head (ap (λ (c : ChainEdge). c.to) q)))
    (λ n. let r = ends_behind u ps e n in (Memᴰ.tail r.0, Memᴰ.tail r.1)) (cases_cons m)
ends_behind v (asks c ∷ ps) e m = ends_behind v ps e m
ends_behind v (returns u ∷ ps) e m = ends_behind v ps e m

ends_all : (ps : List Piece) → Ordered at_start ps → (e : ChainEdge) → e ∈ links_from [] ps → (e.from ∈ vertices_in ps) × (e.to ∈ vertices_in ps)
unfolding links_from joined vertex_in Ordered may_stand
ends_all [] h e m = elim m [ ]
ends_all (start u ∷ ps) h e m = ends_behind u ps e m
ends_all (goes d l u ∷ ps) h e m = absurd h.0
ends_all (comes d l u ∷ ps) h e m = absurd h.0
ends_all (asks c ∷ ps) h e m = absurd h.0
ends_all (returns u ∷ ps) h e m = absurd h.0

-- an edge by names, from its numbers
unfoldable edge_named : Book → Numbered → Edge
edge_named b n = record { name = n.name; label = get_or b.labels n.label []; from = n.from; to = n.to }

abbrev no_link : ChainEdge
no_link = record { name = []; label = []; from = []; to = [] }

labels_counted : (book : Bytes) (words : List ℕ) (c : BookCounts) → length (book_at book words c).labels ≡ c.labels
unfolding book_at
labels_counted book words c = length_names book words label_names c.labels

edge_data_law : (b : Book) (s : Bytes) (vs : List Bytes) (e : EdgeData) (l : ChainEdge) → numbered_in s e ≡ link_numbered b vs l
    → edge_data b e.name (edge_of vs l) ≡ e
unfolding edge_data edge_of numbered_in link_numbered numbered
edge_data_law b s vs e l h = let k = sym h in λ i. record { name = e.name; label = (k i).label; from = (k i).from; to = (k i).to }

-- edges by their numbers are the model's edges as data, their variables at the same parts
edges_data_law : (b : Book) (s : Bytes) (vs : List Bytes) (es : List EdgeData) (links : List ChainEdge) → map (numbered_in s) es ≡ map (link_numbered b vs) links
    → edges_data b (map (λ (x : EdgeData). x.name) es) (map (edge_of vs) links) ≡ es
unfolding edges_data first_part
edges_data_law b s vs [] [] h = refl
edges_data_law b s vs [] (l ∷ ls) h = cc
edges_data_law b s vs (e ∷ es) [] h = cc
edges_data_law b s vs (e ∷ es) (l ∷ ls) h =
    let one : numbered_in s e ≡ link_numbered b vs l = cc in
    let more : map (numbered_in s) es ≡ map (link_numbered b vs) ls = cc in
    ap₂ (λ (x : EdgeData) (xs : List EdgeData). x ∷ xs) (edge_data_law b s vs e l one) (edges_data_law b s vs es ls more)

-- the edges found in a whole text are its edges
module _ (book : Bytes) (words : List ℕ) (c : BookCounts) (s : Bytes) (vertices : Vertices) (found : Found s vertices (vertex_names_in s))
    (declared : some_where (undeclared_at (book_at book words c) (text_pieces s)) [] (text_pieces s) ≡ false) (edges : Edges) (stored : Stored edges)
    (all-numbered : numbered_of s edges ≡ map (link_numbered (book_at book words c) (vertex_names_in s)) (links_from [] (text_pieces s)))
    (parts : (walk_at s text_start).whole ≡ true → edge_parts_of edges ≡ edge_parts s) (there : EdgesInside s edges) where
  abbrev b : Book
  b = book_at book words c

  abbrev vs : List Bytes
  vs = vertex_names_in s

  abbrev links : List ChainEdge
  links = links_from [] (text_pieces s)

  inside : (v : Bytes) → v ∈ vertices_in (text_pieces s) → place v vs < vertices.count
  inside v m = let l = (at_place vs v (firsts_i [] (vertices_in (text_pieces s)) v m)).0 in omega (arith, found_counted s vertices vs found)

  label_there : (e : ChainEdge) → e ∈ links → e.label ∈ b.labels
  label_there = label_declared b (text_pieces s) (text_ordered s) declared

  all_named : map (edge_in b s) (take edges.count edges.items) ≡ map (edge_of vs) links
  unfolding edge_named edge_in numbered_in link_numbered numbered edge_of
  all_named =
      sym (map_to (edge_named b) (numbered_in s) (edge_in b s) (take edges.count edges.items) (λ x m. refl)) ∙ ap (map (edge_named b)) all-numbered
      ∙ map_to (edge_named b) (link_numbered b vs) (edge_of vs) links
      (λ e m. ap (λ l. record { name = e.name; label = l; from = place e.from vs; to = place e.to vs })
      (at_place b.labels e.label (label_there e m)).1)

  in_array : edges.count ≤ length edges.items
  in_array = omega (arith, stored.few, stored.room)

  edges_counted : edges.count ≡ length links
  edges_counted = sym (length_taken (numbered_in s) edges.items edges.count in_array) ∙ ap length all-numbered ∙ length-map links (link_numbered b vs)

  module _ (i : ℕ) (l : i < edges.count) where
    abbrev link : ChainEdge
    link = get_or links i no_link

    link_in : link ∈ links
    link_in = get_or_in links i no_link (omega (arith, edges_counted))

    link_at : numbered_in s (get_or edges.items i no_edge) ≡ link_numbered b vs link
    link_at =
        sym (get_or_map (numbered_in s) (take edges.count edges.items) i no_edge (numbered_in s no_edge)
        (omega (arith, length-take-le edges.count edges.items in_array)) ∙ ap (numbered_in s) (get_or-take edges.count edges.items i no_edge l))
        ∙ ap (λ z. get_or z i (numbered_in s no_edge)) all-numbered
        ∙ get_or_map (link_numbered b vs) links i no_link (numbered_in s no_edge) (omega (arith, edges_counted))

    edge_stands : EdgeStands c vertices (get_or edges.items i no_edge)
    unfolding numbered_in link_numbered numbered
    edge_stands =
        let ends = ends_all (text_pieces s) (text_ordered s) link link_in in
        record {
          label = omega (
            arith,
            ap (λ (n : Numbered). n.label) link_at,
            (at_place b.labels link.label (label_there link link_in)).0,
            labels_counted
                book words c,
          );
          from = omega (arith, ap (λ (n : Numbered). n.from) link_at, inside link.from ends.0);
          to = omega (arith, ap (λ (n : Numbered). n.to) link_at, inside link.to ends.1);
        }

  pub edges_are : EdgesRead b c s vertices edges
  edges_are = record {
    is = all_named;
    few = stored.few;
    counted = edges_counted;
    each = edge_stands;
    stored = stored;
    parts = parts;
    inside = there;
    told = edges_data_law b s vs (take edges.count edges.items) links all-numbered;
  }
