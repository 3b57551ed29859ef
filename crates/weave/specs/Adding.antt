-- Weaving one text into the words: what is asked, and what stands there then.
use Rattle.std.specs.Prelude.{ℕ, ◌+◌, ◌<◌, ◌≤◌, ◌≡◌, List, ◌++◌, map, length, get_or, take, drop, T, eqb, Option, None, Some}
use Rattle.model.specs.Bytes.{Bytes}
use Rattle.model.specs.Choice.{pick}
use Rattle.model.specs.Lists.{keep}
use Rattle.model.specs.Book.{Book}
use Rattle.model.specs.Weave.{is_excluded, woven_too_many}
use Rattle.model.specs.Answers.{edge_in, pattern_in}
use Rattle.model.specs.declared.Pattern.{Pattern}
use Rattle.woven_tables.specs.declared.WovenCounts.{WovenCounts}
use Rattle.woven_tables.specs.Tables.{text_of, ActorsInside, VerticesInside, edges_at, clauses_at, returns_at, woven_at, woven_words}
use Rattle.weave.specs.OneMore.{one_more}
use Rattle.model.specs.PlainData.{PatternFits, PartsWithin}
use Rattle.woven_tables.specs.Steps.{renumbered_edge}
use Rattle.woven_tables.specs.Reading.{ClausesInside}
use Rattle.woven_tables.specs.ClauseSteps.{renumbered_clause, named_clause}

-- the counts are those of a woven pattern in the words, and within the limits; the names of its vertices and the text values of its clauses lie inside their
-- texts
pub record Kept (query rules : Bytes) (words : List ℕ) (c : WovenCounts) : Type 0 where
  pub room : woven_words ≤ length words
  pub vertices : c.vertices ≤ 24
  pub edges : c.edges ≤ 48
  pub exclusions : c.exclusions ≤ 48
  pub requirements : c.requirements ≤ 48
  pub returns : c.returns ≤ 4
  pub counted : (b : Book) → length (keep is_excluded (clauses_at b query rules words (c.exclusions + c.requirements))) ≡ c.exclusions
  pub names : VerticesInside query rules words c.vertices
  pub values : ClausesInside query rules words (c.exclusions + c.requirements)

-- the counts of the woven pattern of no text
abbrev pub no_counts : WovenCounts
no_counts = record { vertices = 0; edges = 0; exclusions = 0; requirements = 0; returns = 0 }

-- what is asked of a text, the kth, whose names and text values stand from a base on in so many bytes
pub record TextReady (query rules : Bytes) (words : List ℕ) (c : WovenCounts) (actors : List ℕ) (count k base : ℕ) (p : Pattern) : Type 0 where
  pub kept : Kept query rules words c
  pub few_texts : k < 32
  pub few_actors : count ≤ length actors
  pub known_actors : ActorsInside rules actors count
  pub fits : PatternFits base p
  pub size : ℕ
  pub stands : base + size ≤ length (text_of query rules k)
  pub parts : PartsWithin size p

-- the words hold the woven pattern with the text, or a limit is passed; b is whatever book the labels and attributes are numbered in
abbrev pub TextAdded : Bytes → Bytes → List Bytes → ℕ → ℕ → Pattern → List ℕ → List ℕ → WovenCounts → Option WovenCounts → Type 0
TextAdded query rules actors k base p old new c (Some n) =
    Kept query rules new n × ((b : Book) → woven_at b query rules new n
    ≡ one_more k actors (pattern_in b (drop base (text_of query rules k)) p) (woven_at b query rules old c))
TextAdded query rules actors k base p old new c None =
    (b : Book) → T (woven_too_many (one_more k actors (pattern_in b (drop base (text_of query rules k)) p) (woven_at b query rules old c)))

-- what is asked of a text whose vertices are woven: there is room for its edges and clauses
pub record RestReady (k base : ℕ) (p : Pattern) (numbers : List ℕ) (c : WovenCounts) : Type 0 where
  pub few_texts : k < 32
  pub fits : PatternFits base p
  pub numbers_low : (i : ℕ) → i < p.counts.vertices → get_or numbers i 0 < 24
  pub few_returns : c.returns ≤ 4
  pub room_edges : c.edges + p.counts.edges ≤ 48
  pub room_clauses : c.exclusions + c.requirements + p.counts.clauses ≤ 96

-- the edges and clauses of a text are woven, and for the query its Return vertices, out of them
pub record RestAdded (k base : ℕ) (p : Pattern) (numbers old new : List ℕ) (c : WovenCounts) (out : ℕ) : Type 0 where
  pub edges_are : (b : Book) (query rules : Bytes) → edges_at b query rules new (c.edges + p.counts.edges)
      ≡ edges_at b query rules old c.edges ++ map (renumbered_edge numbers)
      (map (edge_in b (drop base (text_of query rules k))) (take p.counts.edges p.edges))
  pub clauses_are : (b : Book) (query rules : Bytes) → clauses_at b query rules new (c.exclusions + c.requirements + p.counts.clauses)
      ≡ clauses_at b query rules old (c.exclusions + c.requirements)
      ++ map (renumbered_clause numbers c.edges) (map (named_clause b (drop base (text_of query rules k))) (take p.counts.clauses p.clauses))
  pub inside : (query rules : Bytes) (size : ℕ) → base + size ≤ length (text_of query rules k) → PartsWithin size p
      → ClausesInside query rules old (c.exclusions + c.requirements) → ClausesInside query rules new (c.exclusions + c.requirements + p.counts.clauses)
  pub few_returns : out ≤ 4
  pub returns_are : returns_at new out ≡ pick (eqb k 0) (map (λ v. get_or numbers v 0) (take p.counts.returns p.returns)) (returns_at old c.returns)
  pub vertices_kept : (i : ℕ) → i < 24 → get_or new i 0 ≡ get_or old i 0
