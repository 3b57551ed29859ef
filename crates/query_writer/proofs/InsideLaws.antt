-- A pattern that can be written lies inside the arrays, the query's text and the tables. Assumes nothing.
use Prim.Native.Nat.{ℕ, ◌+◌, ◌≤◌, ◌<◌}
use mathlib.Core.List.{List}
use native.Mathlib.Omega.{arith}
use lib.ListN.{length, get_or}
use Rattle.model.specs.Bytes.{Bytes}
use Rattle.model.specs.PlainData.{no_clause, ConditionWithin}
use Rattle.model.specs.declared.Condition.{Condition}
use Rattle.model.specs.declared.Condition.TheVariants.{Excluded, OfVertex, OfEdge}
use Rattle.model.specs.declared.Pattern.{Pattern}
use Rattle.book_tables.specs.declared.BookCounts.{BookCounts}
use Rattle.book_tables.specs.Fits.{NamesFit}
use Rattle.putting.specs.Putting.{Declared}
use Rattle.query_writer.specs.Writable.{ConditionFits, count_limits, Writable}
use Rattle.query_writer.specs.Inside.{VertexInside, ConditionInside, PatternInside}

module _ {book : Bytes} {words : List ℕ} {c : BookCounts} {query : Bytes} {p : Pattern} (w : Writable book words c query p) where
  -- a name counted at an offset, a vertex counted in the pattern
  declared : (offset count : ℕ) → NamesFit book words offset count → offset + count ≤ 160 → (i : ℕ) → i < count → Declared book words offset i
  declared offset count names h i l = record { room = omega (arith, w.fits.room); inside = names.inside i l }

  vertex_inside : (v : ℕ) → v < p.counts.vertices → VertexInside query p.vertices v
  vertex_inside v h = (omega (arith, w.pattern.vertices), w.parts.vertices v h)

  condition_inside : (x : Condition) → ConditionFits (count_limits c p) x → ConditionWithin (length query) x
      → ConditionInside book words query p.vertices p.edges x
  condition_inside (Excluded u v) f k = (vertex_inside u f.0, vertex_inside v f.1)
  condition_inside (OfVertex v r) f k =
      (vertex_inside v f.0, record { attribute = declared _ _ w.fits.vattrs (omega (arith, w.fits.within.vattrs)) _ f.1; value = k })
  condition_inside (OfEdge e r) f k = (
    (omega (arith, f.0, w.pattern.edges.few), w.parts.edges e f.0),
    record { attribute = declared _ _ w.fits.eattrs (omega (arith, w.fits.within.eattrs)) _ f.1; value = k },
  )

  pub pattern_inside : PatternInside book words query p
  pattern_inside = record {
    vertices = record { few = w.pattern.vertices; each = w.parts.vertices };
    edges = record {
      few = w.pattern.edges.few;
      each = λ i h. let f = w.pattern.edges.each i h in record {
        from = vertex_inside _ f.from;
        to = vertex_inside _ f.to;
        name = w.parts.edges i h;
        label = declared _ _ w.fits.labels (omega (arith, w.fits.within.labels)) _ f.label;
      };
    };
    clauses = record {
      few = w.pattern.clauses.few;
      each = λ i h. condition_inside (get_or p.clauses i no_clause).condition (w.pattern.clauses.each i h) (w.parts.clauses i h);
    };
    returns = record { few = w.pattern.returns.few; each = λ i h. vertex_inside _ (w.pattern.returns.each i h) };
  }
