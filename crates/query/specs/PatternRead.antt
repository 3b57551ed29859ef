-- The pattern of a text by value, and what is asked of the text.
use Rattle.std.specs.Prelude.{ℕ, ◌+◌, ◌≤◌, ◌<◌, ◌≡◌, List, length, T}
use Rattle.model.specs.Bytes.{Bytes}
use Rattle.model.specs.Choice.{just}
use Rattle.model.specs.Lists.{all}
use Rattle.model.specs.Lines.{is_allowed}
use Rattle.model.specs.Book.{Book}
use Rattle.model.specs.QueryText.{QueryText}
use Rattle.model.specs.Grammar.{query_text}
use Rattle.model.specs.Pattern.{pattern_of}
use Rattle.model.specs.Answers.{pattern_in}
use Rattle.model.specs.WholeAnswers.{query_data}
use Rattle.model.specs.declared.Pattern.{Pattern}
use Rattle.book_tables.specs.declared.BookCounts.{BookCounts}
use Rattle.book_tables.specs.View.{book_at}
use Rattle.book_tables.specs.Fits.{Fits}
use Rattle.query_faults.specs.TextFault.{text_fault}
use Rattle.query_writer.specs.Writable.{count_limits, PatternFits}
use Rattle.model.specs.PlainData.{PartsWithin, PatternFits as WordsFit}
use Rattle.query.specs.Vertices.{Vertices}
use Rattle.query.specs.Edges.{Edges}
use Rattle.query.specs.Clauses.{Clauses}
use Rattle.query.specs.Returns.{Returns}

-- what was found, as one pattern
abbrev pub pattern_made : Vertices → Edges → Clauses → Returns → Pattern
pattern_made v e k r = record {
  vertices = v.items;
  edges = e.items;
  clauses = k.items;
  returns = r.items;
  counts = record { vertices = v.count; edges = e.count; clauses = k.count; returns = r.count };
}

-- what is asked of a text: the book is loaded, the text has no fault against it, and its bytes are allowed
pub record PatternAsked (book : Bytes) (words : List ℕ) (c : BookCounts) (s : Bytes) : Type 0 where
  pub fits : Fits book words c
  pub clear : text_fault (book_at book words c) s ≡ 0
  pub allowed : T (all is_allowed s)

-- p is the pattern of a text, every slot of it: its numbers are below the counts, its names stand inside the text and fit their words, and something is
-- returned
pub record PatternRead (b : Book) (c : BookCounts) (s : Bytes) (p : Pattern) : Type 0 where
  pub is : (tree : QueryText) → query_text s ≡ just tree → pattern_in b s p ≡ pattern_of tree
  pub whole : (tree : QueryText) → query_text s ≡ just tree → p ≡ query_data b s (pattern_of tree)
  pub fits : PatternFits (count_limits c p) p
  pub parts : PartsWithin (length s) p
  pub words : (base : ℕ) → base + length s ≤ 65536 → WordsFit base p
  pub some_return : 0 < p.counts.returns
