-- How far a text is put: what waits, and what the buffer is to hold once that and the rest is put. A step of the reading keeps the latter.
use Rattle.std.specs.Prelude.{ℕ, ◌-◌, ◌≤◌, ◌<◌, ◌≡◌, Bool, List, ◌++◌, length, take, drop}
use Rattle.model.specs.Bytes.{Bytes}
use Rattle.model.specs.Names.{Name}
use Rattle.model.specs.Lines.{lines_of}
use Rattle.model.specs.Answers.{part_of}
use Rattle.model.specs.Renaming.{suffix}
use Rattle.book_tables.specs.declared.BookCounts.{BookCounts}
use Rattle.book_tables.specs.Fits.{Fits}
use Rattle.putting.specs.Putting.{Buffer, with_text}
use Rattle.renamed_text.specs.declared.names.Progress.{Progress}
use Rattle.renamed_text.specs.Renamed.{words_then, lines_by}

-- the bytes that are read and not yet put
unfoldable pub waiting : Bytes → Progress → Bytes
waiting text p = part_of text p.put (p.seen - p.put)

-- the buffer once what waits and then other bytes are put
unfoldable pub to_come : Bytes → Bytes → Progress → Bytes → Buffer
to_come text out p rest = with_text (record { bytes = out; place = p.at }) (waiting text p ++ rest)

-- what is put has been read, inside the text
pub record Within (text : Bytes) (p : Progress) : Type 0 where
  pub read : p.put ≤ p.seen
  pub inside : p.seen ≤ length text

-- what waits and `_b` are put: nothing waits
pub record Suffixed (text out : Bytes) (p : Progress) (out' : Bytes) (r : Progress) : Type 0 where
  pub seen : r.seen ≡ p.seen
  pub put : r.put ≡ p.seen
  pub same : (rest : Bytes) → to_come text out' r rest ≡ to_come text out p (suffix ++ rest)

-- what reading words of a line up to an end asks
pub record WordAsked (text : Bytes) (to : ℕ) (words : List ℕ) (c : BookCounts) (p : Progress) : Type 0 where
  pub fits : Fits text words c
  pub read : p.put ≤ p.seen
  pub inside : p.seen ≤ to
  pub end : to ≤ length text

-- words of a line up to an end are read, each told whether it names a node; whichever words follow, and whatever follows the line
pub record Goes (later : Name → Bool) (text : Bytes) (to : ℕ) (out : Bytes) (p : Progress) (nodes : List Bool) (out' : Bytes) (r : Progress) : Type 0 where
  pub read : r.put ≤ r.seen
  pub inside : r.seen ≤ to
  pub same : (more : List Bool) (rest : Bytes) → to_come text out' r (words_then later more (drop r.seen (take to text)) rest)
      ≡ to_come text out p (words_then later (nodes ++ more) (drop p.seen (take to text)) rest)

-- what reading a line asks
pub record LineAsked (text : Bytes) (words : List ℕ) (c : BookCounts) (p : Progress) : Type 0 where
  pub fits : Fits text words c
  pub read : p.put ≤ p.seen
  pub inside : p.seen < length text

-- a line is read
pub record LineGone (later : Name → Bool) (text out : Bytes) (p : Progress) (out' : Bytes) (r : Progress) : Type 0 where
  pub read : r.put ≤ r.seen
  pub onward : p.seen < r.seen
  pub inside : r.seen ≤ length text
  pub same : to_come text out' r (lines_by later (lines_of (drop r.seen text))) ≡ to_come text out p (lines_by later (lines_of (drop p.seen text)))
