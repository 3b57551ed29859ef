-- The rules of a text, line by line: what a line asks, and what the words hold after all lines, accepted or refused.
use Rattle.std.specs.Prelude.{ℕ, ◌+◌, ◌≤◌, ◌≡◌, List, [], length, drop, Result, Ok, Err}
use Rattle.model.specs.Bytes.{Bytes}
use Rattle.model.specs.Lines.{read_lines, lines_of}
use Rattle.model.specs.Refusal.{Outcome, accepted, refused}
use Rattle.model.specs.Book.{Book}
use Rattle.model.specs.Rules.{Rules}
use Rattle.model.specs.ReadRules.{rules_step}
use Rattle.model.specs.Answers.{refusal_of}
use Rattle.model.specs.declared.Refusal.{Refusal as RefusalData}
use Rattle.book_tables.specs.declared.BookCounts.{BookCounts}
use Rattle.book_tables.specs.Fits.{Fits as BookFits}
use Rattle.rules_tables.specs.declared.RulesCounts.{RulesCounts}
use Rattle.rules_tables.specs.View.{rules_at}
use Rattle.rules_tables.specs.Fits.{Fits}
use Rattle.rules.specs.Stored.{LineAt}

-- the rules of no lines
abbrev pub no_rules : Rules
no_rules = record { categories = []; policies = [] }

-- what the form of a line asks, the line beginning at the place base
pub record FormAsked (book : Bytes) (words : List ℕ) (counts : BookCounts) (text : Bytes) (rules : List ℕ) (c : RulesCounts) (s : Bytes)
    (base : ℕ) : Type 0 where
  pub book_fits : BookFits book words counts
  pub fits : Fits text rules c
  pub short : length text ≤ 16384
  pub line : LineAt text base s

-- what a line asks that ends at a place
pub record LineAsked (book : Bytes) (words : List ℕ) (counts : BookCounts) (text : Bytes) (rules : List ℕ) (c : RulesCounts) (from to : ℕ) : Type 0 where
  pub book_fits : BookFits book words counts
  pub fits : Fits text rules c
  pub short : length text ≤ 16384
  pub forward : from ≤ to
  pub inside : to ≤ length text

-- read against a book: accepted, the words hold the rules; refused, nothing is said of them
abbrev pub Loaded : Book → Bytes → List ℕ → Result RulesCounts RefusalData → Outcome Rules → Type 0
Loaded b text words (Ok c) o = (o ≡ accepted (rules_at text words c)) × Fits text words c × (length text ≤ 16384)
Loaded b text words (Err r) o = o ≡ refused (refusal_of r)

-- the lines before a place are read into the words, and the others follow from this line on
pub record Reading (b : Book) (text : Bytes) (before words : List ℕ) (at line : ℕ) (c : RulesCounts) : Type 0 where
  pub size : length words ≡ length before
  pub fits : Fits text words c
  pub inside : at ≤ length text + 1
  pub few : line ≤ at + 1
  pub is : read_lines 2 (rules_step b) line (rules_at text words c) (lines_of (drop at text)) ≡ read_lines 2 (rules_step b) 1 no_rules (lines_of text)
