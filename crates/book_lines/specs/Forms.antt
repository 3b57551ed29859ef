-- The form of a line, read by places of the line.
use Rattle.std.specs.Prelude.{ℕ, ◌+◌, ◌≤◌, ◌≡◌, List, length, Option, None, Some}
use Rattle.model.specs.Bytes.{Bytes, bytes_of, same}
use Rattle.model.specs.Choice.{pick, Maybe, nothing}
use Rattle.model.specs.Items.{Item}
use Rattle.model.specs.Lines.{Step, form_step}
use Rattle.model.specs.Values.{Kind}
use Rattle.model.specs.Book.{Book}
use Rattle.model.specs.BookLines.{BookLine, attr_line, label_line, node_line, rel_line}
use Rattle.model.specs.Answers.{part_of, name_at}
use Rattle.model.specs.declared.Part.{Part}
use Rattle.item_forms.specs.Pieces.{behind}
use Rattle.book_tables.specs.declared.BookCounts.{BookCounts}
use Rattle.book_tables.specs.declared.Owner.TheVariants.{Node, Relationship}
use Rattle.book_tables.specs.Owners.{declares}
use Rattle.book_tables.specs.View.{kind_in}
use Rattle.book_tables.specs.declared.NameRule.{NameRule}
use Rattle.book_tables.specs.Fits.{Fits}
use Rattle.book_lines.specs.declared.Head.{Head}
use Rattle.book_lines.specs.declared.Head.TheVariants as head
use Rattle.book_steps.specs.Steps.{step_of}

-- what a line gives after a book: 3 if it has no form
unfoldable pub form_step_of : NameRule → Book → Maybe BookLine → Step Book
form_step_of rule b line = form_step line (step_of rule b)

-- what reading a line asks: it is the part of the text that begins at the base
pub record FormAsked (text line : Bytes) (words : List ℕ) (c : BookCounts) (base : ℕ) : Type 0 where
  pub fits : Fits text words c
  pub limit : length text ≤ 65536
  pub is : line ≡ part_of text base (length line)
  pub inside : base + length line ≤ length text

-- the first word of a line
unfoldable pub head_of : Bytes → Head
head_of w =
    pick (same w (bytes_of "vattr")) (head.Attr Node)
    (pick (same w (bytes_of "eattr")) (head.Attr Relationship)
    (pick (same w (bytes_of "label")) head.Label
    (pick (same w (bytes_of "node")) head.Node
    (pick (same w (bytes_of "rel")) head.Rel head.Other))))

-- the rest of a line, by its first word
unfoldable pub line_of : Head → List Item → Maybe BookLine
line_of (head.Attr o) is = attr_line (declares o) is
line_of head.Label is = label_line is
line_of head.Node is = node_line is
line_of head.Rel is = rel_line is
line_of head.Other is = nothing

-- a type in words: 0 int, 1 str, 2 bool
unfoldable pub kind_read : Bytes → ℕ → Option (ℕ × ℕ)
kind_read w q =
    pick (same w (bytes_of "int")) (Some (0, q))
    (pick (same w (bytes_of "str")) (Some (1, q))
    (pick (same w (bytes_of "bool")) (Some (2, q)) None))

-- the type that a piece of the line is
unfoldable pub kind_piece : Bytes → Option Part → Option (ℕ × ℕ)
kind_piece line (Some w) = kind_read (name_at line w) (behind w)
kind_piece line None = None

-- go on with a type, or with an attribute
unfoldable pub on_kind : {B : Type 0} → Option (ℕ × ℕ) → (Kind → ℕ → Maybe B) → Maybe B
on_kind (Some (k, q)) f = f (kind_in k) q
on_kind None f = nothing

unfoldable pub on_attr : {B : Type 0} → Bytes → Option (Part × ℕ) → (Bytes → Kind → Maybe B) → Maybe B
on_attr line (Some (w, k)) f = f (name_at line w) (kind_in k)
on_attr line None f = nothing
