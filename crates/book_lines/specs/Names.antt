-- The names of a line by their places in the line.
use Rattle.std.specs.Prelude.{ℕ, ◌+◌, ◌≤◌, ◌≡◌, List, false, length, Option, None, Some}
use Rattle.model.specs.Bytes.{Bytes}
use Rattle.model.specs.Choice.{Maybe, nothing}
use Rattle.model.specs.Items.{Item}
use Rattle.model.specs.Forms.{as_name, first}
use Rattle.model.specs.BookLines.{BookLine}
use Rattle.model.specs.Answers.{name_at}
use Rattle.model.specs.declared.Part.{Part}
use Rattle.item_forms.specs.declared.Form.{Form}
use Rattle.item_forms.specs.Ends.{form_at}
use Rattle.item_forms.specs.Places.{WordPlaces}
use Rattle.item_forms.specs.Pieces.{behind}
use Rattle.book_lines.specs.declared.RelNames.{RelNames}

-- a part of the line that begins at the base, as a part of the whole text
abbrev pub moved_part : ℕ → Part → Part
moved_part base p = record { start = base + p.start; length = p.length }

-- the name of an attribute that was read stands in the line
abbrev pub AttrFits : Bytes → ℕ → Option (Part × ℕ) → Type 0
AttrFits line from (Some (w, k)) = WordPlaces line from w
AttrFits line from None = Unit {0}

-- three names, and then the rest of the form
abbrev pub names_form : Form → Bytes → ℕ → (Bytes → Bytes → Bytes → List Item → Maybe BookLine) → Maybe BookLine
names_form within line from k = form_at within false from line (λ is. first as_name is (λ l is. first as_name is (λ x is. first as_name is (λ y is. k l x y is))))

-- three names were read
pub record NamesGot (within : Form) (line : Bytes) (from : ℕ) (l x y : Part) (q : ℕ) : Type 0 where
  pub form : (k : Bytes → Bytes → Bytes → List Item → Maybe BookLine)
      → names_form within line from k ≡ form_at within false q line (k (name_at line l) (name_at line x) (name_at line y))
  pub label : WordPlaces line from l
  pub start : WordPlaces line (behind l) x
  pub end : WordPlaces line (behind x) y
  pub inside : q ≤ length line

abbrev pub NamesTold : Form → Bytes → ℕ → Option RelNames → Type 0
NamesTold within line from (Some r) = NamesGot within line from r.label r.from r.to r.end
NamesTold within line from None = (k : Bytes → Bytes → Bytes → List Item → Maybe BookLine) → names_form within line from k ≡ nothing
