-- The lowest fault of a line's entries, if they have one.
use Rattle.std.specs.Prelude.{ℕ, min, List, map, Bool, Option, None, Some}
use Rattle.model.specs.Choice.{pick}
use Rattle.model.specs.Lists.{all}
use Rattle.model.specs.Names.{twice}
use Rattle.model.specs.Values.{Entry}
use Rattle.model.specs.Book.{Attr}
use Rattle.model.specs.ReadBook.{suits, undeclared}

-- 4: an attribute not declared; 5: an attribute twice; 6: a value of another type
unfoldable pub entries_fault : List Attr → List Entry → Option ℕ
entries_fault ds es = pick (undeclared ds es) (Some 4) (pick (twice (map (λ e. e.attr) es)) (Some 5) (pick (all (suits ds) es) None (Some 6)))

-- the fault of one entry: whether its attribute is declared, stood before, and has its value's type
unfoldable pub entry_fault : Bool → Bool → Bool → Option ℕ
entry_fault declared seen suited = pick declared (pick seen (Some 5) (pick suited None (Some 6))) (Some 4)

-- the lower of two faults
unfoldable pub lower : Option ℕ → Option ℕ → Option ℕ
lower None other = other
lower (Some n) None = Some n
lower (Some n) (Some m) = Some (min n m)
