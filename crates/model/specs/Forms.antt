-- From items to names and values, one item after another.
use Rattle.std.specs.Prelude.{List, [], ◌∷◌, true, false}
use Rattle.model.specs.Bytes.{Bytes, bytes_of, same}
use Rattle.model.specs.Choice.{pick, Maybe, nothing, just, and_then}
use Rattle.model.specs.Names.{Name, mem}
use Rattle.model.specs.Items.{Item, word, whole, text, quoted, list, items_of, line_items}
use Rattle.model.specs.Lines.{Line}
use Rattle.model.specs.Values.{Value, int, str, bool, Kind, ints, strs, bools, Entry}

-- an item as a word
unfoldable pub as_word : Item → Maybe Bytes
as_word (word w) = just w
as_word (whole n) = nothing
as_word (text t) = nothing
as_word (quoted t) = nothing
as_word (list is) = nothing

-- an item as a policy text
unfoldable pub as_quoted : Item → Maybe Bytes
as_quoted (word w) = nothing
as_quoted (whole n) = nothing
as_quoted (text t) = nothing
as_quoted (quoted t) = just t
as_quoted (list is) = nothing

-- the words that are never names
unfoldable pub never_names : List Bytes
never_names = bytes_of "Match" ∷ bytes_of "Where" ∷ bytes_of "AND" ∷ bytes_of "Return" ∷ bytes_of "true" ∷ bytes_of "false" ∷ []

-- a word as a name
unfoldable pub name_of : Bytes → Maybe Name
name_of w = pick (mem w never_names) nothing (just w)

-- an item as a name
unfoldable pub as_name : Item → Maybe Name
as_name i = and_then (as_word i) name_of

-- true, false
unfoldable pub truth_of : Bytes → Maybe Value
truth_of w = pick (same w (bytes_of "true")) (just (bool true)) (pick (same w (bytes_of "false")) (just (bool false)) nothing)

-- an item as a value
unfoldable pub as_value : Item → Maybe Value
as_value (word w) = truth_of w
as_value (whole n) = just (int n)
as_value (text t) = just (str t)
as_value (quoted t) = nothing
as_value (list is) = nothing

-- int, str, bool
unfoldable pub kind_of : Bytes → Maybe Kind
kind_of w =
    pick (same w (bytes_of "int")) (just ints)
    (pick (same w (bytes_of "str")) (just strs)
    (pick (same w (bytes_of "bool")) (just bools) nothing))

-- the first item, by a reading of it, and then the rest
unfoldable pub first : {A B : Type 0} → (Item → Maybe A) → List Item → (A → List Item → Maybe B) → Maybe B
first read [] f = nothing
first read (i ∷ is) f = and_then (read i) (λ a. f a is)

-- nothing is left
unfoldable pub at_end : {A : Type 0} → List Item → A → Maybe A
at_end [] a = just a
at_end (i ∷ is) a = nothing

-- (ATTR VALUE)
unfoldable pub entry_of : Item → Maybe Entry
entry_of i =
    and_then (items_of i) (λ is.
    first as_name is (λ n is.
    first as_value is (λ v is.
    at_end is (record { attr = n; value = v }))))

-- the items of a line that ends in a line feed
unfoldable pub form_of : Line → Maybe (List Item)
form_of l = pick l.ended (line_items l.bytes) nothing
