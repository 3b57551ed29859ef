-- Entries of a loaded book by their numbers, their values, the values of attributes by number, and how many entries are looked at for one.
use Rattle.std.specs.Prelude.{ℕ, zero, suc, ◌+◌, ◌-◌, ◌*◌, ◌/◌, ◌%◌, List, [], eqb, get_or}
use Rattle.model.specs.Bytes.{Bytes}
use Rattle.model.specs.Choice.{pick, Maybe, nothing, just}
use Rattle.model.specs.Values.{Value, Entry}
use Rattle.model.specs.Book.{Book, attr_names}
use Rattle.model.specs.Graph.{value_in, looked_at, node_entries, rel_entries}
use Rattle.book_tables.specs.declared.Owner.{Owner}
use Rattle.book_tables.specs.declared.Owner.TheVariants.{Node, Relationship}
use Rattle.book_tables.specs.Owners.{attrs_of}
use Rattle.book_tables.specs.Layout.{entries}
use Rattle.book_tables.specs.View.{word_at, entry_head, value_in as value_of_words}

-- the first of n entries, from the kth on, that is of an attribute
unfoldable pub seek : List ℕ → ℕ → ℕ → ℕ → Maybe ℕ
seek words attribute k zero = nothing
seek words attribute k (suc n) = let rest = seek words attribute (k + 1) n in pick (eqb (entry_head words k / 4) attribute) (just k) rest

-- how many of n entries, from the kth on, are looked at for what is sought among them: those up to it, or all
unfoldable pub looked_for : ℕ → ℕ → Maybe ℕ → ℕ
looked_for k n nothing = n
looked_for k n (just at) = at + 1 - k

-- the type of an entry, and its two further words
abbrev pub kind_at : List ℕ → ℕ → ℕ
kind_at words k = entry_head words k % 4

abbrev pub first_at : List ℕ → ℕ → ℕ
first_at words k = word_at words (entries + 3 * k + 1)

abbrev pub second_at : List ℕ → ℕ → ℕ
second_at words k = word_at words (entries + 3 * k + 2)

-- the value of an entry
unfoldable pub entry_value : Bytes → List ℕ → ℕ → Value
entry_value text words k = value_of_words text (kind_at words k) (first_at words k) (second_at words k)

-- the value of an entry that may be missing
unfoldable pub maybe_value : Bytes → List ℕ → Maybe ℕ → Maybe Value
maybe_value text words nothing = nothing
maybe_value text words (just k) = just (entry_value text words k)

-- the entries of an owner by its number
abbrev pub entries_of : Owner → Book → ℕ → List Entry
entries_of Node b i = node_entries b i
entries_of Relationship b i = rel_entries b i

-- the value of an owner's attribute, both by their numbers
abbrev pub owner_value : Owner → Book → ℕ → ℕ → Maybe Value
owner_value o b i attribute = value_in (entries_of o b i) (get_or (attr_names (attrs_of o b)) attribute [])

-- how many of an owner's entries are looked at for an attribute, both by their numbers
abbrev pub owner_looked : Owner → Book → ℕ → ℕ → ℕ
owner_looked o b i attribute = looked_at (entries_of o b i) (get_or (attr_names (attrs_of o b)) attribute [])
