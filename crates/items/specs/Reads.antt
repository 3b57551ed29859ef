-- What stands at a place of a text: an item with its kind and end, or what follows in a list.
use Rattle.std.specs.Prelude.{ℕ, zero, suc, ◌+◌, ◌-◌, Bool, true, ◌||◌, drop, ltb, eqb, Option, Some, None, option_map}
use Rattle.model.specs.Bytes.{Bytes}
use Rattle.model.specs.Choice.{pick, Maybe, nothing, just}
use Rattle.model.specs.Words.{Got}
use Rattle.model.specs.Items.{Item, word, whole, text, quoted, list, Items, none, list_at, item_at}
use Rattle.model.specs.Answers.{part_of}
use Rattle.text.specs.Places.{peek_at, past, is_space, end_of}
use Rattle.items.specs.declared.ItemEnd.{ItemEnd}
use Rattle.items.specs.declared.ItemEnd.TheVariants.{Word, Number, Text, Quoted, List}
use Rattle.items.specs.declared.Next.{Next}
use Rattle.items.specs.declared.Next.TheVariants.{Item as ItemAt, Close}

-- where an item ends
abbrev pub end_in : ItemEnd → ℕ
end_in (Word q) = q
end_in (Number n q) = q
end_in (Text q) = q
end_in (Quoted q) = q
end_in (List q) = q

-- where an item ends, if it is a policy text
abbrev pub quoted_in : ItemEnd → Option ℕ
quoted_in (Word q) = None
quoted_in (Number n q) = None
quoted_in (Text q) = None
quoted_in (Quoted q) = Some q
quoted_in (List q) = None

-- the item that follows, if one does
abbrev pub item_in : {T : Type 0} → Next T → Option T
item_in (ItemAt x) = Some x
item_in (Close e) = None

-- the end of an item that was read
abbrev pub end_read : Option ItemEnd → Option ℕ
end_read r = option_map end_in r

-- an item that ends at a place, by its kind
unfoldable pub kind_at : Item → ℕ → ItemEnd
kind_at (word w) q = Word q
kind_at (whole n) q = Number n q
kind_at (text t) q = Text q
kind_at (quoted t) q = Quoted q
kind_at (list is) q = List q

-- what was read at a place
unfoldable pub read_of : ℕ → Maybe (Got Item) → Option ItemEnd
read_of at nothing = None
read_of at (just g) = Some (kind_at g.got (at + g.size))

-- what follows in a list from a place on; `free`: a bracket or a space stands before the place
unfoldable pub next_at : Bool → Bytes → ℕ → Option (Next ℕ)
next_at free s i =
    let p = past is_space s i in
    pick (eqb (peek_at s p) 41) (Some (Close (p + 1))) (pick (ltb i p) (Some (ItemAt p)) (pick (free || eqb (peek_at s p) 40) (Some (ItemAt p)) None))

-- the place behind the list whose items stand from a place on, in which d lists may still be opened
abbrev pub list_end : ℕ → Bool → Bytes → ℕ → Option ℕ
list_end d free s i = end_of i (list_at (item_at d) free 0 (drop i s))

-- the items that were read, or none
unfoldable pub items_or : Maybe (Got Items) → Items
items_or nothing = none
items_or (just g) = g.got

-- the items of the list that opens at a place
unfoldable pub inside_at : ℕ → Bytes → ℕ → Items
inside_at zero s p = none
inside_at (suc d) s p = items_or (list_at (item_at d) true 0 (drop (p + 1) s))

-- the item that an answer tells of, at the place p
unfoldable pub item_to : ℕ → Bytes → ℕ → Option ItemEnd → Maybe (Got Item)
item_to d s p (Some (Word q)) = just (record { got = word (part_of s p (q - p)); size = q - p })
item_to d s p (Some (Number n q)) = just (record { got = whole n; size = q - p })
item_to d s p (Some (Text q)) = just (record { got = text (part_of s (p + 1) (q - p - 2)); size = q - p })
item_to d s p (Some (Quoted q)) = just (record { got = quoted (part_of s (p + 1) (q - p - 2)); size = q - p })
item_to d s p (Some (List q)) = just (record { got = list (inside_at d s p); size = q - p })
item_to d s p None = nothing
