-- Items of the bracket texts: a word, a whole number, a text value, a policy text, or a list. Lists nest to depth 4; a line is one list.
use Rattle.std.specs.Prelude.{ℕ, zero, suc, ◌+◌, ◌-◌, List, [], ◌∷◌, Bool, true, false, ◌||◌, length, drop, eqb}
use Rattle.model.specs.Bytes.{Bytes}
use Rattle.model.specs.Choice.{pick, Maybe, nothing, just, and_then}
use Rattle.model.specs.Lists.{all}
use Rattle.model.specs.Words.{Got, is_letter, is_digit, run, word_at, whole_at, text_at, quoted_at, read_as}

-- word: a word; whole: a whole number, kept as z + 2^63; text: a text value; quoted: a policy text
mutual
  pub data Item : Type 0 where
    word : Bytes → Item
    whole : ℕ → Item
    text : Bytes → Item
    quoted : Bytes → Item
    list : Items → Item

  pub data Items : Type 0 where
    none : Items
    more : Item → Items → Items

-- an item that is no list
unfoldable pub plain_at : Bytes → Maybe (Got Item)
plain_at [] = nothing
plain_at (b ∷ s) =
    pick (is_letter b) (read_as word (word_at (b ∷ s)))
    (pick (is_digit b || eqb b 45) (read_as whole (whole_at (b ∷ s)))
    (pick (eqb b 39) (read_as text (text_at s))
    (pick (eqb b 34) (read_as quoted (quoted_at s)) nothing)))

-- an item that ends in a bracket
unfoldable pub is_list : Item → Bool
is_list (word w) = false
is_list (whole n) = false
is_list (text t) = false
is_list (quoted t) = false
is_list (list is) = true

-- one byte more before what was read
unfoldable pub onward : Maybe (Got Items) → Maybe (Got Items)
onward nothing = nothing
onward (just g) = just (record { got = g.got; size = g.size + 1 })

-- one byte more before what was read: the first byte of an item that stands before it
unfoldable pub onward_with : Item → Maybe (Got Items) → Maybe (Got Items)
onward_with i nothing = nothing
onward_with i (just g) = just (record { got = more i g.got; size = g.size + 1 })

-- the items of a list up to its closing bracket. `free`: a bracket or a space stands before, so that an item may begin.
-- An item is read at its first byte; its other bytes, k of which are still to come, are then passed one by one.
unfoldable pub list_at : (Bytes → Maybe (Got Item)) → Bool → ℕ → Bytes → Maybe (Got Items)
list_at read free k [] = nothing
list_at read free (suc k) (b ∷ s) = onward (list_at read free k s)
list_at read free zero (b ∷ s) =
    let space = onward (list_at read true 0 s) in
    let item = and_then (read (b ∷ s)) (λ g. onward_with g.got (list_at read (is_list g.got) (g.size - 1) s)) in
    pick (eqb b 32) space (pick (eqb b 41) (just (record { got = none; size = 1 })) (pick (free || eqb b 40) item nothing))

-- the items as one item, with its opening bracket
unfoldable pub as_list : Maybe (Got Items) → Maybe (Got Item)
as_list nothing = nothing
as_list (just g) = just (record { got = list g.got; size = g.size + 1 })

-- an opening bracket is at the front
unfoldable pub opens : Bytes → Bool
opens [] = false
opens (b ∷ s) = eqb b 40

-- the item at the front, where d lists may still be opened
unfoldable pub item_at : ℕ → Bytes → Maybe (Got Item)
item_at zero s = pick (opens s) nothing (plain_at s)
item_at (suc d) s = let inner = as_list (list_at (item_at d) true 0 (drop 1 s)) in pick (opens s) inner (plain_at s)

-- the items as a list
unfoldable pub item_list : Items → List Item
item_list none = []
item_list (more i is) = i ∷ item_list is

-- what stands in an item that is a list
unfoldable pub items_of : Item → Maybe (List Item)
items_of (word w) = nothing
items_of (whole n) = nothing
items_of (text t) = nothing
items_of (quoted t) = nothing
items_of (list is) = just (item_list is)

-- the items of the one list that a line is, spaces at either end left out
unfoldable pub line_items : Bytes → Maybe (List Item)
line_items s =
    let t = drop (length (run (λ b. eqb b 32) s)) s in
    and_then (item_at 4 t) (λ g. pick (all (λ b. eqb b 32) (drop g.size t)) (items_of g.got) nothing)
