-- The rest of a list from a place on, and what is made of its end and its items. Reading an item only moves the place.
use Rattle.std.specs.Prelude.{ℕ, ◌+◌, List, Bool, drop, Option, Some, None}
use Rattle.model.specs.Bytes.{Bytes}
use Rattle.model.specs.Choice.{Maybe, nothing, just, and_then}
use Rattle.model.specs.Words.{Got}
use Rattle.model.specs.Items.{Item, list_at, item_at, item_list}
use Rattle.items.specs.declared.Next.{Next}
use Rattle.items.specs.declared.Next.TheVariants.{Item as ItemAt, Close}

-- the rest of a list from the place i on, in which d lists may still be opened: f of the place behind it and of its items
unfoldable pub rest_at : {B : Type 0} → ℕ → Bool → ℕ → Bytes → (ℕ → List Item → Maybe B) → Maybe B
rest_at d free i s f = and_then (list_at (item_at d) free 0 (drop i s)) (λ g. f (i + g.size) (item_list g.got))

-- go on by what follows in a list: with an item's place, or with the place behind the closing bracket
unfoldable pub on_next : {B : Type 0} → Option (Next ℕ) → (ℕ → Maybe B) → (ℕ → Maybe B) → Maybe B
on_next (Some (ItemAt p)) item close = item p
on_next (Some (Close e)) item close = close e
on_next None item close = nothing

-- go on with an item that was read at a place, and with the place behind it
unfoldable pub on_item : {B : Type 0} → ℕ → Maybe (Got Item) → (Item → ℕ → Maybe B) → Maybe B
on_item p nothing f = nothing
on_item p (just g) f = f g.got (p + g.size)
