-- The next piece of a list or form by its place, and going on with it.
use Rattle.std.specs.Prelude.{ℕ, ◌+◌, ◌-◌, Bool, true, false, not, drop, eqb, Option, Some, None, option_and_then}
use Rattle.model.specs.Bytes.{Bytes, bytes_of, same}
use Rattle.model.specs.Choice.{pick, Maybe, nothing}
use Rattle.model.specs.Names.{mem}
use Rattle.model.specs.Words.{is_letter, word_at}
use Rattle.model.specs.Items.{item_at}
use Rattle.model.specs.Values as values
use Rattle.model.specs.Forms.{never_names}
use Rattle.model.specs.Answers.{part_of, name_at, value_of}
use Rattle.model.specs.declared.Part.{Part}
use Rattle.model.specs.declared.Value.{Value}
use Rattle.model.specs.declared.Value.TheVariants as value
use Rattle.text.specs.Places.{peek_at, end_of}
use Rattle.items.specs.declared.ItemEnd.{ItemEnd}
use Rattle.items.specs.declared.ItemEnd.TheVariants.{Word, Number, Text, Quoted, List}
use Rattle.items.specs.declared.Next.{Next}
use Rattle.items.specs.declared.Next.TheVariants.{Item, Close}
use Rattle.items.specs.Reads.{quoted_in, item_in, read_of, next_at}

-- the part of a text from a place to another, and the place behind a part
abbrev pub from_to : ℕ → ℕ → Part
from_to p q = record { start = p; length = q - p }

abbrev pub behind : Part → ℕ
behind w = w.start + w.length

-- the place of an item that follows, or where a name that was read stands
abbrev pub item_place : {T : Type 0} → Option (Next T) → Option T
item_place n = option_and_then item_in n

-- the end of an item, if it is a word or if it is a policy text
abbrev pub word_end : Option ItemEnd → Option ℕ
word_end (Some (Word q)) = Some q
word_end (Some (Number n q)) = None
word_end (Some (Text q)) = None
word_end (Some (Quoted q)) = None
word_end (Some (List q)) = None
word_end None = None

abbrev pub quoted_end : Option ItemEnd → Option ℕ
quoted_end r = option_and_then quoted_in r

-- the end of the word at a place, where a letter stands
unfoldable pub word_of : Bytes → ℕ → Option ℕ
word_of s p = pick (is_letter (peek_at s p)) (end_of p (word_at (drop p s))) None

-- f of an end, or x
unfoldable pub after_end : {A : Type 0} → Option ℕ → (ℕ → A) → A → A
after_end (Some q) f x = f q
after_end None f x = x

-- an item at a place as a word, or as what stands between the quotes of a policy text
unfoldable pub word_piece : ℕ → Option ItemEnd → Option Part
word_piece p r = after_end (word_end r) (λ q. Some (from_to p q)) None

unfoldable pub quoted_piece : ℕ → Option ItemEnd → Option Part
quoted_piece p r = after_end (quoted_end r) (λ q. Some (record { start = p + 1; length = q - p - 2 })) None

-- a word as a name
unfoldable pub name_piece : Bytes → Option Part → Option (Next Part)
name_piece s (Some w) = pick (not (mem (name_at s w) never_names)) (Some (Item w)) None
name_piece s None = None

-- a word as a truth value
unfoldable pub truth_piece : Bytes → ℕ → ℕ → Option (Value × ℕ)
truth_piece s p q =
    pick (same (part_of s p (q - p)) (bytes_of "true")) (Some (value.Truth true, q))
    (pick (same (part_of s p (q - p)) (bytes_of "false")) (Some (value.Truth false, q)) None)

-- an item at a place as a value
unfoldable pub value_piece : Bytes → ℕ → Option ItemEnd → Option (Value × ℕ)
value_piece s p (Some (Word q)) = truth_piece s p q
value_piece s p (Some (Number n q)) = Some (value.Number n, q)
value_piece s p (Some (Text q)) = Some (value.Text (p + 1) (q - p - 2), q)
value_piece s p (Some (Quoted q)) = None
value_piece s p (Some (List q)) = None
value_piece s p None = None

-- the item at a place, where d lists may still be opened
abbrev pub read_at : ℕ → Bytes → ℕ → Option ItemEnd
read_at d s p = read_of p (item_at d (drop p s))

-- the next piece of a list from a place on
unfoldable pub word_next : ℕ → Bool → Bytes → ℕ → Option Part
word_next d free s i = after_end (item_place (next_at free s i)) (λ p. word_piece p (read_at d s p)) None

unfoldable pub quoted_next : ℕ → Bool → Bytes → ℕ → Option Part
quoted_next d free s i = after_end (item_place (next_at free s i)) (λ p. quoted_piece p (read_at d s p)) None

unfoldable pub name_after : ℕ → Bytes → Option (Next ℕ) → Option (Next Part)
name_after d s (Some (Item p)) = name_piece s (word_piece p (read_at d s p))
name_after d s (Some (Close e)) = Some (Close e)
name_after d s None = None

unfoldable pub name_next : ℕ → Bool → Bytes → ℕ → Option (Next Part)
name_next d free s i = name_after d s (next_at free s i)

unfoldable pub value_next : ℕ → Bool → Bytes → ℕ → Option (Value × ℕ)
value_next d free s i = after_end (item_place (next_at free s i)) (λ p. value_piece s p (read_at d s p)) None

-- where the items of the next item begin, if it is a list; or the closing bracket
unfoldable pub open_after : Bytes → Option (Next ℕ) → Option (Next ℕ)
open_after s (Some (Item p)) = pick (eqb (peek_at s p) 40) (Some (Item (p + 1))) None
open_after s (Some (Close e)) = Some (Close e)
open_after s None = None

unfoldable pub open_next : Bytes → ℕ → Option (Next ℕ)
open_next s i = open_after s (next_at true s i)

-- the place behind the closing bracket, if it comes next
unfoldable pub close_after : Option (Next ℕ) → Option ℕ
close_after (Some (Item p)) = None
close_after (Some (Close e)) = Some e
close_after None = None

unfoldable pub close_next : Bytes → ℕ → Option ℕ
close_next s i = close_after (next_at true s i)

-- go on with a piece, with a name or the closing bracket, with a value, with an end
unfoldable pub on_piece : {B : Type 0} → Option Part → (Part → Maybe B) → Maybe B
on_piece (Some w) f = f w
on_piece None f = nothing

unfoldable pub on_name : {B : Type 0} → Bytes → Option (Next Part) → (Bytes → ℕ → Maybe B) → (ℕ → Maybe B) → Maybe B
on_name s (Some (Item w)) f g = f (name_at s w) (behind w)
on_name s (Some (Close e)) f g = g e
on_name s None f g = nothing

unfoldable pub on_value : {B : Type 0} → Bytes → Option (Value × ℕ) → (values.Value → ℕ → Maybe B) → Maybe B
on_value s (Some (v, q)) f = f (value_of s v) q
on_value s None f = nothing

unfoldable pub on_place : {B : Type 0} → Option ℕ → (ℕ → Maybe B) → Maybe B
on_place (Some q) f = f q
on_place None f = nothing
