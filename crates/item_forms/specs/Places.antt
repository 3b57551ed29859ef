-- Where a word, a name, a policy text or an entry that follows stands: inside the text, behind the place it is read from; a word has at most 24 bytes.
use Rattle.std.specs.Prelude.{ℕ, ◌+◌, ◌≤◌, ◌<◌, ◌≡◌, Bool, false, length, Option, Some, None}
use Rattle.model.specs.Bytes.{Bytes}
use Rattle.model.specs.declared.Part.{Part}
use Rattle.model.specs.declared.Value.{Value}
use Rattle.model.specs.declared.Value.TheVariants.{Number, Text, Truth}
use Rattle.text.specs.Parts.{HasPart}
use Rattle.items.specs.declared.Next.{Next}
use Rattle.items.specs.declared.Next.TheVariants.{Item, Close}
use Rattle.item_forms.specs.declared.EntryParts.{EntryParts}
use Rattle.item_forms.specs.Pieces.{behind, word_next, quoted_next, name_next, item_place}
use Rattle.item_forms.specs.Forms.{entry_next}

-- a word, behind the place i
pub record WordPlaces (s : Bytes) (i : ℕ) (w : Part) : Type 0 where
  pub after : i ≤ w.start
  pub some : 0 < w.length
  pub inside : HasPart s w
  pub short : w.length ≤ 24

-- the same of a piece that was read, if one was
abbrev pub Placed : Bytes → ℕ → Option Part → Type 0
Placed s i (Some w) = WordPlaces s i w
Placed s i None = Unit {0}

-- the word that follows, and where it stands
pub record NextWord (d : ℕ) (free : Bool) (s : Bytes) (i : ℕ) (r : Option Part) : Type 0 where
  pub is : r ≡ word_next d free s i
  pub placed : Placed s i r

-- the name that follows behind a word, and where it stands
pub record NextName (d : ℕ) (s : Bytes) (i : ℕ) (r : Option Part) : Type 0 where
  pub is : r ≡ item_place (name_next d false s i)
  pub placed : Placed s i r

-- what stands between the quotes of a policy text that was read ends before the text does
abbrev pub QuotedPlaced : Bytes → Option Part → Type 0
QuotedPlaced s (Some w) = behind w < length s
QuotedPlaced s None = Unit {0}

-- the policy text that follows behind a word, and where it stands
pub record NextQuoted (d : ℕ) (s : Bytes) (i : ℕ) (r : Option Part) : Type 0 where
  pub is : r ≡ quoted_next d false s i
  pub placed : QuotedPlaced s r

-- a text value stands inside the text
abbrev pub ValueInside : Bytes → Value → Type 0
ValueInside s (Number n) = Unit {0}
ValueInside s (Text start size) = start + size ≤ length s
ValueInside s (Truth t) = Unit {0}

-- an entry behind the place i: its name, its value, the place q behind it
pub record EntryPlaces (s : Bytes) (i : ℕ) (w : Part) (v : Value) (q : ℕ) : Type 0 where
  pub inside : HasPart s w
  pub ends : ValueInside s v
  pub behind : i < q
  pub next : q ≤ length s

-- the same of an entry that was read, if one was
abbrev pub EntryPlaced : Bytes → ℕ → Option (Next EntryParts) → Type 0
EntryPlaced s i (Some (Item x)) = EntryPlaces s i x.name x.value x.next
EntryPlaced s i (Some (Close e)) = Unit {0}
EntryPlaced s i None = Unit {0}

-- the entry that follows, and where it stands
pub record NextEntry (d : ℕ) (s : Bytes) (i : ℕ) (r : Option (Next EntryParts)) : Type 0 where
  pub is : r ≡ entry_next d s i
  pub placed : EntryPlaced s i r
