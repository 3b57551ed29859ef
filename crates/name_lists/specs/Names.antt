-- The names of a list from a place on, and the list that a head word begins.
use Rattle.std.specs.Prelude.{ℕ, ◌≡◌, List, ◌∷◌, true, false, Option, Some, None}
use Rattle.model.specs.Bytes.{Bytes, same}
use Rattle.model.specs.Choice.{pick, Maybe, nothing, just, and_then}
use Rattle.model.specs.Lists.{each}
use Rattle.model.specs.Forms.{as_name}
use Rattle.model.specs.Answers.{name_at}
use Rattle.model.specs.declared.Part.{Part}
use Rattle.items.specs.Rest.{rest_at}
use Rattle.item_forms.specs.Pieces.{behind, item_place, after_end, word_next, open_next}

-- the names of a list, and the place behind it
pub record NamesRead : Type 0 where
  pub names : List Bytes
  pub end : ℕ

-- the names of a list of a line, from the place i behind a word on
unfoldable pub names_behind : Bytes → ℕ → Maybe NamesRead
names_behind s i = rest_at 2 false i s (λ e is. and_then (each as_name is) (λ ns. just (record { names = ns; end = e })))

-- one name more in front
unfoldable pub one_more : Bytes → Maybe NamesRead → Maybe NamesRead
one_more n o = and_then o (λ x. just (record { names = n ∷ x.names; end = x.end }))

-- the place behind names that were read
unfoldable pub names_end : Maybe NamesRead → Option ℕ
names_end nothing = None
names_end (just x) = Some x.end

-- the place behind a word, if it is the head
unfoldable pub head_piece : Bytes → Bytes → Option Part → Option ℕ
head_piece head s (Some w) = pick (same (name_at s w) head) (Some (behind w)) None
head_piece head s None = None

-- the place behind the head of the list that follows
unfoldable pub headed_at : Bytes → Bytes → ℕ → Option ℕ
headed_at head s i = after_end (item_place (open_next s i)) (λ p. head_piece head s (word_next 2 true s p)) None

-- what f says of the names from one place on, g says of those from another on
abbrev pub Left : {A : Type 0} → (List Bytes → A) → (List Bytes → A) → Bytes → ℕ → ℕ → Type 0
Left f g s from i = (x : NamesRead) → names_behind s from ≡ just x → (y : NamesRead) × (names_behind s i ≡ just y) × (f x.names ≡ g y.names)
