-- The rest of a form, and its end: behind it stand the ends of the lists that it stands in, and nothing else.
use Rattle.std.specs.Prelude.{ℕ, zero, suc, List, Bool, false, drop}
use Rattle.model.specs.Bytes.{Bytes}
use Rattle.model.specs.Choice.{pick, Maybe, nothing}
use Rattle.model.specs.Lists.{all}
use Rattle.model.specs.Items.{Item}
use Rattle.text.specs.Places.{is_space}
use Rattle.items.specs.Rest.{rest_at}
use Rattle.item_forms.specs.declared.Form.{Form}
use Rattle.item_forms.specs.Pieces.{after_end, close_next}

-- nothing but spaces from a place on
unfoldable pub spaces_from : Bytes → ℕ → Bool
spaces_from s i = all is_space (drop i s)

-- from a place on so many lists close, and nothing else but spaces stands there
unfoldable pub ends_after : ℕ → Bytes → ℕ → Bool
ends_after zero s i = spaces_from s i
ends_after (suc k) s i = after_end (close_next s i) (λ e. ends_after k s e) false

-- how many lists may be opened in a form, and whether nothing follows its end but the ends of the lists that it stands in
abbrev pub form_depth : Form → ℕ
form_depth form = suc form.inner

abbrev pub form_ends : Form → Bytes → ℕ → Bool
form_ends form s e = ends_after form.closes s e

-- the rest of a form, with nothing else behind it
unfoldable pub form_at : {B : Type 0} → Form → Bool → ℕ → Bytes → (List Item → Maybe B) → Maybe B
form_at form free i s f = rest_at (form_depth form) free i s (λ e is. pick (form_ends form s e) (f is) nothing)

-- the one list of a line: "lists nest to depth 4", and it stands in no list
abbrev pub line_form : Form
line_form = record { inner = 2; closes = 0 }

-- the rest of the one list of a line
abbrev pub line_at : {B : Type 0} → Bool → ℕ → Bytes → (List Item → Maybe B) → Maybe B
line_at free i s f = form_at line_form free i s f
