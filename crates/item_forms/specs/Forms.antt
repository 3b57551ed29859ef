-- Lists of a known form among the items of a form, and where a form opens and closes.
use Rattle.std.specs.Prelude.{ℕ, suc, ◌+◌, Bool, true, false, eqb, Option, Some, None, option_map}
use Rattle.model.specs.Bytes.{Bytes, bytes_of, same}
use Rattle.model.specs.Choice.{pick, Maybe, nothing}
use Rattle.model.specs.Values.{Entry}
use Rattle.model.specs.Request.{Claim}
use Rattle.model.specs.Answers.{name_at, value_of}
use Rattle.model.specs.declared.Part.{Part}
use Rattle.model.specs.declared.Value.{Value}
use Rattle.text.specs.Places.{peek_at, past, is_space}
use Rattle.items.specs.declared.Next.{Next}
use Rattle.items.specs.declared.Next.TheVariants.{Item, Close}
use Rattle.item_forms.specs.declared.EntryParts.{EntryParts}
use Rattle.item_forms.specs.declared.ClaimParts.{ClaimParts}
use Rattle.item_forms.specs.Ends.{ends_after}
use Rattle.item_forms.specs.Pieces.{behind, after_end, item_place, word_next, name_next, value_next, open_next, close_next}

-- an entry and an identity, with the place behind
abbrev pub entry_to : Part → Value → ℕ → EntryParts
entry_to w v q = record { name = w; value = v; next = q }

abbrev pub claim_to : Part → Part → ℕ → ClaimParts
claim_to a n q = record { actor = a; node = n; next = q }

-- the next (ATTR VALUE), step by step
unfoldable pub entry_valued : Bytes → Part → Option (Value × ℕ) → Option (Next EntryParts)
entry_valued s w (Some (v, q)) = after_end (close_next s q) (λ e. Some (Item (entry_to w v e))) None
entry_valued s w None = None

unfoldable pub entry_named : ℕ → Bytes → Option Part → Option (Next EntryParts)
entry_named d s (Some w) = entry_valued s w (value_next d false s (behind w))
entry_named d s None = None

unfoldable pub entry_after : ℕ → Bytes → Option (Next ℕ) → Option (Next EntryParts)
entry_after d s (Some (Item p)) = entry_named d s (item_place (name_next d true s p))
entry_after d s (Some (Close e)) = Some (Close e)
entry_after d s None = None

unfoldable pub entry_next : ℕ → Bytes → ℕ → Option (Next EntryParts)
entry_next d s i = entry_after d s (open_next s i)

-- go on with an entry, or with the closing bracket
unfoldable pub on_entry : {B : Type 0} → Bytes → Option (Next EntryParts) → (Entry → ℕ → Maybe B) → (ℕ → Maybe B) → Maybe B
on_entry s (Some (Item x)) f g = f (record { attr = name_at s x.name; value = value_of s x.value }) x.next
on_entry s (Some (Close e)) f g = g e
on_entry s None f g = nothing

-- where the items of a form begin that opens next, spaces aside
unfoldable pub form_opens : Bytes → ℕ → Option ℕ
form_opens s i = let p = past is_space s i in pick (eqb (peek_at s p) 40) (Some (p + 1)) None

-- a form closes next, and behind it so many lists; nothing else but spaces follows
abbrev pub form_closes : ℕ → Bytes → ℕ → Bool
form_closes closes s i = ends_after (suc closes) s i

-- the two names of an (id ACTOR NODE) behind its first word, step by step
unfoldable pub claim_node : Bytes → Part → Option Part → Option ClaimParts
claim_node s a (Some n) = after_end (close_next s (behind n)) (λ e. Some (claim_to a n e)) None
claim_node s a None = None

unfoldable pub claim_actor : ℕ → Bytes → Option Part → Option ClaimParts
claim_actor d s (Some a) = claim_node s a (item_place (name_next d false s (behind a)))
claim_actor d s None = None

unfoldable pub claim_rest : ℕ → Bytes → ℕ → Option ClaimParts
claim_rest d s i = claim_actor d s (item_place (name_next d false s i))

-- the next (id ACTOR NODE), or the closing bracket
unfoldable pub claim_head : ℕ → Bytes → Option Part → Option (Next ClaimParts)
claim_head d s (Some w) = pick (same (name_at s w) (bytes_of "id")) (option_map Item (claim_rest d s (behind w))) None
claim_head d s None = None

unfoldable pub claim_after : ℕ → Bytes → Option (Next ℕ) → Option (Next ClaimParts)
claim_after d s (Some (Item p)) = claim_head d s (word_next d true s p)
claim_after d s (Some (Close e)) = Some (Close e)
claim_after d s None = None

unfoldable pub claim_next : ℕ → Bytes → ℕ → Option (Next ClaimParts)
claim_next d s i = claim_after d s (open_next s i)

-- go on with an identity, or with the closing bracket
unfoldable pub on_claim : {B : Type 0} → Bytes → Option (Next ClaimParts) → (Claim → ℕ → Maybe B) → (ℕ → Maybe B) → Maybe B
on_claim s (Some (Item x)) f g = f (record { actor = name_at s x.actor; node = name_at s x.node }) x.next
on_claim s (Some (Close e)) f g = g e
on_claim s None f g = nothing
