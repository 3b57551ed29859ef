-- An accepted request identifies no actor twice, and its actors stand in its text. Assumes nothing.
use Prim.Native.Nat.{ℕ, zero, suc, ◌+◌, ◌-◌, ◌≤◌}
use mathlib.Core.Bool.{Bool, true, false, not, ◌&&◌}
use mathlib.Core.Path.{◌≡◌, refl, subst}
use mathlib.Core.List.{List, [], ◌∷◌, ◌++◌, map}
use native.Mathlib.Omega.{arith}
use lib.ListN.{length, get_or, drop, replicate}
use lib.Dec.{T}
use Rattle.model.specs.Bytes.{Bytes}
use Rattle.model.specs.Choice.{pick, nothing}
use Rattle.model.specs.Graph.{Each}
use Rattle.model.specs.Words.{is_word_byte, run}
use Rattle.model.specs.RequestPlaces.{words_from, no_identity, placed_by, identity_places, slots}
use Rattle.model.specs.declared.Part.{Part}
use Rattle.model.specs.declared.Identity.{Identity as IdentityData}
use Rattle.text.proofs.PlaceLaws.{run_length}
use Rattle.model.specs.Names.{twice, place}
use Rattle.model.specs.Refusal.{accepted}
use Rattle.model.specs.Book.{Book, node_names}
use Rattle.model.specs.Rules.{Rules}
use Rattle.model.specs.Request.{Claim, Identity, Request, RequestLine, request_fault, request_of, read_request}
use Rattle.model.proofs.Places.{map_to}
use Rattle.model.proofs.Outcomes.{no_fault}
use Rattle.model.proofs.AcceptedRequest.{request_accepted}

-- an accepted request identifies no actor twice
pub identified_once : (b : Book) (r : Rules) (s : Bytes) (x : Request) → read_request b r s ≡ accepted x → T (twice (map (λ i. i.actor) x.identities)) → ⊥
unfolding request_fault request_of
identified_once b r s x e = subst (λ (z : Request). T (twice (map (λ (i : Identity). i.actor) z.identities)) → ⊥)
    (request_accepted b r s x e).is_request (of_line (request_accepted b r s x e).line (request_accepted b r s x e).faultless)
  where
    of_line : (z : RequestLine) → request_fault b r z ≡ nothing → T (twice (map (λ (i : Identity). i.actor) (request_of b z).identities)) → ⊥
    of_line z f t =
        let identity : Claim → Identity = λ c. record { actor = c.actor; node = place c.node (node_names b) } in
        ((no_fault _).0 f).1.0 (subst (λ ws. T (twice ws)) (map_to (λ (i : Identity). i.actor) identity (λ (c : Claim). c.actor) z.claims (λ c i. refl)) t)

-- what holds of each element, and of what stands past the end, holds at every place; so does it with more of the latter behind
module _ {A : Type 0} (P : A → Type 0) (d : A) (past : P d) where
  at_each : (l : List A) → Each P l → (i : ℕ) → P (get_or l i d)
  at_each [] h i = past
  at_each (x ∷ l) h zero = h.0
  at_each (x ∷ l) h (suc i) = at_each l h.1 i

  each_left : (n : ℕ) (l : List A) → Each P l → Each P (drop n l)
  each_left zero l h = h
  each_left (suc n) [] h = tt
  each_left (suc n) (x ∷ l) h = each_left n l h.1

  each_filled : (l : List A) (n : ℕ) → Each P l → Each P (l ++ replicate n d)
  each_filled [] zero h = tt
  each_filled [] (suc n) h = (past, each_filled [] n tt)
  each_filled (x ∷ l) n h = (h.0, each_filled l n h.1)

-- the words of a text end inside it, and so do the actors that are placed by them
abbrev pub PartEnds : ℕ → Part → Type 0
PartEnds n p = p.start + p.length ≤ n

words_end : (inside : Bool) (at : ℕ) (s : Bytes) → Each (PartEnds (at + length s)) (words_from inside at s)
unfolding words_from
words_end inside at [] = tt
words_end inside at (b ∷ s) =
    let e : at + 1 + length s ≡ at + suc (length s) = omega arith in
    go (is_word_byte b && not inside)
    (subst (λ n. Each (PartEnds n) (words_from (is_word_byte b) (at + 1) s)) e (words_end (is_word_byte b) (at + 1) s))
  where
    go : (t : Bool) → Each (PartEnds (at + suc (length s))) (words_from (is_word_byte b) (at + 1) s)
        → Each (PartEnds (at + suc (length s))) (pick t (record { start = at; length = length (run is_word_byte (b ∷ s)) }
        ∷ words_from (is_word_byte b) (at + 1) s) (words_from (is_word_byte b) (at + 1) s))
    go true h = (omega (arith, run_length is_word_byte (b ∷ s)), h)
    go false h = h

placed_end : (n : ℕ) (words : List Part) (is : List Identity) → Each (PartEnds n) words
    → Each (λ (x : IdentityData). PartEnds n x.actor) (placed_by words is)
unfolding placed_by
placed_end n words [] h = tt
placed_end n words (i ∷ is) h = (
  at_each (PartEnds n) no_identity.actor (omega arith) words h 1,
  placed_end n (drop 3 words) is (each_left (PartEnds n) no_identity.actor (omega arith) 3 words h),
)

pub actor_inside : (text : Bytes) (is : List Identity) (i : ℕ) → PartEnds (length text) (get_or (slots (identity_places text is)) i no_identity).actor
unfolding slots identity_places
actor_inside text is i =
    let e : 0 + length text ≡ length text = omega arith in
    let words = subst (λ n. Each (PartEnds n) (words_from false 0 text)) e (words_end false 0 text) in
    let left = each_left (PartEnds (length text)) no_identity.actor (omega arith) 2 (words_from false 0 text) words in
    let placed = placed_end (length text) (drop 2 (words_from false 0 text)) is left in
    let is_placed : List IdentityData = placed_by (drop 2 (words_from false 0 text)) is in
    at_each (λ (x : IdentityData). PartEnds (length text) x.actor) no_identity (omega arith) (is_placed ++ replicate (8 - length is_placed) no_identity)
    (each_filled (λ (x : IdentityData). PartEnds (length text) x.actor) no_identity (omega arith) is_placed (8 - length is_placed) placed) i
