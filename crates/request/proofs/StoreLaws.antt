-- The identities stored one after another.
use Prim.Native.Nat.{ℕ, suc, ◌+◌, ◌-◌, ◌≤◌, ◌<◌}
use mathlib.Core.Path.{◌≡◌, refl, sym, ap, subst, ◌∙◌}
use mathlib.Core.List.{List, [], ◌∷◌, ◌++◌, map, append-nil, append_assoc}
use mathlib.Core.Bool.{Bool, true, false}
use native.Mathlib.Omega.{arith}
use native.Mathlib.Numerals.{add-one}
use lib.ListN.{length, get_or, set, take, drop, replicate, take-append-drop, length-append, length-set, length-map}
use lib.Seq.{take-suc-set, drop-set-lt, drop-drop, get_or-set_same, get_or-set_other}
use mathlib.Core.Logic.{◌≢◌}
use Rattle.std.specs.Prelude.{None, Some, Result, Ok, Err}
use Rattle.logic.specs.Tests.{either, equal_or_not}
use Rattle.model.specs.Bytes.{Bytes}
use Rattle.model.specs.Choice.{nothing, just}
use Rattle.model.specs.Lists.{any}
use Rattle.model.specs.Names.{mem, twice, place}
use Rattle.model.specs.Book.{Book, node_names}
use Rattle.model.specs.Request.{Claim, Identity}
use Rattle.model.specs.Answers.{part_of, name_at, identity_in}
use Rattle.model.specs.RequestPlaces.{no_identity, placed_by, slots}
use Rattle.model.specs.declared.Part.{Part}
use Rattle.model.specs.declared.Identity.{Identity as IdentityData}
use Rattle.text.specs.Parts.{HasPart}
use Rattle.text.proofs.PlaceLaws.{part_in_part}
use Rattle.item_forms.specs.Forms.{claim_next}
use Rattle.model.proofs.Places.{map_append}
use Rattle.book_tables.proofs.MemberLaws.{twice_end}
use Rattle.name_lists.proofs.Again.{again, twice_again}
use Rattle.book_tables.specs.Listed.{listed}
use Rattle.book_tables.proofs.ListedLaws.{listed_more, listed_same, map_end}
use Rattle.book_tables.specs.declared.BookCounts.{BookCounts}
use Rattle.book_tables.specs.View.{book_at}
use Rattle.rules_tables.specs.declared.RulesCounts.{RulesCounts}
use Rattle.request.specs.declared.Identities.{Identities}
use Rattle.request.specs.Claims.{words_at, claims_from, actors_in, is_unknown, ClaimPlaces, claim_of_places, claim_at, claim_on}
use Rattle.request.specs.Faults.{FaultTold}
use Rattle.request.specs.Stored.{no_identities, numbered, ClaimsAsked, actor_names, InsideAll, ClaimsStored, ClaimsTold}
use Rattle.request.proofs.PlaceLaws.{claim_words}
use Rattle.request.proofs.ClaimLaws.{claim_step, claims_done, claims_over}
use Rattle.request.proofs.FaultLaws.{any_none, any_found, any_other, any_behind, few_claims}

-- as many are placed as there are
pub placed_length : (words : List Part) (is : List Identity) → length (placed_by words is) ≡ length is
unfolding placed_by
placed_length words [] = refl
placed_length words (i ∷ is) = ap suc (placed_length (drop 3 words) is)

-- the first of identities is placed by its own words
placed_first : (words behind : List Part) (actor : Part) (n : ℕ) (i : Identity) (is : List Identity) → get_or words 1 no_identity.actor ≡ actor
    → n ≡ i.node → drop 3 words ≡ behind
    → record { actor = actor; node = n } ∷ placed_by behind is ≡ placed_by words (i ∷ is)
unfolding placed_by
placed_first words behind actor n i is e f g = λ t. record { actor = sym e t; node = f t } ∷ placed_by (sym g t) is

-- the slots of an array whose first ones are known, the others holding none
slots_filled : (list given : List IdentityData) (count : ℕ) → take count list ≡ given → drop count list ≡ replicate (8 - count) no_identity
    → count ≡ length given → list ≡ slots given
unfolding slots
slots_filled list given count e f g = sym (take-append-drop count list) ∙ (λ t. e t ++ f t) ∙ ap (λ (n : ℕ). given ++ replicate (8 - n) no_identity) g

-- one slot less is left
one_less : (list : List IdentityData) (count : ℕ) (x : IdentityData) → count < 8 → drop count list ≡ replicate (8 - count) no_identity
    → drop (count + 1) (set list count x) ≡ replicate (8 - (count + 1)) no_identity
one_less list count x l e =
    let z : 8 - count ≡ suc (8 - (count + 1)) = omega arith in
    drop-set-lt (count + 1) list count x (omega arith) ∙ sym (drop-drop 1 count list) ∙ ap (drop 1) (e ∙ ap (λ (n : ℕ). replicate n no_identity) z)

-- the identities before the place i stand in the array, none of them unknown, no actor twice; those from it on are left
pub record Storing (b : Book) (nodes : ℕ) (actors : List Bytes) (s : Bytes) (from : ℕ) (list : List IdentityData) (count i : ℕ) : Type 0 where
  pub done : List Claim
  pub rest : List Claim
  pub whole : claims_from s from ≡ just (done ++ rest)
  pub left : claims_from s i ≡ just rest
  pub known : any (is_unknown actors (node_names b)) done ≡ false
  pub once : twice (actors_in done) ≡ false
  pub counted : count ≡ length done
  pub size : length list ≡ 8
  pub named : actor_names s list count ≡ actors_in done
  pub inside : InsideAll s list count
  pub is : (text : Bytes) → part_of text 0 (length s) ≡ s → map (identity_in text) (take count list) ≡ map (numbered b) done
  pub below : (j : ℕ) → j < count → (get_or list j no_identity).node < nodes
  pub places : take count list ++ placed_by (words_at s i) (map (numbered b) rest) ≡ placed_by (words_at s from) (map (numbered b) (done ++ rest))
  pub past : drop count list ≡ replicate (8 - count) no_identity

pub storing_start : (b : Book) (nodes : ℕ) (actors : List Bytes) (s : Bytes) (from : ℕ) → ClaimsAsked s from
    → Storing b nodes actors s from no_identities 0 from
unfolding any twice listed
storing_start b nodes actors s from a = record {
  done = [];
  rest = a.claims;
  whole = a.are;
  left = a.are;
  known = refl;
  once = refl;
  counted = refl;
  size = refl;
  named = refl;
  inside = λ j l. absurd (omega arith);
  is = λ text e. refl;
  below = λ j l. absurd (omega arith);
  places = refl;
  past = refl;
}

module _ {b : Book} {nodes : ℕ} {actors : List Bytes} {s : Bytes} {from : ℕ} {list : List IdentityData} {count i : ℕ}
    (h : Storing b nodes actors s from list count i) where
  -- an identity of an actor or a node that is none
  abbrev unknown : Claim → Bool
  unknown = is_unknown actors (node_names b)

  -- the identities of the line are these
  all_of : (xs : List Claim) → claims_from s from ≡ just xs → h.done ++ h.rest ≡ xs
  all_of xs d = let w : just (h.done ++ h.rest) ≡ just xs = sym h.whole ∙ d in cc

  left_unknown : (xs : List Claim) → claims_from s from ≡ just xs → any unknown xs ≡ any unknown h.rest
  left_unknown xs d = ap (any unknown) (sym (all_of xs d)) ∙ any_behind unknown h.done h.rest h.known

  pub count_few : length actors ≤ 8 → count ≤ 8
  count_few l = omega (arith, few_claims actors (node_names b) h.done h.known h.once, h.counted)

  module _ (a x : Part) (e : ℕ) (n : Some (claim_of_places a x e) ≡ claim_at (claim_next 2 s i)) where
    -- the next identity, and those behind it
    next : (ys : List Claim) × (claims_from s e ≡ just ys) × (h.rest ≡ claim_on s a x ∷ ys)
    next = claim_step s i h.rest a x e n h.left

    pub unknown_here : unknown (claim_on s a x) ≡ true → (xs : List Claim) → claims_from s from ≡ just xs → any unknown xs ≡ true
    unknown_here t xs d = left_unknown xs d ∙ ap (any unknown) next.2 ∙ any_found unknown (claim_on s a x) next.0 t

    module _ (k : unknown (claim_on s a x) ≡ false) where
      pub unknown_behind : (r : Bool) → ((ys : List Claim) → claims_from s e ≡ just ys → r ≡ any unknown ys)
          → (xs : List Claim) → claims_from s from ≡ just xs → any unknown xs ≡ r
      unknown_behind r t xs d =
          left_unknown xs d
          ∙ ap (any unknown) next.2
          ∙ any_other unknown (claim_on s a x) next.0 k
          ∙ sym (t next.0 next.1)

      module _ (r : Bool) (given : r ≡ mem (name_at s a) (actor_names s list count)) where
        among : mem (name_at s a) (actors_in h.done) ≡ r
        among = ap (mem (name_at s a)) (sym h.named) ∙ sym given

        -- its actor has one already
        pub second_time : r ≡ true → (xs : List Claim) → claims_from s from ≡ just xs → twice (actors_in xs) ≡ true
        unfolding again
        second_time t xs d =
            ap (λ (v : List Claim). twice (actors_in v)) (sym (all_of xs d) ∙ ap (λ (v : List Claim). h.done ++ v) next.2)
            ∙ ap twice (map_append (λ (c : Claim). c.actor) h.done (claim_on s a x ∷ next.0))
            ∙ twice_again (actors_in h.done) (name_at s a ∷ actors_in next.0)
            ∙ rw (h.once, among ∙ t)

        module _ (fresh : r ≡ false) where
          known_more : any unknown (h.done ++ (claim_on s a x ∷ [])) ≡ false
          known_more = any_behind unknown h.done _ h.known ∙ any_other unknown (claim_on s a x) [] k ∙ any_none unknown

          once_more : twice (actors_in (h.done ++ (claim_on s a x ∷ []))) ≡ false
          once_more =
              ap twice (map_end (λ (c : Claim). c.actor) h.done (claim_on s a x))
              ∙ twice_end (actors_in h.done) (name_at s a)
              ∙ rw (h.once, among ∙ fresh)

          pub has_room : length actors ≤ 8 → count < 8
          has_room l = omega (
            arith,
            few_claims actors (node_names b) (h.done ++ (claim_on s a x ∷ [])) known_more once_more,
            length-append h.done (claim_on s a x ∷ []),
            h.counted,
          )

          module _ (p : ClaimPlaces s i a x e) (node : ℕ) (is-node : node ≡ place (name_at s x) (node_names b)) (low : node < nodes)
              (few : length actors ≤ 8) where
            -- the identity as plain data, and the array with it
            abbrev new : IdentityData
            new = record { actor = a; node = node }

            abbrev more : List IdentityData
            more = set list count new

            room : count < length list
            room = omega (arith, has_room few, h.size)

            named_in : (text : Bytes) → part_of text 0 (length s) ≡ s → identity_in text new ≡ numbered b (claim_on s a x)
            unfolding identity_in name_at
            named_in text l =
                let o : 0 + a.start ≡ a.start = omega arith in
                let m : name_at text a ≡ name_at s a = ap (λ (v : ℕ). part_of text v a.length) (sym o)
                ∙ sym (part_in_part text 0 (length s) a.start a.length p.actor.inside)
                ∙ ap (λ (t : Bytes). name_at t a) l in
                λ t. record { actor = m t; node = is-node t }

            -- it is placed by its own words
            next_placed : new ∷ placed_by (words_at s e) (map (numbered b) next.0) ≡ placed_by (words_at s i) (map (numbered b) h.rest)
            next_placed =
                let w = claim_words s i a x e n in
                placed_first (words_at s i) (words_at s e) a node (numbered b (claim_on s a x)) (map (numbered b) next.0) w.0 is-node w.1
                ∙ ap (λ (t : List Claim). placed_by (words_at s i) (map (numbered b) t)) (sym next.2)

            -- the array at a place, by whether it is the new one
            at_more : (P : IdentityData → Type 0) → P new → ((j : ℕ) → j < count → P (get_or list j no_identity))
                → (j : ℕ) → j < count + 1 → P (get_or more j no_identity)
            at_more P here before j m = either (equal_or_not j count)
                (λ q. rw (q, get_or-set_same list count new no_identity room) here)
                (λ q. rw (get_or-set_other list count j new no_identity q.1) (before j (omega arith)))

            named_more : actor_names s more (count + 1) ≡ actors_in (h.done ++ (claim_on s a x ∷ []))
            unfolding name_at
            named_more =
                listed_more (λ j. name_at s (get_or more j no_identity).actor) count
                ∙ (λ t. listed_same (λ j. name_at s (get_or more j no_identity).actor) (λ j. name_at s (get_or list j no_identity).actor) count
                (λ j l. let q : j ≢ count = λ v. absurd (omega arith) in
                ap (λ (v : IdentityData). name_at s v.actor) (get_or-set_other list count j new no_identity q)) t
                ++ (name_at s (get_or-set_same list count new no_identity room t).actor ∷ []))
                ∙ (λ t. h.named t ++ (name_at s a ∷ []))
                ∙ sym (map_end (λ (c : Claim). c.actor) h.done (claim_on s a x))

            -- the identity is stored
            pub storing_next : Storing b nodes actors s from more (count + 1) e
            storing_next =
                let longer : take (count + 1) more ≡ take count list ++ (new ∷ []) = rw add-one
                (take-suc-set list count new room) in
                let moved : h.done ++ h.rest ≡ (h.done ++ (claim_on s a x ∷ [])) ++ next.0 = ap (λ (t : List Claim). h.done ++ t) next.2
                ∙ sym (append_assoc h.done (claim_on s a x ∷ []) next.0) in
                record {
                  done = h.done ++ (claim_on s a x ∷ []);
                  rest = next.0;
                  whole = h.whole ∙ ap just moved;
                  left = next.1;
                  known = known_more;
                  once = once_more;
                  counted = simp length-append (omega (arith, h.counted));
                  size = length-set list count new ∙ h.size;
                  named = named_more;
                  inside = at_more (λ (v : IdentityData). HasPart s v.actor) p.actor.inside h.inside;
                  is = λ text d.
                      ap (λ (t : List IdentityData). map (identity_in text) t) longer
                      ∙ map_end (identity_in text) (take count list) new
                      ∙ (λ t. h.is text d t ++ (named_in text d t ∷ []))
                      ∙ sym (map_end (numbered b) h.done (claim_on s a x));
                  below = at_more (λ (v : IdentityData). v.node < nodes) low h.below;
                  places =
                      ap (λ (t : List IdentityData). t ++ placed_by (words_at s e) (map (numbered b) next.0)) longer
                      ∙ append_assoc (take count list) (new ∷ []) (placed_by (words_at s e) (map (numbered b) next.0))
                      ∙ ap (λ (t : List IdentityData). take count list ++ t) next_placed
                      ∙ h.places
                      ∙ ap (λ (t : List Claim). placed_by (words_at s from) (map (numbered b) t)) moved;
                  past = one_less list count new (has_room few) h.past;
                }

  -- no identity is left
  module _ (n : None ≡ claim_at (claim_next 2 s i)) (xs : List Claim) (d : claims_from s from ≡ just xs) where
    none : h.rest ≡ []
    none = claims_done s i h.rest n h.left

    done_all : h.done ≡ xs
    done_all = sym (append-nil h.done) ∙ ap (λ (t : List Claim). h.done ++ t) (sym none) ∙ all_of xs d

    pub all_known : any unknown xs ≡ false
    all_known = ap (any unknown) (sym done_all) ∙ h.known

    pub all_once : twice (actors_in xs) ≡ false
    all_once = ap (λ (t : List Claim). twice (actors_in t)) (sym done_all) ∙ h.once

    pub all_named : (w : Bytes) (r : Bool) → r ≡ mem w (actor_names s list count) → mem w (actors_in xs) ≡ r
    all_named w r e = ap (λ (t : List Claim). mem w (actors_in t)) (sym done_all) ∙ ap (mem w) (sym h.named) ∙ sym e

    none_left : take count list ≡ take count list ++ placed_by (words_at s i) (map (numbered b) h.rest)
    unfolding placed_by
    none_left = sym (append-nil (take count list)) ∙ ap (λ (t : List Claim). take count list ++ placed_by (words_at s i) (map (numbered b) t)) (sym none)

    -- all are stored
    pub stored : length actors ≤ 8 → ClaimsStored b nodes s from xs (record { list = list; count = count })
    stored few =
        let full : count ≡ length xs = h.counted ∙ ap length done_all in
        let front : take count list ≡ placed_by (words_at s from) (map (numbered b) xs) = none_left ∙ h.places
        ∙ ap (λ (t : List Claim). placed_by (words_at s from) (map (numbered b) t)) (all_of xs d) in
        record {
          few = count_few few;
          is = λ text l. h.is text l ∙ ap (map (numbered b)) done_all;
          below = h.below;
          counted = full;
          whole = slots_filled list (placed_by (words_at s from) (map (numbered b) xs)) count front h.past
              (full ∙ sym (placed_length (words_at s from) (map (numbered b) xs) ∙ length-map xs (numbered b)));
        }

  -- the identities end before the line does
  pub stored_over : {C : Type 0} → length s ≤ i → C
  stored_over l = claims_over s i h.rest l h.left

-- what is told, by its case
module _ (book : Bytes) (words : List ℕ) (counts : BookCounts) (rules : Bytes) (table : List ℕ) (sizes : RulesCounts) (k : ℕ) (s : Bytes) (from : ℕ)
    (r : Result Identities ℕ) (h : ClaimsTold book words counts rules table sizes k s from r) where
  pub fault_told : (n : ℕ) → r ≡ Err n → FaultTold book words counts rules table sizes k s from (just n)
  fault_told n e = subst (ClaimsTold book words counts rules table sizes k s from) e h

  pub claims_told : (given : Identities) → r ≡ Ok given → FaultTold book words counts rules table sizes k s from nothing
      × ((xs : List Claim) → claims_from s from ≡ just xs → ClaimsStored (book_at book words counts) counts.nodes s from xs given)
  claims_told given e = subst (ClaimsTold book words counts rules table sizes k s from) e h
