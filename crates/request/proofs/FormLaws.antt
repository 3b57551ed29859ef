-- The steps of reading the form of a request's line.
use Prim.Native.Nat.{ℕ}
use mathlib.Core.Path.{◌≡◌, refl, ap, subst, ◌∙◌}
use mathlib.Core.List.{List}
use mathlib.Core.Bool.{Bool, true, false}
use native.Mathlib.Omega.{arith}
use Rattle.std.specs.Prelude.{Option, Some, None}
use Rattle.model.specs.Bytes.{Bytes, bytes_of, same}
use Rattle.model.specs.Choice.{pick, Maybe, nothing, just, and_then}
use Rattle.model.specs.Lists.{each}
use Rattle.model.specs.Items.{Item, line_items}
use Rattle.model.specs.Forms.{as_name, first}
use Rattle.model.specs.Request.{Claim, claim_of, RequestLine, request_line}
use Rattle.model.specs.Answers.{name_at}
use Rattle.model.specs.declared.Part.{Part}
use Rattle.item_forms.specs.Ends.{line_at}
use Rattle.item_forms.specs.Pieces.{behind, item_place, word_next, name_next}
use Rattle.item_forms.specs.Forms.{form_opens}
use Rattle.item_forms.specs.Places.{WordPlaces}
use Rattle.name_lists.proofs.Forms.{line_unopened, line_opened, no_word, a_word, no_name, a_name_law}
use Rattle.request.specs.Claims.{claims_from, are_read}
use Rattle.request.specs.Forms.{line_of, LineRead, FormRead}
use Rattle.request.proofs.PlaceLaws.{form_words}
use Rattle.request.proofs.ClaimLaws.{claims_then}

-- what is made of the items behind the first word
made : Bool → Bytes → List Item → Maybe RequestLine
made t c is = and_then (each claim_of is) (λ cs. pick t (just (record { category = c; claims = cs })) nothing)

by_word : Bytes → List Item → Maybe RequestLine
by_word w is = first as_name is (made (same w (bytes_of "request")))

then_never : {A B : Type 0} (o : Maybe A) → and_then {B = B} o (λ a. nothing) ≡ nothing
unfolding and_then
then_never nothing = refl
then_never (just a) = refl

module _ (s : Bytes) where
  pub unopened : None ≡ form_opens s 0 → and_then (line_items s) request_line ≡ nothing
  unopened e = line_unopened s request_line e

  module _ {i : ℕ} (opened : Some i ≡ form_opens s 0) where
    pub wordless : None ≡ word_next 3 true s i → and_then (line_items s) request_line ≡ nothing
    unfolding request_line by_word made
    wordless w = line_opened s request_line opened ∙ no_word true s i by_word w

    module _ {h : Part} (w : Some h ≡ word_next 3 true s i) where
      worded : and_then (line_items s) request_line ≡ line_at false (behind h) s (by_word (name_at s h))
      unfolding request_line by_word made
      worded = line_opened s request_line opened ∙ a_word true s i by_word w

      pub of_other_law : same (name_at s h) (bytes_of "request") ≡ false → and_then (line_items s) request_line ≡ nothing
      unfolding by_word made
      of_other_law t = worded ∙ ap (λ (t : Bool). line_at false (behind h) s (λ is. first as_name is (made t))) t
          ∙ go (item_place (name_next 3 false s (behind h))) refl
        where
          go : (r : Option Part) → r ≡ item_place (name_next 3 false s (behind h)) → line_at false (behind h) s (λ is. first as_name is (made false)) ≡ nothing
          go (Some n) e = a_name_law s (behind h) (made false) n e ∙ claims_then s (behind n) false (λ cs. nothing) ∙ then_never (claims_from s (behind n))
          go None e = no_name s (behind h) (made false) e

      module _ (t : same (name_at s h) (bytes_of "request") ≡ true) where
        of_request : and_then (line_items s) request_line ≡ line_at false (behind h) s (λ is. first as_name is (made true))
        unfolding by_word
        of_request = worded ∙ ap (λ (t : Bool). line_at false (behind h) s (λ is. first as_name is (made t))) t

        pub unnamed : None ≡ item_place (name_next 3 false s (behind h)) → and_then (line_items s) request_line ≡ nothing
        unnamed e = of_request ∙ no_name s (behind h) (made true) e

        module _ {c : Part} (n : Some c ≡ item_place (name_next 3 false s (behind h))) where
          named : and_then (line_items s) request_line ≡ and_then (claims_from s (behind c)) (λ cs. just (line_of s c cs))
          unfolding made
          named = of_request ∙ a_name_law s (behind h) (made true) c n ∙ claims_then s (behind c) false (λ cs. just (line_of s c cs))

          pub unclaimed : are_read (claims_from s (behind c)) ≡ false → and_then (line_items s) request_line ≡ nothing
          unfolding are_read and_then
          unclaimed e = named ∙ go (claims_from s (behind c)) e
            where
              go : (o : Maybe (List Claim)) → are_read o ≡ false → and_then o (λ cs. just (line_of s c cs)) ≡ nothing
              go nothing e = refl
              go (just xs) e = let z : ◌≡◌ {A = ℕ} 0 1 = cc in absurd (omega arith)

          pub line_read : WordPlaces s (behind h) c → are_read (claims_from s (behind c)) ≡ true → LineRead s (and_then (line_items s) request_line) c
          unfolding are_read and_then
          line_read k e = go (claims_from s (behind c)) refl e
            where
              go : (o : Maybe (List Claim)) → claims_from s (behind c) ≡ o → are_read o ≡ true → LineRead s (and_then (line_items s) request_line) c
              go nothing d e = let z : ◌≡◌ {A = ℕ} 0 1 = cc in absurd (omega arith)
              go (just xs) d e = record {
                places = record { after = omega arith; some = k.some; inside = k.inside; short = k.short };
                claims = xs;
                are = d;
                is = named ∙ ap (λ (o : Maybe (List Claim)). and_then o (λ cs. just (line_of s c cs))) d;
                words = form_words s i h c opened w n;
              }

-- what was read, by the answer
pub form_at_law : (s : Bytes) (line : Maybe RequestLine) {w : Part} (r : Option Part) → r ≡ Some w → FormRead s line r → LineRead s line w
form_at_law s line r e h = subst (FormRead s line) e h

pub form_none : (s : Bytes) (line : Maybe RequestLine) (r : Option Part) → r ≡ None → FormRead s line r → line ≡ nothing
form_none s line r e h = subst (FormRead s line) e h
