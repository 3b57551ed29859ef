-- The steps of reading a line's form.
use Prim.Native.Nat.{ℕ, ◌+◌, ◌<◌}
use mathlib.Core.Path.{◌≡◌, refl, sym, ap, subst, ◌∙◌}
use mathlib.Core.List.{List}
use mathlib.Core.Bool.{Bool, true, false}
use native.Mathlib.Omega.{arith}
use lib.ListN.{length}
use Rattle.std.specs.Prelude.{Option, None, Some}
use Rattle.model.specs.Bytes.{Bytes, bytes_of, same}
use Rattle.model.specs.Choice.{pick, Maybe, nothing, just, and_then}
use Rattle.model.specs.Items.{Item, line_items}
use Rattle.model.specs.Forms.{at_end}
use Rattle.model.specs.Grammar.{query_text}
use Rattle.model.specs.QueryText.{QueryText}
use Rattle.model.specs.ReadRules.{RulesLine, category, policy, category_line, policy_line, rules_line}
use Rattle.model.specs.Answers.{name_at}
use Rattle.model.specs.declared.Part.{Part}
use Rattle.item_forms.specs.Ends.{form_at, line_form, line_at, ends_after}
use Rattle.item_forms.specs.Pieces.{behind, item_place, word_next, name_next, quoted_next, on_piece, on_place}
use Rattle.item_forms.specs.Forms.{form_opens, form_closes}
use Rattle.item_forms.proofs.FormLaws.{line_form_law, form_word, form_quoted, form_end}
use Rattle.items.proofs.RestLaws.{rest_same, rest_nothing}
use Rattle.item_forms.specs.Places.{WordPlaces, QuotedPlaced}
use Rattle.name_lists.specs.Names.{NamesRead, names_behind, names_end, headed_at}
use Rattle.name_lists.proofs.Behind.{headed_names}
use Rattle.name_lists.proofs.Forms.{form_on, no_name, a_name_law}
use Rattle.rules.specs.Forms.{after_list, ListRead, NamesList, CategoryRead, PolicyRead, FormRead}
use Rattle.rules.specs.declared.RulesForm.{RulesForm}

-- a list of names
module _ (head s : Bytes) (i : ℕ) where
  pub list_none : None ≡ headed_at head s i → (free : Bool) (k : List Bytes → List Item → Maybe RulesLine) → after_list head s free i k ≡ nothing
  unfolding on_place
  list_none e free k = headed_names head s k free i
      ∙ ap (λ (o : Option ℕ). on_place o (λ a. and_then (names_behind s a) (λ x. line_at true x.end s (k x.names)))) (sym e)

  module _ {a : ℕ} (h : Some a ≡ headed_at head s i) where
    list_names : (free : Bool) (k : List Bytes → List Item → Maybe RulesLine)
        → after_list head s free i k ≡ and_then (names_behind s a) (λ x. line_at true x.end s (k x.names))
    unfolding on_place
    list_names free k = headed_names head s k free i
        ∙ ap (λ (o : Option ℕ). on_place o (λ a. and_then (names_behind s a) (λ x. line_at true x.end s (k x.names)))) (sym h)

    pub list_broken : None ≡ names_end (names_behind s a) → (free : Bool) (k : List Bytes → List Item → Maybe RulesLine) → after_list head s free i k ≡ nothing
    unfolding names_end and_then
    list_broken n free k = list_names free k ∙ go (names_behind s a) n
      where
        go : (o : Maybe NamesRead) → None ≡ names_end o → and_then o (λ x. line_at true x.end s (k x.names)) ≡ nothing
        go nothing e = refl
        go (just x) e = let z : ◌≡◌ {A = ℕ} 0 1 = cc in absurd (omega arith)

    pub list_read : {e : ℕ} → Some e ≡ names_end (names_behind s a) → ListRead head s i a e
    unfolding names_end and_then
    list_read {e} n = go (names_behind s a) refl n
      where
        go : (o : Maybe NamesRead) → names_behind s a ≡ o → Some e ≡ names_end o → ListRead head s i a e
        go nothing q n = let z : ◌≡◌ {A = ℕ} 0 1 = cc in absurd (omega arith)
        go (just x) q n =
            let f : x.end ≡ e = cc in
            record {
              read = x;
              is = q;
              line = λ free k. list_names free k ∙ ap (λ (o : Maybe NamesRead). and_then o (λ x. line_at true x.end s (k x.names))) q
                  ∙ ap (λ (v : ℕ). line_at true v s (k x.names)) f;
            }

-- a category's line
module _ (s : Bytes) (i : ℕ) where
  pub category_unnamed : None ≡ item_place (name_next 3 false s i) → line_at false i s category_line ≡ nothing
  unfolding category_line
  category_unnamed e = no_name s i _ e

  module _ {cat : Part} (n : Some cat ≡ item_place (name_next 3 false s i)) where
    pub category_no_actors : ((free : Bool) (k : List Bytes → List Item → Maybe RulesLine) → after_list (bytes_of "actors") s free (behind cat) k ≡ nothing)
        → line_at false i s category_line ≡ nothing
    unfolding category_line
    category_no_actors h = a_name_law s i _ cat n ∙ h false _

    module _ {a e : ℕ} (x : ListRead (bytes_of "actors") s (behind cat) a e) where
      pub category_no_over : ((free : Bool) (k : List Bytes → List Item → Maybe RulesLine) → after_list (bytes_of "over") s free e k ≡ nothing)
          → line_at false i s category_line ≡ nothing
      unfolding category_line
      category_no_over h = a_name_law s i _ cat n ∙ x.line false _ ∙ h true _

      pub category_line_law : {o f : ℕ} (y : ListRead (bytes_of "over") s e o f)
          → line_at false i s category_line ≡ pick (form_closes 0 s f) (just (category (name_at s cat) x.read.names y.read.names)) nothing
      unfolding category_line
      category_line_law {o} {f} y = a_name_law s i _ cat n ∙ x.line false _ ∙ y.line true _
          ∙ form_end line_form true f s (category (name_at s cat) x.read.names y.read.names)

      pub category_read : {o f : ℕ} (y : ListRead (bytes_of "over") s e o f) → WordPlaces s i cat → form_closes 0 s f ≡ true
          → CategoryRead s (line_at false i s category_line) cat a o
      category_read {o} {f} y h t = record {
        places = record { after = omega arith; some = h.some; inside = h.inside; short = h.short };
        actors = x.read;
        over = y.read;
        actors_are = x.is;
        over_are = y.is;
        is = category_line_law y ∙ ap (λ (b : Bool). pick b (just (category (name_at s cat) x.read.names y.read.names)) nothing) t;
      }

      pub category_open : {o f : ℕ} (y : ListRead (bytes_of "over") s e o f) → form_closes 0 s f ≡ false → line_at false i s category_line ≡ nothing
      category_open y t = category_line_law y ∙ ap (λ (b : Bool). pick b (just (category (name_at s cat) x.read.names y.read.names)) nothing) t

-- a policy's line
module _ (s : Bytes) (i : ℕ) where
  pub policy_unnamed : None ≡ item_place (name_next 3 false s i) → line_at false i s policy_line ≡ nothing
  unfolding policy_line
  policy_unnamed e = no_name s i _ e

  module _ {cat : Part} (n : Some cat ≡ item_place (name_next 3 false s i)) where
    -- what the model makes of the text
    abbrev made : Bytes → Maybe RulesLine
    made t = and_then (query_text t) (λ (tree : QueryText). just (policy (name_at s cat) (length t) tree))

    pub policy_no_text : None ≡ quoted_next 3 false s (behind cat) → line_at false i s policy_line ≡ nothing
    unfolding policy_line on_piece
    policy_no_text e =
        a_name_law s i _ cat n
        ∙ form_quoted line_form false (behind cat) s (λ t is. and_then (at_end is t) made)
        ∙ ap (λ (r : Option Part). on_piece r (λ w. line_at false (behind w + 1) s (λ is. and_then (at_end is (name_at s w)) made))) (sym e)

    pub policy_line_law : {t : Part} → Some t ≡ quoted_next 3 false s (behind cat)
        → line_at false i s policy_line ≡ pick (form_closes 0 s (behind t + 1)) (made (name_at s t)) nothing
    unfolding policy_line on_piece and_then
    policy_line_law {t} e =
        a_name_law s i _ cat n
        ∙ form_quoted line_form false (behind cat) s (λ t is. and_then (at_end is t) made)
        ∙ ap (λ (r : Option Part). on_piece r (λ w. line_at false (behind w + 1) s (λ is. and_then (at_end is (name_at s w)) made))) (sym e)
        ∙ form_on false (behind t + 1) s (λ is. at_end is (name_at s t)) made
        ∙ ap (λ (o : Maybe Bytes). and_then o made) (form_end line_form false (behind t + 1) s (name_at s t))
        ∙ go (form_closes 0 s (behind t + 1))
      where
        go : (b : Bool) → and_then (pick b (just (name_at s t)) nothing) made ≡ pick b (made (name_at s t)) nothing
        go true = refl
        go false = refl

    module _ {t : Part} (e : Some t ≡ quoted_next 3 false s (behind cat)) where
      pub policy_read : WordPlaces s i cat → behind t < length s → form_closes 0 s (behind t + 1) ≡ true → PolicyRead s (line_at false i s policy_line) cat t
      policy_read h k c = record {
        places = record { after = omega arith; some = h.some; inside = h.inside; short = h.short };
        inside = omega arith;
        is = policy_line_law e ∙ ap (λ (b : Bool). pick b (made (name_at s t)) nothing) c;
      }

      pub policy_open : form_closes 0 s (behind t + 1) ≡ false → line_at false i s policy_line ≡ nothing
      policy_open c = policy_line_law e ∙ ap (λ (b : Bool). pick b (made (name_at s t)) nothing) c

-- what was read, by the answer
pub list_at_law : (head s : Bytes) (i : ℕ) {a e : ℕ} (r : Option (ℕ × ℕ)) → r ≡ Some (a, e) → NamesList head s i r → ListRead head s i a e
list_at_law head s i r e h = subst (NamesList head s i) e h

pub list_not : (head s : Bytes) (i : ℕ) (r : Option (ℕ × ℕ)) → r ≡ None → NamesList head s i r → (free : Bool) (k : List Bytes → List Item → Maybe RulesLine)
    → after_list head s free i k ≡ nothing
list_not head s i r e h = subst (NamesList head s i) e h

pub quoted_at_law : (s : Bytes) {t : Part} (r : Option Part) → r ≡ Some t → QuotedPlaced s r → behind t < length s
quoted_at_law s r e h = subst (QuotedPlaced s) e h

pub form_moved : (s : Bytes) (m m' : Maybe RulesLine) (r : Option RulesForm) → m ≡ m' → FormRead s m' r → FormRead s m r
form_moved s m m' r e h = subst (λ (x : Maybe RulesLine). FormRead s x r) (sym e) h

-- the line by its first word
module _ (s : Bytes) where
  pub unopened : None ≡ form_opens s 0 → and_then (line_items s) rules_line ≡ nothing
  unfolding on_place
  unopened e = line_form_law rules_line s ∙ ap (λ (o : Option ℕ). on_place o (λ i. line_at true i s rules_line)) (sym e)

  module _ {i : ℕ} (e : Some i ≡ form_opens s 0) where
    opened : and_then (line_items s) rules_line ≡ line_at true i s rules_line
    unfolding on_place
    opened = line_form_law rules_line s ∙ ap (λ (o : Option ℕ). on_place o (λ i. line_at true i s rules_line)) (sym e)

    by_word : Bytes → List Item → Maybe RulesLine
    by_word w is = pick (same w (bytes_of "category")) (category_line is) (pick (same w (bytes_of "policy")) (policy_line is) nothing)

    pub wordless : None ≡ word_next 3 true s i → and_then (line_items s) rules_line ≡ nothing
    unfolding rules_line on_piece by_word
    wordless w = opened ∙ form_word line_form true i s 3 by_word ∙ ap (λ (r : Option Part). on_piece r (λ w. line_at false (behind w) s (by_word (name_at s w)))) (sym w)

    module _ {word : Part} (w : Some word ≡ word_next 3 true s i) where
      worded : and_then (line_items s) rules_line ≡ line_at false (behind word) s (by_word (name_at s word))
      unfolding rules_line on_piece by_word
      worded = opened ∙ form_word line_form true i s 3 by_word ∙ ap (λ (r : Option Part). on_piece r (λ w. line_at false (behind w) s (by_word (name_at s w)))) (sym w)

      pub of_category : same (name_at s word) (bytes_of "category") ≡ true → and_then (line_items s) rules_line ≡ line_at false (behind word) s category_line
      unfolding by_word
      of_category h = worded ∙ ap (λ (b : Bool). line_at false (behind word) s
          (λ is. pick b (category_line is) (pick (same (name_at s word) (bytes_of "policy")) (policy_line is) nothing))) h

      module _ (h : same (name_at s word) (bytes_of "category") ≡ false) where
        not_category : and_then (line_items s) rules_line ≡ line_at false (behind word) s
            (λ is. pick (same (name_at s word) (bytes_of "policy")) (policy_line is) nothing)
        unfolding by_word
        not_category = worded ∙ ap (λ (b : Bool). line_at false (behind word) s
            (λ is. pick b (category_line is) (pick (same (name_at s word) (bytes_of "policy")) (policy_line is) nothing))) h

        pub of_policy_law : same (name_at s word) (bytes_of "policy") ≡ true → and_then (line_items s) rules_line ≡ line_at false (behind word) s policy_line
        of_policy_law k = not_category ∙ ap (λ (b : Bool). line_at false (behind word) s (λ is. pick b (policy_line is) nothing)) k

        pub of_neither : same (name_at s word) (bytes_of "policy") ≡ false → and_then (line_items s) rules_line ≡ nothing
        unfolding form_at
        of_neither k = not_category ∙ ap (λ (b : Bool). line_at false (behind word) s (λ is. pick b (policy_line is) nothing)) k
            ∙ (rest_same 3 false (behind word) s _ _ (λ e is. never (ends_after 0 s e)) ∙ rest_nothing 3 false (behind word) s)
          where
            never : (b : Bool) → pick {A = Maybe RulesLine} b nothing nothing ≡ nothing
            never true = refl
            never false = refl
