-- A policy's line without a fault, and the words with it.
use Prim.Native.Nat.{ℕ, ◌+◌, ◌<◌}
use mathlib.Core.Path.{◌≡◌, refl, sym, ap, ◌∙◌}
use mathlib.Core.List.{List}
use mathlib.Core.Bool.{Bool, true, false, not}
use native.Mathlib.Omega.{arith}
use lib.ListN.{length, set, length-set}
use lib.Seq.{get_or-set_same, get_or-set_other}
use lib.Dec.{eqb}
use borrow.Author.Tests.{eq-eqb, ne_eqb, not-false, le-ltb}
use Rattle.logic.specs.Tests.{either, equal_or_not, below_or_not}
use Rattle.model.specs.Bytes.{Bytes, same}
use Rattle.model.specs.Choice.{pick, Maybe, nothing, just}
use Rattle.model.specs.Names.{mem, place}
use Rattle.model.specs.QueryText.{QueryText}
use Rattle.model.specs.Grammar.{query_text}
use Rattle.model.specs.Answers.{name_at}
use Rattle.model.specs.declared.Part.{Part}
use Rattle.model.specs.Rules.{Policy, category_names}
use Rattle.model.specs.ReadRules.{policy, has_policy, add_rule}
use Rattle.book_tables.specs.View.{word_at, name_of, names_at}
use Rattle.book_tables.proofs.NameLaws.{mem_place, place_named, length_names}
use Rattle.book_tables.proofs.AgreeLaws.{name_kept}
use Rattle.rules_tables.specs.declared.RulesCounts.{RulesCounts}
use Rattle.rules_tables.specs.Layout.{names, policy_at}
use Rattle.rules_tables.specs.View.{policy_category, policy_text, policy_of, tree_or, tree_of, rules_at}
use Rattle.rules_tables.specs.Fits.{PolicyFits}
use Rattle.rules_tables.specs.Agree.{Free, Agree}
use Rattle.rules_tables.specs.Stores.{more_policies, with_policy}
use Rattle.rules_tables.proofs.AgreeLaws.{set_agrees, agree_trans}
use Rattle.rules_tables.proofs.Lowers.{category_names_law}
use Rattle.rules_tables.proofs.Downs.{policy_of_law}
use Rattle.rules_tables.proofs.Added.{policy_added}
use Rattle.rules_tables.proofs.Fewer.{fewer}
use Rattle.book_tables.proofs.ListedLaws.{scan_found}
use Rattle.query_faults.specs.TextFault.{tree_fault, text_fault}
use Rattle.rules.specs.Policies.{combined, PolicyClear, PolicyAdded}
use Rattle.rules.proofs.StoreLaws.{part_of_line}
use Rattle.rules.proofs.PolicyFaults.{policy_number}

-- no fault: the category is declared, it has no policy, the text is a query
clear_tests : (unknown second long : Bool) (f : ℕ) → combined unknown second long f ≡ 0 → (unknown ≡ false) × (second ≡ false) × (f ≡ 3 → ⊥)
unfolding combined
clear_tests unknown second long f e = go (eqb f 3) unknown (eqb f 4) second refl e
  where
    go : (a b d h : Bool) → eqb f 3 ≡ a → pick a 3 (pick b 4 (pick d 4 (pick h 5 (pick (eqb f 5) 5 (pick (eqb f 6) 6 (pick long 7 f)))))) ≡ 0
        → (b ≡ false) × (h ≡ false) × (f ≡ 3 → ⊥)
    go true b d h q e = absurd (omega arith)
    go false true d h q e = absurd (omega arith)
    go false false true h q e = absurd (omega arith)
    go false false false true q e = absurd (omega arith)
    go false false false false q e = (refl, refl, λ z. let y = eq-eqb f 3 z in let w : ◌≡◌ {A = ℕ} 0 1 = cc in omega arith)

module _ (text : Bytes) (words : List ℕ) (c : RulesCounts) (s : Bytes) (base : ℕ) (cat t : Part) (g : PolicyClear text words c s base cat t) (m : ℕ)
    (em : m ≡ place (name_at s cat) (names_at text words names c.categories)) where
  tests : (not (mem (name_at s cat) (category_names (rules_at text words c))) ≡ false) × (has_policy (rules_at text words c) (name_at s cat) ≡ false)
      × (text_fault g.book (name_at s t) ≡ 3 → ⊥)
  tests = clear_tests _ _ _ _ (sym (policy_number g.book (rules_at text words c) (name_at s cat) (name_at s t)) ∙ g.clear)

  pub is_declared : m < c.categories
  is_declared = either (below_or_not m c.categories) (λ l. l) (λ l. absurd (
      let y = not-false _ tests.0 in
      let x = ap (mem (name_at s cat)) (sym (category_names_law text words c)) ∙ y in
      let d = mem_place (name_at s cat) (names_at text words names c.categories) in
      let o = le-ltb (place (name_at s cat) (names_at text words names c.categories)) (length (names_at text words names c.categories))
      (omega (arith, length_names text words names c.categories)) in
      let z : ◌≡◌ {A = ℕ} 0 1 = cc in omega arith))

  named_so : name_of text words names m ≡ name_at s cat
  named_so = ap (name_of text words names) em ∙ place_named text words names c.categories (name_at s cat) (omega (arith, is_declared))

  is_query : (tree : QueryText) × (query_text (name_at s t) ≡ just tree)
  unfolding text_fault tree_fault
  is_query = go (query_text (name_at s t)) refl
    where
      go : (o : Maybe QueryText) → query_text (name_at s t) ≡ o → (tree : QueryText) × (query_text (name_at s t) ≡ just tree)
      go nothing e = absurd (tests.2 (ap (tree_fault g.book) e))
      go (just tree) e = (tree, e)

  none_yet : (i : ℕ) → i < c.policies → policy_category words i ≡ m → ⊥
  unfolding has_policy rules_at
  none_yet i l e =
      let y = scan_found (λ (x : Policy). same x.category (name_of text words names m)) (policy_of text words) c.policies i l
      (policy_of_law text words c g.fits m is_declared i l ∙ eq-eqb (policy_category words i) m e) in
      let n = ap (has_policy (rules_at text words c)) named_so ∙ tests.1 in
      let z : ◌≡◌ {A = ℕ} 0 1 = cc in omega arith

  -- so there is room for one more
  pub policy_room : c.policies < 16
  policy_room = let l = fewer c.categories (c.policies + 1) number below differ in omega (arith, g.fits.few)
    where
      number : ℕ → ℕ
      number i = pick (eqb i c.policies) m (policy_category words i)

      last : (i : ℕ) → i ≡ c.policies → number i ≡ m
      last i e = rw (eq-eqb i c.policies e)

      before : (i : ℕ) → (i ≡ c.policies → ⊥) → number i ≡ policy_category words i
      before i e = rw (ne_eqb i c.policies e)

      below : (i : ℕ) → i < c.policies + 1 → number i < c.categories
      below i l = either (equal_or_not i c.policies) (λ e. rw (last i e) is_declared)
          (λ e. rw (before i e.1) (g.fits.policies i (omega arith)).counted)

      differ : (i j : ℕ) → i < c.policies + 1 → j < c.policies + 1 → number i ≡ number j → i ≡ j
      differ i j l h e = either (equal_or_not i c.policies)
          (λ a. either (equal_or_not j c.policies) (λ b. a ∙ sym b) (λ b. absurd (none_yet j (omega arith) (sym (before j b.1) ∙ sym e ∙ last i a))))
          (λ a. either (equal_or_not j c.policies) (λ b. absurd (none_yet i (omega arith) (sym (before i a.1) ∙ e ∙ last j b)))
          (λ b. g.fits.one_each i j (omega arith) (omega arith) (sym (before i a.1) ∙ e ∙ before j b.1)))

  abbrev w1 : List ℕ
  w1 = set words (policy_at c.policies) m

  abbrev w2 : List ℕ
  w2 = set w1 (policy_at c.policies + 1) (base + t.start)

  abbrev after : List ℕ
  after = with_policy words c.policies m (base + t.start) t.length

  agrees : Agree c words after
  unfolding with_policy
  agrees =
      let few = g.fits.few in
      let f0 : Free c (policy_at c.policies) = omega arith in
      let f1 : Free c (policy_at c.policies + 1) = omega arith in
      let f2 : Free c (policy_at c.policies + 2) = omega arith in
      agree_trans c words w1 (set w2 (policy_at c.policies + 2) t.length) (set_agrees c words (policy_at c.policies) m f0)
      (agree_trans c w1 w2 (set w2 (policy_at c.policies + 2) t.length) (set_agrees c w1 (policy_at c.policies + 1) (base + t.start) f1)
      (set_agrees c w2 (policy_at c.policies + 2) t.length f2))

  number_there : policy_category after c.policies ≡ m
  unfolding with_policy
  number_there =
      get_or-set_other w2 (policy_at c.policies + 2) (policy_at c.policies) t.length 0 (omega arith)
      ∙ get_or-set_other w1 (policy_at c.policies + 1) (policy_at c.policies) (base + t.start) 0 (omega arith)
      ∙ get_or-set_same words (policy_at c.policies) m 0 (omega (arith, policy_room, g.fits.room))

  start_there : word_at after (policy_at c.policies + 1) ≡ base + t.start
  unfolding with_policy
  start_there =
      get_or-set_other w2 (policy_at c.policies + 2) (policy_at c.policies + 1) t.length 0 (omega arith)
      ∙ get_or-set_same w1 (policy_at c.policies + 1) (base + t.start) 0 (let r = policy_room in let o = g.fits.room in simp length-set (omega arith))

  size_there : word_at after (policy_at c.policies + 2) ≡ t.length
  unfolding with_policy
  size_there = get_or-set_same w2 (policy_at c.policies + 2) t.length 0 (let r = policy_room in let o = g.fits.room in simp length-set (omega arith))

  text_there : policy_text text after c.policies ≡ name_at s t
  unfolding policy_text name_at
  text_there = rw (start_there, size_there) (part_of_line text base s t.start t.length g.line g.inside)

  tree_there : (tree : QueryText) → query_text (name_at s t) ≡ just tree → tree_of (policy_text text after c.policies) ≡ tree
  unfolding tree_of tree_or
  tree_there tree e = ap (λ (v : Bytes). tree_or (query_text v)) text_there ∙ ap tree_or e

  fits_there : PolicyFits text after c.categories c.policies
  fits_there = record {
    counted = rw number_there is_declared;
    inside = rw (start_there, size_there) (omega (arith, g.line.inside, g.inside));
    is_query = ap query_text text_there ∙ is_query.1 ∙ ap just (sym (tree_there is_query.0 is_query.1));
  }

  name_there : name_of text after names m ≡ name_at s cat
  name_there = name_kept text words after names c.categories agrees.named m is_declared ∙ named_so

  pub policy_stored : PolicyAdded text words after c s cat t (more_policies c)
  policy_stored =
      let holds = policy_added text words after c (rules_at text words c) (record { fits = g.fits; is = refl }) agrees m
      (length (name_at s t)) number_there fits_there (rw name_there tests.1) in
      record {
        fits = holds.fits;
        is = λ tree e. holds.is ∙ ap (λ (v : Bytes). add_rule (rules_at text words c)
            (policy v (length (name_at s t)) (tree_of (policy_text text after c.policies)))) name_there
            ∙ ap (λ (v : QueryText). add_rule (rules_at text words c) (policy (name_at s cat) (length (name_at s t)) v)) (tree_there tree e);
      }
