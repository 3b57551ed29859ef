-- A category's line without a fault, and the words with it.
use Prim.Native.Nat.{ℕ, ◌+◌, ◌*◌, ◌/◌, ◌%◌, ◌≤◌, ◌<◌}
use mathlib.Core.Path.{◌≡◌, refl, sym, ap, subst, ◌∙◌}
use mathlib.Core.List.{List, []}
use mathlib.Core.Bool.{Bool, false, ◌||◌}
use native.Mathlib.Omega.{arith}
use lib.ListN.{length, get_or, set, length-set}
use lib.Seq.{get_or-set_same, get_or-set_other}
use lib.Dec.{T, leb, ltb, eqb, le→leb, lt→ltb}
use Rattle.logic.specs.Tests.{either, below_or_not}
use Rattle.bits.specs.Word.{bit}
use Rattle.model.specs.Bytes.{Bytes}
use Rattle.model.specs.Choice.{nothing}
use Rattle.model.specs.Lists.{all}
use Rattle.model.specs.Names.{mem, twice, place}
use Rattle.model.specs.Book.{empty_book}
use Rattle.model.specs.Answers.{name_at}
use Rattle.model.specs.declared.Part.{Part}
use Rattle.model.specs.ReadRules.{category, rules_fault, add_rule}
use Rattle.model.proofs.Members.{◌∈◌, is_false, all_e, mem_e}
use Rattle.model.proofs.Decides.{not_e, or_l, or_r}
use Rattle.model.proofs.Outcomes.{no_fault}
use Rattle.model.proofs.Places.{at_place, place_at, get_or_in}
use Rattle.book_tables.specs.View.{word_at, name_in, name_of, names_at}
use Rattle.book_tables.specs.Fits.{Inside, NamesFit}
use Rattle.book_tables.specs.Agree.{At}
use Rattle.book_tables.proofs.ListedLaws.{get_or_listed}
use Rattle.book_tables.proofs.NameLaws.{length_names}
use Rattle.book_tables.proofs.AgreeLaws.{name_kept, names_kept}
use Rattle.rules_tables.specs.declared.RulesCounts.{RulesCounts}
use Rattle.rules_tables.specs.Layout.{names, slot, actor_count_at, over_count_at, lower_at, actors_from, over_from, all_rules_words}
use Rattle.rules_tables.specs.View.{actors_at, over_at, lower_set, rules_at}
use Rattle.rules_tables.specs.Fits.{rank, below_some, CategoryFits, Fits, Holds, LowerAsked}
use Rattle.rules_tables.specs.Agree.{Free, Agree}
use Rattle.rules_tables.specs.Stores.{more_categories, with_category}
use Rattle.rules_tables.proofs.AgreeLaws.{set_agrees, agree_trans, any_same, lower_kept, fits_kept}
use Rattle.rules_tables.proofs.Lowers.{category_names_law}
use Rattle.rules_tables.proofs.Added.{category_added}
use Rattle.rules_tables.proofs.Fewer.{fewer_names}
use Rattle.item_forms.specs.Places.{WordPlaces}
use Rattle.name_lists.specs.Names.{NamesRead}
use Rattle.rules.specs.Stored.{LineAt, NamesStored, CategoryClear, CategoryAdded}
use Rattle.rules.proofs.TestLaws.{fault_by_tests}
use Rattle.rules.proofs.StoreLaws.{name_of_line, inside_of_line}

-- what a category's line without a fault keeps to
pub record Clear (text : Bytes) (words : List ℕ) (c : RulesCounts) (n : Bytes) (actors over : List Bytes) : Type 0 where
  pub few : c.categories < 16
  pub few_actors : length actors ≤ 8
  pub few_over : length over ≤ 16
  pub declared : (w : Bytes) → w ∈ over → w ∈ names_at text words names c.categories
  pub actors_once : T (twice actors) → ⊥
  pub over_once : T (twice over) → ⊥
  pub new : mem n (names_at text words names c.categories) ≡ false

module _ (text : Bytes) (words : List ℕ) (c : RulesCounts) (n : Bytes) (actors over : List Bytes) where
  pub clear_facts : rules_fault empty_book (rules_at text words c) (category n actors over) ≡ nothing → Clear text words c n actors over
  clear_facts e =
      let t = (no_fault _).0 (sym (fault_by_tests text words c empty_book n actors over) ∙ e) in
      let there : Bool = mem n (names_at text words names c.categories) in
      let t4 = t.0 in
      let t5 = t.1.0 in
      let t7 = t.1.1.0 in
      let small : c.categories < 16 = either (below_or_not c.categories 16) (λ l. l)
      (λ l. absurd (t7 (or_l (leb 16 c.categories) (ltb 8 (length actors)) (le→leb 16 c.categories l)))) in
      let known : (w : Bytes) → w ∈ over → w ∈ names_at text words names c.categories = λ w m. mem_e w (names_at text words names c.categories)
      (all_e (λ v. mem v (names_at text words names c.categories)) over (not_e (all (λ v. mem v (names_at text words names c.categories)) over) t4)
      w m) in
      let once : T (twice over) → ⊥ = λ u. t5 (or_r (there || twice actors) (twice over) u) in
      record {
        few = small;
        few_actors = either (below_or_not 8 (length actors))
            (λ l. absurd (t7 (or_r (leb 16 c.categories) (ltb 8 (length actors)) (lt→ltb 8 (length actors) l)))) (λ l. l);
        few_over = let l = fewer_names over (names_at text words names c.categories) once known in
            omega (arith, length_names text words names c.categories);
        declared = known;
        actors_once = λ u. t5 (or_l (there || twice actors) (twice over) (or_r there (twice actors) u));
        over_once = once;
        new = is_false there (λ u. t5 (or_l (there || twice actors) (twice over) (or_l there (twice actors) u)));
      }

-- names that stand in the words, none of them twice
fit_once : (text : Bytes) (words : List ℕ) (offset : ℕ) (ns : List Bytes) → names_at text words offset (length ns) ≡ ns → (T (twice ns) → ⊥)
    → ((j : ℕ) → j < length ns → Inside text (word_at words (offset + j) / 32) (word_at words (offset + j) % 32)) → NamesFit text words offset (length ns)
unfolding names_at
fit_once text words offset ns are once inside = record {
  inside = inside;
  differ = λ i j l m e. sym (place_at ns i once l) ∙ ap (λ (w : Bytes). place w ns) (at i l ∙ e ∙ sym (at j m)) ∙ place_at ns j once m;
}
  where
    at : (i : ℕ) → i < length ns → get_or ns i [] ≡ name_of text words offset i
    at i l = ap (λ (v : List Bytes). get_or v i []) (sym are) ∙ get_or_listed (name_of text words offset) (length ns) i [] l

-- storing in the words of the next category changes nothing that is counted
pub stored_agrees : (words words' : List ℕ) (c : RulesCounts) (j : ℕ) (s : Bytes) (base : ℕ) (ns : List Bytes)
    → c.categories < 16 → j + length ns ≤ 27 → NamesStored words words' (slot c.categories + j) s base ns → Agree c words words'
stored_agrees words words' c j s base ns l h st = record {
  size = st.size;
  named = λ k b. st.below (names + k) (omega arith);
  categories = λ x b. st.below (16 + x) (omega arith);
  policies = λ x b. st.above (448 + x) (omega arith);
}

module _ (words : List ℕ) (k name actors over lower : ℕ) (room : all_rules_words ≤ length words) (l : k < 16) where
  abbrev after : List ℕ
  after = with_category words k name actors over lower

  abbrev w1 : List ℕ
  w1 = set words (names + k) name

  abbrev w2 : List ℕ
  w2 = set w1 (actor_count_at k) actors

  abbrev w3 : List ℕ
  w3 = set w2 (over_count_at k) over

  pub after_agrees : (c : RulesCounts) → c.categories ≡ k → Agree c words after
  unfolding with_category
  after_agrees c e =
      let f0 : Free c (names + k) = omega arith in
      let f1 : Free c (actor_count_at k) = omega arith in
      let f2 : Free c (over_count_at k) = omega arith in
      let f3 : Free c (lower_at k) = omega arith in
      agree_trans c words w1 (set w3 (lower_at k) lower) (set_agrees c words (names + k) name f0)
      (agree_trans c w1 w2 (set w3 (lower_at k) lower) (set_agrees c w1 (actor_count_at k) actors f1)
      (agree_trans c w2 w3 (set w3 (lower_at k) lower) (set_agrees c w2 (over_count_at k) over f2) (set_agrees c w3 (lower_at k) lower f3)))

  other : (z : ℕ) → 19 + 27 * k ≤ z → word_at after z ≡ word_at words z
  unfolding with_category
  other z h =
      get_or-set_other w3 (lower_at k) z lower 0 (omega arith) ∙ get_or-set_other w2 (over_count_at k) z over 0 (omega arith)
      ∙ get_or-set_other w1 (actor_count_at k) z actors 0 (omega arith) ∙ get_or-set_other words (names + k) z name 0 (omega arith)

  name_there : word_at after (names + k) ≡ name
  unfolding with_category
  name_there =
      get_or-set_other w3 (lower_at k) (names + k) lower 0 (omega arith) ∙ get_or-set_other w2 (over_count_at k) (names + k) over 0 (omega arith)
      ∙ get_or-set_other w1 (actor_count_at k) (names + k) actors 0 (omega arith) ∙ get_or-set_same words (names + k) name 0 (omega arith)

  actors_there : word_at after (actor_count_at k) ≡ actors
  unfolding with_category
  actors_there =
      get_or-set_other w3 (lower_at k) (actor_count_at k) lower 0 (omega arith) ∙ get_or-set_other w2 (over_count_at k) (actor_count_at k) over 0 (omega arith)
      ∙ get_or-set_same (set words (names + k) name) (actor_count_at k) actors 0 (omega (arith, length-set words (names + k) name))

  over_there : word_at after (over_count_at k) ≡ over
  unfolding with_category
  over_there =
      get_or-set_other w3 (lower_at k) (over_count_at k) lower 0 (omega arith)
      ∙ get_or-set_same (set (set words (names + k) name) (actor_count_at k) actors) (over_count_at k) over 0 (simp length-set (omega arith))

  lower_there : word_at after (lower_at k) ≡ lower
  unfolding with_category
  lower_there = get_or-set_same (set (set (set words (names + k) name) (actor_count_at k) actors) (over_count_at k) over) (lower_at k) lower 0
      (simp length-set (omega arith))

-- the words after a category's line
module _ (text : Bytes) (words words1 words2 : List ℕ) (c : RulesCounts) (s : Bytes) (base : ℕ) (cat : Part) (xs ys : List Bytes) (f : Fits text words c)
    (line : LineAt text base s) (h : WordPlaces s 0 cat)
    (clear : Clear text words c (name_at s cat) xs ys)
    (st1 : NamesStored words words1 (actors_from c.categories) s base xs)
    (st2 : NamesStored words1 words2 (over_from c.categories) s base ys) where
  agree2 : Agree c words words2
  agree2 = agree_trans c words words1 words2 (stored_agrees words words1 c 3 s base xs clear.few (omega (arith, clear.few_actors)) st1)
      (stored_agrees words1 words2 c 11 s base ys clear.few (omega (arith, clear.few_over)) st2)

  fits2 : Fits text words2 c
  fits2 = fits_kept text words words2 c agree2 f

  over_fit : NamesFit text words2 (over_from c.categories) (length ys)
  over_fit = fit_once text words2 (over_from c.categories) ys (st2.are text line) clear.over_once (st2.inside text line)

  names2 : names_at text words2 names c.categories ≡ names_at text words names c.categories
  names2 = names_kept text words words2 names c.categories agree2.named

  over_name : (i : ℕ) → i < length ys → get_or ys i [] ≡ name_of text words2 (over_from c.categories) i
  unfolding names_at
  over_name i l = ap (λ (v : List Bytes). get_or v i []) (sym (st2.are text line))
      ∙ get_or_listed (name_of text words2 (over_from c.categories)) (length ys) i [] l

  over_earlier : (i : ℕ) → i < length ys → rank text words2 c.categories (name_of text words2 (over_from c.categories) i) < c.categories
  over_earlier i l =
      let e = over_name i l in
      let m = clear.declared (get_or ys i []) (get_or_in ys i [] l) in
      let z = (at_place (names_at text words names c.categories) (get_or ys i []) m).0 in
      rw (names2, ← e) (omega (arith, z, length_names text words names c.categories))

  pub lower_asked : LowerAsked text words2 c.categories (length ys)
  lower_asked = record {
    room = fits2.room;
    few = clear.few;
    few_over = clear.few_over;
    named = fits2.named;
    listed = over_fit;
    earlier = over_earlier;
  }

  module _ (lower : ℕ) (low : (m : ℕ) → bit lower m
      ≡ (eqb m c.categories || below_some text words2 c.categories m (names_at text words2 (over_from c.categories) (length ys)))) where
    abbrev words3 : List ℕ
    words3 = with_category words2 c.categories ((base + cat.start) * 32 + cat.length) (length xs) (length ys) lower

    agree3 : Agree c words2 words3
    agree3 = after_agrees words2 c.categories ((base + cat.start) * 32 + cat.length) (length xs) (length ys) lower fits2.room clear.few c refl

    same3 : (z : ℕ) → 19 + 27 * c.categories ≤ z → word_at words3 z ≡ word_at words2 z
    same3 = other words2 c.categories ((base + cat.start) * 32 + cat.length) (length xs) (length ys) lower fits2.room clear.few

    actors_count : word_at words3 (actor_count_at c.categories) ≡ length xs
    actors_count = actors_there words2 c.categories ((base + cat.start) * 32 + cat.length) (length xs) (length ys) lower fits2.room clear.few

    over_count : word_at words3 (over_count_at c.categories) ≡ length ys
    over_count = over_there words2 c.categories ((base + cat.start) * 32 + cat.length) (length xs) (length ys) lower fits2.room clear.few

    actor_words : (i : ℕ) → i < length xs → At words1 words3 (actors_from c.categories + i)
    actor_words i l = same3 _ (omega arith) ∙ st2.below _ (omega (arith, clear.few_actors))

    over_words : (i : ℕ) → i < length ys → At words2 words3 (over_from c.categories + i)
    over_words i l = same3 _ (omega arith)

    actors_are : names_at text words3 (actors_from c.categories) (length xs) ≡ xs
    actors_are = names_kept text words1 words3 (actors_from c.categories) (length xs) actor_words ∙ st1.are text line

    over_are : names_at text words3 (over_from c.categories) (length ys) ≡ ys
    over_are = names_kept text words2 words3 (over_from c.categories) (length ys) over_words ∙ st2.are text line

    ranks_kept : (w : Bytes) → rank text words3 c.categories w ≡ rank text words2 c.categories w
    ranks_kept w = ap (place w) (names_kept text words2 words3 names c.categories agree3.named)

    below_same : (m : ℕ) → below_some text words3 c.categories m (names_at text words3 (over_from c.categories) (length ys))
        ≡ below_some text words2 c.categories m (names_at text words2 (over_from c.categories) (length ys))
    unfolding names_at
    below_same m =
        ap (below_some text words3 c.categories m) (names_kept text words2 words3 (over_from c.categories) (length ys) over_words)
        ∙ any_same (λ o. bit (lower_set words3 (rank text words3 c.categories o)) m) (λ o. bit (lower_set words2 (rank text words2 c.categories o)) m)
        (name_of text words2 (over_from c.categories)) (length ys)
        (λ i l. rw (ranks_kept (name_of text words2 (over_from c.categories) i))
        (ap (λ (w : ℕ). bit w m) (lower_kept text words2 words3 c agree3
        (rank text words2 c.categories (name_of text words2 (over_from c.categories) i)) (over_earlier i l))))

    slot_fits : CategoryFits text words3 c.categories
    unfolding over_at
    slot_fits = record {
      few_actors = rw actors_count clear.few_actors;
      few_over = rw over_count clear.few_over;
      actors = rw actors_count (fit_once text words3 (actors_from c.categories) xs actors_are clear.actors_once
          (λ j l. rw (actor_words j l) (st1.inside text line j l)));
      over = rw over_count (fit_once text words3 (over_from c.categories) ys over_are clear.over_once
          (λ j l. rw (over_words j l) (st2.inside text line j l)));
      earlier = λ i l. let l' : i < length ys = rw over_count at l in
          rw (
            name_kept text words2 words3 (over_from c.categories) (length ys) over_words i l',
            ranks_kept
                (name_of text words2 (over_from c.categories) i),
          ) (over_earlier i l');
      lower = λ m. ap (λ (w : ℕ). bit w m) (lower_there words2 c.categories ((base + cat.start) * 32 + cat.length) (length xs) (length ys) lower
          fits2.room clear.few)
          ∙ low m ∙ rw over_count (ap (λ (b : Bool). eqb m c.categories || b) (sym (below_same m)));
    }

    name_word : word_at words3 (names + c.categories) ≡ (base + cat.start) * 32 + cat.length
    name_word = name_there words2 c.categories ((base + cat.start) * 32 + cat.length) (length xs) (length ys) lower fits2.room clear.few

    name_is : name_of text words3 names c.categories ≡ name_at s cat
    unfolding name_of
    name_is = ap (name_in text) name_word ∙ name_of_line text base s 0 cat line h

    pub category_stored : Holds text words3 (more_categories c) (add_rule (rules_at text words c) (category (name_at s cat) xs ys))
    unfolding actors_at over_at
    category_stored =
        let a = agree_trans c words words2 words3 agree2 agree3 in
        let r = category_added text words words3 c (rules_at text words c) (record { fits = f; is = refl }) a clear.few
        (rw name_word (inside_of_line text base s 0 cat line h)) (rw (name_is, category_names_law text words c) clear.new) slot_fits in
        subst (λ (v : List Bytes). Holds text words3 (more_categories c) (add_rule (rules_at text words c) (category (name_at s cat) xs v)))
        (ap (names_at text words3 (over_from c.categories)) over_count ∙ over_are)
        (subst (λ (v : List Bytes). Holds text words3 (more_categories c)
        (add_rule (rules_at text words c) (category (name_at s cat) v (over_at text words3 c.categories))))
        (ap (names_at text words3 (actors_from c.categories)) actors_count ∙ actors_are)
        (subst (λ (v : Bytes). Holds text words3 (more_categories c)
        (add_rule (rules_at text words c) (category v (actors_at text words3 c.categories) (over_at text words3 c.categories)))) name_is r))

    -- the same, by what the stores answer
    pub category_done : (words' : List ℕ) (n m : ℕ) → n ≡ length xs → m ≡ length ys
        → words' ≡ with_category words2 c.categories ((base + cat.start) * 32 + cat.length) n m lower
        → Holds text words' (more_categories c) (add_rule (rules_at text words c) (category (name_at s cat) xs ys))
    category_done words' n m ea eo e = subst (λ (w : List ℕ). Holds text w (more_categories c) (add_rule (rules_at text words c) (category (name_at s cat) xs ys)))
        (ap (λ (v : ℕ). with_category words2 c.categories ((base + cat.start) * 32 + cat.length) (length xs) v lower) (sym eo)
        ∙ ap (λ (v : ℕ). with_category words2 c.categories ((base + cat.start) * 32 + cat.length) v m lower) (sym ea) ∙ sym e) category_stored

-- a line without a fault
module _ (text : Bytes) (words : List ℕ) (c : RulesCounts) (s : Bytes) (base : ℕ) (cat : Part) (a o : ℕ) (g : CategoryClear text words c s base cat a o) where
  pub clear_of : Clear text words c (name_at s cat) g.actors.names g.over.names
  clear_of = clear_facts text words c (name_at s cat) g.actors.names g.over.names (g.clear empty_book)

  pub added_of : (words' : List ℕ) → Holds text words' (more_categories c)
      (add_rule (rules_at text words c) (category (name_at s cat) g.actors.names g.over.names))
      → CategoryAdded text words words' c s cat a o (more_categories c)
  added_of words' holds = record {
    fits = holds.fits;
    is = λ x y ex ey.
        let ga = g.actors_are in
        let go = g.over_are in
        let dx : g.actors ≡ x = cc in
        let dy : g.over ≡ y = cc in
        holds.is ∙ ap (λ (v : NamesRead). add_rule (rules_at text words c) (category (name_at s cat) v.names g.over.names)) dx
        ∙ ap (λ (v : NamesRead). add_rule (rules_at text words c) (category (name_at s cat) x.names v.names)) dy;
  }
