-- The words hold the woven pattern of the texts so far: of the query alone, and with one category more. Assumes nothing.
use Prim.Native.Nat.{ℕ, ◌+◌, ◌-◌, ◌/◌, ◌%◌, ◌≤◌, ◌<◌}
use mathlib.Core.Path.{◌≡◌, sym, ap, subst, ◌∙◌}
use mathlib.Core.List.{List, [], ◌∷◌, ◌++◌, map, append_assoc}
use mathlib.Core.Bool.{true}
use native.Mathlib.Omega.{arith}
use lib.ListN.{length, get_or, take, drop, length-append, length-drop}
use lib.Seq.{get_or-drop, length-take-le, take_all}
use Rattle.std.specs.Prelude.{Option, None, Some}
use Rattle.bits.specs.Word.{bit}
use Rattle.model.specs.Bytes.{Bytes}
use Rattle.model.specs.Book.{Book}
use Rattle.model.specs.Pattern.{pattern_of}
use Rattle.model.specs.Graph.{Each}
use Rattle.model.specs.Weave.{Asked, weave, woven_fault}
use Rattle.model.specs.Answers.{part_of, pattern_in}
use Rattle.model.specs.declared.Pattern.{Pattern}
use Rattle.book_tables.specs.declared.BookCounts.{BookCounts}
use Rattle.book_tables.specs.View.{book_at, word_at, name_in, name_of as name_numbered, names_at}
use Rattle.book_tables.specs.Fits.{NamesFit}
use Rattle.book_tables.proofs.ListedLaws.{listed_same}
use Rattle.rules_tables.specs.declared.RulesCounts.{RulesCounts}
use Rattle.rules_tables.specs.Layout.{actor_count_at, actors_from, policy_at}
use Rattle.rules_tables.specs.View.{actors_at, lower_set, tree_of, policy_text, rules_at}
use Rattle.rules_tables.specs.Enforced.{policy_place, enforced_below}
use Rattle.woven_tables.specs.declared.WovenCounts.{WovenCounts}
use Rattle.woven_tables.specs.Tables.{text_of, ActorsInside, woven_at, actors_at as actors_in, woven_words}
use Rattle.model.specs.PlainData.{PartsWithin}
use Rattle.weave.specs.Adding.{Kept, no_counts, TextAdded}
use Rattle.weave.proofs.OneMore.{Sound}
use Rattle.weave.proofs.Parts.{pattern_in_front}
use Rattle.weave.proofs.Whole.{none_kept, none_woven, text_held, text_passed}
use Rattle.weave.proofs.Parts.{text_rules}
use Rattle.query.specs.PatternRead.{PatternAsked, PatternRead}
use Rattle.query.proofs.ReadLaws.{pattern_asked}
use Rattle.enforce.specs.declared.TextPlace.{TextPlace}
use Rattle.enforce.specs.Texts.{query_asked, policy_asked, texts_below}
use Rattle.enforce.specs.OneNamed.{Declared}
use Rattle.enforce.specs.Ready.{TextsClear, TextReady, Held}
use Rattle.enforce.specs.Woven.{LimitPassed, TextWoven}
use Rattle.enforce.proofs.DeclaredLaws.{none_declared, text_declared}
use Rattle.enforce.proofs.TextLaws.{with_policy_law, policy_text_law, texts_rest, some_text, few_texts}
use Rattle.enforce.proofs.ClearLaws.{query_tree, query_short, rules_short, policy_asked_law, texts_sound, texts_sound_below}

-- the actors of a category, from their first word on
pub own_actors : (rules : Bytes) (words : List ℕ) (category : ℕ)
    → actors_in rules (take (length words - actors_from category) (drop (actors_from category) words)) (word_at words (actor_count_at category))
    ≡ actors_at rules words category
unfolding actors_in actors_at names_at name_numbered
own_actors rules words category =
    ap (λ z. actors_in rules z (word_at words (actor_count_at category)))
    (take_all (length words - actors_from category) (drop (actors_from category) words) (simp length-drop (omega arith)))
    ∙ listed_same _ _ (word_at words (actor_count_at category)) (λ i h. ap (name_in rules) (get_or-drop (actors_from category) words i 0))

pub actors_inside : (rules : Bytes) (words : List ℕ) (category : ℕ)
    → NamesFit rules words (actors_from category) (word_at words (actor_count_at category))
    → ActorsInside rules (take (length words - actors_from category) (drop (actors_from category) words)) (word_at words (actor_count_at category))
actors_inside rules words category fit i l =
    let all = take_all (length words - actors_from category) (drop (actors_from category) words) (simp length-drop (omega arith)) in
    subst (λ w. w / 32 + w % 32 ≤ length rules) (sym (ap (λ z. get_or z i 0) all ∙ get_or-drop (actors_from category) words i 0)) (fit.inside i l)

-- the part of the rules that is a policy's text
pub policy_part : (rules : Bytes) (words : List ℕ) (i : ℕ)
    → take (word_at words (policy_at i + 1) + word_at words (policy_at i + 2) - word_at words (policy_at i + 1)) (drop (word_at words (policy_at i + 1)) rules)
    ≡ policy_text rules words i
unfolding policy_text part_of
policy_part rules words i =
    let e : word_at words (policy_at i + 1) + word_at words (policy_at i + 2) - word_at words (policy_at i + 1) ≡ word_at words (policy_at i + 2) = omega arith in
    ap (λ n. take n (drop (word_at words (policy_at i + 1)) rules)) e

module _ (book : Bytes) (words : List ℕ) (k : BookCounts) (query rules : Bytes) (rules_words : List ℕ) (rc : RulesCounts) (category : ℕ)
    (clear : TextsClear book words k query rules rules_words rc category) where
  abbrev b : Book
  b = book_at book words k

  abbrev below : ℕ → List Asked
  below m = texts_below query rules rules_words rc category m

  -- the query is woven, or passes a limit
  module _ (old : List ℕ) (c : WovenCounts) (none : c ≡ no_counts) where
    abbrev first : TextPlace
    first = record { category = category; number = 0; base = 0 }

    pub query_ready : woven_words ≤ length old → TextReady book words k query query rules rules_words first old c
    unfolding text_of
    query_ready room = record {
      asked = pattern_asked book words k query (tree_of query) clear.fits clear.query_read;
      short = omega (arith, query_short book words k query rules rules_words rc category clear);
      stands = omega arith;
      room = clear.rules_fit.room;
      low = omega (arith, clear.rules_fit.few, clear.counted);
      few_actors = (clear.rules_fit.each category clear.counted).few_actors;
      actors = (clear.rules_fit.each category clear.counted).actors;
      kept = subst (Kept query rules old) (sym none) (none_kept query rules old room);
      few_texts = omega arith;
    }

    module _ (new : List ℕ) (out : Option WovenCounts) (woven : TextWoven b k query query rules (actors_at rules rules_words category) first old new c out) where
      abbrev of_query : Pattern
      of_query = woven.0

      query_added : (o : Option WovenCounts) → out ≡ o → TextAdded query rules (actors_at rules rules_words category) 0 0 of_query old new c o
      query_added o e = subst (TextAdded query rules (actors_at rules rules_words category) 0 0 of_query old new c) e woven.2

      query_pattern : pattern_in b (drop 0 (text_of query rules 0)) of_query ≡ pattern_of (tree_of query)
      unfolding text_of
      query_pattern = woven.1.is (tree_of query) (query_tree book words k query rules rules_words rc category clear)

      pub query_held : (n : WovenCounts) → out ≡ Some n → Held b k query rules rules_words rc category 0 new n
      unfolding texts_below enforced_below
      query_held n e = record {
        kept = (query_added (Some n) e).0;
        held = text_held b query rules [] (query_asked query rules rules_words category) 0 of_query old new c tt
            (ap (woven_at b query rules old) none ∙ none_woven b query rules old) query_pattern n (query_added (Some n) e);
        declared = text_declared k query rules (actors_at rules rules_words category) 0 0 of_query old new c n woven.1.fits
            (subst (Declared k query rules old) (sym none) (none_declared k query rules old)) (query_added (Some n) e);
      }

      pub query_passed : out ≡ None → LimitPassed query rules rules_words rc category
      unfolding texts_below
      query_passed e ids =
          text_passed b query rules [] (query_asked query rules rules_words category) 0 of_query old new c tt
          (ap (woven_at b query rules old) none ∙ none_woven b query rules old) query_pattern (query_added None e)
          (map (policy_asked (rules_at rules rules_words rc)) (enforced_below rules rules_words rc category rc.categories))
          (texts_sound book words k query rules rules_words rc category clear) ids

  -- a category that adds no text
  pub held_on : (m count : ℕ) (woven : List ℕ) (c : WovenCounts) → below m ≡ below (m + 1) → Held b k query rules rules_words rc category m woven c
      → count ≡ length (below m)
      → Held b k query rules rules_words rc category (m + 1) woven c × (count ≡ length (below (m + 1)))
  held_on m count woven c e held many = (record { kept = held.kept; held = held.held ∙ ap weave e; declared = held.declared }, many ∙ ap length e)

  -- a category whose policy is woven, or passes a limit
  module _ (m : ℕ) (low : m < rc.categories) (enforced : bit (lower_set rules_words category) m ≡ true) (i : ℕ) (its : i ≡ policy_place rules_words rc m)
      (there : i < rc.policies) where
    abbrev start : ℕ
    start = word_at rules_words (policy_at i + 1)

    abbrev size : ℕ
    size = word_at rules_words (policy_at i + 2)

    abbrev own : Asked
    own = record { text = tree_of (policy_text rules rules_words i); actors = actors_at rules rules_words m }

    one_more_law : below (m + 1) ≡ below m ++ (own ∷ [])
    one_more_law =
        let found = subst (λ z. z < rc.policies) its there in
        with_policy_law query rules rules_words rc category m enforced found
        ∙ ap (λ z. below m ++ (z ∷ [])) (policy_text_law query rules rules_words rc clear.rules_fit m low found
        ∙ ap (λ z. let a : Asked = record { text = tree_of (policy_text rules rules_words z); actors = actors_at rules rules_words m } in a) (sym its))

    -- where its text stands in the rules
    abbrev part : Bytes
    part = take (start + size - start) (drop start rules)

    part_is : part ≡ policy_text rules rules_words i
    part_is = policy_part rules rules_words i

    inside : start + size ≤ length rules
    inside = (clear.rules_fit.policies i there).inside

    long : length (policy_text rules rules_words i) ≡ size
    unfolding policy_text part_of
    long = length-take-le size (drop start rules) (omega (arith, length-drop start rules, inside))

    module _ (count : ℕ) (many : count ≡ length (below m)) (old : List ℕ) (c : WovenCounts) (held : Held b k query rules rules_words rc category m old c) where
      abbrev place : TextPlace
      place = record { category = m; number = count; base = start }

      pub policy_ready : TextReady book words k part query rules rules_words place old c
      policy_ready = record {
        asked = subst (PatternAsked book words k) (sym part_is) (policy_asked_law book words k query rules rules_words rc category clear i there);
        short = omega (arith, ap length part_is, long, inside, rules_short book words k query rules rules_words rc category clear);
        stands = rw (many, text_rules query rules (length (below m)) (some_text query rules rules_words rc category m))
            (omega (arith, ap length part_is, long, inside));
        room = clear.rules_fit.room;
        low = omega (arith, clear.rules_fit.few, low);
        few_actors = (clear.rules_fit.each m low).few_actors;
        actors = (clear.rules_fit.each m low).actors;
        kept = held.kept;
        few_texts = omega (arith, many, few_texts query rules rules_words rc category m, low, clear.rules_fit.few);
      }

      module _ (new : List ℕ) (out : Option WovenCounts) (woven : TextWoven b k part query rules (actors_at rules rules_words m) place old new c out) where
        abbrev of_policy : Pattern
        of_policy = woven.0

        read : PatternRead b k (policy_text rules rules_words i) of_policy
        read = subst (λ s. PatternRead b k s of_policy) part_is woven.1

        policy_added : (o : Option WovenCounts) → out ≡ o → TextAdded query rules own.actors (length (below m)) start of_policy old new c o
        policy_added o e = subst (λ j. TextAdded query rules own.actors j start of_policy old new c o) many
            (subst (TextAdded query rules own.actors count start of_policy old new c) e woven.2)

        sound : Each Sound (below m)
        sound = texts_sound_below book words k query rules rules_words rc category clear m (omega arith)

        is_pattern : pattern_in b (drop start (text_of query rules (length (below m)))) of_policy ≡ pattern_of own.text
        unfolding policy_text part_of
        is_pattern =
            ap (λ t. pattern_in b (drop start t) of_policy) (text_rules query rules (length (below m)) (some_text query rules rules_words rc category m))
            ∙ sym (pattern_in_front (drop start rules) size b of_policy (subst (λ n. PartsWithin n of_policy) long read.parts))
            ∙ read.is (tree_of (policy_text rules rules_words i)) (clear.rules_fit.policies i there).is_query

        pub policy_held : (n : WovenCounts) → out ≡ Some n → Held b k query rules rules_words rc category (m + 1) new n × (count + 1 ≡ length (below (m + 1)))
        policy_held n e = (
          record {
            kept = (policy_added (Some n) e).0;
            held = text_held b query rules (below m) own start of_policy old new c sound held.held is_pattern n (policy_added (Some n) e)
                ∙ ap weave (sym one_more_law);
            declared = text_declared k query rules own.actors (length (below m)) start of_policy old new c n read.fits held.declared
                (policy_added (Some n) e);
          },
          omega (arith, ap length one_more_law, length-append (below m) (own ∷ [])),
        )

        pub policy_passed : out ≡ None → LimitPassed query rules rules_words rc category
        policy_passed e ids =
            let rest = texts_rest query rules rules_words rc category (m + 1) (omega arith) in
            let whole : below rc.categories ≡ below m ++ (own ∷ rest.0) = rest.1 ∙ ap (λ z. z ++ rest.0) one_more_law
            ∙ append_assoc (below m) (own ∷ []) rest.0 in
            ap (λ z. woven_fault (weave z) ids) whole
            ∙ text_passed b query rules (below m) own start of_policy old new c sound held.held is_pattern (policy_added None e) rest.0
            (subst (Each Sound) whole (texts_sound book words k query rules rules_words rc category clear)) ids
