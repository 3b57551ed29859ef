-- The texts that are woven have no fault: so an enforced policy's pattern can be read, and what it names is there. Assumes nothing.
use Prim.Native.Nat.{ℕ, zero, suc, ◌+◌, ◌≤◌, ◌<◌}
use mathlib.Core.Path.{◌≡◌, refl, sym, ap, subst, ◌∙◌}
use mathlib.Core.Logic.{⊎_elim}
use mathlib.Core.List.Memᴰ.{append_left}
use mathlib.Core.List.Memᴰ.{cases_cons}
use mathlib.Core.List.{List, [], ◌∷◌}
use mathlib.Core.Bool.{Bool}
use native.Mathlib.Omega.{arith}
use lib.ListN.{length, take, drop}
use lib.Dec.{T}
use Rattle.model.specs.Bytes.{Bytes}
use Rattle.model.specs.Choice.{nothing, just}
use Rattle.model.specs.Lists.{all}
use Rattle.model.specs.Lines.{is_allowed, lines_of, read_lines}
use Rattle.model.specs.Refusal.{on_accept}
use Rattle.model.specs.Book.{Book}
use Rattle.model.specs.Grammar.{query_text}
use Rattle.model.specs.ReadQuery.{query_fault}
use Rattle.model.specs.Rules.{Rules}
use Rattle.model.specs.ReadRules.{rules_step, covered, read_rules}
use Rattle.model.specs.Request.{Request}
use Rattle.model.specs.Graph.{Each}
use Rattle.model.specs.Weave.{Asked}
use Rattle.model.specs.Answers.{part_of}
use Rattle.model.proofs.Decides.{pick_iff}
use Rattle.model.proofs.Members.{◌∈◌, each_i}
use Rattle.model.proofs.ByNodes.{Named}
use Rattle.model.proofs.Outcomes.{BytesAccepted, bytes_accepted}
use Rattle.model.proofs.AllowedBytes.{Allowed, all_drop, line_allowed}
use Rattle.model.proofs.AcceptedQuery.{QueryAccepted, query_accepted, clear_names}
use Rattle.model.proofs.ReadBack.{NonEmpty}
use Rattle.model.proofs.WellFormed.{wellformed}
use Rattle.model.proofs.AcceptedRules.{policy_is_query, rules_named, asked_policy}
use Rattle.book_tables.specs.declared.BookCounts.{BookCounts}
use Rattle.book_tables.specs.View.{book_at, name_of, word_at}
use Rattle.query_faults.specs.TextFault.{number_or, tree_fault, text_fault}
use Rattle.rules_tables.specs.declared.RulesCounts.{RulesCounts}
use Rattle.rules_tables.specs.Layout.{names, policy_at}
use Rattle.rules_tables.specs.View.{tree_of, policy_text, policy_of, rules_at}
use Rattle.rules_tables.proofs.Lowers.{listed_i}
use Rattle.weave.proofs.OneMore.{Sound}
use Rattle.weave.proofs.Ranges.{pattern_ranged}
use Rattle.query.specs.PatternRead.{PatternAsked}
use Rattle.enforce.specs.Texts.{texts_below}
use Rattle.enforce.specs.Ready.{TextsClear}
use Rattle.enforce.proofs.TextLaws.{policies_are, texts_rest}

all_take : (p : ℕ → Bool) (k : ℕ) (s : Bytes) → T (all p s) → T (all p (take k s))
unfolding all
all_take p zero s t = tt
all_take p (suc k) [] t = tt
all_take p (suc k) (b ∷ s) t = let u = (pick_iff (p b) (all p s)).1 t in (pick_iff (p b) (all p (take k s))).0 (u.0, all_take p k s u.1)

module _ (book : Bytes) (words : List ℕ) (k : BookCounts) (query rules : Bytes) (rules_words : List ℕ) (rc : RulesCounts) (category : ℕ)
    (clear : TextsClear book words k query rules rules_words rc category) where
  abbrev b : Book
  b = book_at book words k

  abbrev r : Rules
  r = rules_at rules rules_words rc

  -- the query is read as its tree, in few and allowed bytes
  read : QueryAccepted b query (tree_of query)
  read = query_accepted b query (tree_of query) clear.query_read

  pub query_tree : query_text query ≡ just (tree_of query)
  query_tree = read.is_text

  pub query_short : length query ≤ 2048
  query_short = read.short

  query_named : Named (tree_of query)
  query_named = (clear_names b (tree_of query) read.faultless).declared

  -- and it returns something
  pub some_returned : 0 < length (tree_of query).returns
  some_returned = some_in (tree_of query).returns (wellformed query (tree_of query) (line_allowed 1 query read.allowed) query_tree).some_return
    where
      some_in : (l : List Bytes) → NonEmpty l → 0 < length l
      some_in [] h = elim h [ ]
      some_in (x ∷ l) h = omega arith

  -- accepted rules are short and of allowed bytes
  rules_bytes : BytesAccepted 16384 rules (on_accept (read_lines 2 (rules_step b) 1 (record { categories = []; policies = [] }) (lines_of rules)) covered) r
  unfolding read_rules
  rules_bytes = bytes_accepted 2 16384 (λ l. l) rules _ r clear.rules_read

  pub rules_short : length rules ≤ 16384
  rules_short = rules_bytes.short

  -- the text of a policy
  module _ (i : ℕ) (h : i < rc.policies) where
    policy_there : policy_of rules rules_words i ∈ r.policies
    unfolding rules_at
    policy_there = listed_i (policy_of rules rules_words) rc.policies i h

    pub policy_clear : text_fault b (policy_text rules rules_words i) ≡ 0
    unfolding text_fault tree_fault number_or policy_of
    policy_clear =
        let found = policy_is_query b rules r clear.rules_read (policy_of rules rules_words i) policy_there in
        let faultless : query_fault b (tree_of (policy_text rules rules_words i)) ≡ nothing = (query_accepted b found.0 _ found.1).faultless in
        ap (tree_fault b) (clear.rules_fit.policies i h).is_query ∙ ap number_or faultless

    policy_allowed : Allowed (policy_text rules rules_words i)
    unfolding policy_text part_of
    policy_allowed = all_take is_allowed (word_at rules_words (policy_at i + 2)) (drop (word_at rules_words (policy_at i + 1)) rules)
        (all_drop is_allowed (word_at rules_words (policy_at i + 1)) rules (line_allowed 1 rules rules_bytes.allowed))

    pub policy_asked_law : PatternAsked book words k (policy_text rules rules_words i)
    policy_asked_law = record { fits = clear.fits; clear = policy_clear; allowed = policy_allowed }

  -- every text names what stands in it
  pub texts_named : (a : Asked) → a ∈ texts_below query rules rules_words rc category rc.categories → Named a.text
  unfolding texts_below
  texts_named a i =
      let x : Request = record { category = name_of rules rules_words names category; identities = [] } in
      ⊎_elim (λ e. subst (λ (z : Asked). Named z.text) (sym e) query_named)
      (λ j. let p = asked_policy r x a (subst (λ z. a ∈ z)
      (sym (policies_are query rules rules_words rc clear.rules_fit category clear.counted x refl)) j) in
      subst (λ (z : Asked). Named z.text) (sym p.2) (rules_named b rules r clear.rules_read p.0 p.1))
      (cases_cons i)

  pub texts_sound : Each Sound (texts_below query rules rules_words rc category rc.categories)
  texts_sound = each_i Sound (texts_below query rules rules_words rc category rc.categories) (λ a i. pattern_ranged a.text (texts_named a i))

  pub texts_sound_below : (m : ℕ) → m ≤ rc.categories → Each Sound (texts_below query rules rules_words rc category m)
  texts_sound_below m h =
      let rest = texts_rest query rules rules_words rc category m h in
      each_i Sound (texts_below query rules rules_words rc category m)
      (λ a i. pattern_ranged a.text (texts_named a (subst (λ z. a ∈ z) (sym rest.1) (append_left rest.0 i))))
