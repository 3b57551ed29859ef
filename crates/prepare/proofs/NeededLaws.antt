-- A text that is needed is read, and another is not.
use Prim.Native.Nat.{ℕ, ◌≤◌}
use mathlib.Core.Path.{◌≡◌, refl, sym, ap, subst, ◌∙◌}
use mathlib.Core.List.{List}
use mathlib.Core.Bool.{Bool, true, false}
use lib.ListN.{length}
use Rattle.std.specs.Prelude.{Result, Ok, Err, ⊤}
use Rattle.rules_tables.specs.Layout.{all_rules_words}
use Rattle.model.specs.Bytes.{Bytes}
use Rattle.model.specs.Refusal.{accepted}
use Rattle.model.specs.Book.{Book}
use Rattle.model.specs.ReadQuery.{read_query}
use Rattle.model.specs.ReadRules.{read_rules}
use Rattle.model.specs.declared.Refusal.{Refusal}
use Rattle.model.proofs.AcceptedQuery.{query_accepted}
use Rattle.model.specs.declared.RequestRead.{RequestRead}
use Rattle.book_tables.specs.declared.BookCounts.{BookCounts}
use Rattle.rules_tables.specs.declared.RulesCounts.{RulesCounts}
use Rattle.rules_tables.specs.View.{tree_or, tree_of}
use Rattle.rules.specs.Loaded.{Loaded}
use Rattle.rules.proofs.LoadLaws.{empty_is, empty_fits}
use Rattle.query.specs.QueryReads.{QueryReads}
use Rattle.request.specs.RequestReads.{RequestReads}
use Rattle.prepare.specs.Texts.{rules_if, query_if}
use Rattle.prepare.specs.Ready.{none_beside, RulesGiven, QueryGiven, RequestGiven}
use Rattle.model.specs.declared.Refusal.{Refusal}

module _ (needed : Bool) (b : Book) (text : Bytes) where
  pub rules_needed : needed ≡ true → (table : List ℕ) (r : Result RulesCounts Refusal) → Loaded b text table r (read_rules b text)
      → RulesGiven text table (rules_if needed b text) r
  rules_needed e table r h = subst (λ (t : Bool). RulesGiven text table (rules_if t b text) r) (sym e) (go r h)
    where
      go : (r : Result RulesCounts Refusal) → Loaded b text table r (read_rules b text) → RulesGiven text table (read_rules b text) r
      go (Ok c) (is, fits, short) = (is, fits)
      go (Err x) h = h

  pub rules_not_needed : needed ≡ false → (table : List ℕ) → all_rules_words ≤ length table
      → RulesGiven text table (rules_if needed b text) (Ok (record { categories = 0; policies = 0 }))
  rules_not_needed e table room =
      subst (λ (t : Bool). RulesGiven text table (rules_if t b text) (Ok (record { categories = 0; policies = 0 }))) (sym e)
      (ap accepted (sym (empty_is text table _ refl refl)), empty_fits text table _ refl refl room)

  pub query_needed : needed ≡ true → (v : Result ⊤ Refusal) → QueryReads b text v → QueryGiven text (query_if needed b text) v
  unfolding tree_of tree_or
  query_needed e v h = subst (λ (t : Bool). QueryGiven text (query_if t b text) v) (sym e) (go v h)
    where
      go : (v : Result ⊤ Refusal) → QueryReads b text v → QueryGiven text (read_query b text) v
      go (Ok u) (tree, is) = is ∙ ap accepted (sym (ap tree_or (query_accepted b text tree is).is_text))
      go (Err x) h = h

  pub query_not_needed : needed ≡ false → QueryGiven text (query_if needed b text) (Ok tt)
  query_not_needed e = rw e

module _ (needed : Bool) (book : Bytes) (words : List ℕ) (k : BookCounts) (rules : Bytes) (table : List ℕ) (m : RulesCounts) (text : Bytes)
    (r : RequestRead) where
  pub request_needed : needed ≡ true → RequestReads book words k rules table m text r → RequestGiven needed book words k rules table m text r
  request_needed e h = subst (λ (t : Bool). RequestGiven t book words k rules table m text r) (sym e) h

  pub request_not_needed : needed ≡ false → r ≡ none_beside (Ok tt) → RequestGiven needed book words k rules table m text r
  request_not_needed e h = subst (λ (t : Bool). RequestGiven t book words k rules table m text r) (sym e) h
