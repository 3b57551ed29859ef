-- Each answer told, by what it gives and what is told of its verdict.
use Prim.Native.Nat.{ℕ}
use mathlib.Core.Path.{◌≡◌, refl, sym, subst, ◌∙◌}
use mathlib.Core.Bool.{Bool, false, cond}
use Rattle.std.specs.Prelude.{Result, Ok, Err, MatchResult}
use Rattle.std.specs.Result.{result_unwrap_or}
use Rattle.model.specs.Answers.{book_answer, rules_answer, writer_answer, list_answer, lamp_answer}
use Rattle.model.specs.declared.Refusal.{Refusal as RefusalData}
use Rattle.model.specs.declared.BookSize.{BookSize}
use Rattle.model.specs.declared.RulesSize.{RulesSize}
use Rattle.model.specs.declared.RowsSize.{RowsSize}
use Rattle.telling.specs.Told.{VerdictTold, BookTold, NamesTold, RulesTold, CountTold, RowsTold, LampTold}
use Rattle.telling.proofs.ToldLaws.{accepted_told, accepted_value, refused_told, refused_value}

module _ {b : Bool} {x t l : ℕ} where
  -- a book, and the names of its nodes
  pub book_told : (r : Result BookSize RefusalData) (s : BookSize) → s ≡ result_unwrap_or r (record { nodes = 0; relationships = 0; entries = 0 })
      → VerdictTold r b x t l → BookTold (book_answer r) b s.nodes s.relationships s.entries x t l
  unfolding book_answer
  book_told (Ok a) s e w = subst (λ (z : BookSize). BookTold (book_answer (Ok a)) b z.nodes z.relationships z.entries x t l) (sym e) (record {
    told_as = accepted_told refl w;
    nodes = accepted_value refl (λ a. a.nodes);
    relationships = accepted_value refl (λ a. a.rels);
    entries = accepted_value refl (λ a. a.entries);
  })
  book_told (Err q) s e w = subst (λ (z : BookSize). BookTold (book_answer (Err q)) b z.nodes z.relationships z.entries x t l) (sym e) (record {
    told_as = refused_told q refl w;
    nodes = refused_value q refl (λ a. a.nodes);
    relationships = refused_value q refl (λ a. a.rels);
    entries = refused_value q refl (λ a. a.entries);
  })

  pub names_told : (r : Result BookSize RefusalData) (n : ℕ) → MatchResult r (λ s. n ≡ s.nodes) (λ q. n ≡ 0)
      → VerdictTold r b x t l → NamesTold (book_answer r) b n x t l
  names_told (Ok a) n e w = let told = book_told (Ok a) a refl w in record { told_as = told.told_as; count = e ∙ told.nodes }
  names_told (Err q) n e w = let told = book_told (Err q) _ refl w in record { told_as = told.told_as; count = e ∙ told.nodes }

  -- rules
  pub rules_told : (r : Result RulesSize RefusalData) (s : RulesSize) → s ≡ result_unwrap_or r (record { categories = 0; policies = 0 })
      → VerdictTold r b x t l → RulesTold (rules_answer r) b s.categories s.policies x t l
  unfolding rules_answer
  rules_told (Ok a) s e w = subst (λ (z : RulesSize). RulesTold (rules_answer (Ok a)) b z.categories z.policies x t l) (sym e) (record {
    told_as = accepted_told refl w;
    categories = accepted_value refl (λ a. a.categories);
    policies = accepted_value refl (λ a. a.policies);
  })
  rules_told (Err q) s e w = subst (λ (z : RulesSize). RulesTold (rules_answer (Err q)) b z.categories z.policies x t l) (sym e) (record {
    told_as = refused_told q refl w;
    categories = refused_value q refl (λ a. a.categories);
    policies = refused_value q refl (λ a. a.policies);
  })

  -- a written query
  pub length_told : (r : Result ℕ RefusalData) (n : ℕ) → n ≡ result_unwrap_or r 0 → VerdictTold r b x t l → CountTold (writer_answer r) b n x t l
  unfolding writer_answer
  length_told (Ok a) n e w = subst (λ (z : ℕ). CountTold (writer_answer (Ok a)) b z x t l) (sym e)
      (record { told_as = accepted_told refl w; count = accepted_value refl (λ a. a) })
  length_told (Err q) n e w = subst (λ (z : ℕ). CountTold (writer_answer (Err q)) b z x t l) (sym e)
      (record { told_as = refused_told q refl w; count = refused_value q refl (λ a. a) })

  -- a list
  pub rows_told : (r : Result RowsSize RefusalData) (s : RowsSize) → s ≡ result_unwrap_or r (record { rows = 0; width = 0 })
      → VerdictTold r b x t l → RowsTold (list_answer r) b s.rows s.width x t l
  unfolding list_answer
  rows_told (Ok a) s e w = subst (λ (z : RowsSize). RowsTold (list_answer (Ok a)) b z.rows z.width x t l) (sym e)
      (record { told_as = accepted_told refl w; count = accepted_value refl (λ a. a.rows); width = accepted_value refl (λ a. a.width) })
  rows_told (Err q) s e w = subst (λ (z : RowsSize). RowsTold (list_answer (Err q)) b z.rows z.width x t l) (sym e)
      (record { told_as = refused_told q refl w; count = refused_value q refl (λ a. a.rows); width = refused_value q refl (λ a. a.width) })

  -- the lamp
  pub lamp_told : (r : Result Bool RefusalData) (y : ℕ) → y ≡ cond (result_unwrap_or r false) 1 0 → VerdictTold r b x t l → LampTold (lamp_answer r) b y x t l
  unfolding lamp_answer
  lamp_told (Ok a) y e w = subst (λ (z : ℕ). LampTold (lamp_answer (Ok a)) b z x t l) (sym e)
      (record { told_as = accepted_told refl w; yes = accepted_value refl (λ a. cond a 1 0) })
  lamp_told (Err q) y e w = subst (λ (z : ℕ). LampTold (lamp_answer (Err q)) b z x t l) (sym e)
      (record { told_as = refused_told q refl w; yes = refused_value q refl (λ a. cond a 1 0) })
