-- The texts that are woven: the query with the actors of the request's category, then the enforced policies, each with those of its own.
use Rattle.std.specs.Prelude.{ℕ, List, ◌∷◌, map}
use Rattle.model.specs.Bytes.{Bytes}
use Rattle.model.specs.Rules.{Policy, Rules, actors_of}
use Rattle.model.specs.Weave.{Asked}
use Rattle.rules_tables.specs.declared.RulesCounts.{RulesCounts}
use Rattle.rules_tables.specs.View.{actors_at, tree_of, rules_at}
use Rattle.rules_tables.specs.Enforced.{enforced_below}

-- the query as a text to be met
abbrev pub query_asked : Bytes → Bytes → List ℕ → ℕ → Asked
query_asked query rules words category = record { text = tree_of query; actors = actors_at rules words category }

-- a policy as a text to be met
abbrev pub policy_asked : Rules → Policy → Asked
policy_asked r p = record { text = p.text; actors = actors_of r p.category }

-- the query and the enforced policies of the categories below m, in their order
unfoldable pub texts_below : Bytes → Bytes → List ℕ → RulesCounts → ℕ → ℕ → List Asked
texts_below query rules words c category m = query_asked query rules words category ∷ map (policy_asked (rules_at rules words c))
    (enforced_below rules words c category m)
