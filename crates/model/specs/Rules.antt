-- The rules: categories, what they are over, and the policies that are enforced.
use Rattle.std.specs.Prelude.{ℕ, zero, suc, List, [], ◌∷◌, map, ◌&&◌, ◌||◌, length}
use Rattle.model.specs.Bytes.{same}
use Rattle.model.specs.Choice.{pick}
use Rattle.model.specs.Lists.{any, keep, joined, ◌∈◌}
use Rattle.model.specs.Names.{Name, mem}
use Rattle.model.specs.QueryText.{QueryText}

-- a category with its actors and the categories it is over
pub record Category : Type 0 where
  pub name : Name
  pub actors : List Name
  pub over : List Name

-- a policy of a category
pub record Policy : Type 0 where
  pub category : Name
  pub text : QueryText

-- all in rules order
pub record Rules : Type 0 where
  pub categories : List Category
  pub policies : List Policy

-- the names declared so far
unfoldable pub category_names : Rules → List Name
category_names r = map (λ c. c.name) r.categories

-- the actors of a category
unfoldable pub actors_of : Rules → Name → List Name
actors_of r c = joined (λ x. pick (same x.name c) x.actors []) r.categories

-- a category reaches itself, and each declared category that one it reaches is over
pub data Reaches (r : Rules) (c : Name) : Name → Type 0 where
  itself : Reaches r c c
  over : {d : Category} {e : Name} → Reaches r c d.name → d ∈ r.categories → e ∈ d.over → e ∈ category_names r → Reaches r c e

-- Nothing to believe: the next three count the categories that one reaches, and are proved to give exactly those

-- one step down from some categories: these and those they are over, in rules order
unfoldable pub step_down : Rules → List Name → List Name
step_down r cs = map (λ c. c.name) (keep (λ c. mem c.name cs || any (λ d. mem d.name cs && mem c.name d.over) r.categories) r.categories)

-- k steps down
unfoldable pub steps_down : ℕ → Rules → List Name → List Name
steps_down zero r cs = cs
steps_down (suc k) r cs = steps_down k r (step_down r cs)

-- a category and all it is over, directly or through others, in rules order: those that it reaches
unfoldable pub down_from : Rules → Name → List Name
down_from r c = steps_down (length r.categories) r (c ∷ [])

-- the enforced policies, in the order of their categories
unfoldable pub enforced : Rules → Name → List Policy
enforced r c = joined (λ d. keep (λ p. same p.category d) r.policies) (down_from r c)
