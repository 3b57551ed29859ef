-- `query_survey::tallies::is_over` meets its contract: a limit is passed where nothing is left of it.
use Rattle.std.specs.Prelude.{ℕ, zero, suc, nat_eq, ◌≡◌, Bool, true, false, ◌||◌, eqb}
use Rattle.query_survey.specs.Survey.{over_limit}
use mathlib.Core.Path.{refl, ◌∙◌}
use Rattle.query_survey.proofs.tallies.is_over.Goals as goal

none_left : (n : ℕ) → nat_eq n 0 ≡ eqb n 0
none_left zero = refl
none_left (suc n) = refl

any_of_five : (a b c d e : Bool) → (a || (b || (c || (d || (e || false))))) ≡ (a || b || c || d || e)
any_of_five true b c d e = refl
any_of_five false true c d e = refl
any_of_five false false true d e = refl
any_of_five false false false true e = refl
any_of_five false false false false true = refl
any_of_five false false false false false = refl

pub returns : goal.returns
unfolding over_limit
returns c = let t = c.args.t in
    c.contains.ensures.value ∙ rw (none_left t.vertices, none_left t.edges, none_left t.exclusions, none_left t.requirements, none_left t.returns)
    (any_of_five (eqb t.vertices 0) (eqb t.edges 0) (eqb t.exclusions 0) (eqb t.requirements 0) (eqb t.returns 0))
