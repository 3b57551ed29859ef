-- `compare::is_name` meets its contract.
use Rattle.compare.proofs.CompareLaws.{name_by_length, name_by_first}
use mathlib.Core.Path.{sym, ◌∙◌}
use native.Mathlib.Omega.{arith}
use Rattle.compare.proofs.is_name.Goals as goal

pub returns-then-w-lt-SHORTEST : goal.returns-then-w-lt-SHORTEST
returns-then-w-lt-SHORTEST c = name_by_length c.args.w.now (λ n l m e. omega arith)

pub returns-then-w-gt-LONGEST : goal.returns-then-w-gt-LONGEST
returns-then-w-gt-LONGEST c = name_by_length c.args.w.now (λ n l m e. omega arith)

pub bounds-w-0 : goal.bounds-w-0
bounds-w-0 c = omega arith

pub returns : goal.returns
returns c = name_by_first c.args.w.now (sym c.begins_one_of_six.ensures ∙ c.if-begins_one_of_six.false)
