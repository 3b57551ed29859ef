-- `compare::is_query_name` meets its contract.
use Rattle.compare.proofs.CompareLaws.{name_by_length}
use native.Mathlib.Omega.{arith}
use Rattle.compare.proofs.is_query_name.Goals as goal

pub returns-then-w-lt-SHORTEST : goal.returns-then-w-lt-SHORTEST
returns-then-w-lt-SHORTEST c = name_by_length c.args.w.now (λ n l m e. omega arith)
