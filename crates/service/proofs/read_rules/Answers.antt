-- `read_rules` meets its contract: the counts of the rules that are ready, or the refusal; then the memory is filled.
use mathlib.Core.Path.{◌≡◌}
use Rattle.prepare.proofs.ThroughLaws.{cleared_all}
use Rattle.service.proofs.ReaderLaws.{rules_counted, rules_refused}
use borrow.Author.Rules.{rules}
use Rattle.std.specs.Prelude.{Ok, Err}
use Rattle.std.proofs.lemmas.Result.{err_from_is_err_and}
use Rattle.service.proofs.read_rules.Goals as goal

pub returns-in_err-ready : goal.returns-in_err-ready
returns-in_err-ready c =
    let a = c.args in
    let e : c.prepare-ready.result.request.verdict ≡ Err c.in_err-ready.field-0.0 = search rules in
    let p = err_from_is_err_and c.from_residual.result c.from_residual.ensures.1 in
    rw (p.1, p.2)
    (record { answer = rules_refused _ _ _ _ _ _ _ _ c.prepare-ready.ensures _ e; cleared = cleared_all a.work.now _ _ c.clear.ensures (search rules) })

pub returns : goal.returns
returns c =
    let a = c.args in
    let e : c.prepare-ready.result.request.verdict ≡ Ok tt = search rules in
    record { answer = rules_counted _ _ _ _ _ _ _ _ c.prepare-ready.ensures e; cleared = cleared_all a.work.now _ _ c.clear.ensures (search rules) }
