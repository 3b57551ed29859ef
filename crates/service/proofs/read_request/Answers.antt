-- `read_request` meets its contract: the request that is ready; then the memory is filled.
use Rattle.prepare.proofs.ThroughLaws.{cleared_all}
use Rattle.service.proofs.ReaderLaws.{request_answered}
use borrow.Author.Rules.{rules}
use Rattle.service.proofs.read_request.Goals as goal

pub returns : goal.returns
returns c =
    let a = c.args in
    let w = request_answered _ _ _ _ _ _ _ _ c.prepare-ready.ensures in
    record { answer = w.0; whole = w.1; cleared = cleared_all a.work.now _ _ c.clear.ensures (search rules) }
