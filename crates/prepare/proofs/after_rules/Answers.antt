-- The rules being read: the query is refused, or what the request gives.
use Rattle.prepare.proofs.StepLaws.{query_refused, request_read_law}
use Rattle.prepare.proofs.after_rules.Goals as goal

pub returns-in-Err : goal.returns-in-Err
returns-in-Err c =
    let q = c.query in
    query_refused _ _ _ _ _ _ _ _ _ q.result q.ensures _ c.in-Err.is _ c.refused.ensures

pub returns : goal.returns
returns c =
    let q = c.query in
    request_read_law _ _ _ _ _ _ _ _ _ c.requires q.result q.ensures c.in_default.is _ c.request-request.ensures
