-- The book being read: the rules are refused, or what the other texts give.
use Rattle.prepare.proofs.StepLaws.{rules_ready, rules_read, rules_refused}
use Rattle.prepare.proofs.after_book.Goals as goal

pub after_rules-requires : goal.after_rules-requires
after_rules-requires c =
    let a = c.args in
    let l = c.rules in
    rules_ready a.needs a.book.now a.rules.now a.query.now a.request.now a.words.now _ a.counts l.result l.ensures
    c.requires.0 c.requires.1 _ c.in-Ok.is

pub returns-in-Ok : goal.returns-in-Ok
returns-in-Ok c =
    let l = c.rules in
    rules_read _ _ _ _ _ _ _ _ l.result l.ensures _ c.in-Ok.is _ c.after_rules.ensures

pub returns-in-Err : goal.returns-in-Err
returns-in-Err c =
    let l = c.rules in
    rules_refused _ _ _ _ _ _ _ _ l.result l.ensures _ c.in-Err.is _ c.refused.ensures
