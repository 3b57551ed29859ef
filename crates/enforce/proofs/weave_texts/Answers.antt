-- `weave_texts` meets its contract: the query is woven, then the policies; the first that passes a limit ends it. Assumes nothing.
use Rattle.enforce.proofs.HeldLaws.{query_ready, query_held, query_passed}
use Rattle.enforce.proofs.weave_texts.Goals as goal

pub weave_text-requires : goal.weave_text-requires
weave_text-requires c =
    let a = c.args in
    query_ready a.book.now a.words.now a.counts a.query.now a.rules.now a.rules_words.now a.rules_counts a.category
    c.requires.0 a.woven.now _ c.empty.ensures c.requires.1

pub returns-in_err-alone : goal.returns-in_err-alone
returns-in_err-alone c =
    let a = c.args in
    let w = c.weave_text in
    rw c.from_residual.ensures (query_passed a.book.now a.words.now a.counts a.query.now a.rules.now a.rules_words.now a.rules_counts a.category
    c.requires.0 a.woven.now _ c.empty.ensures w.new.woven w.result w.ensures c.in_err-alone.was)

pub weave_policies-requires : goal.weave_policies-requires
weave_policies-requires c =
    let a = c.args in
    let w = c.weave_text in
    record {
      texts = c.requires.0;
      held = query_held a.book.now a.words.now a.counts a.query.now a.rules.now a.rules_words.now a.rules_counts a.category
          c.requires.0 a.woven.now _ c.empty.ensures w.new.woven w.result w.ensures _
          c.in_ok-alone.was;
    }
