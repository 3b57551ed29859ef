-- `enforce::policies::weave_category` meets its contract: a category that is not enforced or has no policy adds nothing, another its policy. Assumes nothing.
use Prim.Native.Nat.{◌+◌, ◌*◌, ◌≤◌}
use mathlib.Core.Path.{sym, subst, ◌∙◌}
use native.Mathlib.Omega.{arith}
use Rattle.enforce.proofs.TextLaws.{not_enforced, without_policy, few_texts}
use Rattle.enforce.proofs.ClearLaws.{rules_short}
use Rattle.enforce.proofs.HeldLaws.{held_on, policy_ready, policy_held, policy_passed}
use Rattle.enforce.proofs.policies.weave_category.Goals as goal

pub returns-then-not-has : goal.returns-then-not-has
returns-then-not-has c =
    let a = c.args in
    let given = c.requires in
    held_on a.book.now a.words.now a.counts a.query.now a.rules.now a.rules_words.now a.rules_counts a.category given.texts
    a.lower a.texts a.woven.now a.shape
    (not_enforced a.query.now a.rules.now a.rules_words.now a.rules_counts a.category a.lower
    (sym c.has.ensures ∙ c.if-not-has.true)) given.held given.many

pub returns-then-rules_counts-policy : goal.returns-then-rules_counts-policy
returns-then-rules_counts-policy c =
    let a = c.args in
    let given = c.requires in
    held_on a.book.now a.words.now a.counts a.query.now a.rules.now a.rules_words.now a.rules_counts a.category given.texts
    a.lower a.texts a.woven.now a.shape
    (without_policy a.query.now a.rules.now a.rules_words.now a.rules_counts a.category a.lower
    (sym c.has.ensures ∙ c.if-not-has.false)
    (subst (λ z. a.rules_counts.policies ≤ z) c.policy_place-policy.ensures c.if-rules_counts-policy.true)) given.held given.many

pub overflow_cast-start : goal.overflow_cast-start
overflow_cast-start c = omega (arith, c.type_inv.rules_words (448 + 3 * c.policy_place-policy.result + 1))

pub overflow_cast-end : goal.overflow_cast-end
overflow_cast-end c = omega (arith, c.type_inv.rules_words (448 + 3 * c.policy_place-policy.result + 2))

pub overflow_add-end-2 : goal.overflow_add-end-2
overflow_add-end-2 c =
    let a = c.args in
    let given = c.requires in
    omega (
      arith,
      (given.texts.rules_fit.policies c.policy_place-policy.result c.if-rules_counts-policy.false).inside,
      rules_short
          a.book.now a.words.now a.counts a.query.now a.rules.now a.rules_words.now a.rules_counts a.category given.texts,
    )

pub slice_bounds-weave_text-end : goal.slice_bounds-weave_text-end
slice_bounds-weave_text-end c =
    omega (arith, (c.requires.texts.rules_fit.policies c.policy_place-policy.result c.if-rules_counts-policy.false).inside)

pub overflow_add-result : goal.overflow_add-result
overflow_add-result c =
    let a = c.args in
    let given = c.requires in
    omega (
      arith,
      given.many,
      few_texts a.query.now a.rules.now a.rules_words.now a.rules_counts a.category
          a.lower,
      given.low,
      given.texts.rules_fit.few,
    )

pub returns : goal.returns
returns c =
    let a = c.args in
    let given = c.requires in
    let enforced = sym c.has.ensures ∙ c.if-not-has.false in
    let found = c.policy_place-policy in
    let w = c.weave_text in
    policy_held a.book.now a.words.now a.counts a.query.now a.rules.now a.rules_words.now a.rules_counts a.category
    given.texts a.lower given.low enforced found.result found.ensures c.if-rules_counts-policy.false a.texts given.many a.woven.now
    a.shape given.held w.new.woven w.result w.ensures _ c.in_ok-next.was

pub returns-in_err-next : goal.returns-in_err-next
returns-in_err-next c =
    let a = c.args in
    let given = c.requires in
    let enforced = sym c.has.ensures ∙ c.if-not-has.false in
    let found = c.policy_place-policy in
    let w = c.weave_text in
    rw c.from_residual.ensures (policy_passed a.book.now a.words.now a.counts a.query.now a.rules.now a.rules_words.now a.rules_counts a.category
    given.texts a.lower given.low enforced found.result found.ensures c.if-rules_counts-policy.false a.texts given.many a.woven.now
    a.shape given.held w.new.woven w.result w.ensures c.in_err-next.was)

pub weave_text-requires : goal.weave_text-requires
weave_text-requires c =
    let a = c.args in
    let given = c.requires in
    let enforced = sym c.has.ensures ∙ c.if-not-has.false in
    let found = c.policy_place-policy in
    policy_ready a.book.now a.words.now a.counts a.query.now a.rules.now a.rules_words.now a.rules_counts a.category
    given.texts a.lower given.low enforced found.result found.ensures c.if-rules_counts-policy.false a.texts given.many a.woven.now
    a.shape given.held
