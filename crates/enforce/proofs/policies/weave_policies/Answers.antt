-- `enforce::policies::weave_policies` meets its contract. The loop's invariant: the texts of the categories below are woven. Assumes nothing.
use mathlib.Core.Path.{◌≡◌, refl, subst, ◌∙◌}
use native.Mathlib.Omega.{arith}
use Rattle.book_tables.specs.View.{book_at}
use Rattle.enforce.specs.Ready.{Held}
use Rattle.enforce.specs.Woven.{CategoryWoven}
use Rattle.enforce.proofs.TextLaws.{first_text}
use Rattle.enforce.proofs.policies.weave_policies.Goals as goal

pub loop-lower-init : goal.loop-lower-init
loop-lower-init c =
    let a = c.args in
    (omega arith, c.requires.held, first_text a.query.now a.rules.now a.rules_words.now a.rules_counts a.category, refl)

pub weave_category-requires : goal.weave_category-requires
weave_category-requires c =
    record { texts = c.requires.texts; low = omega arith; many = c.loop-lower.invariant.2; held = c.loop-lower.invariant.1 }

pub shape_of-woven-in_err-more : goal.shape_of-woven-in_err-more
shape_of-woven-in_err-more c =
    c.weave_category.auto.woven ∙ c.loop-lower.invariant.3

pub returns-in_err-more : goal.returns-in_err-more
returns-in_err-more c =
    let a = c.args in
    rw c.from_residual.ensures (subst (CategoryWoven (book_at a.book.now a.words.now a.counts) a.counts a.query.now a.rules.now a.rules_words.now
    a.rules_counts a.category c.loop-lower.lower c.weave_category.new.woven)
    c.in_err-more.was c.weave_category.ensures)

pub loop-lower-preserved : goal.loop-lower-preserved
loop-lower-preserved c =
    let a = c.args in
    let step = subst (CategoryWoven (book_at a.book.now a.words.now a.counts) a.counts a.query.now a.rules.now a.rules_words.now
    a.rules_counts a.category c.loop-lower.lower c.weave_category.new.woven)
    c.in_ok-more.was c.weave_category.ensures in
    (omega arith, step.0, step.1, c.weave_category.auto.woven ∙ c.loop-lower.invariant.3)

pub shape_of-woven : goal.shape_of-woven
shape_of-woven c = c.loop-lower.invariant.3

pub returns : goal.returns
returns c =
    let a = c.args in
    let e : c.loop-lower.lower ≡ a.rules_counts.categories = omega arith in
    subst (λ m. Held (book_at a.book.now a.words.now a.counts) a.counts a.query.now a.rules.now a.rules_words.now
    a.rules_counts a.category m c.loop-lower.woven c.loop-lower.shape) e c.loop-lower.invariant.1
