-- `compare::is_none_of_six` meets its contract.
use Rattle.model.specs.Forms.{never_names}
use Rattle.model.specs.Names.{mem}
use Rattle.model.specs.Lists.{any}
use mathlib.Core.Path.{sym, ◌∙◌}
use Rattle.compare.proofs.is_none_of_six.Goals as goal

pub returns-then-same_bytes : goal.returns-then-same_bytes
unfolding mem any never_names
returns-then-same_bytes c = simp (sym c.same_bytes.ensures ∙ c.if-same_bytes.true)

pub returns-then-same_bytes-2 : goal.returns-then-same_bytes-2
unfolding mem any never_names
returns-then-same_bytes-2 c =
    simp (sym c.same_bytes.ensures ∙ c.if-same_bytes.false, sym c.same_bytes-2.ensures ∙ c.if-same_bytes-2.true)

pub returns-then-same_bytes-3 : goal.returns-then-same_bytes-3
unfolding mem any never_names
returns-then-same_bytes-3 c =
    simp (
      sym c.same_bytes.ensures ∙ c.if-same_bytes.false,
      sym c.same_bytes-2.ensures
          ∙ c.if-same_bytes-2.false,
      sym c.same_bytes-3.ensures ∙ c.if-same_bytes-3.true,
    )

pub returns-then-same_bytes-4 : goal.returns-then-same_bytes-4
unfolding mem any never_names
returns-then-same_bytes-4 c =
    simp (
      sym c.same_bytes.ensures ∙ c.if-same_bytes.false,
      sym c.same_bytes-2.ensures
          ∙ c.if-same_bytes-2.false,
      sym c.same_bytes-3.ensures ∙ c.if-same_bytes-3.false,
      sym c.same_bytes-4.ensures
          ∙ c.if-same_bytes-4.true,
    )

pub returns-then-same_bytes-5 : goal.returns-then-same_bytes-5
unfolding mem any never_names
returns-then-same_bytes-5 c =
    simp (
      sym c.same_bytes.ensures ∙ c.if-same_bytes.false,
      sym c.same_bytes-2.ensures
          ∙ c.if-same_bytes-2.false,
      sym c.same_bytes-3.ensures ∙ c.if-same_bytes-3.false,
      sym c.same_bytes-4.ensures
          ∙ c.if-same_bytes-4.false,
      sym c.same_bytes-5.ensures ∙ c.if-same_bytes-5.true,
    )

pub returns-then-same_bytes-6 : goal.returns-then-same_bytes-6
unfolding mem any never_names
returns-then-same_bytes-6 c =
    simp (
      sym c.same_bytes.ensures ∙ c.if-same_bytes.false,
      sym c.same_bytes-2.ensures
          ∙ c.if-same_bytes-2.false,
      sym c.same_bytes-3.ensures ∙ c.if-same_bytes-3.false,
      sym c.same_bytes-4.ensures
          ∙ c.if-same_bytes-4.false,
      sym c.same_bytes-5.ensures ∙ c.if-same_bytes-5.false,
      sym c.same_bytes-6.ensures
          ∙ c.if-same_bytes-6.true,
    )

pub returns : goal.returns
unfolding mem any never_names
returns c =
    simp (
      sym c.same_bytes.ensures ∙ c.if-same_bytes.false,
      sym c.same_bytes-2.ensures
          ∙ c.if-same_bytes-2.false,
      sym c.same_bytes-3.ensures ∙ c.if-same_bytes-3.false,
      sym c.same_bytes-4.ensures
          ∙ c.if-same_bytes-4.false,
      sym c.same_bytes-5.ensures ∙ c.if-same_bytes-5.false,
      sym c.same_bytes-6.ensures
          ∙ c.if-same_bytes-6.false,
    )
