use Rattle.book_lines.specs.Forms.{head_of}
use mathlib.Core.Path.{sym, ◌∙◌}
use Rattle.book_lines.proofs.pieces.head.Goals as goal

pub returns-then-same_bytes : goal.returns-then-same_bytes
unfolding head_of
returns-then-same_bytes c = rw (sym c.same_bytes.ensures ∙ c.if-same_bytes.true)

pub returns-then-same_bytes-2 : goal.returns-then-same_bytes-2
unfolding head_of
returns-then-same_bytes-2 c =
    rw (sym c.same_bytes.ensures ∙ c.if-same_bytes.false, sym c.same_bytes-2.ensures ∙ c.if-same_bytes-2.true)

pub returns-then-same_bytes-3 : goal.returns-then-same_bytes-3
unfolding head_of
returns-then-same_bytes-3 c =
    rw (
      sym c.same_bytes.ensures ∙ c.if-same_bytes.false,
      sym c.same_bytes-2.ensures
          ∙ c.if-same_bytes-2.false,
      sym c.same_bytes-3.ensures ∙ c.if-same_bytes-3.true,
    )

pub returns-then-same_bytes-4 : goal.returns-then-same_bytes-4
unfolding head_of
returns-then-same_bytes-4 c =
    rw (
      sym c.same_bytes.ensures ∙ c.if-same_bytes.false,
      sym c.same_bytes-2.ensures
          ∙ c.if-same_bytes-2.false,
      sym c.same_bytes-3.ensures ∙ c.if-same_bytes-3.false,
      sym c.same_bytes-4.ensures
          ∙ c.if-same_bytes-4.true,
    )

pub returns-then-same_bytes-5 : goal.returns-then-same_bytes-5
unfolding head_of
returns-then-same_bytes-5 c =
    rw (
      sym c.same_bytes.ensures ∙ c.if-same_bytes.false,
      sym c.same_bytes-2.ensures
          ∙ c.if-same_bytes-2.false,
      sym c.same_bytes-3.ensures ∙ c.if-same_bytes-3.false,
      sym c.same_bytes-4.ensures
          ∙ c.if-same_bytes-4.false,
      sym c.same_bytes-5.ensures ∙ c.if-same_bytes-5.true,
    )

pub returns : goal.returns
unfolding head_of
returns c =
    rw (
      sym c.same_bytes.ensures ∙ c.if-same_bytes.false,
      sym c.same_bytes-2.ensures
          ∙ c.if-same_bytes-2.false,
      sym c.same_bytes-3.ensures ∙ c.if-same_bytes-3.false,
      sym c.same_bytes-4.ensures
          ∙ c.if-same_bytes-4.false,
      sym c.same_bytes-5.ensures ∙ c.if-same_bytes-5.false,
    )
