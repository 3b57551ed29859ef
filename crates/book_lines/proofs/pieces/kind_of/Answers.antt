use Rattle.book_lines.specs.Forms.{kind_read}
use mathlib.Core.Path.{sym, ◌∙◌}
use Rattle.book_lines.proofs.pieces.kind_of.Goals as goal

pub returns-then-same_bytes : goal.returns-then-same_bytes
unfolding kind_read
returns-then-same_bytes c = rw (sym c.same_bytes.ensures ∙ c.if-same_bytes.true)

pub returns-then-same_bytes-2 : goal.returns-then-same_bytes-2
unfolding kind_read
returns-then-same_bytes-2 c =
    rw (sym c.same_bytes.ensures ∙ c.if-same_bytes.false, sym c.same_bytes-2.ensures ∙ c.if-same_bytes-2.true)

pub returns-then-same_bytes-3 : goal.returns-then-same_bytes-3
unfolding kind_read
returns-then-same_bytes-3 c =
    rw (
      sym c.same_bytes.ensures ∙ c.if-same_bytes.false,
      sym c.same_bytes-2.ensures
          ∙ c.if-same_bytes-2.false,
      sym c.same_bytes-3.ensures ∙ c.if-same_bytes-3.true,
    )

pub returns : goal.returns
unfolding kind_read
returns c =
    rw (
      sym c.same_bytes.ensures ∙ c.if-same_bytes.false,
      sym c.same_bytes-2.ensures
          ∙ c.if-same_bytes-2.false,
      sym c.same_bytes-3.ensures ∙ c.if-same_bytes-3.false,
    )
