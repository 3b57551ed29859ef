use Rattle.query_signs.specs.Expected.{truth_or}
use Rattle.model.specs.Answers.{name_at}
use Rattle.model.specs.Bytes.{same, bytes_of}
use mathlib.Core.Path.{sym, ap, ◌∙◌}
use Rattle.query_signs.proofs.expected.truth_or.Goals as goal

pub returns-then-same_bytes : goal.returns-then-same_bytes
unfolding truth_or name_at
returns-then-same_bytes c = rw (ap (λ w. same w (bytes_of "true")) (sym c.part_of-word.ensures) ∙ sym c.same_bytes.ensures ∙ c.if-same_bytes.true)

pub returns-then-same_bytes-2 : goal.returns-then-same_bytes-2
unfolding truth_or name_at
returns-then-same_bytes-2 c =
    rw (
      ap (λ w. same w (bytes_of "true")) (sym c.part_of-word.ensures) ∙ sym c.same_bytes.ensures
          ∙ c.if-same_bytes.false,
      ap (λ w. same w (bytes_of "false")) (sym c.part_of-word.ensures) ∙ sym c.same_bytes-2.ensures
          ∙ c.if-same_bytes-2.true,
    )

pub returns : goal.returns
unfolding truth_or name_at
returns c =
    rw (
      ap (λ w. same w (bytes_of "true")) (sym c.part_of-word.ensures) ∙ sym c.same_bytes.ensures
          ∙ c.if-same_bytes.false,
      ap (λ w. same w (bytes_of "false")) (sym c.part_of-word.ensures) ∙ sym c.same_bytes-2.ensures
          ∙ c.if-same_bytes-2.false,
    )
