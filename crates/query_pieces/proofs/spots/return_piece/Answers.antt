use Rattle.query_pieces.proofs.PartLaws.{step_stopped}
use Rattle.query_pieces.proofs.SpotLaws.{step_same, return_comma, return_none}
use Rattle.query_signs.specs.Expected.{code_of}
use Rattle.query_signs.proofs.ExpectLaws.{no_code}
use native.Mathlib.Omega.{arith}
use mathlib.Core.Path.{sym, ap, ◌∙◌}
use Rattle.query_pieces.proofs.spots.return_piece.Goals as goal

pub returns-in_default : goal.returns-in_default
returns-in_default c =
    step_stopped (return_none c.args.s.now c.args.t c.args.q (λ z. let n = no_code c.args.t c.in_default.not-Mark in omega arith))

pub returns-then-code-ne-COMMA : goal.returns-then-code-ne-COMMA
unfolding code_of
returns-then-code-ne-COMMA c =
    step_stopped (return_none c.args.s.now c.args.t c.args.q (λ z. c.if-code-ne-COMMA.true (sym (ap code_of c.in-Mark.is) ∙ z)))

pub returns : goal.returns
unfolding code_of
returns c =
    step_same _ _ c.args.s.now c.args.q c.returned.result
    (return_comma c.args.s.now c.args.t c.args.q (ap code_of c.in-Mark.is ∙ c.if-code-ne-COMMA.false)) c.returned.ensures
