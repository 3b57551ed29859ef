-- `print_refusal` prints its line, and no byte past it: a refusal is short.
use Rattle.std.proofs.Common.{List, ℕ, OnOk, arith, subst}
use Rattle.std.specs.Io.KnownBytes.{Appends}
use Rattle.model.specs.Printed.{refusal_text}
use Rattle.model.specs.Answers.{refusal_of}
use Rattle.list_lines.proofs.LengthLaws.{refusal_short}
use Rattle.list_lines.proofs.FrontLaws.{ends_inside}
use Rattle.print_answers.proofs.PutLaws.{put_is_front}
use Rattle.print_answers.proofs.print_refusal.Goals as goal

pub print_front-requires : goal.print_front-requires
print_front-requires g c = omega (arith, ends_inside 38 (refusal_short _) c.put_refusal-length.ensures)

pub returns : goal.returns
returns g c =
    let refusal = refusal_of c.args.refusal in
    let front = put_is_front (refusal_text refusal) _ _ 38 (omega arith) (refusal_short refusal) c.put_refusal-length.ensures in
    subst (λ (x : List ℕ). OnOk c.print_front.result (Appends (g.W.Write.contents c.args.out.now) (g.W.Write.contents c.print_front.new.out) x))
    front c.print_front.ensures
