-- `print_written` prints bytes of its text alone: a written query lies in its buffer.
use Rattle.std.proofs.Common.{arith, length, ◌≡◌, ◌≤◌}
use Rattle.print_answers.proofs.WrittenLaws.{written_inside}
use Rattle.print_answers.proofs.print_written.Goals as goal

pub print_front-requires : goal.print_front-requires
print_front-requires g c =
    let written = c.write_query in
    let long : length written.new.text ≡ 2048 = omega arith in
    let short : c.in-Ok.length ≤ 2048 = written_inside _ _ _ _ _ written.result _ c.in-Ok.is written.ensures.answer in
    omega arith
