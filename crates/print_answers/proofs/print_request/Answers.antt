-- `print_request` prints an accepted request of its text alone: the actors lie in it.
use Rattle.std.proofs.Common.{arith, length, ◌≡◌}
use Rattle.print_answers.proofs.RequestLaws.{request_inside}
use Rattle.print_answers.proofs.print_request.Goals as goal

pub print_accepted-requires : goal.print_accepted-requires
print_accepted-requires g c =
    let read = c.read_request-read in
    let slots : length read.result.identities ≡ 8 = omega arith in
    request_inside _ _ _ _ read.result read.ensures.whole slots
