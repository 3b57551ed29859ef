-- `print_header` prints its line, and no byte past it: a header is short.
use Rattle.std.proofs.Common.{List, ℕ, OnOk, arith, subst}
use Rattle.std.specs.Io.KnownBytes.{Appends}
use Rattle.list_lines.specs.Printing.{header_text}
use Rattle.list_lines.proofs.LengthLaws.{header_short}
use Rattle.list_lines.proofs.FrontLaws.{ends_inside}
use Rattle.print_answers.proofs.PutLaws.{put_is_front}
use Rattle.cases.proofs.list_cases.print_header.Goals as goal

pub print_front-requires : goal.print_front-requires
print_front-requires g c = omega (arith, ends_inside 13 (header_short _) c.put_header-length.ensures)

pub returns : goal.returns
returns g c =
    let header = header_text c.args.count in
    let front = put_is_front header _ _ 13 (omega arith) (header_short c.args.count) c.put_header-length.ensures in
    subst (λ (x : List ℕ). OnOk c.print_front.result (Appends (g.W.Write.contents c.args.out.now) (g.W.Write.contents c.print_front.new.out) x))
    front c.print_front.ensures
