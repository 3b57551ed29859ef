-- What `print_lamp` gives the writer is the text: the buffer has room for it.
use Rattle.std.proofs.Common.{List, ℕ, OnOk, arith, replicate, subst}
use Rattle.std.specs.Io.KnownBytes.{Appends}
use Rattle.model.specs.Printed.{printed_lamp}
use Rattle.list_lines.specs.Printing.{in_front}
use Rattle.program_io.proofs.FrontLaws.{front_is_text}
use Rattle.lamp.proofs.print_lamp.Goals as goal

pub returns : goal.returns
unfolding in_front
returns g c =
    let put = c.lamp_text-length.ensures in
    let text = printed_lamp c.args.book.now c.args.rules.now c.args.query.now c.args.request.now in
    let buffer : List ℕ = replicate 38 0 in
    let front = front_is_text text buffer _ _ put.printed.answer put.printed.text (omega (arith, put.printed.answer, put.short)) in
    subst (λ (x : List ℕ). OnOk c.print_front.result (Appends (g.W.Write.contents c.args.out.now) (g.W.Write.contents c.print_front.new.out) x))
    front c.print_front.ensures
