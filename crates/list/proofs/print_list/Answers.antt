-- What `print_list` gives the writer is the text: the buffer has room for it.
use Rattle.std.proofs.Common.{List, ℕ, OnOk, arith, subst}
use Rattle.std.specs.Io.KnownBytes.{Appends}
use Rattle.model.specs.Printed.{printed}
use Rattle.list_lines.specs.Printing.{in_front}
use Rattle.program_io.proofs.FrontLaws.{front_is_text}
use Rattle.list.proofs.print_list.Goals as goal

pub returns : goal.returns
unfolding in_front
returns g c =
    let put = c.list_text-length.ensures in
    let text = printed c.args.book.now c.args.rules.now c.args.query.now c.args.request.now in
    let front = front_is_text text c.room-text.result _ _ put.answer put.text (omega (arith, put.answer, put.short, c.room-text.ensures.long)) in
    subst (λ (x : List ℕ). OnOk c.print_front.result (Appends (g.W.Write.contents c.args.out.now) (g.W.Write.contents c.print_front.new.out) x))
    front c.print_front.ensures
