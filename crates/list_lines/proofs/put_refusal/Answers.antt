use Rattle.putting.proofs.PuttingLaws.{puts_then, puts_keeps_length}
use Rattle.model.specs.Printed.{refusal_text}
use Rattle.model.specs.Answers.{refusal_of}
use Rattle.list_lines.proofs.put_refusal.Goals as goal

pub shape_of-out : goal.shape_of-out
shape_of-out c =
    puts_keeps_length (puts_then (puts_then (puts_then
    (puts_then (puts_then (puts_then c.put_bytes-at.ensures c.put_digits-at.ensures) c.put_bytes-at-2.ensures)
    c.put_digits-at-2.ensures) c.put_bytes-at-3.ensures) c.put_digits-at-3.ensures)
    c.put_bytes.ensures)

pub returns : goal.returns
unfolding refusal_text refusal_of
returns c =
    puts_then (puts_then (puts_then (puts_then
    (puts_then (puts_then c.put_bytes-at.ensures c.put_digits-at.ensures) c.put_bytes-at-2.ensures)
    c.put_digits-at-2.ensures) c.put_bytes-at-3.ensures) c.put_digits-at-3.ensures)
    c.put_bytes.ensures
