-- `put_quoted` meets its contract. Assumes nothing.
use Rattle.model.specs.Answers.{name_at}
use Rattle.model.specs.Writing.{value_text}
use Rattle.putting.proofs.PuttingLaws.{puts_then}
use Rattle.putting.proofs.values.put_quoted.Goals as goal

pub returns : goal.returns
unfolding value_text name_at
returns c =
    puts_then c.put_byte-opened.ensures (puts_then c.put_part-next.ensures c.put_byte.ensures)
