-- `put_relation` meets its contract, relation by relation. Assumes nothing.
use mathlib.Core.Path.{sym, ap}
use Rattle.model.specs.Answers.{relation_of}
use Rattle.model.specs.Writing.{relation_text}
use Rattle.putting.proofs.PuttingLaws.{puts_same}
use Rattle.query_writer.proofs.values.put_relation.Goals as goal

pub returns-in-Equal : goal.returns-in-Equal
unfolding relation_text relation_of
returns-in-Equal c =
    puts_same (sym (ap (λ r. relation_text (relation_of r)) c.in-Equal.is)) c.put_bytes.ensures

pub returns-in-Differs : goal.returns-in-Differs
unfolding relation_text relation_of
returns-in-Differs c =
    puts_same (sym (ap (λ r. relation_text (relation_of r)) c.in-Differs.is)) c.put_bytes-in-Differs.ensures

pub returns-in-Less : goal.returns-in-Less
unfolding relation_text relation_of
returns-in-Less c =
    puts_same (sym (ap (λ r. relation_text (relation_of r)) c.in-Less.is)) c.put_bytes-in-Less.ensures

pub returns-in-AtMost : goal.returns-in-AtMost
unfolding relation_text relation_of
returns-in-AtMost c =
    puts_same (sym (ap (λ r. relation_text (relation_of r)) c.in-AtMost.is)) c.put_bytes-in-AtMost.ensures

pub returns-in-Greater : goal.returns-in-Greater
unfolding relation_text relation_of
returns-in-Greater c =
    puts_same (sym (ap (λ r. relation_text (relation_of r)) c.in-Greater.is)) c.put_bytes-in-Greater.ensures

pub returns-in-AtLeast : goal.returns-in-AtLeast
unfolding relation_text relation_of
returns-in-AtLeast c =
    puts_same (sym (ap (λ r. relation_text (relation_of r)) c.in-AtLeast.is)) c.put_bytes-in-AtLeast.ensures
