-- `say_the_same` meets its contract, by the text that the second word says. Assumes nothing.
use Rattle.woven_tables.proofs.NameLaws.{in_query_law, in_rules_law, inside_query, inside_rules}
use Rattle.woven_tables.specs.Tables.{name_of}
use Rattle.model.specs.Bytes.{same}
use Rattle.model.specs.Answers.{name_at}
use mathlib.Core.Path.{ap, sym, ◌∙◌}
use borrow.Author.Rules.{rules}
use Rattle.woven_tables.proofs.names.say_the_same.Goals as goal

pub part_of-requires : goal.part_of-requires
part_of-requires c = inside_query _ _ _ c.if-w-eq0.true c.requires.1

pub returns-then-w-eq0 : goal.returns-then-w-eq0
unfolding name_at
returns-then-w-eq0 c =
    c.says.ensures ∙ ap (same (name_of c.args.query.now c.args.rules.now c.args.a))
    (c.part_of.ensures ∙ sym (in_query_law c.args.query.now c.args.rules.now c.args.b c.if-w-eq0.true))

pub part_of-requires-2 : goal.part_of-requires-2
part_of-requires-2 c = inside_rules _ _ _ c.if-w-eq0.false c.requires.1

pub returns : goal.returns
unfolding name_at
returns c =
    c.says-2.ensures ∙ ap (same (name_of c.args.query.now c.args.rules.now c.args.a))
    (c.part_of-2.ensures ∙ sym (in_rules_law c.args.query.now c.args.rules.now c.args.b c.if-w-eq0.false))
