-- `says` meets its contract, by the text that the word says. Assumes nothing.
use Rattle.woven_tables.proofs.NameLaws.{in_query_law, in_rules_law, inside_query, inside_rules}
use Rattle.model.specs.Bytes.{same}
use Rattle.model.specs.Answers.{name_at}
use mathlib.Core.Path.{ap, sym, ◌∙◌}
use borrow.Author.Rules.{rules}
use Rattle.woven_tables.proofs.names.says.Goals as goal

pub part_of-requires : goal.part_of-requires
part_of-requires c = inside_query _ _ _ c.if-w-eq0.true c.requires

pub returns-then-w-eq0 : goal.returns-then-w-eq0
unfolding name_at
returns-then-w-eq0 c =
    c.same_bytes.ensures ∙ ap (λ x. same x c.args.name.now)
    (c.part_of.ensures ∙ sym (in_query_law c.args.query.now c.args.rules.now c.args.word
    c.if-w-eq0.true))

pub part_of-requires-2 : goal.part_of-requires-2
part_of-requires-2 c = inside_rules _ _ _ c.if-w-eq0.false c.requires

pub returns : goal.returns
unfolding name_at
returns c =
    c.same_bytes-2.ensures ∙ ap (λ x. same x c.args.name.now)
    (c.part_of-2.ensures ∙ sym (in_rules_law c.args.query.now c.args.rules.now c.args.word
    c.if-w-eq0.false))
