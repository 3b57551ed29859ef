use lib.ListN.{take}
use Rattle.query_survey.specs.declared.Which.TheVariants.{Vertex, Edge}
use Rattle.query_survey.specs.Names.{names_in, text_pieces}
use Rattle.model.specs.Names.{mem}
use Rattle.model.specs.Answers.{name_at}
use mathlib.Core.List.{[], ◌∷◌, ◌++◌}
use mathlib.Core.Bool.{◌||◌}
use Rattle.book_tables.proofs.MemberLaws.{mem_end}
use Rattle.query_survey.proofs.SeenLaws.{stays_seen, by_test}
use Rattle.query_survey.proofs.links.link_twice.Goals as goal

pub returns-then-before : goal.returns-then-before
returns-then-before c =
    stays_seen (mem (name_at c.args.s.now c.args.e) (names_in Edge (take c.args.i (text_pieces c.args.s.now)))
    || mem (name_at c.args.s.now c.args.e) (names_in Vertex (take c.args.i (text_pieces c.args.s.now)))
    || mem (name_at c.args.s.now c.args.v)
    (names_in Edge (take c.args.i (text_pieces c.args.s.now)) ++ ((name_at c.args.s.now c.args.e) ∷ []))) _
    c.if-before.true

pub stands_before-requires : goal.stands_before-requires
stands_before-requires c = (c.requires.0.edge_names, c.requires.1)

pub returns-then-stands_before : goal.returns-then-stands_before
returns-then-stands_before c = rw (← c.stands_before.ensures, c.if-stands_before.true)

pub stands_before-requires-2 : goal.stands_before-requires-2
stands_before-requires-2 c = (c.requires.0.vertex_names, c.requires.1)

pub returns-then-stands_before-2 : goal.returns-then-stands_before-2
returns-then-stands_before-2 c = rw (← c.stands_before.ensures, c.if-stands_before.false, ← c.stands_before-2.ensures, c.if-stands_before-2.true)

pub stands_before-requires-3 : goal.stands_before-requires-3
stands_before-requires-3 c = (c.requires.0.edge_names, c.requires.2)

pub returns-then-stands_before-3 : goal.returns-then-stands_before-3
returns-then-stands_before-3 c =
    rw (
      mem_end,
      ← c.stands_before.ensures,
      c.if-stands_before.false,
      ← c.stands_before-2.ensures,
      c.if-stands_before-2.false,
      ← c.stands_before-3.ensures,
      c.if-stands_before-3.true,
    )

pub returns : goal.returns
returns c =
    rw (
      mem_end,
      ← c.stands_before.ensures,
      c.if-stands_before.false,
      ← c.stands_before-2.ensures,
      c.if-stands_before-2.false,
      ← c.stands_before-3.ensures,
      c.if-stands_before-3.false,
      ← c.same_part.ensures,
      c.if-before.false,
    ) (by_test c.same_part.result)
