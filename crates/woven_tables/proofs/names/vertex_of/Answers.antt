-- `vertex_of` meets its contract. Assumes nothing.
use Rattle.woven_tables.proofs.NameLaws.{word_inside, vertex_inside, vertex_says}
use Rattle.woven_tables.specs.Tables.{actors_at}
use native.Mathlib.Omega.{arith}
use borrow.Author.Rules.{rules}
use Rattle.woven_tables.proofs.names.vertex_of.Goals as goal

pub is_actor-requires : goal.is_actor-requires
is_actor-requires c =
    let a = c.args in (
      c.requires.0,
      c.requires.4,
      word_inside a.query.now a.rules.now a.k a.start a.length c.requires.2 c.requires.3 _ c.name_word-name.ensures c.requires.5,
    )

pub returns : goal.returns
returns c =
    let a = c.args in record {
      inside = vertex_inside a.query.now a.rules.now a.k a.start a.length c.requires.2 c.requires.3 _ _ c.is_actor.result
          c.name_word-name.ensures c.vertex_word.ensures c.requires.5;
      says = vertex_says c.args.query.now c.args.rules.now c.args.k c.args.start c.args.length (omega arith)
          (omega arith) (actors_at c.args.rules.now c.args.actors.now c.args.count) c.name_word-name.result
          c.vertex_word.result c.is_actor.result c.name_word-name.ensures c.is_actor.ensures
          c.vertex_word.ensures;
    }
