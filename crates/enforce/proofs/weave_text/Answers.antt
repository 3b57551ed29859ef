-- `weave_text` meets its contract: the actors handed on are those of the text's own category. Assumes nothing.
use Prim.Native.Nat.{◌+◌, ◌*◌}
use mathlib.Core.Path.{subst}
use native.Mathlib.Omega.{arith}
use lib.ListN.{length-take, length-drop}
use Rattle.weave.specs.Adding.{TextAdded}
use Rattle.enforce.proofs.HeldLaws.{own_actors, actors_inside}
use Rattle.enforce.proofs.weave_text.Goals as goal

pub overflow_cast-actor_count : goal.overflow_cast-actor_count
overflow_cast-actor_count c =
    omega (arith, c.type_inv.rules_words (16 + 27 * c.args.place.category))

pub pattern_of-pattern-requires : goal.pattern_of-pattern-requires
pattern_of-pattern-requires c = c.requires.asked

pub add_pattern-requires : goal.add_pattern-requires
add_pattern-requires c =
    let given = c.requires in
    record {
      kept = given.kept;
      few_texts = given.few_texts;
      few_actors = simp (length-take, length-drop) (omega (arith, given.few_actors, given.room, given.low));
      known_actors = actors_inside _ _ _ given.actors;
      fits = c.pattern_of-pattern.ensures.words _ given.short;
      size = _;
      stands = given.stands;
      parts = c.pattern_of-pattern.ensures.parts;
    }

pub returns : goal.returns
returns c =
    let a = c.args in
    let p = c.pattern_of-pattern in
    let w = c.add_pattern in (
      p.result,
      p.ensures,
      subst
          (λ actors. TextAdded a.query.now a.rules.now actors a.place.number a.place.base p.result a.woven.now
          w.new.words a.shape w.result)
          (own_actors a.rules.now a.rules_words.now a.place.category) w.ensures,
    )
