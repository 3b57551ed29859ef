-- `rules::tests::lacks_one_of` meets its contract. Assumes nothing.
use Prim.Native.Nat.{ℕ, ◌+◌, ◌*◌}
use mathlib.Core.Bool.{not}
use mathlib.Core.Path.{◌≡◌, sym, ap, ◌∙◌}
use native.Mathlib.Omega.{arith}
use Rattle.model.specs.Names.{mem}
use Rattle.model.specs.Lists.{all}
use Rattle.model.specs.Bytes.{Bytes}
use Rattle.rules.proofs.TestLaws.{pass_none, pass_on, pass_missed}
use Rattle.rules_tables.specs.View.{actors_at}
use Rattle.rules_tables.specs.Layout.{actor_count_at, actors_from}
use Rattle.book_tables.specs.View.{word_at, name_of, names_at}
use Rattle.book_tables.specs.Listed.{listed}
use Rattle.rules.proofs.tests.lacks_one_of.Goals as goal

pub overflow_mul-count : goal.overflow_mul-count
overflow_mul-count c = omega (arith, c.requires.1)

pub overflow_add-count : goal.overflow_add-count
overflow_add-count c = omega (arith, c.requires.1)

pub offset_bounds-words-k : goal.offset_bounds-words-k
offset_bounds-words-k c = omega (arith, c.requires.1)

pub bounds-words-k : goal.bounds-words-k
bounds-words-k c = omega (arith, c.requires.1, c.requires.2)

pub overflow_cast-count : goal.overflow_cast-count
overflow_cast-count c = omega (arith, c.type_inv.words (16 + 27 * c.args.k))

pub loop-i-init : goal.loop-i-init
loop-i-init c =
    (omega arith, λ x ex. pass_none (λ w. mem w x.names) (name_of c.args.text.now c.args.words.now (actors_from c.args.k)))

pub overflow_mul-k : goal.overflow_mul-k
overflow_mul-k c = omega (arith, c.requires.1)

pub overflow_add-k : goal.overflow_add-k
overflow_add-k c = omega (arith, c.requires.1)

pub overflow_add-k-in-loop-i : goal.overflow_add-k-in-loop-i
overflow_add-k-in-loop-i c = omega (arith, c.requires.1)

pub overflow_add-k-in-loop-i-2 : goal.overflow_add-k-in-loop-i-2
overflow_add-k-in-loop-i-2 c =
    omega (arith, c.requires.1, c.requires.0.few_actors)

pub name_at-actor-requires : goal.name_at-actor-requires
name_at-actor-requires c =
    (omega (arith, c.requires.1, c.requires.2, c.requires.0.few_actors), c.requires.0.actors.inside c.loop-i.i c.loop-i-test.true)

pub returns-then-not-has_name : goal.returns-then-not-has_name
unfolding actors_at names_at name_of
returns-then-not-has_name c =
    let a = c.args in λ x ex. sym (ap not
    (pass_missed (λ w. mem w x.names) (name_of a.text.now a.words.now (actors_from a.k)) _ c.loop-i.i
    c.loop-i-test.true
    (ap (λ (w : Bytes). mem w x.names) (sym c.name_at-actor.ensures) ∙ sym (c.has_name.ensures x ex)
    ∙ c.if-not-has_name.true)))

pub loop-i-preserved : goal.loop-i-preserved
unfolding name_of
loop-i-preserved c =
    let a = c.args in (
      omega arith,
      λ x ex. pass_on (λ w. mem w x.names) (name_of a.text.now a.words.now (actors_from a.k)) c.loop-i.i (c.loop-i.invariant.1 x ex)
          (ap (λ (w : Bytes). mem w x.names) (sym c.name_at-actor.ensures) ∙ sym (c.has_name.ensures x ex)
          ∙ c.if-not-has_name.false),
    )

pub returns : goal.returns
unfolding actors_at names_at
returns c =
    let a = c.args in let e : c.loop-i.i ≡ word_at a.words.now (actor_count_at a.k) = omega arith in
    λ x ex. sym (ap not (ap (λ (n : ℕ). all (λ w. mem w x.names) (listed (name_of a.text.now a.words.now (actors_from a.k)) n)) (sym e)
    ∙ c.loop-i.invariant.1 x ex))
