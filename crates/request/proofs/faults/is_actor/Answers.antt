-- `request::faults::is_actor` meets its contract. Assumes nothing.
use native.Mathlib.Omega.{arith}
use Rattle.book_tables.specs.View.{word_at}
use Rattle.rules_tables.specs.Layout.{actors_from, actor_count_at}
use Rattle.rules_tables.specs.View.{actors_at}
use Rattle.request.proofs.FaultLaws.{named_test}
use Rattle.request.proofs.faults.is_actor.Goals as goal

pub overflow_mul-count : goal.overflow_mul-count
overflow_mul-count c = omega (arith, c.requires.0.few, c.requires.1)

pub overflow_add-count : goal.overflow_add-count
overflow_add-count c = omega (arith, c.requires.0.few, c.requires.1)

pub offset_bounds-table-k : goal.offset_bounds-table-k
offset_bounds-table-k c = omega (arith, c.requires.0.few, c.requires.1)

pub bounds-table-k : goal.bounds-table-k
bounds-table-k c =
    omega (arith, c.requires.0.few, c.requires.1, c.requires.0.room)

pub overflow_cast-count : goal.overflow_cast-count
overflow_cast-count c =
    let h = c.requires.0.each c.args.k c.requires.1 in omega (arith, h.few_actors)

pub overflow_mul-at : goal.overflow_mul-at
overflow_mul-at c = omega (arith, c.requires.0.few, c.requires.1)

pub overflow_add-at : goal.overflow_add-at
overflow_add-at c = omega (arith, c.requires.0.few, c.requires.1)

pub overflow_add-at-2 : goal.overflow_add-at-2
overflow_add-at-2 c = omega (arith, c.requires.0.few, c.requires.1)

pub find_name-requires : goal.find_name-requires
find_name-requires c =
    let h = c.requires.0.each c.args.k c.requires.1 in
    (h.actors, omega (arith, h.few_actors, c.requires.0.few, c.requires.1, c.requires.0.room))

pub returns : goal.returns
unfolding actors_at
returns c =
    let a = c.args in named_test a.rules.now a.table.now (actors_from a.k) (word_at a.table.now (actor_count_at a.k)) a.name.now _
    c.find_name.ensures
