-- `add_clauses` meets its contract. The loop's invariant: the first i clauses are woven. Assumes nothing.
use Rattle.woven_tables.proofs.ClauseTable.{clauses_start, clauses_more}
use Rattle.woven_tables.specs.ClauseSteps.{ClausesAdded}
use lib.ListN.{length, length-set}
use native.Mathlib.Omega.{arith}
use mathlib.Core.Path.{◌≡◌, subst}
use Prim.Native.Nat.{◌-◌}
use Rattle.woven_tables.proofs.clauses.add_clauses.Goals as goal

pub loop-i-init : goal.loop-i-init
loop-i-init c = (
  omega arith,
  clauses_start c.args.base c.args.k c.args.clauses c.args.numbers
      c.args.before c.args.words.now c.args.woven,
)

pub clause_words-said-requires : goal.clause_words-said-requires
clause_words-said-requires c =
    (c.requires.0.few_texts, c.requires.0.fit c.loop-i.i c.loop-i-test.true)

pub bounds-words-at : goal.bounds-words-at
bounds-words-at c =
    omega (arith, c.loop-i-test.true, c.loop-i.invariant.1.size, c.requires.0.room, c.requires.1)

pub bounds-words-at-in-loop-i : goal.bounds-words-at-in-loop-i
bounds-words-at-in-loop-i c =
    simp length-set (omega (arith, c.loop-i-test.true, c.loop-i.invariant.1.size, c.requires.0.room, c.requires.1))

pub bounds-words-at-in-loop-i-2 : goal.bounds-words-at-in-loop-i-2
bounds-words-at-in-loop-i-2 c =
    simp length-set (omega (arith, c.loop-i-test.true, c.loop-i.invariant.1.size, c.requires.0.room, c.requires.1))

pub loop-i-preserved : goal.loop-i-preserved
loop-i-preserved c =
    let a = c.args in
    let p = c.requires in
    let l = c.loop-i in
    let t = c.loop-i-test.true in
    let all : length a.clauses ≡ 32 = omega (arith, c.well_formed) in (
      omega (arith, t),
      clauses_more a.base a.k a.clauses l.i a.numbers a.before a.words.now l.words a.woven c.clause_words-said.result l.invariant.1
          (omega (arith, t, all, p.0.few)) (omega (arith, t, p.0.room)) (omega (arith, l.invariant.1.size, p.1)) c.clause_words-said.ensures,
    )

pub shape_of-words : goal.shape_of-words
shape_of-words c = c.loop-i.invariant.1.size

pub returns : goal.returns
returns c =
    let a = c.args in
    let e : c.loop-i.i ≡ a.count = omega (arith, c.loop-i.invariant.0, c.loop-i-test.false) in
    subst (λ n. ClausesAdded a.base a.k a.clauses n a.numbers a.before a.words.now c.loop-i.words a.woven) e
    c.loop-i.invariant.1.added

pub offset_bounds-clauses-i : goal.offset_bounds-clauses-i
offset_bounds-clauses-i c = omega (arith, c.loop-i-test.true, c.requires.0.few)

pub bounds-clauses-i : goal.bounds-clauses-i
bounds-clauses-i c = omega (arith, c.loop-i-test.true, c.requires.0.few)

pub overflow_add-at : goal.overflow_add-at
overflow_add-at c = omega (arith, c.loop-i-test.true, c.requires.0.room)

pub overflow_mul-at : goal.overflow_mul-at
overflow_mul-at c = omega (arith, c.loop-i-test.true, c.requires.0.room)

pub overflow_add-at-in-loop-i : goal.overflow_add-at-in-loop-i
overflow_add-at-in-loop-i c = omega (arith, c.loop-i-test.true, c.requires.0.room)

pub offset_bounds-words-at : goal.offset_bounds-words-at
offset_bounds-words-at c = omega (arith, c.loop-i-test.true, c.requires.0.room)

pub overflow_add-words : goal.overflow_add-words
overflow_add-words c = omega (arith, c.loop-i-test.true, c.requires.0.room)

pub offset_bounds-words-at-in-loop-i : goal.offset_bounds-words-at-in-loop-i
offset_bounds-words-at-in-loop-i c = omega (arith, c.loop-i-test.true, c.requires.0.room)

pub overflow_add-words-in-loop-i : goal.overflow_add-words-in-loop-i
overflow_add-words-in-loop-i c = omega (arith, c.loop-i-test.true, c.requires.0.room)

pub offset_bounds-words-at-in-loop-i-2 : goal.offset_bounds-words-at-in-loop-i-2
offset_bounds-words-at-in-loop-i-2 c = omega (arith, c.loop-i-test.true, c.requires.0.room)
