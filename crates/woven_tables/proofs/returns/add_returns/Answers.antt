-- `add_returns` meets its contract. The loop's invariant: the first i Return vertices are stored. Assumes nothing.
use Rattle.woven_tables.proofs.ReturnLaws.{returns_start, returns_more}
use Rattle.woven_tables.specs.Steps.{ReturnsAdded}
use lib.ListN.{length}
use native.Mathlib.Omega.{arith}
use mathlib.Core.Path.{◌≡◌, subst}
use Prim.Native.Nat.{◌-◌}
use borrow.Author.Rules.{rules}
use Rattle.woven_tables.proofs.returns.add_returns.Goals as goal

pub loop-i-init : goal.loop-i-init
loop-i-init c = (omega arith, returns_start c.args.returns c.args.numbers c.args.words.now)

pub offset_bounds-returns-i : goal.offset_bounds-returns-i
offset_bounds-returns-i c = omega (arith, c.requires.0.few)

pub bounds-returns-i : goal.bounds-returns-i
bounds-returns-i c = omega (arith, c.requires.0.few)

pub offset_bounds-numbers-v : goal.offset_bounds-numbers-v
offset_bounds-numbers-v c = let f = c.requires.0.fit c.loop-i.i (omega arith) in omega (arith, f.0)

pub bounds-numbers-v : goal.bounds-numbers-v
bounds-numbers-v c = let f = c.requires.0.fit c.loop-i.i (omega arith) in omega (arith, f.0)

pub overflow_cast-words : goal.overflow_cast-words
overflow_cast-words c = let f = c.requires.0.fit c.loop-i.i (omega arith) in omega (arith, f.1)

pub bounds-words-i : goal.bounds-words-i
bounds-words-i c = omega (arith, c.loop-i.invariant.1.size, c.requires.0.few, c.requires.1)

pub loop-i-preserved : goal.loop-i-preserved
loop-i-preserved c =
    let a = c.args in
    let all : length a.returns ≡ 4 = search rules in (
      omega arith,
      returns_more a.returns c.loop-i.i a.numbers a.words.now c.loop-i.words c.loop-i.invariant.1
          (omega (arith, c.requires.0.few)) (omega (arith, c.requires.0.few))
          (omega (arith, c.loop-i.invariant.1.size, c.requires.1)),
    )

pub shape_of-words : goal.shape_of-words
shape_of-words c = c.loop-i.invariant.1.size

pub returns : goal.returns
returns c =
    let a = c.args in
    let e : c.loop-i.i ≡ a.count = omega arith in
    subst (λ n. ReturnsAdded a.returns n a.numbers a.words.now c.loop-i.words) e c.loop-i.invariant.1.added
