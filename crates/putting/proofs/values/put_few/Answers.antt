-- `put_few` meets its contract: no digit, one, the last one, or two. Assumes nothing.
use mathlib.Core.Logic.{⊎_elim}
use native.Mathlib.Omega.{arith}
use Rattle.putting.proofs.PuttingLaws.{puts_nothing, puts_same, puts_keeps_length}
use Rattle.putting.proofs.ValueLaws.{no_digits, one_digit, last_digit, two_digits}
use Rattle.putting.proofs.values.put_few.Goals as goal

pub returns-then-most-eq0 : goal.returns-then-most-eq0
returns-then-most-eq0 c = let a = c.args in puts_same (no_digits a.most a.n c.if-most-eq0.true) (puts_nothing a.out.now a.at)

pub overflow_cast-n : goal.overflow_cast-n
overflow_cast-n c = omega arith

pub overflow_add-n : goal.overflow_add-n
overflow_add-n c = omega arith

pub shape_of-out-then-n-lt-TEN : goal.shape_of-out-then-n-lt-TEN
shape_of-out-then-n-lt-TEN c = puts_keeps_length c.put_byte.ensures

pub returns-then-n-lt-TEN : goal.returns-then-n-lt-TEN
returns-then-n-lt-TEN c =
    let a = c.args in
    puts_same (one_digit a.most a.n c.if-most-eq0.false c.if-n-lt-TEN.true) c.put_byte.ensures

pub overflow_cast-n-then-most-eq1 : goal.overflow_cast-n-then-most-eq1
overflow_cast-n-then-most-eq1 c = omega arith

pub overflow_add-n-then-most-eq1 : goal.overflow_add-n-then-most-eq1
overflow_add-n-then-most-eq1 c = omega arith

pub shape_of-out-then-most-eq1 : goal.shape_of-out-then-most-eq1
shape_of-out-then-most-eq1 c = puts_keeps_length c.put_byte-then-most-eq1.ensures

pub returns-then-most-eq1 : goal.returns-then-most-eq1
returns-then-most-eq1 c =
    let a = c.args in
    puts_same (last_digit a.most a.n c.if-most-eq1.true c.if-n-lt-TEN.false) c.put_byte-then-most-eq1.ensures

pub put_pair-requires : goal.put_pair-requires
put_pair-requires c =
    ⊎_elim (λ l. absurd (omega (arith, l, c.if-most-eq1.false, c.if-most-eq0.false))) (λ l. l) c.requires

pub shape_of-out : goal.shape_of-out
shape_of-out c = puts_keeps_length c.put_pair.ensures

pub returns : goal.returns
returns c =
    let a = c.args in
    let few = ⊎_elim (λ l. absurd (omega (arith, l, c.if-most-eq1.false, c.if-most-eq0.false))) (λ l. l) c.requires in
    puts_same (two_digits a.most a.n c.if-most-eq0.false c.if-most-eq1.false c.if-n-lt-TEN.false few)
    c.put_pair.ensures
