-- `rules_tables::names::name_at` meets its contract. Assumes nothing.
use Prim.Native.Nat.{ℕ, ◌+◌, ◌-◌, ◌/◌, ◌%◌}
use mathlib.Core.Path.{◌≡◌}
use native.Mathlib.Omega.{arith}
use Rattle.model.specs.Answers.{part_of}
use Rattle.book_tables.specs.View.{name_in, word_at}
use Rattle.rules_tables.proofs.names.name_at.Goals as goal

pub overflow_cast-word : goal.overflow_cast-word
overflow_cast-word c = omega (arith, c.type_inv.words c.args.at)

pub overflow_add-end : goal.overflow_add-end
overflow_add-end c = omega (arith, c.type_inv.words c.args.at)

pub returns : goal.returns
unfolding name_in part_of
returns c = let w : ℕ = word_at c.args.words.now c.args.at in
    let e : w / 32 + w % 32 - w / 32 ≡ w % 32 = omega arith in rw e
