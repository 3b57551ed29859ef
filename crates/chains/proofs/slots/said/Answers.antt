-- `chains::slots::said` meets its contract, by how long the name is. Assumes nothing.
use Prim.Native.Nat.{ℕ, ◌+◌, ◌*◌}
use mathlib.Core.Path.{ap, ap₂, ◌∙◌}
use native.Mathlib.Omega.{arith}
use Rattle.chains.specs.Slots.{eight_at}
use Rattle.chains.proofs.SlotLaws.{said_few, said_four, said_eight, said_more}
use Rattle.chains.proofs.slots.said.Goals as goal

pub returns-then-n-lt4 : goal.returns-then-n-lt4
returns-then-n-lt4 c = c.few.ensures ∙ said_few c.args.name.now c.if-n-lt4.true

pub returns-then-n-lt8 : goal.returns-then-n-lt8
returns-then-n-lt8 c =
    let a = c.args in
    ap₂ (λ (x y : ℕ). x * 5 + y) c.four.ensures.0 c.four-then-n-lt8.ensures.0 ∙ said_four a.name.now (omega arith) (omega arith)

pub returns-then-n-le16 : goal.returns-then-n-le16
returns-then-n-le16 c =
    let a = c.args in
    ap₂ (λ (x y : ℕ). x * 5 + y) c.eight.ensures.0 c.eight-then-n-le16.ensures.0 ∙ said_eight a.name.now (omega arith) (omega arith)

pub returns : goal.returns
returns c =
    let a = c.args in
    ap₂ (λ (x y : ℕ). x * 5 + y * 2 + c.eight-4.result) c.eight-2.ensures.0 c.eight-3.ensures.0
    ∙ ap (λ (z : ℕ). eight_at a.name.now 0 * 5 + eight_at a.name.now 8 * 2 + z) c.eight-4.ensures.0
    ∙ said_more a.name.now (omega arith)
