-- `chains::slots::four_bytes` meets its contract: the lower five bits of four bytes are those of each. Assumes nothing.
use native.Mathlib.Omega.{arith}
use Rattle.chains.proofs.SlotLaws.{four_of}
use Rattle.chains.proofs.slots.four_bytes.Goals as goal

pub returns : goal.returns
returns c =
    let a = c.args in
    let w₁ = c.wide.ensures in
    let w₂ = c.wide-2.ensures in
    let w₃ = c.wide-3.ensures in
    let w₄ = c.wide-4.ensures in
    (omega (arith, w₁.1, w₂.1, w₃.1, w₄.1), four_of a.name.now a.i _ _ _ _ w₁.0 w₂.0 w₃.0 w₄.0 w₁.1 w₂.1 w₃.1 w₄.1)
