-- `renamed_text::blocks::put_block` meets its contract. Assumes nothing.
use native.Mathlib.Omega.{arith}
use Rattle.renamed_text.proofs.BlockLaws.{none_kept}
use Rattle.renamed_text.proofs.blocks.put_block.Goals as goal

pub returns-then-bytes-at : goal.returns-then-bytes-at
returns-then-bytes-at c =
    let a = c.args in
    none_kept a.out.now a.bytes.now a.at c.if-out-at.true (omega arith)
