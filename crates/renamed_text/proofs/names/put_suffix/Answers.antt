-- `renamed_text::names::put_suffix` meets its contract. Assumes nothing.
use Rattle.model.specs.Answers.{part_of}
use Rattle.renamed_text.specs.Progress.{waiting}
use Rattle.renamed_text.proofs.ProgressLaws.{suffix_put}
use Rattle.renamed_text.proofs.names.put_suffix.Goals as goal

pub returns : goal.returns
unfolding waiting part_of
returns c =
    let a = c.args in
    suffix_put a.text.now a.out.now a.progress _ _ _ _ c.put_block-at.ensures c.put_block.ensures
