-- `renamed_text::words::first_word` meets its contract. Assumes nothing.
use Rattle.renamed_text.proofs.WordLaws.{first_word_law}
use Rattle.renamed_text.proofs.words.first_word.Goals as goal

pub returns : goal.returns
returns c =
    first_word_law c.args.s.now c.args.from _ _ c.requires c.word_start-start.ensures c.run_end.ensures
