-- `renamed_text::words::line_word` meets its contract. Assumes nothing.
use mathlib.Core.Path.{sym}
use native.Mathlib.Omega.{arith}
use lib.Seq.{length-take-le}
use Rattle.renamed_text.proofs.FrontLaws.{line_word}
use Rattle.renamed_text.proofs.words.line_word.Goals as goal

pub slice_bounds-first_word-end : goal.slice_bounds-first_word-end
slice_bounds-first_word-end c = sym (length-take-le c.args.to c.args.text.now c.requires.1)

pub first_word-requires : goal.first_word-requires
first_word-requires c = omega (arith, length-take-le c.args.to c.args.text.now c.requires.1)

pub returns : goal.returns
returns c =
    line_word c.args.text.now c.args.to c.args.from _ c.requires.1 c.first_word.ensures
