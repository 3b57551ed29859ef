-- `renamed_text::lines::put_line` meets its contract. Assumes nothing.
use Rattle.text.proofs.LineReads.{line_forward, line_inside}
use Rattle.renamed_text.specs.Marks.{marked_in}
use Rattle.renamed_text.proofs.LineLaws.{line_ended, line_last}
use Rattle.renamed_text.proofs.lines.put_line.Goals as goal

pub put_words-read-requires : goal.put_words-read-requires
put_words-read-requires c =
    let text = c.args.text.now in
    let from = c.args.progress.seen in
    record {
      fits = c.requires.fits;
      read = c.requires.read;
      inside = line_forward text from _ c.line_end-to.ensures c.requires.inside;
      end = line_inside text from _ c.line_end-to.ensures c.requires.inside;
    }

pub returns-then-to-text : goal.returns-then-to-text
returns-then-to-text c =
    let a = c.args in
    line_ended a.text.now a.progress _ c.line_end-to.ensures c.requires.inside
    (marked_in a.text.now a.words.now a.counts a.marked.now) a.out.now _ _ c.put_words-read.ensures c.if-to-text.true

pub returns-else-to-text : goal.returns-else-to-text
returns-else-to-text c =
    let a = c.args in
    line_last a.text.now a.progress _ c.line_end-to.ensures c.requires.inside
    (marked_in a.text.now a.words.now a.counts a.marked.now) a.out.now _ _ c.put_words-read.ensures c.if-to-text.false
