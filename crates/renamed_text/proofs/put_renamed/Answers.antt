-- `renamed_text::put_renamed` meets its contract. The loop's invariant: once what waits and the lines left are put, the buffer holds what it is to hold.
-- Assumes nothing.
use Prim.Native.Nat.{◌-◌}
use mathlib.Core.Path.{ap, ◌∙◌}
use native.Mathlib.Omega.{arith}
use borrow.Author.Rules.{rules}
use Rattle.model.specs.Answers.{part_of}
use Rattle.model.specs.Book.{node_names}
use Rattle.book_tables.specs.View.{book_at}
use Rattle.putting.specs.Putting.{with_text}
use Rattle.renamed_text.specs.Marks.{marked_in}
use Rattle.renamed_text.proofs.TextLaws.{renamed_by, all_to_come, rest_put}
use Rattle.renamed_text.proofs.put_renamed.Goals as goal

pub loop-progress-init : goal.loop-progress-init
loop-progress-init c =
    let a = c.args in
    (search rules, omega arith, omega arith, all_to_come a.text.now a.out.now _)

pub put_line-progress-requires : goal.put_line-progress-requires
put_line-progress-requires c =
    record { fits = c.requires; read = c.loop-progress.invariant.1; inside = c.loop-progress-test.true }

pub loop-progress-smaller : goal.loop-progress-smaller
loop-progress-smaller c = let g = c.put_line-progress.ensures in omega (arith, g.onward, g.inside)

pub loop-progress-preserved : goal.loop-progress-preserved
loop-progress-preserved c =
    let g = c.put_line-progress.ensures in
    (search rules, g.read, g.inside, g.same ∙ c.loop-progress.invariant.3)

pub returns : goal.returns
unfolding part_of
returns c later marks =
    let a = c.args in
    let text = a.text.now in
    record {
      is = rest_put (marked_in text a.words.now a.counts a.marked.now) text _ c.loop-progress.progress _ _ _ (omega arith) c.loop-progress.invariant.3
          c.put_block.ensures
          ∙ ap (with_text (record { bytes = a.out.now; place = 0 }))
          (renamed_by later (node_names (book_at text a.words.now a.counts)) a.marked.now marks text);
    }
