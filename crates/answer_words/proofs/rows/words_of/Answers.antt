-- Words of rows: past the last row 0, else that word of its row.
use Rattle.std.proofs.Common.{rules, ◌≡◌, ◌<◌, ◌/◌, length, arith, ap, ◌∙◌}
use Rattle.std.proofs.lemmas.List.{get_or_default}
use Rattle.std.proofs.lemmas.Nat.{div_below}
use Rattle.book_tables.proofs.PutLaws.{put_step, put_end}
use Rattle.answer_words.proofs.RowLaws.{past_rows, in_row}
use Rattle.answer_words.proofs.rows.words_of.Goals as goal
use Rattle.answer_words.proofs.rows.words_of.Goals.{then-k-count, else-k-count}

pub row-row-requires : goal.row-row-requires
row-row-requires g c = c.requires.fits

pub loop-k-preserved : goal.loop-k-preserved
loop-k-preserved g c none =
    let long : length c.args.given ≡ g.row.MOST = search rules in
    let inside : c.loop-k.k / g.row.WIDTH < length c.args.given =
    rw long (div_below c.loop-k.k g.row.WIDTH g.row.MOST c.requires.wide (omega (arith, c.loop-k-test.true, c.requires.inside))) in
    elim c.if-k-count.branch [
      | then-k-count w ↦ rw w.words-is (put_step _ _ _ _ _ c.loop-k-test.true (c.loop-k.invariant none)
          (in_row g.row.WIDTH _ _ _ _ w.if-k-count.true (w.row-row.ensures ∙ ap (λ x. g.T.Told.row_of x) (get_or_default c.args.given (c.loop-k.k / g.row.WIDTH) _ none inside))))
      | else-k-count w ↦ rw w.words-is (put_step _ _ _ _ _ c.loop-k-test.true (c.loop-k.invariant none) (past_rows g.row.WIDTH _ _ _ w.if-k-count.false))
    ]

pub returns : goal.returns
returns g c none = put_end _ _ _ _ c.loop-k-test.false (c.loop-k.invariant none)
