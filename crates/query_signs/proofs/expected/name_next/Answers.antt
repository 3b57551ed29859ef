-- `query_signs::expected::name_next` meets its contract.
use Rattle.query_signs.proofs.FrontLaws.{name_other, name_long, name_within, name_close, name_found, name_reserved}
use Rattle.model.specs.Answers.{part_of}
use Rattle.model.specs.Words.{is_letter}
use native.Mathlib.Omega.{arith}
use mathlib.Core.Path.{sym, ap, ◌∙◌}
use Rattle.query_signs.proofs.expected.name_next.Goals as goal

pub returns-then-not-is_letter : goal.returns-then-not-is_letter
returns-then-not-is_letter c =
    name_other c.args.chain c.args.close c.args.s.now c.args.from c.blanks_end-at.result
    c.blanks_end-at.ensures
    (ap is_letter (sym c.peek.ensures) ∙ sym c.is_letter.ensures ∙ c.if-not-is_letter.true)

pub returns-in_err-q : goal.returns-in_err-q
returns-in_err-q c =
    rw c.from_residual.ensures
    (name_long c.args.chain c.args.close c.args.s.now c.args.from c.blanks_end-at.result
    c.blanks_end-at.ensures (ap is_letter (sym c.peek.ensures) ∙ sym c.is_letter.ensures
    ∙ c.if-not-is_letter.false) (sym c.in_err-q.was ∙ c.word.ensures))

pub returns-then-touches : goal.returns-then-touches
returns-then-touches c =
    name_close c.args.chain c.args.close c.args.s.now c.args.from c.blanks_end-at.result
    c.blanks_end-at.ensures (ap is_letter (sym c.peek.ensures) ∙ sym c.is_letter.ensures
    ∙ c.if-not-is_letter.false) c.in_ok-q.q
    (sym c.in_ok-q.was ∙ c.word.ensures) (sym c.touches.ensures ∙ c.if-touches.true)

pub slice_bounds-is_query_name-count : goal.slice_bounds-is_query_name-count
slice_bounds-is_query_name-count c =
    omega (
      arith,
      name_within c.args.chain c.args.close c.args.s.now c.args.from
          c.blanks_end-at.result c.blanks_end-at.ensures
          (ap is_letter (sym c.peek.ensures) ∙ sym c.is_letter.ensures
          ∙ c.if-not-is_letter.false) c.in_ok-q.q
          (sym c.in_ok-q.was ∙ c.word.ensures),
    )

pub slice_bounds-is_query_name-start : goal.slice_bounds-is_query_name-start
slice_bounds-is_query_name-start c =
    omega (
      arith,
      name_within c.args.chain c.args.close c.args.s.now c.args.from
          c.blanks_end-at.result c.blanks_end-at.ensures
          (ap is_letter (sym c.peek.ensures) ∙ sym c.is_letter.ensures
          ∙ c.if-not-is_letter.false) c.in_ok-q.q
          (sym c.in_ok-q.was ∙ c.word.ensures),
    )

pub slice_bounds-is_query_name-end : goal.slice_bounds-is_query_name-end
slice_bounds-is_query_name-end c =
    omega (
      arith,
      name_within c.args.chain c.args.close c.args.s.now c.args.from
          c.blanks_end-at.result c.blanks_end-at.ensures
          (ap is_letter (sym c.peek.ensures) ∙ sym c.is_letter.ensures
          ∙ c.if-not-is_letter.false) c.in_ok-q.q
          (sym c.in_ok-q.was ∙ c.word.ensures),
    )

pub overflow_sub-result : goal.overflow_sub-result
overflow_sub-result c =
    omega (
      arith,
      name_within c.args.chain c.args.close c.args.s.now c.args.from
          c.blanks_end-at.result c.blanks_end-at.ensures
          (ap is_letter (sym c.peek.ensures) ∙ sym c.is_letter.ensures
          ∙ c.if-not-is_letter.false) c.in_ok-q.q (sym c.in_ok-q.was ∙ c.word.ensures),
    )

pub returns-then-is_query_name : goal.returns-then-is_query_name
unfolding part_of
returns-then-is_query_name c =
    name_found c.args.chain c.args.close c.args.s.now c.args.from c.blanks_end-at.result
    c.blanks_end-at.ensures (ap is_letter (sym c.peek.ensures) ∙ sym c.is_letter.ensures
    ∙ c.if-not-is_letter.false) c.in_ok-q.q (sym c.in_ok-q.was ∙ c.word.ensures)
    (sym c.touches.ensures ∙ c.if-touches.false) (sym c.is_query_name.ensures ∙ c.if-is_query_name.true)

pub returns : goal.returns
unfolding part_of
returns c =
    name_reserved c.args.chain c.args.close c.args.s.now c.args.from c.blanks_end-at.result
    c.blanks_end-at.ensures (ap is_letter (sym c.peek.ensures) ∙ sym c.is_letter.ensures
    ∙ c.if-not-is_letter.false) c.in_ok-q.q (sym c.in_ok-q.was ∙ c.word.ensures)
    (sym c.touches.ensures ∙ c.if-touches.false) (sym c.is_query_name.ensures ∙ c.if-is_query_name.false)
