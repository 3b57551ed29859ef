-- `item_forms::pieces::value` meets its contract.
use Rattle.std.specs.Prelude.{Some}
use Rattle.item_forms.proofs.PieceTests.{truth_true, truth_false, truth_none}
use Rattle.items.proofs.ReadLaws.{read_within, text_within}
use Rattle.item_forms.specs.Pieces.{value_piece}
use Rattle.model.specs.Answers.{part_of}
use native.Mathlib.Omega.{arith}
use mathlib.Core.Logic.{⊎_elim}
use mathlib.Core.Path.{refl, sym, ap, ◌∙◌}
use Rattle.item_forms.proofs.pieces.value.Goals as goal

pub slice_bounds-same_bytes-count : goal.slice_bounds-same_bytes-count
slice_bounds-same_bytes-count c =
    omega (
      arith,
      read_within c.args.depth c.args.s.now c.args.at c.in-Word.q _
          (ap Some (sym c.in-Word.is) ∙ c.in_ok-q.ensures) refl,
    )

pub slice_bounds-same_bytes-start : goal.slice_bounds-same_bytes-start
slice_bounds-same_bytes-start c =
    omega (
      arith,
      read_within c.args.depth c.args.s.now c.args.at c.in-Word.q _
          (ap Some (sym c.in-Word.is) ∙ c.in_ok-q.ensures) refl,
    )

pub slice_bounds-same_bytes-end : goal.slice_bounds-same_bytes-end
slice_bounds-same_bytes-end c =
    omega (
      arith,
      read_within c.args.depth c.args.s.now c.args.at c.in-Word.q _
          (ap Some (sym c.in-Word.is) ∙ c.in_ok-q.ensures) refl,
    )

pub returns-then-same_bytes : goal.returns-then-same_bytes
unfolding value_piece part_of
returns-then-same_bytes c =
    truth_true c.args.s.now c.args.at c.in-Word.q (sym c.same_bytes.ensures ∙ c.if-same_bytes.true)
    ∙ ap (value_piece c.args.s.now c.args.at) (ap Some (sym c.in-Word.is) ∙ c.in_ok-q.ensures)

pub slice_bounds-same_bytes-count-in-Word : goal.slice_bounds-same_bytes-count-in-Word
slice_bounds-same_bytes-count-in-Word c =
    omega (
      arith,
      read_within c.args.depth c.args.s.now c.args.at c.in-Word.q _
          (ap Some (sym c.in-Word.is) ∙ c.in_ok-q.ensures) refl,
    )

pub returns-then-same_bytes-2 : goal.returns-then-same_bytes-2
unfolding value_piece part_of
returns-then-same_bytes-2 c =
    truth_false c.args.s.now c.args.at c.in-Word.q (sym c.same_bytes.ensures ∙ c.if-same_bytes.false)
    (sym c.same_bytes-in-Word.ensures ∙ c.if-same_bytes-2.true)
    ∙ ap (value_piece c.args.s.now c.args.at) (ap Some (sym c.in-Word.is) ∙ c.in_ok-q.ensures)

pub overflow_add-result : goal.overflow_add-result
overflow_add-result c =
    omega (
      arith,
      text_within c.args.depth c.args.s.now c.args.at c.in-Text.q
          (ap Some (sym c.in-Text.is) ∙ c.in_ok-q.ensures),
    )

pub overflow_sub-result : goal.overflow_sub-result
overflow_sub-result c =
    omega (
      arith,
      text_within c.args.depth c.args.s.now c.args.at c.in-Text.q
          (ap Some (sym c.in-Text.is) ∙ c.in_ok-q.ensures),
    )

pub overflow_sub-result-in-Text : goal.overflow_sub-result-in-Text
overflow_sub-result-in-Text c =
    omega (
      arith,
      text_within c.args.depth c.args.s.now c.args.at c.in-Text.q
          (ap Some (sym c.in-Text.is) ∙ c.in_ok-q.ensures),
    )

pub returns-else-same_bytes-2 : goal.returns-else-same_bytes-2
unfolding value_piece part_of
returns-else-same_bytes-2 c =
    truth_none c.args.s.now c.args.at c.in-Word.q (sym c.same_bytes.ensures ∙ c.if-same_bytes.false)
    (sym c.same_bytes-in-Word.ensures ∙ c.if-same_bytes-2.false)
    ∙ ap (value_piece c.args.s.now c.args.at) (ap Some (sym c.in-Word.is) ∙ c.in_ok-q.ensures)

pub returns-in-Number : goal.returns-in-Number
unfolding value_piece
returns-in-Number c =
    ap (value_piece c.args.s.now c.args.at) (ap Some (sym c.in-Number.is) ∙ c.in_ok-q.ensures)

pub returns-in-Text : goal.returns-in-Text
unfolding value_piece
returns-in-Text c =
    ap (value_piece c.args.s.now c.args.at) (ap Some (sym c.in-Text.is) ∙ c.in_ok-q.ensures)

pub returns-in-Quoted : goal.returns-in-Quoted
unfolding value_piece
returns-in-Quoted c =
    ⊎_elim (λ z. ap (value_piece c.args.s.now c.args.at) (ap Some (sym z.1) ∙ c.in_ok-q.ensures))
    (λ z. ap (value_piece c.args.s.now c.args.at) (ap Some (sym z.1) ∙ c.in_ok-q.ensures)) c.in-Quoted.is

pub returns-in_err-q : goal.returns-in_err-q
unfolding value_piece
returns-in_err-q c = c.from_residual.ensures ∙ ap (value_piece c.args.s.now c.args.at) c.in_err-q.ensures

pub slice_bounds-same_bytes-start-in-Word : goal.slice_bounds-same_bytes-start-in-Word
slice_bounds-same_bytes-start-in-Word c =
    omega (
      arith,
      read_within c.args.depth c.args.s.now c.args.at c.in-Word.q _
          (ap Some (sym c.in-Word.is) ∙ c.in_ok-q.ensures) refl,
    )

pub slice_bounds-same_bytes-end-in-Word-2 : goal.slice_bounds-same_bytes-end-in-Word-2
slice_bounds-same_bytes-end-in-Word-2 c =
    omega (
      arith,
      read_within c.args.depth c.args.s.now c.args.at c.in-Word.q _
          (ap Some (sym c.in-Word.is) ∙ c.in_ok-q.ensures) refl,
    )
