use Rattle.query_pieces.proofs.SpotLaws.{place_ends, place_broken, place_piece, place_moves, place_stands}
use Rattle.query_pieces.proofs.PartLaws.{step_farther, step_stands, place_stopped}
use Rattle.query_pieces.specs.Walk.{stopped}
use Rattle.query_signs.specs.Reads.{ReadInside, NextSign}
use mathlib.Core.Bool.{Bool}
use mathlib.Core.Path.{sym, ap, subst, ◌∙◌}
use Rattle.query_pieces.proofs.reading.next_piece.Goals as goal

pub returns-then-s-blanks_end : goal.returns-then-s-blanks_end
returns-then-s-blanks_end c =
    place_stopped (place_ends c.args.s.now c.args.place c.blanks_end.result
    c.blanks_end.ensures c.if-s-blanks_end.true ∙ ap stopped (sym c.ends_well.ensures))

pub returns-in_default : goal.returns-in_default
returns-in_default c =
    place_stopped (place_broken c.args.s.now c.args.place c.blanks_end.result c.blanks_end.ensures
    c.if-s-blanks_end.false c.next_sign.result
    (subst (λ (x : Bool). NextSign x c.args.place.close c.args.s.now c.args.place.at
    c.next_sign.result) c.in_chain.ensures c.next_sign.ensures)
    c.in_default.is)

pub piece_by-requires : goal.piece_by-requires
piece_by-requires c =
    subst (ReadInside c.args.s.now) c.in-Some.is c.next_sign.ensures.inside

pub returns : goal.returns
returns c =
    let h = subst (λ (x : Bool). NextSign x c.args.place.close c.args.s.now c.args.place.at
    c.next_sign.result) c.in_chain.ensures c.next_sign.ensures in record {
      reads = place_piece c.args.s.now c.args.place c.blanks_end.result c.blanks_end.ensures
          c.if-s-blanks_end.false c.next_sign.result h c.in-Some.t c.in-Some.q c.in-Some.is
          ∙ c.piece_by.ensures.reads;
      moves = step_farther c.args.place.at c.in-Some.q c.piece_by.result
          (place_moves c.args.s.now c.args.place c.blanks_end.result c.blanks_end.ensures
          c.if-s-blanks_end.false c.next_sign.result h c.in-Some.t c.in-Some.q c.in-Some.is)
          c.piece_by.ensures.moves;
      inside = c.piece_by.ensures.inside;
      stands = step_stands c.args.s.now c.piece_by.result
          (place_stands c.args.s.now c.args.place c.blanks_end.result c.blanks_end.ensures
          c.if-s-blanks_end.false c.next_sign.result h c.in-Some.t c.in-Some.q c.in-Some.is)
          c.piece_by.ensures.stands;
    }
