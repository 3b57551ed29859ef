use Rattle.query_signs.specs.Reads.{sign_of, SignInside}
use Rattle.model.specs.Answers.{name_at}
use Rattle.model.specs.Signs.{is_word}
use Rattle.model.specs.Bytes.{same}
use mathlib.Core.Path.{sym, ap, subst, ◌∙◌}
use Rattle.query_pieces.proofs.spots.is_word.Goals as goal

pub part_of-requires : goal.part_of-requires
part_of-requires c =
    subst (SignInside c.args.s.now) c.in-Word.is c.requires

pub returns-in-Word : goal.returns-in-Word
unfolding is_word sign_of name_at
returns-in-Word c =
    c.same_bytes.ensures ∙ ap (λ w. same w c.args.word.now) c.part_of.ensures
    ∙ sym (ap (λ x. is_word c.args.word.now (sign_of c.args.s.now x)) c.in-Word.is)

pub returns-in-Whole : goal.returns-in-Whole
unfolding is_word sign_of
returns-in-Whole c =
    sym (ap (λ x. is_word c.args.word.now (sign_of c.args.s.now x)) c.in-Whole.is)

pub returns-in-Text : goal.returns-in-Text
unfolding is_word sign_of
returns-in-Text c =
    sym (ap (λ x. is_word c.args.word.now (sign_of c.args.s.now x)) c.in-Text.is)

pub returns-in-Mark : goal.returns-in-Mark
unfolding is_word sign_of
returns-in-Mark c =
    sym (ap (λ x. is_word c.args.word.now (sign_of c.args.s.now x)) c.in-Mark.is)
