-- `rules::tests::lacks_of_lower` meets its contract. Assumes nothing.
use mathlib.Core.Bool.{true, false}
use mathlib.Core.Path.{◌≡◌, sym, ap, ◌∙◌}
use native.Mathlib.Omega.{arith}
use Rattle.model.specs.Names.{mem}
use Rattle.model.specs.Bytes.{Bytes}
use Rattle.rules_tables.specs.Layout.{names}
use Rattle.book_tables.specs.View.{name_of}
use Rattle.rules.proofs.tests.lacks_of_lower.Goals as goal

pub name_at-requires : goal.name_at-requires
name_at-requires c =
    (omega (arith, c.requires.2, c.requires.3), c.requires.1.inside c.args.k (omega arith))

pub lacks_one_of-requires : goal.lacks_one_of-requires
lacks_one_of-requires c =
    (c.requires.0, c.requires.2, c.requires.3)

pub returns-then-has_name : goal.returns-then-has_name
unfolding name_of
returns-then-has_name c =
    let a = c.args in λ x y ex ey. let m : mem (name_of a.text.now a.words.now names a.k) y.names ≡ true = ap
    (λ (w : Bytes). mem w y.names) (sym c.name_at.ensures) ∙ sym (c.has_name.ensures y ey)
    ∙ c.if-has_name.true in rw m (c.lacks_one_of.ensures x ex)

pub returns : goal.returns
unfolding name_of
returns c =
    let a = c.args in λ x y ex ey. let m : mem (name_of a.text.now a.words.now names a.k) y.names ≡ false = ap
    (λ (w : Bytes). mem w y.names) (sym c.name_at.ensures) ∙ sym (c.has_name.ensures y ey) ∙ c.if-has_name.false in rw m
