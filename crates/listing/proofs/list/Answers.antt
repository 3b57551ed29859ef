-- `list` meets its contract, by what asking gives; then the row words behind the rows are filled.
use mathlib.Core.Path.{◌≡◌, refl}
use native.Mathlib.Omega.{arith}
use Rattle.std.specs.Prelude.{Ok, Some, None}
use Rattle.model.specs.Answers.{refusal_of}
use Rattle.asking.proofs.AnswerLaws.{told_found, told_full, told_refused}
use Rattle.listing.proofs.ListingLaws.{list_found_law, list_full, list_refused}
use borrow.Author.Rules.{rules}
use Rattle.listing.proofs.list.Goals as goal

pub overflow_mul-size : goal.overflow_mul-size
overflow_mul-size c =
    let e : c.ask.result ≡ Ok (Some c.in-Ok-Some.size) = search rules in
    let found = told_found e c.ask.ensures.answer in
    record { fits = omega (arith, found.fits, c.well_formed.1.1.1.1.0) }

pub returns-in-Ok-Some : goal.returns-in-Ok-Some
returns-in-Ok-Some c =
    let a = c.args in
    let e : c.ask.result ≡ Ok (Some c.in-Ok-Some.size) = search rules in
    let found = told_found e c.ask.ensures.answer in
    list_found_law _ _ _ _ a.rows.now _ _ _ c.ask.ensures.cleared _ _ _ found (search rules) c.fill.ensures

pub returns-in-Ok-None : goal.returns-in-Ok-None
unfolding refusal_of
returns-in-Ok-None c =
    let a = c.args in
    let e : c.ask.result ≡ Ok None = search rules in
    let full = told_full e c.ask.ensures.answer in
    list_full _ _ _ _ a.rows.now _ _ _ c.ask.ensures.cleared full _ _ refl _ (search rules) c.refuse.ensures

pub returns-in-Err : goal.returns-in-Err
returns-in-Err c =
    let a = c.args in
    let refused = told_refused c.in-Err.is c.ask.ensures.answer in
    list_refused _ _ _ _ a.rows.now _ _ _ c.ask.ensures.cleared _ refused _ _ (search rules) c.refuse-in-Err.ensures
