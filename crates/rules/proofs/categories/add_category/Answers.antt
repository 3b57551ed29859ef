-- `rules::categories::add_category` meets its contract. Assumes nothing.
use Prim.Native.Nat.{ℕ}
use mathlib.Core.Bool.{◌||◌}
use mathlib.Core.Path.{sym, ap, subst, ◌∙◌}
use native.Mathlib.Omega.{arith}
use lib.Dec.{eqb}
use Rattle.rules.proofs.CategoryLaws.{lower_asked, category_done, clear_of, added_of}
use Rattle.rules_tables.specs.Fits.{below_some, LowerAsked}
use Rattle.rules_tables.specs.Layout.{over_from}
use Rattle.book_tables.specs.View.{names_at}
use Rattle.rules.proofs.categories.add_category.Goals as goal

pub store_names-actors-requires : goal.store_names-actors-requires
store_names-actors-requires c = let g = c.requires in let d = clear_of _ _ _ _ _ _ _ _ g in
    (record { read = g.actors; is = g.actors_are; room = omega (arith, d.few, d.few_actors, g.fits.room) }, omega (arith, g.line.inside, g.short))

pub store_names-over-requires : goal.store_names-over-requires
store_names-over-requires c =
    let g = c.requires in let d = clear_of _ _ _ _ _ _ _ _ g in let st = (c.store_names-actors.ensures g.actors g.actors_are).1 in
    (record { read = g.over; is = g.over_are; room = omega (arith, d.few, d.few_over, g.fits.room, st.size) }, omega (arith, g.line.inside, g.short))

pub lower_set-set-requires : goal.lower_set-set-requires
lower_set-set-requires c =
    let a = c.args in let g = c.requires in let d = clear_of _ _ _ _ _ _ _ _ g in
    let st1 = c.store_names-actors.ensures g.actors g.actors_are in
    let st2 = c.store_names-over.ensures g.over g.over_are in
    subst (LowerAsked a.text.now c.store_names-over.new.words a.counts.categories) (sym st2.0)
    (lower_asked a.text.now a.words.now c.store_names-actors.new.words c.store_names-over.new.words a.counts a.s.now
    a.base a.name g.actors.names g.over.names g.fits g.line g.places d st1.1 st2.1)

pub store_category-requires : goal.store_category-requires
store_category-requires c =
    let g = c.requires in let d = clear_of _ _ _ _ _ _ _ _ g in let st1 = c.store_names-actors.ensures g.actors g.actors_are in
    let st2 = c.store_names-over.ensures g.over g.over_are in
    (omega (arith, g.fits.room, st1.1.size, st2.1.size), d.few, omega (arith, d.few_actors, st1.0), omega (arith, d.few_over, st2.0))

pub returns : goal.returns
returns c =
    let a = c.args in let g = c.requires in let d = clear_of _ _ _ _ _ _ _ _ g in
    let st1 = c.store_names-actors.ensures g.actors g.actors_are in
    let st2 = c.store_names-over.ensures g.over g.over_are in
    added_of a.text.now a.words.now a.counts a.s.now a.base a.name a.a a.o g _
    (category_done a.text.now a.words.now c.store_names-actors.new.words c.store_names-over.new.words a.counts a.s.now
    a.base a.name g.actors.names g.over.names g.fits g.line g.places d st1.1 st2.1
    c.lower_set-set.result (λ m. c.lower_set-set.ensures m
    ∙ ap (λ (n : ℕ). eqb m a.counts.categories
    || below_some a.text.now c.store_names-over.new.words a.counts.categories m
    (names_at a.text.now c.store_names-over.new.words (over_from a.counts.categories) n)) st2.0)
    _ c.store_names-actors.result c.store_names-over.result st1.0 st2.0 c.store_category.ensures)
