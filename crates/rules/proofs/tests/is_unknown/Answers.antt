-- `rules::tests::is_unknown` meets its contract. Assumes nothing.
use mathlib.Core.List.{List}
use mathlib.Core.Bool.{Bool, not}
use mathlib.Core.Path.{sym, ◌∙◌}
use native.Mathlib.Omega.{arith}
use Rattle.model.specs.Names.{mem}
use Rattle.model.specs.Lists.{all}
use Rattle.model.specs.Bytes.{Bytes}
use Rattle.rules.proofs.TestLaws.{miss_none, miss_found, miss_other}
use Rattle.item_forms.proofs.PlacedLaws.{placed_at}
use Rattle.name_lists.proofs.Behind.{left_start, left_next, left_found, left_done, left_over}
use Rattle.rules_tables.specs.Layout.{names}
use Rattle.book_tables.proofs.NameLaws.{place_mem, place_out}
use Rattle.book_tables.specs.View.{names_at}
use Rattle.rules.proofs.tests.is_unknown.Goals as goal

pub loop-i-init : goal.loop-i-init
loop-i-init c =
    let a = c.args in
    left_start (λ (ns : List Bytes). not (all (λ w. mem w (names_at a.text.now a.words.now names a.count)) ns)) a.s.now a.from

pub returns-in_default : goal.returns-in_default
returns-in_default c =
    let a = c.args in
    let p : Bytes → Bool = λ w. mem w (names_at a.text.now a.words.now names a.count) in
    λ x e. sym (miss_none p) ∙ left_done (λ ns. not (all p ns)) (λ ns. not (all p ns)) a.s.now a.from c.loop-i.i
    c.loop-i.invariant (sym c.in_default.is ∙ c.next_name.ensures.is) x e

pub part_of-name_bytes-requires : goal.part_of-name_bytes-requires
part_of-name_bytes-requires c =
    let a = c.args in
    (placed_at a.s.now c.loop-i.i _ c.in-Some.is c.next_name.ensures.placed).inside

pub find_name-requires : goal.find_name-requires
find_name-requires c =
    c.requires

pub returns-then-count-find_name : goal.returns-then-count-find_name
returns-then-count-find_name c =
    let a = c.args in
    let p : Bytes → Bool = λ w. mem w (names_at a.text.now a.words.now names a.count) in
    let found = rw c.part_of-name_bytes.ensures at c.find_name.ensures in
    left_found (λ ns. not (all p ns)) (λ ns. not (all p ns)) a.s.now a.from c.loop-i.i _ _ c.loop-i.invariant
    (sym c.in-Some.is ∙ c.next_name.ensures.is)
    (λ y e. miss_found p _ y.names (place_out a.text.now a.words.now names a.count _ (omega (arith, found, c.if-count-find_name.true))))

pub overflow_add-i : goal.overflow_add-i
overflow_add-i c =
    let a = c.args in
    omega (arith, c.well_formed, (placed_at a.s.now c.loop-i.i _ c.in-Some.is c.next_name.ensures.placed).inside)

pub loop-i-smaller : goal.loop-i-smaller
loop-i-smaller c =
    let a = c.args in
    let h = placed_at a.s.now c.loop-i.i _ c.in-Some.is c.next_name.ensures.placed in
    omega (arith, h.after, h.some)

pub loop-i-preserved : goal.loop-i-preserved
loop-i-preserved c =
    let a = c.args in
    let p : Bytes → Bool = λ w. mem w (names_at a.text.now a.words.now names a.count) in
    let found = rw c.part_of-name_bytes.ensures at c.find_name.ensures in
    left_next (λ ns. not (all p ns)) (λ ns. not (all p ns)) a.s.now a.from c.loop-i.i (λ ns. not (all p ns)) _ c.loop-i.invariant
    (sym c.in-Some.is ∙ c.next_name.ensures.is)
    (λ y e. miss_other p _ y.names (place_mem a.text.now a.words.now names a.count _ (omega (arith, found, c.if-count-find_name.false))))

pub returns : goal.returns
returns c =
    let a = c.args in
    let p : Bytes → Bool = λ w. mem w (names_at a.text.now a.words.now names a.count) in
    λ x e. left_over (λ ns. not (all p ns)) (λ ns. not (all p ns)) a.s.now a.from c.loop-i.i c.loop-i.invariant c.loop-i-test.false x e
