-- `request::stores::is_given` meets its contract. None of the identities passed is the actor's. Assumes nothing.
use Prim.Native.Nat.{ℕ}
use mathlib.Core.Path.{◌≡◌, sym, ap, ◌∙◌}
use native.Mathlib.Omega.{arith}
use lib.ListN.{get_or}
use Rattle.model.specs.Bytes.{same}
use Rattle.model.specs.Lists.{any}
use Rattle.model.specs.Names.{mem}
use Rattle.model.specs.Answers.{name_at}
use Rattle.model.specs.RequestPlaces.{no_identity}
use Rattle.book_tables.proofs.ListedLaws.{scan_none, scan_on, scan_found}
use Rattle.request.specs.Stored.{actor_names}
use Rattle.request.proofs.stores.is_given.Goals as goal

pub loop-i-init : goal.loop-i-init
loop-i-init c =
    let a = c.args in
    (omega arith, scan_none (same a.name.now) (λ j. name_at a.s.now (get_or a.list j no_identity).actor))

pub part_of-requires : goal.part_of-requires
part_of-requires c =
    c.requires.1 c.loop-i.i (omega arith)

pub returns-then-same_bytes : goal.returns-then-same_bytes
unfolding mem
returns-then-same_bytes c =
    let a = c.args in
    sym (scan_found (same a.name.now) (λ j. name_at a.s.now (get_or a.list j no_identity).actor) a.count c.loop-i.i (omega arith)
    (sym (rw c.part_of.ensures at c.same_bytes.ensures) ∙ c.if-same_bytes.true))

pub loop-i-preserved : goal.loop-i-preserved
loop-i-preserved c =
    let a = c.args in (
      omega arith,
      scan_on (same a.name.now) (λ j. name_at a.s.now (get_or a.list j no_identity).actor) c.loop-i.i c.loop-i.invariant.1
          (sym (rw c.part_of.ensures at c.same_bytes.ensures) ∙ c.if-same_bytes.false),
    )

pub returns : goal.returns
unfolding mem
returns c =
    let a = c.args in
    let e : c.loop-i.i ≡ a.count = omega arith in
    sym (ap (λ (n : ℕ). any (same a.name.now) (actor_names a.s.now a.list n)) (sym e) ∙ c.loop-i.invariant.1)
