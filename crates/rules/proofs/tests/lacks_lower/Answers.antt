-- `rules::tests::lacks_lower` meets its contract. Assumes nothing.
use Prim.Native.Nat.{ℕ}
use mathlib.Core.Path.{◌≡◌, sym, ap, ◌∙◌}
use native.Mathlib.Omega.{arith}
use Rattle.model.specs.Lists.{any}
use Rattle.rules.proofs.TestLaws.{names_fit_fewer, lacks_of, lacks_by_number}
use Rattle.rules_tables.specs.Layout.{names}
use Rattle.book_tables.proofs.ListedLaws.{scan_none, scan_on, scan_found}
use Rattle.book_tables.specs.Listed.{listed}
use Rattle.rules.proofs.tests.lacks_lower.Goals as goal

pub loop-k-init : goal.loop-k-init
loop-k-init c = (
  omega arith,
  λ x y ex ey. scan_none
      (lacks_of c.args.text.now c.args.words.now x.names y.names) (λ i. i),
)

pub lacks_of_lower-requires : goal.lacks_of_lower-requires
lacks_of_lower-requires c =
    let l = c.loop-k-test.true in (
      c.requires.each c.loop-k.k l,
      names_fit_fewer c.args.text.now c.args.words.now names _
          _ (omega arith) c.requires.named,
      omega (arith, c.requires.few),
      c.requires.room,
    )

pub returns-then-lacks_of_lower : goal.returns-then-lacks_of_lower
returns-then-lacks_of_lower c =
    let a = c.args in λ x y ex ey. sym
    (lacks_by_number a.text.now a.words.now a.counts x.names y.names
    ∙ scan_found (lacks_of a.text.now a.words.now x.names y.names) (λ i. i) a.counts.categories c.loop-k.k
    c.loop-k-test.true (sym (c.lacks_of_lower.ensures x y ex ey) ∙ c.if-lacks_of_lower.true))

pub loop-k-preserved : goal.loop-k-preserved
loop-k-preserved c =
    let a = c.args in (
      omega arith,
      λ x y ex ey. scan_on (lacks_of a.text.now a.words.now x.names y.names) (λ i. i)
          c.loop-k.k (c.loop-k.invariant.1 x y ex ey)
          (sym (c.lacks_of_lower.ensures x y ex ey) ∙ c.if-lacks_of_lower.false),
    )

pub returns : goal.returns
returns c =
    let a = c.args in let e : c.loop-k.k ≡ a.counts.categories = omega arith in
    λ x y ex ey. sym (lacks_by_number a.text.now a.words.now a.counts x.names y.names
    ∙ ap (λ (n : ℕ). any (lacks_of a.text.now a.words.now x.names y.names) (listed (λ i. i) n)) (sym e) ∙ c.loop-k.invariant.1 x y ex ey)
