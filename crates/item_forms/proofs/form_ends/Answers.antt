-- `item_forms::form_ends` meets its contract. The loop's invariant: what is left to close ends the form as the whole does.
use Rattle.item_forms.proofs.FormLaws.{spaces_from_law, ends_on}
use Rattle.item_forms.specs.Ends.{ends_after}
use Rattle.item_forms.specs.Pieces.{after_end}
use Prim.Native.Nat.{ℕ, ◌+◌, ◌-◌}
use mathlib.Core.Path.{◌≡◌, sym, ap, ◌∙◌}
use lib.Dec.{leb}
use lib.ListN.{length}
use native.Mathlib.Omega.{arith}
use Rattle.item_forms.proofs.form_ends.Goals as goal

pub loop-init : goal.loop-init
loop-init c = let e : c.args.closes - 0 ≡ c.args.closes = omega arith in ap (λ (n : ℕ). ends_after n c.args.s.now c.args.from) e

pub returns-in_default : goal.returns-in_default
unfolding after_end
returns-in_default c =
    ends_on c.args.s.now c.loop.at (c.args.closes - c.loop.counter) _ (omega arith)
    (sym c.in_default.is ∙ c.close_list.ensures) ∙ c.loop.invariant

pub loop-preserved : goal.loop-preserved
unfolding after_end
loop-preserved c =
    let a = c.args in
    let e : a.closes - (c.loop.counter + 1) ≡ a.closes - c.loop.counter - 1 = omega arith in
    ap (λ (n : ℕ). ends_after n a.s.now c.in-Some.e) e
    ∙ ends_on a.s.now c.loop.at (a.closes - c.loop.counter) _ (omega arith) (sym c.in-Some.is ∙ c.close_list.ensures)
    ∙ c.loop.invariant

pub returns : goal.returns
unfolding ends_after
returns c =
    let z : c.args.closes - c.loop.counter ≡ 0 = omega arith in
    let s = c.args.s.now in
    ap (leb (length s)) c.spaces_end.ensures ∙ spaces_from_law s c.loop.at ∙ rw z at c.loop.invariant
