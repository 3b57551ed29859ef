-- `step` meets its contract. The loop's invariant: a step along the first i edges is done. Assumes nothing.
use Rattle.weave.proofs.TieLaws.{stepped_none, stepped_more}
use Rattle.weave.specs.Identities.{Stepped, from_of, to_of}
use Rattle.bits.specs.Word.{with}
use Rattle.model.specs.Choice.{pick}
use lib.ListN.{get_or}
use native.Mathlib.Omega.{arith}
use mathlib.Core.Path.{◌≡◌, refl, ap, subst, ◌∙◌}
use Prim.Native.Nat.{◌+◌, ◌-◌}
use Rattle.weave.proofs.ties.step.Goals as goal

pub loop-i-init : goal.loop-i-init
loop-i-init c = (omega arith, stepped_none c.args.words.now c.args.mask)

pub overflow_cast-word : goal.overflow_cast-word
overflow_cast-word c = omega (arith, c.type_inv.words (24 + c.loop-i.i))

pub has-requires : goal.has-requires
has-requires c = let l = c.requires.2 c.loop-i.i (omega arith) in omega (arith, l.1)

pub mark_if-next-requires : goal.mark_if-next-requires
mark_if-next-requires c = let l = c.requires.2 c.loop-i.i (omega arith) in omega (arith, l.0)

pub has-requires-in-loop-i : goal.has-requires-in-loop-i
has-requires-in-loop-i c =
    let l = c.requires.2 c.loop-i.i (omega arith) in omega (arith, l.0)

pub mark_if-next-requires-in-loop-i : goal.mark_if-next-requires-in-loop-i
mark_if-next-requires-in-loop-i c =
    let l = c.requires.2 c.loop-i.i (omega arith) in omega (arith, l.1)

pub loop-i-preserved : goal.loop-i-preserved
loop-i-preserved c =
    let words = c.args.words.now in
    let w = get_or c.args.words.now (24 + c.loop-i.i) 0 in (
      omega arith,
      stepped_more c.args.words.now c.loop-i.i c.args.mask c.loop-i.next c.mark_if-next.result
          c.mark_if-next-in-loop-i.result w c.loop-i.invariant.1 refl
          (c.mark_if-next.ensures ∙ ap (λ t. pick t (with c.loop-i.next (from_of w)) c.loop-i.next)
          c.has.ensures)
          (c.mark_if-next-in-loop-i.ensures ∙ ap (λ t. pick t (with c.mark_if-next.result (to_of w)) c.mark_if-next.result) c.has-in-loop-i.ensures),
    )

pub returns : goal.returns
returns c =
    let e : c.loop-i.i ≡ c.args.edges = omega arith in
    subst (λ n. Stepped c.args.words.now n c.args.mask c.loop-i.next) e c.loop-i.invariant.1
