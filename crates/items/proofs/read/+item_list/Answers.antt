-- `items::read::item` and `items::read::list` meet their contracts. Bytes left fall from each to the other. The list's invariant: the rest of the list
-- from i on ends where the whole list ends.
use Rattle.std.specs.Prelude.{Some, option_map}
use Rattle.items.proofs.NextLaws.{begins, item_follows, close_follows, none_follows, to_end, ends, list_end_law, ends_none, ends_at}
use Rattle.items.proofs.RestLaws.{rest_end}
use Rattle.items.proofs.ReadLaws.{mapped, end_read_law, read_deep, read_opened, read_plain}
use Rattle.items.specs.declared.ItemEnd.TheVariants.{List}
use Rattle.items.specs.Rest.{rest_at}
use Rattle.items.specs.Reads.{end_read}
use Rattle.model.specs.Items.{item_at}
use Prim.Native.Nat.{◌-◌, ℕ}
use lib.Dec.{eqb}
use lib.ListN.{drop}
use native.Mathlib.Omega.{arith}
use mathlib.Core.Path.{sym, ap, ◌∙◌}
use Rattle.items.proofs.read.+item_list.Goals as goal

pub item-returns-then-depth-eq0 : goal.item-returns-then-depth-eq0
item-returns-then-depth-eq0 t c =
    read_deep c.args.depth c.args.s.now c.args.at c.if-depth-eq0.true (sym c.peek.ensures ∙ c.if-peek-eq-OPENING_BRACKET.true)

pub item-returns-then-peek-eq-OPENING_BRACKET : goal.item-returns-then-peek-eq-OPENING_BRACKET
item-returns-then-peek-eq-OPENING_BRACKET t c =
    mapped _ _ _ c.map.ensures.cases ∙ ap (option_map «List») c.list.ensures
    ∙ read_opened c.args.depth c.args.s.now c.args.at (c.args.depth - 1) (omega (arith, c.if-depth-eq0.false))
    (sym c.peek.ensures ∙ c.if-peek-eq-OPENING_BRACKET.true)

pub item-returns : goal.item-returns
item-returns t c =
    c.plain.ensures ∙ read_plain c.args.depth c.args.s.now c.args.at (λ h. c.if-peek-eq-OPENING_BRACKET.false (c.peek.ensures ∙ h))

pub list-returns-in_err-p : goal.list-returns-in_err-p
unfolding to_end
list-returns-in_err-p t c =
    c.from_residual.ensures ∙ ap to_end (sym (none_follows c.args.depth c.args.s.now ends c.loop-i.free_here c.loop-i.i
    (sym c.in_err-p.was ∙ c.next.ensures)) ∙ c.loop-i.invariant.1)
    ∙ list_end_law c.args.depth c.args.free c.args.s.now c.args.from

pub list-item-requires : goal.list-item-requires
list-item-requires t c =
    let n = ap Some (sym c.in-Item.is) ∙ sym c.in_ok-p.was ∙ c.next.ensures in
    (omega (arith, begins c.loop-i.free_here c.args.s.now c.loop-i.i c.in-Item.p n), tt)

pub list-returns-in_err-item-in-Item : goal.list-returns-in_err-item-in-Item
unfolding to_end
list-returns-in_err-item-in-Item t c =
    let n = ap Some (sym c.in-Item.is) ∙ sym c.in_ok-p.was ∙ c.next.ensures in
    let b = begins c.loop-i.free_here c.args.s.now c.loop-i.i c.in-Item.p n in
    c.from_residual-in_err-item-in-Item.ensures ∙ ap to_end (sym (ends_none c.args.depth c.args.s.now c.loop-i.i c.in-Item.p b
    (ap end_read (sym c.in_err-item-in-Item.was ∙ c.item.ensures)
    ∙ end_read_law c.in-Item.p (item_at c.args.depth (drop c.in-Item.p c.args.s.now))))
    ∙ sym (item_follows c.args.depth c.args.s.now ends c.loop-i.free_here c.loop-i.i c.in-Item.p n) ∙ c.loop-i.invariant.1)
    ∙ list_end_law c.args.depth c.args.free c.args.s.now c.args.from

pub list-loop-i-smaller : goal.list-loop-i-smaller
list-loop-i-smaller t c =
    let n = ap Some (sym c.in-Item.is) ∙ sym c.in_ok-p.was ∙ c.next.ensures in
    let b = begins c.loop-i.free_here c.args.s.now c.loop-i.i c.in-Item.p n in
    let a = ends_at c.args.depth c.args.s.now c.loop-i.i c.in-Item.p b c.end-i.result
    (ap Some c.end-i.ensures ∙ ap end_read (sym c.in_ok-item-in-Item.was ∙ c.item.ensures)
    ∙ end_read_law c.in-Item.p (item_at c.args.depth (drop c.in-Item.p c.args.s.now))) in
    omega (arith, a.0, b.after, c.loop-i-test.true)

pub list-loop-i-preserved : goal.list-loop-i-preserved
list-loop-i-preserved t c =
    let n = ap Some (sym c.in-Item.is) ∙ sym c.in_ok-p.was ∙ c.next.ensures in
    let b = begins c.loop-i.free_here c.args.s.now c.loop-i.i c.in-Item.p n in
    let a = ends_at c.args.depth c.args.s.now c.loop-i.i c.in-Item.p b c.end-i.result
    (ap Some c.end-i.ensures ∙ ap end_read (sym c.in_ok-item-in-Item.was ∙ c.item.ensures)
    ∙ end_read_law c.in-Item.p (item_at c.args.depth (drop c.in-Item.p c.args.s.now))) in (
      omega (arith, a.0, b.after, c.loop-i.invariant.0),
      ap (λ (x : ℕ). rest_at c.args.depth (eqb x 40) c.end-i.result c.args.s.now ends) c.peek-opens.ensures ∙ sym a.1
          ∙ sym (item_follows c.args.depth c.args.s.now ends c.loop-i.free_here c.loop-i.i c.in-Item.p n) ∙ c.loop-i.invariant.1,
    )

pub list-returns-in-Close : goal.list-returns-in-Close
unfolding to_end
list-returns-in-Close t c =
    ap to_end (sym (close_follows c.args.depth c.args.s.now ends c.loop-i.free_here c.loop-i.i
    c.in-Close.e (ap Some (sym c.in-Close.is) ∙ sym c.in_ok-p.was ∙ c.next.ensures)) ∙ c.loop-i.invariant.1)
    ∙ list_end_law c.args.depth c.args.free c.args.s.now c.args.from

pub list-returns : goal.list-returns
unfolding to_end
list-returns t c =
    ap to_end (sym (rest_end c.args.depth c.loop-i.free_here c.args.s.now c.loop-i.i ends c.loop-i-test.false)
    ∙ c.loop-i.invariant.1) ∙ list_end_law c.args.depth c.args.free c.args.s.now c.args.from
