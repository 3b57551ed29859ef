use Rattle.query_signs.proofs.MarkLaws.{peek_bound, mark_arrow, mark_pair, mark_one, mark_none, arrow_some, pair_some, single_some}
use native.Mathlib.Omega.{arith}
use Prim.Native.Nat.{◌+◌, ◌*◌}
use mathlib.Core.Path.{sym, ◌∙◌}
use Rattle.query_signs.proofs.marks.mark_at.Goals as goal

pub overflow_mul-pair : goal.overflow_mul-pair
overflow_mul-pair c =
    omega (arith, c.peek-b.ensures, peek_bound c.args.s.now c.args.at (c.type_inv.s c.args.at).fits)

pub overflow_add-pair : goal.overflow_add-pair
overflow_add-pair c =
    omega (
      arith,
      c.peek-b.ensures,
      peek_bound c.args.s.now c.args.at
          (c.type_inv.s c.args.at).fits,
      c.peek.ensures,
      peek_bound c.args.s.now
          (c.args.at + 1) (c.type_inv.s (c.args.at + 1)).fits,
    )

pub returns-then-is_arrow : goal.returns-then-is_arrow
returns-then-is_arrow c =
    record {
      reads = mark_arrow c.args.s.now c.args.at c.requires (λ i. (c.type_inv.s i).fits)
          c.peek-b.result c.peek.result c.peek-b.ensures
          c.peek.ensures c.args.chain (sym c.is_arrow.ensures ∙ c.if-is_arrow.true);
      some = arrow_some c.args.chain (c.peek-b.result * 256 + c.peek.result) (sym c.is_arrow.ensures ∙ c.if-is_arrow.true);
    }

pub returns-then-is_pair : goal.returns-then-is_pair
returns-then-is_pair c =
    record {
      reads = mark_pair c.args.s.now c.args.at c.requires (λ i. (c.type_inv.s i).fits)
          c.peek-b.result c.peek.result c.peek-b.ensures c.peek.ensures c.args.chain
          (sym c.is_arrow.ensures ∙ c.if-is_arrow.false) (sym c.is_pair.ensures ∙ c.if-is_pair.true);
      some = pair_some (c.peek-b.result * 256 + c.peek.result) (sym c.is_pair.ensures ∙ c.if-is_pair.true);
    }

pub returns-then-is_single : goal.returns-then-is_single
returns-then-is_single c =
    record {
      reads = mark_one c.args.s.now c.args.at c.requires (λ i. (c.type_inv.s i).fits)
          c.peek-b.result c.peek.result c.peek-b.ensures c.peek.ensures c.args.chain
          (sym c.is_arrow.ensures ∙ c.if-is_arrow.false) (sym c.is_pair.ensures ∙ c.if-is_pair.false)
          (sym c.is_single.ensures ∙ c.if-is_single.true);
      some = single_some c.peek-b.result (sym c.is_single.ensures ∙ c.if-is_single.true);
    }

pub returns : goal.returns
returns c =
    record {
      reads = mark_none c.args.s.now c.args.at c.requires (λ i. (c.type_inv.s i).fits)
          c.peek-b.result c.peek.result c.peek-b.ensures c.peek.ensures c.args.chain
          (sym c.is_arrow.ensures ∙ c.if-is_arrow.false) (sym c.is_pair.ensures ∙ c.if-is_pair.false)
          (sym c.is_single.ensures ∙ c.if-is_single.false);
      some = tt;
    }
