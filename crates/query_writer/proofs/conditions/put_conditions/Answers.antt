-- `put_conditions` meets its contract. The loop's invariant: the first i are put. Assumes nothing.
use mathlib.Core.Path.{◌≡◌, ap}
use lib.ListN.{length}
use native.Mathlib.Omega.{arith}
use borrow.Author.Rules.{rules}
use Rattle.model.specs.Bytes.{bytes_of}
use Rattle.model.specs.PlainData.{no_clause}
use Rattle.query_writer.specs.Pieces.{condition_piece, conditions_text}
use Rattle.putting.proofs.PuttingLaws.{puts_same, puts_then, puts_keeps_length}
use Rattle.putting.proofs.ListingLaws.{puts_none, puts_one_more}
use Rattle.query_writer.proofs.conditions.put_conditions.Goals as goal

pub loop-i-init : goal.loop-i-init
unfolding conditions_text
loop-i-init c = let a = c.args in (omega arith, puts_none (bytes_of " Where ") (bytes_of " AND ") a.out.now a.at)

pub put_condition-next-requires : goal.put_condition-next-requires
put_condition-next-requires c =
    c.requires.each c.loop-i.i (omega arith)

pub loop-i-preserved : goal.loop-i-preserved
unfolding conditions_text
loop-i-preserved c = let a = c.args in
    let all : length a.clauses ≡ 32 = search rules in (
      omega arith,
      puts_one_more (bytes_of " Where ") (bytes_of " AND ")
          (λ x. condition_piece a.book.now a.words.now a.query.now a.vertices a.edges x.condition) a.clauses no_clause
          c.loop-i.i (omega arith)
          c.loop-i.invariant.1
          (puts_then c.put_where-next.ensures c.put_condition-next.ensures),
    )

pub shape_of-out : goal.shape_of-out
shape_of-out c = puts_keeps_length c.loop-i.invariant.1

pub returns : goal.returns
returns c =
    let a = c.args in let e : c.loop-i.i ≡ a.count = omega arith in
    puts_same (ap (λ n. conditions_text a.book.now a.words.now a.query.now a.vertices a.edges a.clauses n) e) c.loop-i.invariant.1
