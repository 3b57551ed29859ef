-- `add_rest` meets its contract: edges, clauses and Return, one after the other. Assumes nothing.
use Rattle.weave.proofs.Adding.{edges_ready, clauses_ready, returns_ready, rest_of_query, rest_of_policy}
use native.Mathlib.Omega.{arith}
use mathlib.Core.Path.{◌∙◌}
use Rattle.weave.proofs.add_rest.Goals as goal

pub overflow_add-before : goal.overflow_add-before
overflow_add-before c = omega (arith, c.requires.0.room_clauses)

pub add_edges-requires : goal.add_edges-requires
add_edges-requires c = (
  edges_ready c.args.k c.args.base c.args.pattern c.args.numbers c.args.counts
      c.requires.0,
  c.requires.1,
)

pub add_clauses-requires : goal.add_clauses-requires
add_clauses-requires c = (
  clauses_ready c.args.k c.args.base c.args.pattern c.args.numbers c.args.counts
      c.requires.0,
  omega (arith, c.requires.1, c.add_edges.auto.words),
)

pub add_returns-requires : goal.add_returns-requires
add_returns-requires c = (
  returns_ready c.args.k c.args.base c.args.pattern c.args.numbers c.args.counts
      c.requires.0,
  omega (
    arith,
    c.requires.1,
    c.add_edges.auto.words,
    c.add_clauses.auto.words,
  ),
)

pub shape_of-words-then-k-eq0 : goal.shape_of-words-then-k-eq0
shape_of-words-then-k-eq0 c =
    c.add_returns.auto.words ∙ c.add_clauses.auto.words ∙ c.add_edges.auto.words

pub returns-then-k-eq0 : goal.returns-then-k-eq0
returns-then-k-eq0 c =
    rest_of_query c.args.k c.args.base c.args.pattern c.args.numbers c.args.counts c.requires.0
    c.args.words.now c.add_edges.new.words c.add_clauses.new.words
    c.add_edges.ensures c.add_clauses.ensures c.add_returns.new.words
    c.add_returns.ensures c.if-k-eq0.true

pub shape_of-words : goal.shape_of-words
shape_of-words c =
    c.add_clauses.auto.words ∙ c.add_edges.auto.words

pub returns : goal.returns
returns c =
    rest_of_policy c.args.k c.args.base c.args.pattern c.args.numbers c.args.counts c.requires.0
    c.args.words.now c.add_edges.new.words c.add_clauses.new.words
    c.add_edges.ensures c.add_clauses.ensures c.if-k-eq0.false
