-- `place_vertex` meets its contract, by what the search for the vertex found. Assumes nothing.
use Rattle.woven_tables.proofs.VertexLaws.{place_there, place_new, place_passed}
use native.Mathlib.Omega.{arith}
use borrow.Author.Rules.{rules}
use Rattle.woven_tables.proofs.vertices.place_vertex.Goals as goal

pub returns-then-at-n : goal.returns-then-at-n
returns-then-at-n c =
    place_there c.args.query.now c.args.rules.now c.args.words.now c.args.n c.args.word
    c.find_vertex-at.result c.find_vertex-at.ensures c.requires.2 c.requires.3 c.if-at-n.true

pub returns-then-n-lt-MAX_WOVEN_VERTICES : goal.returns-then-n-lt-MAX_WOVEN_VERTICES
returns-then-n-lt-MAX_WOVEN_VERTICES c =
    place_new c.args.query.now c.args.rules.now c.args.words.now c.args.n c.args.word
    c.find_vertex-at.result c.find_vertex-at.ensures c.requires.2 c.requires.3
    c.if-at-n.false c.if-n-lt-MAX_WOVEN_VERTICES.true (omega arith)

pub returns : goal.returns
returns c =
    place_passed c.args.query.now c.args.rules.now c.args.words.now c.args.n c.args.word
    c.find_vertex-at.result c.find_vertex-at.ensures c.requires.2 c.requires.3 c.if-at-n.false c.if-n-lt-MAX_WOVEN_VERTICES.false
