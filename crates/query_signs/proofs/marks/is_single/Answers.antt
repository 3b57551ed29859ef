use Rattle.query_signs.specs.Marks.{is_single}
use borrow.Author.Tests.{lt-ltb, le-ltb, le-leb, lt-leb, eq-eqb, ne_eqb}
use Rattle.query_signs.proofs.marks.is_single.Goals as goal

pub returns-then-b-lt-OPEN : goal.returns-then-b-lt-OPEN
unfolding is_single
returns-then-b-lt-OPEN c = rw (lt-ltb _ 40 c.if-b-lt-OPEN.true)

pub returns-then-b-le-CLOSE : goal.returns-then-b-le-CLOSE
unfolding is_single
returns-then-b-le-CLOSE c = rw (le-ltb _ 40 c.if-b-lt-OPEN.false, le-leb _ 41 c.if-b-le-CLOSE.true)

pub returns-then-b-lt-COMMA : goal.returns-then-b-lt-COMMA
unfolding is_single
returns-then-b-lt-COMMA c = rw (le-ltb _ 40 c.if-b-lt-OPEN.false, lt-leb _ 41 c.if-b-le-CLOSE.false, lt-ltb _ 44 c.if-b-lt-COMMA.true)

pub returns-then-b-le-DOT : goal.returns-then-b-le-DOT
unfolding is_single
returns-then-b-le-DOT c = rw (
  le-ltb _ 40 c.if-b-lt-OPEN.false,
  lt-leb _ 41 c.if-b-le-CLOSE.false,
  le-ltb _ 44
      c.if-b-lt-COMMA.false,
  le-leb _ 46 c.if-b-le-DOT.true,
)

pub returns-then-b-eq-COLON : goal.returns-then-b-eq-COLON
unfolding is_single
returns-then-b-eq-COLON c =
    rw (
      le-ltb _ 40 c.if-b-lt-OPEN.false,
      lt-leb _ 41 c.if-b-le-CLOSE.false,
      le-ltb _ 44 c.if-b-lt-COMMA.false,
      lt-leb _ 46
          c.if-b-le-DOT.false,
      eq-eqb _ 58 c.if-b-eq-COLON.true,
    )

pub returns-then-b-lt-LESS : goal.returns-then-b-lt-LESS
unfolding is_single
returns-then-b-lt-LESS c =
    rw (
      le-ltb _ 40 c.if-b-lt-OPEN.false,
      lt-leb _ 41 c.if-b-le-CLOSE.false,
      le-ltb _ 44 c.if-b-lt-COMMA.false,
      lt-leb _ 46
          c.if-b-le-DOT.false,
      ne_eqb _ 58 c.if-b-eq-COLON.false,
      lt-ltb _ 60 c.if-b-lt-LESS.true,
    )

pub returns-then-b-le-GREATER : goal.returns-then-b-le-GREATER
unfolding is_single
returns-then-b-le-GREATER c =
    rw (
      le-ltb _ 40 c.if-b-lt-OPEN.false,
      lt-leb _ 41 c.if-b-le-CLOSE.false,
      le-ltb _ 44 c.if-b-lt-COMMA.false,
      lt-leb _ 46
          c.if-b-le-DOT.false,
      ne_eqb _ 58 c.if-b-eq-COLON.false,
      le-ltb _ 60 c.if-b-lt-LESS.false,
      le-leb _ 62 c.if-b-le-GREATER.true,
    )

pub returns-then-b-eq-OPEN_SQUARE : goal.returns-then-b-eq-OPEN_SQUARE
unfolding is_single
returns-then-b-eq-OPEN_SQUARE c =
    rw (
      le-ltb _ 40 c.if-b-lt-OPEN.false,
      lt-leb _ 41 c.if-b-le-CLOSE.false,
      le-ltb _ 44 c.if-b-lt-COMMA.false,
      lt-leb _ 46 c.if-b-le-DOT.false,
      ne_eqb _ 58
          c.if-b-eq-COLON.false,
      le-ltb _ 60 c.if-b-lt-LESS.false,
      lt-leb _ 62 c.if-b-le-GREATER.false,
      eq-eqb _ 91 c.if-b-eq-OPEN_SQUARE.true,
    )

pub returns : goal.returns
unfolding is_single
returns c =
    rw (
      le-ltb _ 40 c.if-b-lt-OPEN.false,
      lt-leb _ 41 c.if-b-le-CLOSE.false,
      le-ltb _ 44 c.if-b-lt-COMMA.false,
      lt-leb _ 46 c.if-b-le-DOT.false,
      ne_eqb _ 58
          c.if-b-eq-COLON.false,
      le-ltb _ 60 c.if-b-lt-LESS.false,
      lt-leb _ 62 c.if-b-le-GREATER.false,
      ne_eqb _ 91 c.if-b-eq-OPEN_SQUARE.false,
    )
