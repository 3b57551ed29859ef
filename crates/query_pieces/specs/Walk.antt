-- The pieces of a text from a spot on, as far as the grammar is kept, and whether it is kept to the end.
use Rattle.std.specs.Prelude.{ℕ, zero, suc, ◌-◌, List, [], ◌∷◌, Bool, true, false, T}
use Rattle.model.specs.Choice.{Maybe, nothing, just, and_then}
use Rattle.model.specs.Signs.{Sign}
use Rattle.model.specs.Grammar.{Piece, start, goes, comes, asks, returns, Spot, at_start, in_chain, in_where, in_return, spot_after, piece_at}

-- the pieces found, and whether the grammar is kept to the end
pub record Walk : Type 0 where
  pub found : List Piece
  pub whole : Bool

-- no piece more
unfoldable pub stopped : Bool → Walk
stopped w = record { found = []; whole = w }

-- a piece in front of what follows it
unfoldable pub ahead : Piece → Walk → Walk
ahead p w = record { found = p ∷ w.found; whole = w.whole }

-- what is missing breaks the grammar
unfoldable pub or_stopped : Maybe Walk → Walk
or_stopped nothing = stopped false
or_stopped (just w) = w

-- a text may end at a spot
unfoldable pub ends_well : Spot → Bool
ends_well at_start = false
ends_well in_chain = false
ends_well in_where = false
ends_well in_return = true

-- the pieces from a spot on. k signs at the front belong to the piece read last.
unfoldable pub walk : Spot → ℕ → List Sign → Walk
walk p k [] = stopped (ends_well p)
walk p (suc k) (t ∷ ts) = walk p k ts
walk p zero (t ∷ ts) = or_stopped (and_then (piece_at p t ts) (λ g. just (ahead g.got (walk (spot_after g.got) (g.size - 1) ts))))

-- a piece may stand at a spot
unfoldable pub may_stand : Spot → Piece → Bool
may_stand at_start p = elim p [ start v ↦ true | goes e l v ↦ false | comes e l v ↦ false | asks c ↦ false | returns v ↦ false ]
may_stand in_chain p = true
may_stand in_where p = elim p [ start v ↦ true | goes e l v ↦ false | comes e l v ↦ false | asks c ↦ true | returns v ↦ true ]
may_stand in_return p = elim p [ start v ↦ false | goes e l v ↦ false | comes e l v ↦ false | asks c ↦ false | returns v ↦ true ]

-- each piece stands where it may
unfoldable pub Ordered : Spot → List Piece → Type 0
Ordered p [] = T true
Ordered p (g ∷ ps) = T (may_stand p g) × Ordered (spot_after g) ps
