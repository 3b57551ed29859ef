-- The pieces of a text from a place on, one step after another.
use Rattle.std.specs.Prelude.{ℕ, ◌-◌, ◌<◌, ◌≡◌, List, [], ◌∷◌, ◌++◌, Bool, true, false, T, eqb, length, Option, Some, None, Result, Ok, Err}
use Rattle.model.specs.Bytes.{Bytes, bytes_of}
use Rattle.model.specs.Choice.{pick, Maybe, nothing, just, and_then}
use Rattle.model.specs.Words.{Got}
use Rattle.model.specs.Signs.{Sign, is_mark, wordy, sign_name, sign_value, next, expect}
use Rattle.model.specs.QueryText.{Condition, differ, demand}
use Rattle.model.specs.Grammar.{Piece, start, goes, comes, asks, returns, Spot, at_start, in_chain, in_where, in_return, spot_after, sign_relation, piece_at}
use Rattle.model.specs.Answers.{name_at, relation_of, value_of}
use Rattle.model.specs.Places.{Bracket, none, bracket_of, Standing, vertex, edge}
use Rattle.query_signs.specs.Reads.{sign_of, signs_from, standings_from, standing_of}
use Rattle.model.specs.PlainData.{ValueWithin}
use Rattle.text.specs.Parts.{HasPart}
use Rattle.query_signs.specs.Expected.{NameInside, value_standing}
use Rattle.model.specs.declared.Part.{Part}
use Rattle.query_signs.specs.declared.Sign.{Sign as SignData}
use Rattle.query_pieces.specs.declared.Spot.{Spot as SpotData}
use Rattle.query_pieces.specs.declared.Spot.TheVariants as spot
use Rattle.query_pieces.specs.declared.Place.{Place}
use Rattle.query_pieces.specs.declared.Link.{Link}
use Rattle.query_pieces.specs.declared.Demand.{Demand}
use Rattle.query_pieces.specs.declared.Piece.{Piece as PieceData}
use Rattle.query_pieces.specs.declared.Piece.TheVariants as piece
use Rattle.query_pieces.specs.declared.Step.{Step}
use Rattle.query_pieces.specs.Walk.{Walk, stopped, ahead, or_stopped, walk}

-- the spot that each case is, and whether signs are read as in a chain there
unfoldable pub spot_of : SpotData → Spot
spot_of spot.AtStart = at_start
spot_of spot.InChain = in_chain
spot_of spot.InWhere = in_where
spot_of spot.InReturn = in_return

unfoldable pub chain_at : SpotData → Bool
chain_at spot.AtStart = false
chain_at spot.InChain = true
chain_at spot.InWhere = false
chain_at spot.InReturn = false

-- the piece that each case is
unfoldable pub piece_of : Bytes → PieceData → Piece
piece_of s (piece.Start v) = start (name_at s v)
piece_of s (piece.Linked true l) = goes (name_at s l.edge) (name_at s l.label) (name_at s l.vertex)
piece_of s (piece.Linked false l) = comes (name_at s l.edge) (name_at s l.label) (name_at s l.vertex)
piece_of s (piece.Differ v u) = asks (differ (name_at s v) (name_at s u))
piece_of s (piece.Asks d) = asks (demand (name_at s d.subject) (name_at s d.attribute) (relation_of d.relation) (value_of s d.value))
piece_of s (piece.Returns v) = returns (name_at s v)

-- the pieces from a place on
unfoldable pub walk_at : Bytes → Place → Walk
walk_at s p = walk (spot_of p.spot) 0 (signs_from (chain_at p.spot) p.close s p.at)

-- the variables and text values from a place on
abbrev pub standings_at : Bytes → Place → List Standing
standings_at s p = standings_from none (chain_at p.spot) p.close s p.at

-- the variables of a chain's piece, the text value of a condition
unfoldable pub piece_standing : PieceData → List Standing
piece_standing (piece.Start v) = vertex v ∷ []
piece_standing (piece.Linked points l) = edge l.edge ∷ vertex l.vertex ∷ []
piece_standing (piece.Differ v u) = []
piece_standing (piece.Asks d) = value_standing d.value
piece_standing (piece.Returns v) = []

-- a piece and what follows it; or none, and whether the text ends there as it may
unfoldable pub step_of : Bytes → Result Step Bool → Walk
step_of s (Err w) = stopped w
step_of s (Ok x) = ahead (piece_of s x.piece) (walk_at s x.next)

abbrev pub StepBehind : ℕ → Result Step Bool → Type 0
StepBehind from (Err w) = T true
StepBehind from (Ok x) = from < x.next.at

-- every part of a link, of a requirement, of a piece lies inside the text
pub record LinkInside (s : Bytes) (l : Link) : Type 0 where
  pub edge : HasPart s l.edge
  pub label : HasPart s l.label
  pub vertex : HasPart s l.vertex

pub record DemandInside (s : Bytes) (d : Demand) : Type 0 where
  pub subject : HasPart s d.subject
  pub attribute : HasPart s d.attribute
  pub value : ValueWithin (length s) d.value

abbrev pub PieceInside : Bytes → PieceData → Type 0
PieceInside s (piece.Start v) = HasPart s v
PieceInside s (piece.Linked points l) = LinkInside s l
PieceInside s (piece.Differ v u) = HasPart s v × HasPart s u
PieceInside s (piece.Asks d) = DemandInside s d
PieceInside s (piece.Returns v) = HasPart s v

abbrev pub StepInside : Bytes → Result Step Bool → Type 0
StepInside s (Err w) = T true
StepInside s (Ok x) = PieceInside s x.piece

-- what stands is of a piece and of what follows it
abbrev pub StepStands : List Standing → Bytes → Result Step Bool → Type 0
StepStands l s (Err w) = T true
StepStands l s (Ok x) = l ≡ piece_standing x.piece ++ standings_at s x.next

-- where no piece stands behind a sign, the text does not end as it may
abbrev pub StepEnds : Result Step Bool → Type 0
StepEnds (Err w) = w ≡ false
StepEnds (Ok x) = T true

-- a piece that was read at the front of signs, and what follows it
unfoldable pub pieces_by : Maybe (Got Piece) → List Sign → Walk
pieces_by m ts = or_stopped (and_then m (λ g. just (ahead g.got (walk (spot_after g.got) (g.size - 1) ts))))

-- a walk is r and what follows it, behind a place; so is what stands there; r lies inside the text; where there is none, the text does not end as it may
pub record StepIs (w : Walk) (l : List Standing) (s : Bytes) (from : ℕ) (r : Result Step Bool) : Type 0 where
  pub reads : w ≡ step_of s r
  pub moves : StepBehind from r
  pub inside : StepInside s r
  pub stands : StepStands l s r
  pub ends : StepEnds r

-- the signs behind the first sign, which ends at a place
abbrev pub signs_behind : SpotData → Bytes → SignData → ℕ → List Sign
signs_behind p s t q = let x = sign_of s t in signs_from (Rattle.model.specs.Signs.chain_behind (chain_at p) x) (wordy x) s q

-- the pieces at a spot, by their first sign and the signs behind it
unfoldable pub walk_by : SpotData → Bytes → SignData → ℕ → Walk
walk_by p s t q = pieces_by (piece_at (spot_of p) (sign_of s t) (signs_behind p s t q)) (signs_behind p s t q)

-- what stands there, by the first sign and the place behind it
abbrev pub standings_by : SpotData → Bytes → SignData → ℕ → List Standing
standings_by p s t q = let x = sign_of s t in standing_of none t ++ standings_from (bracket_of x) (Rattle.model.specs.Signs.chain_behind (chain_at p) x) (wordy x) s q

-- r is the piece at a place
pub record StepAt (s : Bytes) (p : Place) (r : Result Step Bool) : Type 0 where
  pub reads : walk_at s p ≡ step_of s r
  pub moves : StepBehind p.at r
  pub inside : StepInside s r
  pub stands : StepStands (standings_at s p) s r

-- (v), and then the rest
unfoldable pub vertex_then : List Sign → (Bytes → List Sign → Maybe Walk) → Maybe Walk
vertex_then ts f = expect (bytes_of "(") ts (λ ts. next sign_name ts (λ v ts. expect (bytes_of ")") ts (λ ts. f v ts)))

unfoldable pub on_vertex : Bytes → Option (Part × ℕ) → (Bytes → List Sign → Maybe Walk) → Maybe Walk
on_vertex s None f = nothing
on_vertex s (Some (p, q)) f = f (name_at s p) (signs_from true false s q)

abbrev pub VertexBehind : ℕ → Option (Part × ℕ) → Type 0
VertexBehind from None = T true
VertexBehind from (Some (p, q)) = from < q

abbrev pub VertexStands : Bracket → Bool → Bytes → ℕ → Option (Part × ℕ) → Type 0
VertexStands o close s from None = T true
VertexStands o close s from (Some (p, q)) = standings_from o true close s from ≡ vertex p ∷ standings_from none true false s q

pub record VertexNext (close : Bool) (s : Bytes) (from : ℕ) (r : Option (Part × ℕ)) : Type 0 where
  pub reads : (f : Bytes → List Sign → Maybe Walk) → vertex_then (signs_from true close s from) f ≡ on_vertex s r f
  pub moves : VertexBehind from r
  pub inside : NameInside s r
  pub stands : (o : Bracket) → VertexStands o close s from r

-- [e:id], an arrow's end, (v), and then the rest
unfoldable pub link_then : Bytes → List Sign → (Bytes → Bytes → Bytes → List Sign → Maybe Walk) → Maybe Walk
link_then arrow ts f =
    expect (bytes_of "[") ts (λ ts.
    next sign_name ts (λ e ts.
    expect (bytes_of ":") ts (λ ts.
    next sign_name ts (λ l ts.
    expect (bytes_of "]") ts (λ ts.
    expect arrow ts (λ ts.
    vertex_then ts (λ v ts. f e l v ts)))))))

-- the mark that ends a link, by the one that begins it: -> behind -, - behind <-, none behind another
abbrev pub arrow_behind : ℕ → ℕ
arrow_behind code = pick (eqb code 45) 11582 (pick (eqb code 15405) 45 0)

-- the piece of a chain by the mark at its arrow's end, and what follows it
unfoldable pub link_piece : ℕ → Bytes → Bytes → Bytes → Piece
link_piece arrow e l v = pick (eqb arrow 45) (comes e l v) (goes e l v)

abbrev pub chained : ℕ → Bytes → Bytes → Bytes → List Sign → Maybe Walk
chained arrow e l v ts = just (ahead (link_piece arrow e l v) (walk in_chain 0 ts))

-- p is that piece, of a link
pub record LinkIs (arrow : ℕ) (l : Link) (p : PieceData) : Type 0 where
  pub reads : (s : Bytes) → link_piece arrow (name_at s l.edge) (name_at s l.label) (name_at s l.vertex) ≡ piece_of s p
  pub inside : (s : Bytes) → LinkInside s l → PieceInside s p
  pub stands : piece_standing p ≡ edge l.edge ∷ vertex l.vertex ∷ []

-- v <> u, and then the rest; or x.attr REL value, from behind the variable x
unfoldable pub other_then : Bytes → List Sign → (Condition → List Sign → Maybe Walk) → Maybe Walk
other_then x ts f = next sign_name ts (λ u ts. f (differ x u) ts)

unfoldable pub value_then : Bytes → List Sign → (Condition → List Sign → Maybe Walk) → Maybe Walk
value_then x ts f = next sign_name ts (λ a ts. next sign_relation ts (λ r ts. next sign_value ts (λ v ts. f (demand x a r v) ts)))

-- a condition behind its variable
unfoldable pub rest_then : Bytes → List Sign → (Condition → List Sign → Maybe Walk) → Maybe Walk
rest_then x ts f =
    next just ts (λ t ts.
    let other = other_then x ts f in
    let value = value_then x ts f in
    pick (is_mark (bytes_of "<>") t) other (pick (is_mark (bytes_of ".") t) value nothing))

-- a condition that was asked, and what follows it
abbrev pub asked : Condition → List Sign → Maybe Walk
asked c ts = just (ahead (asks c) (walk in_where 0 ts))
