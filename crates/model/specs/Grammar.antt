-- From signs to the syntax tree of a query, piece by piece.
use Rattle.std.specs.Prelude.{ℕ, zero, suc, ◌-◌, List, [], ◌∷◌}
use Rattle.model.specs.Bytes.{Bytes, bytes_of}
use Rattle.model.specs.Choice.{pick, Maybe, nothing, just, and_then}
use Rattle.model.specs.Names.{Name}
use Rattle.model.specs.Words.{Got}
use Rattle.model.specs.Signs.{Sign, is_word, is_mark, signs_of, sign_name, sign_value, next, expect}
use Rattle.model.specs.QueryText.{Relation, eq, ne, lt, le, gt, ge, Chain, end, right, left, Condition, differ, demand, QueryText}

-- a piece of the text: Match (v), -[e:id]->(v), <-[e:id]-(v), Where or AND with a condition, Return v or , v
pub data Piece : Type 0 where
  start : Name → Piece
  goes : Name → Name → Name → Piece
  comes : Name → Name → Name → Piece
  asks : Condition → Piece
  returns : Name → Piece

-- where a piece may stand: at the beginning, behind a chain, behind a condition, behind a returned name
pub data Spot : Type 0 where
  at_start in_chain in_where in_return : Spot

-- the spot behind a piece
unfoldable pub spot_after : Piece → Spot
spot_after (start v) = in_chain
spot_after (goes e l v) = in_chain
spot_after (comes e l v) = in_chain
spot_after (asks c) = in_where
spot_after (returns v) = in_return

-- a relation sign
unfoldable pub sign_relation : Sign → Maybe Relation
sign_relation t =
    pick (is_mark (bytes_of "=") t) (just eq)
    (pick (is_mark (bytes_of "<>") t) (just ne)
    (pick (is_mark (bytes_of "<") t) (just lt)
    (pick (is_mark (bytes_of "<=") t) (just le)
    (pick (is_mark (bytes_of ">") t) (just gt)
    (pick (is_mark (bytes_of ">=") t) (just ge) nothing)))))

-- (v)
unfoldable pub vertex_at : {B : Type 0} → List Sign → (Name → Maybe B) → Maybe B
vertex_at ts f = expect (bytes_of "(") ts (λ ts. next sign_name ts (λ v ts. expect (bytes_of ")") ts (λ ts. f v)))

-- Match (v), from behind Match
unfoldable pub start_at : List Sign → Maybe (Got Piece)
start_at ts = vertex_at ts (λ v. just (record { got = start v; size = 4 }))

-- [e:id] and an arrow's end, then (v)
unfoldable pub link_at : (Name → Name → Name → Piece) → Bytes → List Sign → Maybe (Got Piece)
link_at make arrow ts =
    expect (bytes_of "[") ts (λ ts.
    next sign_name ts (λ e ts.
    expect (bytes_of ":") ts (λ ts.
    next sign_name ts (λ l ts.
    expect (bytes_of "]") ts (λ ts.
    expect arrow ts (λ ts.
    vertex_at ts (λ v. just (record { got = make e l v; size = 10 }))))))))

-- v <> u, or x.attr REL value, from behind Where or AND
unfoldable pub condition_at : List Sign → Maybe (Got Piece)
condition_at ts =
    next sign_name ts (λ x ts.
    next just ts (λ t ts.
    let other = next sign_name ts (λ u ts. just (record { got = asks (differ x u); size = 4 })) in
    let value = next sign_name ts (λ a ts. next sign_relation ts (λ r ts. next sign_value ts (λ v ts. just (record { got = asks (demand x a r v); size = 6 })))) in
    pick (is_mark (bytes_of "<>") t) other (pick (is_mark (bytes_of ".") t) value nothing)))

-- a name, from behind Return or a comma
unfoldable pub return_at : List Sign → Maybe (Got Piece)
return_at ts = next sign_name ts (λ v ts. just (record { got = returns v; size = 2 }))

-- the piece that begins with the sign t, at each spot
unfoldable pub piece_at : Spot → Sign → List Sign → Maybe (Got Piece)
piece_at at_start t ts = pick (is_word (bytes_of "Match") t) (start_at ts) nothing
piece_at in_chain t ts =
    pick (is_mark (bytes_of "-") t) (link_at goes (bytes_of "->") ts)
    (pick (is_mark (bytes_of "<-") t) (link_at comes (bytes_of "-") ts)
    (pick (is_word (bytes_of "Where") t) (condition_at ts)
    (pick (is_word (bytes_of "Match") t) (start_at ts)
    (pick (is_word (bytes_of "Return") t) (return_at ts) nothing))))
piece_at in_where t ts =
    pick (is_word (bytes_of "AND") t) (condition_at ts)
    (pick (is_word (bytes_of "Match") t) (start_at ts)
    (pick (is_word (bytes_of "Return") t) (return_at ts) nothing))
piece_at in_return t ts = pick (is_mark (bytes_of ",") t) (return_at ts) nothing

-- a text ends behind a returned name
unfoldable pub ends_at : Spot → Maybe (List Piece)
ends_at at_start = nothing
ends_at in_chain = nothing
ends_at in_where = nothing
ends_at in_return = just []

-- the pieces from a spot on. A piece is read at its first sign; its other signs, k of which are still to come, are then passed one by one.
unfoldable pub pieces : Spot → ℕ → List Sign → Maybe (List Piece)
pieces p k [] = ends_at p
pieces p (suc k) (t ∷ ts) = pieces p k ts
pieces p zero (t ∷ ts) =
    and_then (piece_at p t ts) (λ g. and_then (pieces (spot_after g.got) (g.size - 1) ts) (λ ps. just (g.got ∷ ps)))

-- what the pieces behind a vertex say: given that vertex, the chain from it on; the conditions of its Match; the Matches and Return that follow
pub record Tail : Type 0 where
  pub chain : Name → Chain
  pub conditions : List Condition
  pub later : QueryText

-- a piece put before what follows it
unfoldable pub tail_of : List Piece → Tail
tail_of [] = record { chain = end; conditions = []; later = record { matches = []; returns = [] } }
tail_of (start v ∷ ps) = let t = tail_of ps in
    record {
      chain = end;
      conditions = [];
      later =
          record { matches = record { chain = t.chain v; conditions = t.conditions } ∷ t.later.matches; returns = t.later.returns };
    }
tail_of (goes e l u ∷ ps) = let t = tail_of ps in record { chain = λ v. right v e l (t.chain u); conditions = t.conditions; later = t.later }
tail_of (comes e l u ∷ ps) = let t = tail_of ps in record { chain = λ v. left v e l (t.chain u); conditions = t.conditions; later = t.later }
tail_of (asks c ∷ ps) = let t = tail_of ps in record { chain = end; conditions = c ∷ t.conditions; later = t.later }
tail_of (returns v ∷ ps) = let t = tail_of ps in record { chain = end; conditions = []; later = record { matches = []; returns = v ∷ t.later.returns } }

-- the query text that bytes write, if the grammar is kept
unfoldable pub query_text : Bytes → Maybe QueryText
query_text s = and_then (pieces at_start 0 (signs_of s)) (λ ps. just (tail_of ps).later)
