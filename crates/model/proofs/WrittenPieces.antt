-- The pieces that the signs of a written query make.
use mathlib.Core.Path.{◌≡◌, refl, sym, ap, ◌∙◌}
use mathlib.Core.List.{List, [], ◌∷◌, ◌++◌, map, append_assoc}
use mathlib.Core.Bool.{true, false}
use Rattle.model.specs.Bytes.{Bytes, bytes_of, same}
use Rattle.model.specs.Choice.{just, and_then}
use Rattle.model.specs.Lists.{joined}
use Rattle.model.specs.Values.{Value, int, str, bool}
use Rattle.model.specs.Forms.{truth_of}
use Rattle.model.specs.Signs.{Sign, word, mark, is_word, is_mark, sign_name, sign_value, next, expect}
use Rattle.model.specs.QueryText.{Relation, eq, ne, lt, le, gt, ge, Condition, differ, demand}
use Rattle.model.specs.Grammar.{Piece, start, goes, asks, returns, at_start, in_chain, in_where, in_return, spot_after, sign_relation, vertex_at}
use Rattle.model.specs.Grammar.{start_at, link_at, condition_at, return_at, piece_at, ends_at, pieces}
use Rattle.model.specs.Writing.{relation_text}
use Rattle.model.specs.Graph.{Each}
use Rattle.model.proofs.WrittenConditions.{IsName, name_is, value_sign, WritableCondition, condition_signs}
use Rattle.model.proofs.WrittenText.{WrittenMatch, vertex_match, edge_match, AllNames, vertex_signs, match_signs, and_signs, where_signs, comma_signs}
use Rattle.model.proofs.WrittenText.{return_signs, written_signs}

-- the pieces of a written Match
abbrev pub match_pieces : WrittenMatch → List Piece
match_pieces (vertex_match v) = start v ∷ []
match_pieces (edge_match u e l v) = start u ∷ goes e l v ∷ []

piece_start : (v : Bytes) (ts : List Sign) (qs : List Piece) → IsName v → pieces in_chain 0 ts ≡ just qs
    → (pieces at_start 0 (match_signs (vertex_match v) ++ ts) ≡ just (start v ∷ qs)) × (pieces in_chain 0 (match_signs (vertex_match v) ++ ts) ≡ just (start v ∷ qs))
unfolding pieces piece_at start_at vertex_at expect next sign_name is_mark is_word same and_then spot_after
piece_start v ts qs h e = (rw (name_is v h, e) refl, rw (name_is v h, e) refl)

piece_goes : (e l v : Bytes) (ts : List Sign) (qs : List Piece) → IsName e → IsName l → IsName v → pieces in_chain 0 ts ≡ just qs
    → pieces in_chain 0 (mark (bytes_of "-") ∷ mark (bytes_of "[") ∷ word e ∷ mark (bytes_of ":") ∷ word l ∷ mark (bytes_of "]") ∷ mark
    (bytes_of "->") ∷ vertex_signs v ++ ts) ≡ just (goes e l v ∷ qs)
unfolding pieces piece_at link_at vertex_at expect next sign_name is_mark is_word same and_then spot_after
piece_goes e l v ts qs h i j d = rw (name_is e h, name_is l i, name_is v j, d) refl

-- its signs make its pieces
pub piece_match : (p : WrittenMatch) (ts : List Sign) (qs : List Piece) → AllNames p → pieces in_chain 0 ts ≡ just qs
    → (pieces at_start 0 (match_signs p ++ ts) ≡ just (match_pieces p ++ qs)) × (pieces in_chain 0 (match_signs p ++ ts) ≡ just (match_pieces p ++ qs))
piece_match (vertex_match v) ts qs h e = piece_start v ts qs h e
piece_match (edge_match u d l v) ts qs h e = piece_start u _ _ h.0 (piece_goes d l v ts qs h.1 h.2 h.3 e)

relation_is : (r : Relation) → sign_relation (mark (relation_text r)) ≡ just r
unfolding sign_relation relation_text is_mark same
relation_is eq = refl
relation_is ne = refl
relation_is lt = refl
relation_is le = refl
relation_is gt = refl
relation_is ge = refl

value_is : (v : Value) → sign_value (value_sign v) ≡ just v
unfolding sign_value truth_of same
value_is (int n) = refl
value_is (str t) = refl
value_is (bool true) = refl
value_is (bool false) = refl

-- the signs of a condition make its piece
pub piece_condition : (c : Condition) (ts : List Sign) (qs : List Piece) → WritableCondition c → pieces in_where 0 ts ≡ just qs
    → (pieces in_chain 0 (word (bytes_of "Where") ∷ condition_signs c ++ ts) ≡ just (asks c ∷ qs))
    × (pieces in_where 0 (word (bytes_of "AND") ∷ condition_signs c ++ ts) ≡ just (asks c ∷ qs))
unfolding pieces piece_at condition_at expect next sign_name is_mark is_word same and_then spot_after
piece_condition (differ v u) ts qs h e = (rw (name_is v h.0, name_is u h.1, e) refl, rw (name_is v h.0, name_is u h.1, e) refl)
piece_condition (demand x a r v) ts qs h e =
    (rw (name_is x h.0, name_is a h.1, relation_is r, value_is v, e) refl, rw (name_is x h.0, name_is a h.1, relation_is r, value_is v, e) refl)

piece_commas : (vs : List Bytes) → Each IsName vs → pieces in_return 0 (joined comma_signs vs) ≡ just (map returns vs)
unfolding pieces piece_at return_at next sign_name is_mark same and_then spot_after joined ends_at
piece_commas [] h = refl
piece_commas (v ∷ vs) h = rw (name_is v h.0, piece_commas vs h.1) refl

piece_returns : (v : Bytes) (vs : List Bytes) → Each IsName (v ∷ vs)
    → (pieces in_chain 0 (return_signs (v ∷ vs)) ≡ just (map returns (v ∷ vs))) × (pieces in_where 0 (return_signs (v ∷ vs)) ≡ just (map returns (v ∷ vs)))
unfolding pieces piece_at return_at next sign_name is_mark is_word same and_then spot_after
piece_returns v vs h = (rw (name_is v h.0, piece_commas vs h.1) refl, rw (name_is v h.0, piece_commas vs h.1) refl)

piece_ands : (cs : List Condition) (ts : List Sign) (qs : List Piece) → Each WritableCondition cs → pieces in_where 0 ts ≡ just qs
    → pieces in_where 0 (joined and_signs cs ++ ts) ≡ just (map asks cs ++ qs)
unfolding joined
piece_ands [] ts qs h e = e
piece_ands (c ∷ cs) ts qs h e = ap (pieces in_where 0) (append_assoc (and_signs c) (joined and_signs cs) ts)
    ∙ (piece_condition c _ _ h.0 (piece_ands cs ts qs h.1 e)).1

piece_rest : (cs : List Condition) (v : Bytes) (vs : List Bytes) → Each WritableCondition cs → Each IsName (v ∷ vs)
    → pieces in_chain 0 (where_signs cs ++ return_signs (v ∷ vs)) ≡ just (map asks cs ++ map returns (v ∷ vs))
piece_rest [] v vs h k = (piece_returns v vs k).0
piece_rest (c ∷ cs) v vs h k =
    ap (λ z. pieces in_chain 0 (word (bytes_of "Where") ∷ z)) (append_assoc (condition_signs c) (joined and_signs cs) (return_signs (v ∷ vs)))
    ∙ (piece_condition c _ _ h.0 (piece_ands cs _ _ h.1 (piece_returns v vs k).1)).0

piece_matches : (ps : List WrittenMatch) (ts : List Sign) (qs : List Piece) → Each AllNames ps → pieces in_chain 0 ts ≡ just qs
    → pieces in_chain 0 (joined match_signs ps ++ ts) ≡ just (joined match_pieces ps ++ qs)
unfolding joined
piece_matches [] ts qs h e = e
piece_matches (p ∷ ps) ts qs h e =
    ap (pieces in_chain 0) (append_assoc (match_signs p) (joined match_signs ps) ts)
    ∙ (piece_match p _ _ h.0 (piece_matches ps ts qs h.1 e)).1
    ∙ ap just (sym (append_assoc (match_pieces p) (joined match_pieces ps) qs))

-- the pieces of a written query
abbrev pub written_pieces : List WrittenMatch → List Condition → List Bytes → List Piece
written_pieces ps cs vs = joined match_pieces ps ++ (map asks cs ++ map returns vs)

-- the signs of a written query make its pieces
pub pieces_of_written : (p : WrittenMatch) (ps : List WrittenMatch) (cs : List Condition) (v : Bytes) (vs : List Bytes) → Each AllNames (p ∷ ps)
    → Each WritableCondition cs → Each IsName (v ∷ vs)
    → pieces at_start 0 (written_signs (p ∷ ps) cs (v ∷ vs)) ≡ just (written_pieces (p ∷ ps) cs (v ∷ vs))
unfolding joined
pieces_of_written p ps cs v vs g h k =
    ap (pieces at_start 0) (append_assoc (match_signs p) (joined match_signs ps) (where_signs cs ++ return_signs (v ∷ vs)))
    ∙ (piece_match p _ _ g.0 (piece_matches ps _ _ g.1 (piece_rest cs v vs h k))).0
    ∙ ap just (sym (append_assoc (match_pieces p) (joined match_pieces ps) (map asks cs ++ map returns (v ∷ vs))))
