-- The text of a written query, and its signs.
use mathlib.Core.Path.{◌≡◌, refl, sym, ap, ◌∙◌}
use mathlib.Core.List.{List, [], ◌∷◌, ◌++◌, map, append_assoc}
use mathlib.Core.Bool.{Bool, true, false}
use Rattle.model.specs.Bytes.{Bytes, bytes_of, same}
use Rattle.model.specs.Choice.{pick}
use Rattle.model.specs.Lists.{is_nil, joined}
use Rattle.model.specs.Words.{between, is_letter, is_digit, is_word_byte, run, word_at}
use Rattle.model.specs.Signs.{Sign, word, mark, marks, begins, mark_at, or_broken, digit_next, sign_at, is_word, wordy, chain_behind, signs}
use Rattle.model.specs.QueryText.{Condition}
use Rattle.model.specs.Writing.{each_behind, join_by}
use Rattle.model.specs.Graph.{Each}
use Rattle.model.proofs.WrittenConditions.{IsName, lex_name, Follows, nil, space, comma, follows_word, needs_no_space, WritableCondition}
use Rattle.model.proofs.WrittenConditions.{condition_text, condition_signs, ends_word, lex_condition}

-- a Match of one vertex, or of one edge
pub data WrittenMatch : Type 0 where
  vertex_match : Bytes → WrittenMatch
  edge_match : Bytes → Bytes → Bytes → Bytes → WrittenMatch

-- the names of a written Match are names
abbrev pub AllNames : WrittenMatch → Type 0
AllNames (vertex_match v) = IsName v
AllNames (edge_match u e l v) = IsName u × IsName e × IsName l × IsName v

-- a Match as it is written
abbrev pub match_text : WrittenMatch → Bytes
match_text (vertex_match v) = bytes_of "Match (" ++ v ++ bytes_of ")"
match_text (edge_match u e l v) = bytes_of "Match (" ++ u ++ bytes_of ")-[" ++ e ++ bytes_of ":" ++ l ++ bytes_of "]->(" ++ v ++ bytes_of ")"

-- the signs of a vertex
abbrev pub vertex_signs : Bytes → List Sign
vertex_signs v = mark (bytes_of "(") ∷ word v ∷ mark (bytes_of ")") ∷ []

-- the signs of a written Match
abbrev pub match_signs : WrittenMatch → List Sign
match_signs (vertex_match v) = word (bytes_of "Match") ∷ vertex_signs v
match_signs (edge_match u e l v) = word (bytes_of "Match") ∷ vertex_signs u
    ++ (mark (bytes_of "-") ∷ mark (bytes_of "[") ∷ word e ∷ mark (bytes_of ":") ∷ word l ∷ mark (bytes_of "]") ∷ mark (bytes_of "->") ∷ vertex_signs v)

lex_match_word : (c : Bool) (s : Bytes) → signs c false 0 (bytes_of "Match (" ++ s) ≡ word (bytes_of "Match") ∷ mark (bytes_of "(") ∷ signs true false 0 s
unfolding signs sign_at or_broken word_at run is_word_byte is_letter is_digit between mark_at marks begins wordy chain_behind is_word digit_next same
lex_match_word true s = refl
lex_match_word false s = refl

lex_round : (s : Bytes) → signs true true 0 (41 ∷ s) ≡ mark (bytes_of ")") ∷ signs true false 0 s
unfolding signs sign_at is_letter is_digit between mark_at marks begins wordy chain_behind is_word digit_next
lex_round s = refl

lex_from : (s : Bytes) → signs true true 0 (bytes_of ")-[" ++ s) ≡ mark (bytes_of ")") ∷ mark (bytes_of "-") ∷ mark (bytes_of "[") ∷ signs true false 0 s
unfolding signs sign_at is_letter is_digit between mark_at marks begins wordy chain_behind is_word digit_next
lex_from s = refl

lex_colon : (s : Bytes) → signs true true 0 (58 ∷ s) ≡ mark (bytes_of ":") ∷ signs true false 0 s
unfolding signs sign_at is_letter is_digit between mark_at marks begins wordy chain_behind is_word digit_next
lex_colon s = refl

lex_to : (s : Bytes) → signs true true 0 (bytes_of "]->(" ++ s) ≡ mark (bytes_of "]") ∷ mark (bytes_of "->") ∷ mark (bytes_of "(") ∷ signs true false 0 s
unfolding signs sign_at is_letter is_digit between mark_at marks begins wordy chain_behind is_word digit_next
lex_to s = refl

vertex_match_text : (v s : Bytes) → match_text (vertex_match v) ++ s ≡ bytes_of "Match (" ++ (v ++ (41 ∷ s))
vertex_match_text v s = simp append_assoc

edge_match_text : (u e l v s : Bytes) → match_text (edge_match u e l v) ++ s
    ≡ bytes_of "Match (" ++ (u ++ (bytes_of ")-[" ++ (e ++ (58 ∷ (l ++ (bytes_of "]->(" ++ (v ++ (41 ∷ s))))))))
edge_match_text u e l v s = simp append_assoc

-- a written Match gives its signs
pub lex_match : (c : Bool) (p : WrittenMatch) (s : Bytes) → AllNames p → signs c false 0 (match_text p ++ s) ≡ match_signs p ++ signs true false 0 s
unfolding is_word_byte is_letter is_digit between
lex_match c (vertex_match v) s h =
    ap (signs c false 0) (vertex_match_text v s) ∙ lex_match_word c _
    ∙ ap (λ z. word (bytes_of "Match") ∷ mark (bytes_of "(") ∷ z) (lex_name true v _ h (ends_word 41 _ refl) ∙ ap (λ z. word v ∷ z) (lex_round s))
lex_match c (edge_match u e l v) s h =
    ap (signs c false 0) (edge_match_text u e l v s) ∙ lex_match_word c _
    ∙ ap (λ z. word (bytes_of "Match") ∷ mark (bytes_of "(") ∷ z) (lex_name true u _ h.0 (ends_word 41 _ refl)
    ∙ ap (λ z. word u ∷ z) (lex_from _ ∙ ap (λ z. mark (bytes_of ")") ∷ mark (bytes_of "-") ∷ mark (bytes_of "[") ∷ z)
    (lex_name true e _ h.1 (ends_word 58 _ refl)
    ∙ ap (λ z. word e ∷ z) (lex_colon _ ∙ ap (λ z. mark (bytes_of ":") ∷ z) (lex_name true l _ h.2 (ends_word 93 _ refl)
    ∙ ap (λ z. word l ∷ z) (lex_to _ ∙ ap (λ z. mark (bytes_of "]") ∷ mark (bytes_of "->") ∷ mark (bytes_of "(") ∷ z)
    (lex_name true v _ h.3 (ends_word 41 _ refl)
    ∙ ap (λ z. word v ∷ z) (lex_round s))))))))

-- texts behind separators
behind_text : (sep t : Bytes) (ts : List Bytes) (s : Bytes) → each_behind sep (t ∷ ts) ++ s ≡ sep ++ (t ++ (each_behind sep ts ++ s))
unfolding each_behind
behind_text sep t ts s = simp append_assoc

lex_space : (s : Bytes) → signs true false 0 (32 ∷ s) ≡ signs true false 0 s
unfolding signs
lex_space s = refl

lex_matches : (ps : List WrittenMatch) (s : Bytes) → Each AllNames ps
    → signs true false 0 (each_behind (bytes_of " ") (map match_text ps) ++ s) ≡ joined match_signs ps ++ signs true false 0 s
unfolding each_behind joined
lex_matches [] s h = refl
lex_matches (p ∷ ps) s h =
    ap (signs true false 0) (behind_text (bytes_of " ") (match_text p) (map match_text ps) s) ∙ lex_space _ ∙ lex_match true p _ h.0
    ∙ ap (λ z. match_signs p ++ z) (lex_matches ps s h.1) ∙ sym (append_assoc (match_signs p) (joined match_signs ps) (signs true false 0 s))

lex_and : (s : Bytes) → signs false false 0 (bytes_of " AND " ++ s) ≡ word (bytes_of "AND") ∷ signs false false 0 s
unfolding signs sign_at or_broken word_at run is_word_byte is_letter is_digit between wordy chain_behind is_word digit_next same
lex_and s = refl

lex_where : (s : Bytes) → signs true false 0 (bytes_of " Where " ++ s) ≡ word (bytes_of "Where") ∷ signs false false 0 s
unfolding signs sign_at or_broken word_at run is_word_byte is_letter is_digit between wordy chain_behind is_word digit_next same
lex_where s = refl

lex_return : (c : Bool) (s : Bytes) → signs c false 0 (bytes_of " Return " ++ s) ≡ word (bytes_of "Return") ∷ signs false false 0 s
unfolding signs sign_at or_broken word_at run is_word_byte is_letter is_digit between wordy chain_behind is_word digit_next same
lex_return true s = refl
lex_return false s = refl

lex_comma : (s : Bytes) → signs false false 0 (bytes_of ", " ++ s) ≡ mark (bytes_of ",") ∷ signs false false 0 s
unfolding signs sign_at is_letter is_digit between mark_at marks begins wordy chain_behind is_word digit_next
lex_comma s = refl

-- AND and a condition
abbrev pub and_signs : Condition → List Sign
and_signs c = word (bytes_of "AND") ∷ condition_signs c

-- Where and the conditions
abbrev pub where_signs : List Condition → List Sign
where_signs [] = []
where_signs (c ∷ cs) = word (bytes_of "Where") ∷ condition_signs c ++ joined and_signs cs

-- a comma and a name
abbrev pub comma_signs : Bytes → List Sign
comma_signs v = mark (bytes_of ",") ∷ word v ∷ []

-- Return and the names
abbrev pub return_signs : List Bytes → List Sign
return_signs [] = word (bytes_of "Return") ∷ []
return_signs (v ∷ vs) = word (bytes_of "Return") ∷ word v ∷ joined comma_signs vs

follows_and : (cs : List Condition) (s : Bytes) → Follows s → Follows (each_behind (bytes_of " AND ") (map condition_text cs) ++ s)
unfolding each_behind
follows_and [] s f = f
follows_and (c ∷ cs) s f = space

follows_comma : (vs : List Bytes) → Follows (each_behind (bytes_of ", ") vs)
unfolding each_behind
follows_comma [] = nil
follows_comma (v ∷ vs) = comma

lex_ands : (cs : List Condition) (s : Bytes) → Each WritableCondition cs → Follows s
    → signs false false 0 (each_behind (bytes_of " AND ") (map condition_text cs) ++ s) ≡ joined and_signs cs ++ signs false false 0 s
unfolding each_behind joined
lex_ands [] s h f = refl
lex_ands (c ∷ cs) s h f =
    ap (signs false false 0) (behind_text (bytes_of " AND ") (condition_text c) (map condition_text cs) s) ∙ lex_and _
    ∙ ap (λ z. word (bytes_of "AND") ∷ z) (lex_condition c _ h.0 (follows_and cs s f) ∙ ap (λ z. condition_signs c ++ z) (lex_ands cs s h.1 f)
    ∙ sym (append_assoc (condition_signs c) (joined and_signs cs) (signs false false 0 s)))

lex_commas : (vs : List Bytes) → Each IsName vs → signs false false 0 (each_behind (bytes_of ", ") vs) ≡ joined comma_signs vs
unfolding each_behind joined signs
lex_commas [] h = refl
lex_commas (v ∷ vs) h =
    lex_comma (v ++ each_behind (bytes_of ", ") vs)
    ∙ ap (λ z. mark (bytes_of ",") ∷ z) (lex_name false v (each_behind (bytes_of ", ") vs) h.0 (follows_word (follows_comma vs))
    ∙ ap (λ z. word v ∷ z) (needs_no_space (follows_comma vs) ∙ lex_commas vs h.1))

abbrev where_text : List Condition → Bytes
where_text cs = pick (is_nil cs) [] (bytes_of " Where " ++ join_by (bytes_of " AND ") (map condition_text cs))

lex_returns : (c : Bool) (v : Bytes) (vs : List Bytes) → Each IsName (v ∷ vs)
    → signs c false 0 (bytes_of " Return " ++ (v ++ each_behind (bytes_of ", ") vs)) ≡ return_signs (v ∷ vs)
lex_returns c v vs h = lex_return c _ ∙ ap (λ z. word (bytes_of "Return") ∷ z)
    (lex_name false v _ h.0 (follows_word (follows_comma vs)) ∙ ap (λ z. word v ∷ z) (needs_no_space (follows_comma vs) ∙ lex_commas vs h.1))

where_text_law : (c : Condition) (cs : List Condition) (s : Bytes)
    → where_text (c ∷ cs) ++ s ≡ bytes_of " Where " ++ (condition_text c ++ (each_behind (bytes_of " AND ") (map condition_text cs) ++ s))
unfolding is_nil join_by
where_text_law c cs s = simp append_assoc

lex_rest : (cs : List Condition) (v : Bytes) (vs : List Bytes) → Each WritableCondition cs → Each IsName (v ∷ vs)
    → signs true false 0 (where_text cs ++ (bytes_of " Return " ++ (v ++ each_behind (bytes_of ", ") vs))) ≡ where_signs cs ++ return_signs (v ∷ vs)
unfolding is_nil
lex_rest [] v vs h k = lex_returns true v vs k
lex_rest (c ∷ cs) v vs h k =
    let X = bytes_of " Return " ++ (v ++ each_behind (bytes_of ", ") vs) in
    ap (signs true false 0) (where_text_law c cs X) ∙ lex_where _
    ∙ ap (λ z. word (bytes_of "Where") ∷ z) (lex_condition c _ h.0 (follows_and cs X space)
    ∙ ap (λ z. condition_signs c ++ z) (lex_ands cs X h.1 space ∙ ap (λ z. joined and_signs cs ++ z) (lex_returns false v vs k))
    ∙ sym (append_assoc (condition_signs c) (joined and_signs cs) (return_signs (v ∷ vs))))

-- the text of a query: Matches of one vertex or edge each, conditions, Return
abbrev pub written_text : List WrittenMatch → List Condition → List Bytes → Bytes
written_text ps cs vs = join_by (bytes_of " ") (map match_text ps) ++ where_text cs ++ bytes_of " Return " ++ join_by (bytes_of ", ") vs

-- the signs of a written query
abbrev pub written_signs : List WrittenMatch → List Condition → List Bytes → List Sign
written_signs ps cs vs = joined match_signs ps ++ (where_signs cs ++ return_signs vs)

written_text_law : (p : WrittenMatch) (ps : List WrittenMatch) (cs : List Condition) (v : Bytes) (vs : List Bytes)
    → written_text (p ∷ ps) cs (v ∷ vs) ≡ match_text p
    ++ (each_behind (bytes_of " ") (map match_text ps) ++ (where_text cs ++ (bytes_of " Return " ++ (v ++ each_behind (bytes_of ", ") vs))))
unfolding join_by
written_text_law p ps cs v vs = simp append_assoc

-- the text of a written query gives its signs
pub signs_of_written : (p : WrittenMatch) (ps : List WrittenMatch) (cs : List Condition) (v : Bytes) (vs : List Bytes) → Each AllNames (p ∷ ps)
    → Each WritableCondition cs → Each IsName (v ∷ vs)
    → signs false false 0 (written_text (p ∷ ps) cs (v ∷ vs)) ≡ written_signs (p ∷ ps) cs (v ∷ vs)
unfolding joined
signs_of_written p ps cs v vs g h k =
    ap (signs false false 0) (written_text_law p ps cs v vs) ∙ lex_match false p _ g.0
    ∙ ap (λ z. match_signs p ++ z) (lex_matches ps _ g.1 ∙ ap (λ z. joined match_signs ps ++ z) (lex_rest cs v vs h k))
    ∙ sym (append_assoc (match_signs p) (joined match_signs ps) (where_signs cs ++ return_signs (v ∷ vs)))
