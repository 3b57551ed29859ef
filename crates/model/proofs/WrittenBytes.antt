-- The bytes of a written query are allowed.
use mathlib.Core.List.{List, [], ◌∷◌, ◌++◌, map}
use mathlib.Core.Bool.{Bool, true, false}
use native.Mathlib.Omega.{arith}
use Rattle.model.specs.Bytes.{Bytes, bytes_of}
use Rattle.model.specs.Choice.{pick}
use Rattle.model.specs.Lists.{is_nil, all}
use Rattle.model.specs.Words.{is_word_byte}
use Rattle.model.specs.Lines.{is_allowed}
use Rattle.model.specs.Values.{Value, int, str, bool}
use Rattle.model.specs.QueryText.{Relation, eq, ne, lt, le, gt, ge, Condition, differ, demand}
use Rattle.model.specs.Writing.{each_behind, join_by, value_text, relation_text, demand_text}
use Rattle.model.specs.Graph.{Each}
use Rattle.model.proofs.AllowedBytes.{all_append, all_more, Allowed, allowed_i, digit_e, word_byte_allowed}
use Rattle.model.proofs.WrittenSigns.{whole_bytes}
use Rattle.model.proofs.WrittenConditions.{IsName, WritableValue, WritableCondition, condition_text}
use Rattle.model.proofs.WrittenText.{WrittenMatch, vertex_match, edge_match, AllNames, match_text, written_text}

name_allowed : (v : Bytes) → IsName v → Allowed v
name_allowed [] h = absurd h.0
name_allowed (b ∷ v) h = all_more is_word_byte is_allowed word_byte_allowed (b ∷ v) h.0.1

value_allowed : (v : Value) → WritableValue v → Allowed (value_text v)
unfolding value_text all is_allowed
value_allowed (int n) h = whole_bytes is_allowed (λ b t. let r = digit_e b t in allowed_i b (omega arith) (omega arith)) tt n h
value_allowed (str t) h = all_append is_allowed (39 ∷ t) (39 ∷ []) h.2 tt
value_allowed (bool true) h = tt
value_allowed (bool false) h = tt

-- a text of allowed bytes
record AllowedText (s : Bytes) : Type 0 where
  bytes : Allowed s

literal : (s : Bytes) → Allowed s → AllowedText s
literal s h = record { bytes = h }

infixl 65 ◌&◌
◌&◌ : {a b : Bytes} → AllowedText a → AllowedText b → AllowedText (a ++ b)
◌&◌ {a} {b} h k = record { bytes = all_append is_allowed a b h.bytes k.bytes }

name_bytes_law : (v : Bytes) → IsName v → AllowedText v
name_bytes_law v h = literal v (name_allowed v h)

relation_bytes : (r : Relation) → AllowedText (relation_text r)
unfolding relation_text all is_allowed
relation_bytes eq = record { bytes = tt }
relation_bytes ne = record { bytes = tt }
relation_bytes lt = record { bytes = tt }
relation_bytes le = record { bytes = tt }
relation_bytes gt = record { bytes = tt }
relation_bytes ge = record { bytes = tt }

condition_bytes : (c : Condition) → WritableCondition c → AllowedText (condition_text c)
unfolding demand_text all is_allowed
condition_bytes (differ v u) h = name_bytes_law v h.0 & literal (bytes_of " <> ") tt & name_bytes_law u h.1
condition_bytes (demand x a r v) h = name_bytes_law x h.0 & literal (bytes_of ".") tt & name_bytes_law a h.1 & literal (bytes_of " ") tt & relation_bytes r &
    literal (bytes_of " ") tt & literal (value_text v) (value_allowed v h.2)

match_allowed : (p : WrittenMatch) → AllNames p → AllowedText (match_text p)
unfolding all is_allowed
match_allowed (vertex_match v) h = literal (bytes_of "Match (") tt & name_bytes_law v h & literal (bytes_of ")") tt
match_allowed (edge_match u e l v) h =
    literal (bytes_of "Match (") tt & name_bytes_law u h.0 & literal (bytes_of ")-[") tt & name_bytes_law e h.1 & literal (bytes_of ":") tt & name_bytes_law l
    h.2 & literal (bytes_of "]->(") tt & name_bytes_law v h.3 & literal (bytes_of ")") tt

behind_bytes : (sep : Bytes) (ts : List Bytes) → AllowedText sep → Each AllowedText ts → AllowedText (each_behind sep ts)
unfolding each_behind all
behind_bytes sep [] h k = record { bytes = tt }
behind_bytes sep (t ∷ ts) h k = h & k.0 & behind_bytes sep ts h k.1

join_bytes : (sep : Bytes) (ts : List Bytes) → AllowedText sep → Each AllowedText ts → AllowedText (join_by sep ts)
unfolding join_by all
join_bytes sep [] h k = record { bytes = tt }
join_bytes sep (t ∷ ts) h k = k.0 & behind_bytes sep ts h k.1

map_bytes : {A : Type 0} (P : A → Type 0) (f : A → Bytes) → ((x : A) → P x → AllowedText (f x)) → (l : List A) → Each P l → Each AllowedText (map f l)
map_bytes P f h [] k = tt
map_bytes P f h (x ∷ l) k = (h x k.0, map_bytes P f h l k.1)

names_bytes : (vs : List Bytes) → Each IsName vs → Each AllowedText vs
names_bytes [] h = tt
names_bytes (v ∷ vs) h = (name_bytes_law v h.0, names_bytes vs h.1)

pick_bytes : (t : Bool) (a b : Bytes) → AllowedText a → AllowedText b → AllowedText (pick t a b)
pick_bytes true a b h k = h
pick_bytes false a b h k = k

written_bytes : (ps : List WrittenMatch) (cs : List Condition) (vs : List Bytes) → Each AllNames ps → Each WritableCondition cs → Each IsName vs
    → AllowedText (written_text ps cs vs)
unfolding all is_allowed
written_bytes ps cs vs g h k =
    join_bytes (bytes_of " ") (map match_text ps) (literal (bytes_of " ") tt) (map_bytes AllNames match_text match_allowed ps g)
    & pick_bytes (is_nil cs) [] (bytes_of " Where " ++ join_by (bytes_of " AND ") (map condition_text cs)) (literal [] tt)
    (literal (bytes_of " Where ") tt & join_bytes (bytes_of " AND ") (map condition_text cs) (literal (bytes_of " AND ") tt)
    (map_bytes WritableCondition condition_text condition_bytes cs h))
    & literal (bytes_of " Return ") tt & join_bytes (bytes_of ", ") vs (literal (bytes_of ", ") tt) (names_bytes vs k)

-- a written text of names, conditions that can be written and names is of allowed bytes
pub written_text_allowed : (ps : List WrittenMatch) (cs : List Condition) (vs : List Bytes) → Each AllNames ps → Each WritableCondition cs → Each IsName vs
    → Allowed (written_text ps cs vs)
written_text_allowed ps cs vs g h k = (written_bytes ps cs vs g h k).bytes
