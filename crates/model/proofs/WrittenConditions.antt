-- Names, values and conditions as they are written, and their signs.
use Prim.Native.Nat.{ℕ, ◌^◌, ◌<◌}
use mathlib.Core.Path.{◌≡◌, refl, ap, subst, ◌∙◌}
use mathlib.Core.List.Memᴰ
use mathlib.Core.List.{List, [], ◌∷◌, ◌++◌, append_assoc}
use mathlib.Core.Bool.{Bool, true, false, not}
use native.Mathlib.Omega.{arith}
use lib.Dec.{T, eqb}
use Rattle.model.specs.Bytes.{Bytes, bytes_of, same}
use Rattle.model.specs.Choice.{just}
use Rattle.model.specs.Lists.{any, all}
use Rattle.model.specs.Names.{mem}
use Rattle.model.specs.Words.{between, is_letter, is_digit, is_word_byte, run, is_text}
use Rattle.model.specs.Lines.{is_allowed}
use Rattle.model.specs.Values.{Value, int, str, bool}
use Rattle.model.specs.Forms.{never_names, name_of}
use Rattle.model.specs.Signs.{Sign, word, whole, text, mark, marks, begins, mark_at, digit_next, sign_at, is_word, wordy, chain_behind, signs}
use Rattle.model.specs.QueryText.{Relation, eq, ne, lt, le, gt, ge, Condition, differ, demand}
use Rattle.model.specs.Writing.{value_text, relation_text, demand_text}
use Rattle.model.proofs.Members.{is_false, any_i}
use Rattle.model.proofs.WrittenSigns.{Word, lex_word, lex_text, lex_whole}

-- a name: a word that is no keyword
abbrev pub IsName : Bytes → Type 0
IsName v = Word v × (mem v never_names ≡ false)

-- a name is read as a name
pub name_is : (v : Bytes) → IsName v → name_of v ≡ just v
unfolding name_of
name_is v h = rw h.1

not_keyword : (v : Bytes) → mem v never_names ≡ false
    → (same v (bytes_of "Match") ≡ false) × (same v (bytes_of "Where") ≡ false) × (same v (bytes_of "Return") ≡ false)
unfolding mem any never_names
not_keyword v h = (
  is_false (same v (bytes_of "Match")) (λ t. subst T h (any_i (same v) never_names (bytes_of "Match") (Memᴰ.head refl) t)),
  is_false (same v (bytes_of "Where")) (λ t. subst T h (any_i (same v) never_names (bytes_of "Where") (Memᴰ.tail (Memᴰ.head refl)) t)),
  is_false (same v (bytes_of "Return")) (λ t. subst T h
      (any_i (same v) never_names (bytes_of "Return") (Memᴰ.tail (Memᴰ.tail (Memᴰ.tail (Memᴰ.head refl)))) t)),
)

chain_stays : (c : Bool) (v : Bytes) → IsName v → chain_behind c (word v) ≡ c
unfolding chain_behind is_word
chain_stays true v h = let n = not_keyword v h.1 in rw (n.0, n.1, n.2)
chain_stays false v h = let n = not_keyword v h.1 in rw n.0

-- the sign of a name, where no word byte follows
pub lex_name : (c : Bool) (v s : Bytes) → IsName v → run is_word_byte s ≡ [] → signs c false 0 (v ++ s) ≡ word v ∷ signs c true 0 s
lex_name c v s h e = lex_word c v s h.0 e ∙ ap (λ x. word v ∷ signs x true 0 s) (chain_stays c v h)

-- what follows a condition or a returned name
pub data Follows : Bytes → Type 0 where
  nil : Follows []
  space : {s : Bytes} → Follows (32 ∷ s)
  comma : {s : Bytes} → Follows (44 ∷ s)

-- what follows begins with no word byte
pub follows_word : {s : Bytes} → Follows s → run is_word_byte s ≡ []
unfolding run is_word_byte is_letter is_digit between
follows_word nil = refl
follows_word space = refl
follows_word comma = refl

follows_digit : {s : Bytes} → Follows s → run is_digit s ≡ []
unfolding run is_digit between
follows_digit nil = refl
follows_digit space = refl
follows_digit comma = refl

-- before what follows, a word or a number needs no space
pub needs_no_space : {s : Bytes} → Follows s → signs false true 0 s ≡ signs false false 0 s
unfolding signs sign_at is_letter is_digit between mark_at marks begins wordy
needs_no_space nil = refl
needs_no_space space = refl
needs_no_space comma = refl

-- a value
abbrev pub WritableValue : Value → Type 0
WritableValue (int n) = n < 2 ^ 64
WritableValue (str t) = T (is_text t) × T (all (λ b. not (eqb b 39)) t) × T (all is_allowed t)
WritableValue (bool b) = T true

-- the sign of a value
abbrev pub value_sign : Value → Sign
value_sign (int n) = whole n
value_sign (str t) = text t
value_sign (bool true) = word (bytes_of "true")
value_sign (bool false) = word (bytes_of "false")

lex_value : (v : Value) (s : Bytes) → WritableValue v → Follows s → signs false false 0 (value_text v ++ s) ≡ value_sign v ∷ signs false false 0 s
unfolding value_text is_letter is_word_byte is_digit between all chain_behind is_word same
lex_value (int n) s h f = lex_whole n s h (follows_digit f) ∙ ap (λ x. whole n ∷ x) (needs_no_space f)
lex_value (str t) s h f = rw append_assoc (lex_text t s h.0 h.1)
lex_value (bool true) s h f = lex_word false (bytes_of "true") s (tt, tt, omega arith) (follows_word f) ∙ ap (λ x. word (bytes_of "true") ∷ x) (needs_no_space f)
lex_value (bool false) s h f = lex_word false (bytes_of "false") s (tt, tt, omega arith) (follows_word f)
    ∙ ap (λ x. word (bytes_of "false") ∷ x) (needs_no_space f)

-- a condition
abbrev pub WritableCondition : Condition → Type 0
WritableCondition (differ v u) = IsName v × IsName u
WritableCondition (demand x a r v) = IsName x × IsName a × WritableValue v

-- a condition as it is written
abbrev pub condition_text : Condition → Bytes
condition_text (differ v u) = v ++ bytes_of " <> " ++ u
condition_text (demand x a r v) = demand_text x a r v

-- the signs of a condition
abbrev pub condition_signs : Condition → List Sign
condition_signs (differ v u) = word v ∷ mark (bytes_of "<>") ∷ word u ∷ []
condition_signs (demand x a r v) = word x ∷ mark (bytes_of ".") ∷ word a ∷ mark (relation_text r) ∷ value_sign v ∷ []

lex_relation : (r : Relation) (s : Bytes) → signs false true 0 (32 ∷ (relation_text r ++ (32 ∷ s))) ≡ mark (relation_text r) ∷ signs false false 0 s
unfolding signs sign_at is_letter is_digit between mark_at marks begins wordy relation_text chain_behind is_word digit_next
lex_relation eq s = refl
lex_relation ne s = refl
lex_relation lt s = refl
lex_relation le s = refl
lex_relation gt s = refl
lex_relation ge s = refl

demand_text_law : (x a : Bytes) (r : Relation) (v : Value) (s : Bytes)
    → demand_text x a r v ++ s ≡ x ++ (46 ∷ (a ++ (32 ∷ (relation_text r ++ (32 ∷ (value_text v ++ s))))))
unfolding demand_text
demand_text_law x a r v s = simp append_assoc

differ_text : (v u s : Bytes) → v ++ bytes_of " <> " ++ u ++ s ≡ v ++ (32 ∷ 60 ∷ 62 ∷ 32 ∷ (u ++ s))
differ_text v u s = simp append_assoc

-- a byte that is no word byte ends a word
pub ends_word : (b : ℕ) (s : Bytes) → is_word_byte b ≡ false → run is_word_byte (b ∷ s) ≡ []
unfolding run
ends_word b s e = rw e

lex_not : (s : Bytes) → signs false true 0 (32 ∷ 60 ∷ 62 ∷ 32 ∷ s) ≡ mark (bytes_of "<>") ∷ signs false false 0 s
unfolding signs sign_at is_letter is_digit between mark_at marks begins wordy chain_behind is_word digit_next
lex_not s = refl

lex_dot : (s : Bytes) → signs false true 0 (46 ∷ s) ≡ mark (bytes_of ".") ∷ signs false false 0 s
unfolding signs sign_at is_letter is_digit between mark_at marks begins wordy chain_behind is_word digit_next
lex_dot s = refl

-- a written condition gives its signs
pub lex_condition : (c : Condition) (s : Bytes) → WritableCondition c → Follows s
    → signs false false 0 (condition_text c ++ s) ≡ condition_signs c ++ signs false false 0 s
unfolding is_word_byte is_letter is_digit between
lex_condition (differ v u) s h f =
    ap (signs false false 0) (differ_text v u s)
    ∙ lex_name false v _ h.0 (ends_word 32 _ refl)
    ∙ ap (λ z. word v ∷ z) (lex_not (u ++ s)
    ∙ ap (λ z. mark (bytes_of "<>") ∷ z) (lex_name false u s h.1 (follows_word f) ∙ ap (λ z. word u ∷ z) (needs_no_space f)))
lex_condition (demand x a r v) s h f =
    ap (signs false false 0) (demand_text_law x a r v s)
    ∙ lex_name false x _ h.0 (ends_word 46 _ refl)
    ∙ ap (λ z. word x ∷ z) (lex_dot _ ∙ ap (λ z. mark (bytes_of ".") ∷ z) (lex_name false a _ h.1 (ends_word 32 _ refl)
    ∙ ap (λ z. word a ∷ z) (lex_relation r _ ∙ ap (λ z. mark (relation_text r) ∷ z) (lex_value v s h.2 f))))
