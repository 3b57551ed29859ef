-- The text of written lines: its lines are these lines, and its bytes are allowed.
use Prim.Native.Nat.{ℕ}
use mathlib.Core.Path.{◌≡◌, refl, ap, subst, ◌∙◌}
use mathlib.Core.List.{List, [], ◌∷◌, ◌++◌, map}
use mathlib.Core.Bool.{Bool, true, false, not, ◌&&◌, ◌||◌}
use native.Mathlib.Omega.{arith}
use lib.ListN.{length}
use lib.Dec.{T, leb, eqb, eqb→eq, not_T, T_not}
use Rattle.model.specs.Bytes.{Bytes, bytes_of}
use Rattle.model.specs.Choice.{nothing}
use Rattle.model.specs.Limits.{max_text_bytes}
use Rattle.model.specs.Lists.{any, all, joined}
use Rattle.model.specs.Words.{between, is_letter, is_digit, is_word_byte, is_text}
use Rattle.model.specs.Lines.{is_allowed, bad_line, lines_of}
use Rattle.model.specs.Values.{Value, int, str, bool, Kind, ints, strs, bools, Entry}
use Rattle.model.specs.BookLines.{label, BookLine, vattr, eattr, node, rel}
use Rattle.model.specs.Graph.{Each}
use Rattle.model.specs.Writing.{each_behind, join_by, value_text}
use Rattle.model.specs.Tidy.{kind_text, list_text, entry_text, item_texts, line_text}
use Rattle.model.proofs.Decides.{and_iff, or_r}
use Rattle.model.proofs.Members.{all_e, all_i, any_i}
use Rattle.model.proofs.AllowedBytes.{all_more, all_append, Allowed, allowed_line, allowed_i, digit_e, word_byte_allowed}
use Rattle.model.proofs.WrittenSigns.{whole_bytes}
use Rattle.model.proofs.WrittenConditions.{IsName, WritableValue}
use Rattle.renaming.proofs.RenamedText.{no_feed, line_before}
use Rattle.tidying.proofs.Made.{EntryMade, LineMade, written}

-- a byte that is allowed inside a line
abbrev in_line : ℕ → Bool
in_line b = is_allowed b && no_feed b

-- a text of such bytes
abbrev InLine : Bytes → Type 0
InLine s = T (all in_line s)

-- a byte that is allowed and no line feed is one
in_line_i : (b : ℕ) → T (is_allowed b) → (T (eqb b 10) → ⊥) → T (in_line b)
in_line_i b a f = (and_iff (is_allowed b) (no_feed b)).0 (a, not_T (eqb b 10) f)

-- the bytes of words
word_byte_in_line : (b : ℕ) → T (is_word_byte b) → T (in_line b)
unfolding is_word_byte is_letter is_digit between
word_byte_in_line b t = in_line_i b (word_byte_allowed b t) (λ f. subst (λ c. T (is_word_byte c)) (eqb→eq b 10 f) t)

-- digits
digit_in_line : (b : ℕ) → T (is_digit b) → T (in_line b)
digit_in_line b t = let r = digit_e b t in in_line_i b (allowed_i b (omega arith) (omega arith)) (λ f. let e = eqb→eq b 10 f in omega arith)

-- a name
name_in_line : (n : Bytes) → IsName n → InLine n
name_in_line [] h = absurd h.0
name_in_line (b ∷ n) h = all_more is_word_byte in_line word_byte_in_line (b ∷ n) h.0.1

-- a text value
text_in_line : (t : Bytes) → T (is_text t) → Allowed t → InLine t
unfolding is_text
text_in_line t h a =
    let u = (and_iff (leb (length t) max_text_bytes) (not (any (λ b. eqb b 34 || eqb b 10) t))).1 h in
    all_i in_line t (λ b m. in_line_i b (all_e is_allowed t a b m)
    (λ f. T_not (any (λ b. eqb b 34 || eqb b 10) t) u.1 (any_i (λ b. eqb b 34 || eqb b 10) t b m (or_r (eqb b 34) (eqb b 10) f))))

-- a value
value_in_line : (v : Value) → WritableValue v → InLine (value_text v)
unfolding value_text all is_allowed
value_in_line (int n) h = whole_bytes in_line digit_in_line tt n h
value_in_line (str t) h = all_append in_line (39 ∷ t) (39 ∷ []) (text_in_line t h.0 h.2) tt
value_in_line (bool true) h = tt
value_in_line (bool false) h = tt

-- texts, each behind a space
behind_in_line : (ts : List Bytes) → Each InLine ts → InLine (each_behind (bytes_of " ") ts)
unfolding each_behind all is_allowed
behind_in_line [] h = tt
behind_in_line (t ∷ ts) h = all_append in_line t (each_behind (bytes_of " ") ts) h.0 (behind_in_line ts h.1)

-- a list of texts
list_in_line : (ts : List Bytes) → Each InLine ts → InLine (list_text ts)
unfolding list_text join_by all is_allowed
list_in_line [] h = tt
list_in_line (t ∷ ts) h =
    all_append in_line (t ++ each_behind (bytes_of " ") ts) (bytes_of ")")
    (all_append in_line t (each_behind (bytes_of " ") ts) h.0 (behind_in_line ts h.1)) tt

-- attributes with their values
entries_in_line : (es : List Entry) → Each EntryMade es → Each InLine (map entry_text es)
unfolding entry_text
entries_in_line [] h = tt
entries_in_line (e ∷ es) h =
    (list_in_line _ (name_in_line e.attr h.0.0, (value_in_line e.value h.0.1, tt)), entries_in_line es h.1)

-- a type
kind_in_line : (k : Kind) → InLine (kind_text k)
unfolding kind_text all is_allowed
kind_in_line ints = tt
kind_in_line strs = tt
kind_in_line bools = tt

-- the items of a line
items_in_line : (l : BookLine) → LineMade l → Each InLine (item_texts l)
unfolding item_texts all is_allowed
items_in_line (vattr n k) h = (tt, (name_in_line n h, (kind_in_line k, tt)))
items_in_line (eattr n k) h = (tt, (name_in_line n h, (kind_in_line k, tt)))
items_in_line (label n) h = (tt, (name_in_line n h, tt))
items_in_line (node n es) h = (tt, (name_in_line n h.0, entries_in_line es h.1))
items_in_line (rel l x y es) h = (tt, (name_in_line l h.0, (name_in_line x h.1, (name_in_line y h.2, entries_in_line es h.3))))

-- a line
line_in_line : (l : BookLine) → LineMade l → InLine (list_text (item_texts l))
line_in_line l h = list_in_line (item_texts l) (items_in_line l h)

-- the lines of the text are the lines that were written
pub lines_back : (ls : List BookLine) → Each LineMade ls → lines_of (joined line_text ls) ≡ map written ls
unfolding lines_of joined line_text
lines_back [] h = refl
lines_back (l ∷ ls) h =
    let s = list_text (item_texts l) in
    let f = all_more in_line no_feed (λ b t. ((and_iff (is_allowed b) (no_feed b)).1 t).1) s (line_in_line l h.0) in
    line_before s (joined line_text ls) f ∙ ap (λ r. written l ∷ r) (lines_back ls h.1)

-- the bytes of the text are allowed
text_bytes : (ls : List BookLine) → Each LineMade ls → Allowed (joined line_text ls)
unfolding joined line_text all is_allowed
text_bytes [] h = tt
text_bytes (l ∷ ls) h =
    let s = list_text (item_texts l) in
    all_append is_allowed (s ++ bytes_of "\n") (joined line_text ls)
    (all_append is_allowed s (bytes_of "\n") (all_more in_line is_allowed (λ b t. ((and_iff (is_allowed b) (no_feed b)).1 t).0) s (line_in_line l h.0)) tt)
    (text_bytes ls h.1)

-- so no line of the text has a byte that is not
pub text_allowed : (ls : List BookLine) → Each LineMade ls → bad_line 1 (joined line_text ls) ≡ nothing
text_allowed ls h = allowed_line 1 (joined line_text ls) (text_bytes ls h)
