-- The renamed text: its lines are the lines with new names, its bytes are allowed, its length is theirs; `_b` taken away, it is the old text.
use Prim.Native.Nat.{ℕ, ◌+◌}
use mathlib.Core.Path.{◌≡◌, refl, sym, ap, ◌∙◌}
use mathlib.Core.Logic.{⊎_elim}
use mathlib.Core.List.{List, [], ◌∷◌, ◌++◌, map, append_assoc}
use mathlib.Core.Bool.{Bool, true, false, not}
use lib.ListN.{length, length-append}
use lib.Dec.{T, eqb, eqb→eq, T_not, not_T}
use Rattle.model.specs.Bytes.{Bytes}
use Rattle.model.specs.Choice.{pick, nothing}
use Rattle.model.specs.Lists.{all, joined, sum}
use Rattle.model.specs.Names.{Name}
use Rattle.model.specs.Lines.{is_allowed, bad_line, Line, add_byte, lines_of}
use Rattle.model.specs.Graph.{Each}
use Rattle.model.specs.Renaming.{Piece, old, first_word, node_words, line_pieces, text_pieces, piece_bytes, old_bytes, renamed}
use Rattle.model.proofs.Decides.{pick_iff}
use Rattle.model.proofs.Members.{test, is_true, is_false}
use Rattle.model.proofs.AllowedBytes.{Allowed, all_append, allowed_line, line_allowed, lines_allowed}
use Rattle.renaming.proofs.RenamedParts.{line_anew}
use Rattle.renaming.proofs.RenamedPieces.{words_kept, words_same, words_pass}

-- the bytes of a line with its line feed
abbrev line_text : Line → Bytes
line_text l = l.bytes ++ pick l.ended (10 ∷ []) []

-- of lines one after another
abbrev lines_text : List Line → Bytes
lines_text ls = joined line_text ls

-- a text is its lines
lines_text_law : (s : Bytes) → lines_text (lines_of s) ≡ s
unfolding lines_of add_byte joined
lines_text_law [] = refl
lines_text_law (b ∷ s) = ⊎_elim
    (λ c. rw (is_true (eqb b 10) c, lines_text_law s) (ap (λ (x : ℕ). x ∷ s) (sym (eqb→eq b 10 c))))
    (λ c. rw (is_false (eqb b 10) c) (longer (lines_of s) (lines_text_law s)))
    (test (eqb b 10))
  where
    longer : (ls : List Line) → lines_text ls ≡ s → lines_text (add_byte b ls) ≡ b ∷ s
    longer [] e = ap (λ r. b ∷ r) e
    longer (l ∷ ls) e = ap (λ r. b ∷ r) e

-- what pieces one after another are joined to
joined_append : (f : Piece → Bytes) (a b : List Piece) → joined f (a ++ b) ≡ joined f a ++ joined f b
unfolding joined
joined_append f [] b = refl
joined_append f (x ∷ a) b = ap (λ r. f x ++ r) (joined_append f a b) ∙ sym (append_assoc (f x) (joined f a) (joined f b))

-- the pieces of the lines, by what each line's are
pieces_text : (f : Piece → Bytes) → ((t : Bytes) → f (old t) ≡ t) → (new : Line → Line) → ((l : Line) → (new l).ended ≡ l.ended) → (later : List Name)
    → ((l : Line) → joined f (line_pieces later l.bytes) ≡ (new l).bytes) → (ls : List Line) → joined f (text_pieces later ls) ≡ lines_text (map new ls)
unfolding joined text_pieces
pieces_text f keeps new same later h [] = refl
pieces_text f keeps new same later h (l ∷ ls) =
    joined_append f (line_pieces later l.bytes) (old (pick l.ended (10 ∷ []) []) ∷ text_pieces later ls)
    ∙ rw (keeps (pick l.ended (10 ∷ []) []), h l, same l, pieces_text f keeps new same later h ls) (sym (append_assoc (new l).bytes _ _))

-- a list whose elements all stay
map_same : {A : Type 0} (l : List A) → map (λ x. x) l ≡ l
map_same [] = refl
map_same (x ∷ l) = ap (λ r. x ∷ r) (map_same l)

-- `_b` taken away, the new text is the old one
pub taken_away : (later : List Name) (s : Bytes) → joined old_bytes (text_pieces later (lines_of s)) ≡ s
unfolding line_pieces old_bytes
taken_away later s =
    pieces_text old_bytes (λ t. refl) (λ l. l) (λ l. refl) later (λ l. words_kept later (false ∷ node_words (first_word l.bytes)) l.bytes) (lines_of s)
    ∙ ap lines_text (map_same (lines_of s)) ∙ lines_text_law s

-- the new text is that of the new lines
renamed_text : (later : List Name) (s : Bytes) → renamed later s ≡ lines_text (map (line_anew later) (lines_of s))
unfolding renamed piece_bytes
renamed_text later s = pieces_text piece_bytes (λ t. refl) (line_anew later) (λ l. refl) later (λ l. refl) (lines_of s)

-- without later names it is the old one
pub renamed_none : (s : Bytes) → renamed [] s ≡ s
unfolding renamed line_pieces piece_bytes
renamed_none s =
    pieces_text piece_bytes (λ t. refl) (λ l. l) (λ l. refl) [] (λ l. words_same (false ∷ node_words (first_word l.bytes)) l.bytes) (lines_of s)
    ∙ ap lines_text (map_same (lines_of s)) ∙ lines_text_law s

-- the length of a text, by its lines
lines_length : (ls : List Line) → length (lines_text ls) ≡ sum (map (λ l. length l.bytes + pick l.ended 1 0) ls)
unfolding joined sum
lines_length [] = refl
lines_length (l ∷ ls) =
    length-append (line_text l) (lines_text ls) ∙ rw (length-append l.bytes (pick l.ended (10 ∷ []) []), lines_length ls, feed l.ended) refl
  where
    feed : (t : Bool) → length (pick {A = Bytes} t (10 ∷ []) []) ≡ pick t 1 0
    feed true = refl
    feed false = refl

-- the length of the old text

pub length_lines : (s : Bytes) → length s ≡ sum (map (λ l. length l.bytes + pick l.ended 1 0) (lines_of s))
length_lines s = ap length (sym (lines_text_law s)) ∙ lines_length (lines_of s)

-- one after the other at each element
map_map : {A B C : Type 0} (f : B → C) (g : A → B) (l : List A) → map f (map g l) ≡ map (λ x. f (g x)) l
map_map f g [] = refl
map_map f g (x ∷ l) = ap (λ r. f (g x) ∷ r) (map_map f g l)

-- the length of the new text, by its lines
pub length_anew : (later : List Name) (s : Bytes)
    → length (renamed later s) ≡ sum (map (λ l. length (line_anew later l).bytes + pick l.ended 1 0) (lines_of s))
length_anew later s =
    ap length (renamed_text later s) ∙ lines_length (map (line_anew later) (lines_of s))
    ∙ ap sum (map_map (λ l. length l.bytes + pick l.ended 1 0) (line_anew later) (lines_of s))

-- a byte that ends no line
abbrev pub no_feed : ℕ → Bool
no_feed b = not (eqb b 10)

-- a line has no line feed in it
lines_free : (s : Bytes) → Each (λ l. T (all no_feed l.bytes)) (lines_of s)
unfolding lines_of add_byte all
lines_free [] = tt
lines_free (b ∷ s) = ⊎_elim (λ c. rw (is_true (eqb b 10) c) (tt, lines_free s))
    (λ c. rw (is_false (eqb b 10) c) (longer (lines_of s) c (lines_free s))) (test (eqb b 10))
  where
    longer : (ls : List Line) → (T (eqb b 10) → ⊥) → Each (λ (l : Line). T (all no_feed l.bytes)) ls
        → Each (λ (l : Line). T (all no_feed l.bytes)) (add_byte b ls)
    longer [] c k = ((pick_iff (no_feed b) true).0 (not_T (eqb b 10) c, tt), tt)
    longer (l ∷ ls) c k = ((pick_iff (no_feed b) (all no_feed l.bytes)).0 (not_T (eqb b 10) c, k.0), k.1)

-- a line before a text
pub line_before : (bs s : Bytes) → T (all no_feed bs) → lines_of (bs ++ (10 ∷ []) ++ s) ≡ record { bytes = bs; ended = true } ∷ lines_of s
unfolding lines_of add_byte all
line_before [] s h = refl
line_before (b ∷ bs) s h =
    let u = (pick_iff (no_feed b) (all no_feed bs)).1 h in rw (is_false (eqb b 10) (T_not (eqb b 10) u.0), line_before bs s u.1) refl

-- the new lines are the lines of their text
text_lines : (later : List Name) (ls : List Line) → T (all (λ l. l.ended) ls) → Each (λ l. T (all no_feed l.bytes)) ls
    → lines_of (lines_text (map (line_anew later) ls)) ≡ map (line_anew later) ls
unfolding joined line_pieces lines_of all
text_lines later [] h f = refl
text_lines later (l ∷ ls) h f =
    let u = (pick_iff l.ended (all (λ l. l.ended) ls)).1 h in
    let k = words_pass no_feed tt later (false ∷ node_words (first_word l.bytes)) l.bytes f.0 in
    rw (is_true l.ended u.0, line_before (line_anew later l).bytes (lines_text (map (line_anew later) ls)) k)
    (ap (λ r. record { bytes = (line_anew later l).bytes; ended = true } ∷ r) (text_lines later ls u.1 f.1))

-- the lines of the new text are the old ones with new names
pub lines_anew : (later : List Name) (s : Bytes) → all (λ l. l.ended) (lines_of s) ≡ true → lines_of (renamed later s) ≡ map (line_anew later) (lines_of s)
lines_anew later s e = ap lines_of (renamed_text later s) ∙ text_lines later (lines_of s) (rw e tt) (lines_free s)

-- new lines of allowed bytes are of allowed bytes
lines_pass : (later : List Name) (ls : List Line) → Each (λ l. Allowed l.bytes) ls → Allowed (lines_text (map (line_anew later) ls))
unfolding joined line_pieces all is_allowed
lines_pass later [] h = tt
lines_pass later (l ∷ ls) h =
    all_append is_allowed (line_text (line_anew later l)) (lines_text (map (line_anew later) ls))
    (all_append is_allowed (line_anew later l).bytes (pick l.ended (10 ∷ []) [])
    (words_pass is_allowed tt later (false ∷ node_words (first_word l.bytes)) l.bytes h.0) (feed l.ended)) (lines_pass later ls h.1)
  where
    feed : (t : Bool) → Allowed (pick t (10 ∷ []) [])
    feed true = tt
    feed false = tt

-- if the old bytes are allowed, so are the new ones
pub allowed_anew : (later : List Name) (s : Bytes) → bad_line 1 s ≡ nothing → bad_line 1 (renamed later s) ≡ nothing
allowed_anew later s e = allowed_line 1 (renamed later s) (rw (renamed_text later s) (lines_pass later (lines_of s) (lines_allowed s (line_allowed 1 s e))))
