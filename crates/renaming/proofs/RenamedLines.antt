-- A line of the book with new names: it is read anew, it has 2 bytes more for each `_b`, and the words that the renaming looks at are its items.
use Prim.Native.Nat.{ℕ, ◌+◌, ◌*◌, ◌≤◌}
use mathlib.Core.Path.{◌≡◌, refl, sym, ap, subst, ◌∙◌}
use mathlib.Core.List.{List, [], ◌∷◌, ◌++◌, append-nil}
use mathlib.Core.Bool.{Bool, true, false}
use native.Mathlib.Omega.{arith}
use lib.ListN.{length, length-append}
use Rattle.model.specs.Bytes.{Bytes, bytes_of, same}
use Rattle.model.specs.Choice.{just, and_then}
use Rattle.model.specs.Limits.{max_word_bytes}
use Rattle.model.specs.Lists.{all, joined}
use Rattle.model.specs.Names.{Name}
use Rattle.model.specs.Values.{Entry}
use Rattle.model.specs.Words.{between, is_letter, is_digit, is_word_byte}
use Rattle.model.specs.Items.{Item, word, Items, more, item_list, line_items}
use Rattle.model.specs.Lines.{Line}
use Rattle.model.specs.Forms.{form_of}
use Rattle.model.specs.BookLines.{label, BookLine, vattr, eattr, node, rel, book_line}
use Rattle.model.specs.Renaming.{first_word, after_word, node_words, pieces_of, line_pieces, piece_bytes, new_name}
use Rattle.model.proofs.WrittenSigns.{Word}
use Rattle.renaming.proofs.RenamedParts.{line_anew, says_anew, marked, marks_of, Short}
use Rattle.renaming.proofs.RenamedWords.{Rest}
use Rattle.renaming.proofs.RenamedPieces.{words_anew, before_words, no_node_word}
use Rattle.renaming.proofs.RenamedItems.{spaces_no_word, word_places, word_anew, word_counted, Begins, begins, OneList, one_list, one_list_read}
use Rattle.renaming.proofs.RenamedForms.{NamesNone, Says, of_node, of_rel, of_other, says, node_said, rel_said, new_name_law, line_read, read_line}

-- a line and the word that it begins with
record Opened (s w : Bytes) (js : List Item) : Type 0 where
  inside : Bytes
  items : Items
  line : OneList s inside items
  begun : Begins true inside w js line.behind

-- a line whose first item is a word is taken apart
opened : (s w : Bytes) (js : List Item) → line_items s ≡ just (word w ∷ js) → Opened s w js
opened s w js e =
    let k = one_list s (word w ∷ js) e in
    record { inside = k.0; items = k.1; line = k.2; begun = begins true k.0 w k.1 js k.2.behind k.3 k.2.rest }

-- what stands before the first bracket, and the bracket, changes neither the words nor what the renaming does with them
module _ (s w : Bytes) (js : List Item) (o : Opened s w js) where
  -- the first word
  opened_words : (first_word s ≡ w) × (after_word s ≡ o.begun.after)
  unfolding all is_word_byte is_letter is_digit between
  opened_words =
      let a = before_words [] o.line.front (40 ∷ o.inside) (spaces_no_word o.line.front o.line.blank) in
      let b = before_words [] (40 ∷ []) o.inside tt in
      let c = word_places true o.inside w o.begun.after o.begun.first in
      (ap first_word o.line.whole ∙ a.first ∙ b.first ∙ c.0, ap after_word o.line.whole ∙ a.after ∙ b.after ∙ c.1)

  -- the new line
  opened_anew : (later : List Name) (ms : List Bool) → node_words w ≡ ms
      → joined piece_bytes (line_pieces later s) ≡ o.line.front ++ (40 ∷ words_anew later (false ∷ ms) o.inside)
  unfolding line_pieces all is_word_byte is_letter is_digit between
  opened_anew later ms e =
      let a = before_words later o.line.front (40 ∷ o.inside) (spaces_no_word o.line.front o.line.blank) in
      let b = before_words later (40 ∷ []) o.inside tt in
      ap (λ x. words_anew later (false ∷ node_words x) s) opened_words.0 ∙ ap (λ x. words_anew later (false ∷ x) s) e
      ∙ ap (words_anew later (false ∷ ms)) o.line.whole ∙ a.anew false ms ∙ ap (λ x. o.line.front ++ x) (b.anew false ms)

  -- its items
  opened_read : (later : List Name) (ms : List Bool) (is : Items) → node_words w ≡ ms → length w ≤ 24
      → Rest 3 false (words_anew later ms o.begun.after) is o.line.behind
      → line_items (joined piece_bytes (line_pieces later s)) ≡ just (word w ∷ item_list is)
  unfolding item_list
  opened_read later ms is e h r = one_list_read (joined piece_bytes (line_pieces later s)) (words_anew later (false ∷ ms) o.inside) (more (word w) is) (record {
    front = o.line.front;
    blank = o.line.blank;
    whole = opened_anew later ms e;
    behind = o.line.behind;
    spaces = o.line.spaces;
    rest = word_anew later false ms true o.inside w o.begun.after o.begun.first 3 is o.line.behind h r;
  })

  -- its length, but for what stands behind the first word
  opened_counted : (later : List Name) (ms : List Bool) → node_words w ≡ ms
      → length (joined piece_bytes (line_pieces later s)) + length o.begun.after ≡ length s + length (words_anew later ms o.begun.after)
  opened_counted later ms e =
      let a = ap length (opened_anew later ms e) ∙ length-append o.line.front (40 ∷ words_anew later (false ∷ ms) o.inside) in
      let b = ap length o.line.whole ∙ length-append o.line.front (40 ∷ o.inside) in
      let c = word_counted later false ms true o.inside w o.begun.after o.begun.first in
      omega arith

-- behind the words that the renaming looks at nothing changes
words_none : (later : List Name) (t : Bytes) → words_anew later [] t ≡ t
unfolding pieces_of joined piece_bytes
words_none later t = append-nil t

-- the word behind the first one, and so on
next : {free : Bool} {s w : Bytes} {behind : Bytes} (v : Bytes) (is : List Item) (b : Begins free s w (word v ∷ is) behind)
    → Begins false b.after v is behind
next {behind = behind} v is b = begins false b.after v b.items is behind b.listed b.rest

-- a word that was read is not too long
pub word_short : (w : Bytes) → Word w → length w ≤ max_word_bytes
word_short [] h = absurd h
word_short (b ∷ w) h = omega arith

-- a line that declares a node: its word and its name, where they stand, the new line, its length
module _ (s n : Bytes) (is : List Item) (e : line_items s ≡ just (word (bytes_of "node") ∷ word n ∷ is)) where
  node_open : Opened s (bytes_of "node") (word n ∷ is)
  node_open = opened s (bytes_of "node") (word n ∷ is) e

  node_name : Begins false node_open.begun.after n is node_open.line.behind
  node_name = next n is node_open.begun

  node_places : (first_word s ≡ bytes_of "node") × (first_word (after_word s) ≡ n)
  node_places =
      let a = opened_words s (bytes_of "node") (word n ∷ is) node_open in
      (a.0, ap first_word a.1 ∙ (word_places false node_open.begun.after n node_name.after node_name.first).0)

  node_anew : (later : List Name) → length (new_name later n) ≤ 24
      → line_items (joined piece_bytes (line_pieces later s)) ≡ just (word (bytes_of "node") ∷ word (new_name later n) ∷ is)
  unfolding node_words same item_list
  node_anew later h =
      opened_read s (bytes_of "node") (word n ∷ is) node_open later (true ∷ []) (more (word (new_name later n)) node_name.items) refl (omega arith)
      (word_anew later true [] false node_open.begun.after n node_name.after node_name.first 3 node_name.items node_open.line.behind h
      (rw (words_none later node_name.after) node_name.rest))
      ∙ ap (λ x. just (word (bytes_of "node") ∷ word (new_name later n) ∷ x)) node_name.listed

  node_counted : (later : List Name) → length (joined piece_bytes (line_pieces later s)) ≡ length s + 2 * marked later n
  unfolding node_words same
  node_counted later =
      let a = opened_counted s (bytes_of "node") (word n ∷ is) node_open later (true ∷ []) refl in
      let b = word_counted later true [] false node_open.begun.after n node_name.after node_name.first in
      let c = ap length (words_none later node_name.after) in
      omega arith

-- a line that declares a relationship: its word, its label and the two names, where they stand, the new line, its length
module _ (s k x y : Bytes) (is : List Item) (e : line_items s ≡ just (word (bytes_of "rel") ∷ word k ∷ word x ∷ word y ∷ is)) where
  rel_open : Opened s (bytes_of "rel") (word k ∷ word x ∷ word y ∷ is)
  rel_open = opened s (bytes_of "rel") (word k ∷ word x ∷ word y ∷ is) e

  rel_label : Begins false rel_open.begun.after k (word x ∷ word y ∷ is) rel_open.line.behind
  rel_label = next k (word x ∷ word y ∷ is) rel_open.begun

  rel_from_law : Begins false rel_label.after x (word y ∷ is) rel_open.line.behind
  rel_from_law = next x (word y ∷ is) rel_label

  rel_to : Begins false rel_from_law.after y is rel_open.line.behind
  rel_to = next y is rel_from_law

  rel_places : (first_word s ≡ bytes_of "rel") × (first_word (after_word s) ≡ k) × (first_word (after_word (after_word s)) ≡ x)
      × (first_word (after_word (after_word (after_word s))) ≡ y)
  rel_places =
      let a = opened_words s (bytes_of "rel") (word k ∷ word x ∷ word y ∷ is) rel_open in
      let b = word_places false rel_open.begun.after k rel_label.after rel_label.first in
      let c = word_places false rel_label.after x rel_from_law.after rel_from_law.first in
      let d = word_places false rel_from_law.after y rel_to.after rel_to.first in
      let f = ap after_word a.1 ∙ b.1 in
      let g = ap after_word f ∙ c.1 in
      (a.0, ap first_word a.1 ∙ b.0, ap first_word f ∙ c.0, ap first_word g ∙ d.0)

  rel_anew : (later : List Name) → length (new_name later x) ≤ 24 → length (new_name later y) ≤ 24
      → line_items (joined piece_bytes (line_pieces later s)) ≡ just (word (bytes_of "rel") ∷ word k ∷ word (new_name later x) ∷ word (new_name later y) ∷ is)
  unfolding node_words same item_list
  rel_anew later h i =
      let behind = rel_open.line.behind in
      let c : Rest 3 false (words_anew later (true ∷ []) rel_from_law.after) (more (word (new_name later y)) rel_to.items) behind =
      word_anew later true [] false rel_from_law.after y rel_to.after rel_to.first 3 rel_to.items behind i
      (rw (words_none later rel_to.after) rel_to.rest) in
      let b = word_anew later true (true ∷ []) false rel_label.after x rel_from_law.after rel_from_law.first 3 _ behind h c in
      let a = word_anew later false (true ∷ true ∷ []) false rel_open.begun.after k rel_label.after rel_label.first 3 _ behind
      (word_short k rel_label.first.is_word) b in
      opened_read s (bytes_of "rel") (word k ∷ word x ∷ word y ∷ is) rel_open later (false ∷ true ∷ true ∷ []) _ refl (omega arith) a
      ∙ ap (λ z. just (word (bytes_of "rel") ∷ word k ∷ word (new_name later x) ∷ word (new_name later y) ∷ z)) rel_to.listed

  rel_counted : (later : List Name) → length (joined piece_bytes (line_pieces later s)) ≡ length s + 2 * (marked later x + marked later y)
  unfolding node_words same
  rel_counted later =
      let a = opened_counted s (bytes_of "rel") (word k ∷ word x ∷ word y ∷ is) rel_open later (false ∷ true ∷ true ∷ []) refl in
      let b = word_counted later false (true ∷ true ∷ []) false rel_open.begun.after k rel_label.after rel_label.first in
      let c = word_counted later true (true ∷ []) false rel_label.after x rel_from_law.after rel_from_law.first in
      let d = word_counted later true [] false rel_from_law.after y rel_to.after rel_to.first in
      let f = ap length (words_none later rel_to.after) in
      omega arith

-- another line: its first item is its first word
other_line : (s w : Bytes) (is : List Item) → line_items s ≡ just (word w ∷ is) → first_word s ≡ w
other_line s w is e = (opened_words s w is (opened s w is e)).0

-- it stays
other_stays : (later : List Name) (s w : Bytes) → first_word s ≡ w → same w (bytes_of "node") ≡ false → same w (bytes_of "rel") ≡ false
    → joined piece_bytes (line_pieces later s) ≡ s
unfolding node_words
other_stays later s w e p q = no_node_word later s (rw (e, p, q) refl)

-- what it says stays, and it gets no `_b`
says_same : (later : List Name) (x : BookLine) → NamesNone x → says_anew later x ≡ x
unfolding says_anew
says_same later (vattr n k) h = refl
says_same later (eattr n k) h = refl
says_same later (label n) h = refl
says_same later (node n es) h = absurd h
says_same later (rel k x y es) h = absurd h

no_marks : (later : List Name) (x : BookLine) → NamesNone x → marks_of later x ≡ 0
unfolding marks_of
no_marks later (vattr n k) h = refl
no_marks later (eattr n k) h = refl
no_marks later (label n) h = refl
no_marks later (node n es) h = absurd h
no_marks later (rel k x y es) h = absurd h

-- a line with new names says what it said, with new names
pub line_anew_law : (later : List Name) (l : Line) (x : BookLine) → and_then (form_of l) book_line ≡ just x → Short later x
    → and_then (form_of (line_anew later l)) book_line ≡ just (says_anew later x)
unfolding says_anew
line_anew_law later l x e h = let r = line_read l x e in go r.0 r.1 r.2 (says r.0 x r.3)
  where
    go : (js : List Item) → l.ended ≡ true → line_items l.bytes ≡ just js → Says js x
        → and_then (form_of (line_anew later l)) book_line ≡ just (says_anew later x)
    go js f i (of_node n es is p q a b) =
        let j = node_anew l.bytes n is (i ∙ ap just p) later (subst (Short later) q h) in
        read_line (line_anew later l) (node (new_name later n) es) _ f j (node_said (new_name later n) es is (new_name_law later n a) b)
        ∙ ap (λ z. just (says_anew later z)) (sym q)
    go js f i (of_rel k u v es is p q a b c d) =
        let t : Short later (rel k u v es) = subst (Short later) q h in
        let j = rel_anew l.bytes k u v is (i ∙ ap just p) later t.0 t.1 in
        read_line (line_anew later l) (rel k (new_name later u) (new_name later v) es) _ f j
        (rel_said k (new_name later u) (new_name later v) es is a (new_name_law later u b) (new_name_law later v c) d)
        ∙ ap (λ z. just (says_anew later z)) (sym q)
    go js f i (of_other w is p a b c) =
        let s = other_stays later l.bytes w (other_line l.bytes w is (i ∙ ap just p)) a b in
        ap (λ z. and_then (form_of (record { bytes = z; ended = l.ended })) book_line) s ∙ e ∙ ap just (sym (says_same later x c))

-- it has 2 bytes more for each `_b`
pub line_counted : (later : List Name) (l : Line) (x : BookLine) → and_then (form_of l) book_line ≡ just x
    → length (joined piece_bytes (line_pieces later l.bytes)) ≡ length l.bytes + 2 * marks_of later x
unfolding marks_of
line_counted later l x e = let r = line_read l x e in go r.0 r.2 (says r.0 x r.3)
  where
    go : (js : List Item) → line_items l.bytes ≡ just js → Says js x
        → length (joined piece_bytes (line_pieces later l.bytes)) ≡ length l.bytes + 2 * marks_of later x
    go js i (of_node n es is p q a b) = node_counted l.bytes n is (i ∙ ap just p) later ∙ ap (λ z. length l.bytes + 2 * marks_of later z) (sym q)
    go js i (of_rel k u v es is p q a b c d) =
        rel_counted l.bytes k u v is (i ∙ ap just p) later ∙ ap (λ z. length l.bytes + 2 * marks_of later z) (sym q)
    go js i (of_other w is p a b c) =
        let s = ap length (other_stays later l.bytes w (other_line l.bytes w is (i ∙ ap just p)) a b) in
        let z = no_marks later x c in omega arith

-- of a line that declares a node the renaming looks at the word `node` and the name
pub node_words_law : (l : Line) (n : Name) (es : List Entry) → and_then (form_of l) book_line ≡ just (node n es)
    → (first_word l.bytes ≡ bytes_of "node") × (first_word (after_word l.bytes) ≡ n)
node_words_law l n es e = let r = line_read l (node n es) e in go r.0 r.2 (says r.0 (node n es) r.3)
  where
    go : (js : List Item) → line_items l.bytes ≡ just js → Says js (node n es)
        → (first_word l.bytes ≡ bytes_of "node") × (first_word (after_word l.bytes) ≡ n)
    go js i (of_node m fs is p q a b) = let c : m ≡ n = cc in let t = node_places l.bytes m is (i ∙ ap just p) in (t.0, t.1 ∙ c)
    go js i (of_rel k u v fs is p q a b c d) = let z : ◌≡◌ {A = ℕ} 0 1 = cc in absurd (omega arith)
    go js i (of_other w is p a b c) = absurd c

-- of one that declares a relationship at the word `rel`, the label and the names of the two nodes
pub rel_words : (l : Line) (k x y : Name) (es : List Entry) → and_then (form_of l) book_line ≡ just (rel k x y es)
    → (first_word l.bytes ≡ bytes_of "rel") × (first_word (after_word l.bytes) ≡ k) × (first_word (after_word (after_word l.bytes)) ≡ x)
    × (first_word (after_word (after_word (after_word l.bytes))) ≡ y)
rel_words l k x y es e = let r = line_read l (rel k x y es) e in go r.0 r.2 (says r.0 (rel k x y es) r.3)
  where
    go : (js : List Item) → line_items l.bytes ≡ just js → Says js (rel k x y es)
        → (first_word l.bytes ≡ bytes_of "rel") × (first_word (after_word l.bytes) ≡ k) × (first_word (after_word (after_word l.bytes)) ≡ x)
        × (first_word (after_word (after_word (after_word l.bytes))) ≡ y)
    go js i (of_node m fs is p q a b) = let z : ◌≡◌ {A = ℕ} 0 1 = cc in absurd (omega arith)
    go js i (of_rel j u v fs is p q a b c d) =
        let f : j ≡ k = cc in let g : u ≡ x = cc in let h : v ≡ y = cc in
        let t = rel_places l.bytes j u v is (i ∙ ap just p) in (t.0, t.1 ∙ f, t.2 ∙ g, t.3 ∙ h)
    go js i (of_other w is p a b c) = absurd c

-- of any other line it sees that it names no node
pub other_words : (l : Line) (x : BookLine) → and_then (form_of l) book_line ≡ just x → NamesNone x
    → (same (first_word l.bytes) (bytes_of "node") ≡ false) × (same (first_word l.bytes) (bytes_of "rel") ≡ false)
other_words l x e h = let r = line_read l x e in go r.0 r.2 (says r.0 x r.3)
  where
    go : (js : List Item) → line_items l.bytes ≡ just js → Says js x
        → (same (first_word l.bytes) (bytes_of "node") ≡ false) × (same (first_word l.bytes) (bytes_of "rel") ≡ false)
    go js i (of_node n fs is p q a b) = absurd (subst NamesNone q h)
    go js i (of_rel k u v fs is p q a b c d) = absurd (subst NamesNone q h)
    go js i (of_other w is p a b c) =
        let f = other_line l.bytes w is (i ∙ ap just p) in (ap (λ z. same z (bytes_of "node")) f ∙ a, ap (λ z. same z (bytes_of "rel")) f ∙ b)
