-- What an accepted book holds, by any rule for node names: no two of them are taken for the same, none is too long, and relationships join its nodes.
use Prim.Native.Nat.{ℕ, suc, ◌+◌, ◌<◌, ◌≤◌}
use mathlib.Core.Path.{◌≡◌, refl, sym, subst, ◌∙◌}
use mathlib.Core.Logic.{⊎_elim}
use mathlib.Core.List.Memᴰ.{append_cases}
use mathlib.Core.List.Memᴰ.{eq_of_singleton}
use mathlib.Core.List.{List, [], ◌∷◌, ◌++◌, map}
use mathlib.Core.Bool.{true, false, not, ◌||◌}
use native.Mathlib.Omega.{arith}
use lib.ListN.{length, get_or, length-append, get_or-append}
use lib.Seq.{get_or_at}
use lib.Dec.{T, ltb, ltb→lt, nltb→le, not_T}
use Rattle.model.specs.Bytes.{Bytes, bytes_of, same}
use Rattle.model.specs.Choice.{nothing, just, and_then}
use Rattle.model.specs.Limits.{max_word_bytes, max_book_bytes}
use Rattle.model.specs.Lists.{any, all}
use Rattle.model.specs.Names.{Name, mem, twice, place, lowered, same_but_case}
use Rattle.model.specs.Refusal.{accepted, refusal}
use Rattle.model.specs.Lines.{Line, lines_of, Step, fault, known, step_then, read_lines}
use Rattle.model.specs.Values.{Entry}
use Rattle.model.specs.Items.{Item, word, line_items}
use Rattle.model.specs.Forms.{form_of}
use Rattle.model.specs.Book.{Node, Rel, Book, empty_book, node_names}
use Rattle.model.specs.BookLines.{label, BookLine, vattr, eattr, node, rel, book_line}
use Rattle.model.specs.ReadBook.{NamesAlike, undeclared, node_faults, node_fault, rel_faults, rel_fault, line_fault, add_line, book_step, read_book_by, read_book}
use Rattle.model.proofs.Decides.{or_l, or_r, not_e, same→eq, same_refl}
use Rattle.model.proofs.Members.{◌∈◌, test, is_false, any_i, mem_e}
use Rattle.model.proofs.Places.{length_map, map_append, at_place, get_or_in}
use Rattle.renaming.proofs.RenamedLines.{word_short}
use Rattle.renaming.proofs.RenamedItems.{begins, one_list}
use Rattle.renaming.proofs.RenamedForms.{Says, of_node, of_rel, of_other, says, line_read}
use Rattle.model.proofs.Outcomes.{never, BytesAccepted, bytes_accepted, form_e, fault_e, no_fault, lines_inv}

-- a line that was read: what it says, without a fault, and the book with it
pub record LineRead (alike : NamesAlike) (b : Book) (l : Line) (y : Book) : Type 0 where
  pub says : BookLine
  pub has_form : and_then (form_of l) book_line ≡ just says
  pub faultless : line_fault alike b says ≡ nothing
  pub gives : add_line b says ≡ y

-- a line that gives a book was so read
pub step_read : (alike : NamesAlike) (b : Book) (l : Line) (y : Book) → book_step alike b l ≡ known y → LineRead alike b l y
unfolding book_step
step_read alike b l y e =
    let r = form_e (and_then (form_of l) book_line) _ y e in
    let f = fault_e (line_fault alike b r.0) (add_line b r.0) y r.2 in
    record { says = r.0; has_form = r.1; faultless = f.0; gives = f.1 }

-- lines that are read: the first is, and then the others
pub first_read : (alike : NamesAlike) (n : ℕ) (b : Book) (l : Line) (ls : List Line) (y : Book) → read_lines 1 (book_step alike) n b (l ∷ ls) ≡ accepted y
    → (z : Book) × (book_step alike b l ≡ known z) × (read_lines 1 (book_step alike) (n + 1) z ls ≡ accepted y)
unfolding read_lines step_then refusal
first_read alike n b l ls y e = go (book_step alike b l) refl e
  where
    go : (s : Step Book) → book_step alike b l ≡ s → step_then s 1 n (λ z. read_lines 1 (book_step alike) (n + 1) z ls) ≡ accepted y
        → (z : Book) × (book_step alike b l ≡ known z) × (read_lines 1 (book_step alike) (n + 1) z ls ≡ accepted y)
    go (fault k) d e = never _ y e
    go (known z) d e = (z, d, e)

-- lines that are read all end in a line feed
pub all_ended : (alike : NamesAlike) (n : ℕ) (b : Book) (ls : List Line) (y : Book) → read_lines 1 (book_step alike) n b ls ≡ accepted y
    → all (λ l. l.ended) ls ≡ true
unfolding all
all_ended alike n b [] y e = refl
all_ended alike n b (l ∷ ls) y e =
    let (z, d, f) = first_read alike n b l ls y e in
    let r = step_read alike b l z d in
    rw (line_read l r.says r.has_form).1 (all_ended alike (n + 1) z ls y f)

-- no node's name is too long
node_short : (l : Line) (n : Name) (es : List Entry) → and_then (form_of l) book_line ≡ just (node n es) → length n ≤ max_word_bytes
node_short l n es e = let r = line_read l (node n es) e in go r.0 r.2 (says r.0 (node n es) r.3)
  where
    go : (js : List Item) → line_items l.bytes ≡ just js → Says js (node n es) → length n ≤ max_word_bytes
    go js e (of_node m fs is d x h f) =
        let o = one_list l.bytes js e in
        let first = begins true o.0 (bytes_of "node") o.1 (word m ∷ is) o.2.behind (o.3 ∙ d) o.2.rest in
        let second = begins false first.after m first.items is o.2.behind first.listed first.rest in
        let k : n ≡ m = cc in
        rw k (word_short m second.first.is_word)
    go js e (of_rel k a b fs is d x g h i f) = let z : ◌≡◌ {A = ℕ} 0 1 = cc in absurd (omega arith)
    go js e (of_other w is d p q h) = absurd h

-- the lines of an accepted book are read, its bytes are allowed and not too many
pub book_bytes : (alike : NamesAlike) (s : Bytes) (b : Book) → read_book_by alike s ≡ accepted b
    → BytesAccepted max_book_bytes s (read_lines 1 (book_step alike) 1 empty_book (lines_of s)) b
unfolding read_book_by
book_bytes alike s b e = bytes_accepted 1 max_book_bytes (λ l. l) s _ b e

-- no two names of a list are taken for the same
abbrev pub Apart : NamesAlike → List Name → Type 0
Apart alike names = (i j : ℕ) → i < j → j < length names → T (alike (get_or names j []) (get_or names i [])) → ⊥

-- a name behind them that is like none of them
apart_more : (alike : NamesAlike) (names : List Name) (n : Name) → (T (any (alike n) names) → ⊥) → Apart alike names → Apart alike (names ++ (n ∷ []))
apart_more alike names n new apart i j l k t = ⊎_elim
    (λ h. let u = ltb→lt j (length names) h in
    let v : i < length names = omega arith in
    apart i j l u (rw (get_or-append names (n ∷ []) [] j u, get_or-append names (n ∷ []) [] i v) at t))
    (λ h. let u : length names ≡ j = omega (arith, length-append names (n ∷ []), behind h) in
    let v : i < length names = omega arith in
    new (any_i (alike n) names (get_or names i []) (get_or_in names i [] v)
    (rw (get_or_at names n [] [] j u, get_or-append names (n ∷ []) [] i v) at t)))
    (test (ltb j (length names)))
  where
    behind : (T (ltb j (length names)) → ⊥) → length names ≤ j
    behind h = nltb→le j (length names) (not_T (ltb j (length names)) h)

-- the ends of a relationship are nodes of the book
abbrev pub EndsIn : Book → Rel → Type 0
EndsIn b r = (r.from < length b.nodes) × (r.to < length b.nodes)

-- what a book holds after each line
pub record BookHolds (alike : NamesAlike) (b : Book) : Type 0 where
  pub apart : Apart alike (node_names b)
  pub ends : (r : Rel) → r ∈ b.rels → EndsIn b r
  pub short : (n : Name) → n ∈ node_names b → length n ≤ max_word_bytes

-- the names with a node more
pub names_with : (b : Book) (n : Name) (es : List Entry) → node_names (add_line b (node n es)) ≡ node_names b ++ (n ∷ [])
unfolding add_line node_names
names_with b n es = map_append (λ (z : Node). z.name) b.nodes _

-- as many names as nodes
pub names_length : (b : Book) → length (node_names b) ≡ length b.nodes
unfolding node_names
names_length b = length_map (λ (z : Node). z.name) b.nodes

-- a node line without a fault: its name is like none above
pub node_new : (alike : NamesAlike) (b : Book) (n : Name) (es : List Entry) → line_fault alike b (node n es) ≡ nothing → T (any (alike n) (node_names b)) → ⊥
unfolding line_fault node_fault
node_new alike b n es e t = ((no_fault (node_faults alike b n es)).0 e).1.0 (or_l (any (alike n) (node_names b)) _ t)

-- a relationship's line without a fault: its ends are declared above
pub rel_declared : (alike : NamesAlike) (b : Book) (l x y : Name) (es : List Entry) → line_fault alike b (rel l x y es) ≡ nothing
    → (x ∈ node_names b) × (y ∈ node_names b)
unfolding line_fault rel_fault
rel_declared alike b l x y es e =
    let no-4 = ((no_fault (rel_faults b l x y es)).0 e).0 in
    let L = not (mem l b.labels) in
    let X = not (mem x (node_names b)) in
    let Y = not (mem y (node_names b)) in
    let U = undeclared b.eattrs es in (
      mem_e x (node_names b) (not_e (mem x (node_names b)) (λ t. no-4 (or_l (L || X || Y) U (or_l (L || X) Y (or_r L X t))))),
      mem_e y (node_names b) (not_e (mem y (node_names b)) (λ t. no-4 (or_l (L || X || Y) U (or_r (L || X) Y t)))),
    )

-- a line that is read keeps it
pub holds_more : (alike : NamesAlike) (b : Book) (l : Line) (y : Book) → book_step alike b l ≡ known y → BookHolds alike b → BookHolds alike y
unfolding add_line node_names
holds_more alike b l y e h =
    let r = step_read alike b l y e in
    subst (BookHolds alike) r.gives (go r.says r.faultless r.has_form)
  where
    go : (x : BookLine) → line_fault alike b x ≡ nothing → and_then (form_of l) book_line ≡ just x → BookHolds alike (add_line b x)
    go (vattr n k) f w = record { apart = h.apart; ends = h.ends; short = h.short }
    go (eattr n k) f w = record { apart = h.apart; ends = h.ends; short = h.short }
    go (label n) f w = record { apart = h.apart; ends = h.ends; short = h.short }
    go (node n es) f w = record {
      apart = subst (Apart alike) (sym (names_with b n es)) (apart_more alike (node_names b) n (node_new alike b n es f) h.apart);
      ends = λ r m. let u = h.ends r m in let k = length-append b.nodes (record { name = n; entries = es } ∷ []) in (omega arith, omega arith);
      short = λ x m. ⊎_elim (h.short x) (λ k. subst (λ (z : Name). length z ≤ max_word_bytes) (sym (eq_of_singleton k)) (node_short l n es w))
          (append_cases (node_names b) (subst (λ l. x ∈ l) (names_with b n es) m));
    }
    go (rel k x y es) f w = record {
      apart = h.apart;
      ends = λ r m. ⊎_elim (h.ends r) (λ k. subst (EndsIn b) (sym (eq_of_singleton k)) within) (append_cases b.rels m);
      short = h.short;
    }
      where
        within : (place x (node_names b) < length b.nodes) × (place y (node_names b) < length b.nodes)
        within =
            let d = rel_declared alike b k x y es f in
            let u = at_place (node_names b) x d.0 in
            let v = at_place (node_names b) y d.1 in
            let n = names_length b in
            (omega (arith, u.0), omega (arith, v.0))

-- a book of no lines holds it
pub holds_empty : (alike : NamesAlike) → BookHolds alike empty_book
unfolding empty_book node_names
holds_empty alike = record { apart = λ i j l k. absurd (omega arith); ends = λ r m. elim m [ ]; short = λ n m. elim m [ ] }

-- an accepted book holds it
pub book_holds : (alike : NamesAlike) (s : Bytes) (b : Book) → read_book_by alike s ≡ accepted b → BookHolds alike b
book_holds alike s b e = lines_inv (BookHolds alike) 1 (book_step alike) (holds_more alike) 1 empty_book (lines_of s) b (book_bytes alike s b e).rest
    (holds_empty alike)

-- names that are apart stand once
apart_once : (names : List Name) → Apart same names → twice names ≡ false
unfolding twice
apart_once [] h = refl
apart_once (n ∷ names) h = rw (is_false (mem n names) (λ t. again (at_place names n (mem_e n names t))))
    (apart_once names (λ i j l k. h (suc i) (suc j) (omega arith) (omega arith)))
  where
    again : (place n names < length names) × (get_or names (place n names) [] ≡ n) → ⊥
    again (l, e) = h 0 (suc (place n names)) (omega arith) (omega arith) (rw e (same_refl n))

-- no two node names of a book read by the very names are the same
pub names_unique : (s : Bytes) (b : Book) → read_book_by same s ≡ accepted b → twice (node_names b) ≡ false
names_unique s b e = apart_once (node_names b) (book_holds same s b e).apart

-- no two of a book read by a rule are alike by it, if it does not ask for an order
pub names_apart : (alike : NamesAlike) → ((m n : Name) → T (alike m n) → T (alike n m)) → (s : Bytes) (b : Book) → read_book_by alike s ≡ accepted b
    → (i j : ℕ) → i < j → j < length (node_names b) → alike (get_or (node_names b) i []) (get_or (node_names b) j []) ≡ false
names_apart alike turned s b e i j l k = is_false _ (λ t. (book_holds alike s b e).apart i j l k (turned _ _ t))

-- so no two of a book read by the very names are the same
pub names_differ : (s : Bytes) (b : Book) → read_book_by same s ≡ accepted b
    → (i j : ℕ) → i < j → j < length (node_names b) → same (get_or (node_names b) i []) (get_or (node_names b) j []) ≡ false
names_differ s b e = names_apart same (λ m n t. rw (same→eq m n t) (same_refl n)) s b e

-- a name equal to another but for case: the other is to it
pub case_turned : (m n : Name) → T (same_but_case m n) → T (same_but_case n m)
unfolding same_but_case
case_turned m n t = rw (same→eq (map lowered m) (map lowered n) t) (same_refl (map lowered n))

-- no two node names of an accepted book are equal but for case
pub accepted_apart : (s : Bytes) (b : Book) → read_book s ≡ accepted b
    → (i j : ℕ) → i < j → j < length (node_names b) → same_but_case (get_or (node_names b) i []) (get_or (node_names b) j []) ≡ false
unfolding read_book
accepted_apart s b e = names_apart same_but_case case_turned s b e

-- both ends of each relationship of an accepted book are nodes of it
pub ends_are_nodes : (alike : NamesAlike) (s : Bytes) (b : Book) → read_book_by alike s ≡ accepted b → (r : Rel) → r ∈ b.rels → EndsIn b r
ends_are_nodes alike s b e = (book_holds alike s b e).ends
