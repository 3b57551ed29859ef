-- How long a renamed book is: two bytes more for each place where a node is named by a later name.
use Prim.Native.Nat.{ℕ, ◌+◌, ◌*◌, ◌<◌}
use mathlib.Core.Path.{◌≡◌, refl, sym, ap, ◌∙◌}
use mathlib.Core.List.Memᴰ
use mathlib.Core.List.{List, [], ◌∷◌, ◌++◌, map}
use native.Mathlib.Omega.{arith}
use lib.ListN.{length, get_or, get_or-append}
use Rattle.model.specs.Bytes.{Bytes, same}
use Rattle.model.specs.Choice.{pick, nothing}
use Rattle.model.specs.Lists.{sum}
use Rattle.model.specs.Names.{Name, place}
use Rattle.model.specs.Refusal.{accepted}
use Rattle.model.specs.Lines.{Line, lines_of, read_lines}
use Rattle.model.specs.Book.{Node, Rel, Book, empty_book, node_names}
use Rattle.model.specs.BookLines.{label, BookLine, vattr, eattr, node, rel}
use Rattle.model.specs.ReadBook.{NamesAlike, line_fault, add_line, book_step, read_book_by}
use Rattle.model.specs.Renaming.{renamed}
use Rattle.renaming.proofs.RenamedParts.{line_anew, marked, marks_of}
use Rattle.model.proofs.Members.{◌∈◌}
use Rattle.model.proofs.Places.{at_place}
use Rattle.renaming.proofs.AcceptedBook.{BookHolds, EndsIn, step_read, first_read, book_bytes}
use Rattle.renaming.proofs.AcceptedBook.{names_with, names_length, rel_declared, holds_more, holds_empty}
use Rattle.renaming.proofs.RenamedText.{length_lines, length_anew}
use Rattle.renaming.proofs.RenamedLines.{line_counted}

-- how many places of the nodes and of the relationships name a node by one of these names
unfoldable pub places_in : List Name → Book → ℕ
places_in later b =
    sum (map (λ n. marked later n.name) b.nodes)
    + sum (map (λ r. marked later (get_or (node_names b) r.from []) + marked later (get_or (node_names b) r.to [])) b.rels)

-- the sum of a list with a number more
pub sum_more : {A : Type 0} (f : A → ℕ) (l : List A) (x : A) → sum (map f (l ++ (x ∷ []))) ≡ sum (map f l) + f x
unfolding sum
sum_more f [] x = omega arith
sum_more f (y ∷ l) x = let r = sum_more f l x in omega arith

-- numbers that agree on the elements have one sum
sum_same : {A : Type 0} (f g : A → ℕ) (l : List A) → ((x : A) → x ∈ l → f x ≡ g x) → sum (map f l) ≡ sum (map g l)
unfolding sum
sum_same f g [] h = refl
sum_same f g (x ∷ l) h = let a = h x (Memᴰ.head refl) in let r = sum_same f g l (λ y m. h y (Memᴰ.tail m)) in omega arith

-- a line that was read adds the places it has
places_more : (later : List Name) (alike : NamesAlike) (b : Book) (x : BookLine) → BookHolds alike b → line_fault alike b x ≡ nothing
    → places_in later (add_line b x) ≡ places_in later b + marks_of later x
unfolding places_in add_line marks_of node_names
places_more later alike b (vattr n k) h f = omega arith
places_more later alike b (eattr n k) h f = omega arith
places_more later alike b (label n) h f = omega arith
places_more later alike b (node n es) h f =
    let made : Node = record { name = n; entries = es } in
    let p = sum_more (λ (z : Node). marked later z.name) b.nodes made in
    let q = sum_same (ends (node_names (add_line b (node n es)))) (ends (node_names b)) b.rels (λ r m. kept r (h.ends r m)) in
    omega arith
  where
    ends : List Name → Rel → ℕ
    ends names r = marked later (get_or names r.from []) + marked later (get_or names r.to [])

    stays : (i : ℕ) → i < length b.nodes → get_or (node_names (add_line b (node n es))) i [] ≡ get_or (node_names b) i []
    stays i l = let k : i < length (node_names b) = omega (arith, names_length b) in
        ap (λ z. get_or z i []) (names_with b n es) ∙ get_or-append (node_names b) (n ∷ []) [] i k

    kept : (r : Rel) → EndsIn b r → ends (node_names (add_line b (node n es))) r ≡ ends (node_names b) r
    kept r (l, k) = rw (stays r.from l, stays r.to k) refl
places_more later alike b (rel l x y es) h f =
    let d = rel_declared alike b l x y es f in
    let made : Rel = record { label = l; from = place x (node_names b); to = place y (node_names b); entries = es } in
    let p = sum_more (λ (r : Rel). marked later (get_or (node_names b) r.from []) + marked later (get_or (node_names b) r.to [])) b.rels made in
    let u = ap (marked later) (at_place (node_names b) x d.0).1 in
    let v = ap (marked later) (at_place (node_names b) y d.1).1 in
    omega arith

-- the bytes of a line with its line feed
abbrev line_size : Line → ℕ
line_size l = length l.bytes + pick l.ended 1 0

-- lines that are read: the new ones are longer by two bytes for each place that they add
lines_counted : (later : List Name) (alike : NamesAlike) (n : ℕ) (b : Book) (ls : List Line) (y : Book) → BookHolds alike b
    → read_lines 1 (book_step alike) n b ls ≡ accepted y
    → sum (map (λ l. line_size (line_anew later l)) ls) + 2 * places_in later b ≡ sum (map line_size ls) + 2 * places_in later y
unfolding read_lines sum
lines_counted later alike n b [] y h e = let d : b ≡ y = cc in ap (λ z. 0 + 2 * places_in later z) d
lines_counted later alike n b (l ∷ ls) y h e =
    let (z, d, f) = first_read alike n b l ls y e in
    let r = step_read alike b l z d in
    let c = line_counted later l r.says r.has_form in
    let p = ap (places_in later) (sym r.gives) ∙ places_more later alike b r.says h r.faultless in
    let i = lines_counted later alike (n + 1) z ls y (holds_more alike b l z d h) f in
    omega arith

-- a book of no lines has no place
places_empty : (later : List Name) → places_in later empty_book ≡ 0
unfolding places_in empty_book sum
places_empty later = refl

-- the length of a renamed book
pub counted : (s : Bytes) (b : Book) (later : List Name) → read_book_by same s ≡ accepted b → length (renamed later s) ≡ length s + 2 * places_in later b
counted s b later e =
    let n = length_anew later s in
    let o = length_lines s in
    let c = lines_counted later same 1 empty_book (lines_of s) b (holds_empty same) (book_bytes same s b e).rest in
    let z = places_empty later in
    omega arith
