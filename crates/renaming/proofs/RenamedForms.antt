-- The items of a line of the book, by what the line says; names with `_b` behind them are names.
use Prim.Native.Nat.{ℕ}
use mathlib.Core.Path.{◌≡◌, refl, sym, ap, subst, ◌∙◌}
use mathlib.Core.Logic.{⊎_elim}
use mathlib.Core.List.{List, [], ◌∷◌, ◌++◌}
use mathlib.Core.Bool.{Bool, true, false, not}
use lib.Dec.{T, eqb, T_not}
use Rattle.model.specs.Bytes.{Bytes, bytes_of, same}
use Rattle.model.specs.Choice.{pick, Maybe, nothing, just, and_then}
use Rattle.model.specs.Lists.{any, each}
use Rattle.model.specs.Names.{Name, mem}
use Rattle.model.specs.Values.{Kind, Entry}
use Rattle.model.specs.Items.{Item, word, whole, text, quoted, list, line_items}
use Rattle.model.specs.Lines.{Line}
use Rattle.model.specs.Forms.{as_word, never_names, name_of, as_name, kind_of, first, at_end, entry_of, form_of}
use Rattle.model.specs.BookLines.{BookLine, vattr, eattr, label, node, rel, attr_line, label_line, node_line, rel_line, book_line}
use Rattle.model.specs.Renaming.{suffix, new_name}
use Rattle.model.proofs.Decides.{same→eq}
use Rattle.model.proofs.Members.{test, is_true, is_false}
use Rattle.model.proofs.Outcomes.{no_just, then_e}

-- a line that names no node
abbrev pub NamesNone : BookLine → Type 0
NamesNone (vattr n k) = Unit {0}
NamesNone (eattr n k) = Unit {0}
NamesNone (label n) = Unit {0}
NamesNone (node n es) = ⊥
NamesNone (rel l x y es) = ⊥

-- the items of a line, by what it says: the word `node` or `rel`, the names and the attributes; or another word, and no node is named
pub data Says (js : List Item) (x : BookLine) : Type 0 where
  of_node : (n : Name) (es : List Entry) (is : List Item) → js ≡ word (bytes_of "node") ∷ word n ∷ is → x ≡ node n es → name_of n ≡ just n
      → each entry_of is ≡ just es → Says js x
  of_rel : (k a b : Name) (es : List Entry) (is : List Item) → js ≡ word (bytes_of "rel") ∷ word k ∷ word a ∷ word b ∷ is → x ≡ rel k a b es → name_of k ≡ just k
      → name_of a ≡ just a → name_of b ≡ just b → each entry_of is ≡ just es → Says js x
  of_other : (w : Bytes) (is : List Item) → js ≡ word w ∷ is → same w (bytes_of "node") ≡ false → same w (bytes_of "rel") ≡ false → NamesNone x → Says js x

-- the first item that was read, and the rest
first_e : {A B : Type 0} (read : Item → Maybe A) (is : List Item) (f : A → List Item → Maybe B) (y : B) → first read is f ≡ just y
    → (i : Item) × (js : List Item) × (a : A) × (is ≡ i ∷ js) × (read i ≡ just a) × (f a js ≡ just y)
unfolding first
first_e read [] f y e = no_just y e
first_e read (i ∷ is) f y e = let r = then_e (read i) (λ a. f a is) y e in (i, is, r.0, refl, r.1, r.2)

-- an item that is a word, and a word that is a name
as_word_e : (i : Item) (w : Bytes) → as_word i ≡ just w → i ≡ word w
unfolding as_word
as_word_e (word v) w e = let d : v ≡ w = cc in ap word d
as_word_e (whole n) w e = no_just w e
as_word_e (text t) w e = no_just w e
as_word_e (quoted t) w e = no_just w e
as_word_e (list is) w e = no_just w e

name_of_e : (w n : Bytes) → name_of w ≡ just n → w ≡ n
unfolding name_of
name_of_e w n e = go (mem w never_names) e
  where
    go : (c : Bool) → pick c nothing (just w) ≡ just n → w ≡ n
    go true e = no_just n e
    go false e = cc

-- a first item that is a name, and the rest
first_name : {B : Type 0} (is : List Item) (f : Name → List Item → Maybe B) (y : B) → first as_name is f ≡ just y
    → (n : Name) × (js : List Item) × (is ≡ word n ∷ js) × (name_of n ≡ just n) × (f n js ≡ just y)
unfolding as_name
first_name is f y e =
    let r = first_e as_name is f y e in
    let q = then_e (as_word r.0) name_of r.2 r.4 in
    let c = name_of_e q.0 r.2 q.2 in
    (r.2, r.1, r.3 ∙ ap (λ i. i ∷ r.1) (as_word_e r.0 q.0 q.1 ∙ ap word c), ap name_of (sym c) ∙ q.2, r.5)

-- what is said where nothing is left
at_end_e_law2 : {A : Type 0} (is : List Item) (a b : A) → at_end is a ≡ just b → a ≡ b
unfolding at_end
at_end_e_law2 [] a b e = cc
at_end_e_law2 (i ∷ is) a b e = no_just b e

-- lines that declare an attribute or a label name no node
attr_names_none : (make : Name → Kind → BookLine) → ((n : Name) (k : Kind) → NamesNone (make n k)) → (is : List Item) (x : BookLine)
    → attr_line make is ≡ just x → NamesNone x
unfolding attr_line
attr_names_none make h is x e =
    let r = first_name is (λ n is. first (λ i. and_then (as_word i) kind_of) is (λ k is. at_end is (make n k))) x e in
    let q = first_e (λ i. and_then (as_word i) kind_of) r.1 (λ k is. at_end is (make r.0 k)) x r.4 in
    subst NamesNone (at_end_e_law2 q.1 (make r.0 q.2) x q.5) (h r.0 q.2)

label_names_none : (is : List Item) (x : BookLine) → label_line is ≡ just x → NamesNone x
unfolding label_line
label_names_none is x e =
    let r = first_name is (λ n is. at_end is (label n)) x e in subst NamesNone (at_end_e_law2 r.1 (label r.0) x r.4) tt

-- the attributes of a node or a relationship
entries_e : (is : List Item) (f : List Entry → BookLine) (x : BookLine) → and_then (each entry_of is) (λ es. just (f es)) ≡ just x
    → (es : List Entry) × (each entry_of is ≡ just es) × (x ≡ f es)
entries_e is f x e = let r = then_e (each entry_of is) (λ es. just (f es)) x e in
    let g : just (f r.0) ≡ just x = r.2 in let d : f r.0 ≡ x = cc in (r.0, r.1, sym d)

-- the items of each kind of line, by its first word
node_says : (is : List Item) (x : BookLine) → node_line is ≡ just x → Says (word (bytes_of "node") ∷ is) x
unfolding node_line
node_says is x e =
    let r = first_name is (λ n is. and_then (each entry_of is) (λ es. just (node n es))) x e in
    let q = entries_e r.1 (node r.0) x r.4 in
    of_node r.0 q.0 r.1 (ap (λ js. word (bytes_of "node") ∷ js) r.2) q.2 r.3 q.1

rel_says : (is : List Item) (x : BookLine) → rel_line is ≡ just x → Says (word (bytes_of "rel") ∷ is) x
unfolding rel_line
rel_says is x e =
    let r = first_name is (λ l is. first as_name is (λ a is. first as_name is (λ b is. and_then (each entry_of is) (λ es. just (rel l a b es))))) x e in
    let p = first_name r.1 (λ a is. first as_name is (λ b is. and_then (each entry_of is) (λ es. just (rel r.0 a b es)))) x r.4 in
    let o = first_name p.1 (λ b is. and_then (each entry_of is) (λ es. just (rel r.0 p.0 b es))) x p.4 in
    let q = entries_e o.1 (rel r.0 p.0 o.0) x o.4 in
    of_rel r.0 p.0 o.0 q.0 o.1
    (ap (λ js. word (bytes_of "rel") ∷ js) r.2 ∙ ap (λ js. word (bytes_of "rel") ∷ word r.0 ∷ js) p.2
    ∙ ap (λ js. word (bytes_of "rel") ∷ word r.0 ∷ word p.0 ∷ js) o.2)
    q.2 r.3 p.3 o.3 q.1

other_says : (v w : Bytes) (is : List Item) (x : BookLine) → T (same w v) → same v (bytes_of "node") ≡ false → same v (bytes_of "rel") ≡ false → NamesNone x
    → Says (word w ∷ is) x
other_says v w is x t p q h = let c = same→eq w v t in of_other w is refl (ap (λ z. same z (bytes_of "node")) c ∙ p) (ap (λ z. same z (bytes_of "rel")) c ∙ q) h

word_says : (w : Bytes) (is : List Item) (x : BookLine) → book_line (word w ∷ is) ≡ just x → Says (word w ∷ is) x
unfolding book_line first as_word and_then same
word_says w is x e =
    let r = pick (same w (bytes_of "rel")) (rel_line is) nothing in
    let n = pick (same w (bytes_of "node")) (node_line is) r in
    let l = pick (same w (bytes_of "label")) (label_line is) n in
    let a = pick (same w (bytes_of "eattr")) (attr_line eattr is) l in
    ⊎_elim (λ t. other_says (bytes_of "vattr") w is x t refl refl (attr_names_none vattr (λ n k. tt) is x (rw (is_true (same w (bytes_of "vattr")) t) at e)))
    (λ t. let f : a ≡ just x = rw (is_false (same w (bytes_of "vattr")) t) at e in
    ⊎_elim (λ t. other_says (bytes_of "eattr") w is x t refl refl (attr_names_none eattr (λ n k. tt) is x (rw (is_true (same w (bytes_of "eattr")) t) at f)))
    (λ t. let g : l ≡ just x = rw (is_false (same w (bytes_of "eattr")) t) at f in
    ⊎_elim (λ t. other_says (bytes_of "label") w is x t refl refl (label_names_none is x (rw (is_true (same w (bytes_of "label")) t) at g)))
    (λ t. let h : n ≡ just x = rw (is_false (same w (bytes_of "label")) t) at g in
    ⊎_elim (λ t. rw (same→eq w (bytes_of "node") t) (node_says is x (rw (is_true (same w (bytes_of "node")) t) at h)))
    (λ t. let k : r ≡ just x = rw (is_false (same w (bytes_of "node")) t) at h in
    ⊎_elim (λ t. rw (same→eq w (bytes_of "rel") t) (rel_says is x (rw (is_true (same w (bytes_of "rel")) t) at k)))
    (λ t. no_just x (rw (is_false (same w (bytes_of "rel")) t) at k))
    (test (same w (bytes_of "rel")))) (test (same w (bytes_of "node")))) (test (same w (bytes_of "label")))) (test (same w (bytes_of "eattr"))))
    (test (same w (bytes_of "vattr")))

-- what a line of the book is made of
pub says : (js : List Item) (x : BookLine) → book_line js ≡ just x → Says js x
unfolding book_line first as_word and_then
says [] x e = no_just x e
says (word w ∷ is) x e = word_says w is x e
says (whole n ∷ is) x e = no_just x e
says (text t ∷ is) x e = no_just x e
says (quoted t ∷ is) x e = no_just x e
says (list ks ∷ is) x e = no_just x e

-- and back: a node
pub node_said : (n : Name) (es : List Entry) (is : List Item) → name_of n ≡ just n → each entry_of is ≡ just es
    → book_line (word (bytes_of "node") ∷ word n ∷ is) ≡ just (node n es)
unfolding book_line node_line first as_word as_name and_then same
node_said n es is h e = rw (h, e) refl

-- a relationship
pub rel_said : (k a b : Name) (es : List Entry) (is : List Item) → name_of k ≡ just k → name_of a ≡ just a → name_of b ≡ just b → each entry_of is ≡ just es
    → book_line (word (bytes_of "rel") ∷ word k ∷ word a ∷ word b ∷ is) ≡ just (rel k a b es)
unfolding book_line rel_line first as_word as_name and_then same
rel_said k a b es is g h i e = rw (g, h, i, e) refl

-- the last byte of a text
abbrev last_byte : Bytes → ℕ
last_byte [] = 0
last_byte (b ∷ []) = b
last_byte (b ∷ c ∷ s) = last_byte (c ∷ s)

-- of a text with `_b` behind it that is b
last_behind : (n : Bytes) → last_byte (n ++ suffix) ≡ 98
last_behind [] = refl
last_behind (b ∷ []) = refl
last_behind (b ∷ c ∷ n) = last_behind (c ∷ n)

-- what ends in `_b` is no word that does not
not_same : (n w : Bytes) → T (not (eqb (last_byte w) 98)) → same (n ++ suffix) w ≡ false
not_same n w h = is_false (same (n ++ suffix) w)
    (λ t. T_not (eqb (last_byte w) 98) h (subst (λ z. T (eqb (last_byte z) 98)) (same→eq (n ++ suffix) w t) (rw (last_behind n) tt)))

-- a new name is a name: no word that is never one ends in `_b`
pub new_name_law : (later : List Name) (n : Name) → name_of n ≡ just n → name_of (new_name later n) ≡ just (new_name later n)
unfolding name_of new_name mem never_names any
new_name_law later n e = go (mem n later) e
  where
    go : (c : Bool) → name_of n ≡ just n → name_of (pick c (n ++ suffix) n) ≡ just (pick c (n ++ suffix) n)
    go true e = rw (
      not_same n (bytes_of "Match") tt,
      not_same n (bytes_of "Where") tt,
      not_same n (bytes_of "AND") tt,
      not_same n (bytes_of "Return") tt,
      not_same n (bytes_of "true") tt,
      not_same n (bytes_of "false") tt,
    ) refl
    go false e = e

-- a line that was read ends in a line feed and has items, and these say it
pub line_read : (l : Line) (x : BookLine) → and_then (form_of l) book_line ≡ just x
    → (js : List Item) × (l.ended ≡ true) × (line_items l.bytes ≡ just js) × (book_line js ≡ just x)
unfolding form_of
line_read l x e =
    let r = then_e (form_of l) book_line x e in let q = go l.ended r.0 r.1 in (r.0, q.0, q.1, r.2)
  where
    go : (t : Bool) (js : List Item) → pick t (line_items l.bytes) nothing ≡ just js → (t ≡ true) × (line_items l.bytes ≡ just js)
    go true js e = (refl, e)
    go false js e = no_just js e

-- and back
pub read_line : (l : Line) (x : BookLine) (js : List Item) → l.ended ≡ true → line_items l.bytes ≡ just js → book_line js ≡ just x
    → and_then (form_of l) book_line ≡ just x
unfolding form_of and_then
read_line l x js e h f = rw (e, h) f
