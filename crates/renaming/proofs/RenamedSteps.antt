-- The renamed lines are read as the old ones were: where the new names are apart and short, each gives the book that the old line gave, with new names.
use Prim.Native.Nat.{ℕ, suc, ◌+◌, ◌≤◌}
use mathlib.Core.Path.{◌≡◌, refl, sym, ap, ap₂, subst, ◌∙◌}
use mathlib.Core.Logic.{⊎_elim}
use mathlib.Core.List.Memᴰ
use mathlib.Core.List.{List, [], ◌∷◌, ◌++◌, map}
use mathlib.Core.Bool.{Bool, not, ◌||◌}
use lib.ListN.{length}
use lib.Dec.{T, T_not}
use Rattle.model.specs.Bytes.{same}
use Rattle.model.specs.Choice.{nothing}
use Rattle.model.specs.Limits.{max_word_bytes}
use Rattle.model.specs.Lists.{any, sum, place_where}
use Rattle.model.specs.Names.{Name, mem, twice, place, same_but_case}
use Rattle.model.specs.Refusal.{accepted}
use Rattle.model.specs.Lines.{Line, fault_or, form_step, step_then, known, read_lines}
use Rattle.model.specs.Values.{Entry}
use Rattle.model.specs.Book.{Node, Book, node_names, entry_count}
use Rattle.model.specs.BookLines.{label, BookLine, vattr, eattr, node, rel}
use Rattle.model.specs.ReadBook.{NamesAlike, undeclared, related, node_faults, node_fault, rel_faults, rel_fault, line_fault, add_line, book_step}
use Rattle.model.specs.Renaming.{new_name, new_node, with_new_names}
use Rattle.renaming.proofs.RenamedParts.{line_anew, says_anew, Short}
use Rattle.model.proofs.Decides.{or_l, or_r, or_cases, same→eq, same_refl}
use Rattle.model.proofs.Members.{◌∈◌, test, is_true, is_false, any_e, map_e, map_i, mem_i, same_tells, alike_i}
use Rattle.model.proofs.Places.{length_map, map_to, map_append}
use Rattle.model.proofs.Outcomes.{no_fault, lines_inv}
use Rattle.renaming.proofs.AcceptedBook.{step_read, first_read, names_with, node_new, rel_declared}
use Rattle.renaming.proofs.RenamedLines.{line_anew_law}

-- the names of the book with new names
pub names_anew : (later : List Name) (b : Book) → node_names (with_new_names later b) ≡ map (new_name later) (node_names b)
unfolding node_names with_new_names new_node
names_anew later b = map_to (λ (n : Node). n.name) (new_node later) (λ n. new_name later n.name) b.nodes (λ n m. refl)
    ∙ sym (map_to (new_name later) (λ (n : Node). n.name) (λ n. new_name later n.name) b.nodes (λ n m. refl))

-- as many entries as before
entries_anew : (later : List Name) (b : Book) → entry_count (with_new_names later b) ≡ entry_count b
unfolding entry_count with_new_names new_node
entries_anew later b = ap (λ l. sum l + sum (map (λ r. length r.entries) b.rels))
    (map_to (λ (n : Node). length n.entries) (new_node later) (λ n. length n.entries) b.nodes (λ n m. refl))

-- a name keeps its place where no other has its new name
place_anew : (f : Name → Name) (names : List Name) (x : Name) → ((y : Name) → y ∈ names → f x ≡ f y → x ≡ y) → place (f x) (map f names) ≡ place x names
unfolding place place_where
place_anew f [] x h = refl
place_anew f (y ∷ names) x h = ⊎_elim
    (λ t. let e = h y (Memᴰ.head refl) (same→eq (f x) (f y) t) in rw (is_true (same (f x) (f y)) t, is_true (same x y) (rw e (same_refl y))) refl)
    (λ t. rw (is_false (same (f x) (f y)) t, is_false (same x y) (λ u. t (rw (same→eq x y u) (same_refl (f y)))))
    (ap suc (place_anew f names x (λ z m. h z (Memᴰ.tail m)))))
    (test (same (f x) (f y)))

-- the names of the book, and those of the book with a line more
name_stays : (b : Book) (x : BookLine) (n : Name) → n ∈ node_names b → n ∈ node_names (add_line b x)
unfolding add_line node_names
name_stays b (vattr m k) n i = i
name_stays b (eattr m k) n i = i
name_stays b (label m) n i = i
name_stays b (node m es) n i = subst (λ l. n ∈ l) (sym (names_with b m es)) (Memᴰ.append_left (m ∷ []) i)
name_stays b (rel l x y es) n i = i

-- a node's name is among the names with it
node_in_law : (b : Book) (n : Name) (es : List Entry) → n ∈ node_names (add_line b (node n es))
node_in_law b n es = subst (λ l. n ∈ l) (sym (names_with b n es)) (Memᴰ.append_right (node_names b) (Memᴰ.head refl))

-- the names of a book are among those of the book after more lines
names_grow : (alike : NamesAlike) (n : ℕ) (b : Book) (ls : List Line) (y : Book) → read_lines 1 (book_step alike) n b ls ≡ accepted y
    → (x : Name) → x ∈ node_names b → x ∈ node_names y
names_grow alike n b ls y e x m = lines_inv (λ c. x ∈ node_names c) 1 (book_step alike)
    (λ b l c d i. let r = step_read alike b l c d in subst (λ z. x ∈ node_names z) r.gives (name_stays b r.says x i)) n b ls y e m

-- later names, and names whose new ones are apart case aside and short
module _ (later names : List Name)
    (one_name : (x y : Name) → x ∈ names → y ∈ names → T (same_but_case (new_name later x) (new_name later y)) → x ≡ y)
    (short : (x : Name) → x ∈ names → length (new_name later x) ≤ max_word_bytes) where
  -- names with one new name are one
  one_place : (x y : Name) → x ∈ names → y ∈ names → new_name later x ≡ new_name later y → x ≡ y
  unfolding same_but_case
  one_place x y m k e = one_name x y m k (rw e (same_refl _))

  -- the names of a book are among these
  abbrev Among : Book → Type 0
  Among b = (x : Name) → x ∈ node_names b → x ∈ names

  -- a name of a book has the place of its new name
  place_kept : (b : Book) → Among b → (x : Name) → x ∈ node_names b → place (new_name later x) (node_names (with_new_names later b)) ≡ place x (node_names b)
  place_kept b in-names x m = rw (names_anew later b)
      (place_anew (new_name later) (node_names b) x (λ y k. one_place x y (in-names x m) (in-names y k)))

  -- and its new name is declared
  declared_anew : (b : Book) (x : Name) → x ∈ node_names b → T (mem (new_name later x) (node_names (with_new_names later b)))
  declared_anew b x m = mem_i _ _ (rw (names_anew later b) (map_i (new_name later) (node_names b) x m))

  -- the book with a renamed line more
  adds_anew : (b : Book) (x : BookLine) → Among b → line_fault same b x ≡ nothing
      → add_line (with_new_names later b) (says_anew later x) ≡ with_new_names later (add_line b x)
  unfolding add_line with_new_names new_node says_anew
  adds_anew b (vattr n k) h f = refl
  adds_anew b (eattr n k) h f = refl
  adds_anew b (label n) h f = refl
  adds_anew b (node n es) h f = ap
      (λ (ns : List Node). record { vattrs = b.vattrs; eattrs = b.eattrs; labels = b.labels; nodes = ns; rels = b.rels })
      (sym (map_append (new_node later) b.nodes (record { name = n; entries = es } ∷ [])))
  adds_anew b (rel l x y es) h f = let d = rel_declared same b l x y es f in ap₂
      (λ (i j : ℕ). record {
        vattrs = b.vattrs;
        eattrs = b.eattrs;
        labels = b.labels;
        nodes = map (new_node later) b.nodes;
        rels = b.rels ++ (record { label = l; from = i; to = j; entries = es } ∷ []);
      })
      (place_kept b h x d.0) (place_kept b h y d.1)

  -- a node's line
  node_anew : (b : Book) (n : Name) (es : List Entry) → Among b → n ∈ names → line_fault same b (node n es) ≡ nothing
      → line_fault same_but_case (with_new_names later b) (node (new_name later n) es) ≡ nothing
  unfolding line_fault node_fault with_new_names
  node_anew b n es h m f =
      let no = (no_fault (node_faults same b n es)).0 f in
      (no_fault (node_faults same_but_case (with_new_names later b) (new_name later n) es)).1 (
        no.0,
        (
          λ t. ⊎_elim (λ u. node_new same b n es f (taken u)) (λ u. no.1.0 (or_r (any (same n) (node_names b)) (twice (map (λ e. e.attr) es)) u))
              (or_cases (any (same_but_case (new_name later n)) (node_names (with_new_names later b))) (twice (map (λ e. e.attr) es)) t),
          (no.1.1.0, (λ t. no.1.1.1.0 (rw (length_map (new_node later) b.nodes, entries_anew later b) at t), tt)),
        ),
      )
    where
      taken : T (any (same_but_case (new_name later n)) (node_names (with_new_names later b))) → T (any (same n) (node_names b))
      taken u =
          let r = any_e (same_but_case (new_name later n)) (map (new_name later) (node_names b)) (rw (names_anew later b) at u) in
          let q = map_e (new_name later) (node_names b) r.0 r.1 in
          alike_i same same_tells n (node_names b) (rw (one_name n q.0 m (h q.0 q.1) (rw q.2 at r.2)) q.1)

  -- a relationship's line
  rel_anew : (b : Book) (l x y : Name) (es : List Entry) → Among b → line_fault same b (rel l x y es) ≡ nothing
      → line_fault same_but_case (with_new_names later b) (rel l (new_name later x) (new_name later y) es) ≡ nothing
  unfolding line_fault rel_fault with_new_names related
  rel_anew b l x y es h f =
      let d = rel_declared same b l x y es f in
      let no = (no_fault (rel_faults b l x y es)).0 f in
      (no_fault (rel_faults (with_new_names later b) l (new_name later x) (new_name later y) es)).1 (
        λ t. ⊎_elim
            (λ u. ⊎_elim (λ v. ⊎_elim (λ w. no.0 (or_l (L || X || Y) U (or_l (L || X) Y (or_l L X w))))
            (λ w. T_not (mem (new_name later x) (node_names (with_new_names later b))) w (declared_anew b x d.0)) (or_cases L X' v))
            (λ v. T_not (mem (new_name later y) (node_names (with_new_names later b))) v (declared_anew b y d.1)) (or_cases (L || X') Y' u))
            (λ u. no.0 (or_r (L || X || Y) U u)) (or_cases (L || X' || Y') U t),
        (
          λ t. no.1.0 (rw (place_kept b h x d.0, place_kept b h y d.1) at t),
          (no.1.1.0, (λ t. no.1.1.1.0 (rw (entries_anew later b) at t), tt)),
        ),
      )
    where
      L : Bool
      L = not (mem l b.labels)

      X : Bool
      X = not (mem x (node_names b))

      Y : Bool
      Y = not (mem y (node_names b))

      U : Bool
      U = undeclared b.eattrs es

      X' : Bool
      X' = not (mem (new_name later x) (node_names (with_new_names later b)))

      Y' : Bool
      Y' = not (mem (new_name later y) (node_names (with_new_names later b)))

  -- no new name on a line is too long
  short_anew : (b : Book) (x : BookLine) → Among (add_line b x) → line_fault same b x ≡ nothing → Short later x
  short_anew b (vattr n k) h f = tt
  short_anew b (eattr n k) h f = tt
  short_anew b (label n) h f = tt
  short_anew b (node n es) h f = short n (h n (node_in_law b n es))
  short_anew b (rel l x y es) h f =
      let d = rel_declared same b l x y es f in
      (short x (h x (name_stays b (rel l x y es) x d.0)), short y (h y (name_stays b (rel l x y es) y d.1)))

  -- a renamed line has no fault where the old one had none
  faultless_anew : (b : Book) (x : BookLine) → Among (add_line b x) → line_fault same b x ≡ nothing
      → line_fault same_but_case (with_new_names later b) (says_anew later x) ≡ nothing
  unfolding says_anew line_fault with_new_names
  faultless_anew b (vattr n k) h f = f
  faultless_anew b (eattr n k) h f = f
  faultless_anew b (label n) h f = f
  faultless_anew b (node n es) h f = node_anew b n es (λ z m. h z (name_stays b (node n es) z m)) (h n (node_in_law b n es)) f
  faultless_anew b (rel l x y es) h f = rel_anew b l x y es (λ z m. h z (name_stays b (rel l x y es) z m)) f

  -- a line that is read is read with new names
  step_anew : (b : Book) (l : Line) (z : Book) → Among z → book_step same b l ≡ known z
      → book_step same_but_case (with_new_names later b) (line_anew later l) ≡ known (with_new_names later z)
  unfolding book_step form_step fault_or
  step_anew b l z h e =
      let r = step_read same b l z e in
      let g : Among (add_line b r.says) = subst Among (sym r.gives) h in
      let among : Among b = λ x m. g x (name_stays b r.says x m) in
      rw (
        line_anew_law later l r.says r.has_form (short_anew b r.says g r.faultless),
        faultless_anew b r.says g r.faultless,
        adds_anew b r.says among r.faultless,
        r.gives,
      ) refl

  -- and so are lines
  pub lines_read_anew : (n : ℕ) (b : Book) (ls : List Line) (y : Book) → Among y → read_lines 1 (book_step same) n b ls ≡ accepted y
      → read_lines 1 (book_step same_but_case) n (with_new_names later b) (map (line_anew later) ls) ≡ accepted (with_new_names later y)
  unfolding read_lines step_then
  lines_read_anew n b [] y h e = let d : b ≡ y = cc in rw d refl
  lines_read_anew n b (l ∷ ls) y h e =
      let (z, d, f) = first_read same n b l ls y e in
      rw (step_anew b l z (λ x m. h x (names_grow same (n + 1) z ls y f x m)) d) (lines_read_anew (n + 1) z ls y h f)
