-- Every accepted book is as Made says: a book of no lines is, and each line that is read keeps it.
use Prim.Native.Nat.{ℕ, ◌+◌, ◌<◌, ◌≤◌}
use mathlib.Core.Path.{◌≡◌, refl, sym, subst}
use mathlib.Core.List.Memᴰ
use mathlib.Core.List.{List, [], ◌∷◌, ◌++◌, map}
use mathlib.Core.Bool.{Bool, true, not, ◌&&◌, ◌||◌}
use native.Mathlib.Omega.{arith}
use lib.ListN.{length, length-append}
use lib.Dec.{T, leb, ltb, nleb→lt, nltb→le, not_T}
use Rattle.model.specs.Bytes.{Bytes, same}
use Rattle.model.specs.Choice.{nothing}
use Rattle.model.specs.Limits.{max_nodes, max_relationships, max_entries, max_declared}
use Rattle.model.specs.Lists.{any, all, sum}
use Rattle.model.specs.Names.{Name, mem, twice, place, same_but_case}
use Rattle.model.specs.Refusal.{accepted}
use Rattle.model.specs.Lines.{Line, lines_of, known}
use Rattle.model.specs.Values.{Entry, of_kind}
use Rattle.model.specs.Book.{Attr, Node, Rel, Book, empty_book, attr_names, node_names, entry_count}
use Rattle.model.specs.BookLines.{label, BookLine, vattr, eattr, node, rel}
use Rattle.model.specs.ReadBook.{suits, undeclared, related, name_faults, name_fault, node_faults, node_fault, rel_faults, rel_fault, line_fault, add_line}
use Rattle.model.specs.ReadBook.{book_step, read_book}
use Rattle.model.specs.Graph.{Each}
use Rattle.model.proofs.Decides.{or_l, or_r, not_e}
use Rattle.model.proofs.Members.{is_true, is_false, each_e, each_i, any_e, any_i, all_e, all_i, mem_e, mem_i}
use Rattle.model.proofs.Places.{map_append, at_place}
use Rattle.model.proofs.Outcomes.{no_fault, lines_keep}
use Rattle.model.proofs.AllowedBytes.{Allowed, line_allowed, lines_allowed}
use Rattle.model.proofs.WovenParts.{each_both}
use Rattle.model.proofs.WrittenConditions.{IsName, WritableValue}
use Rattle.renaming.proofs.AcceptedBook.{step_read, book_bytes, names_with, names_length, node_new, rel_declared}
use Rattle.renaming.proofs.RenamedLength.{sum_more}
use Rattle.tidying.proofs.Made.{NoneAlike, NamesMade, EntriesMade, same_run, RelMade, Made, EntryMade, LineMade}
use Rattle.tidying.proofs.ReadLineMade.{line_made}

-- what holds of each element, where something weaker is asked
each_weaker : {A : Type 0} (P Q : A → Type 0) (l : List A) → ((x : A) → P x → Q x) → Each P l → Each Q l
each_weaker P Q l f h = each_i Q l (λ x m. f x (each_e P l h x m))

-- an element behind a list that is like none of it
none_more : {A : Type 0} (alike : A → A → Bool) (xs : List A) (x : A) → (T (any (alike x) xs) → ⊥) → NoneAlike alike xs → NoneAlike alike (xs ++ (x ∷ []))
none_more alike [] x new h = (tt, tt)
none_more alike (y ∷ xs) x new h = (
  each_both (λ z. T (alike z y) → ⊥) xs (x ∷ []) h.0 (λ t. new (any_i (alike x) (y ∷ xs) y (Memᴰ.head refl) t), tt),
  none_more alike xs x (λ t. new (later t)) h.1,
)
  where
    later : T (any (alike x) xs) → T (any (alike x) (y ∷ xs))
    later t = let r = any_e (alike x) xs t in any_i (alike x) (y ∷ xs) r.0 (Memᴰ.tail r.1) r.2

-- a limit that is not reached yet, and one that is not passed
below_limit : (limit n : ℕ) → (T (leb limit n) → ⊥) → n < limit
below_limit limit n h = nleb→lt limit n (not_T (leb limit n) h)

within_limit : (limit n : ℕ) → (T (ltb limit n) → ⊥) → n ≤ limit
within_limit limit n h = nltb→le limit n (not_T (ltb limit n) h)

-- declared names with one more
names_made : (n : Name) (names : List Name) → IsName n → name_fault n names ≡ nothing → NamesMade names → NamesMade (names ++ (n ∷ []))
unfolding name_fault mem
names_made n names i f h = let no = (no_fault (name_faults n names)).0 f in record {
  each = each_both IsName names (n ∷ []) h.each (i, tt);
  apart = none_more same names n no.0 h.apart;
  few = let l = below_limit max_declared (length names) no.1.0 in omega (arith, length-append names (n ∷ []));
}

-- attributes with one more
attrs_made : (d : Attr) (ds : List Attr) → IsName d.name → name_fault d.name (attr_names ds) ≡ nothing → NamesMade (attr_names ds)
    → NamesMade (attr_names (ds ++ (d ∷ [])))
unfolding attr_names
attrs_made d ds i f h = rw (map_append (λ (z : Attr). z.name) ds (d ∷ [])) (names_made d.name (attr_names ds) i f h)

-- an entry that suits the attributes declared so far suits them with more of them
suits_more : (ds more : List Attr) (e : Entry) → T (suits ds e) → T (suits (ds ++ more) e)
unfolding suits
suits_more ds more e t =
    let fits : Attr → Bool = λ d. same d.name e.attr && of_kind d.kind e.value in
    let r = any_e fits ds t in
    any_i fits (ds ++ more) r.0 (Memᴰ.append_left more r.1) r.2

-- so do entries
entries_stay : (ds more : List Attr) (es : List Entry) → EntriesMade ds es → EntriesMade (ds ++ more) es
entries_stay ds more es h = record {
  values = h.values;
  once = h.once;
  suited = is_true _ (all_i (suits (ds ++ more)) es (λ e m. suits_more ds more e (all_e (suits ds) es (rw h.suited tt) e m)));
}

-- the entries of a line, by the faults it has not
entries_made : (ds : List Attr) (es : List Entry) → Each EntryMade es → (T (twice (map (λ e. e.attr) es)) → ⊥) → (T (not (all (suits ds) es)) → ⊥)
    → EntriesMade ds es
entries_made ds es m once suited = record {
  values = each_weaker EntryMade (λ e. WritableValue e.value) es (λ e i. i.1) m;
  once = is_false _ once;
  suited = is_true _ (not_e (all (suits ds) es) suited);
}

-- a book grows: what is declared stays so, and there are no fewer nodes
record Grows (b c : Book) : Type 0 where
  vattrs : (es : List Entry) → EntriesMade b.vattrs es → EntriesMade c.vattrs es
  eattrs : (es : List Entry) → EntriesMade b.eattrs es → EntriesMade c.eattrs es
  labels : (l : Name) → mem l b.labels ≡ true → mem l c.labels ≡ true
  nodes : length b.nodes ≤ length c.nodes

-- so relationships stay as they must be
rels_stay : (b c : Book) → Grows b c → (rs : List Rel) → Each (RelMade b) rs → Each (RelMade c) rs
rels_stay b c g rs h = each_weaker (RelMade b) (RelMade c) rs (λ r m. record {
  label = g.labels r.label m.label;
  from = omega (arith, m.from, g.nodes);
  to = omega (arith, m.to, g.nodes);
  entries = g.eattrs r.entries m.entries;
}) h

-- a label that is declared stays so
label_stays : (ls more : List Name) (l : Name) → mem l ls ≡ true → mem l (ls ++ more) ≡ true
label_stays ls more l e = is_true _ (mem_i l (ls ++ more) (Memᴰ.append_left more (mem_e l ls (rw e tt))))

-- a book grows with each line
grows : (b : Book) (x : BookLine) → Grows b (add_line b x)
unfolding add_line
grows b (vattr n k) = record { vattrs = λ es e. entries_stay b.vattrs _ es e; eattrs = λ es e. e; labels = λ l e. e; nodes = omega arith }
grows b (eattr n k) = record { vattrs = λ es e. e; eattrs = λ es e. entries_stay b.eattrs _ es e; labels = λ l e. e; nodes = omega arith }
grows b (label n) = record { vattrs = λ es e. e; eattrs = λ es e. e; labels = λ l e. label_stays b.labels (n ∷ []) l e; nodes = omega arith }
grows b (node n es) = record {
  vattrs = λ es e. e;
  eattrs = λ es e. e;
  labels = λ l e. e;
  nodes = let k = length-append b.nodes (record { name = n; entries = es } ∷ []) in omega arith;
}
grows b (rel l x y es) = record { vattrs = λ es e. e; eattrs = λ es e. e; labels = λ l e. e; nodes = omega arith }

-- with more declared
declared_made : (b : Book) (vs es : List Attr) (ls : List Name) → NamesMade (attr_names vs) → NamesMade (attr_names es) → NamesMade ls
    → let c : Book = record { vattrs = vs; eattrs = es; labels = ls; nodes = b.nodes; rels = b.rels } in Grows b c → Made b → Made c
unfolding node_names entry_count
declared_made b vs es ls v e l g h = record {
  vattrs = v;
  eattrs = e;
  labels = l;
  names = h.names;
  nodes_apart = h.nodes_apart;
  nodes_few = h.nodes_few;
  of_nodes = each_weaker (λ (n : Node). EntriesMade b.vattrs n.entries) (λ (n : Node). EntriesMade vs n.entries) b.nodes
      (λ n m. g.vattrs n.entries m) h.of_nodes;
  rels = rels_stay b _ g b.rels h.rels;
  rels_apart = h.rels_apart;
  rels_few = h.rels_few;
  entries_few = h.entries_few;
}

-- with a line of a node
node_made : (b : Book) (n : Name) (es : List Entry) → IsName n → Each EntryMade es → line_fault same_but_case b (node n es) ≡ nothing → Made b
    → Made (add_line b (node n es))
unfolding add_line line_fault node_fault entry_count
node_made b n es i m f h =
    let no = (no_fault (node_faults same_but_case b n es)).0 f in
    let made : Node = record { name = n; entries = es } in
    let few = no.1.1.1.0 in
    let A = leb max_nodes (length b.nodes) in
    let B = ltb max_entries (entry_count b + length es) in
    record {
      vattrs = h.vattrs;
      eattrs = h.eattrs;
      labels = h.labels;
      names = subst (Each IsName) (sym (names_with b n es)) (each_both IsName (node_names b) (n ∷ []) h.names (i, tt));
      nodes_apart = subst (NoneAlike same_but_case) (sym (names_with b n es))
          (none_more same_but_case (node_names b) n (node_new same_but_case b n es f) h.nodes_apart);
      nodes_few = omega (arith, length-append b.nodes (made ∷ []), below_limit max_nodes (length b.nodes) (λ t. few (or_l A B t)));
      of_nodes = each_both (λ (z : Node). EntriesMade b.vattrs z.entries) b.nodes (made ∷ []) h.of_nodes
          (entries_made b.vattrs es m (λ t. no.1.0 (or_r (any (same_but_case n) (node_names b)) _ t)) no.1.1.0, tt);
      rels = rels_stay b (add_line b (node n es)) (grows b (node n es)) b.rels h.rels;
      rels_apart = h.rels_apart;
      rels_few = h.rels_few;
      entries_few = omega (
        arith,
        sum_more (λ (z : Node). length z.entries) b.nodes made,
        within_limit max_entries (entry_count b + length es) (λ t. few (or_r A B t)),
      );
    }

-- with a line of a relationship
rel_made : (b : Book) (l x y : Name) (es : List Entry) → Each EntryMade es → line_fault same_but_case b (rel l x y es) ≡ nothing → Made b
    → Made (add_line b (rel l x y es))
unfolding add_line line_fault rel_fault related entry_count node_names
rel_made b l x y es m f h =
    let no = (no_fault (rel_faults b l x y es)).0 f in
    let made : Rel = record { label = l; from = place x (node_names b); to = place y (node_names b); entries = es } in
    let few = no.1.1.1.0 in
    let A = leb max_relationships (length b.rels) in
    let B = ltb max_entries (entry_count b + length es) in
    let L = not (mem l b.labels) in
    let X = not (mem x (node_names b)) in
    let Y = not (mem y (node_names b)) in
    let U = undeclared b.eattrs es in
    let ends = rel_declared same_but_case b l x y es f in
    let new : RelMade b made = record {
      label = is_true _ (not_e (mem l b.labels) (λ t. no.0 (or_l (L || X || Y) U (or_l (L || X) Y (or_l L X t)))));
      from = omega (arith, (at_place (node_names b) x ends.0).0, names_length b);
      to = omega (arith, (at_place (node_names b) y ends.1).0, names_length b);
      entries = entries_made b.eattrs es m (λ t. no.1.0 (or_r (any (same_run made) b.rels) _ t)) no.1.1.0;
    } in
    let grown = add_line b (rel l x y es) in
    record {
      vattrs = h.vattrs;
      eattrs = h.eattrs;
      labels = h.labels;
      names = h.names;
      nodes_apart = h.nodes_apart;
      nodes_few = h.nodes_few;
      of_nodes = h.of_nodes;
      rels = rels_stay b grown (grows b (rel l x y es)) (b.rels ++ (made ∷ [])) (each_both (RelMade b) b.rels (made ∷ []) h.rels (new, tt));
      rels_apart = none_more same_run b.rels made (λ t. no.1.0 (or_l (any (same_run made) b.rels) _ t)) h.rels_apart;
      rels_few = omega (arith, length-append b.rels (made ∷ []), below_limit max_relationships (length b.rels) (λ t. few (or_l A B t)));
      entries_few = omega (
        arith,
        sum_more (λ (z : Rel). length z.entries) b.rels made,
        within_limit max_entries (entry_count b + length es) (λ t. few (or_r A B t)),
      );
    }

-- with any line
made_more : (b : Book) (x : BookLine) → LineMade x → line_fault same_but_case b x ≡ nothing → Made b → Made (add_line b x)
unfolding add_line line_fault
made_more b (vattr n k) i f h = let d : Attr = record { name = n; kind = k } in
    declared_made b (b.vattrs ++ (d ∷ [])) b.eattrs b.labels (attrs_made d b.vattrs i f h.vattrs) h.eattrs h.labels (grows b (vattr n k)) h
made_more b (eattr n k) i f h = let d : Attr = record { name = n; kind = k } in
    declared_made b b.vattrs (b.eattrs ++ (d ∷ [])) b.labels h.vattrs (attrs_made d b.eattrs i f h.eattrs) h.labels (grows b (eattr n k)) h
made_more b (label n) i f h =
    declared_made b b.vattrs b.eattrs (b.labels ++ (n ∷ [])) h.vattrs h.eattrs (names_made n b.labels i f h.labels) (grows b (label n)) h
made_more b (node n es) (i, m) f h = node_made b n es i m f h
made_more b (rel l x y es) (i, j, k, m) f h = rel_made b l x y es m f h

-- a line of allowed bytes that is read
line_keeps : (b : Book) (l : Line) (y : Book) → Allowed l.bytes → book_step same_but_case b l ≡ known y → Made b → Made y
line_keeps b l y a e h =
    let r = step_read same_but_case b l y e in
    subst Made r.gives (made_more b r.says (line_made l r.says a r.has_form) r.faultless h)

-- a book of no lines
empty_made : Made empty_book
unfolding empty_book attr_names node_names entry_count sum
empty_made = record {
  vattrs = record { each = tt; apart = tt; few = omega arith };
  eattrs = record { each = tt; apart = tt; few = omega arith };
  labels = record { each = tt; apart = tt; few = omega arith };
  names = tt;
  nodes_apart = tt;
  nodes_few = omega arith;
  of_nodes = tt;
  rels = tt;
  rels_apart = tt;
  rels_few = omega arith;
  entries_few = omega arith;
}

-- an accepted book
pub accepted_made : (s : Bytes) (b : Book) → read_book s ≡ accepted b → Made b
unfolding read_book
accepted_made s b e =
    let h = book_bytes same_but_case s b e in
    lines_keep Made (λ l. Allowed l.bytes) 1 (book_step same_but_case) line_keeps 1 empty_book (lines_of s) b
    (lines_allowed s (line_allowed 1 s h.allowed)) h.rest empty_made
