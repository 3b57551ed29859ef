-- The next line of a book has no fault behind the lines before it, where the lines go by kind.
use Prim.Native.Nat.{ℕ, ◌+◌, ◌≤◌, ◌<◌}
use mathlib.Core.Path.{◌≡◌, refl, sym, ap, subst, ◌∙◌}
use mathlib.Core.Logic.{⊎_elim}
use mathlib.Core.List.Memᴰ
use mathlib.Core.List.{List, [], ◌∷◌, ◌++◌, map}
use mathlib.Core.Bool.{Bool, not, ◌||◌}
use native.Mathlib.Omega.{arith}
use lib.ListN.{length, get_or, length-append}
use lib.Dec.{T, T_not, leb, leb→le, ltb, ltb→lt}
use Rattle.model.specs.Bytes.{same}
use Rattle.model.specs.Choice.{nothing}
use Rattle.model.specs.Limits.{max_nodes, max_relationships, max_entries, max_declared}
use Rattle.model.specs.Lists.{any, all, sum}
use Rattle.model.specs.Names.{Name, mem, twice, place, same_but_case}
use Rattle.model.specs.Book.{Attr, Node, Rel, Book, attr_names, node_names, entry_count}
use Rattle.model.specs.ReadBook.{suits, undeclared, related, name_faults, name_fault, node_faults, node_fault, rel_faults, rel_fault, line_fault}
use Rattle.model.specs.Tidy.{node_line_of, rel_line_of}
use Rattle.model.proofs.Decides.{or_cases}
use Rattle.model.proofs.Members.{◌∈◌, each_e, mem_i}
use Rattle.model.proofs.Places.{map_append, get_or_in, place_at}
use Rattle.model.proofs.Outcomes.{no_fault}
use Rattle.renaming.proofs.AcceptedBook.{names_length}
use Rattle.tidying.proofs.Made.{NoneAlike, NamesMade, EntriesMade, same_run, RelMade, Made}
use Rattle.tidying.proofs.Apart.{none_before, case_apart, apart_once, suited_declared}

-- the book with these parts
abbrev pub parts : List Attr → List Attr → List Name → List Node → List Rel → Book
parts vs es ls ns rs = record { vattrs = vs; eattrs = es; labels = ls; nodes = ns; rels = rs }

-- the declarations of a book, and these nodes
abbrev pub with_nodes : Book → List Node → Book
with_nodes c ns = parts c.vattrs c.eattrs c.labels ns []

-- the declarations of a book, its nodes, and these relationships
abbrev pub with_rels : Book → List Rel → Book
with_rels c rs = parts c.vattrs c.eattrs c.labels c.nodes rs

-- a declared name
pub name_faultless : (done : List Name) (n : Name) (todo : List Name) → NamesMade (done ++ (n ∷ todo)) → name_fault n done ≡ nothing
unfolding name_fault mem
name_faultless done n todo h = (no_fault (name_faults n done)).1 (
  none_before same done n todo h.apart,
  (λ t. let u = leb→le max_declared (length done) t in let k = length-append done (n ∷ todo) in omega (arith, h.few), tt),
)

-- a declared attribute
pub attr_faultless : (done : List Attr) (d : Attr) (todo whole : List Attr) → done ++ (d ∷ todo) ≡ whole → NamesMade (attr_names whole)
    → name_fault d.name (attr_names done) ≡ nothing
unfolding attr_names
attr_faultless done d todo whole e h = name_faultless (attr_names done) d.name (attr_names todo)
    (subst NamesMade (ap attr_names (sym e) ∙ map_append (λ (z : Attr). z.name) done (d ∷ todo)) h)

-- what is counted of the elements before, and of the next, is no more than what is counted of all
sum_part : {A : Type 0} (f : A → ℕ) (done : List A) (x : A) (todo : List A) → sum (map f done) + f x ≤ sum (map f (done ++ (x ∷ todo)))
unfolding sum
sum_part f [] x todo = omega arith
sum_part f (y ∷ done) x todo = omega (arith, sum_part f done x todo)

-- the next element is one of all
pub next_in : {A : Type 0} (done : List A) (x : A) (todo whole : List A) → done ++ (x ∷ todo) ≡ whole → x ∈ whole
next_in done x todo whole e = subst (λ z. x ∈ z) e (Memᴰ.append_right done (Memᴰ.head refl))

-- an or of two tests that do not hold does not hold
neither : (a b : Bool) → (T a → ⊥) → (T b → ⊥) → T (a || b) → ⊥
neither a b p q t = ⊎_elim p q (or_cases a b t)

-- one more is not too many, and neither are so many entries
not_full : (limit k entries : ℕ) → k < limit → entries ≤ max_entries → T (leb limit k || ltb max_entries entries) → ⊥
not_full limit k entries l few = neither (leb limit k) (ltb max_entries entries)
    (λ t. let u = leb→le limit k t in omega arith) (λ t. let u = ltb→lt max_entries entries t in omega arith)

-- of a book that can be written
module _ (c : Book) (h : Made c) where
  -- a node
  pub node_faultless : (done : List Node) (n : Node) (todo : List Node) → done ++ (n ∷ todo) ≡ c.nodes
      → line_fault same_but_case (with_nodes c done) (node_line_of n) ≡ nothing
  unfolding line_fault node_fault node_line_of node_names entry_count sum
  node_faultless done n todo e =
      let name : Node → Name = λ z. z.name in
      let size : Node → ℕ = λ z. length z.entries in
      let es = n.entries in
      let made = each_e (λ (z : Node). EntriesMade c.vattrs z.entries) c.nodes h.of_nodes n (next_in done n todo c.nodes e) in
      let apart = subst (NoneAlike same_but_case) (ap (map name) (sym e) ∙ map_append name done (n ∷ todo)) h.nodes_apart in
      let all_nodes : length done + length (n ∷ todo) ≡ length c.nodes = sym (length-append done (n ∷ todo)) ∙ ap length e in
      let count = subst (λ z. sum (map size done) + size n ≤ sum (map size z)) e (sum_part size done n todo) in
      (no_fault (node_faults same_but_case (with_nodes c done) n.name es)).1 (
        suited_declared c.vattrs es made.suited,
        (
          neither (any (same_but_case n.name) (map name done)) (twice (map (λ e. e.attr) es))
              (none_before same_but_case (map name done) n.name (map name todo) apart) (λ t. subst T made.once t),
          (
            λ t. T_not (all (suits c.vattrs) es) t (rw made.suited tt),
            (not_full max_nodes (length done) (entry_count (with_nodes c done) + length es) (omega (arith, h.nodes_few)) (omega (arith, h.entries_few)), tt),
          ),
        ),
      )

  -- the name of a node is declared
  end_declared : (i : ℕ) → i < length c.nodes → T (mem (get_or (node_names c) i []) (node_names c))
  end_declared i l = mem_i _ (node_names c) (get_or_in (node_names c) i [] (omega (arith, names_length c)))

  -- and gives the number of that node back
  pub end_place : (i : ℕ) → i < length c.nodes → place (get_or (node_names c) i []) (node_names c) ≡ i
  end_place i l = place_at (node_names c) i (λ t. subst T (apart_once (node_names c) (case_apart (node_names c) h.nodes_apart)) t)
      (omega (arith, names_length c))

  -- a relationship
  pub rel_faultless : (done : List Rel) (r : Rel) (todo : List Rel) → done ++ (r ∷ todo) ≡ c.rels
      → line_fault same_but_case (with_rels c done) (rel_line_of (node_names c) r) ≡ nothing
  unfolding line_fault rel_fault rel_line_of related entry_count node_names
  rel_faultless done r todo e =
      let size : Rel → ℕ = λ z. length z.entries in
      let es = r.entries in
      let x = get_or (node_names c) r.from [] in
      let y = get_or (node_names c) r.to [] in
      let made = each_e (RelMade c) c.rels h.rels r (next_in done r todo c.rels e) in
      let all_rels : length done + length (r ∷ todo) ≡ length c.rels = sym (length-append done (r ∷ todo)) ∙ ap length e in
      let count = subst (λ z. sum (map size done) + size r ≤ sum (map size z)) e (sum_part size done r todo) in
      let L = mem r.label c.labels in
      let X = mem x (node_names c) in
      let Y = mem y (node_names c) in
      (no_fault (rel_faults (with_rels c done) r.label x y es)).1 (
        neither (not L || not X || not Y) (undeclared c.eattrs es)
            (neither (not L || not X) (not Y)
            (neither (not L) (not X) (λ t. T_not L t (rw made.label tt)) (λ t. T_not X t (end_declared r.from made.from)))
            (λ t. T_not Y t (end_declared r.to made.to)))
            (suited_declared c.eattrs es made.entries.suited),
        (
          neither (related (with_rels c done) r.label (place x (node_names c)) (place y (node_names c))) (twice (map (λ e. e.attr) es))
              (λ t. none_before same_run done r todo (subst (NoneAlike same_run) (sym e) h.rels_apart)
              (rw (end_place r.from made.from, end_place r.to made.to) at t))
              (λ t. subst T made.entries.once t),
          (
            λ t. T_not (all (suits c.eattrs) es) t (rw made.entries.suited tt),
            (
              not_full max_relationships (length done) (entry_count (with_rels c done) + length es) (omega (arith, h.rels_few)) (omega (arith, h.entries_few)),
              tt,
            ),
          ),
        ),
      )
