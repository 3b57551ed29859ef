-- A book and the tidied one say the same, and books that say the same are tidied to one book and written as one text.
use mathlib.Core.Path.{◌≡◌, refl, sym, ap, subst, ◌∙◌}
use mathlib.Core.Logic.{⊎_elim}
use mathlib.Core.List.{List, [], ◌∷◌, ◌++◌, map}
use mathlib.Core.Bool.{Bool, true, false}
use lib.Dec.{T}
use Rattle.model.specs.Bytes.{same}
use Rattle.model.specs.Choice.{pick, Maybe, nothing, just}
use Rattle.model.specs.Lists.{any, joined}
use Rattle.model.specs.Names.{Name, mem}
use Rattle.model.specs.Values.{Value, Entry}
use Rattle.model.specs.Book.{Attr, Node, Rel, Book, attr_names}
use Rattle.model.specs.ReadBook.{suits}
use Rattle.model.specs.Graph.{Each, value_in}
use Rattle.model.specs.Tidy.{entry_if, in_order, tidy_node, tidy_rel, tidied, line_text, lines_by_kind, tidy_text}
use Rattle.model.specs.SameBook.{SameEntries, SameNode, SameRel, SameBook}
use Rattle.model.proofs.Decides.{same→eq, same_refl}
use Rattle.model.proofs.Members.{◌∈◌, test, is_true, is_false, each_e, each_i, all_e, mem_i}
use Rattle.tidying.proofs.Made.{EntriesMade, RelMade, Made}
use Rattle.tidying.proofs.Apart.{suited_name}
use Rattle.tidying.proofs.Together.{together_map, together_with, together_itself, together_turned, together_on}

-- a book says the same as itself
pub same_itself : (b : Book) → SameBook b b
same_itself b = record {
  vattrs = refl;
  eattrs = refl;
  labels = refl;
  nodes = together_itself SameNode (λ n. record { name = refl; entries = λ a. refl }) b.nodes;
  rels = together_itself SameRel (λ r. record { label = refl; from = refl; to = refl; entries = λ a. refl }) b.rels;
}

-- what says the same does so the other way round
pub same_turned : {b c : Book} → SameBook b c → SameBook c b
same_turned {b} {c} h = record {
  vattrs = sym h.vattrs;
  eattrs = sym h.eattrs;
  labels = sym h.labels;
  nodes = together_turned SameNode (λ m n s. record { name = sym s.name; entries = λ a. sym (s.entries a) }) b.nodes c.nodes h.nodes;
  rels = together_turned SameRel
      (λ r t s. record { label = sym s.label; from = sym s.from; to = sym s.to; entries = λ a. sym (s.entries a) }) b.rels c.rels h.rels;
}

-- and from a book to a third
pub same_on : {a b c : Book} → SameBook a b → SameBook b c → SameBook a c
same_on {a} {b} {c} h k = record {
  vattrs = h.vattrs ∙ k.vattrs;
  eattrs = h.eattrs ∙ k.eattrs;
  labels = h.labels ∙ k.labels;
  nodes = together_on SameNode (λ x y z s u. record { name = s.name ∙ u.name; entries = λ w. s.entries w ∙ u.entries w })
      a.nodes b.nodes c.nodes h.nodes k.nodes;
  rels = together_on SameRel
      (λ x y z s u. record { label = s.label ∙ u.label; from = s.from ∙ u.from; to = s.to ∙ u.to; entries = λ w. s.entries w ∙ u.entries w })
      a.rels b.rels c.rels h.rels k.rels;
}

-- names that differ do so the other way round
apart : (a n : Name) → (T (same a n) → ⊥) → same n a ≡ false
apart a n t = is_false (same n a) (λ u. t (subst (λ z. T (same a z)) (sym (same→eq n a u)) (same_refl a)))

-- an entry of another name in front gives no value
value_past : (n : Name) (m : Maybe Value) (es : List Entry) (a : Name) → same n a ≡ false → value_in (entry_if n m ++ es) a ≡ value_in es a
unfolding value_in entry_if
value_past n nothing es a e = refl
value_past n (just v) es a e = rw e refl

-- the entry of a name in front gives its value, where what follows gives no other
value_first : (a : Name) (m : Maybe Value) (es : List Entry) → (m ≡ nothing → value_in es a ≡ nothing) → value_in (entry_if a m ++ es) a ≡ m
unfolding value_in entry_if
value_first a nothing es e = e refl
value_first a (just v) es e = rw (is_true (same a a) (same_refl a)) refl

-- a choice of nothing or nothing
pick_nothing : (t : Bool) → ◌≡◌ {A = Maybe Value} (pick t nothing nothing) nothing
pick_nothing true = refl
pick_nothing false = refl

-- in order, a declared attribute has its old value, and an attribute that is not declared has none
value_in_order : (ds : List Attr) (es : List Entry) (a : Name) → value_in (in_order ds es) a ≡ pick (mem a (attr_names ds)) (value_in es a) nothing
unfolding in_order joined attr_names mem any value_in
value_in_order [] es a = refl
value_in_order (d ∷ ds) es a = ⊎_elim
    (λ t. rw (is_true (same a d.name) t) (subst (λ n. value_in (entry_if n (value_in es n) ++ in_order ds es) a ≡ value_in es a) (same→eq a d.name t)
    (value_first a (value_in es a) (in_order ds es)
    (λ e. value_in_order ds es a ∙ ap (λ m. pick (mem a (attr_names ds)) m nothing) e ∙ pick_nothing (mem a (attr_names ds))))))
    (λ t. rw (is_false (same a d.name) t)
    (value_past d.name (value_in es d.name) (in_order ds es) a (apart a d.name t) ∙ value_in_order ds es a))
    (test (same a d.name))

-- no entry of a name gives no value
value_none : (es : List Entry) (a : Name) → Each (λ e. same e.attr a ≡ false) es → value_in es a ≡ nothing
unfolding value_in
value_none [] a u = refl
value_none (e ∷ es) a u = rw u.0 (value_none es a u.1)

-- entries that suit the declared attributes have the same values in order
made_in_order : (ds : List Attr) (es : List Entry) → EntriesMade ds es → SameEntries es (in_order ds es)
made_in_order ds es h a = ⊎_elim
    (λ t. rw (value_in_order ds es a, is_true (mem a (attr_names ds)) t) refl)
    (λ t. rw (value_in_order ds es a, is_false (mem a (attr_names ds)) t) (value_none es a (each_i (λ e. same e.attr a ≡ false) es
    (λ e m. is_false (same e.attr a) (λ u. t (mem_i a (attr_names ds) (subst (λ n. n ∈ attr_names ds) (same→eq e.attr a u)
    (suited_name ds e (all_e (suits ds) es (subst T (sym h.suited) tt) e m)))))))))
    (test (mem a (attr_names ds)))

-- a node and the tidy one say the same
tidy_node_same : (ds : List Attr) (n : Node) → EntriesMade ds n.entries → SameNode n (tidy_node ds n)
unfolding tidy_node
tidy_node_same ds n h = record { name = refl; entries = made_in_order ds n.entries h }

-- a relationship and the tidy one say the same
tidy_rel_same : (ds : List Attr) (r : Rel) → EntriesMade ds r.entries → SameRel r (tidy_rel ds r)
unfolding tidy_rel
tidy_rel_same ds r h = record { label = refl; from = refl; to = refl; entries = made_in_order ds r.entries h }

-- an accepted book and the tidied one say the same
pub tidied_same : (b : Book) → Made b → SameBook b (tidied b)
unfolding tidied
tidied_same b h = record {
  vattrs = refl;
  eattrs = refl;
  labels = refl;
  nodes = together_with SameNode (tidy_node b.vattrs) b.nodes
      (each_i _ b.nodes (λ n m. tidy_node_same b.vattrs n (each_e _ b.nodes h.of_nodes n m)));
  rels = together_with SameRel (tidy_rel b.eattrs) b.rels
      (each_i _ b.rels (λ r m. tidy_rel_same b.eattrs r (each_e (RelMade b) b.rels h.rels r m).entries));
}

-- entries that say the same are the same in order
same_in_order : (ds : List Attr) (es fs : List Entry) → SameEntries es fs → in_order ds es ≡ in_order ds fs
unfolding in_order
same_in_order ds es fs h = λ i. joined (λ d. entry_if d.name (h d.name i)) ds

-- nodes that say the same have one tidy node
same_tidy_node : (ds : List Attr) (m n : Node) → SameNode m n → tidy_node ds m ≡ tidy_node ds n
unfolding tidy_node
same_tidy_node ds m n s = λ i. record { name = s.name i; entries = same_in_order ds m.entries n.entries s.entries i }

-- relationships that say the same have one tidy relationship
same_tidy_rel : (ds : List Attr) (r t : Rel) → SameRel r t → tidy_rel ds r ≡ tidy_rel ds t
unfolding tidy_rel
same_tidy_rel ds r t s = λ i.
    record { label = s.label i; from = s.from i; to = s.to i; entries = same_in_order ds r.entries t.entries s.entries i }

-- books that say the same are tidied to one book
pub same_tidied : (b c : Book) → SameBook b c → tidied b ≡ tidied c
unfolding tidied
same_tidied b c h =
    let nodes = together_map SameNode (tidy_node b.vattrs) (same_tidy_node b.vattrs) b.nodes c.nodes h.nodes in
    let rels = together_map SameRel (tidy_rel b.eattrs) (same_tidy_rel b.eattrs) b.rels c.rels h.rels in
    let in-nodes = nodes ∙ (λ i. map (tidy_node (h.vattrs i)) c.nodes) in
    let in-rels = rels ∙ (λ i. map (tidy_rel (h.eattrs i)) c.rels) in
    λ i. record { vattrs = h.vattrs i; eattrs = h.eattrs i; labels = h.labels i; nodes = in-nodes i; rels = in-rels i }

-- and written as one text
pub same_text : (b c : Book) → SameBook b c → tidy_text b ≡ tidy_text c
unfolding tidy_text
same_text b c h = ap (λ z. joined line_text (lines_by_kind z)) (same_tidied b c h)

-- a tidied book is tidied already
pub tidied_twice : (b : Book) → Made b → tidied (tidied b) ≡ tidied b
tidied_twice b h = sym (same_tidied b (tidied b) (tidied_same b h))
