-- A book whose attributes go in the order of their declarations can be written where the book can: it has the same entries, in another order.
use Prim.Native.Nat.{ℕ, suc, ◌+◌, ◌≤◌}
use mathlib.Core.Path.{◌≡◌, refl, sym, ap, ap₂, subst, ◌∙◌}
use mathlib.Core.Logic.{◌⊎◌, inl, inr, ⊎_elim}
use mathlib.Core.List.Memᴰ
use mathlib.Core.List.Memᴰ.{cases_cons}
use mathlib.Core.List.{List, [], ◌∷◌, ◌++◌, map}
use mathlib.Core.List.Memᴰ.{eq_of_singleton}
use mathlib.Core.Bool.{Bool, false}
use native.Mathlib.Omega.{arith}
use lib.ListN.{length}
use lib.Dec.{T}
use Rattle.model.specs.Bytes.{same}
use Rattle.model.specs.Choice.{Maybe, nothing, just}
use Rattle.model.specs.Lists.{all, joined, sum}
use Rattle.model.specs.Names.{Name, mem, twice, same_but_case}
use Rattle.model.specs.Values.{Value, Entry}
use Rattle.model.specs.Book.{Attr, Node, Rel, Book, attr_names, node_names, entry_count}
use Rattle.model.specs.ReadBook.{suits}
use Rattle.model.specs.Graph.{Each, value_in}
use Rattle.model.specs.Tidy.{entry_if, in_order, tidy_node, tidy_rel, tidied}
use Rattle.model.proofs.WrittenConditions.{IsName, WritableValue}
use Rattle.model.proofs.Decides.{same→eq, same_refl}
use Rattle.model.proofs.Members.{◌∈◌, test, is_true, is_false, each_e, each_i, all_e, all_i, map_e, map_i, joined_i, joined_e, mem_e, mem_i}
use Rattle.model.proofs.Places.{length_map, map_to, twice_i, twice_tail}
use Rattle.model.proofs.Outcomes.{no_just}
use Rattle.tidying.proofs.Made.{NoneAlike, NamesMade, EntriesMade, same_run, RelMade, Made}
use Rattle.tidying.proofs.Apart.{not_behind, suited_by}

-- a value that is found is that of an entry
value_e : (es : List Entry) (a : Name) (v : Value) → value_in es a ≡ just v → (record { attr = a; value = v }) ∈ es
unfolding value_in
value_e [] a v e = no_just v e
value_e (x ∷ es) a v e = ⊎_elim
    (λ t. let d : just x.value ≡ just v = rw (is_true (same x.attr a) t) at e in let k : x.value ≡ v = cc in
    Memᴰ.head (ap₂ (λ (n : Name) (w : Value). record { attr = n; value = w }) (sym (same→eq x.attr a t)) (sym k)))
    (λ t. Memᴰ.tail (value_e es a v (rw (is_false (same x.attr a) t) at e)))
    (test (same x.attr a))

-- and the attribute of an entry has a value
value_i : (es : List Entry) (e : Entry) → e ∈ es → (v : Value) × (value_in es e.attr ≡ just v)
unfolding value_in
value_i [] e m = elim m [ ]
value_i (x ∷ es) e m = ⊎_elim
    (λ t. (x.value, rw (is_true (same x.attr e.attr) t) refl))
    (λ t. ⊎_elim (λ k. absurd (t (rw k (same_refl x.attr))))
    (λ k. let (v, d) = value_i es e k in (v, rw (is_false (same x.attr e.attr) t) d)) (cases_cons m))
    (test (same x.attr e.attr))

-- the entries in order are entries, and their attributes are declared
in_order_e : (ds : List Attr) (es : List Entry) (e : Entry) → e ∈ in_order ds es → (e ∈ es) × (e.attr ∈ attr_names ds)
unfolding in_order attr_names entry_if
in_order_e ds es e m =
    let (d, k, i) = joined_e (λ d. entry_if d.name (value_in es d.name)) ds e m in
    go d k (value_in es d.name) refl i
  where
    go : (d : Attr) → d ∈ ds → (o : Maybe Value) → value_in es d.name ≡ o → e ∈ entry_if d.name o → (e ∈ es) × (e.attr ∈ attr_names ds)
    go d k nothing f i = elim i [ ]
    go d k (just v) f i = rw (eq_of_singleton i) (value_e es d.name v f, map_i (λ (z : Attr). z.name) ds d k)

-- the attributes of entries
abbrev attrs : List Entry → List Name
attrs es = map (λ z. z.attr) es

-- an entry of a declared attribute: the attribute is among those in order
in_order_i : (ds : List Attr) (es : List Entry) (e : Entry) → e ∈ es → T (suits ds e) → e.attr ∈ attrs (in_order ds es)
unfolding in_order entry_if
in_order_i ds es e m t =
    let (d, k, n) = suited_by ds e t in
    let (v, f) = value_i es e m in
    let found : entry_if d.name (value_in es d.name) ≡ (record { attr = e.attr; value = v }) ∷ [] = rw (n, f) refl in
    map_i (λ (z : Entry). z.attr) (in_order ds es) (record { attr = e.attr; value = v })
    (joined_i (λ d. entry_if d.name (value_in es d.name)) ds d k _ (rw found (Memᴰ.head refl)))

-- attributes in order stand once
in_order_once : (ds : List Attr) (es : List Entry) → NoneAlike same (attr_names ds) → twice (attrs (in_order ds es)) ≡ false
unfolding in_order joined entry_if attr_names twice
in_order_once [] es h = refl
in_order_once (d ∷ ds) es h = go (in_order_once ds es h.1) (value_in es d.name)
  where
    again : T (mem d.name (attrs (in_order ds es))) → ⊥
    again t =
        let (e, m, k) = map_e (λ (z : Entry). z.attr) (in_order ds es) d.name (mem_e d.name (attrs (in_order ds es)) t) in
        not_behind d.name (attr_names ds) h.0 (mem_i d.name (attr_names ds) (rw k (in_order_e ds es e m).1))

    go : twice (attrs (in_order ds es)) ≡ false → (o : Maybe Value) → twice (attrs (entry_if d.name o ++ in_order ds es)) ≡ false
    go later nothing = later
    go later (just v) = rw (is_false (mem d.name (attrs (in_order ds es))) again) later

-- an element taken out of a list: the list is one longer than what is left, and has no other element
taken_out : {A : Type 0} (x : A) (l : List A) → x ∈ l
    → (left : List A) × (length l ≡ suc (length left)) × ((z : A) → z ∈ l → (z ≡ x) ⊎ (z ∈ left))
taken_out x [] m = elim m [ ]
taken_out x (y ∷ l) m = ⊎_elim
    (λ e. (l, refl, λ z k. ⊎_elim (λ d. inl (d ∙ sym e)) inr (cases_cons k)))
    (λ k. let (left, one, other) = taken_out x l k in
    (y ∷ left, ap suc one, λ z j. ⊎_elim (λ d. inr (Memᴰ.head d)) (λ i. ⊎_elim inl (λ q. inr (Memᴰ.tail q)) (other z i)) (cases_cons j)))
    (cases_cons m)

-- names that stand once are no more than names among which they all are
no_more : (ms ns : List Name) → (T (twice ms) → ⊥) → ((x : Name) → x ∈ ms → x ∈ ns) → length ms ≤ length ns
no_more [] ns once within = omega arith
no_more (m ∷ ms) ns once within =
    let (left, one, other) = taken_out m ns (within m (Memᴰ.head refl)) in
    let rest = no_more ms left (λ t. once (twice_tail m ms t))
    (λ x k. ⊎_elim (λ e. absurd (once (twice_i m ms (subst (λ z. z ∈ ms) e k)))) (λ j. j) (other x (within x (Memᴰ.tail k)))) in
    omega arith

-- entries in order are as many as the entries
pub in_order_length : (ds : List Attr) (es : List Entry) → NamesMade (attr_names ds) → EntriesMade ds es → length (in_order ds es) ≡ length es
in_order_length ds es n h =
    let kept = no_more (attrs (in_order ds es)) (attrs es) (λ t. subst T (in_order_once ds es n.apart) t)
    (λ x m. let (e, k, d) = map_e (λ (z : Entry). z.attr) (in_order ds es) x m in rw d (map_i (λ (z : Entry). z.attr) es e (in_order_e ds es e k).0)) in
    let found = no_more (attrs es) (attrs (in_order ds es)) (λ t. subst T h.once t)
    (λ x m. let (e, k, d) = map_e (λ (z : Entry). z.attr) es x m in
    rw d (in_order_i ds es e k (all_e (suits ds) es (rw h.suited tt) e k))) in
    let k = length_map (λ (z : Entry). z.attr) es in
    let l = length_map (λ (z : Entry). z.attr) (in_order ds es) in
    omega arith

-- and suit the declarations as these do
entries_in_order : (ds : List Attr) (es : List Entry) → NamesMade (attr_names ds) → EntriesMade ds es → EntriesMade ds (in_order ds es)
entries_in_order ds es n h = record {
  values = each_i (λ (z : Entry). WritableValue z.value) (in_order ds es)
      (λ e m. each_e (λ (z : Entry). WritableValue z.value) es h.values e (in_order_e ds es e m).0);
  once = in_order_once ds es n.apart;
  suited = is_true (all (suits ds) (in_order ds es))
      (all_i (suits ds) (in_order ds es) (λ e m. all_e (suits ds) es (rw h.suited tt) e (in_order_e ds es e m).0));
}

-- what holds of f of each element holds of every element of f of them
each_map : {A B : Type 0} (P : B → Type 0) (f : A → B) (l : List A) → ((x : A) → x ∈ l → P (f x)) → Each P (map f l)
each_map P f l h = each_i P (map f l) (λ y m. let (x, k, e) = map_e f l y m in subst P (sym e) (h x k))

-- where no element is like an earlier one by what f gives of them, none of what f gives is like an earlier one
none_alike_map : {A B : Type 0} (alike : B → B → Bool) (f : A → B) (l : List A) → NoneAlike (λ y x. alike (f y) (f x)) l → NoneAlike alike (map f l)
none_alike_map alike f [] h = tt
none_alike_map alike f (x ∷ l) h = (
  each_map (λ y. T (alike y (f x)) → ⊥) f l (each_e (λ y. T (alike (f y) (f x)) → ⊥) l h.0),
  none_alike_map alike f l h.1,
)

-- a book has as many entries with its attributes in order
pub tidied_count : (b : Book) → Made b → entry_count (tidied b) ≡ entry_count b
unfolding entry_count tidied tidy_node tidy_rel
tidied_count b h =
    let of_node_law : Node → ℕ = λ n. length n.entries in
    let of_rel_law : Rel → ℕ = λ r. length r.entries in
    let nodes = map_to of_node_law (tidy_node b.vattrs) of_node_law b.nodes (λ n m. in_order_length b.vattrs n.entries h.vattrs
    (each_e (λ (z : Node). EntriesMade b.vattrs z.entries) b.nodes h.of_nodes n m)) in
    let rels = map_to of_rel_law (tidy_rel b.eattrs) of_rel_law b.rels (λ r m. in_order_length b.eattrs r.entries h.eattrs
    (each_e (RelMade b) b.rels h.rels r m).entries) in
    ap₂ (λ ns rs. sum ns + sum rs) nodes rels

-- its nodes keep their names
tidied_names : (b : Book) → node_names (tidied b) ≡ node_names b
unfolding node_names tidied tidy_node
tidied_names b = map_to (λ (n : Node). n.name) (tidy_node b.vattrs) (λ n. n.name) b.nodes (λ n m. refl)

-- and it can be written
pub tidied_made : (b : Book) → Made b → Made (tidied b)
unfolding tidied tidy_node tidy_rel
tidied_made b h =
    let as_many : length (map (tidy_node b.vattrs) b.nodes) ≡ length b.nodes = length_map (tidy_node b.vattrs) b.nodes in
    record {
      vattrs = h.vattrs;
      eattrs = h.eattrs;
      labels = h.labels;
      names = subst (Each IsName) (sym (tidied_names b)) h.names;
      nodes_apart = subst (NoneAlike same_but_case) (sym (tidied_names b)) h.nodes_apart;
      nodes_few = rw as_many h.nodes_few;
      of_nodes = each_map (λ (n : Node). EntriesMade b.vattrs n.entries) (tidy_node b.vattrs) b.nodes
          (λ n m. entries_in_order b.vattrs n.entries h.vattrs
          (each_e (λ (z : Node). EntriesMade b.vattrs z.entries) b.nodes h.of_nodes n m));
      rels = each_map (RelMade (tidied b)) (tidy_rel b.eattrs) b.rels (λ r m. let made = each_e (RelMade b) b.rels h.rels r m in record {
        label = made.label;
        from = rw as_many made.from;
        to = rw as_many made.to;
        entries = entries_in_order b.eattrs r.entries h.eattrs made.entries;
      });
      rels_apart = none_alike_map same_run (tidy_rel b.eattrs) b.rels h.rels_apart;
      rels_few = rw (length_map (tidy_rel b.eattrs) b.rels) h.rels_few;
      entries_few = rw (tidied_count b h) h.entries_few;
    }
