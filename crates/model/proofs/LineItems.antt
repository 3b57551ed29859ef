-- What the items of a line of allowed bytes hold: words, numbers and text values that can be written, policy texts of allowed bytes.
use Prim.Native.Nat.{ℕ, zero, suc, ◌+◌, ◌-◌, ◌^◌, ◌<◌}
use mathlib.Core.Path.{◌≡◌, refl, sym, ap, subst}
use mathlib.Core.Logic.{⊎_elim}
use mathlib.Core.List.{List, [], ◌∷◌}
use mathlib.Core.Bool.{Bool, true, false, ◌||◌}
use lib.ListN.{length, drop}
use lib.Dec.{eqb}
use Rattle.model.specs.Bytes.{Bytes, bytes_of, same}
use Rattle.model.specs.Choice.{pick, Maybe, nothing, just, and_then}
use Rattle.model.specs.Lists.{all}
use Rattle.model.specs.Names.{Name, mem}
use Rattle.model.specs.Items.{Item, word, whole, text, quoted, list, Items, none, more, plain_at, is_list, onward, onward_with, list_at, as_list}
use Rattle.model.specs.Items.{opens, item_at, item_list, items_of, line_items}
use Rattle.model.specs.Words.{Got, is_letter, is_digit, run, word_at, whole_at, text_at, quoted_at, read_as, before}
use Rattle.model.specs.Lines.{Line, is_allowed}
use Rattle.model.specs.Values.{Value, int, str}
use Rattle.model.specs.Forms.{as_word, as_quoted, never_names, name_of, as_name, truth_of, as_value, first, at_end, form_of}
use Rattle.model.specs.Graph.{Each}
use Rattle.model.proofs.Decides.{pick_iff}
use Rattle.model.proofs.Outcomes.{no_just, then_e, pick_e}
use Rattle.model.proofs.AllowedBytes.{Allowed, all_before, all_drop}
use Rattle.model.proofs.WrittenSigns.{Word}
use Rattle.model.proofs.WrittenConditions.{IsName, WritableValue}
use Rattle.model.proofs.WritableSigns.{IfThere, there_e, pick_case, then_case, word_writable, whole_writable, text_writable}

-- the words, numbers and text values of an item can be written, and its policy texts are of allowed bytes
mutual
  pub FitItem : Item → Type 0
  FitItem (word w) = Word w
  FitItem (whole n) = n < 2 ^ 64
  FitItem (text t) = WritableValue (str t)
  FitItem (quoted t) = Allowed t
  FitItem (list is) = FitItems is

  pub FitItems : Items → Type 0
  FitItems none = Unit {0}
  FitItems (more i is) = FitItem i × FitItems is

-- of what was read
abbrev FitGot : Got Item → Type 0
FitGot g = FitItem g.got

-- what fits, read as an item
read_there : {A : Type 0} (f : A → Item) (m : Maybe (Got A)) → IfThere (λ g. FitItem (f g.got)) m → IfThere FitGot (read_as f m)
unfolding read_as
read_there f nothing h = tt
read_there f (just a) h = h

-- a policy text of a text of allowed bytes
quoted_there : (s : Bytes) → Allowed s → IfThere (λ (g : Got Bytes). Allowed g.got) (quoted_at s)
unfolding quoted_at
quoted_there s h = then_case Allowed (λ (g : Got Bytes). Allowed g.got) (before 34 s) (λ t. just (record { got = t; size = length t + 2 }))
    (inside (before 34 s) (λ t e. all_before is_allowed 34 s t h e)) (λ t a. a)
  where
    inside : (m : Maybe Bytes) → ((t : Bytes) → m ≡ just t → Allowed t) → IfThere Allowed m
    inside nothing f = tt
    inside (just t) f = f t refl

-- an item that is no list
plain_there : (s : Bytes) → Allowed s → IfThere FitGot (plain_at s)
unfolding plain_at FitItem all
plain_there [] a = tt
plain_there (b ∷ s) a =
    let rest = ((pick_iff (is_allowed b) (all is_allowed s)).1 a).1 in
    pick_case (IfThere FitGot) (is_letter b) _ _ (λ t. read_there word (word_at (b ∷ s)) (word_writable b s t))
    (pick_case (IfThere FitGot) (is_digit b || eqb b 45) _ _ (λ t. read_there whole (whole_at (b ∷ s)) (whole_writable b s))
    (pick_case (IfThere FitGot) (eqb b 39) _ _ (λ t. read_there text (text_at s) (text_writable s rest))
    (pick_case (IfThere FitGot) (eqb b 34) _ _ (λ t. read_there quoted (quoted_at s) (quoted_there s rest)) tt)))

plain_fits : (s : Bytes) (g : Got Item) → Allowed s → plain_at s ≡ just g → FitGot g
plain_fits s g a e = there_e FitGot (plain_at s) g (plain_there s a) e

onward_e : (m : Maybe (Got Items)) (g : Got Items) → onward m ≡ just g → (a : Got Items) × (m ≡ just a) × (g.got ≡ a.got)
unfolding onward
onward_e nothing g e = no_just g e
onward_e (just a) g e = let d : ◌≡◌ {A = Got Items} (record { got = a.got; size = a.size + 1 }) g = cc in (a, refl, sym (ap (λ z. z.got) d))

onward_with_e : (i : Item) (m : Maybe (Got Items)) (g : Got Items) → onward_with i m ≡ just g → (a : Got Items) × (m ≡ just a) × (g.got ≡ more i a.got)
unfolding onward_with
onward_with_e i nothing g e = no_just g e
onward_with_e i (just a) g e = let d : ◌≡◌ {A = Got Items} (record { got = more i a.got; size = a.size + 1 }) g = cc in (a, refl, sym (ap (λ z. z.got) d))

list_fits : (read : Bytes → Maybe (Got Item)) → ((s : Bytes) (g : Got Item) → Allowed s → read s ≡ just g → FitGot g)
    → (free : Bool) (k : ℕ) (s : Bytes) (g : Got Items) → Allowed s
    → list_at read free k s ≡ just g → FitItems g.got
unfolding list_at FitItems all
list_fits read p free k [] g a e = no_just g e
list_fits read p free (suc k) (b ∷ s) g a e = let w = ((pick_iff (is_allowed b) (all is_allowed s)).1 a).1 in let r = onward_e (list_at read free k s) g e in
    subst FitItems (sym r.2) (list_fits read p free k s r.0 w r.1)
list_fits read p free zero (b ∷ s) g a e =
    let w = ((pick_iff (is_allowed b) (all is_allowed s)).1 a).1 in
    let space = onward (list_at read true 0 s) in
    let item = and_then (read (b ∷ s)) (λ i. onward_with i.got (list_at read (is_list i.got) (i.size - 1) s)) in
    let end : Maybe (Got Items) = just (record { got = none; size = 1 }) in
    ⊎_elim
    (λ h. let r = onward_e (list_at read true 0 s) g h in subst FitItems (sym r.2) (list_fits read p true 0 s r.0 w r.1))
    (λ h. ⊎_elim (λ (k : end ≡ just g). let d : ◌≡◌ {A = Got Items} (record { got = none; size = 1 }) g = cc in
    subst (λ (z : Got Items). FitItems z.got) d tt)
    (λ k. ⊎_elim
    (λ u. let r = then_e (read (b ∷ s)) (λ i. onward_with i.got (list_at read (is_list i.got) (i.size - 1) s)) g u in
    let i : Got Item = r.0 in
    let q = onward_with_e i.got (list_at read (is_list i.got) (i.size - 1) s) g r.2 in
    subst FitItems (sym q.2) (p (b ∷ s) i a r.1, list_fits read p (is_list i.got) (i.size - 1) s q.0 w q.1))
    (λ u. no_just g u)
    (pick_e (free || eqb b 40) item nothing g k)) (pick_e (eqb b 41) end (pick (free || eqb b 40) item nothing) g h))
    (pick_e (eqb b 32) space (pick (eqb b 41) end (pick (free || eqb b 40) item nothing)) g e)

item_fits : (d : ℕ) (s : Bytes) (g : Got Item) → Allowed s → item_at d s ≡ just g → FitGot g
unfolding item_at as_list FitItem
item_fits zero s g a e = ⊎_elim (λ h. no_just g h) (λ h. plain_fits s g a h) (pick_e (opens s) nothing (plain_at s) g e)
item_fits (suc d) s g a e = ⊎_elim (λ h. lists (list_at (item_at d) true 0 (drop 1 s))
    (λ l r. list_fits (item_at d) (item_fits d) true 0 (drop 1 s) l (all_drop is_allowed 1 s a) r) h) (λ h. plain_fits s g a h)
    (pick_e (opens s) (as_list (list_at (item_at d) true 0 (drop 1 s))) (plain_at s) g e)
  where
    lists : (m : Maybe (Got Items)) → ((a : Got Items) → m ≡ just a → FitItems a.got) → as_list m ≡ just g → FitGot g
    lists nothing p h = no_just g h
    lists (just a) p h = let c : ◌≡◌ {A = Got Item} (record { got = list a.got; size = a.size + 1 }) g = cc in
        subst (λ (z : Got Item). FitItem z.got) c (p a refl)

-- of every item of a list
abbrev pub FitAll : List Item → Type 0
FitAll is = Each FitItem is

item_list_fits : (is : Items) → FitItems is → FitAll (item_list is)
unfolding item_list FitItems
item_list_fits none h = tt
item_list_fits (more i is) h = (h.0, item_list_fits is h.1)

-- what stands in an item that is a list
pub items_of_fits : (i : Item) (is : List Item) → FitItem i → items_of i ≡ just is → FitAll is
unfolding items_of FitItem
items_of_fits (word w) is h e = no_just is e
items_of_fits (whole n) is h e = no_just is e
items_of_fits (text t) is h e = no_just is e
items_of_fits (quoted t) is h e = no_just is e
items_of_fits (list js) is h e = let d : item_list js ≡ is = cc in subst FitAll d (item_list_fits js h)

line_fits : (s : Bytes) (is : List Item) → Allowed s → line_items s ≡ just is → FitAll is
unfolding line_items
line_fits s is a e =
    let t = drop (length (run (λ b. eqb b 32) s)) s in
    let r = then_e (item_at 4 t) (λ g. pick (all (λ b. eqb b 32) (drop g.size t)) (items_of g.got) nothing) is e in
    let i : Got Item = r.0 in
    ⊎_elim (λ h. items_of_fits i.got is (item_fits 4 t i (all_drop is_allowed (length (run (λ b. eqb b 32) s)) s a) r.1) h) (λ h. no_just is h)
    (pick_e (all (λ b. eqb b 32) (drop i.size t)) (items_of i.got) nothing is r.2)

-- the items of a line of allowed bytes
pub form_fits : (l : Line) (is : List Item) → Allowed l.bytes → form_of l ≡ just is → FitAll is
unfolding form_of
form_fits l is a e = ⊎_elim (line_fits l.bytes is a) (λ h. no_just is h) (pick_e l.ended (line_items l.bytes) nothing is e)

-- the first item that was read, and the rest
pub first_e : {A B : Type 0} (read : Item → Maybe A) (is : List Item) (f : A → List Item → Maybe B) (y : B) → FitAll is → first read is f ≡ just y
    → (i : Item) × (js : List Item) × (a : A) × FitItem i × FitAll js × (read i ≡ just a) × (f a js ≡ just y)
unfolding first
first_e read [] f y h e = no_just y e
first_e read (i ∷ is) f y h e = let r = then_e (read i) (λ a. f a is) y e in (i, is, r.0, h.0, h.1, r.1, r.2)

-- what was read where nothing is left
pub at_end_e_law : {A : Type 0} (is : List Item) (a y : A) → at_end is a ≡ just y → a ≡ y
unfolding at_end
at_end_e_law [] a y e = cc
at_end_e_law (i ∷ is) a y e = no_just y e

-- an item that was read as a name is one
pub item_name : (i : Item) (n : Name) → FitItem i → as_name i ≡ just n → IsName n
unfolding as_name as_word name_of FitItem and_then
item_name (word w) n h e = go (mem w never_names) refl e
  where
    go : (t : Bool) → mem w never_names ≡ t → pick t nothing (just w) ≡ just n → IsName n
    go true d f = no_just n f
    go false d f = let c : w ≡ n = cc in subst IsName c (h, d)
item_name (whole m) n h e = no_just n e
item_name (text t) n h e = no_just n e
item_name (quoted t) n h e = no_just n e
item_name (list is) n h e = no_just n e

-- an item that was read as a value: the value can be written
pub item_value : (i : Item) (v : Value) → FitItem i → as_value i ≡ just v → WritableValue v
unfolding as_value truth_of FitItem
item_value (word w) v h e = there_e WritableValue (as_value (word w)) v
    (pick_case (IfThere WritableValue) (same w (bytes_of "true")) _ _ (λ t. tt)
    (pick_case (IfThere WritableValue) (same w (bytes_of "false")) _ _ (λ t. tt) tt)) e
item_value (whole n) v h e = let d : int n ≡ v = cc in subst WritableValue d h
item_value (text t) v h e = let d : str t ≡ v = cc in subst WritableValue d h
item_value (quoted t) v h e = no_just v e
item_value (list is) v h e = no_just v e

-- the bytes of a policy text are allowed
pub policy_text_allowed : (i : Item) (t : Bytes) → FitItem i → as_quoted i ≡ just t → Allowed t
unfolding as_quoted FitItem
policy_text_allowed (word w) t h e = no_just t e
policy_text_allowed (whole n) t h e = no_just t e
policy_text_allowed (text s) t h e = no_just t e
policy_text_allowed (quoted s) t h e = let d : s ≡ t = cc in subst Allowed d h
policy_text_allowed (list is) t h e = no_just t e
