-- Laws of the edge table: an edge's words say the edge, and a stored edge stands behind those there. Assumes nothing.
use Prim.Native.Nat.{ℕ, ◌+◌, ◌*◌, ◌/◌, ◌%◌, ◌<◌, ◌≤◌}
use mathlib.Core.Path.{◌≡◌, refl, sym, ap, ap₂, ◌∙◌}
use mathlib.Core.Logic.{◌≢◌, ◌⊎◌, ⊎_elim}
use mathlib.Core.List.{List, [], ◌∷◌, ◌++◌, map, append_assoc, append-nil}
use native.Mathlib.Numerals.{add-one}
use native.Mathlib.Omega.{arith}
use lib.ListN.{length, get_or, set, take, drop, length-set}
use lib.Seq.{get_or-set_same, get_or-set_other, take-suc}
use Rattle.model.specs.Bytes.{Bytes}
use Rattle.model.specs.Book.{Book}
use Rattle.model.specs.Answers.{part_of, name_at, edge_in}
use Rattle.model.specs.declared.Edge.{Edge as EdgeData}
use Rattle.book_tables.proofs.ListedLaws.{listed_more, listed_same, map_end}
use Rattle.woven_tables.specs.Tables.{text_of, name_of, edge_at, edges_at, woven_words}
use Rattle.model.specs.PlainData.{no_edge}
use Rattle.woven_tables.specs.Steps.{KeptOutside, renumbered_edge, EdgeReady, EdgesAdded}
use Rattle.woven_tables.proofs.NameLaws.{part_of_rest, name_word_says}

-- one element more of an array, through two functions
pub maps_more : {A B C : Type 0} (f : B → C) (g : A → B) (xs : List A) (i : ℕ) (d : A) → i < length xs
    → map f (map g (take (i + 1) xs)) ≡ map f (map g (take i xs)) ++ (f (g (get_or xs i d)) ∷ [])
maps_more f g xs i d h =
    ap (λ n. map f (map g (take n xs))) (add-one i)
    ∙ ap (λ z. map f (map g z)) (take-suc xs i d h)
    ∙ ap (map f) (map_end g (take i xs) (get_or xs i d)) ∙ map_end f (map g (take i xs)) (g (get_or xs i d))

-- edges that were there stay
pub edges_same : (b : Book) (q r : Bytes) (old new : List ℕ) (n : ℕ) → n ≤ 48 → ((i : ℕ) → 24 ≤ i → i < 24 + n → get_or new i 0 ≡ get_or old i 0)
    → ((i : ℕ) → 72 ≤ i → i < 72 + n → get_or new i 0 ≡ get_or old i 0) → edges_at b q r new n ≡ edges_at b q r old n
unfolding edges_at
edges_same b q r old new n few f g = listed_same _ _ n
    (λ i l. ap₂ (edge_at b q r) (f (24 + i) (omega arith) (omega arith)) (g (72 + i) (omega arith) (omega arith)))

module _ (words : List ℕ) (m w x : ℕ) (room : m < 48) (size : woven_words ≤ length words) where
  stored : List ℕ
  stored = set (set words (24 + m) w) (72 + m) x

  elsewhere : (i : ℕ) → i ≢ 24 + m → i ≢ 72 + m → get_or stored i 0 ≡ get_or words i 0
  unfolding stored
  elsewhere i p q = get_or-set_other (set words (24 + m) w) (72 + m) i x 0 q ∙ get_or-set_other words (24 + m) i w 0 p

  pub edge_stored : (b : Book) (q r : Bytes) → edges_at b q r (set (set words (24 + m) w) (72 + m) x) (m + 1) ≡ edges_at b q r words m ++ (edge_at b q r w x ∷ [])
  unfolding edges_at stored
  edge_stored b q r =
      listed_more _ m
      ∙ ap₂ (λ xs y. xs ++ (y ∷ []))
      (edges_same b q r words stored m (omega arith) (λ i l u. elsewhere i (λ e. omega arith) (λ e. omega arith))
      (λ i l u. elsewhere i (λ e. omega arith) (λ e. omega arith)))
      (ap₂ (edge_at b q r)
      (get_or-set_other (set words (24 + m) w) (72 + m) (24 + m) x 0 (λ e. omega arith) ∙ get_or-set_same words (24 + m) w 0 (omega arith))
      (get_or-set_same (set words (24 + m) w) (72 + m) x 0 (omega (arith, length-set words (24 + m) w))))

  pub edge_kept : KeptOutside 24 120 words (set (set words (24 + m) w) (72 + m) x)
  unfolding stored
  edge_kept i z = elsewhere i (λ e. ⊎_elim (λ y. omega arith) (λ y. omega arith) z) (λ e. ⊎_elim (λ y. omega arith) (λ y. omega arith) z)

-- what an edge's words say
pub edge_says : (b : Book) (q r : Bytes) (base k : ℕ) (numbers : List ℕ) (e : EdgeData) (w x : ℕ) → EdgeReady base numbers e
    → w ≡ e.label * 65536 + get_or numbers e.from 0 * 256 + get_or numbers e.to 0 → x ≡ (k * 65536 + (base + e.name.start)) * 32 + e.name.length
    → edge_at b q r w x ≡ renumbered_edge numbers (edge_in b (drop base (text_of q r k)) e)
unfolding edge_at renumbered_edge edge_in name_at
edge_says b q r base k numbers e w x fits word name =
    let f = get_or numbers e.from 0 in
    let t = get_or numbers e.to 0 in
    let low : f < 24 = fits.woven_from in
    let high : t < 24 = fits.woven_to in
    let n : name_of q r x ≡ part_of (drop base (text_of q r k)) e.name.start e.name.length =
    ap (name_of q r) name ∙ name_word_says q r k (base + e.name.start) e.name.length fits.name.0 fits.name.1
    ∙ sym (part_of_rest (text_of q r k) base e.name.start e.name.length) in
    let l : w / 65536 ≡ e.label = omega arith in
    let a : w / 256 % 256 ≡ f = omega arith in
    let c : w % 256 ≡ t = omega arith in
    λ i. record { name = n i; label = get_or b.labels (l i) []; from = a i; to = c i }

-- the first i edges of a text are woven
pub record EdgesSoFar (base k : ℕ) (edges : List EdgeData) (i : ℕ) (numbers old new : List ℕ) (woven : ℕ) : Type 0 where
  pub size : length new ≡ length old
  pub added : EdgesAdded base k edges i numbers old new woven

pub edges_start : (base k : ℕ) (edges : List EdgeData) (numbers old : List ℕ) (woven : ℕ) → EdgesSoFar base k edges 0 numbers old old woven
edges_start base k edges numbers old woven =
    let e : woven + 0 ≡ woven = omega arith in
    record { size = refl; added = record { edges_are = λ b q r. ap (edges_at b q r old) e ∙ sym (append-nil (edges_at b q r old woven)); kept = λ i z. refl } }

pub edges_more : (base k : ℕ) (edges : List EdgeData) (i : ℕ) (numbers old words : List ℕ) (woven w x : ℕ) → EdgesSoFar base k edges i numbers old words woven
    → i < length edges → woven + i < 48 → woven_words ≤ length words → EdgeReady base numbers (get_or edges i no_edge)
    → w ≡ (get_or edges i no_edge).label * 65536 + get_or numbers (get_or edges i no_edge).from 0 * 256 + get_or numbers (get_or edges i no_edge).to 0
    → x ≡ (k * 65536 + (base + (get_or edges i no_edge).name.start)) * 32 + (get_or edges i no_edge).name.length
    → EdgesSoFar base k edges (i + 1) numbers old (set (set words (24 + (woven + i)) w) (72 + (woven + i)) x) woven
edges_more base k edges i numbers old words woven w x so_far more room size fits word name =
    let e : woven + (i + 1) ≡ woven + i + 1 = omega arith in
    record {
      size = length-set (set words (24 + (woven + i)) w) (72 + (woven + i)) x ∙ length-set words (24 + (woven + i)) w ∙ so_far.size;
      added = record {
        edges_are = λ b q r.
            let text = drop base (text_of q r k) in
            let given = map (renumbered_edge numbers) (map (edge_in b text) (take i edges)) in
            let own = renumbered_edge numbers (edge_in b text (get_or edges i no_edge)) in
            ap (edges_at b q r (set (set words (24 + (woven + i)) w) (72 + (woven + i)) x)) e
            ∙ edge_stored words (woven + i) w x room size b q r
            ∙ ap₂ (λ xs y. xs ++ (y ∷ [])) (so_far.added.edges_are b q r) (edge_says b q r base k numbers (get_or edges i no_edge) w x fits word name)
            ∙ append_assoc (edges_at b q r old woven) given (own ∷ [])
            ∙ ap (λ z. edges_at b q r old woven ++ z) (sym (maps_more (renumbered_edge numbers) (edge_in b text) edges i no_edge more));
        kept = λ j z. edge_kept words (woven + i) w x room size j z ∙ so_far.added.kept j z;
      };
    }
