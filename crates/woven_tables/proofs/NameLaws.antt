-- Laws of names in words: what a name word and a vertex word say, and which vertices are the same. Assumes nothing.
use Prim.Native.Nat.{ℕ, ◌+◌, ◌*◌, ◌/◌, ◌%◌, ◌<◌, ◌≤◌}
use mathlib.Core.Path.{◌≡◌, sym, ap, ap₂, subst, ◌∙◌}
use mathlib.Core.List.{List}
use mathlib.Core.Bool.{Bool, true, false}
use native.Mathlib.Omega.{arith}
use lib.ListN.{length, take, drop}
use lib.Seq.{drop-drop}
use borrow.Author.Tests.{eq-eqb, ne_eqb}
use Rattle.model.specs.Bytes.{Bytes, same}
use Rattle.model.specs.Choice.{pick}
use Rattle.model.specs.Names.{mem}
use Rattle.model.specs.Weave.{actor, own, same_vertex, weave_vertex}
use Rattle.model.specs.Answers.{part_of}
use Rattle.woven_tables.specs.Tables.{text_of, name_of, NameInside, vertex_of_word}

-- a part of the rest of a text is a part of the text
pub part_of_rest : (s : Bytes) (base i n : ℕ) → part_of (drop base s) i n ≡ part_of s (base + i) n
unfolding part_of
part_of_rest s base i n = ap (take n) (drop-drop i base s)

-- the text that a name word's text number says
pub in_query_law : (q r : Bytes) (w : ℕ) → w / 2097152 ≡ 0 → name_of q r w ≡ part_of q (w / 32 % 65536) (w % 32)
unfolding name_of text_of
in_query_law q r w e = rw (eq-eqb (w / 2097152) 0 e)

pub in_rules_law : (q r : Bytes) (w : ℕ) → (w / 2097152 ≡ 0 → ⊥) → name_of q r w ≡ part_of r (w / 32 % 65536) (w % 32)
unfolding name_of text_of
in_rules_law q r w e = rw (ne_eqb (w / 2097152) 0 e)

-- it lies inside that text
pub inside_query : (q r : Bytes) (w : ℕ) → w / 2097152 ≡ 0 → NameInside q r w → w / 32 % 65536 + w % 32 ≤ length q
unfolding text_of
inside_query q r w e h = rw (eq-eqb (w / 2097152) 0 e) at h

pub inside_rules : (q r : Bytes) (w : ℕ) → (w / 2097152 ≡ 0 → ⊥) → NameInside q r w → w / 32 % 65536 + w % 32 ≤ length r
unfolding text_of
inside_rules q r w e h = rw (ne_eqb (w / 2097152) 0 e) at h

-- half of a vertex word
half : (w : ℕ) (t : Bool) → (w * 2 + pick t 1 0) / 2 ≡ w
half w true = omega arith
half w false = omega arith

-- what a vertex word says
pub of_actor : (q r : Bytes) (w : ℕ) → w % 2 ≡ 1 → vertex_of_word q r w ≡ actor (name_of q r (w / 2))
unfolding vertex_of_word
of_actor q r w e = rw (eq-eqb (w % 2) 1 e)

pub of_own : (q r : Bytes) (w : ℕ) → (w % 2 ≡ 1 → ⊥) → vertex_of_word q r w ≡ own (w / 2 / 2097152) (name_of q r (w / 2))
unfolding vertex_of_word
of_own q r w e = rw (ne_eqb (w % 2) 1 e)

-- which vertices are the same: actor vertices of one name, own vertices of one text and one name
module _ (q r : Bytes) (a b : ℕ) where
  pub actor_and_actor : a % 2 ≡ 1 → b % 2 ≡ 1 → same_vertex (vertex_of_word q r a) (vertex_of_word q r b) ≡ same (name_of q r (a / 2)) (name_of q r (b / 2))
  unfolding same_vertex
  actor_and_actor e f = rw (of_actor q r a e, of_actor q r b f)

  pub actor_and_own : a % 2 ≡ 1 → (b % 2 ≡ 1 → ⊥) → same_vertex (vertex_of_word q r a) (vertex_of_word q r b) ≡ false
  unfolding same_vertex
  actor_and_own e f = rw (of_actor q r a e, of_own q r b f)

  pub own_and_actor : (a % 2 ≡ 1 → ⊥) → b % 2 ≡ 1 → same_vertex (vertex_of_word q r a) (vertex_of_word q r b) ≡ false
  unfolding same_vertex
  own_and_actor e f = rw (of_own q r a e, of_actor q r b f)

  pub own_of_one_text : (a % 2 ≡ 1 → ⊥) → (b % 2 ≡ 1 → ⊥) → a / 2 / 2097152 ≡ b / 2 / 2097152
      → same_vertex (vertex_of_word q r a) (vertex_of_word q r b) ≡ same (name_of q r (a / 2)) (name_of q r (b / 2))
  unfolding same_vertex
  own_of_one_text e f g = rw (of_own q r a e, of_own q r b f, eq-eqb (a / 2 / 2097152) (b / 2 / 2097152) g)

  pub own_of_two_texts : (a % 2 ≡ 1 → ⊥) → (b % 2 ≡ 1 → ⊥) → (a / 2 / 2097152 ≡ b / 2 / 2097152 → ⊥)
      → same_vertex (vertex_of_word q r a) (vertex_of_word q r b) ≡ false
  unfolding same_vertex
  own_of_two_texts e f g = rw (of_own q r a e, of_own q r b f, ne_eqb (a / 2 / 2097152) (b / 2 / 2097152) g)

-- what the words say that are made of a name's place
module _ (q r : Bytes) (k start size : ℕ) (low : start < 65536) (short : size < 32) where
  pub name_word_says : name_of q r ((k * 65536 + start) * 32 + size) ≡ part_of (text_of q r k) start size
  unfolding name_of
  name_word_says =
      let a : ((k * 65536 + start) * 32 + size) / 2097152 ≡ k = omega arith in
      let b : ((k * 65536 + start) * 32 + size) / 32 % 65536 ≡ start = omega arith in
      let c : ((k * 65536 + start) * 32 + size) % 32 ≡ size = omega arith in
      rw (a, b, c)

  pub word_inside : (name : ℕ) → name ≡ (k * 65536 + start) * 32 + size → start + size ≤ length (text_of q r k) → NameInside q r name
  word_inside name n h =
      let a : ((k * 65536 + start) * 32 + size) / 2097152 ≡ k = omega arith in
      let b : ((k * 65536 + start) * 32 + size) / 32 % 65536 ≡ start = omega arith in
      let c : ((k * 65536 + start) * 32 + size) % 32 ≡ size = omega arith in
      rw (n, a, b, c) h

  pub vertex_inside : (name out : ℕ) (t : Bool) → name ≡ (k * 65536 + start) * 32 + size → out ≡ name * 2 + pick t 1 0
      → start + size ≤ length (text_of q r k) → NameInside q r (out / 2)
  vertex_inside name out t n o h = subst (NameInside q r) (sym (ap (λ z. z / 2) o ∙ half name t)) (word_inside name n h)

  pub vertex_word_says : (actors : List Bytes)
      → vertex_of_word q r (((k * 65536 + start) * 32 + size) * 2 + pick (mem (part_of (text_of q r k) start size) actors) 1 0)
      ≡ weave_vertex k actors (part_of (text_of q r k) start size)
  unfolding weave_vertex
  vertex_word_says actors = go (mem (part_of (text_of q r k) start size) actors)
    where
      w : ℕ
      w = (k * 65536 + start) * 32 + size

      half : (d : ℕ) → d < 2 → name_of q r ((w * 2 + d) / 2) ≡ part_of (text_of q r k) start size
      half d l = let e : (w * 2 + d) / 2 ≡ w = omega arith in rw e name_word_says

      go : (t : Bool) → vertex_of_word q r (w * 2 + pick t 1 0) ≡ pick t (actor (part_of (text_of q r k) start size)) (own k (part_of (text_of q r k) start size))
      go true = of_actor q r (w * 2 + 1) (omega arith) ∙ ap actor (half 1 (omega arith))
      go false = let e : (w * 2 + 0) / 2 / 2097152 ≡ k = omega arith in of_own q r (w * 2 + 0) (λ f. omega arith) ∙ ap₂ own e (half 0 (omega arith))

  -- the word that is made of a name and of whether it is an actor
  pub vertex_says : (actors : List Bytes) (name out : ℕ) (is-actor : Bool) → name ≡ (k * 65536 + start) * 32 + size
      → is-actor ≡ mem (name_of q r name) actors → out ≡ name * 2 + pick is-actor 1 0
      → vertex_of_word q r out ≡ weave_vertex k actors (part_of (text_of q r k) start size)
  vertex_says actors name out is-actor n a o =
      let said : name_of q r name ≡ part_of (text_of q r k) start size = ap (name_of q r) n ∙ name_word_says in
      ap (vertex_of_word q r) (o ∙ ap₂ (λ x t. x * 2 + pick t 1 0) n (a ∙ ap (λ z. mem z actors) said)) ∙ vertex_word_says actors
