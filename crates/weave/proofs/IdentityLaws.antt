-- Laws of identities: the node that a vertex has, and the marks at those that have one. Assumes nothing.
use Prim.Native.Nat.{ℕ, zero, suc, ◌+◌, ◌/◌, ◌%◌, ◌<◌, ◌≤◌}
use mathlib.Core.Path.{◌≡◌, refl, sym, ap, ap₂, subst, ◌∙◌}
use mathlib.Core.Logic.{◌≢◌, ◌⊎◌, inl, ⊎_elim}
use mathlib.Core.List.{List, [], ◌∷◌}
use mathlib.Core.Bool.{Bool, true, false, not, ◌&&◌, ◌||◌}
use native.Mathlib.Omega.{arith}
use lib.ListN.{length, get_or, set, take, length-set}
use lib.Seq.{get_or-set_same, get_or-set_other, get_or-take, length-take-le}
use lib.Dec.{eqb}
use borrow.Author.Tests.{eq-eqb, ne_eqb}
use Rattle.logic.specs.Tests.{either, equal_or_not}
use Rattle.model.specs.Bytes.{Bytes, same}
use Rattle.model.specs.Choice.{pick, nothing, just}
use Rattle.model.specs.Lists.{any}
use Rattle.model.specs.Request.{Identity}
use Rattle.model.specs.Weave.{WovenVertex, identified_by}
use Rattle.model.specs.Answers.{name_at, identity_in}
use Rattle.model.specs.declared.Identity.{Identity as IdentityData}
use Rattle.model.proofs.Places.{get_or_map, length_map}
use Rattle.bits.specs.Word.{bit, with}
use Rattle.bits.specs.WordLaws.{bit_zero}
use Rattle.woven_tables.specs.Tables.{vertex_of_word, name_of, no_node, node_in, identity_at, woven_words}
use Rattle.weave.specs.Identities.{identity_of, identities_in, no_identity, IdentitiesGiven}
use Rattle.woven_tables.proofs.NameLaws.{of_actor, of_own}
use Rattle.weave.proofs.TieLaws.{bit_mark_if}

-- an identity of nobody
abbrev nobody : Identity
nobody = record { actor = []; node = 0 }

-- the first identity of a vertex is the one that counts
pub identity_found : (ids : List Identity) (v : WovenVertex) (i : ℕ) → i < length ids → ((j : ℕ) → j < i → identified_by v (get_or ids j nobody) ≡ false)
    → identified_by v (get_or ids i nobody) ≡ true → identity_of ids v ≡ just (get_or ids i nobody).node
unfolding identity_of
identity_found [] v i h f t = absurd (omega arith)
identity_found (x ∷ ids) v zero h f t = rw t
identity_found (x ∷ ids) v (suc i) h f t = ap (λ z. pick z (just x.node) (identity_of ids v)) (f 0 (omega arith))
    ∙ identity_found ids v i (omega arith) (λ j l. f (suc j) (omega arith)) t

pub identity_none : (ids : List Identity) (v : WovenVertex) → ((j : ℕ) → j < length ids → identified_by v (get_or ids j nobody) ≡ false)
    → identity_of ids v ≡ nothing
unfolding identity_of
identity_none [] v f = refl
identity_none (x ∷ ids) v f = ap (λ z. pick z (just x.node) (identity_of ids v)) (f 0 (omega arith)) ∙ identity_none ids v (λ j l. f (suc j) (omega arith))

-- a vertex has an identity exactly if it has a node by the identities
named_some : (ids : List Identity) (v : WovenVertex) (n : ℕ) → identity_of ids v ≡ just n → any (identified_by v) ids ≡ true
unfolding identity_of any
named_some [] v n e = cc
named_some (x ∷ ids) v n e = go (identified_by v x) (named_some ids v n) e
  where
    go : (t : Bool) → (identity_of ids v ≡ just n → any (identified_by v) ids ≡ true) → pick t (just x.node) (identity_of ids v) ≡ just n
        → pick t true (any (identified_by v) ids) ≡ true
    go true f e = refl
    go false f e = f e

named_none : (ids : List Identity) (v : WovenVertex) → identity_of ids v ≡ nothing → any (identified_by v) ids ≡ false
unfolding identity_of any
named_none [] v e = refl
named_none (x ∷ ids) v e = go (identified_by v x) (named_none ids v) e
  where
    go : (t : Bool) → (identity_of ids v ≡ nothing → any (identified_by v) ids ≡ false) → pick t (just x.node) (identity_of ids v) ≡ nothing
        → pick t true (any (identified_by v) ids) ≡ false
    go true f e = cc
    go false f e = f e

named_by_node : (ids : List Identity) (v : WovenVertex) (w : ℕ) → node_in w ≡ identity_of ids v → any (identified_by v) ids ≡ not (eqb w no_node)
unfolding node_in
named_by_node ids v w e = go (eqb w no_node) e
  where
    go : (t : Bool) → pick t nothing (just w) ≡ identity_of ids v → any (identified_by v) ids ≡ not t
    go true f = named_none ids v (sym f)
    go false f = named_some ids v w (sym f)

-- identities in an array
module _ (request : Bytes) (identities : List IdentityData) (count : ℕ) (few : count ≤ length identities) where
  length_identities : length (identities_in request identities count) ≡ count
  length_identities = length_map (identity_in request) (take count identities) ∙ length-take-le count identities few

  at_identity : (i : ℕ) → i < count → get_or (identities_in request identities count) i nobody ≡ identity_in request (get_or identities i no_identity)
  at_identity i h =
      let l = length-take-le count identities few in
      get_or_map (identity_in request) (take count identities) i no_identity nobody (omega arith)
      ∙ ap (identity_in request) (get_or-take count identities i no_identity h)

  pub found_in : (v : WovenVertex) (i : ℕ) → i < count → ((j : ℕ) → j < i → identified_by v (identity_in request (get_or identities j no_identity)) ≡ false)
      → identified_by v (identity_in request (get_or identities i no_identity)) ≡ true
      → identity_of (identities_in request identities count) v ≡ just (get_or identities i no_identity).node
  unfolding identity_in
  found_in v i h f t =
      let ids = identities_in request identities count in
      identity_found ids v i (omega (arith, length_identities)) (λ j l. ap (identified_by v) (at_identity j (omega arith)) ∙ f j l)
      (ap (identified_by v) (at_identity i h) ∙ t) ∙ ap (λ (z : Identity). just z.node) (at_identity i h)

  pub none_in : (v : WovenVertex) → ((j : ℕ) → j < count → identified_by v (identity_in request (get_or identities j no_identity)) ≡ false)
      → identity_of (identities_in request identities count) v ≡ nothing
  unfolding identity_in
  none_in v f = identity_none (identities_in request identities count) v
      (λ j l. let m : j < count = omega (arith, length_identities) in ap (identified_by v) (at_identity j m) ∙ f j m)

  -- an own vertex has no identity
  pub own_has_none : (q r : Bytes) (w : ℕ) → (w % 2 ≡ 1 → ⊥) → identity_of (identities_in request identities count) (vertex_of_word q r w) ≡ nothing
  unfolding identified_by
  own_has_none q r w e = none_in (vertex_of_word q r w) (λ j l. ap (λ v. identified_by v (identity_in request (get_or identities j no_identity))) (of_own q r w e))

-- a node's number is its word
pub node_said : (n : ℕ) → n < 256 → node_in n ≡ just n
unfolding node_in
node_said n h = rw (ne_eqb n no_node (λ e. omega arith))

-- the first i vertices have their nodes
pub record GivenSoFar (q r : Bytes) (ids : List Identity) (old words : List ℕ) (i mask : ℕ) : Type 0 where
  pub size : length words ≡ length old
  pub given : IdentitiesGiven q r ids old words i mask
  pub none_above : (v : ℕ) → i ≤ v → bit mask v ≡ false

pub given_start : (q r : Bytes) (ids : List Identity) (old : List ℕ) → GivenSoFar q r ids old old 0 0
given_start q r ids old = record {
  size = refl;
  given =
      record { given = λ v h. absurd (omega arith); marked = λ v h. absurd (omega arith); kept = λ i z. refl };
  none_above = λ v h. bit_zero v;
}

pub given_more : (q r : Bytes) (ids : List Identity) (old words : List ℕ) (i mask node : ℕ) → GivenSoFar q r ids old words i mask → i < 24
    → woven_words ≤ length words → node_in node ≡ identity_of ids (vertex_of_word q r (get_or words i 0))
    → GivenSoFar q r ids old (set words (412 + i) node) (i + 1) (pick (not (eqb node no_node)) (with mask i) mask)
unfolding identity_at
given_more q r ids old words i mask node so_far low size said =
    let t = not (eqb node no_node) in
    let own : node_in node ≡ identity_of ids (vertex_of_word q r (get_or old i 0)) = said
    ∙ ap (λ w. identity_of ids (vertex_of_word q r w)) (so_far.given.kept i (inl (omega arith))) in
    record {
      size = length-set words (412 + i) node ∙ so_far.size;
      given = record {
        given = λ v h. either (equal_or_not v i)
            (λ e. subst (λ v. node_in (get_or (set words (412 + i) node) (412 + v) 0) ≡ identity_of ids (vertex_of_word q r (get_or old v 0))) (sym e)
            (ap node_in (get_or-set_same words (412 + i) node 0 (omega arith)) ∙ own))
            (λ e. ap node_in (get_or-set_other words (412 + i) (412 + v) node 0 (λ z. e.1 (omega arith))) ∙ so_far.given.given v (below_of v e.1 h));
        marked = λ v h. bit_mark_if t mask i v ∙ either (equal_or_not v i)
            (λ e. subst (λ v. bit mask v || (eqb v i && t) ≡ any (identified_by (vertex_of_word q r (get_or old v 0))) ids) (sym e)
            (ap₂ (λ x y. x || (y && t)) (so_far.none_above i (omega arith)) (eq-eqb i i refl)
            ∙ sym (named_by_node ids (vertex_of_word q r (get_or old i 0)) node own)))
            (λ e. ap (λ y. bit mask v || (y && t)) (ne_eqb v i e.1) ∙ unmarked t (bit mask v) ∙ so_far.given.marked v (below_of v e.1 h));
        kept = λ j z. get_or-set_other words (412 + i) j node 0 (λ e. ⊎_elim (λ y. omega arith) (λ y. omega arith) z) ∙ so_far.given.kept j z;
      };
      none_above = λ v h. bit_mark_if t mask i v ∙ ap₂ (λ x y. x || (y && t)) (so_far.none_above v (omega arith)) (ne_eqb v i (λ e. omega arith))
          ∙ unmarked t false;
    }
  where
    below_of : (v : ℕ) → v ≢ i → v < i + 1 → v < i
    below_of v e h = omega arith

    unmarked : (t b : Bool) → b || (false && t) ≡ b
    unmarked t true = refl
    unmarked t false = refl

-- an actor vertex's name was compared
pub compared : (q r request : Bytes) (w : ℕ) (x : IdentityData) (name : Bytes) (t : Bool) → w % 2 ≡ 1
    → name ≡ name_at request x.actor → t ≡ same (name_of q r (w / 2)) name
    → identified_by (vertex_of_word q r w) (identity_in request x) ≡ t
unfolding identified_by identity_in
compared q r request w x name t e n s = ap (λ v. identified_by v (identity_in request x)) (of_actor q r w e) ∙ ap (same (name_of q r (w / 2))) (sym n) ∙ sym s
