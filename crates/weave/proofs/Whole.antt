-- For the caller: the words after each text hold the woven pattern of the texts so far, and after the last the answers are the model's. Assumes nothing.
use Prim.Native.Nat.{ℕ, ◌+◌, ◌≤◌}
use mathlib.Core.Path.{◌≡◌, refl, sym, ap, ap₂, subst, ◌∙◌}
use mathlib.Core.Logic.{◌↔◌}
use mathlib.Core.List.Memᴰ
use mathlib.Core.List.{List, [], ◌∷◌, ◌++◌, map, append_assoc}
use mathlib.Core.Bool.{Bool, true, false}
use native.Mathlib.Omega.{arith}
use lib.ListN.{length, drop}
use lib.Dec.{T}
use Rattle.std.specs.Prelude.{None, Some}
use Rattle.logic.specs.Tests.{passes→true}
use Rattle.model.specs.Bytes.{Bytes}
use Rattle.model.specs.Choice.{pick, Maybe, nothing, just}
use Rattle.model.specs.Lists.{keep, joined, firsts_by}
use Rattle.model.specs.Names.{twice}
use Rattle.model.specs.Book.{Book}
use Rattle.model.specs.Refusal.{lowest}
use Rattle.model.specs.Pattern.{pattern_of}
use Rattle.model.specs.Request.{Identity}
use Rattle.model.specs.Graph.{Each}
use Rattle.model.specs.Weave.{Asked, named, moved_clauses, returns_of, weave, woven_too_many, woven_fault, WovenVertex, actor, identified_by}
use Rattle.model.specs.Answers.{pattern_in}
use Rattle.model.specs.declared.Pattern.{Pattern as PatternData}
use Rattle.model.proofs.Members.{◌∈◌, map_i}
use Rattle.model.proofs.Places.{twice_i, twice_tail}
use Rattle.book_tables.specs.Listed.{listed}
use Rattle.woven_tables.specs.declared.WovenCounts.{WovenCounts}
use Rattle.woven_tables.specs.Tables.{text_of, vertices_at, edges_at, clauses_at, returns_at, woven_at, woven_words}
use Rattle.weave.specs.OneMore.{one_more, Ranged}
use Rattle.weave.specs.Adding.{no_counts, Kept, TextAdded}
use Rattle.weave.specs.Identities.{identity_of, EdgesLow, Finished}
use Rattle.weave.proofs.OneMore.{Sound, weave_one_more}
use Rattle.weave.proofs.Limits.{weave_stays_too_many}
use Rattle.weave.proofs.Ranges.{weave_ranged}
use Rattle.weave.proofs.Finishing.{edges_low}
use Rattle.model.proofs.WovenVertices.{identified_exactly}

-- before the first text
pub none_woven : (b : Book) (q r : Bytes) (words : List ℕ) → woven_at b q r words no_counts ≡ weave []
unfolding woven_at vertices_at edges_at clauses_at returns_at listed weave named joined firsts_by moved_clauses returns_of
none_woven b q r words = refl

pub none_kept : (q r : Bytes) (words : List ℕ) → woven_words ≤ length words → Kept q r words no_counts
unfolding clauses_at listed keep
none_kept q r words h = record {
  room = h;
  vertices = omega arith;
  edges = omega arith;
  exclusions = omega arith;
  requirements = omega arith;
  returns =
      omega arith;
  counted = λ b. refl;
  names = λ i l. omega arith;
  values = λ i l z. omega arith;
}

-- the kth text, whose pattern was read from it
module _ (b : Book) (q r : Bytes) (asked : List Asked) (a : Asked) (base : ℕ) (p : PatternData) (old new : List ℕ) (c : WovenCounts)
    (sound : Each Sound asked) (held : woven_at b q r old c ≡ weave asked)
    (pattern : pattern_in b (drop base (text_of q r (length asked))) p ≡ pattern_of a.text) where
  one_more_is : one_more (length asked) a.actors (pattern_in b (drop base (text_of q r (length asked))) p) (woven_at b q r old c) ≡ weave (asked ++ (a ∷ []))
  one_more_is = ap₂ (one_more (length asked) a.actors) pattern held ∙ sym (weave_one_more asked a sound)

  -- the words hold the woven pattern with it
  pub text_held : (n : WovenCounts) → TextAdded q r a.actors (length asked) base p old new c (Some n) → woven_at b q r new n ≡ weave (asked ++ (a ∷ []))
  text_held n added = added.1 b ∙ one_more_is

  -- a limit is passed, whatever texts follow: 12
  pub text_passed : TextAdded q r a.actors (length asked) base p old new c None → (more : List Asked) → Each Sound (asked ++ (a ∷ more))
      → (ids : List Identity) → woven_fault (weave (asked ++ (a ∷ more))) ids ≡ just 12
  unfolding woven_fault lowest
  text_passed added more All-sound ids =
      let e = append_assoc asked (a ∷ []) more in
      let t = subst (λ z. T (woven_too_many (weave z))) e
      (weave_stays_too_many (asked ++ (a ∷ [])) more (subst (Each Sound) (sym e) All-sound) (subst (λ z. T (woven_too_many z)) one_more_is (added b))) in
      rw (passes→true (woven_too_many (weave (asked ++ (a ∷ more)))) t)

-- after the last text
module _ (b : Book) (q r : Bytes) (asked : List Asked) (old new : List ℕ) (c : WovenCounts) (held : woven_at b q r old c ≡ weave asked) where
  pub woven_low : Each Sound asked → EdgesLow old c.edges c.vertices
  woven_low sound = edges_low b q r old c (subst Ranged (sym held) (weave_ranged asked sound))

  module _ (ids : List Identity) (answer : Bool) (finished : Finished q r ids old new c answer) where
    pub woven_stays : woven_at b q r new c ≡ weave asked
    woven_stays = finished.same_pattern b ∙ held

    -- 13 exactly if the answer is no
    pub woven_fault_law : woven_fault (weave asked) ids ≡ pick answer nothing (just 13)
    woven_fault_law = ap (λ z. woven_fault z ids) (sym woven_stays) ∙ finished.fault b

-- a node is the one that identities give to a vertex, where they give one
abbrev pub Identifies : Maybe ℕ → ℕ → Type 0
Identifies nothing n = Unit {0}
Identifies (just m) n = n ≡ m

-- an actor that is identified once is none of the later ones'
once_here : (x : Identity) (ids : List Identity) → (T (twice (map (λ i. i.actor) (x ∷ ids))) → ⊥) → (d : Identity) → d ∈ ids → x.actor ≡ d.actor → ⊥
once_here x ids once d i e = once (twice_i x.actor (map (λ (z : Identity). z.actor) ids)
    (subst (λ w. w ∈ map (λ (z : Identity). z.actor) ids) (sym e) (map_i (λ (z : Identity). z.actor) ids d i)))

by_each : (ids : List Identity) (v : WovenVertex) (n : ℕ) → (T (twice (map (λ i. i.actor) ids)) → ⊥) → Identifies (identity_of ids v) n → (d : Identity)
    → d ∈ ids → v ≡ actor d.actor → n ≡ d.node
unfolding identity_of
by_each [] v n once h d x4 a = elim x4 [ ]
by_each (x ∷ ids) v n once h d (Memᴰ.head e) a = go (identified_by v x) ((identified_exactly v x).1 (a ∙ ap (λ (z : Identity). actor z.actor) e)) h
    ∙ ap (λ (z : Identity). z.node) (sym e)
  where
    go : (t : Bool) → T t → Identifies (pick t (just x.node) (identity_of ids v)) n → n ≡ x.node
    go true f h = h
    go false f h = absurd f
by_each (x ∷ ids) v n once h d (Memᴰ.tail i) a = go (identified_by v x) refl h
    (λ g. by_each ids v n (λ t. once (twice_tail x.actor (map (λ (z : Identity). z.actor) ids) t)) g d i a)
  where
    one_name : actor x.actor ≡ actor d.actor → x.actor ≡ d.actor
    one_name e = cc

    go : (t : Bool) → identified_by v x ≡ t → Identifies (pick t (just x.node) (identity_of ids v)) n → (Identifies (identity_of ids v) n → n ≡ d.node)
        → n ≡ d.node
    go true e h f = absurd (once_here x ids once d i (one_name (sym ((identified_exactly v x).0 (subst T (sym e) tt)) ∙ a)))
    go false e h f = f h

by_all : (ids : List Identity) (v : WovenVertex) (n : ℕ) → ((d : Identity) → d ∈ ids → v ≡ actor d.actor → n ≡ d.node) → Identifies (identity_of ids v) n
unfolding identity_of
by_all [] v n f = tt
by_all (x ∷ ids) v n f = go (identified_by v x) refl (by_all ids v n (λ d i. f d (Memᴰ.tail i)))
  where
    go : (t : Bool) → identified_by v x ≡ t → Identifies (identity_of ids v) n → Identifies (pick t (just x.node) (identity_of ids v)) n
    go true e h = f x (Memᴰ.head refl) ((identified_exactly v x).0 (subst T (sym e) tt))
    go false e h = h

-- where no actor is identified twice, that is what each identity asks
pub identified_by_law : (ids : List Identity) (v : WovenVertex) (n : ℕ) → (T (twice (map (λ i. i.actor) ids)) → ⊥)
    → Identifies (identity_of ids v) n ↔ ((d : Identity) → d ∈ ids → v ≡ actor d.actor → n ≡ d.node)
identified_by_law ids v n once = (by_each ids v n once, by_all ids v n)
