-- Laws of what stands in a text from a place on: it is of the next piece and of what follows it, and all of it lies within the text.
use Prim.Native.Nat.{ℕ, zero, suc, ◌+◌, ◌-◌, ◌<◌}
use mathlib.Core.Path.{◌≡◌, refl, sym, ap, subst, ◌∙◌}
use mathlib.Core.List.{List, [], ◌∷◌, ◌++◌, map, append_assoc, append-nil}
use mathlib.Core.Bool.{Bool, true, false}
use native.Mathlib.Omega.{arith}
use lib.ListN.{length, get_or, drop, length-take, length-drop}
use Rattle.std.specs.Prelude.{Result, Ok, Err}
use Rattle.model.specs.Bytes.{Bytes}
use Rattle.model.specs.Choice.{pick, Maybe, nothing, just, and_then}
use Rattle.model.specs.Lists.{joined}
use Rattle.model.specs.Names.{mem}
use Rattle.model.specs.Words.{Got}
use Rattle.model.specs.Signs.{Sign}
use Rattle.model.specs.Graph.{Each}
use Rattle.model.specs.Grammar.{Piece, Spot, spot_after, piece_at}
use Rattle.model.specs.Answers.{name_at, part_of}
use Rattle.model.specs.Places.{placed, none, Standing, vertex, edge, value, standings, standing_in, vertex_part, edge_part, value_part, add_part}
use Rattle.model.specs.Places.{first_parts, vertex_parts, edge_parts, value_parts}
use Rattle.model.specs.declared.Part.{Part}
use Rattle.text.specs.Parts.{HasPart}
use Rattle.model.proofs.Standings.{none_placed, EndsBy, standings_end}
use Rattle.query_signs.specs.Reads.{signs_from}
use Rattle.query_pieces.specs.Walk.{Walk, stopped, ahead, or_stopped, walk}
use Rattle.query_pieces.specs.Steps.{spot_of, chain_at, walk_at, standings_at, piece_standing, StepStands, StepAt}
use Rattle.query_pieces.specs.declared.Place.{Place}
use Rattle.query_pieces.specs.declared.Step.{Step}
use Rattle.model.proofs.Places.{joined_append}
use Rattle.query_survey.specs.Names.{text_start}
use Rattle.query_survey.proofs.ScanLaws.{step_whole, step_none}

-- a part ends within its text, and is as long as the name that stands there
pub record Inside (s : Bytes) (p : Part) : Type 0 where
  pub ends : HasPart s p
  pub long : p.length ≡ length (name_at s p)

-- a whole text without pieces more has no signs more
no_signs_more : (p : Spot) (ts : List Sign) → (walk p 0 ts).found ≡ [] → (walk p 0 ts).whole ≡ true → ts ≡ []
unfolding walk or_stopped and_then stopped ahead
no_signs_more p [] e w = refl
no_signs_more p (t ∷ ts) e w = go (piece_at p t ts) e w
  where
    next : Got Piece → Maybe Walk
    next g = just (ahead g.got (walk (spot_after g.got) (g.size - 1) ts))

    go : (m : Maybe (Got Piece)) → (or_stopped (and_then m next)).found ≡ [] → (or_stopped (and_then m next)).whole ≡ true → t ∷ ts ≡ []
    go nothing e w = cc
    go (just g) e w = cc

-- the beginning of a text
pub text_standing : (s : Bytes) → standings_at s text_start ≡ standing_in s
unfolding standing_in chain_at
text_standing s = refl

module _ (s : Bytes) (from : Place) where
  no_standing : (walk_at s from).found ≡ [] → (walk_at s from).whole ≡ true → standings_at s from ≡ []
  unfolding walk_at standings
  no_standing e w = ap (standings none) (none_placed (chain_at from.spot) from.close 0 from.at (drop from.at s)
      (no_signs_more (spot_of from.spot) (signs_from (chain_at from.spot) from.close s from.at) e w))

  module _ (r : Result Step Bool) (h : StepAt s from r) where
    pub parts_found : (f : Standing → List Part) (x : Step) → r ≡ Ok x
        → joined f (standings_at s from) ≡ joined f (piece_standing x.piece) ++ joined f (standings_at s x.next)
    parts_found f x e = ap (joined f) (subst (StepStands (standings_at s from) s) e h.stands)
        ∙ joined_append f (piece_standing x.piece) (standings_at s x.next)

    pub parts_none : (f : Standing → List Part) (w : Bool) → r ≡ Err w → (walk_at s from).whole ≡ true → joined f (standings_at s from) ≡ []
    unfolding joined
    parts_none f w e k = ap (joined f) (no_standing (step_none s from r h w e) k)

-- the parts found so far, with those behind a place, are all
pub record PartsSoFar (f : Standing → List Part) (s : Bytes) (from : Place) (parts : List Part) : Type 0 where
  pub rest : parts ++ joined f (standings_at s from) ≡ joined f (standing_in s)
  pub whole : (walk_at s text_start).whole ≡ (walk_at s from).whole

module _ (f : Standing → List Part) (s : Bytes) (from : Place) where
  pub parts_start : from ≡ text_start → PartsSoFar f s from []
  parts_start e = subst (λ (p : Place). PartsSoFar f s p []) (sym e) (record { rest = ap (joined f) (text_standing s); whole = refl })

  module _ (parts : List Part) (so : PartsSoFar f s from parts) (r : Result Step Bool) (h : StepAt s from r) where
    pub parts_on : (x : Step) → r ≡ Ok x → (more : List Part) → more ≡ parts ++ joined f (piece_standing x.piece) → PartsSoFar f s x.next more
    parts_on x e more k = record {
      rest = ap (λ l. l ++ joined f (standings_at s x.next)) k ∙ append_assoc parts (joined f (piece_standing x.piece)) (joined f (standings_at s x.next))
          ∙ ap (λ l. parts ++ l) (sym (parts_found s from r h f x e)) ∙ so.rest;
      whole = so.whole ∙ step_whole s from r h x e;
    }

    pub parts_all : (w : Bool) → r ≡ Err w → (walk_at s text_start).whole ≡ true → parts ≡ joined f (standing_in s)
    parts_all w e k = sym (append-nil parts) ∙ ap (λ l. parts ++ l) (sym (parts_none s from r h f w e (sym so.whole ∙ k))) ∙ so.rest

-- a part that ends within its text is inside it
pub part_inside : (s : Bytes) (p : Part) → HasPart s p → Inside s p
unfolding name_at part_of
part_inside s p h = record { ends = h; long = let d = length-drop p.start s in let t = length-take p.length (drop p.start s) in omega arith }

-- what holds of each element holds of that at a place
pub each_at : {A : Type 0} (P : A → Type 0) (d : A) (l : List A) → Each P l → (i : ℕ) → i < length l → P (get_or l i d)
each_at P d [] h i k = absurd (omega arith)
each_at P d (x ∷ l) h zero k = h.0
each_at P d (x ∷ l) h (suc i) k = each_at P d l h.1 i (omega arith)

-- what holds of f of each element holds so of each
pub each_of : {A B : Type 0} (P : B → Type 0) (f : A → B) (l : List A) → Each P (map f l) → Each (λ x. P (f x)) l
each_of P f [] h = tt
each_of P f (x ∷ l) h = (h.0, each_of P f l h.1)

each_append : {A : Type 0} (P : A → Type 0) (xs ys : List A) → Each P xs → Each P ys → Each P (xs ++ ys)
each_append P [] ys h g = g
each_append P (x ∷ xs) ys h g = (h.0, each_append P xs ys h.1 g)

pub each_front : {A : Type 0} (P : A → Type 0) (xs ys : List A) → Each P (xs ++ ys) → Each P xs × Each P ys
each_front P [] ys h = (tt, h)
each_front P (x ∷ xs) ys h = let r = each_front P xs ys h.1 in ((h.0, r.0), r.1)

-- what holds of each of the joined lists holds in each of them
pub each_joined : {A B : Type 0} (P : B → Type 0) (f : A → List B) (l : List A) → Each P (joined f l) → Each (λ x. Each P (f x)) l
unfolding joined
each_joined P f [] h = tt
each_joined P f (x ∷ l) h = let r = each_front P (f x) (joined f l) h in (r.0, each_joined P f l r.1)

each_part : {A B : Type 0} (P : A → Type 0) (Q : B → Type 0) (f : A → List B) → ((x : A) → P x → Each Q (f x)) → (l : List A) → Each P l → Each Q (joined f l)
unfolding joined
each_part P Q f g [] h = tt
each_part P Q f g (x ∷ l) h = each_append Q (f x) (joined f l) (g x h.0) (each_part P Q f g l h.1)

each_first : (P : Part → Type 0) (s : Bytes) (seen ps : List Part) → Each P seen → Each P ps → Each P (first_parts s seen ps)
unfolding first_parts add_part
each_first P s seen [] h g = h
each_first P s seen (p ∷ ps) h g = each_first P s (add_part s seen p) ps (go (mem (name_at s p) (map (name_at s) seen))) g.1
  where
    go : (t : Bool) → Each P (pick t seen (seen ++ (p ∷ [])))
    go true = h
    go false = each_append P seen (p ∷ []) h (g.0, tt)

pub each_seen : (P : Part → Type 0) (s : Bytes) (seen ps : List Part) → Each P (first_parts s seen ps) → Each P seen
unfolding first_parts add_part
each_seen P s seen [] h = h
each_seen P s seen (p ∷ ps) h = go (mem (name_at s p) (map (name_at s) seen)) (each_seen P s (add_part s seen p) ps h)
  where
    go : (t : Bool) → Each P (pick t seen (seen ++ (p ∷ []))) → Each P seen
    go true h = h
    go false h = (each_front P seen (p ∷ []) h).0

-- all parts of a text end within it; behind a text value stands its apostrophe
abbrev pub EndsBefore : Bytes → Part → Type 0
EndsBefore s p = p.start + p.length < length s

module _ (s : Bytes) where
  all_end : Each (EndsBy (length s)) (standing_in s)
  unfolding standing_in
  all_end = let e : 0 + length s ≡ length s = omega arith in
      subst (λ n. Each (EndsBy n) (standings none (placed false false 0 0 s))) e (standings_end false false 0 0 s none)

  pub vertices_end : Each (HasPart s) (vertex_parts s)
  unfolding vertex_parts vertex_part
  vertices_end = each_first (HasPart s) s [] (joined vertex_part (standing_in s)) tt
      (each_part (EndsBy (length s)) (HasPart s) vertex_part one (standing_in s) all_end)
    where
      one : (x : Standing) → EndsBy (length s) x → Each (HasPart s) (vertex_part x)
      one (vertex p) h = (h, tt)
      one (edge p) h = tt
      one (value p) h = tt

  pub edges_end : Each (HasPart s) (edge_parts s)
  unfolding edge_parts edge_part
  edges_end = each_part (EndsBy (length s)) (HasPart s) edge_part one (standing_in s) all_end
    where
      one : (x : Standing) → EndsBy (length s) x → Each (HasPart s) (edge_part x)
      one (vertex p) h = tt
      one (edge p) h = (h, tt)
      one (value p) h = tt

  pub values_end : Each (EndsBefore s) (value_parts s)
  unfolding value_parts value_part
  values_end = each_part (EndsBy (length s)) (EndsBefore s) value_part one (standing_in s) all_end
    where
      one : (x : Standing) → EndsBy (length s) x → Each (EndsBefore s) (value_part x)
      one (vertex p) h = tt
      one (edge p) h = tt
      one (value p) h = (h, tt)
