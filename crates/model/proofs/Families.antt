-- Families of mappings, one for each text, and mappings of the woven pattern: what weaving relates.
use Prim.Native.Nat.{ℕ, ◌<◌}
use mathlib.Core.Path.{◌≡◌, ap, subst}
use mathlib.Core.Logic.{◌↔◌}
use mathlib.Core.List.{List, [], ◌∷◌, map}
use native.Mathlib.Omega.{arith}
use lib.ListN.{length, get_or}
use Rattle.model.specs.Book.{Book}
use Rattle.model.specs.Request.{Identity}
use Rattle.model.specs.Graph.{Each}
use Rattle.model.specs.Satisfies.{NumberedMapping, Satisfies}
use Rattle.model.specs.Weave.{Asked, weave, actor, no_vertex}
use Rattle.model.specs.MayHave.{Mapped, AllAgree, Identified, MayHave}
use Rattle.model.proofs.Members.{◌∈◌}
use Rattle.model.proofs.Choices.{IsModel}

-- the text of a mapping
abbrev pub asked_of : Mapped → Asked
asked_of h = h.asked

-- a family: a model of each text, all of them agreeing on the actors they share and on the identities
pub record Family (b : Book) (ids : List Identity) (asked : List Asked) (hs : List Mapped) : Type 0 where
  pub one_each : map asked_of hs ≡ asked
  pub models : Each (IsModel b) hs
  pub agreeing : AllAgree hs
  pub identified : Each (Identified ids) hs

-- the row of a family: the nodes that its first mapping, the query's, gives the Return names
abbrev pub family_row : List Mapped → List ℕ
family_row [] = []
family_row (h ∷ hs) = map h.mapping.node h.asked.text.returns

-- a mapping of the woven pattern that keeps the identities
pub record WovenModel (b : Book) (ids : List Identity) (asked : List Asked) (m : NumberedMapping) : Type 0 where
  pub satisfies : Satisfies b (weave asked) m
  pub identified : (i : ℕ) → i < length (weave asked).vertices → (d : Identity) → d ∈ ids → get_or (weave asked).vertices i no_vertex ≡ actor d.actor
      → m.node i ≡ d.node

-- the row of a mapping of the woven pattern
abbrev pub woven_row : List Asked → NumberedMapping → List ℕ
woven_row asked m = map m.node (weave asked).returns

-- a row of the woven pattern, with the identities given
pub record WovenRow (b : Book) (ids : List Identity) (asked : List Asked) (row : List ℕ) : Type 0 where
  pub woven : NumberedMapping
  pub model : WovenModel b ids asked woven
  pub gives : row ≡ woven_row asked woven

-- a row may be had exactly if a family gives it
pub had_by_family : (b : Book) (ids : List Identity) (query : Asked) (policies : List Asked) (row : List ℕ)
    → MayHave b ids query policies row ↔ ((hs : List Mapped) × Family b ids (query ∷ policies) hs × (family_row hs ≡ row))
had_by_family b ids query policies row = (
  λ h. let first : Mapped = record { asked = query; mapping = h.of_query } in (
    first ∷ h.of_policies,
    record { one_each = ap (λ z. query ∷ z) h.each_policy; models = h.models_each; agreeing = h.agreeing; identified = h.identified },
    h.gives,
  ),
  λ z. back z.0 z.1 z.2,
)
  where
    back : (hs : List Mapped) → Family b ids (query ∷ policies) hs → family_row hs ≡ row → MayHave b ids query policies row
    back [] f e = let z : ◌≡◌ {A = List Asked} [] (query ∷ policies) = f.one_each in let w : ◌≡◌ {A = ℕ} 0 1 = cc in absurd (omega arith)
    back (h ∷ hs) f e =
        let z : ◌≡◌ {A = List Asked} (h.asked ∷ map asked_of hs) (query ∷ policies) = f.one_each in
        let d : h.asked ≡ query = cc in
        let p : map asked_of hs ≡ policies = cc in
        subst (λ q. MayHave b ids q policies row) d (record {
          of_query = h.mapping;
          of_policies = hs;
          each_policy = p;
          models_each = f.models;
          agreeing = f.agreeing;
          identified = f.identified;
          gives = e;
        })
