-- The identities of a request that was read: their actors lie in its text, and no more are counted than there are slots. Assumes nothing.
use Prim.Native.Nat.{ℕ, ◌-◌}
use mathlib.Core.Path.{◌≡◌, sym, ap, subst, ◌∙◌}
use mathlib.Core.List.{[]}
use mathlib.Core.Bool.{false}
use native.Mathlib.Omega.{arith}
use lib.ListN.{length, drop, replicate, length-append, length-replicate}
use Rattle.request.proofs.StoreLaws.{placed_length}
use Rattle.model.specs.Bytes.{Bytes}
use Rattle.model.specs.Refusal.{Outcome, accepted, refused}
use Rattle.model.specs.Service.{RequestAnswer, request_service}
use Rattle.model.specs.RequestPlaces.{words_from, no_identity, placed_by, identity_places, slots}
use Rattle.model.specs.RequestAnswer.{told_request, request_read}
use Rattle.model.specs.declared.RequestRead.{RequestRead}
use Rattle.enforce.proofs.IdentityLaws.{actor_inside}
use Rattle.print_answers.specs.Identities.{IdentitiesInside}

told_inside : (text : Bytes) (o : Outcome RequestAnswer) → length (told_request text o).identities ≡ 8
    → IdentitiesInside text (told_request text o).identities (told_request text o).count
unfolding told_request identity_places placed_by slots
told_inside text (accepted a) h =
    let words = drop 2 (words_from false 0 text) in
    let placed = placed_by words a.identities in
    let left = 8 - length placed in
    let none = replicate left no_identity in
    record {
      few = omega (arith, h, length-append placed none, length-replicate left no_identity, placed_length words a.identities);
      actors = actor_inside text a.identities;
    }
told_inside text (refused r) h = record { few = omega arith; actors = actor_inside text [] }

-- what the request reader answers can be printed
pub request_inside : (work : ℕ) (book rules request : Bytes) (r : RequestRead) → r ≡ request_read work book rules request → length r.identities ≡ 8
    → IdentitiesInside request r.identities r.count
unfolding request_read
request_inside work book rules request r e h =
    subst (λ (x : RequestRead). IdentitiesInside request x.identities x.count) (sym e)
    (told_inside request (request_service work book rules request).answer (ap (λ (x : RequestRead). length x.identities) (sym e) ∙ h))
