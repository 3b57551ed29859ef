-- The laws of cleared words. Assumes nothing.
use Rattle.std.specs.Prelude.{ℕ, ◌+◌, ◌-◌, ◌≤◌, ◌<◌, ◌≡◌, List, ◌++◌, length, take, get_or, replicate}
use Rattle.std.proofs.Common.{sym, ap, ◌∙◌, arith, length-append, length-take, get_or-take, length-take-le, get_or-append-add}
use Rattle.std.proofs.lemmas.List.{length-replicate, get_or-replicate}
use Rattle.std.proofs.Math.ListN.{get_or-append, get_or-eq_default}
use Rattle.logic.specs.Tests.{either, below_or_not}
use Rattle.fill.specs.Filled.{cleared, filled}

pub length_filled : (from : ℕ) (words : List ℕ) → length (filled from words) ≡ length words
unfolding filled
length_filled from words = simp (length-append, length-take, length-replicate) (omega arith)

-- The words before the place are as they were.
pub filled_before : (from : ℕ) (words : List ℕ) (i : ℕ) → i < from → get_or (filled from words) i 0 ≡ get_or words i 0
unfolding filled
filled_before from words i h =
    either (below_or_not i (length words))
    (λ l. let n : i < length (take from words) = rw length-take (omega arith) in get_or-append (take from words) _ 0 i n ∙ get_or-take from words i 0 h)
    (λ l. get_or-eq_default (take from words ++ _) 0 (simp (length-append, length-take, length-replicate) (omega arith))
    ∙ sym (get_or-eq_default words 0 l))

-- Those from the place on are cleared.
pub filled_after : (from : ℕ) (words : List ℕ) (i : ℕ) → from ≤ i → i < length words → get_or (filled from words) i 0 ≡ cleared
unfolding filled
filled_after from words i h l =
    let e : i ≡ length (take from words) + (i - from) = omega (arith, length-take-le from words (omega arith)) in
    ap (λ j. get_or (take from words ++ replicate (length words - from) cleared) j 0) e
    ∙ get_or-append-add (take from words) _ (i - from) 0 ∙ get_or-replicate (length words - from) (i - from) cleared 0 (omega arith)

-- From the start on, all of it is cleared.
pub filled_whole : (words : List ℕ) → filled 0 words ≡ replicate (length words) cleared
unfolding filled
filled_whole words = let e : length words - 0 ≡ length words = omega arith in rw e
