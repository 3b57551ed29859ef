-- A list of which the rest from a place on, if the place lies in it, was written anew as cleared words. Assumes nothing.
use Rattle.std.proofs.Common.{◌≡◌, ℕ, ◌-◌, min, List, ◌++◌, length, take, drop, replicate, arith, ap}
use lib.ListN.{length-take, length-drop, drop_of_length-le}
use lib.Seq.{take_all}
use mathlib.Core.List.{append-nil}
use Rattle.fill.specs.Filled.{cleared, filled}
use Rattle.logic.specs.Tests.{either, below_or_not}

pub filled_rest : (l : List ℕ) (from start : ℕ) (rest : List ℕ) → start ≡ min from (length l)
    → rest ≡ replicate (length (take (length l - start) (drop start l))) cleared
    → take start l ++ (rest ++ drop (length l - start) (drop start l)) ≡ filled from l
unfolding filled
filled_rest l from start rest s r =
    let n : length (take (length l - start) (drop start l)) ≡ length l - from = simp (length-take, length-drop) (omega arith) in
    let b : take start l ≡ take from l = either (below_or_not from (length l))
    (λ h. let e : start ≡ from = omega arith in ap (λ k. take k l) e)
    (λ h. rw (take_all start l (omega arith), take_all from l h)) in
    let d : drop (length l - start) (drop start l) ≡ List.[] = drop_of_length-le (drop start l) (simp length-drop (omega arith)) in
    rw (r, n, b, d, append-nil)
