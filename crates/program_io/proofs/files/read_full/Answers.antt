-- A read puts its bytes behind those that were read before it.
use Rattle.std.proofs.Common.{◌≡◌, ℕ, ◌+◌, ◌≤◌, List, ◌++◌, rules, length, take, sym, ap, subst, ◌∙◌}
use Rattle.std.proofs.Math.Seq.{take-append-add}
use Rattle.std.proofs.lemmas.List.{length-take-le, take-append-le}
use Rattle.std.specs.Io.KnownBytes.{Consumes}
use Rattle.std.proofs.KnownBytes.{Consumes-trans}
use borrow.Rule.Slice.PartMut.{put_mid, post_of}
use Rattle.program_io.proofs.files.read_full.Goals as goal

-- the first bytes once a part has been put behind the first a
take_put_mid : (a k n : ℕ) (xs ys : List ℕ) → a ≤ length xs → n ≤ length ys → take (a + n) (put_mid a k xs ys) ≡ take a xs ++ take n ys
take_put_mid a k n xs ys p q =
    let behind = ys ++ post_of a k xs in
    ap (λ m. take (m + n) (take a xs ++ behind)) (sym (length-take-le a xs p)) ∙ take-append-add (take a xs) behind n
    ∙ ap (λ l. take a xs ++ l) (take-append-le n ys (post_of a k xs) q)

pub loop-done-preserved : goal.loop-done-preserved
loop-done-preserved g c =
    let read = c.in-Ok.ensures in
    let before = c.loop-done.invariant in
    (search rules, subst (Consumes _ _) (sym (take_put_mid _ _ _ _ _ before.0 read.bound.0)) (Consumes-trans _ _ _ _ _ before.1 read.bytes.0))
