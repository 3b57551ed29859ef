-- A short text that is put at the start of a buffer is the buffer's front. Assumes nothing.
use Rattle.std.proofs.Common.{◌≡◌, ℕ, ◌≤◌, arith, length, take, replicate}
use Rattle.std.proofs.lemmas.List.{length-replicate}
use Rattle.model.specs.Bytes.{Bytes}
use Rattle.putting.specs.Putting.{Puts}
use Rattle.list_lines.specs.Printing.{in_front}
use Rattle.list_lines.proofs.FrontLaws.{prints}
use Rattle.program_io.proofs.FrontLaws.{front_is_text}

pub put_is_front : (t o' : Bytes) (n k : ℕ) → k ≤ 622605 → length t ≤ k → Puts (replicate k 0) 0 t o' n → take n o' ≡ t
unfolding in_front
put_is_front t o' n k fits short put =
    let given = prints (omega arith) put in
    front_is_text t (replicate k 0) o' n given.answer given.text (omega (arith, short, length-replicate {A = ℕ} k 0))
