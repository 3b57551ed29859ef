-- The front of a buffer into which a text was put.
use Rattle.std.proofs.Common.{◌≡◌, ℕ, ◌≤◌, List, ◌++◌, length, take, drop, ap, ◌∙◌, take_all}
use Rattle.std.proofs.Math.Seq.{take-append_seam}

-- of a text that was put as far as the buffer reaches, and fits, as many bytes as it has are the text
pub front_is_text : (t o o' : List ℕ) (n : ℕ) → n ≡ length t → o' ≡ take (length o) t ++ drop (length t) o → length t ≤ length o → take n o' ≡ t
front_is_text t o o' n answer text fits =
    ap (take n) (text ∙ ap (λ l. l ++ drop (length t) o) (take_all (length o) t fits))
    ∙ ap (λ m. take m (t ++ drop (length t) o)) answer ∙ take-append_seam t (drop (length t) o)
