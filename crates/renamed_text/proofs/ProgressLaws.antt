-- Laws of how far a text is put: what is read waits, and what waits is put with a `_b` behind it. Assumes nothing.
use Prim.Native.Nat.{ℕ, ◌+◌, ◌-◌, ◌≤◌}
use mathlib.Core.Path.{◌≡◌, refl, sym, ap, ◌∙◌}
use mathlib.Core.List.{◌++◌, append_assoc}
use native.Mathlib.Omega.{arith}
use lib.ListN.{take, drop}
use lib.Seq.{drop-drop, take-add}
use Rattle.model.specs.Bytes.{Bytes}
use Rattle.model.specs.Answers.{part_of}
use Rattle.model.specs.Renaming.{suffix}
use Rattle.putting.specs.Putting.{Buffer, with_text, Puts}
use Rattle.putting.proofs.PuttingLaws.{puts_then, text_then_text}
use Rattle.renamed_text.specs.declared.names.Progress.{Progress}
use Rattle.renamed_text.specs.Progress.{waiting, to_come, Suffixed}

-- a part and the part behind it
pub part_and_part : (text : Bytes) (a b k : ℕ) → a ≤ b → b ≤ k → part_of text a (k - a) ≡ part_of text a (b - a) ++ part_of text b (k - b)
unfolding part_of
part_and_part text a b k h l =
    let n : k - a ≡ b - a + (k - b) = omega arith in
    let m : a + (b - a) ≡ b = omega arith in
    ap (λ (i : ℕ). take i (drop a text)) n ∙ take-add (b - a) (k - b) (drop a text)
    ∙ ap (λ (t : Bytes). take (b - a) (drop a text) ++ take (k - b) t) (drop-drop (b - a) a text ∙ ap (λ (i : ℕ). drop i text) m)

module _ (text out : Bytes) (p : Progress) where
  -- the text is read up to a place
  pub reads_on : (k : ℕ) → p.put ≤ p.seen → p.seen ≤ k → (rest : Bytes)
      → to_come text out (record { seen = k; put = p.put; at = p.at }) rest ≡ to_come text out p (part_of text p.seen (k - p.seen) ++ rest)
  unfolding to_come waiting
  reads_on k h l rest =
      ap (with_text (record { bytes = out; place = p.at }))
      (ap (λ (t : Bytes). t ++ rest) (part_and_part text p.put p.seen k h l)
      ∙ append_assoc (part_of text p.put (p.seen - p.put)) (part_of text p.seen (k - p.seen)) rest)

  -- what waits and `_b` are put
  pub suffix_put : (o out' : Bytes) (a at : ℕ) → Puts out p.at (waiting text p) o a → Puts o a suffix out' at
      → Suffixed text out p out' (record { seen = p.seen; put = p.seen; at = at })
  unfolding to_come waiting part_of
  suffix_put o out' a at f g =
      let n : p.seen - p.seen ≡ 0 = omega arith in
      let w = waiting text p in
      let b : Buffer = record { bytes = out; place = p.at } in
      record {
        seen = refl;
        put = refl;
        same = λ rest. rw n (ap (λ (x : Buffer). with_text x rest) (puts_then f g).is ∙ sym (text_then_text b (w ++ suffix) rest)
            ∙ ap (with_text b) (append_assoc w suffix rest));
      }
