-- Laws of words.
use Prim.Native.Nat.{ℕ, ◌+◌, ◌-◌, ◌≤◌, ◌<◌}
use mathlib.Core.Path.{◌≡◌, refl, ap}
use mathlib.Core.Bool.{Bool, true, false}
use native.Mathlib.Omega.{arith}
use lib.ListN.{length, drop}
use lib.Dec.{leb}
use borrow.Author.Tests.{le-leb, lt-leb}
use Rattle.std.specs.Prelude.{Some, None}
use Rattle.model.specs.Bytes.{Bytes}
use Rattle.model.specs.Choice.{pick, Maybe, nothing, just}
use Rattle.model.specs.Words.{Got, run, is_word_byte, word_at}
use Rattle.model.specs.Answers.{part_of}
use Rattle.text.specs.Places.{end_of, past, word_to}
use Rattle.text.proofs.PlaceLaws.{run_take}

module _ (s : Bytes) (at q : ℕ) (e : q ≡ past is_word_byte s at) where
  pub word_fits : q - at ≤ 24 → Some q ≡ end_of at (word_at (drop at s))
  unfolding end_of word_at past
  word_fits h = rw (le-leb (length (run is_word_byte (drop at s))) 24 (omega arith)) (ap Some e)

  pub word_long : 24 < q - at → None ≡ end_of at (word_at (drop at s))
  unfolding end_of word_at past
  word_long h = rw (lt-leb (length (run is_word_byte (drop at s))) 24 (omega arith))

-- the word that an end tells of
pub word_read : (s : Bytes) (at : ℕ) → word_at (drop at s) ≡ word_to s at (end_of at (word_at (drop at s)))
unfolding word_at end_of word_to part_of
word_read s at = go (leb (length (run is_word_byte (drop at s))) 24)
  where
    w : Bytes
    w = run is_word_byte (drop at s)

    of : Bool → Maybe (Got Bytes)
    of x = pick x (just (record { got = w; size = length w })) nothing

    go : (x : Bool) → of x ≡ word_to s at (end_of at (of x))
    go true =
        let e : at + length w - at ≡ length w = omega arith in
        rw (e, run_take is_word_byte (drop at s))
    go false = refl
