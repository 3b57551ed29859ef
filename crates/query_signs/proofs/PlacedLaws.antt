-- Laws of signs at their places: blanks before a sign, the part of a sign, and what stands behind it.
use Prim.Native.Nat.{ℕ, suc, ◌+◌, ◌-◌, ◌<◌, ◌≤◌}
use mathlib.Core.Path.{◌≡◌, refl, sym, ap, ◌∙◌}
use mathlib.Core.List.{[], ◌∷◌, ◌++◌}
use mathlib.Core.Bool.{Bool, true, false, ◌&&◌, ◌||◌}
use native.Mathlib.Omega.{arith}
use lib.ListN.{length, drop, length-take, length-drop}
use lib.Seq.{drop-drop}
use lib.Dec.{eqb, leb}
use Rattle.std.specs.Prelude.{Some}
use Rattle.model.specs.Bytes.{Bytes}
use Rattle.model.specs.Choice.{pick, Maybe, nothing, just, and_then}
use Rattle.model.specs.Lists.{is_nil}
use Rattle.model.specs.Words.{Got, is_word_byte, run, before, word_at, is_text, text_at}
use Rattle.model.specs.Signs.{Sign, sign_at, chain_behind, wordy}
use Rattle.model.specs.Answers.{name_at, part_of}
use Rattle.model.specs.Places.{Placed, placed, Bracket, bracket_of, variable_at, standing_at, standings}
use Rattle.model.specs.declared.Part.{Part}
use Rattle.model.proofs.Standings.{placed_skip}
use Rattle.text.specs.Places.{peek_at, past, end_of, word_to, text_to}
use Rattle.text.specs.Parts.{HasPart}
use Rattle.text.proofs.PlaceLaws.{drop_peek, past_on}
use Rattle.text.proofs.WordLaws.{word_read}
use Rattle.text.proofs.QuoteLaws.{text_read}
use Rattle.query_signs.specs.declared.Sign.{Sign as SignData}
use Rattle.query_signs.specs.declared.Sign.TheVariants as sign
use Rattle.query_signs.specs.Reads.{is_blank, is_wordy, sign_of, got_of, standings_from, standing_of, PartAt, SignInside, NextSign}
use Rattle.query_signs.proofs.SignLaws.{and_false, and_true, nil_length, no_blank, wordy_sign, sign_behind, sign_first}

-- a word is as long as its sign; a text value lacks its apostrophes
word_long : (t : Bytes) (g : Got Bytes) → word_at t ≡ just g → g.size ≡ length g.got
unfolding word_at
word_long t g h = go (leb (length (run is_word_byte t)) 24) h
  where
    go : (x : Bool) → pick x (just (record { got = run is_word_byte t; size = length (run is_word_byte t) })) nothing ≡ just g → g.size ≡ length g.got
    go true h = let z : record { got = run is_word_byte t; size = length (run is_word_byte t) } ≡ g = cc in rw (← z)
    go false h = cc

text_long : (t : Bytes) (g : Got Bytes) → text_at t ≡ just g → g.size ≡ length g.got + 2
unfolding text_at and_then
text_long t g h = go (before 39 t) h
  where
    go : (m : Maybe Bytes) → and_then m (λ t. pick (is_text t) (just (record { got = t; size = length t + 2 })) nothing) ≡ just g → g.size ≡ length g.got + 2
    go nothing h = cc
    go (just u) h = some (is_text u) h
      where
        some : (x : Bool) → pick x (just (record { got = u; size = length u + 2 })) nothing ≡ just g → g.size ≡ length g.got + 2
        some true h = let z : record { got = u; size = length u + 2 } ≡ g = cc in rw (← z)
        some false h = cc

module _ (s : Bytes) (at q : ℕ) where
  pub word_part : Some q ≡ end_of at (word_at (drop at s)) → PartAt s at (sign.Word (record { start = at; length = q - at }))
  unfolding word_to name_at
  word_part e =
      let w : word_at (drop at s) ≡ word_to s at (Some q) = word_read s at ∙ ap (word_to s at) (sym e) in
      ap (λ n. record { start = at; length = n }) (word_long (drop at s) (record { got = part_of s at (q - at); size = q - at }) w)

  pub text_part : Some q ≡ end_of at (text_at (drop (at + 1) s)) → PartAt s at (sign.Text (record { start = at + 1; length = q - at - 2 }))
  unfolding text_to name_at
  text_part e =
      let w : text_at (drop (at + 1) s) ≡ text_to s at (Some q) = text_read s at ∙ ap (text_to s at) (sym e) in
      let l = text_long (drop (at + 1) s) (record { got = part_of s (at + 1) (q - at - 2); size = q - at }) w in
      let n : q - at - 2 ≡ length (part_of s (at + 1) (q - at - 2)) = omega arith in
      ap (λ n. record { start = at + 1; length = n }) n

-- a part that is as long as what stands at its place lies inside the text
part_ends : (s : Bytes) (p : Part) (at : ℕ) → at ≤ length s → p ≡ record { start = at; length = length (name_at s p) } → HasPart s p
unfolding name_at part_of
part_ends s p at l e = omega (
  arith,
  ap (λ (x : Part). x.start) e,
  ap (λ (x : Part). x.length) e,
  length-take p.length (drop p.start s),
  length-drop p.start s,
)

sign_inside : (s : Bytes) (at : ℕ) (t : SignData) → at < length s → PartAt s at t → SignInside s t
sign_inside s at (sign.Word p) l e = part_ends s p at (omega arith) e
sign_inside s at (sign.Whole n) l e = tt
sign_inside s at (sign.Text p) l e = part_ends s p (at + 1) (omega arith) e
sign_inside s at (sign.Mark c) l e = tt

-- blanks before a sign move its place
placed_blanks : (chain close : Bool) (i : ℕ) (t : Bytes)
    → placed chain close 0 i t ≡ placed chain (close && is_nil (run is_blank t)) 0 (i + length (run is_blank t)) (drop (length (run is_blank t)) t)
unfolding placed run is_blank is_nil
placed_blanks chain close i [] = refl
placed_blanks chain close i (b ∷ t) = go (eqb b 32 || eqb b 10) refl (placed_blanks chain false (i + 1) t)
  where
    go : (x : Bool) → (eqb b 32 || eqb b 10) ≡ x
        → placed chain false 0 (i + 1) t ≡ placed chain false 0 (i + 1 + length (run is_blank t)) (drop (length (run is_blank t)) t)
        → placed chain close 0 i (b ∷ t)
        ≡ placed chain (close && is_nil (pick x (b ∷ run is_blank t) [])) 0 (i + length (pick x (b ∷ run is_blank t) []))
        (drop (length (pick x (b ∷ run is_blank t) [])) (b ∷ t))
    go true e h = let n : i + suc (length (run is_blank t)) ≡ i + 1 + length (run is_blank t) = omega arith in rw (e, and_false close, n) h
    go false e h = let n : i + 0 ≡ i = omega arith in rw (and_true close, n)

-- what a sign is, by its part
part_standing : (s : Bytes) (at : ℕ) (o : Bracket) (t : SignData) → PartAt s at t → standing_at (sign_of s t) o at ≡ standing_of o t
unfolding standing_at sign_of standing_of
part_standing s at o (sign.Word p) e = ap (variable_at o) (sym e)
part_standing s at o (sign.Whole n) e = refl
part_standing s at o (sign.Text p) e = ap (λ (x : Part). Rattle.model.specs.Places.value x ∷ []) (sym e)
part_standing s at o (sign.Mark c) e = refl

module _ (chain close : Bool) (s : Bytes) (from at : ℕ) (p : at ≡ past is_blank s from) (l : at < length s) where
  placed_at : placed chain close 0 from (drop from s) ≡ placed chain (close && eqb at from) 0 at (drop at s)
  unfolding past
  placed_at = placed_blanks chain close from (drop from s)
      ∙ rw (p, nil_length (run is_blank (drop from s)) from, drop-drop (length (run is_blank (drop from s))) from s)

  module _ (t : SignData) (q : ℕ) (e : got_of s at (Some (t, q)) ≡ sign_at chain (peek_at s at) (drop (at + 1) s))
      (h : ((close && eqb at from) && is_wordy t) ≡ false) where
    abbrev x : Sign
    x = sign_of s t

    abbrev first : Placed
    first = record { sign = x; at = at }

    placed_first : placed chain close 0 from (drop from s) ≡ first ∷ placed (chain_behind chain x) (wordy x) (q - at - 1) (at + 1) (drop (at + 1) s)
    unfolding placed got_of
    placed_first = placed_at ∙ rw (drop_peek s at l, no_blank chain close s from at p l, ← e, wordy_sign s t, h)

    placed_rest : placed (chain_behind chain x) (wordy x) (q - at - 1) (at + 1) (drop (at + 1) s) ≡ placed (chain_behind chain x) (wordy x) 0 q (drop q s)
    placed_rest =
        let b = sign_behind chain close s from at p l t q e in
        let d : at + 1 + (q - at - 1) ≡ q = omega arith in
        placed_skip (chain_behind chain x) (wordy x) (q - at - 1) (at + 1) (drop (at + 1) s) ∙ rw (drop-drop (q - at - 1) (at + 1) s, d)

    pub sign_stands : PartAt s at t → (o : Bracket)
        → standings_from o chain close s from ≡ standing_of o t ++ standings_from (bracket_of x) (chain_behind chain x) (wordy x) s q
    unfolding standings
    sign_stands k o = ap (standings o) placed_first ∙ ap (λ l. standing_at x o at ++ standings (bracket_of x) l) placed_rest
        ∙ ap (λ l. l ++ standings_from (bracket_of x) (chain_behind chain x) (wordy x) s q) (part_standing s at o t k)

    pub next_found : PartAt s at t → NextSign chain close s from (Some (t, q))
    next_found k = record {
      reads = sign_first chain close s from at p l t q e h;
      moves = omega (arith, sign_behind chain close s from at p l t q e, p, past_on is_blank s from);
      inside = sign_inside s at t l k;
      stands = sign_stands k;
    }
