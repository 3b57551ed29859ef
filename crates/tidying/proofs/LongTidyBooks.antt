-- Books whose tidy form has 65,536 bytes, and one more, computed.
use Prim.Native.Nat.{ℕ, ◌+◌}
use mathlib.Core.Path.{◌≡◌, refl}
use mathlib.Core.List.{◌++◌}
use lib.ListN.{length, replicate}
use Rattle.model.specs.Bytes.{Bytes, bytes_of}
use Rattle.model.specs.Lists.{joined, below}
use Rattle.model.specs.Refusal.{accepted, refused, on_accept}
use Rattle.model.specs.Writing.{digits}
use Rattle.model.specs.Tidy.{tidy_book}
use Rattle.model.specs.Computing.{computing}

-- (ATTR 'TEXT'), the text of so many bytes
abbrev entry : ℕ → ℕ → Bytes
entry size a = bytes_of "(a" ++ digits 2 (10 + a) ++ bytes_of " '" ++ replicate size 120 ++ bytes_of "')"

-- 32 attributes, and 41 nodes with a text of 40 bytes for each of them, with no space that could be left out; the last node has five such texts and one of
-- so many bytes
abbrev dense : ℕ → Bytes
dense size =
    joined (λ a. bytes_of "(vattr a" ++ digits 2 (10 + a) ++ bytes_of " str)\n") (below 32)
    ++ joined (λ n. bytes_of "(node n" ++ digits 2 (10 + n) ++ joined (entry 40) (below 32) ++ bytes_of ")\n") (below 41)
    ++ bytes_of "(node last" ++ joined (entry 40) (below 5) ++ entry size 5 ++ bytes_of ")\n"

-- the tidy books have 1,318 spaces more: with the one text of 19 bytes 65,536 bytes in all, and with one of 20 too many
at_the_limit : (on_accept (tidy_book (dense 19)) (λ t. accepted (length t)) ≡ accepted 65536)
    × (tidy_book (dense 20) ≡ refused (record { number = 14; text = 1; line = 0 }))
unfolding computing
at_the_limit = (refl, refl)
