-- Books that the renaming brings to the limit of 65,536 bytes, and past it, computed.
use Prim.Native.Nat.{ℕ}
use Prim.Native.String.{String}
use mathlib.Core.Path.{◌≡◌, refl}
use mathlib.Core.List.{◌++◌}
use lib.ListN.{replicate}
use Rattle.model.specs.Bytes.{Bytes, bytes_of}
use Rattle.model.specs.Refusal.{accepted, refused}
use Rattle.model.specs.Renaming.{renamed_book}
use Rattle.model.specs.Computing.{computing}

-- a pair with spaces behind its first line
abbrev spaced : ℕ → String → Bytes
spaced n later = bytes_of "(node S6)" ++ replicate n 32 ++ bytes_of "\n(node " ++ bytes_of later ++ bytes_of ")\n"

-- books of 65,534 and of 65,535 bytes: with two more the one has 65,536, and the other is too long
at_the_limit : (renamed_book (spaced 65514 "s6") ≡ accepted (spaced 65514 "s6_b"))
    × (renamed_book (spaced 65515 "s6") ≡ refused (record { number = 5; text = 1; line = 2 }))
unfolding computing
at_the_limit = (refl, refl)
