-- Relation signs and marks by their codes: a byte, or 256 times the first byte and the second.
use Rattle.std.specs.Prelude.{ℕ, ◌/◌, ◌%◌, [], ◌∷◌, Bool, true, false, ◌||◌, leb, ltb, eqb, ◌<◌, T, Option, Some, None}
use Rattle.model.specs.Bytes.{Bytes}
use Rattle.model.specs.Choice.{pick}
use Rattle.model.specs.Words.{Got}
use Rattle.model.specs.Signs.{Sign, mark, broken}

-- the bytes of a mark
unfoldable pub mark_bytes : ℕ → Bytes
mark_bytes c = pick (ltb c 256) (c ∷ []) ((c / 256) ∷ (c % 256) ∷ [])

-- how many they are
unfoldable pub mark_size : ℕ → ℕ
mark_size c = pick (ltb c 256) 1 2

-- the sign that a code is; 0 is none
unfoldable pub mark_got : ℕ → Got Sign
mark_got c = pick (eqb c 0) (record { got = broken; size = 1 }) (record { got = mark (mark_bytes c); size = mark_size c })

-- the code of a mark, 0 where there is none; a code is not 0
abbrev pub code_or : Option ℕ → ℕ
code_or None = 0
code_or (Some c) = c

abbrev pub IsCode : Option ℕ → Type 0
IsCode None = T true
IsCode (Some c) = 0 < c

-- ( ) , - . : < = > [ ]
unfoldable pub is_single : ℕ → Bool
is_single b =
    pick (ltb b 40) false
    (pick (leb b 41) true
    (pick (ltb b 44) false
    (pick (leb b 46) true
    (pick (eqb b 58) true
    (pick (ltb b 60) false
    (pick (leb b 62) true
    (pick (eqb b 91) true (eqb b 93))))))))

-- <> <= >=
unfoldable pub is_pair : ℕ → Bool
is_pair c = eqb c 15422 || eqb c 15421 || eqb c 15933

-- <- ->
unfoldable pub is_arrow : ℕ → Bool
is_arrow c = eqb c 15405 || eqb c 11582
