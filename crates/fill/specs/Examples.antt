-- Cleared words, by computation. Assumes nothing.
use Rattle.std.specs.Prelude.{◌≡◌, refl, [], ◌∷◌}
use Rattle.fill.specs.Filled.{filled}

from_the_second_on : filled 1 (7 ∷ 8 ∷ 9 ∷ []) ≡ 7 ∷ 4294967295 ∷ 4294967295 ∷ []
unfolding filled
from_the_second_on = refl

past_the_end : filled 5 (7 ∷ 8 ∷ []) ≡ 7 ∷ 8 ∷ []
unfolding filled
past_the_end = refl
