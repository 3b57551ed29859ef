-- Texts put into a buffer, by computation. Assumes nothing.
use Rattle.std.specs.Prelude.{◌≡◌, refl, [], ◌∷◌}
use Rattle.model.specs.Bytes.{bytes_of}
use Rattle.model.specs.Writing.{each_behind}
use Rattle.putting.specs.Putting.{last_place, further, with_byte, with_text}
use Rattle.putting.specs.Listing.{listing}

inside : with_text (record { bytes = 7 ∷ 8 ∷ 9 ∷ []; place = 1 }) (1 ∷ []) ≡ record { bytes = 7 ∷ 1 ∷ 9 ∷ []; place = 2 }
unfolding with_text with_byte further
inside = refl

over_the_end : with_text (record { bytes = 7 ∷ 8 ∷ []; place = 1 }) (1 ∷ 2 ∷ 3 ∷ []) ≡ record { bytes = 7 ∷ 1 ∷ []; place = 4 }
unfolding with_text with_byte further
over_the_end = refl

counted_to_the_last : with_text (record { bytes = []; place = last_place }) (1 ∷ 2 ∷ 3 ∷ []) ≡ record { bytes = []; place = last_place }
unfolding with_text with_byte further
counted_to_the_last = refl

two_conditions : listing (bytes_of " Where ") (bytes_of " AND ") (bytes_of "a" ∷ bytes_of "b" ∷ []) ≡ bytes_of " Where a AND b"
unfolding listing each_behind
two_conditions = refl
