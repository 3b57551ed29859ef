-- The lines that the list program prints, piece by piece in the order in which they are put.
use Rattle.std.specs.Prelude.{ℕ, ◌≤◌, ◌≡◌, List, [], ◌++◌, map, length, get_or, take, drop}
use Rattle.model.specs.Bytes.{Bytes, bytes_of}
use Rattle.model.specs.Writing.{digits}
use Rattle.putting.specs.Listing.{listing}

-- the header with the row count
unfoldable pub header_text : ℕ → Bytes
header_text n = bytes_of "(rows " ++ digits 5 n ++ bytes_of ")\n"

-- the name of a node
unfoldable pub name_in : List Bytes → ℕ → Bytes
name_in names n = get_or names n []

-- the first names of a row, each behind a space
unfoldable pub names_text : List Bytes → List ℕ → ℕ → Bytes
names_text names row n = listing (bytes_of " ") (bytes_of " ") (map (name_in names) (take n row))

-- a text in front of a buffer, as far as the buffer reaches
unfoldable pub in_front : Bytes → Bytes → Bytes
in_front t buffer = take (length buffer) t ++ drop (length t) buffer

-- a text is printed into a buffer: its length is answered, which no list passes, and the buffer has the text in front
pub record Prints (t buffer buffer' : Bytes) (r : ℕ) : Type 0 where
  pub answer : r ≡ length t
  pub short : r ≤ 622605
  pub text : buffer' ≡ in_front t buffer
