-- The names of a book's nodes in bytes: 25 bytes for each number below 256, its name and then zeros.
use Rattle.std.specs.Prelude.{ℕ, ◌/◌, ◌%◌, List, [], get_or}
use Rattle.model.specs.Bytes.{Bytes}
use Rattle.model.specs.Book.{node_names}
use Rattle.model.specs.ReadBook.{read_book}
use Rattle.model.specs.Service.{with_work}
use Rattle.model.specs.Answers.{book_of}
use Rattle.book_tables.specs.Listed.{listed}

-- one byte of the names, or 0 past a name and past the last
unfoldable pub name_byte : List Bytes → ℕ → ℕ
name_byte names k = get_or (get_or names (k / 25) []) (k % 25) 0

-- all bytes of the names
unfoldable pub name_bytes : List Bytes → List ℕ
name_bytes names = listed (name_byte names) 6400

-- the bytes that the service leaves: those of the book's nodes; a refused book has none
unfoldable pub names_left : ℕ → Bytes → List ℕ
names_left work book = name_bytes (node_names (book_of (with_work work (read_book book))))
