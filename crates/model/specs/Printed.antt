-- What the programs print: the list, the lamp, the renaming and the tidy book.
use Rattle.std.specs.Prelude.{ℕ, Bool, true, false, List, [], ◌++◌, map, length, get_or}
use Rattle.model.specs.Bytes.{Bytes, bytes_of}
use Rattle.model.specs.Lists.{joined}
use Rattle.model.specs.Limits.{max_book_bytes, whole_memory}
use Rattle.model.specs.Names.{Name}
use Rattle.model.specs.Refusal.{Outcome, accepted, refused, Refusal}
use Rattle.model.specs.Book.{Book, node_names}
use Rattle.model.specs.ReadBook.{read_book}
use Rattle.model.specs.Writing.{digits, each_behind}
use Rattle.model.specs.Renaming.{renamed_book}
use Rattle.model.specs.Tidy.{tidy_book}
use Rattle.model.specs.Service.{book_written, list_rows, lamp_service}

-- a row as the list program prints it: its node names
unfoldable pub row_text : List Name → List ℕ → Bytes
row_text names row = bytes_of "(row" ++ each_behind (bytes_of " ") (map (λ n. get_or names n []) row) ++ bytes_of ")\n"

-- a refusal as the list program prints it
unfoldable pub refusal_text : Refusal → Bytes
refusal_text r = bytes_of "(refused " ++ digits 5 r.number ++ bytes_of " text " ++ digits 5 r.text ++ bytes_of " line " ++ digits 5 r.line ++ bytes_of ")\n"

-- the header with the row count, then the rows
unfoldable pub rows_text : List Name → List (List ℕ) → Bytes
rows_text names rows = bytes_of "(rows " ++ digits 5 (length rows) ++ bytes_of ")\n" ++ joined (row_text names) rows

-- the rows, or the refusal alone
unfoldable pub outcome_text : List Name → Outcome (List (List ℕ)) → Bytes
outcome_text names (accepted rows) = rows_text names rows
outcome_text names (refused r) = refusal_text r

-- the names of the nodes of a book that is accepted
unfoldable pub names_of : Outcome Book → List Name
names_of (accepted b) = node_names b
names_of (refused r) = []

-- what the list program prints; it lends 16,384 row words
unfoldable pub printed : Bytes → Bytes → Bytes → Bytes → Bytes
printed book rules query request = outcome_text (names_of (read_book book)) (list_rows whole_memory 16384 book rules query request)

-- the lamp in words, or the refusal alone
unfoldable pub lamp_text : Outcome Bool → Bytes
lamp_text (accepted true) = bytes_of "(lamp yes)\n"
lamp_text (accepted false) = bytes_of "(lamp no)\n"
lamp_text (refused r) = refusal_text r

-- what the lamp program prints
unfoldable pub printed_lamp : Bytes → Bytes → Bytes → Bytes → Bytes
printed_lamp book rules query request = lamp_text (lamp_service whole_memory book rules query request).answer

-- a book that is written, or the refusal alone
unfoldable pub book_text : Outcome Bytes → Bytes
book_text (accepted t) = t
book_text (refused r) = refusal_text r

-- what a program prints that writes a book; it lends 65,536 bytes, as many as a book may have
unfoldable pub book_printed : Outcome Bytes → Bytes
book_printed o = book_text (book_written whole_memory max_book_bytes o)

-- what the renaming prints
unfoldable pub printed_renaming : Bytes → Bytes
printed_renaming book = book_printed (renamed_book book)

-- what the program of the tidy book prints
unfoldable pub printed_tidy : Bytes → Bytes
printed_tidy book = book_printed (tidy_book book)
