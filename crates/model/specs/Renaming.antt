-- The renaming of a book: of two node names that are equal but for case the later one gets `_b` at its end, wherever it names a node. It works on the
-- text, line by line: a line is cut behind the words that name a node, and `_b` is put between the pieces; all other bytes stay.
use Rattle.std.specs.Prelude.{ℕ, ◌+◌, List, [], ◌∷◌, ◌++◌, map, Bool, true, false, not, ◌&&◌, ◌||◌, length, take, drop, ltb}
use Rattle.model.specs.Bytes.{Bytes, bytes_of, same}
use Rattle.model.specs.Choice.{pick, Maybe, nothing, just}
use Rattle.model.specs.Limits.{max_word_bytes, max_book_bytes}
use Rattle.model.specs.Lists.{any, joined, place_where}
use Rattle.model.specs.Names.{Name, mem, same_but_case}
use Rattle.model.specs.Words.{is_word_byte, run}
use Rattle.model.specs.Lines.{Line, lines_of}
use Rattle.model.specs.Refusal.{Outcome, accepted, on_accept, refusal}
use Rattle.model.specs.Book.{Node, Book, node_names}
use Rattle.model.specs.ReadBook.{read_book_by}

-- what a later name gets at its end
abbrev pub suffix : Bytes
suffix = bytes_of "_b"

-- the later names, in the order of their lines: those that are, case aside, a name above. `above`: the names above
unfoldable pub later_names : List Name → List Name → List Name
later_names above [] = []
later_names above (n ∷ ns) = let rest = later_names (n ∷ above) ns in pick (any (same_but_case n) above) (n ∷ rest) rest

-- a piece of the new text: bytes of the old one, or `_b`
pub data Piece : Type 0 where
  old : Bytes → Piece
  added : Piece

-- how many bytes stand before the first word of a text: a word is a run of word bytes
unfoldable pub before_word : Bytes → ℕ
before_word s = length (run (λ b. not (is_word_byte b)) s)

-- that word
unfoldable pub first_word : Bytes → Bytes
first_word s = run is_word_byte (drop (before_word s) s)

-- the place behind it
unfoldable pub behind_word : Bytes → ℕ
behind_word s = before_word s + length (first_word s)

-- what stands behind it
unfoldable pub after_word : Bytes → Bytes
after_word s = drop (behind_word s) s

-- which words behind the first one name a node: NAME of `node NAME`, FROM and TO of `rel LABEL FROM TO`
unfoldable pub node_words : Bytes → List Bool
node_words w = pick (same w (bytes_of "node")) (true ∷ []) (pick (same w (bytes_of "rel")) (false ∷ true ∷ true ∷ []) [])

-- words one after another, each told whether it names a node: `_b` behind each that does and is a later name
unfoldable pub pieces_of : List Name → List Bool → Bytes → List Piece
pieces_of later [] s = old s ∷ []
pieces_of later (is_node ∷ more) s =
    let rest = pieces_of later more (after_word s) in
    old (take (behind_word s) s) ∷ pick (is_node && mem (first_word s) later) (added ∷ rest) rest

-- a line
unfoldable pub line_pieces : List Name → Bytes → List Piece
line_pieces later s = pieces_of later (false ∷ node_words (first_word s)) s

-- the lines one after another, each with its line feed
unfoldable pub text_pieces : List Name → List Line → List Piece
text_pieces later [] = []
text_pieces later (l ∷ ls) = line_pieces later l.bytes ++ (old (pick l.ended (10 ∷ []) []) ∷ text_pieces later ls)

-- the bytes of a piece
unfoldable pub piece_bytes : Piece → Bytes
piece_bytes (old t) = t
piece_bytes added = suffix

-- the bytes of a piece, `_b` taken away
unfoldable pub old_bytes : Piece → Bytes
old_bytes (old t) = t
old_bytes added = []

-- the text with `_b` behind these names, wherever they name a node
unfoldable pub renamed : List Name → Bytes → Bytes
renamed later s = joined piece_bytes (text_pieces later (lines_of s))

-- a later name cannot have its new one: that is, case aside, another node's, or one given above; or it is too long; or with it the book is.
-- `above`: the later names of the lines above
unfoldable pub cannot_have : Bytes → List Name → List Name → Name → Bool
cannot_have s names above n =
    any (same_but_case (n ++ suffix)) names
    || any (same_but_case (n ++ suffix)) (map (λ m. m ++ suffix) above)
    || ltb max_word_bytes (length (n ++ suffix))
    || ltb max_book_bytes (length (renamed (above ++ (n ∷ [])) s))

-- the first later name that cannot
unfoldable pub first_stuck : Bytes → List Name → List Name → List Name → Maybe Name
first_stuck s names above [] = nothing
first_stuck s names above (n ∷ ns) = let rest = first_stuck s names (above ++ (n ∷ [])) ns in pick (cannot_have s names above n) (just n) rest

-- a line declares a node of this name: its first two words are `node` and the name
unfoldable pub declares_node : Name → Line → Bool
declares_node n l = same (first_word l.bytes) (bytes_of "node") && same (first_word (after_word l.bytes)) n

-- the line that does, counted from 1
unfoldable pub declared_at : Name → List Line → ℕ
declared_at n ls = place_where (declares_node n) ls + 1

-- 5 at the line of a name that cannot have its new one
unfoldable pub unless_stuck : {A : Type 0} → Maybe Name → List Line → A → Outcome A
unless_stuck nothing ls a = accepted a
unless_stuck (just n) ls a = refusal 5 1 (declared_at n ls)

-- the new book: first the book's own refusals by the very names, then 5
unfoldable pub renamed_book : Bytes → Outcome Bytes
renamed_book s = on_accept (read_book_by same s) (λ b.
    let later = later_names [] (node_names b) in
    unless_stuck (first_stuck s (node_names b) [] later) (lines_of s) (renamed later s))

-- what the new book holds: a node's name, if it is one of the later names, with `_b` at its end
unfoldable pub new_name : List Name → Name → Name
new_name later n = pick (mem n later) (n ++ suffix) n

unfoldable pub new_node : List Name → Node → Node
new_node later n = record { name = new_name later n.name; entries = n.entries }

-- the old book with new names: all else, the nodes that relationships join too, is the same
unfoldable pub with_new_names : List Name → Book → Book
with_new_names later b = record { vattrs = b.vattrs; eattrs = b.eattrs; labels = b.labels; nodes = map (new_node later) b.nodes; rels = b.rels }
