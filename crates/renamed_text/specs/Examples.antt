-- A small text with new names, and the lines that declare its nodes, by computation. Assumes nothing.
use Rattle.std.specs.Prelude.{◌≡◌, refl, true, false, [], ◌∷◌}
use Rattle.model.specs.Bytes.{Bytes, bytes_of, same}
use Rattle.model.specs.Names.{mem, place}
use Rattle.model.specs.Lists.{any, joined, place_where}
use Rattle.model.specs.Words.{is_word_byte, is_letter, is_digit, between, run}
use Rattle.model.specs.Lines.{lines_of, add_byte}
use Rattle.model.specs.Renaming.{before_word, first_word, behind_word, after_word, node_words, pieces_of, line_pieces, text_pieces, piece_bytes, renamed}
use Rattle.model.specs.Renaming.{declares_node, declared_at}
use Rattle.renamed_text.specs.Marks.{is_marked}

-- two nodes whose names differ by case, and a relationship from the second to itself: in front of a name more than one space, and a name in a text value
text : Bytes
text = bytes_of "(node ann)\n(node  Ann (x 'Ann'))\n(rel Ann Ann Ann)"

renames : renamed (bytes_of "Ann" ∷ []) text ≡ bytes_of "(node ann)\n(node  Ann_b (x 'Ann'))\n(rel Ann Ann_b Ann_b)"
unfolding renamed text_pieces line_pieces pieces_of node_words after_word behind_word first_word before_word piece_bytes joined mem any same
    run is_word_byte is_letter is_digit between lines_of add_byte text
renames = refl

declared_second : declared_at (bytes_of "Ann") (lines_of text) ≡ 2
unfolding declared_at declares_node place_where after_word behind_word first_word before_word same run is_word_byte is_letter is_digit between lines_of add_byte text
declared_second = refl

-- no line declares the node
declared_nowhere : declared_at (bytes_of "bob") (lines_of text) ≡ 4
unfolding declared_at declares_node place_where after_word behind_word first_word before_word same run is_word_byte is_letter is_digit between lines_of add_byte text
declared_nowhere = refl

-- the second of two names is marked, and no other name is
second_marked : is_marked (bytes_of "ann" ∷ bytes_of "Ann" ∷ []) (false ∷ true ∷ true ∷ []) (bytes_of "Ann") ≡ true
unfolding is_marked place place_where same
second_marked = refl

third_unmarked : is_marked (bytes_of "ann" ∷ bytes_of "Ann" ∷ []) (false ∷ true ∷ true ∷ []) (bytes_of "bob") ≡ false
unfolding is_marked place place_where same
third_unmarked = refl
