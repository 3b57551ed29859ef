-- What is written for a line of the book reads back as the line.
use mathlib.Core.Path.{◌≡◌, refl, sym, ap, ◌∙◌}
use mathlib.Core.List.{List, [], ◌∷◌, map, append-nil}
use mathlib.Core.Bool.{true, false}
use native.Mathlib.Omega.{arith}
use lib.ListN.{length}
use lib.Seq.{drop-length}
use Rattle.model.specs.Bytes.{Bytes, bytes_of, same}
use Rattle.model.specs.Choice.{just, and_then}
use Rattle.model.specs.Lists.{all, each}
use Rattle.model.specs.Names.{Name}
use Rattle.model.specs.Words.{between, is_letter, is_digit, is_word_byte, run}
use Rattle.model.specs.Values.{Value, int, str, bool, Kind, ints, strs, bools, Entry}
use Rattle.model.specs.Items.{Item, word, list, Items, none, more, item_at, item_list, items_of, line_items}
use Rattle.model.specs.Forms.{as_word, name_of, as_name, truth_of, as_value, kind_of, first, at_end, entry_of, form_of}
use Rattle.model.specs.BookLines.{label, BookLine, vattr, eattr, node, rel, attr_line, label_line, book_line}
use Rattle.model.specs.Graph.{Each}
use Rattle.model.specs.Tidy.{kind_text, list_text, entry_text, item_texts}
use Rattle.model.proofs.WrittenSigns.{Word}
use Rattle.model.proofs.WrittenConditions.{name_is}
use Rattle.renaming.proofs.RenamedForms.{node_said, rel_said, read_line}
use Rattle.tidying.proofs.Made.{EntryMade, LineMade, written}
use Rattle.tidying.proofs.ItemsBack.{nil, ItemTexts, value_item, word_item, value_item_law, list_item}

-- an attribute with its value as an item
abbrev entry_item : Entry → Item
entry_item e = list (more (word e.attr) (more (value_item e.value) none))

-- several, as items
abbrev entry_items : List Entry → Items
entry_items [] = none
entry_items (e ∷ es) = more (entry_item e) (entry_items es)

-- the items of a line
abbrev items_of_line : BookLine → Items
items_of_line (vattr n k) = more (word (bytes_of "vattr")) (more (word n) (more (word (kind_text k)) none))
items_of_line (eattr n k) = more (word (bytes_of "eattr")) (more (word n) (more (word (kind_text k)) none))
items_of_line (label n) = more (word (bytes_of "label")) (more (word n) none)
items_of_line (node n es) = more (word (bytes_of "node")) (more (word n) (entry_items es))
items_of_line (rel l x y es) = more (word (bytes_of "rel")) (more (word l) (more (word x) (more (word y) (entry_items es))))

-- attributes are read as their items
entry_texts : (es : List Entry) → Each EntryMade es → ItemTexts 3 (map entry_text es) (entry_items es)
unfolding entry_text
entry_texts [] h = tt
entry_texts (e ∷ es) h = (list_item 2 _ _ (word_item 2 e.attr h.0.0.0, (value_item_law 2 e.value h.0.1, tt)), entry_texts es h.1)

-- a type is a word
kind_word : (k : Kind) → Word (kind_text k)
unfolding kind_text is_letter is_word_byte is_digit between all
kind_word ints = (tt, tt, omega arith)
kind_word strs = (tt, tt, omega arith)
kind_word bools = (tt, tt, omega arith)

-- a line is read as its items
line_texts : (l : BookLine) → LineMade l → ItemTexts 3 (item_texts l) (items_of_line l)
unfolding item_texts is_letter is_word_byte is_digit between all
line_texts (vattr n k) h = (word_item 3 _ (tt, tt, omega arith), (word_item 3 n h.0, (word_item 3 (kind_text k) (kind_word k), tt)))
line_texts (eattr n k) h = (word_item 3 _ (tt, tt, omega arith), (word_item 3 n h.0, (word_item 3 (kind_text k) (kind_word k), tt)))
line_texts (label n) h = (word_item 3 _ (tt, tt, omega arith), (word_item 3 n h.0, tt))
line_texts (node n es) h = (word_item 3 _ (tt, tt, omega arith), (word_item 3 n h.0.0, entry_texts es h.1))
line_texts (rel l x y es) h =
    (word_item 3 _ (tt, tt, omega arith), (word_item 3 l h.0.0, (word_item 3 x h.1.0, (word_item 3 y h.2.0, entry_texts es h.3))))

-- a list that is a line
list_line : (ts : List Bytes) (is : Items) → ItemTexts 3 ts is → line_items (list_text ts) ≡ just (item_list is)
unfolding line_items list_text run items_of and_then all
list_line ts is h =
    let e : item_at 4 (list_text ts) ≡ just (record { got = list is; size = length (list_text ts) }) =
    ap (item_at 4) (sym (append-nil (list_text ts))) ∙ (list_item 3 ts is h).reads [] nil in
    rw (e, drop-length (list_text ts)) refl

-- a value is said by its item
value_said : (v : Value) → as_value (value_item v) ≡ just v
unfolding as_value truth_of same
value_said (int n) = refl
value_said (str t) = refl
value_said (bool true) = refl
value_said (bool false) = refl

-- so is an attribute with its value
entry_said : (e : Entry) → EntryMade e → entry_of (entry_item e) ≡ just e
unfolding entry_of items_of item_list first as_name as_word at_end and_then
entry_said e h = rw (name_is e.attr h.0, value_said e.value) refl

-- and several
entries_said : (es : List Entry) → Each EntryMade es → each entry_of (item_list (entry_items es)) ≡ just es
unfolding each item_list and_then
entries_said [] h = refl
entries_said (e ∷ es) h = rw (entry_said e h.0, entries_said es h.1) refl

-- a type
kind_said : (k : Kind) → kind_of (kind_text k) ≡ just k
unfolding kind_of kind_text same
kind_said ints = refl
kind_said strs = refl
kind_said bools = refl

-- a line that declares an attribute
attr_said : (make : Name → Kind → BookLine) (n : Name) (k : Kind) → name_of n ≡ just n → attr_line make (word n ∷ word (kind_text k) ∷ []) ≡ just (make n k)
unfolding attr_line first as_name as_word at_end and_then
attr_said make n k h = rw (h, kind_said k) refl

-- a line
line_said : (l : BookLine) → LineMade l → book_line (item_list (items_of_line l)) ≡ just l
unfolding book_line label_line item_list first as_name as_word at_end and_then same
line_said (vattr n k) h = attr_said vattr n k (name_is n h)
line_said (eattr n k) h = attr_said eattr n k (name_is n h)
line_said (label n) h = rw (name_is n h) refl
line_said (node n es) h = node_said n es (item_list (entry_items es)) (name_is n h.0) (entries_said es h.1)
line_said (rel l x y es) h =
    rel_said l x y es (item_list (entry_items es)) (name_is l h.0) (name_is x h.1) (name_is y h.2) (entries_said es h.3)

-- what is written for a line reads back as the line
pub line_back : (l : BookLine) → LineMade l → and_then (form_of (written l)) book_line ≡ just l
line_back l h = read_line (written l) l (item_list (items_of_line l)) refl (list_line (item_texts l) (items_of_line l) (line_texts l h)) (line_said l h)
