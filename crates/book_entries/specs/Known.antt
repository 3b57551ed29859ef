-- What is known after some entries of a line, and what one entry more gives.
use Rattle.std.specs.Prelude.{ℕ, ◌+◌, ◌*◌, ◌≤◌, ◌<◌, ◌≡◌, List, [], ◌∷◌, ◌++◌, map, length, ltb, None}
use Rattle.bits.specs.Word.{bit}
use Rattle.model.specs.Bytes.{Bytes}
use Rattle.model.specs.Choice.{pick}
use Rattle.model.specs.Names.{mem}
use Rattle.model.specs.Values.{Entry}
use Rattle.model.specs.Answers.{name_at, value_of}
use Rattle.model.specs.declared.Part.{Part}
use Rattle.model.specs.declared.Value.{Value}
use Rattle.book_tables.specs.declared.BookCounts.{BookCounts}
use Rattle.book_tables.specs.declared.ValueWords.{ValueWords}
use Rattle.book_tables.specs.Layout.{book_words}
use Rattle.book_tables.specs.View.{name_of, attrs_at}
use Rattle.book_tables.specs.Fits.{Inside, Fits}
use Rattle.book_tables.specs.Owners.{AttrTable}
use Rattle.book_tables.specs.Agree.{Agree}
use Rattle.book_tables.specs.Stores.{with_entry, EntriesStored}
use Rattle.book_tables.specs.ValueWords.{EndsBefore, Says}
use Rattle.book_entries.specs.declared.EntriesRead.{EntriesRead}
use Rattle.book_entries.specs.Faults.{entries_fault}

-- after the entries es: their number, their lowest fault, which attributes stand among them; and without a fault, where there is room, they are stored
pub record EntriesKnown (text : Bytes) (words : List ℕ) (c : BookCounts) (offset declared : ℕ) (es : List Entry) (known : EntriesRead) : Type 0 where
  pub count : known.count ≡ length es
  pub fault : known.fault ≡ entries_fault (attrs_at text words offset declared) es
  pub seen : (a : ℕ) → a < declared → bit known.seen a ≡ mem (name_of text words offset a) (map (λ e. e.attr) es)
  pub stored : known.fault ≡ None → c.entries + length es ≤ 2048 → EntriesStored text words offset declared c.entries es

-- what adding an entry asks
pub record EntryAsked (text : Bytes) (words : List ℕ) (c : BookCounts) (offset declared : ℕ) (name : Part) (value : Value) (known : EntriesRead) : Type 0 where
  pub fits : Fits text words c
  pub table : AttrTable text words offset declared
  pub short : length text ≤ 65536
  pub name_inside : Inside text name.start name.length
  pub value_inside : EndsBefore (length text) value
  pub counted : known.count ≤ 65536

-- an entry by its parts of the text
abbrev pub entry_read : Bytes → Part → Value → Entry
entry_read text name value = record { attr = name_at text name; value = value_of text value }

-- what adding an entry gives
pub record EntryAdded (text : Bytes) (words words' : List ℕ) (c : BookCounts) (offset declared : ℕ) (name : Part) (value : Value)
    (known known' : EntriesRead) : Type 0 where
  pub agrees : Agree c words words'
  pub counted : known'.count ≡ known.count + 1
  pub after : (es : List Entry) → EntriesKnown text words c offset declared es known
      → EntriesKnown text words' c offset declared (es ++ (entry_read text name value ∷ [])) known'

-- what storing an entry asks
pub record EntryPutAsked (words : List ℕ) (attribute : ℕ) (value : Value) : Type 0 where
  pub room : book_words ≤ length words
  pub declared : attribute < 32
  pub short : EndsBefore 65536 value

-- an entry is stored, if there is room for it
pub record EntryPut (words : List ℕ) (k attribute : ℕ) (value : Value) (words' : List ℕ) : Type 0 where
  pub said : ValueWords
  pub says : Says value said
  pub put : words' ≡ pick (ltb k 2048) (with_entry words k (attribute * 4 + said.kind) said.first said.second) words
