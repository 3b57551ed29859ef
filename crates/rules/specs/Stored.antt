-- Names of a line stored in the words, and a category added to the tables.
use Rattle.std.specs.Prelude.{ℕ, ◌+◌, ◌/◌, ◌%◌, ◌≤◌, ◌<◌, ◌≡◌, List, ◌++◌, length}
use Rattle.model.specs.Bytes.{Bytes}
use Rattle.model.specs.Choice.{nothing, just}
use Rattle.model.specs.Book.{Book}
use Rattle.model.specs.ReadRules.{category, rules_fault, add_rule}
use Rattle.model.specs.Answers.{part_of, name_at}
use Rattle.model.specs.declared.Part.{Part}
use Rattle.book_tables.specs.View.{word_at, names_at}
use Rattle.book_tables.specs.Fits.{Inside}
use Rattle.rules_tables.specs.declared.RulesCounts.{RulesCounts}
use Rattle.rules_tables.specs.View.{rules_at}
use Rattle.rules_tables.specs.Fits.{Fits}
use Rattle.item_forms.specs.Places.{WordPlaces}
use Rattle.name_lists.specs.Names.{NamesRead, names_behind}

-- a line stands in a text from a place on
pub record LineAt (text : Bytes) (base : ℕ) (s : Bytes) : Type 0 where
  pub is : part_of text base (length s) ≡ s
  pub inside : base + length s ≤ length text

-- there is room in the words for the names of a list
pub record NamesRoom (words : List ℕ) (at : ℕ) (s : Bytes) (from : ℕ) : Type 0 where
  pub read : NamesRead
  pub is : names_behind s from ≡ just read
  pub room : at + length read.names ≤ length words

-- names of the line s, which begins at the place base of its text, are stored from a place of the words on; no other word is changed
pub record NamesStored (words words' : List ℕ) (at : ℕ) (s : Bytes) (base : ℕ) (ns : List Bytes) : Type 0 where
  pub size : length words' ≡ length words
  pub below : (z : ℕ) → z < at → word_at words' z ≡ word_at words z
  pub above : (z : ℕ) → at + length ns ≤ z → word_at words' z ≡ word_at words z
  pub are : (text : Bytes) → LineAt text base s → names_at text words' at (length ns) ≡ ns
  pub inside : (text : Bytes) → LineAt text base s → (j : ℕ) → j < length ns → Inside text (word_at words' (at + j) / 32) (word_at words' (at + j) % 32)

-- n names of a list are stored, and the others stand from the place i on
pub record Storing (words words' : List ℕ) (at : ℕ) (s : Bytes) (base i n : ℕ) (ns : List Bytes) : Type 0 where
  pub done : List Bytes
  pub rest : NamesRead
  pub here : names_behind s i ≡ just rest
  pub split : ns ≡ done ++ rest.names
  pub count : n ≡ length done
  pub stored : NamesStored words words' at s base done

-- a category's line without a fault
pub record CategoryClear (text : Bytes) (words : List ℕ) (c : RulesCounts) (s : Bytes) (base : ℕ) (cat : Part) (a o : ℕ) : Type 0 where
  pub fits : Fits text words c
  pub short : length text ≤ 16384
  pub line : LineAt text base s
  pub places : WordPlaces s 0 cat
  pub actors : NamesRead
  pub over : NamesRead
  pub actors_are : names_behind s a ≡ just actors
  pub over_are : names_behind s o ≡ just over
  pub clear : (b : Book) → rules_fault b (rules_at text words c) (category (name_at s cat) actors.names over.names) ≡ nothing

-- the words then hold the rules with it
pub record CategoryAdded (text : Bytes) (words words' : List ℕ) (c : RulesCounts) (s : Bytes) (cat : Part) (a o : ℕ) (r : RulesCounts) : Type 0 where
  pub fits : Fits text words' r
  pub is : (x y : NamesRead) → names_behind s a ≡ just x → names_behind s o ≡ just y
      → rules_at text words' r ≡ add_rule (rules_at text words c) (category (name_at s cat) x.names y.names)
