-- The bytes of the nodes' names, by whether the book is read.
use Prim.Native.Nat.{ℕ, ◌/◌, ◌%◌, ◌≤◌}
use mathlib.Core.Path.{◌≡◌, refl, sym, ap, ◌∙◌}
use mathlib.Core.List.{List, []}
use lib.ListN.{length, get_or, replicate, get_or-eq_default}
use Rattle.model.specs.Bytes.{Bytes}
use Rattle.model.specs.Refusal.{Refusal, accepted, refused}
use Rattle.model.specs.Book.{Book, empty_book, node_names}
use Rattle.model.specs.ReadBook.{read_book}
use Rattle.model.specs.Service.{with_work}
use Rattle.model.specs.Answers.{book_of}
use Rattle.book_tables.specs.declared.BookCounts.{BookCounts}
use Rattle.book_tables.specs.Layout as layout
use Rattle.book_tables.specs.View.{name_of, names_at, book_at}
use Rattle.book_tables.proofs.ListedLaws.{length_listed}
use Rattle.book_tables.proofs.NameLaws.{node_names_law}
use Rattle.node_names.specs.Names.{name_byte, name_bytes, names_left}
use Rattle.book_tables.proofs.PutLaws.{put_nothing}

-- no names are bytes of 0
pub no_names : replicate 6400 0 ≡ name_bytes []
unfolding name_bytes name_byte
no_names = put_nothing (name_byte []) 6400 (λ i. refl)

-- a number that is no node has no name
pub past_names : (book : Bytes) (words : List ℕ) (c : BookCounts) (k : ℕ) → c.nodes ≤ k / 25 → 0 ≡ name_byte (node_names (book_at book words c)) k
unfolding name_byte names_at
past_names book words c k h =
    let names = node_names_law book words c in
    let few : length (node_names (book_at book words c)) ≤ k / 25 = rw (names, length_listed (name_of book words layout.node_names) c.nodes) h in
    sym (ap (λ (n : Bytes). get_or n (k % 25) 0) (get_or-eq_default (node_names (book_at book words c)) [] few))

-- a byte of a node's name
pub name_byte_law : (names : List Bytes) (name : Bytes) (k x : ℕ) → name ≡ get_or names (k / 25) [] → x ≡ get_or name (k % 25) 0 → x ≡ name_byte names k
unfolding name_byte
name_byte_law names name k x e h = h ∙ ap (λ (n : Bytes). get_or n (k % 25) 0) e

-- what is left where the book is read, and where it is refused
pub left_loaded : (work : ℕ) (book : Bytes) (b : Book) → with_work work (read_book book) ≡ accepted b → name_bytes (node_names b) ≡ names_left work book
unfolding names_left book_of
left_loaded work book b e = rw e

pub left_refused : (work : ℕ) (book : Bytes) (x : Refusal) → with_work work (read_book book) ≡ refused x → name_bytes [] ≡ names_left work book
unfolding names_left book_of empty_book node_names
left_refused work book x e = rw e
