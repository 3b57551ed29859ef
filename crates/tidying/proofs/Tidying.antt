-- The theorems of the tidy book: it is accepted and says what the book that it was written for says; books that say the same have one tidy book; a tidy book
-- is written unchanged; and every list from it, and every lamp, is that from the book it came from.
use Prim.Native.Nat.{ℕ, ◌≤◌}
use mathlib.Core.Path.{◌≡◌, sym, ap, subst, ◌∙◌}
use lib.ListN.{length}
use lib.Dec.{ltb}
use Rattle.model.specs.Bytes.{Bytes}
use Rattle.model.specs.Choice.{pick}
use Rattle.model.specs.Limits.{max_book_bytes}
use Rattle.model.specs.Refusal.{accepted, on_accept, refusal}
use Rattle.model.specs.Book.{Book}
use Rattle.model.specs.ReadBook.{read_book_by, read_book}
use Rattle.model.specs.Graph.{Each}
use Rattle.model.specs.SameBook.{SameBook}
use Rattle.model.specs.Tidy.{tidy_node, tidy_rel, tidied, lines_by_kind, tidy_text, tidy_book}
use Rattle.model.specs.Service.{book_writer, book_service, rules_service, query_service, request_service, writer_service, tidy_service, list_service, lamp_service}
use Rattle.model.proofs.Places.{length_map}
use Rattle.model.proofs.Outcomes.{accept_bytes}
use Rattle.model.proofs.TidyRefusals.{tidy_given, tidy_gives}
use Rattle.tidying.proofs.Made.{Made, LineMade}
use Rattle.tidying.proofs.AcceptedMade.{accepted_made}
use Rattle.tidying.proofs.LineBack.{line_back}
use Rattle.tidying.proofs.TextBack.{lines_back, text_allowed}
use Rattle.tidying.proofs.BookBack.{book_lines_made, book_back}
use Rattle.tidying.proofs.TidiedMade.{tidied_count, tidied_made}
use Rattle.tidying.proofs.SameRows.{same_rules_service, same_query_service, same_request_service, same_writer_service, same_list, same_lamp}
use Rattle.tidying.proofs.SameTidied.{same_turned, same_on, tidied_same, same_text}

-- the tidy text of a book that was read, if it is not too long, reads back as that book, its attributes in the order of their declarations
tidy_text_read : (b : Book) → Made b → length (tidy_text b) ≤ max_book_bytes → read_book (tidy_text b) ≡ accepted (tidied b)
unfolding read_book read_book_by tidy_text
tidy_text_read b made short =
    let made-anew = tidied_made b made in
    let lines_made : Each LineMade (lines_by_kind (tidied b)) = book_lines_made (tidied b) made-anew in
    accept_bytes 1 max_book_bytes (λ l. l) (tidy_text b) _ (tidied b) (record {
      short = short;
      allowed = text_allowed (lines_by_kind (tidied b)) lines_made;
      rest = rw (lines_back (lines_by_kind (tidied b)) lines_made) (book_back line_back (tidied b) made-anew);
    })

-- a text t that is the tidy book of a text s
pub record Tidied (s t : Bytes) : Type 0 where
  pub book : Book
  pub read : read_book s ≡ accepted book
  pub text_is : t ≡ tidy_text book
  pub short : length t ≤ max_book_bytes
  pub read_anew : read_book t ≡ accepted (tidied book)
  pub says_the_same : SameBook book (tidied book)

-- what is written is accepted, and the book read from it has the same declarations, nodes and relationships in the same orders, each with the same
-- attributes and values
pub tidying : (s t : Bytes) → tidy_book s ≡ accepted t → Tidied s t
tidying s t e =
    let (b, r, is, short) = tidy_given s t e in
    let made = accepted_made s b r in
    record {
      book = b;
      read = r;
      text_is = is;
      short = rw is short;
      read_anew = ap read_book is ∙ tidy_text_read b made short;
      says_the_same = tidied_same b made;
    }

-- two accepted books that say the same have the same tidy book, or neither has one
pub same_books_one_tidy_book : (s t : Bytes) (b c : Book) → read_book s ≡ accepted b → read_book t ≡ accepted c → SameBook b c → tidy_book s ≡ tidy_book t
unfolding tidy_book on_accept
same_books_one_tidy_book s t b c r u h =
    let e = same_text b c h in rw (r, u) (ap (λ (x : Bytes). pick (ltb max_book_bytes (length x)) (refusal 14 1 0) (accepted x)) e)

-- so the same is answered for both, and each byte of the buffer is the same
pub same_books_same_bytes : (s t : Bytes) (b c : Book) → read_book s ≡ accepted b → read_book t ≡ accepted c → SameBook b c
    → (work : ℕ) (buffer : Bytes) → tidy_service work buffer s ≡ tidy_service work buffer t
unfolding tidy_service
same_books_same_bytes s t b c r u h work buffer =
    ap (book_writer work buffer) (same_books_one_tidy_book s t b c r u h)

-- the other way: two accepted books that have one tidy book say the same
pub one_tidy_book_same_books : (s t u : Bytes) (b c : Book) → read_book s ≡ accepted b → read_book t ≡ accepted c
    → tidy_book s ≡ accepted u → tidy_book t ≡ accepted u → SameBook b c
one_tidy_book_same_books s t u b c r q e d =
    let x = tidying s u e in
    let y = tidying t u d in
    let of_s : x.book ≡ b = cc (x.read, r) in
    let of_t : y.book ≡ c = cc (y.read, q) in
    let one : tidied x.book ≡ tidied y.book = cc (x.read_anew, y.read_anew) in
    let same = same_on x.says_the_same (subst (λ (z : Book). SameBook z y.book) (sym one) (same_turned y.says_the_same)) in
    subst (SameBook b) of_t (subst (λ (z : Book). SameBook z y.book) of_s same)

-- a tidy book is written unchanged
pub tidy_stays : (s t : Bytes) → tidy_book s ≡ accepted t → tidy_book t ≡ accepted t
tidy_stays s t e =
    let x = tidying s t e in
    let same : tidy_text (tidied x.book) ≡ t = same_text (tidied x.book) x.book (same_turned x.says_the_same) ∙ sym x.text_is in
    tidy_gives t (tidied x.book) x.read_anew (rw same x.short) ∙ ap accepted same

-- as many nodes, and as many relationships
nodes_kept : (b : Book) → length (tidied b).nodes ≡ length b.nodes
unfolding tidied
nodes_kept b = length_map (tidy_node b.vattrs) b.nodes

rels_kept : (b : Book) → length (tidied b).rels ≡ length b.rels
unfolding tidied
rels_kept b = length_map (tidy_rel b.eattrs) b.rels

-- every list, every lamp and every reader's and writer's answer from a tidy book is that from the book it came from: for all other texts, memory and buffers
module _ (s t : Bytes) (e : tidy_book s ≡ accepted t) where
  abbrev x : Tidied s t
  x = tidying s t e

  -- the list: its answer, each row word and the memory; the refusals of the other texts, of the woven pattern and of the buffer too
  pub same_list_when_tidy : (work words : ℕ) (rules query request : Bytes)
      → list_service work words t rules query request ≡ list_service work words s rules query request
  same_list_when_tidy = same_list t s x.read_anew x.read (same_turned x.says_the_same)

  -- the lamp
  pub same_lamp_when_tidy : (work : ℕ) (rules query request : Bytes) → lamp_service work t rules query request ≡ lamp_service work s rules query request
  same_lamp_when_tidy = same_lamp t s x.read_anew x.read (same_turned x.says_the_same)

  -- the book's counts
  pub same_counts_when_tidy : (work : ℕ) → book_service work t ≡ book_service work s
  unfolding book_service on_accept
  same_counts_when_tidy work =
      let made = accepted_made s x.book x.read in
      rw (x.read_anew, x.read, tidied_count x.book made, nodes_kept x.book, rels_kept x.book)

  -- the readers of rules, query and request, and the query writer
  pub same_rules_when_tidy : (work : ℕ) (rules : Bytes) → rules_service work t rules ≡ rules_service work s rules
  same_rules_when_tidy = same_rules_service t s x.read_anew x.read (same_turned x.says_the_same)

  pub same_query_when_tidy : (work : ℕ) (query : Bytes) → query_service work t query ≡ query_service work s query
  same_query_when_tidy = same_query_service t s x.read_anew x.read (same_turned x.says_the_same)

  pub same_request_when_tidy : (work : ℕ) (rules request : Bytes) → request_service work t rules request ≡ request_service work s rules request
  same_request_when_tidy = same_request_service t s x.read_anew x.read (same_turned x.says_the_same)

  pub same_writing_when_tidy : (work : ℕ) (buffer rules query : Bytes) → writer_service work buffer t rules query ≡ writer_service work buffer s rules query
  same_writing_when_tidy = same_writer_service t s x.read_anew x.read (same_turned x.says_the_same)
