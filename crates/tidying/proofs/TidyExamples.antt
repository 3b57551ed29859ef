-- The theorems of the tidy book, on books: one as it came back from a partner, one that says the same in other orders and spaces, one that does not.
use Prim.Native.Nat.{ℕ}
use mathlib.Core.Path.{◌≡◌, refl, sym, ap, ◌∙◌}
use mathlib.Core.Bool.{true, false}
use mathlib.Core.List.{[], ◌∷◌}
use native.Mathlib.Omega.{arith}
use Rattle.model.specs.Bytes.{Bytes, bytes_of, same}
use Rattle.model.specs.Limits.{no_node}
use Rattle.model.specs.Refusal.{Outcome, accepted}
use Rattle.model.specs.Book.{Book}
use Rattle.model.specs.ReadBook.{read_book}
use Rattle.model.specs.SameBook.{SameBook}
use Rattle.model.specs.Tidy.{tidy_book}
use Rattle.model.specs.Service.{list_service}
use Rattle.model.specs.Computing.{computing}
use Rattle.tidying.proofs.Tidying.{same_books_one_tidy_book, one_tidy_book_same_books}

-- what a partner sent
abbrev sent : Bytes
sent = bytes_of "(label l)\n(vattr k str)\n( node a(k 'x') )\n(vattr r int)\n(node b(r 7)(k ''))\n(rel l  a b)\n"

-- the same in other orders and spaces
abbrev other : Bytes
other = bytes_of "(vattr k str)\n(vattr r int)\n(node a   (k 'x'))\n(node b (k '')(r 7))\n(label l)\n(rel l a b) \n"

-- their one tidy book
abbrev tidy : Bytes
tidy = bytes_of "(vattr k str)\n(vattr r int)\n(label l)\n(node a (k 'x'))\n(node b (k '') (r 7))\n(rel l a b)\n"

-- one with another value, and its tidy book
abbrev changed : Bytes
changed = bytes_of "(vattr k str)\n(vattr r int)\n(label l)\n(node a (k 'x'))\n(node b (k '') (r 8))\n(rel l a b)\n"

one_tidy_book : (tidy_book sent ≡ accepted tidy) × (tidy_book other ≡ accepted tidy) × (tidy_book changed ≡ accepted changed)
unfolding computing
one_tidy_book = (refl, refl, refl)

-- the two say the same
say_the_same : (b c : Book) → read_book sent ≡ accepted b → read_book other ≡ accepted c → SameBook b c
say_the_same b c r q = one_tidy_book_same_books sent other tidy b c r q one_tidy_book.0 one_tidy_book.1

-- the changed one does not: it would have the same tidy book
does_not : (b c : Book) → read_book sent ≡ accepted b → read_book changed ≡ accepted c → SameBook b c → ⊥
unfolding same
does_not b c r q h =
    let e : ◌≡◌ {A = Outcome Bytes} (accepted tidy) (accepted changed) =
    sym one_tidy_book.0 ∙ same_books_one_tidy_book sent changed b c r q h ∙ one_tidy_book.2 in
    let texts : tidy ≡ changed = cc in
    let tests : true ≡ false = ap (same tidy) texts in
    let z : ◌≡◌ {A = ℕ} 0 1 = cc in absurd (omega arith)

-- the rules, the query and the request of a list
abbrev rules : Bytes
rules = bytes_of "(category view (actors requestor) (over))\n(policy view \"Match (requestor)-[e:l]->(h) Return h\")\n"

abbrev query : Bytes
query = bytes_of "Match (requestor)-[e:l]->(h) Where h.r = 7 Return h"

abbrev request : Bytes
request = bytes_of "(request view (id requestor a))\n"

-- its row, b, from what was sent and from the tidy book
one_row : ((list_service 16384 2 sent rules query request).rows ≡ 1 ∷ no_node ∷ []) × ((list_service 16384 2 tidy rules query request).rows ≡ 1 ∷ no_node ∷ [])
unfolding computing
one_row = (refl, refl)
