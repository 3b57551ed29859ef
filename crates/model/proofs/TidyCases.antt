-- The tidy book computed: what is written and what is refused, one table and one theorem over it.
use Prim.Native.Nat.{ℕ}
use Prim.Native.String.{String, ◌++◌ as ◌then◌}
use mathlib.Core.Path.{◌≡◌, refl}
use mathlib.Core.List.{List, [], ◌∷◌, ◌++◌, map}
use Rattle.model.specs.Bytes.{Bytes, bytes_of}
use Rattle.model.specs.Refusal.{Outcome, accepted, refused}
use Rattle.model.specs.Tidy.{tidy_book}
use Rattle.model.specs.Service.{book_written}
use Rattle.model.specs.Computing.{computing}
use Rattle.model.proofs.Example.{book}

-- what the writer of the tidy book is given, and what it gives
record Case : Type 0 where
  work : ℕ
  room : ℕ
  book : Bytes
  gives : Outcome Bytes

-- what it gives for a case
abbrev run : Case → Outcome Bytes
run c = book_written c.work c.room (tidy_book c.book)

-- returned (number, text, line)
abbrev returned : ℕ → ℕ → ℕ → Outcome Bytes
returned n t l = refused (record { number = n; text = t; line = l })

-- a book and the book that is written, whole memory and as much room as a book may take
abbrev becomes : String → String → Case
becomes s t = record { work = 16384; room = 65536; book = bytes_of s; gives = accepted (bytes_of t) }

-- a book that is tidy already
abbrev stays : String → Case
stays s = becomes s s

-- a book and its refusal
abbrev refused_by : String → Outcome Bytes → Case
refused_by s o = record { work = 16384; room = 65536; book = bytes_of s; gives = o }

-- a book with its kinds mixed, in several spacings, with attributes in any order
abbrev mixed : String
mixed = "(label  feeds)\n  (vattr kind str)\n(node hub( kind  'hub' ))\n(eattr since int)\n(vattr rate int )\n( node S5(rate 40)(kind 'a b') )  \n"
    then "(eattr open bool)\n(node S6   (rate -1))\n(rel feeds S5 hub(open false)(since 7))\n(label sees)\n(rel sees S6 S5)\n"

abbrev mixed_tidy : String
mixed_tidy = "(vattr kind str)\n(vattr rate int)\n(eattr since int)\n(eattr open bool)\n(label feeds)\n(label sees)\n"
    then "(node hub (kind 'hub'))\n(node S5 (kind 'a b') (rate 40))\n(node S6 (rate -1))\n(rel feeds S5 hub (since 7) (open false))\n(rel sees S6 S5)\n"

-- attributes of three types, and nodes with them
abbrev then_nodes : String → String
then_nodes s = "(vattr n int)\n(vattr t str)\n(vattr b bool)\n" then s

-- what is written
abbrev written : List Case
written =
    becomes mixed mixed_tidy
    ∷ stays mixed_tidy
    -- the worked example's book
    ∷ stays book
    -- a tidy book is longer than a book without spaces
    ∷ becomes "(vattr x int)\n(node a(x 1))\n" "(vattr x int)\n(node a (x 1))\n"
    -- the largest number, the least, and 0; a text of no bytes, one of 40, and one that looks like lists; true and false
    ∷ becomes (then_nodes "(node a(n 9223372036854775807)(t ''))\n(node b(n -9223372036854775808)(t '0123456789012345678901234567890123456789'))\n")
    (then_nodes "(node a (n 9223372036854775807) (t ''))\n(node b (n -9223372036854775808) (t '0123456789012345678901234567890123456789'))\n")
    ∷ becomes (then_nodes "(node c(b true)(n 0))\n(node d(t ' (x  ) ')(b false))\n") (then_nodes "(node c (n 0) (b true))\n(node d (t ' (x  ) ') (b false))\n")
    -- no lines, and one of each kind the other way round
    ∷ stays ""
    ∷ becomes "(label l)\n(eattr e int)\n(vattr v int)\n" "(vattr v int)\n(eattr e int)\n(label l)\n"
    ∷ []

-- a faulty book gets its own refusal, at its own line
abbrev faulty : List Case
faulty =
    refused_by "(node S6)\n(node s6)\n" (returned 5 1 2)
    ∷ refused_by "(label l)\n(node a)\n(rel l a b)\n(node b)\n" (returned 4 1 3)
    ∷ refused_by "(node S6)" (returned 3 1 1)
    ∷ []

-- 15 first, 14 last: the tidy book by one byte too long for its buffer
abbrev buffers : List Case
buffers =
    record { work = 16383; room = 0; book = bytes_of "("; gives = returned 15 0 0 }
    ∷ record { work = 16384; room = 9; book = bytes_of "(node S6)\n"; gives = returned 14 1 0 }
    ∷ record { work = 16384; room = 10; book = bytes_of "(node   S6 )\n"; gives = accepted (bytes_of "(node S6)\n") }
    ∷ record { work = 16384; room = 0; book = bytes_of "(node S6)\n(node S6)\n"; gives = returned 5 1 2 }
    ∷ record { work = 16384; room = 0; book = []; gives = accepted [] }
    ∷ []

-- all of them
abbrev cases : List Case
cases = written ++ faulty ++ buffers

-- each case gives what it says
table : map run cases ≡ map (λ c. c.gives) cases
unfolding computing
table = refl
