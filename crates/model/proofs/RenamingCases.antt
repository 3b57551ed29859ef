-- The renaming computed: what it writes and what it refuses, one table and one theorem over it.
use Prim.Native.Nat.{ℕ}
use Prim.Native.String.{String, ◌++◌ as ◌then◌}
use mathlib.Core.Path.{◌≡◌, refl}
use mathlib.Core.List.{List, [], ◌∷◌, ◌++◌, map}
use Rattle.model.specs.Bytes.{Bytes, bytes_of}
use Rattle.model.specs.Refusal.{Outcome, accepted, refused}
use Rattle.model.specs.Renaming.{renamed_book}
use Rattle.model.specs.Service.{book_written}
use Rattle.model.specs.Computing.{computing}

-- what the renaming is given, and what it gives
record Case : Type 0 where
  work : ℕ
  room : ℕ
  book : Bytes
  gives : Outcome Bytes

-- what it gives for a case
abbrev run : Case → Outcome Bytes
run c = book_written c.work c.room (renamed_book c.book)

-- returned (number, text, line)
abbrev returned : ℕ → ℕ → ℕ → Outcome Bytes
returned n t l = refused (record { number = n; text = t; line = l })

-- a book and the book that is written, whole memory and as much room as a book may take
abbrev becomes : String → String → Case
becomes s t = record { work = 16384; room = 65536; book = bytes_of s; gives = accepted (bytes_of t) }

-- a book and its refusal
abbrev refused_by : String → Outcome Bytes → Case
refused_by s o = record { work = 16384; room = 65536; book = bytes_of s; gives = o }

-- readings of two probes whose names are equal but for case, with relationships at both
abbrev probes : String
probes = "(vattr rate int)\n(eattr since int)\n(label feeds)\n(node S6 (rate 1))\n(node s6 (rate 2))\n"
    then "(rel feeds S6 s6 (since 3))\n(rel feeds s6 S6)\n(rel feeds s6 s6)\n(rel feeds S6 S6)\n"

abbrev probes_anew : String
probes_anew = "(vattr rate int)\n(eattr since int)\n(label feeds)\n(node S6 (rate 1))\n(node s6_b (rate 2))\n"
    then "(rel feeds S6 s6_b (since 3))\n(rel feeds s6_b S6)\n(rel feeds s6_b s6_b)\n(rel feeds S6 S6)\n"

-- what is written
abbrev written : List Case
written =
    becomes probes probes_anew
    -- spaces stay where they were
    ∷ becomes "  ( node   S6  )\n( node s6)  \n (label l)\n(rel  l s6   S6 )\n" "  ( node   S6  )\n( node s6_b)  \n (label l)\n(rel  l s6_b   S6 )\n"
    -- a label, an attribute and a text value that are called like the node stay
    ∷ becomes "(label s6)\n(vattr s6 str)\n(eattr s6 str)\n(node S6 (s6 's6'))\n(node s6 (s6 's6'))\n(rel s6 s6 S6 (s6 's6'))\n"
    "(label s6)\n(vattr s6 str)\n(eattr s6 str)\n(node S6 (s6 's6'))\n(node s6_b (s6 's6'))\n(rel s6 s6_b S6 (s6 's6'))\n"
    -- two pairs, and names that only begin like a later one
    ∷ becomes "(node a)\n(node b)\n(node A)\n(node B)\n(node AA)\n" "(node a)\n(node b)\n(node A_b)\n(node B_b)\n(node AA)\n"
    -- a node that is called like the word that begins its line
    ∷ becomes "(node NODE)\n(node node)\n(label rel)\n(rel rel node NODE)\n" "(node NODE)\n(node node_b)\n(label rel)\n(rel rel node_b NODE)\n"
    -- no pair
    ∷ becomes "(node S6)\n(node s7)\n" "(node S6)\n(node s7)\n"
    ∷ becomes "" ""
    -- a later name of 22 bytes
    ∷ becomes "(node Abcdefghijklmnopqrstuv)\n(node abcdefghijklmnopqrstuv)\n" "(node Abcdefghijklmnopqrstuv)\n(node abcdefghijklmnopqrstuv_b)\n"
    ∷ []

-- 5 at the later name's own line
abbrev stuck : List Case
stuck =
    -- the third of three would get a name that was given above
    refused_by "(node ab)\n(node Ab)\n(node aB)\n" (returned 5 1 3)
    -- another node has that name, case aside, above or below
    ∷ refused_by "(node S6)\n(node s6)\n(node S6_B)\n" (returned 5 1 2)
    ∷ refused_by "(node s6_B)\n(node S6)\n(label l)\n(node s6)\n" (returned 5 1 4)
    -- a later name of 23 bytes
    ∷ refused_by "(node Abcdefghijklmnopqrstuvw)\n(node abcdefghijklmnopqrstuvw)\n" (returned 5 1 2)
    ∷ []

-- a faulty book gets its own refusal, by the very names, and before 5
abbrev faulty : List Case
faulty =
    refused_by "(node S6)\n(node S6)\n" (returned 5 1 2)
    ∷ refused_by "(node ab)\n(node Ab)\n(node aB)\n(node c (rate 1))\n" (returned 4 1 4)
    ∷ refused_by "(label l)\n(node S6)\n(rel l s6 S6)\n" (returned 4 1 3)
    ∷ refused_by "(node S6)\n(node s6)" (returned 3 1 2)
    ∷ []

-- 15 first, 14 last: the new book by one byte too long for its buffer
abbrev buffers : List Case
buffers =
    record { work = 16383; room = 0; book = bytes_of "("; gives = returned 15 0 0 }
    ∷ record { work = 16384; room = 21; book = bytes_of "(node S6)\n(node s6)\n"; gives = returned 14 1 0 }
    ∷ record { work = 16384; room = 22; book = bytes_of "(node S6)\n(node s6)\n"; gives = accepted (bytes_of "(node S6)\n(node s6_b)\n") }
    ∷ record { work = 16384; room = 0; book = bytes_of "(node ab)\n(node Ab)\n(node aB)\n"; gives = returned 5 1 3 }
    ∷ []

-- all of them
abbrev cases : List Case
cases = written ++ stuck ++ faulty ++ buffers

-- each case gives what it says
table : map run cases ≡ map (λ c. c.gives) cases
unfolding computing
table = refl
