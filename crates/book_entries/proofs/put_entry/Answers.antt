use borrow.Author.Tests.{lt-ltb, le-ltb}
use native.Mathlib.Omega.{arith}
use Rattle.book_entries.proofs.put_entry.Goals as goal

pub value_words-said-requires : goal.value_words-said-requires
value_words-said-requires c = c.requires.short

pub overflow_add-attribute : goal.overflow_add-attribute
overflow_add-attribute c = omega (arith, c.value_words-said.ensures.type)

pub returns-then-k-lt-MAX_ENTRIES : goal.returns-then-k-lt-MAX_ENTRIES
returns-then-k-lt-MAX_ENTRIES c =
    record {
      said = c.value_words-said.result;
      says = c.value_words-said.ensures;
      put = rw (lt-ltb _ 2048 c.if-k-lt-MAX_ENTRIES.true)
          c.store_entry.ensures;
    }

pub returns-else-k-lt-MAX_ENTRIES : goal.returns-else-k-lt-MAX_ENTRIES
returns-else-k-lt-MAX_ENTRIES c = record { said = c.value_words-said.result; says = c.value_words-said.ensures; put = rw (le-ltb _ 2048 c.if-k-lt-MAX_ENTRIES.false) }
