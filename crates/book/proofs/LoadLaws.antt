-- A book of no lines, and what a line of a book gives.
use Prim.Native.Nat.{ℕ, ◌+◌, ◌-◌, ◌≤◌, ◌<◌}
use mathlib.Core.Path.{◌≡◌, refl, sym, ap, ◌∙◌, subst}
use mathlib.Core.List.{List}
use native.Mathlib.Omega.{arith}
use lib.ListN.{length, take, drop, length-drop}
use lib.Seq.{length-take-le}
use borrow.Author.Tests.{lt-ltb, le-ltb}
use Rattle.std.specs.Prelude.{Result, Ok, Err}
use Rattle.model.specs.Bytes.{Bytes}
use Rattle.model.specs.Choice.{and_then}
use Rattle.model.specs.Lists.{sum}
use Rattle.model.specs.Lines.{Step, fault, known, form_step}
use Rattle.model.specs.Items.{line_items}
use Rattle.model.specs.Forms.{form_of}
use Rattle.model.specs.Book.{Book, empty_book, entry_count}
use Rattle.model.specs.BookLines.{book_line}
use Rattle.model.specs.ReadBook.{book_step}
use Rattle.model.specs.Answers.{part_of}
use Rattle.model.specs.Service.{ones}
use Rattle.text.specs.Lines.{line_at}
use Rattle.chains.specs.Chains.{cleared}
use Rattle.chains.proofs.ChainLaws.{length_cleared, cleared_before, cleared_chained, chained_kept}
use Rattle.book_tables.specs.declared.BookCounts.{BookCounts}
use Rattle.book_tables.specs.declared.NameRule.{NameRule}
use Rattle.book_tables.specs.Alike.{alike}
use Rattle.book_tables.specs.Listed.{listed}
use Rattle.book_tables.specs.Layout.{node_heads, node_links, from_heads, from_links, keys, book_words}
use Rattle.book_tables.specs.View.{names_at, node_slot, attrs_at, rel_from, book_at}
use Rattle.book_tables.specs.Fits.{Fits}
use Rattle.book_tables.specs.Stores.{no_counts, without_chains}
use Rattle.fill.specs.Filled.{filled}
use Rattle.fill.specs.FilledLaws.{length_filled, filled_whole}
use Rattle.book_steps.specs.Steps.{step_of, Stepped}
use Rattle.book_lines.specs.Forms.{form_step_of, FormAsked}
use Rattle.book.specs.Loaded.{LineAsked}

pub empty_is : (text : Bytes) (words : List ℕ) → book_at text words no_counts ≡ empty_book
unfolding book_at empty_book attrs_at names_at listed
empty_is text words = refl

pub length_cleared_chains : (words : List ℕ) → length (without_chains words) ≡ length words
unfolding without_chains
length_cleared_chains words = length_cleared (cleared words node_heads keys) from_heads keys ∙ length_cleared words node_heads keys

pub empty_fits : (text : Bytes) (words : List ℕ) → book_words ≤ length words → Fits text (without_chains words) no_counts
unfolding entry_count empty_book sum without_chains
empty_fits text words room = record {
  room = rw length_cleared_chains room;
  within = omega arith;
  vattrs = record { inside = λ i l. absurd (omega arith); differ = λ i j l m e. absurd (omega arith) };
  eattrs = record { inside = λ i l. absurd (omega arith); differ = λ i j l m e. absurd (omega arith) };
  labels = record { inside = λ i l. absurd (omega arith); differ = λ i j l m e. absurd (omega arith) };
  nodes = record { inside = λ i l. absurd (omega arith); differ = λ i j l m e. absurd (omega arith) };
  of_nodes = λ i l. absurd (omega arith);
  rels = λ i l. absurd (omega arith);
  of_rels = λ i l. absurd (omega arith);
  counted = ap entry_count (empty_is text (without_chains words));
  node_chains =
      chained_kept (cleared words node_heads keys) (without_chains words) node_heads node_links keys (node_slot text (without_chains words))
      (node_slot text (without_chains words)) 0
      (cleared_chained words node_heads node_links keys (node_slot text (without_chains words)) (omega arith))
      (λ k l. cleared_before (cleared words node_heads keys) from_heads keys (node_heads + k) (omega arith))
      (λ i l. absurd (omega arith))
      (λ i l. refl);
  rel_chains = cleared_chained (cleared words node_heads keys) from_heads from_links keys (rel_from (without_chains words)) (rw length_cleared (omega arith));
}

-- a last line without a line feed: 3
pub line_open : (rule : NameRule) (text : Bytes) (from to : ℕ) (b : Book) → length text ≤ to → book_step (alike rule) b (line_at text from to) ≡ fault 3
unfolding book_step line_at form_of form_step and_then
line_open rule text from to b h = rw (le-ltb to (length text) h)

-- what a line's step says, by its case
pub step_refuses : (text : Bytes) (words : List ℕ) (s : Step Book) (r : Result BookCounts ℕ) (n : ℕ) → r ≡ Err n → Stepped text words r s → s ≡ fault n
step_refuses text words s r n e h = subst (λ (x : Result BookCounts ℕ). Stepped text words x s) e h

pub step_adds : (text : Bytes) (words : List ℕ) (s : Step Book) (r : Result BookCounts ℕ) (c : BookCounts) → r ≡ Ok c → Stepped text words r s
    → (s ≡ known (book_at text words c)) × Fits text words c
step_adds text words s r c e h = subst (λ (x : Result BookCounts ℕ). Stepped text words x s) e h

-- words that were filled are all ones
pub filled_ones : (words words' : List ℕ) → words' ≡ filled 0 words → words' ≡ ones (length words')
unfolding ones
filled_ones words words' e = e ∙ filled_whole words ∙ ap (λ (n : ℕ). ones n) (sym (ap length e ∙ length_filled 0 words))

-- a line that ends in a line feed goes by its form
pub line_closed : (rule : NameRule) (text : Bytes) (from to : ℕ) (b : Book) → to < length text
    → book_step (alike rule) b (line_at text from to) ≡ form_step_of rule b (and_then (line_items (part_of text from (to - from))) book_line)
unfolding book_step line_at form_of form_step_of step_of
line_closed rule text from to b h = rw (lt-ltb to (length text) h)

-- what reading its form asks
pub line_asked : (text : Bytes) (words : List ℕ) (c : BookCounts) (from to : ℕ) → LineAsked text words c from to
    → FormAsked text (take (to - from) (drop from text)) words c from
unfolding part_of
line_asked text words c from to a =
    let n : length (take (to - from) (drop from text)) ≡ to - from = length-take-le (to - from) (drop from text)
    (omega (arith, length-drop from text, a.inside)) in
    record {
      fits = a.fits;
      limit = a.limit;
      is = ap (λ (k : ℕ). take k (drop from text)) (sym n);
      inside = omega (arith, n, a.inside, a.forward);
    }
