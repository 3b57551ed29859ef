-- Words of a line, one after another: what the buffer is to hold stays the same. Assumes nothing.
use Prim.Native.Nat.{ℕ, ◌+◌, ◌≤◌}
use mathlib.Core.Path.{◌≡◌, refl, ap, ◌∙◌}
use mathlib.Core.Bool.{Bool, true, false, ◌&&◌}
use mathlib.Core.List.{List, [], ◌∷◌, ◌++◌, append_assoc}
use native.Mathlib.Omega.{arith}
use lib.ListN.{take, drop}
use Rattle.model.specs.Bytes.{Bytes, bytes_of, same}
use Rattle.model.specs.Choice.{pick}
use Rattle.model.specs.Names.{Name}
use Rattle.model.specs.Renaming.{suffix, first_word, node_words}
use Rattle.renamed_text.specs.declared.words.Word.{Word}
use Rattle.renamed_text.specs.declared.names.Progress.{Progress}
use Rattle.renamed_text.specs.Words.{LineWord}
use Rattle.renamed_text.specs.Renamed.{words_then}
use Rattle.renamed_text.specs.Progress.{to_come, Suffixed, Goes}
use Rattle.renamed_text.proofs.ProgressLaws.{reads_on}

module _ (later : Name → Bool) (text : Bytes) (to : ℕ) where
  -- words and then words
  pub goes_then : {out : Bytes} {p : Progress} {f : List Bool} {o : Bytes} {q : Progress} {g : List Bool} {out' : Bytes} {r : Progress}
      → Goes later text to out p f o q → Goes later text to o q g out' r → Goes later text to out p (f ++ g) out' r
  goes_then {f = f} {g = g} h k = record {
    read = k.read;
    inside = k.inside;
    same = λ more rest. rw (append_assoc f g more) (k.same more rest ∙ h.same (g ++ more) rest);
  }

  module _ (out : Bytes) (p : Progress) (read : p.put ≤ p.seen) (w : Word) (found : LineWord text to p.seen w) where
    -- the line from where it has been read on
    abbrev line : Bytes
    line = drop p.seen (take to text)

    -- the word is read, and nothing is put
    abbrev pub passed : Progress
    passed = record { seen = w.end; put = p.put; at = p.at }

    -- whether `_b` is due behind the word
    word_read : (is_node due : Bool) → is_node && later (first_word line) ≡ due → (more : List Bool) (rest : Bytes)
        → to_come text out passed (pick due suffix [] ++ words_then later more (drop w.end (take to text)) rest)
        ≡ to_come text out p (words_then later (is_node ∷ more) line rest)
    unfolding words_then
    word_read is_node due e more rest =
        reads_on text out p w.end read (omega (arith, found.forward, found.order)) _
        ∙ rw (found.read, found.after, e)

    module _ (is_node : Bool) where
      -- no `_b` is due
      pub word_passed : is_node && later (first_word line) ≡ false → Goes later text to out p (is_node ∷ []) out passed
      word_passed e = record {
        read = omega (arith, found.forward, found.order);
        inside = found.inside;
        same = λ more rest. word_read is_node false e more rest;
      }

      -- `_b` is due, and is put
      pub word_suffixed : {out' : Bytes} {r : Progress} → is_node && later (first_word line) ≡ true → Suffixed text out passed out' r
          → Goes later text to out p (is_node ∷ []) out' r
      word_suffixed e s = record {
        read = omega (arith, s.seen, s.put);
        inside = omega (arith, s.seen, found.inside);
        same = λ more rest. s.same _ ∙ ap (λ (n : ℕ). to_come text out passed (suffix ++ words_then later more (drop n (take to text)) rest)) s.seen
            ∙ word_read is_node true e more rest;
      }

    -- the words that name a node, by the first word
    module _ {out' : Bytes} {r : Progress} where
      pub node_line_law : same (first_word line) (bytes_of "node") ≡ true → Goes later text to out passed (true ∷ []) out' r
          → Goes later text to out p (false ∷ node_words (first_word line)) out' r
      unfolding node_words
      node_line_law e g = rw e (goes_then (word_passed false refl) g)

      pub relationship_line : same (first_word line) (bytes_of "node") ≡ false → same (first_word line) (bytes_of "rel") ≡ true
          → Goes later text to out passed (false ∷ true ∷ true ∷ []) out' r → Goes later text to out p (false ∷ node_words (first_word line)) out' r
      unfolding node_words
      relationship_line e f g = rw (e, f) (goes_then (word_passed false refl) g)

    pub other_line : same (first_word line) (bytes_of "node") ≡ false → same (first_word line) (bytes_of "rel") ≡ false
        → Goes later text to out p (false ∷ node_words (first_word line)) out passed
    unfolding node_words
    other_line e f = rw (e, f) (word_passed false refl)
