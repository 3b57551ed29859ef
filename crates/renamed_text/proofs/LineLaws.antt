-- A line with its line feed: its words, and then the lines that follow. Assumes nothing.
use Prim.Native.Nat.{ℕ, ◌+◌, ◌-◌, ◌≤◌, ◌<◌}
use mathlib.Core.Path.{◌≡◌, ap, ◌∙◌}
use mathlib.Core.Bool.{Bool, false}
use mathlib.Core.List.{List, [], ◌∷◌, ◌++◌, append-nil, append_assoc}
use native.Mathlib.Omega.{arith}
use lib.ListN.{length, take, drop, get_or}
use lib.Dec.{ltb}
use borrow.Author.Tests.{lt-ltb, le-ltb, eqb-true, not-false}
use Rattle.logic.specs.Lists.{drop_at}
use Rattle.model.specs.Bytes.{Bytes}
use Rattle.model.specs.Choice.{pick}
use Rattle.model.specs.Names.{Name}
use Rattle.model.specs.Lines.{lines_of}
use Rattle.model.specs.Answers.{part_of}
use Rattle.model.specs.Renaming.{first_word, node_words}
use Rattle.text.specs.Places.{past, is_other}
use Rattle.text.specs.Lines.{is_in_line, line_at}
use Rattle.text.proofs.PlaceLaws.{past_stops}
use Rattle.text.proofs.LineLaws.{lines_none}
use Rattle.text.proofs.LineReads.{first_line_law, line_forward, line_inside}
use Rattle.renamed_text.specs.declared.names.Progress.{Progress}
use Rattle.renamed_text.specs.Renamed.{words_then, lines_by}
use Rattle.renamed_text.specs.Progress.{to_come, Goes, LineGone}
use Rattle.renamed_text.proofs.FrontLaws.{front_rest}
use Rattle.renamed_text.proofs.ProgressLaws.{part_and_part, reads_on}

module _ (text : Bytes) (from to : ℕ) (e : to ≡ past is_in_line text from) (l : from < length text) where
  -- the byte behind a line is a line feed
  feed : to < length text → get_or text to 0 ≡ 10
  unfolding is_other
  feed h = rw e (eqb-true (get_or text (past is_in_line text from) 0) 10 (not-false _ (past_stops is_in_line text from (omega arith))))

  feed_part : to < length text → part_of text to (to + 1 - to) ≡ 10 ∷ []
  unfolding part_of
  feed_part h = let n : to + 1 - to ≡ 1 = omega arith in rw (n, drop_at text to h, feed h)

  no_part : part_of text to (to - to) ≡ []
  unfolding part_of
  no_part = let n : to - to ≡ 0 = omega arith in rw n

  -- the lines from a line on
  lines_here : (later : Name → Bool) → lines_by later (lines_of (drop from text))
      ≡ words_then later (false ∷ node_words (first_word (drop from (take to text)))) (drop from (take to text))
      (pick (ltb to (length text)) (10 ∷ []) [] ++ lines_by later (lines_of (drop (to + 1) text)))
  unfolding lines_by line_at
  lines_here later = rw (first_line_law text from to e l, front_rest text to from (line_forward text from to e l) (line_inside text from to e l))

module _ (text : Bytes) (p : Progress) (to : ℕ) (e : to ≡ past is_in_line text p.seen) (l : p.seen < length text) where
  -- the words of the line that name a node
  abbrev nodes : List Bool
  nodes = false ∷ node_words (first_word (drop p.seen (take to text)))

  module _ (later : Name → Bool) (out out' : Bytes) (r : Progress) (g : Goes later text to out p nodes out' r) where
    -- what follows the words of the line
    line_then : (k : ℕ) (t : Bytes) → to ≤ k → part_of text to (k - to) ≡ t → (rest : Bytes)
        → to_come text out' (record { seen = k; put = r.put; at = r.at }) rest
        ≡ to_come text out p (words_then later nodes (drop p.seen (take to text)) (t ++ rest))
    unfolding words_then
    line_then k t h f rest =
        let i = line_inside text p.seen to e l in
        let w : nodes ++ [] ≡ nodes = append-nil nodes in
        reads_on text out' r k g.read (omega (arith, g.inside)) rest
        ∙ ap (λ (x : Bytes). to_come text out' r (x ++ rest)) (part_and_part text r.seen to k g.inside h)
        ∙ ap (to_come text out' r) (append_assoc (part_of text r.seen (to - r.seen)) (part_of text to (k - to)) rest)
        ∙ rw (f, ← front_rest text to r.seen g.inside i) (g.same [] (t ++ rest))
        ∙ ap (λ (ns : List Bool). to_come text out p (words_then later ns (drop p.seen (take to text)) (t ++ rest))) w

    -- a line that ends with a line feed, and one that the text ends with
    pub line_ended : to < length text → LineGone later text out p out' (record { seen = to + 1; put = r.put; at = r.at })
    line_ended h = record {
      read = omega (arith, g.read, g.inside);
      onward = omega (arith, line_forward text p.seen to e l);
      inside = omega arith;
      same = line_then (to + 1) (10 ∷ []) (omega arith) (feed_part text p.seen to e l h) _
          ∙ rw (lines_here text p.seen to e l later, lt-ltb to (length text) h);
    }

    pub line_last : length text ≤ to → LineGone later text out p out' (record { seen = to; put = r.put; at = r.at })
    line_last h = record {
      read = omega (arith, g.read, g.inside);
      onward = omega arith;
      inside = line_inside text p.seen to e l;
      same = line_then to [] (omega arith) (no_part text p.seen to e l) _
          ∙ rw (lines_here text p.seen to e l later, le-ltb to (length text) h, lines_none text to h, lines_none text (to + 1) (omega arith));
    }
