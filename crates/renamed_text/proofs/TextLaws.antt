-- The whole text: the definition in pieces is the one in bytes, and once no line is left it is put. Assumes nothing.
use Prim.Native.Nat.{ℕ, ◌-◌}
use mathlib.Core.Path.{◌≡◌, refl, sym, ap, ◌∙◌, fun_ext}
use mathlib.Core.Bool.{Bool, true, false, ◌&&◌}
use mathlib.Core.List.{List, [], ◌∷◌, ◌++◌, append-nil}
use native.Mathlib.Omega.{arith}
use lib.ListN.{length, take, drop}
use Rattle.model.specs.Bytes.{Bytes}
use Rattle.model.specs.Choice.{pick}
use Rattle.model.specs.Names.{Name, mem}
use Rattle.model.specs.Lists.{joined}
use Rattle.model.specs.Lines.{Line, lines_of}
use Rattle.model.specs.Answers.{part_of}
use Rattle.model.specs.Renaming.{Piece, added, suffix, first_word, behind_word, after_word, node_words, pieces_of, line_pieces, text_pieces, piece_bytes, renamed}
use Rattle.putting.specs.Putting.{Buffer, with_text, Puts}
use Rattle.text.proofs.LineLaws.{lines_none}
use Rattle.renamed_text.specs.declared.names.Progress.{Progress}
use Rattle.renamed_text.specs.Marks.{is_marked, Marks}
use Rattle.renamed_text.specs.Renamed.{words_then, lines_by}
use Rattle.renamed_text.specs.Progress.{waiting, to_come}

module _ (later : List Name) where
  abbrev is_later : Name → Bool
  is_later w = mem w later

  -- the pieces of words, and other pieces behind them
  words_pieces : (nodes : List Bool) (s : Bytes) (ps : List Piece)
      → joined piece_bytes (pieces_of later nodes s ++ ps) ≡ words_then is_later nodes s (joined piece_bytes ps)
  unfolding joined piece_bytes pieces_of words_then
  words_pieces [] s ps = refl
  words_pieces (is_node ∷ more) s ps = ap (λ (t : Bytes). take (behind_word s) s ++ t) (go (is_node && is_later (first_word s)) (words_pieces more (after_word s) ps))
    where
      rest : List Piece
      rest = pieces_of later more (after_word s)

      go : (due : Bool) → joined piece_bytes (rest ++ ps) ≡ words_then is_later more (after_word s) (joined piece_bytes ps)
          → joined piece_bytes (pick due (added ∷ rest) rest ++ ps) ≡ pick due suffix [] ++ words_then is_later more (after_word s) (joined piece_bytes ps)
      go true h = ap (λ (t : Bytes). suffix ++ t) h
      go false h = h

  lines_pieces : (ls : List Line) → joined piece_bytes (text_pieces later ls) ≡ lines_by is_later ls
  unfolding joined piece_bytes text_pieces line_pieces lines_by
  lines_pieces [] = refl
  lines_pieces (l ∷ ls) =
      words_pieces (false ∷ node_words (first_word l.bytes)) l.bytes _
      ∙ ap (λ (t : Bytes). words_then is_later (false ∷ node_words (first_word l.bytes)) l.bytes (pick l.ended (10 ∷ []) [] ++ t)) (lines_pieces ls)

  -- the text by marks
  pub renamed_by : (names : List Name) (marks : List Bool) → Marks names marks later → (text : Bytes)
      → lines_by (is_marked names marks) (lines_of text) ≡ renamed later text
  unfolding renamed
  renamed_by names marks m text =
      ap (λ (f : Name → Bool). lines_by f (lines_of text)) (fun_ext (λ w. sym (m.told w))) ∙ sym (lines_pieces (lines_of text))

module _ (text out : Bytes) (rest : Bytes) where
  -- nothing is read yet
  pub all_to_come : to_come text out (record { seen = 0; put = 0; at = 0 }) rest ≡ with_text (record { bytes = out; place = 0 }) rest
  unfolding to_come waiting part_of
  all_to_come = refl

-- all is read: what waits is the rest of the text
pub rest_put : (later : Name → Bool) (text out : Bytes) (p : Progress) (out' : Bytes) (at : ℕ) (whole : Buffer) → p.seen ≡ length text
    → to_come text out p (lines_by later (lines_of (drop p.seen text))) ≡ whole
    → Puts out p.at (part_of text p.put (length text - p.put)) out' at → record { bytes = out'; place = at } ≡ whole
unfolding to_come waiting lines_by
rest_put later text out p out' at whole e h f =
    f.is ∙ sym (ap (with_text (record { bytes = out; place = p.at }))
    (rw (lines_none text p.seen (omega arith), e) (append-nil (part_of text p.put (length text - p.put))))) ∙ h
