-- The text with `_b` behind the names that pass a test, in bytes alone.
use Rattle.std.specs.Prelude.{Bool, false, ◌&&◌, List, [], ◌∷◌, ◌++◌, take}
use Rattle.model.specs.Bytes.{Bytes}
use Rattle.model.specs.Choice.{pick}
use Rattle.model.specs.Names.{Name}
use Rattle.model.specs.Lines.{Line}
use Rattle.model.specs.Renaming.{suffix, first_word, behind_word, after_word, node_words}

-- words one after another, each told whether it names a node, and behind them what else is left of the line and then other bytes
unfoldable pub words_then : (Name → Bool) → List Bool → Bytes → Bytes → Bytes
words_then later [] s rest = s ++ rest
words_then later (is_node ∷ more) s rest =
    take (behind_word s) s ++ (pick (is_node && later (first_word s)) suffix [] ++ words_then later more (after_word s) rest)

-- the lines one after another, each with its line feed
unfoldable pub lines_by : (Name → Bool) → List Line → Bytes
lines_by later [] = []
lines_by later (l ∷ ls) =
    words_then later (false ∷ node_words (first_word l.bytes)) l.bytes (pick l.ended (10 ∷ []) [] ++ lines_by later ls)
