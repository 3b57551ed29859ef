-- Where the signs of a query stand, and from them the places of its vertex variables, its edge variables and its text values.
use Rattle.std.specs.Prelude.{ℕ, zero, suc, ◌+◌, ◌-◌, List, [], ◌∷◌, ◌++◌, map, Bool, false, ◌&&◌, ◌||◌, length, eqb}
use Rattle.model.specs.Bytes.{Bytes, bytes_of}
use Rattle.model.specs.Choice.{pick}
use Rattle.model.specs.Lists.{joined}
use Rattle.model.specs.Names.{mem}
use Rattle.model.specs.Signs.{Sign, word, whole, text, mark, broken, sign_at, is_mark, wordy, chain_behind}
use Rattle.model.specs.Answers.{name_at}
use Rattle.model.specs.declared.Part.{Part}

-- a sign, and the place of its first byte
pub record Placed : Type 0 where
  pub sign : Sign
  pub at : ℕ

-- the signs of a text, as `signs` reads them, each with its place; i is the place of the first byte
unfoldable pub placed : Bool → Bool → ℕ → ℕ → Bytes → List Placed
placed chain close k i [] = []
placed chain close (suc k) i (b ∷ s) = placed chain close k (i + 1) s
placed chain close zero i (b ∷ s) =
    let g = sign_at chain b s in
    let first : Placed = record { sign = pick (close && wordy g.got) broken g.got; at = i } in
    let sign = first ∷ placed (chain_behind chain g.got) (wordy g.got) (g.size - 1) (i + 1) s in
    let blank = placed chain false 0 (i + 1) s in
    pick (eqb b 32 || eqb b 10) blank sign

-- the bracket right before a sign
pub data Bracket : Type 0 where
  none round square : Bracket

-- the bracket that a sign is
unfoldable pub bracket_of : Sign → Bracket
bracket_of t = pick (is_mark (bytes_of "(") t) round (pick (is_mark (bytes_of "[") t) square none)

-- what stands in a part of a query: a vertex variable, an edge variable, a text value
pub data Standing : Type 0 where
  vertex : Part → Standing
  edge : Part → Standing
  value : Part → Standing

-- a word behind ( is a vertex variable, behind [ an edge variable; brackets stand in chains alone
unfoldable pub variable_at : Bracket → Part → List Standing
variable_at none p = []
variable_at round p = vertex p ∷ []
variable_at square p = edge p ∷ []

-- what a sign is, behind a bracket or none, at a place; a text value begins behind its apostrophe
unfoldable pub standing_at : Sign → Bracket → ℕ → List Standing
standing_at (word w) o i = variable_at o (record { start = i; length = length w })
standing_at (whole n) o i = []
standing_at (text t) o i = value (record { start = i + 1; length = length t }) ∷ []
standing_at (mark m) o i = []
standing_at broken o i = []

-- what the signs are, the first of them behind a bracket or none
unfoldable pub standings : Bracket → List Placed → List Standing
standings o [] = []
standings o (p ∷ ps) = standing_at p.sign o p.at ++ standings (bracket_of p.sign) ps

-- the variables and text values of a whole query, each with its place
unfoldable pub standing_in : Bytes → List Standing
standing_in s = standings none (placed false false 0 0 s)

-- the part of a vertex variable, of an edge variable, of a text value
unfoldable pub vertex_part : Standing → List Part
vertex_part (vertex p) = p ∷ []
vertex_part (edge p) = []
vertex_part (value p) = []

unfoldable pub edge_part : Standing → List Part
edge_part (vertex p) = []
edge_part (edge p) = p ∷ []
edge_part (value p) = []

unfoldable pub value_part : Standing → List Part
value_part (vertex p) = []
value_part (edge p) = []
value_part (value p) = p ∷ []

-- a part put behind others, if the name that stands there stands in none of them
unfoldable pub add_part : Bytes → List Part → Part → List Part
add_part s seen p = pick (mem (name_at s p) (map (name_at s) seen)) seen (seen ++ (p ∷ []))

-- the part of each name at its first appearance, behind those seen already
unfoldable pub first_parts : Bytes → List Part → List Part → List Part
first_parts s seen [] = seen
first_parts s seen (p ∷ ps) = first_parts s (add_part s seen p) ps

-- the places of a query's vertices, each at its first appearance in the chains
unfoldable pub vertex_parts : Bytes → List Part
vertex_parts s = first_parts s [] (joined vertex_part (standing_in s))

-- the places of a query's edge variables, which stand once each, and of its text values, in the order of the text
unfoldable pub edge_parts : Bytes → List Part
edge_parts s = joined edge_part (standing_in s)

unfoldable pub value_parts : Bytes → List Part
value_parts s = joined value_part (standing_in s)
