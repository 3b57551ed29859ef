-- The vertices found so far, by their names.
use Rattle.std.specs.Prelude.{ℕ, ◌+◌, ◌<◌, ◌≤◌, ◌≡◌, List, map, take, get_or, set, replicate}
use Rattle.model.specs.Bytes.{Bytes}
use Rattle.model.specs.Answers.{name_at}
use Rattle.model.specs.declared.Part.{Part}
use Rattle.model.specs.PlainData.{no_part}
use Rattle.text.specs.Parts.{HasPart}
use Rattle.query.specs.declared.found.Found.{Found}

-- the vertices found
abbrev pub Vertices : Type 0
Vertices = Found Part 8

-- the parts of the vertices found, and the names that stand there
abbrev pub parts_of : Vertices → List Part
parts_of v = take v.count v.items

abbrev pub names_of : Bytes → Vertices → List Bytes
names_of s v = map (name_at s) (parts_of v)

-- the vertices found are few enough, each a part of the text
pub record VerticesInside (s : Bytes) (v : Vertices) : Type 0 where
  pub few : v.count ≤ 8
  pub inside : (i : ℕ) → i < v.count → HasPart s (get_or v.items i no_part)

-- no vertex
abbrev pub no_vertices : Vertices
no_vertices = record { items = replicate 8 no_part; count = 0 }

-- v are the old vertices, where there is one of this number; else they have one more
pub record Placed (old : Vertices) (number : ℕ) (name : Part) (v : Vertices) : Type 0 where
  pub known : number < old.count → v ≡ old
  pub new : old.count ≤ number → v ≡ record { items = set old.items old.count name; count = old.count + 1 }
