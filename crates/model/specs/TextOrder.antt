-- Texts in byte order: how one text stands to another, and what the relations are between texts.
use Rattle.std.specs.Prelude.{Bool, true, false, [], ◌∷◌, ltb}
use Rattle.model.specs.Bytes.{Bytes}
use Rattle.model.specs.Choice.{pick}
use Rattle.model.specs.QueryText.{Relation, eq, ne, lt, le, gt, ge}

-- less, equal or greater
pub data Order : Type 0 where
  less equal greater : Order

-- the first byte that differs decides, as a number from 0 to 255; a proper beginning is less
unfoldable pub byte_order : Bytes → Bytes → Order
byte_order [] [] = equal
byte_order [] (y ∷ b) = less
byte_order (x ∷ a) [] = greater
byte_order (x ∷ a) (y ∷ b) = let rest = byte_order a b in pick (ltb x y) less (pick (ltb y x) greater rest)

-- a relation, by how the first of two texts stands to the second
unfoldable pub by_order : Relation → Order → Bool
by_order eq o = elim o [ less ↦ false | equal ↦ true | greater ↦ false ]
by_order ne o = elim o [ less ↦ true | equal ↦ false | greater ↦ true ]
by_order lt o = elim o [ less ↦ true | equal ↦ false | greater ↦ false ]
by_order le o = elim o [ less ↦ true | equal ↦ true | greater ↦ false ]
by_order gt o = elim o [ less ↦ false | equal ↦ false | greater ↦ true ]
by_order ge o = elim o [ less ↦ false | equal ↦ true | greater ↦ true ]
