-- Laws of the pieces of a list and of forms, for the proofs of the readers and of their callers.
pub mod ItemLaws
pub mod PieceLaws
pub mod PieceTests
pub mod FormLaws
pub mod ListLaws
pub mod EndLaws
pub mod PlacedLaws
