-- The tidy text's pieces as the words say them, what is taken for granted of the words, and what is promised of a size.
pub mod Pieces
pub mod Sizes
pub mod Counting
pub mod Ready
