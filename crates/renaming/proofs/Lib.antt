-- The theorem of the renaming, and what it rests on.

-- words, pieces and items of a line; a line; the text
pub mod RenamedParts
pub mod RenamedWords
pub mod RenamedPieces
pub mod RenamedItems
pub mod RenamedForms
pub mod RenamedLines
pub mod RenamedText
-- what an accepted book holds, the later names, the length and the lines of the new book
pub mod AcceptedBook
pub mod LaterNames
pub mod RenamedLength
pub mod RenamedSteps
-- the theorem, and books that stay as they are; long books, computed
pub mod Renaming
pub mod Unrenamed
pub mod LongBooks
