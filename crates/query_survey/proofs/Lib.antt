-- Laws of names among pieces, of what a book declares, and of what is known behind each kind of piece.
pub mod ScanLaws
pub mod DeclaredLaws
pub mod SeenLaws
