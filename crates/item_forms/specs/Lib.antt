-- What the readers of forms and of their pieces give, by places.
pub mod Pieces
pub mod Ends
pub mod Forms
pub mod Places
