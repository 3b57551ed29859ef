-- Laws of the tables that belong to no one function.
pub mod Places
pub mod Kept
pub mod NameLaws
pub mod VertexLaws
pub mod EdgeLaws
pub mod ClauseLaws
pub mod ClauseTable
pub mod ReturnLaws
pub mod ReadingLaws
