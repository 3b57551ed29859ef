pub mod Vertices
pub mod Edges
pub mod Returns
pub mod Clauses
pub mod PatternRead
pub mod QueryReads
