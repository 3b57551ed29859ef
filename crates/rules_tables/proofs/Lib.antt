-- Laws of the rules in words.
pub mod AgreeLaws
pub mod Lowers
pub mod Downs
pub mod Fewer
pub mod Added
pub mod Unions
pub mod PolicyLaws
