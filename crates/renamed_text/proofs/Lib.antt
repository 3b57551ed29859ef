-- The laws that the code rests on.
pub mod WordLaws
pub mod BlockLaws
pub mod MarkLaws
pub mod DeclaredLaws
pub mod FrontLaws
pub mod ProgressLaws
pub mod NameLaws
pub mod LineLaws
pub mod TextLaws
