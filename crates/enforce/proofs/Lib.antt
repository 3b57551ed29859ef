-- The laws that the proofs of the functions cite.
pub mod DeclaredLaws
pub mod TextLaws
pub mod ClearLaws
pub mod IdentityLaws
pub mod HeldLaws
pub mod AnswerLaws
