-- Weaving one text more, identities and what is tied to one, and what stands in the words once all is woven.
pub mod OneMore
pub mod Adding
pub mod Identities
pub mod Given
