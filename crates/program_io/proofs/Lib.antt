-- What the programs' proofs share.
pub mod FrontLaws
