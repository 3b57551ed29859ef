-- What comparisons of texts answer.
pub mod Compare
