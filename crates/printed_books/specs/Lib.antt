-- What the contracts of the printed books speak of.
pub mod Front
