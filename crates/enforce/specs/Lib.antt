-- The texts that are asked, what weaving them may take for granted, and what it promises.
pub mod Texts
pub mod OneNamed
pub mod Ready
pub mod Woven
