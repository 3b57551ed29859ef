-- Demand 3, what the lamp says, and what a list gives where its premises hold.
pub mod PremiseLaws
pub mod DemandThree
pub mod LampAndList
