-- To be read in this order: what a sender does, how a receiver is called, what may arrive, what is due of it, and the
-- statements: demand 3, and with gaps in the middle.
pub mod Hearing
pub mod Damage
pub mod Due
pub mod Demand
pub mod Gaps
