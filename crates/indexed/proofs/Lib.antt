-- lists
pub mod Lists
pub mod Sub
-- over any code: where inputs lead; restart; in order
pub mod Ways
pub mod Seam
pub mod Facts
pub mod Gives
pub mod Shadow
pub mod Near
pub mod Restart
pub mod InOrder
-- recordings
pub mod Inputs
pub mod Climb
pub mod Records
-- the theorems
pub mod Grown
pub mod Rises
pub mod Older
pub mod FromLine
pub mod KillSafe
-- an example
pub mod Examples
-- and the calls
pub mod Calls
-- the loop that runs
pub mod Adding
pub mod Finds
pub mod Between
pub mod Recorded
pub mod Loop
pub mod Growing
pub mod Contracts
