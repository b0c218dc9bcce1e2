-- To be read in this order: the index and its growth, its file and what a kill may leave, the packets that a receiver hands out, the
-- statements, and what the loop that runs puts; that what a kill leaves grows to the same is stated in File.
pub mod Index
pub mod File
pub mod Packets
pub mod Statements
pub mod Loop
