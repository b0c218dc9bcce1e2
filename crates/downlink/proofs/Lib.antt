-- reading without places, over which the demands are proved; nobody has to believe it: Stripped ties it to the receiver's own
pub mod plain
-- the window lemma: reading any stretch of a stream of EPs from out of step; and gaps in the middle
pub mod Within
pub mod Window
pub mod Trains
pub mod Cut
pub mod Joins
pub mod Items
pub mod Gaps
pub mod Through
-- the sender over any calls: what its TPs carry
pub mod Heads
pub mod Marks
pub mod Lows
pub mod Loads
pub mod Fills
pub mod Taken
pub mod Holds
pub mod Draws
pub mod Runs
pub mod Laws
-- the receiver over damaged TPs
pub mod Repair
pub mod Arrive
pub mod Streams
pub mod See
pub mod Listen
pub mod Calling
-- the receiver's own reading, stripped of places
pub mod Strip
pub mod Stripped
-- demand 3
pub mod Own
pub mod Stretch
pub mod Demanded
pub mod Gapped
-- beside it: calls end, and there are some; no damage is within the limits; a packet's own places; who is shut out
pub mod Soon
pub mod Rests
pub mod Pulls
pub mod Carried
pub mod Exist
pub mod Intact
pub mod Places
pub mod Examples
