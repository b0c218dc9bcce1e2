-- To be read beside document 01, in its order:
pub mod Kind
pub mod Place
pub mod Frame
pub mod Forecast
pub mod Join
pub mod Low
pub mod Tp
pub mod Loss
-- one call, by value: what `open`, `next`, `gap` and `found` promise
pub mod Pull
pub mod State
pub mod Lows
pub mod Call
-- one piece further, by value: what `turn` promises
pub mod Turns
pub mod Outset
pub mod Pieces
pub mod Turn
-- a receiver's lanes: what loops over TPs carry
pub mod Lanes
-- a lane as plain numbers
pub mod Tracks
-- a TP that one call is done with
pub mod Over
-- a receiver as words, and back
pub mod Words
-- what the private functions promise one another, and nobody has to believe
pub mod InWalk
pub mod InStride
pub mod InSwift
pub mod InSeries
pub mod InLanes
pub mod InTracks
pub mod InOutset
pub mod InStages
pub mod InOver
