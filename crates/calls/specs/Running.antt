-- What holds from call to call: sender and receiver came from openings and their calls. Assumes nothing.
use Rattle.sender.specs.Opening.{Sound}
use Rattle.receiver.specs.State.{Able}
use Rattle.calls.specs.declared.State.{State}

pub record Fine (s : State) : Type 0 where
  pub sender : Sound s.sender
  pub receiver : Able s.receiver
