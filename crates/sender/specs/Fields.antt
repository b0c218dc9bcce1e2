-- A sender's fields are its state, and back. Assumes nothing.
use Rattle.sender.specs.State.{State}
use Rattle.sender.specs.declared.Sender.TheInside.{Inside}

abbrev pub state : Inside → State
state a = record { setting = a.setting; low = a.low; ordinary = a.ordinary; owed = a.owed; rest = a.rest }

abbrev pub fields : State → Inside
fields s = record { setting = s.setting; low = s.low; ordinary = s.ordinary; owed = s.owed; rest = s.rest }
