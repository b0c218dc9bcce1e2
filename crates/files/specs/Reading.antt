-- What is read of a file. The operating system decides which bytes those are, so no contract says them. Assumes nothing.
use Rattle.std.specs.Prelude.{ℕ, ◌≡◌, List, Option, Some, Ok, IfSome}
use Rattle.house.specs.Setups.{settings_of}
use Rattle.house.specs.Slices.{at_hand, data_in}
use Rattle.house.specs.declared.Place.TheVariants.{Start}
use Rattle.house.specs.declared.Record.{Record}
use Rattle.house.specs.declared.Setup.{Setup}

-- the bytes begin with a whole setup record, and the settings are those of its data
abbrev pub BeginsWith : List ℕ → Option Setup → Type 0
BeginsWith d r = IfSome r (λ s. (said : Record) × (at_hand Start d ≡ Ok (Some said)) × (settings_of (data_in said d) ≡ Some s))
