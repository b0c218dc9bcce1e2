-- By what a TP is known, the places of its payload, and the count of TPs (document 02, R-4). Assumes nothing.
use Rattle.std.specs.Prelude.{ℕ, suc, ◌-◌, min, List, [], ◌∷◌}
use Rattle.receiver.specs.declared.Stamp.{Stamp}
use Rattle.receiver.specs.declared.Place.{Place}

-- "payload place": a TP's byte of this number stands there, since the payload begins behind four bytes
abbrev pub place_at : Stamp → ℕ → Place
place_at t i = record { stamp = t; at = i - 4 }

-- "or else the count and place 0"
abbrev pub start_of : Stamp → Place
start_of t = record { stamp = t; at = 0 }

-- the bytes of a TP from this one on, each with its place
abbrev pub placed : Stamp → ℕ → List ℕ → List (Place × ℕ)
placed t i [] = []
placed t i (b ∷ bs) = (place_at t i, b) ∷ placed t (suc i) bs

-- "The receiver counts the TPs of its length and stream": its own stamp
abbrev pub own_of : ℕ → Stamp
own_of n = record { number = n; byte = 0 }

-- one TP more: "The count stops at 4,294,967,295 and stays there."
abbrev pub count_of : ℕ → ℕ
count_of n = min (suc n) 4294967295
