-- A setup record's data: document 01, 'Records and programs' and 'Sender'. Assumes nothing.
use Rattle.std.specs.Prelude.{ℕ, Bool, cond, ◌&&◌, List, [], ◌∷◌, ◌++◌, eqb, length, get_or, Option, Some, None}
use Rattle.digits.specs.Digits.{digits, number}
use Rattle.wire.specs.Limits.{allowed}
use Rattle.house.specs.declared.Setup.{Setup}

-- "0 setup (TP length 2 bytes, stream 1, F 2)"
abbrev pub setup_in : List ℕ → Setup
setup_in d =
    record {
      tp = number 0 (get_or d 0 0 ∷ get_or d 1 0 ∷ []);
      stream = get_or d 2 0;
      piece = number 0 (get_or d 3 0 ∷ get_or d 4 0 ∷ []);
    }

-- "a setup outside the sender's limits"
abbrev pub within : Setup → Bool
within s = allowed s.tp s.stream s.piece

-- "Data are 5 bytes in kind 0"
unfoldable pub settings_of : List ℕ → Option Setup
settings_of d = cond (eqb (length d) 5 && within (setup_in d)) (Some (setup_in d)) None

-- the data of a setup
abbrev pub setup_bytes : Setup → List ℕ
setup_bytes s = digits 2 s.tp ++ s.stream ∷ digits 2 s.piece
