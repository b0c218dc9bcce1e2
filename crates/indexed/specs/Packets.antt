-- The packets that a receiver hands out, of both sorts, in order. Assumes nothing.
use Rattle.std.specs.Prelude.{Bool, true, false, cond, List, [], ◌∷◌, Option, None, Some}
use Rattle.receiver.specs.Frame.{Code}
use Rattle.receiver.specs.Join.{Finding, notice, low, ordinary}

module _ (C : Code) where
  -- its sort, what it is known by, its data
  pub record Packet : Type 0 where
    pub is_low : Bool
    pub tag : C.T
    pub bytes : List C.K

  abbrev pub packet_of : Bool → C.T → List C.K → Packet
  packet_of is_low t d = record { is_low = is_low; tag = t; bytes = d }

  -- notices are no packets
  abbrev pub handed : List (Finding C) → List Packet
  handed [] = []
  handed (notice n p ∷ fs) = handed fs
  handed (low t d ∷ fs) = packet_of true t d ∷ handed fs
  handed (ordinary t d ∷ fs) = packet_of false t d ∷ handed fs

module _ {A : Type 0} where
  -- those that pass a test, in order
  abbrev pub chosen : (A → Bool) → List A → List A
  chosen test [] = []
  chosen test (x ∷ xs) = cond (test x) (x ∷ chosen test xs) (chosen test xs)

  abbrev pub first : List A → Option A
  first [] = None
  first (x ∷ xs) = Some x

  abbrev pub All : (A → Type 0) → List A → Type 0
  All Q [] = Unit {0}
  All Q (x ∷ xs) = Q x × All Q xs

  -- each stands before every later one
  abbrev pub Rising : (A → A → Type 0) → List A → Type 0
  Rising Before [] = Unit {0}
  Rising Before (x ∷ xs) = All (Before x) xs × Rising Before xs
