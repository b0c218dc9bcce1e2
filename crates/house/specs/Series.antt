-- Records one behind the other (document 01, 'Records and programs'). Assumes nothing.
use Rattle.std.specs.Prelude.{ℕ, ◌+◌, ◌-◌, ◌≡◌, List, [], ◌∷◌, ◌++◌, take, drop, Some, Ok}
use Rattle.house.specs.declared.Record.{Record}
use Rattle.house.specs.declared.Place.{Place}
use Rattle.house.specs.Records.{length_of}
use Rattle.house.specs.Slices.{at_hand, data_in}

-- the bytes of an input block that are still unread, from one index to another
abbrev pub unread_in : List ℕ → ℕ → ℕ → List ℕ
unread_in block from till = take (till - from) (drop from block)

-- a record: what its head says, and its data
pub record Item : Type 0 where
  pub said : Record
  pub bytes : List ℕ

-- whole records, read one behind the other at a place from the start of s; and the bytes behind the last
pub data Taken (p : Place) (s : List ℕ) : List Item → List ℕ → Type 0 where
  nothing : Taken p s [] s
  then : {xs : List Item} {t : List ℕ} {r : Record} → Taken p s xs t → at_hand p t ≡ Ok (Some r)
      → Taken p s (xs ++ record { said = r; bytes = data_in r t } ∷ []) (drop (8 + length_of r) t)
