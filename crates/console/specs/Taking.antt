-- The input block and its unread stretch. The operating system decides which bytes are read, so no contract says them.
-- Assumes nothing.
use Rattle.std.specs.Prelude.{ℕ, ◌+◌, ◌-◌, ◌≤◌, ◌<◌, min, ◌≡◌, List, ◌++◌, length, take, drop, Option, Some, Ok, IfSome}
use Rattle.house.specs.Setups.{settings_of}
use Rattle.house.specs.Slices.{at_hand}
use Rattle.house.specs.Series.{Item, Taken}
use Rattle.house.specs.declared.Place.{Place}
use Rattle.house.specs.declared.Place.TheVariants as P
use Rattle.house.specs.declared.Record.TheVariants as R
use Rattle.house.specs.declared.Setup.{Setup}
use Rattle.console.specs.declared.Unread.{Unread}
use Rattle.console.specs.declared.Start.{Start}

-- where a stretch ends and begins within a block of n bytes
abbrev pub till_in : ℕ → Unread → ℕ
till_in n u = min u.till n

abbrev pub from_in : ℕ → Unread → ℕ
from_in n u = min u.from (till_in n u)

abbrev pub within : ℕ → Unread → Unread
within n u = record { gone = u.gone; from = from_in n u; till = till_in n u }

-- the bytes of the stretch u of the block d
abbrev pub stretch : List ℕ → Unread → List ℕ
stretch d u = take (till_in (length d) u - from_in (length d) u) (drop (from_in (length d) u) d)

-- the stretch behind its first n bytes
abbrev pub behind : Unread → ℕ → Unread
behind u n = record { gone = u.gone; from = u.from + n; till = u.till }

-- the block once the stretch is at its start: the bytes behind it stay
abbrev pub moved : List ℕ → Unread → List ℕ
moved d u = stretch d u ++ drop (length (stretch d u)) d

-- the byte of the input at which a stretch begins; a number that no input reaches is the last
abbrev pub begin_of : Unread → ℕ
begin_of u = min (u.gone + u.from) 0xFFFFFFFFFFFFFFFF

-- reading on changes the block d to b: the stretch u stands at its start, and the new one is longer
abbrev pub ReadOn : List ℕ → Unread → List ℕ → Option Unread → Type 0
ReadOn d u b r =
    IfSome r
    (λ v. (v.gone ≡ begin_of u)
    × ((v.from ≡ 0) × ((v.till ≤ length b) × ((length (stretch d u) < v.till) × (take (length (stretch d u)) b ≡ stretch d u)))))

-- going on changes the block d to b, and the stretch u to v
pub record Onward (d : List ℕ) (u : Unread) (b : List ℕ) (v : Unread) : Type 0 where
  -- it begins at the same byte of the input
  pub begin : begin_of v ≡ begin_of (within (length d) u)
  -- it lies within the block
  pub from : v.from ≤ v.till
  pub end : v.till ≤ length b
  -- its bytes are those of u, and perhaps more behind them
  pub kept : take (length (stretch d u)) (stretch b v) ≡ stretch d u

abbrev pub Goes : List ℕ → Unread → List ℕ → Option Unread → Type 0
Goes d u b r = IfSome r (λ v. Onward d u b v)

-- the block d begins with a setup record of the settings s, and what follows it is unread
pub record Begins (d : List ℕ) (s : Setup) (v : Unread) : Type 0 where
  -- mark, kind, content and length are those of a setup record
  pub head : at_hand P.Start (take 13 d) ≡ Ok (Some R.Setup)
  pub settings : settings_of (take 5 (drop 8 d)) ≡ Some s
  pub gone : v.gone ≡ 0
  pub from : v.from ≡ 13
  pub enough : 13 ≤ v.till
  pub end : v.till ≤ length d

abbrev pub Told : List ℕ → Option Start → Type 0
Told d r = IfSome r (λ z. Begins d z.setup z.unread)

-- n bytes at the start of s are whole records, read one behind the other at a place
pub record Whole (p : Place) (s : List ℕ) (n : ℕ) : Type 0 where
  pub within : n ≤ length s
  pub records : List Item
  pub taken : Taken p s records (drop n s)
