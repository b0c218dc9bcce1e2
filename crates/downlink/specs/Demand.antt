-- Demand 3: the right packets, from anywhere, under damage. Assumes nothing.
use Rattle.std.specs.Prelude.{◌≡◌, Bool, ◌&&◌, List, [], ◌∷◌, map, ℕ, ◌+◌, ◌≤◌, leb, length, take, drop, Some}
use Rattle.sender.specs.Answers.{done}
use Rattle.sender.specs.Opening.{opened}
use Rattle.receiver.specs.Call.{OpenedAs}
use Rattle.receiver.specs.Tp.{Input}
use Rattle.sender.specs.Run.{Call, World, Tp, Deed, refused, took, took_low, drew, tps, deeds, left, undrawn}
use Rattle.downlink.specs.Hearing as H
use Rattle.downlink.specs.Hearing.{Listener, Called, Hears, tps_in, handed_out}
use Rattle.downlink.specs.Damage.{items, all_eps, drawn, behind_lows, Damaged}
use Rattle.downlink.specs.Due.{as_offered, lows_of, ordinaries_of, Right}

-- ---- which ordinary packets are due

-- how many ordinary bytes each TP carries
abbrev pub carries : List Tp → List ℕ
carries [] = []
carries (t ∷ ts) = length (behind_lows t t.bytes) ∷ carries ts

abbrev pub total : List ℕ → ℕ
total [] = 0
total (n ∷ ns) = n + total ns

-- "whose first EP byte was drawn in one of those TPs": it has the number first, and those TPs carry the numbers from `from` on
abbrev pub begun_there : ℕ → ℕ → Bool
begun_there from first = leb from first

-- "and whose last byte, headers counted, was drawn": it ends before the number end, and the numbers before `to` were drawn
abbrev pub last_drawn : ℕ → ℕ → Bool
last_drawn to end = leb end to

-- whose first byte was drawn in one of the TPs from the k-th on, and whose last byte was drawn
abbrev pub whole_from : ℕ → List Tp → ℕ → ℕ → Bool
whole_from k ts first end = begun_there (total (take k (carries ts))) first && last_drawn (total (carries ts)) end

-- ---- THE STATEMENT

-- A fresh sender in queues of any length and a fresh receiver in a room of any length, opened with the same settings, which both accept; any
-- calls on the sender, refused ones among them; and what arrived of the TPs that they drew, damaged within the limits.
pub record Link : Type 0 where
  pub size : ℕ
  pub stream : ℕ
  pub piece : ℕ
  pub world : World
  pub listener : Listener
  pub calls : List Call
  pub got : List (List ℕ)
  pub sends : opened size stream piece (length world.low) (length world.ordinary) ≡ done world.sender
  pub listens : OpenedAs size stream (length listener.room) (Some listener.receiver)
  pub damaged : Damaged (tps (deeds world calls)) (all_eps (items piece (deeds world calls))) (undrawn (left world calls)) got

abbrev pub did : Link → List Deed
did l = deeds l.world l.calls

-- "room for the longest packet": every accepted ordinary packet fits it
abbrev pub Fit : ℕ → List Deed → Type 0
Fit n [] = Unit {0}
Fit n (refused ∷ ds) = Fit n ds
Fit n (took c d ∷ ds) = (length d ≤ n) × Fit n ds
Fit n (took_low c d ∷ ds) = Fit n ds
Fit n (drew t ∷ ds) = Fit n ds

abbrev pub Roomy : Link → Type 0
Roomy l = Fit (length l.listener.room) (did l)

-- the calls of the receiver over what it heard handed out the right packets
abbrev pub RightOf : Link → (ℕ → Bool) → (ℕ → ℕ → Bool) → List Input → List (List Called) → Type 0
RightOf l heard whole xs calls = Right l.piece (did l) l.got heard whole (handed_out H.low xs calls) (handed_out H.ordinary xs calls)

-- where this holds of the link, a receiver that is called over the TPs from the k-th on, counted from 0, each until it ends, does this
abbrev pub FromAny : (Link → Type 0) → (Link → (ℕ → Bool) → (ℕ → ℕ → Bool) → List Input → List (List Called) → Type 0) → Type 0
FromAny holds does =
    (l : Link) → holds l → (k : ℕ) (calls : List (List Called)) → Hears l.listener (tps_in (drop k l.got)) calls
    → does l (leb k) (whole_from k (tps (did l))) (tps_in (drop k l.got)) calls

abbrev pub Demand3 : Type 0
Demand3 = FromAny Roomy RightOf

-- ---- beside it

-- a room that is always enough: for any packet that may be offered; for any that its queue can take
abbrev pub Longest : Link → Type 0
Longest l = length l.listener.room ≡ 131072

abbrev pub AsQueue : Link → Type 0
AsQueue l = length l.world.ordinary ≤ length l.listener.room

-- with nothing changed, exactly the accepted packets themselves
abbrev pub Unchanged : Link → Type 0
Unchanged l = Roomy l × (l.got ≡ drawn (tps (did l)))

abbrev pub Themselves : Link → (ℕ → Bool) → (ℕ → ℕ → Bool) → List Input → List (List Called) → Type 0
Themselves l heard whole xs calls =
    (handed_out H.low xs calls ≡ map as_offered (lows_of (did l) heard))
    × (handed_out H.ordinary xs calls ≡ map as_offered (ordinaries_of l.piece (did l) whole))
