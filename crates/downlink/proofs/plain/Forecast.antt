-- How a TP's ordinary bytes are set about: the forecast against the offset (document 01, "Receiver", and 10, 12, 13; R-6).
-- The offset is one number: how many ordinary bytes stand before the first EP that begins here, all of them if none does.
-- Assumes nothing.
use Prim.Native.Nat.{ℕ, suc, ◌+◌, ◌-◌}
use mathlib.Core.Bool.{Bool, true, false, cond}
use mathlib.Core.List.{List, [], ◌∷◌}
use lib.Dec.{eqb, leb, ltb}
use lib.ListN.{length, drop}
use Rattle.std.specs.Prelude.{Option, None, Some}
use Rattle.downlink.proofs.plain.Frame.{Code, Frame, lost, idle, head, body, Event, lose, step}

pub data Phase : Type 0 where
  off between inside : Phase

module _ (C : Code) where
  abbrev pub phase : Frame C → Phase
  phase lost = off
  phase idle = between
  phase (head k hs) = inside
  phase (body h k) = inside

  abbrev pub look : Phase → Option ℕ → Option ℕ
  look off r = None
  look between r = Some 0
  look inside r = r

  abbrev pub later : Option ℕ → Option ℕ
  later None = None
  later (Some n) = Some (suc n)

  -- "In step, the unfinished EP foretells where the next one begins, or that none begins here (also if it ends with the
  -- payload). Between two EPs the next begins right after the low-latency part, or not here if that part ends at P. A cut
  -- header is first read on, for this forecast only; if it is still not whole, none begins here."
  -- None where the header being read turns out beyond repair.
  abbrev pub foretold : Frame C → List C.B → Option ℕ
  foretold f [] = look (phase f) (Some 0)
  foretold f (b ∷ bs) = look (phase f) (later (foretold (step C f b).0 bs))

  -- what is told first, the frame, and how many bytes are passed over
  pub record Start : Type 0 where
    pub told : List (Event C)
    pub frame : Frame C
    pub past : ℕ

  -- in step from an EP's first byte on, if there is one
  abbrev pub upon : List C.B → Frame C
  upon [] = lost
  upon (b ∷ bs) = idle

  -- "Out of step, reading starts at the offset and everything before it is passed over."
  abbrev pub resume : List (Event C) → ℕ → List C.B → Start
  resume es n bs = record { told = es; frame = upon (drop n bs); past = n }

  -- 13: "offset differs from the foretold one: out of step, then reading resumes at this offset"
  abbrev pub agree : Bool → Frame C → ℕ → List C.B → Start
  agree true f n bs = record { told = []; frame = f; past = 0 }
  agree false f n bs = resume (lose 13 ∷ []) n bs

  -- 12: "if the header began in an earlier TP, reading resumes as in 13", which isn't also given
  abbrev pub judge : Option ℕ → Frame C → ℕ → List C.B → Start
  judge None f n bs = resume (lose 12 ∷ []) n bs
  judge (Some m) f n bs = agree (eqb m n) f n bs

  abbrev pub set_out : Phase → Frame C → ℕ → List C.B → Start
  set_out off f n bs = resume [] n bs
  set_out between f n bs = judge (foretold f bs) f n bs
  set_out inside f n bs = judge (foretold f bs) f n bs

  abbrev pub start : Frame C → ℕ → List C.B → Start
  start f n bs = set_out (phase f) f n bs

  -- out of step by this notice, the rest of the TP dropped
  abbrev pub dropped : ℕ → List C.B → Start
  dropped n bs = record { told = lose n ∷ []; frame = lost; past = length bs }

  -- the bytes behind a low-latency part of so many bytes, at an offset that counts it
  -- 10: "an offset that is not 2047 and is at least P"; 21: one "before the low-latency part's end"
  unfoldable pub outset : Frame C → ℕ → ℕ → List C.B → Start
  outset f offset gone bs =
      cond (eqb offset 2047) (start f (length bs) bs)
      (cond (leb (gone + length bs) offset) (dropped 10 bs)
      (cond (ltb offset gone) (dropped 21 bs) (start f (offset - gone) bs)))
