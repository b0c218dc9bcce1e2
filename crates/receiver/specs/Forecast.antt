-- How a TP's ordinary bytes are set about: the forecast against the offset (document 01, "Receiver", and 10, 12, 13; R-6).
-- The offset is one number: how many ordinary bytes stand before the first EP that begins here, all of them if none does.
-- Assumes nothing.
use Rattle.std.specs.Prelude.{ℕ, suc, ◌+◌, ◌-◌, Bool, true, false, cond, List, [], ◌∷◌, ◌++◌, eqb, leb, ltb, length, drop, None, Option, Some}
use Rattle.receiver.specs.Frame.{Code, Frame, lost, idle, head, body, Event, lose, gap, Out, step, after, events}

pub data Phase : Type 0 where
  off between inside : Phase

module _ (C : Code) where
  abbrev pub phase : Frame C → Phase
  phase lost = off
  phase idle = between
  phase (head p k hs) = inside
  phase (body h k) = inside

  abbrev pub look : Phase → Option ℕ → Option ℕ
  look off r = None
  look between r = Some 0
  look inside r = r

  abbrev pub later : Option ℕ → Option ℕ
  later None = None
  later (Some n) = Some (suc n)

  -- "In step, the unfinished EP foretells where the next one begins, or that none begins here (also if it ends with the
  -- payload). Between two EPs the next begins right after the low-latency part, or not here if that part ends at P. A cut
  -- header is first read on, for this forecast only; if it is still not whole, none begins here."
  -- None where the header being read turns out beyond repair.
  abbrev pub foretold : Frame C → List C.B → Option ℕ
  foretold f [] = look (phase f) (Some 0)
  foretold f (b ∷ bs) = look (phase f) (later (foretold (step C f b).0 bs))

  -- what is told first, the frame, and how many bytes are passed over
  pub record Start : Type 0 where
    pub told : List (Event C)
    pub frame : Frame C
    pub past : ℕ

  -- in step from an EP's first byte on, if there is one
  abbrev pub upon : List C.B → Frame C
  upon [] = lost
  upon (b ∷ bs) = idle

  -- "Out of step, reading starts at the offset and everything before it is passed over."
  abbrev pub resume : List (Event C) → ℕ → List C.B → Start
  resume es n bs = record { told = es; frame = upon (drop n bs); past = n }

  -- where the header under way began
  abbrev pub since : C.S → Frame C → C.S
  since p lost = p
  since p idle = p
  since p (head s k hs) = s
  since p (body h k) = p

  -- 13: "offset differs from the foretold one: out of step, then reading resumes at this offset"; p is the TP's place 0
  abbrev pub agree : Bool → C.S → Frame C → ℕ → List C.B → Start
  agree true p f n bs = record { told = []; frame = f; past = 0 }
  agree false p f n bs = resume (lose 13 p ∷ []) n bs

  -- 12: "if the header began in an earlier TP, reading resumes as in 13", which isn't also given
  abbrev pub judge : Option ℕ → C.S → Frame C → ℕ → List C.B → Start
  judge None p f n bs = resume (lose 12 (since p f) ∷ []) n bs
  judge (Some m) p f n bs = agree (eqb m n) p f n bs

  abbrev pub set_out : Phase → C.S → Frame C → ℕ → List C.B → Start
  set_out off p f n bs = resume [] n bs
  set_out between p f n bs = judge (foretold f bs) p f n bs
  set_out inside p f n bs = judge (foretold f bs) p f n bs

  abbrev pub start : C.S → Frame C → ℕ → List C.B → Start
  start p f n bs = set_out (phase f) p f n bs

  -- out of step by this notice of this place, the rest of the TP dropped
  abbrev pub dropped : ℕ → C.S → List C.B → Start
  dropped n p bs = record { told = lose n p ∷ []; frame = lost; past = length bs }

  -- the bytes behind a low-latency part of so many bytes, at an offset that counts it
  -- 10: "an offset that is not 2047 and is at least P"; 21: one "before the low-latency part's end"
  unfoldable pub outset : C.S → Frame C → ℕ → ℕ → List C.B → Start
  outset p f offset gone bs =
      cond (eqb offset 2047) (start p f (length bs) bs)
      (cond (leb (gone + length bs) offset) (dropped 10 p bs)
      (cond (ltb offset gone) (dropped 21 p bs) (start p f (offset - gone) bs)))

  -- WAYS: what an input does, whatever the frame: nothing (6, 8); out of step by this notice (7, 9, 10, 11, 21) or by a told
  -- gap; ordinary bytes, of which n stand before the first EP that begins here, in a TP with this place 0
  pub data Way : Type 0 where
    stays : Way
    drops : ℕ → C.S → Way
    gaps : Way
    goes : C.S → ℕ → List C.B → Way

  abbrev pub read : Start → List C.B → Out C
  read t bs = (after C t.frame (drop t.past bs), t.told ++ events C t.frame (drop t.past bs))

  abbrev pub by_way : Frame C → Way → Out C
  by_way f stays = (f, [])
  by_way f (drops n p) = (lost, lose n p ∷ [])
  by_way f gaps = (lost, gap ∷ [])
  by_way f (goes p n bs) = read (start p f n bs) bs

  -- the way of ordinary bytes behind a low-latency part of so many bytes, at an offset that counts it
  unfoldable pub way_at : C.S → ℕ → ℕ → List C.B → Way
  way_at p offset gone bs =
      cond (eqb offset 2047) (goes p (length bs) bs)
      (cond (leb (gone + length bs) offset) (drops 10 p)
      (cond (ltb offset gone) (drops 21 p) (goes p (offset - gone) bs)))
