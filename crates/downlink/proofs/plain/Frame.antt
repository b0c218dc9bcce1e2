-- Reading ordinary bytes one at a time, in or out of step (document 01, "Receiver").
-- `Code` is all that reading needs to know of a byte and of a header. Assumes nothing.
use Prim.Native.Nat.{ℕ, zero, suc}
use mathlib.Core.Path.{◌≡◌}
use mathlib.Core.List.{List, [], ◌∷◌, ◌++◌}
use Rattle.std.specs.Prelude.{Option, None, Some}
use Rattle.receiver.specs.declared.kind.Kind.{Kind}

-- the type of a byte, of a header, and of what a packet is known by; the header that six bytes hold, none beyond repair;
-- what the header says; what a packet is known by that begins with it, or goes on with it, and its content: that of its
-- first EP
pub record Code : Type 1 where
  pub B : Type 0
  pub H : Type 0
  pub T : Type 0
  pub decode : List B → Option H
  pub size : H → ℕ
  pub kind : H → Kind
  pub content : H → ℕ
  pub begin : H → T
  pub join : T → H → T
  pub sort : T → ℕ
  pub begin_sort : (h : H) → sort (begin h) ≡ content h
  pub join_sort : (t : T) (h : H) → sort (join t h) ≡ sort t

module _ (C : Code) where
  -- where reading stands: out of step; between two EPs; in a header or in the data of an EP, of which so many bytes are
  -- missing after the next one
  pub data Frame : Type 0 where
    lost : Frame
    idle : Frame
    head : ℕ → List C.B → Frame
    body : C.H → ℕ → Frame

  -- what reading brings to light: a loss of step by a notice of this number; a told gap; a header made whole; the way
  -- into its EP; a data byte; an EP's end
  pub data Event : Type 0 where
    lose : ℕ → Event
    gap : Event
    opened : C.H → Event
    entered : C.H → Event
    fed : C.B → Event
    closed : C.H → Event

  abbrev pub Out : Type 0
  Out = Frame × List Event

  -- in an EP with so many data bytes left
  abbrev pub within : C.H → ℕ → Frame
  within h zero = idle
  within h (suc k) = body h k

  abbrev pub ending : C.H → ℕ → List Event
  ending h zero = closed h ∷ []
  ending h (suc k) = []

  -- a header's six bytes are there. 12: ordinary EP header beyond repair: out of step
  abbrev pub whole : Option C.H → Out
  whole None = (lost, lose 12 ∷ [])
  whole (Some h) = (within h (C.size h), opened h ∷ entered h ∷ ending h (C.size h))

  -- "An EP header may be cut by a TP end, even several times": a frame outlives the bytes of a TP
  abbrev pub step : Frame → C.B → Out
  step lost b = (lost, [])
  step idle b = (head 4 (b ∷ []), [])
  step (head zero hs) b = whole (C.decode (hs ++ b ∷ []))
  step (head (suc k) hs) b = (head k (hs ++ b ∷ []), [])
  step (body h k) b = (within h k, fed b ∷ ending h k)

  abbrev pub after : Frame → List C.B → Frame
  after f [] = f
  after f (b ∷ bs) = after (step f b).0 bs

  abbrev pub events : Frame → List C.B → List Event
  events f [] = []
  events f (b ∷ bs) = (step f b).1 ++ events (step f b).0 bs
