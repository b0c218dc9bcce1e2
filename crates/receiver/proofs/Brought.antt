-- What a piece's own bytes bring to light, and a turn that brings it: what was left to be taken in and these events are those
-- that the turn takes in and those that it leaves; they leave what is kept, and give the turn's find. Assumes nothing.
use mathlib.Core.Path.{◌≡◌}
use mathlib.Core.Bool.{Bool, cond}
use mathlib.Core.List.{List, [], ◌++◌}
use Prim.Native.Nat.{ℕ, ◌-◌}
use lib.Dec.{eqb}
use lib.ListN.{drop, length, take}
use Rattle.std.specs.Prelude.{None, Option, Some}
use Rattle.wire.specs.declared.Header.{Header}
use Rattle.receiver.specs.declared.Find.{Find}
use Rattle.receiver.specs.declared.About.{About}
use Rattle.receiver.specs.declared.Piece.{Piece}
use Rattle.receiver.specs.declared.Receiver.{Receiver}
use Rattle.receiver.specs.declared.Stage.{Stage}
use Rattle.receiver.specs.declared.Stage.TheVariants.{Due, Fresh, Low, Plain}
use Rattle.receiver.specs.declared.Stamp.{Stamp}
use Rattle.receiver.specs.declared.Turned.{Turned}
use Rattle.receiver.specs.declared.entry.Top.{Top}
use Rattle.receiver.specs.declared.entry.Top.TheVariants.{Dropped, Elsewhere, Says}
use Rattle.receiver.specs.declared.stages.Stamps.{Stamps}
use Rattle.receiver.specs.Call.{data_of, stamps_of}
use Rattle.receiver.specs.Forecast.{Start, drops, outset}
use Rattle.receiver.specs.Frame.{Event, Frame, after, events}
use Rattle.receiver.specs.Join.{Finding, finds, holding}
use Rattle.receiver.specs.Kind.{kind_of}
use Rattle.receiver.specs.Low.{given, llep, wire}
use Rattle.receiver.specs.Place.{place_at, placed, start_of}
use Rattle.receiver.specs.Pieces.{stamp_of, top_of}
use Rattle.receiver.specs.State.{frame_of, held_of, todo_of}
use Rattle.receiver.specs.Tp.{Heard, dropping, heard_by, refusing}
use Rattle.receiver.proofs.Rest.{saying}

-- the bytes of a piece
abbrev pub own_of : Piece → List ℕ → List ℕ
own_of p tp = take (p.to - p.from) (drop p.from tp)

-- what they bring to light: finds of their own, events, and the frame behind them. The TP's header: 8; 7, 9; else nothing
abbrev pub top_brings : Top → Stamps → Frame wire → Heard
top_brings Elsewhere n f = heard_by f (refusing 8 n.before)
top_brings (Dropped k) n f = heard_by f (dropping k n.now)
top_brings (Says has o) n f = record { lows = []; told = []; frame = f }

-- an LLEP with its end byte, which begins with this byte of a TP of this stamp
abbrev pub llep_brings : Option (Header × Bool) → Stamp → ℕ → Frame wire → List ℕ → Heard
llep_brings None t at f own = heard_by f (record { lows = []; way = drops 11 (place_at t at) })
llep_brings (Some (h, more)) t at f own = record { lows = given (kind_of h) (place_at t at) h own; told = []; frame = f }

-- the outset, with the bytes that it passes over
abbrev pub start_brings : Start wire → Heard
start_brings t = record { lows = []; told = t.told; frame = t.frame }

-- ordinary bytes, with their places
abbrev pub bytes_bring : Frame wire → Stamp → ℕ → List ℕ → Heard
bytes_bring f t at own = record { lows = []; told = events wire f (placed t at own); frame = after wire f (placed t at own) }

-- the frame in which a receiver is
abbrev pub frame_in : Receiver → Frame wire
frame_in r = frame_of r.walk.began r.walk.phase

-- the stamp is by the receiver's own count, in which a begun TP is counted
abbrev pub stage_brings : Stage → Receiver → List ℕ → List ℕ → Heard
stage_brings Fresh r tp own = top_brings (top_of r.stream tp) (stamps_of r) (frame_in r)
stage_brings (Low o) r tp own = llep_brings (llep (drop r.walk.at tp)) (stamp_of r) r.walk.at (frame_in r) own
stage_brings (Due o) r tp own = start_brings (outset wire (start_of (stamp_of r)) (frame_in r) o (r.walk.at - 4) (placed (stamp_of r) r.walk.at (drop r.walk.at tp)))
stage_brings Plain r tp own = bytes_bring (frame_in r) (stamp_of r) r.walk.at own

abbrev pub brought : Receiver → List ℕ → List ℕ → Heard
brought r tp own = cond (eqb (length tp) r.size) (stage_brings r.stage r tp own) (heard_by (frame_in r) (refusing 6 (stamp_of r)))

-- what a turn tells, with what it carries
abbrev pub tells : Option Find → About → List ℕ → List ℕ → List (Finding wire)
tells None a tp m = []
tells (Some f) a tp m = saying 0 f a (data_of f tp m)

-- a turn that takes in these events, and leaves the others
pub record Takes (h : Heard) (r : Receiver) (tp m : List ℕ) (q : Turned) (m' : List ℕ) : Type 0 where
  pub taken : List (Event wire)
  pub frame : h.frame ≡ frame_in q.receiver
  pub told : todo_of r.walk.began r.walk.phase ++ h.told ≡ taken ++ todo_of q.receiver.walk.began q.receiver.walk.phase
  pub held : holding wire r.limit (held_of r.walk.kept m) taken ≡ held_of q.receiver.walk.kept m'
  pub finds : h.lows ++ finds wire r.limit (held_of r.walk.kept m) taken ≡ tells q.told q.about tp m'
