-- ONE PIECE FURTHER: what a turn reads of a TP's payload, what it tells, and where it leaves the receiver, with no room.
-- The pieces of a TP that isn't refused stand one behind the other from place 4 on, and a find ends a call (`call_of`).
-- Assumes nothing.
use Rattle.std.specs.Prelude.{ℕ, ◌+◌, ◌%◌, cond, List, eqb, leb, length, take, drop, get_or, None, Some, Err, Ok, Result, Bool, Option}
use Rattle.digits.specs.Digits.{number}
use Rattle.wire.specs.Reading.{tp_number_in, stream_of, version_of}
use Rattle.wire.specs.declared.Header.{Header}
use Rattle.receiver.specs.declared.About.{About}
use Rattle.receiver.specs.declared.Find.{Find}
use Rattle.receiver.specs.declared.Find.TheVariants as F
use Rattle.receiver.specs.declared.Place.{Place}
use Rattle.receiver.specs.declared.Receiver.{Receiver}
use Rattle.receiver.specs.declared.Stamp.{Stamp}
use Rattle.receiver.specs.declared.Role.{Role}
use Rattle.receiver.specs.declared.Role.TheVariants as R
use Rattle.receiver.specs.declared.Piece.{Piece}
use Rattle.receiver.specs.declared.Turned.{Turned}
use Rattle.receiver.specs.declared.Step.{Step}
use Rattle.receiver.specs.declared.Stage.{Stage}
use Rattle.receiver.specs.declared.Stage.TheVariants.{Fresh, Low, Due, Plain}
use Rattle.receiver.specs.declared.entry.Top.{Top}
use Rattle.receiver.specs.declared.entry.Top.TheVariants.{Elsewhere, Dropped, Says}
use Rattle.receiver.specs.declared.walk.Gain.{Gain}
use Rattle.receiver.specs.declared.walk.Gain.TheVariants as G
use Rattle.receiver.specs.declared.walk.Kept.{Kept}
use Rattle.receiver.specs.declared.walk.Phase.{Phase}
use Rattle.receiver.specs.declared.walk.Phase.TheVariants.{Lost, Head, Judged, Body}
use Rattle.receiver.specs.declared.walk.Turn.{Turn}
use Rattle.receiver.specs.declared.walk.Turn.TheVariants.{More, Stop}
use Rattle.receiver.specs.declared.walk.Walk.{Walk}
use Rattle.receiver.specs.Place.{place_at, start_of, own_of}
use Rattle.receiver.specs.Call.{counted_of}
use Rattle.receiver.specs.Kind.{kind_of}
use Rattle.receiver.specs.Low.{llep}
use Rattle.receiver.specs.Lows.{told_of, repaired_of}
use Rattle.receiver.specs.Outset.{place_of, set_out_of, upon_of, lost_at}
use Rattle.receiver.specs.Turns.{advance_of}

-- the same receiver in this stage, with this walk
abbrev pub receiver_with : Receiver → Stage → Walk → Receiver
receiver_with r s w = record { size = r.size; stream = r.stream; limit = r.limit; count = r.count; stage = s; walk = w }

-- a find, and what it carries
abbrev pub step_with : Receiver → Stage → Walk → Find → About → Step
step_with r s w f a = record { receiver = receiver_with r s w; find = f; about = a }

-- what a find of this place carries that is no packet
abbrev pub none_of : Place → About
none_of p = record { repaired = 0; at = p }

-- reading at this place, in this phase and with this kept
abbrev pub walk_of : Receiver → ℕ → Phase → Option Kept → Walk
walk_of r at p k = record { at = at; phase = p; began = r.walk.began; kept = k }

abbrev pub step_of : Receiver → Stage → ℕ → Phase → Option Kept → Find → Place → Step
step_of r s at p k f g = step_with r s (walk_of r at p k) f (none_of g)

abbrev pub same_of : Receiver → Find → Place → Step
same_of r f g = record { receiver = r; find = f; about = none_of g }

abbrev pub piece_of : ℕ → ℕ → Role → Piece
piece_of from to role = record { from = from; to = to; role = role }

-- a piece with a find, and one without
abbrev pub gave_of : Step → Piece → Turned
gave_of q p = record { receiver = q.receiver; piece = p; told = Some q.find; about = q.about }

abbrev pub went_of : Receiver → Stage → Walk → Piece → Option Find → About → Turned
went_of r s w p t a = record { receiver = receiver_with r s w; piece = p; told = t; about = a }

-- the stamp by the receiver's own count
abbrev pub stamp_of : Receiver → Stamp
stamp_of r = own_of r.count

abbrev pub on_of : Receiver → Stage → Walk → Piece → Turned
on_of r s w p = went_of r s w p None (none_of (start_of (stamp_of r)))

-- 6, 8: nothing is read
abbrev pub same_turn : Receiver → ℕ → Turned
same_turn r n = gave_of (same_of r (F.Notice n) (start_of (stamp_of r))) (piece_of 0 0 R.Passed)

-- THE TP'S HEADER: "the checks of .. 8, 7, 9 in this order"
abbrev pub says_of : Option ℕ → Top
says_of None = Dropped 9
says_of (Some w) = Says (leb 2048 w) (w % 2048)

unfoldable pub top_of : ℕ → List ℕ → Top
top_of stream tp =
    cond (eqb (stream_of (get_or tp 0 0)) stream)
    (cond (eqb (version_of (get_or tp 0 0)) 0) (says_of (tp_number_in (number 0 (take 3 (drop 1 tp))))) (Dropped 7))
    Elsewhere

-- 7, 9: its payload is dropped
abbrev pub top_turn : Top → Receiver → ℕ → Turned
top_turn Elsewhere r len = same_turn r 8
top_turn (Dropped n) r len =
    gave_of (step_of (counted_of r) Fresh 0 Lost None (F.Notice n) (start_of (stamp_of (counted_of r)))) (piece_of 4 len R.Passed)
top_turn (Says low o) r len =
    on_of (counted_of r) (cond low (Low o) (Due o)) (walk_of r 4 r.walk.phase r.walk.kept) (piece_of 4 4 R.Passed)

-- 10, 11, 21: the rest is dropped
abbrev pub drop_turn : Receiver → ℕ → Role → ℕ → Place → Turned
drop_turn r len role n g = gave_of (step_of r Plain len Lost None (F.Notice n) g) (piece_of r.walk.at len role)

-- ONE LLEP with its end byte
abbrev pub llep_turn : Option (Header × Bool) → Receiver → ℕ → ℕ → Turned
llep_turn None r o len = drop_turn r len R.Broken 11 (place_at (stamp_of r) r.walk.at)
llep_turn (Some (h, more)) r o len =
    went_of r (cond more (Low o) (Due o)) (walk_of r (r.walk.at + 7 + h.size) r.walk.phase r.walk.kept)
    (piece_of r.walk.at (r.walk.at + 7 + h.size) (R.Llep h)) (told_of (kind_of h) h r.walk.at)
    (record { repaired = repaired_of (kind_of h) h; at = place_at (stamp_of r) r.walk.at })

-- THE OUTSET: in step at once, or the bytes before the offset passed over
abbrev pub out_turn : Result Walk ℕ → Receiver → ℕ → ℕ → Turned
out_turn (Ok x) r n len = on_of r Plain x (piece_of r.walk.at x.at R.Passed)
out_turn (Err i) r n len =
    gave_of (step_of r Plain (r.walk.at + n) (upon_of (r.walk.at + n) len) None (F.Notice i) (lost_at i (stamp_of r) r.walk.began))
    (piece_of r.walk.at (r.walk.at + n) R.Passed)

abbrev pub due_turn : Result ℕ ℕ → Receiver → List ℕ → Turned
due_turn (Err n) r tp = drop_turn r (length tp) R.Passed n (start_of (stamp_of r))
due_turn (Ok n) r tp = out_turn (set_out_of r.walk n tp) r n (length tp)

-- AMONG ORDINARY BYTES: what a turn gained; none ends the TP
abbrev pub tell_of : Gain → Receiver → Stamp → Walk → Step
tell_of G.Nothing r t w =
    step_with r Fresh (record { at = 0; phase = w.phase; began = w.began; kept = w.kept }) F.Nothing (none_of (start_of t))
tell_of (G.Notice n) r t w = step_with r Plain w (F.Notice n) (none_of w.began)
tell_of (G.Packet c e g n) r t w = step_with r Plain w (F.Ordinary c n) (record { repaired = e; at = g })

-- what a turn from one phase to another read
abbrev pub head_role : Phase → Role
head_role Lost = R.Broken
head_role (Head n w) = R.Cut
head_role (Judged h) = R.Whole h
head_role (Body h n) = R.Whole h

abbrev pub data_role : Option Kept → Role
data_role None = R.Skipped
data_role (Some k) = R.Kept k.len

abbrev pub role_of : Phase → Option Kept → Phase → Role
role_of Lost k q = R.Passed
role_of (Head n w) k q = head_role q
role_of (Judged h) k q = R.Passed
role_of (Body h n) k q = data_role k

abbrev pub read_of : Walk → Walk → Piece
read_of w x = piece_of w.at x.at (role_of w.phase w.kept x.phase)

abbrev pub ordinary_turn : Turn → Receiver → Turned
ordinary_turn (More x) r = on_of r Plain x (read_of r.walk x)
ordinary_turn (Stop a) r = gave_of (tell_of a.gain r (stamp_of r) a.walk) (read_of r.walk a.walk)

abbrev pub stage_turn : Stage → Receiver → List ℕ → Turned
stage_turn Fresh r tp = top_turn (top_of r.stream tp) r (length tp)
stage_turn (Low o) r tp = llep_turn (llep (drop r.walk.at tp)) r o (length tp)
stage_turn (Due o) r tp = due_turn (place_of o r.walk.at (length tp)) r tp
stage_turn Plain r tp = ordinary_turn (advance_of r.limit (stamp_of r) r.walk tp) r

-- THE TURN
unfoldable pub turn_of : Receiver → List ℕ → Turned
turn_of r tp = cond (eqb (length tp) r.size) (stage_turn r.stage r tp) (same_turn r 6)
