-- ONE TURN AMONG ORDINARY BYTES, by value: a header or what there is of it, or a run of data; what it leaves to read on with,
-- and its find (document 01, "Receiver", and 12, 14 to 16). The room's bytes are not needed: what is kept is a length.
-- Assumes nothing.
use Rattle.std.specs.Prelude.{ℕ, ◌+◌, ◌-◌, ◌*◌, Bool, true, false, cond, List, eqb, leb, ltb, length, take, drop, None, Option, Some}
use Rattle.digits.specs.Digits.{number}
use Rattle.wire.specs.declared.Header.{Header}
use Rattle.wire.specs.Reading.{header_in}
use Rattle.receiver.specs.declared.Place.{Place}
use Rattle.receiver.specs.declared.Stamp.{Stamp}
use Rattle.receiver.specs.declared.kind.Kind.{Kind}
use Rattle.receiver.specs.declared.kind.Kind.TheVariants.{Fill, Reserved, Complete, First, Middle, Last}
use Rattle.receiver.specs.declared.walk.Phase.{Phase}
use Rattle.receiver.specs.declared.walk.Phase.TheVariants.{Lost, Head, Judged, Body}
use Rattle.receiver.specs.declared.walk.Kept.{Kept}
use Rattle.receiver.specs.declared.walk.Gain.{Gain}
use Rattle.receiver.specs.declared.walk.Gain.TheVariants.{Nothing, Notice, Packet}
use Rattle.receiver.specs.declared.walk.Walk.{Walk}
use Rattle.receiver.specs.declared.walk.Turn.{Turn}
use Rattle.receiver.specs.declared.walk.Turn.TheVariants.{More, Stop}
use Rattle.receiver.specs.Kind.{kind_of}
use Rattle.receiver.specs.Place.{place_at}
use Rattle.receiver.specs.Low.{Tag, tag_of, ep_at, begin_of, join_of}
use Rattle.receiver.specs.State.{kept_by}

abbrev pub walk_at : ℕ → Phase → Place → Option Kept → Walk
walk_at at p g k = record { at = at; phase = p; began = g; kept = k }

-- reading goes on, or stops with what it gained
abbrev pub goes : ℕ → Phase → Place → Option Kept → Turn
goes at p g k = More (walk_at at p g k)

abbrev pub stops : ℕ → Phase → Place → Option Kept → Gain → Turn
stops at p b k g = Stop (record { walk = walk_at at p b k; gain = g })

-- A HEADER IS WHOLE. 14: "middle or last, not fill, without a held series of its content"
abbrev pub holds_of : Option Kept → ℕ → Bool
holds_of None c = false
holds_of (Some k) c = eqb k.content c

-- 14: "or a complete, first or fill EP while one is held"
abbrev pub empty_of : Option Kept → Bool
empty_of None = true
empty_of (Some k) = false

-- whether it gets no 14
abbrev pub meets_of : Kind → Option Kept → ℕ → Bool
meets_of Fill k c = empty_of k
meets_of Reserved k c = empty_of k
meets_of Complete k c = empty_of k
meets_of First k c = empty_of k
meets_of Middle k c = holds_of k c
meets_of Last k c = holds_of k c

abbrev pub kept_as : Tag → ℕ → Option Kept
kept_as t n = kept_by t.content t.repaired t.at n

-- 15: "held bytes + length > room": "SP dropped, EP passed over"
unfoldable pub fits_of : ℕ → Header → Place → Tag → ℕ → ℕ → Turn
fits_of at h b t n cap =
    cond (leb h.size (cap - n)) (goes at (Body h h.size) b (kept_as t n)) (stops at (Body h h.size) b None (Notice 15))

abbrev pub further_of : ℕ → Header → Place → Option Kept → ℕ → Turn
further_of at h b None cap = goes at (Body h h.size) b None
further_of at h b (Some k) cap = fits_of at h b (join_of (tag_of k.content k.repaired k.began) (ep_at b h)) k.len cap

-- the way into an EP. 16: "content 7 to 15: EP passed over"; fill is passed over; a middle or last that got 14 too
abbrev pub admit_of : Kind → ℕ → Header → Place → Option Kept → ℕ → Turn
admit_of Fill at h b k cap = goes at (Body h h.size) b None
admit_of Reserved at h b k cap = stops at (Body h h.size) b None (Notice 16)
admit_of Complete at h b k cap = fits_of at h b (begin_of (ep_at b h)) 0 cap
admit_of First at h b k cap = fits_of at h b (begin_of (ep_at b h)) 0 cap
admit_of Middle at h b k cap = further_of at h b k cap
admit_of Last at h b k cap = further_of at h b k cap

-- behind a 14 "another EP is then read normally": its header is kept
unfoldable pub opened_of : ℕ → Header → Place → Option Kept → ℕ → Turn
opened_of at h b k cap =
    cond (meets_of (kind_of h) k h.content) (admit_of (kind_of h) at h b k cap) (stops at (Judged h) b None (Notice 14))

-- 12: "ordinary EP header beyond repair": out of step
abbrev pub whole_of : ℕ → Option Header → Place → Option Kept → ℕ → Turn
whole_of at None b k cap = stops at Lost b None (Notice 12)
whole_of at (Some h) b k cap = opened_of at h b k cap

-- AN EP'S END. "Complete: handed out when its last byte is read. First: held. Middle and last: joined ..; last then hands out."
abbrev pub handed_of : ℕ → Place → Option Kept → Turn
handed_of at b None = goes at (Head 0 0) b None
handed_of at b (Some k) = stops at (Head 0 0) b None (Packet k.content k.repaired k.began k.len)

abbrev pub finish_of : Kind → ℕ → Place → Option Kept → Turn
finish_of Fill at b k = goes at (Head 0 0) b k
finish_of Reserved at b k = goes at (Head 0 0) b k
finish_of Complete at b k = handed_of at b k
finish_of First at b k = goes at (Head 0 0) b k
finish_of Middle at b k = goes at (Head 0 0) b k
finish_of Last at b k = handed_of at b k

-- what is kept, with so many bytes more
abbrev pub grown_by : ℕ → Option Kept → Option Kept
grown_by n None = None
grown_by n (Some q) = kept_by q.content q.repaired q.began (q.len + n)

-- reading a header on, of which so many bytes are read, with this number; the TP's end may cut it
unfoldable pub header_turn : List ℕ → ℕ → ℕ → ℕ → Place → Option Kept → ℕ → Turn
header_turn tp at n w b k cap =
    cond (ltb (length tp - at) (6 - n))
    (stops (at + (length tp - at)) (Head (n + (length tp - at)) (number w (take (length tp - at) (drop at tp)))) b k Nothing)
    (whole_of (at + (6 - n)) (header_in (number w (take (6 - n) (drop at tp)))) b k cap)

-- reading an EP's data on, of which so many bytes are left
unfoldable pub body_turn : List ℕ → ℕ → Header → ℕ → Place → Option Kept → Turn
body_turn tp at h left b k =
    cond (ltb (length tp - at) left)
    (stops (at + (length tp - at)) (Body h (left - (length tp - at))) b (grown_by (length tp - at) k) Nothing)
    (finish_of (kind_of h) (at + left) b (grown_by left k))

-- where a header began, of which so many bytes are read: here if none is
abbrev pub begun_at : Stamp → ℕ → ℕ → Place → Place
begun_at t at n b = cond (eqb n 0) (place_at t at) b

-- out of step nothing is read
abbrev pub advance_by : Phase → Stamp → ℕ → Place → Option Kept → ℕ → List ℕ → Turn
advance_by Lost t at b k cap tp = stops (length tp) Lost b k Nothing
advance_by (Head n x) t at b k cap tp = header_turn tp at n x (begun_at t at n b) k cap
advance_by (Judged h) t at b k cap tp = admit_of (kind_of h) at h b k cap
advance_by (Body h left) t at b k cap tp = body_turn tp at h left b k

-- THE TURN, in a room of so many bytes and a TP of this stamp
unfoldable pub advance_of : ℕ → Stamp → Walk → List ℕ → Turn
advance_of cap t w tp = advance_by w.phase t w.at w.began w.kept cap tp

-- how much reading still has to do up to the end of a TP of so many bytes
abbrev pub rank : Phase → ℕ
rank Lost = 0
rank (Head n w) = 0
rank (Judged h) = 2
rank (Body h n) = 1

abbrev pub toil : ℕ → Walk → ℕ
toil len w = 3 * (len - w.at) + rank w.phase
