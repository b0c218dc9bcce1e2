-- Document 01's example 6 against the statement: what is due. So a receiver that hands out nothing there, one that idles after the
-- first TP, and one that hands out a packet where none was sent, are shut out. Assumes nothing.
use mathlib.Core.Path.{◌≡◌, refl, ap, ◌∙◌}
use mathlib.Core.Bool.{true, false, not}
use mathlib.Core.List.{List, [], ◌∷◌, flatten, map}
use Prim.Native.Nat.{ℕ}
use native.Mathlib.Omega.{arith}
use lib.Dec.{leb, eqb}
use lib.ListN.{replicate}
use Rattle.golay.specs.Golay.{code_word, chosen}
use Rattle.wire.specs.Wire.{word, first_number, header, ep, stream_byte, offset_number, tp_header}
use Rattle.queue.specs.Ring.{around, held, longer, written, wrap, off}
use Rattle.sender.specs.Answers.{lent}
use Rattle.wire.specs.Limits.{link_allowed, allowed}
use Rattle.sender.specs.Opening.{small, fresh, opened}
use Rattle.receiver.specs.Call.{fresh_of}
use Rattle.sender.specs.Offering.{pieces, sp_bytes, known, want_ordinary, ordinary_offered, want_low, low_offered}
use Rattle.sender.specs.Drawing.{head_at, size_in, content_in, low_in, low_at, overwritten, leave, part, fill, lacking, stream, owed_after, span, rest_after, offset, draw_with, draw_of, draw_by}
use Rattle.sender.specs.Drawing as D
use Rattle.sender.specs.Run.{Tp, Call, ordinary, low, draw, World, Deed, took, took_low, drew, deeds, tps}
use Rattle.downlink.specs.Hearing as H
use Rattle.downlink.specs.Hearing.{Called, Hears, tps_in, Packet, handed_out}
use Rattle.downlink.specs.Damage.{drawn}
use Rattle.downlink.specs.Due.{as_offered, lows_of, ordinaries_of, Right}
use Rattle.downlink.specs.Demand.{whole_from, Link}
use Rattle.downlink.specs.Gaps.{through}
use Rattle.downlink.proofs.Own.{unchanged}
use Rattle.downlink.proofs.Intact.{undamaged}
use Rattle.downlink.proofs.Demanded.{as_queue_is_roomy, demand3_unchanged}

unfoldable pub room : List ℕ
room = replicate 64 0

unfoldable pub world : World
world = record { sender = fresh 16 0 65535 64 64; low = room; ordinary = room }

unfoldable pub tp : List ℕ
tp = replicate 16 0

unfoldable pub calls : List Call
calls = low 1 (0x11 ∷ 0x22 ∷ []) ∷ ordinary 4 (0x33 ∷ []) ∷ draw tp ∷ draw tp ∷ []

unfoldable pub first : List ℕ
first = 0x00 ∷ 0x80 ∷ 0x99 ∷ 0x58 ∷ 0x04 ∷ 0x0D ∷ 0x99 ∷ 0x00 ∷ 0x29 ∷ 0x3E ∷ 0x11 ∷ 0x22 ∷ 0x00 ∷ 0x10 ∷ 0x07 ∷ 0xB4 ∷ []

unfoldable pub second : List ℕ
second = 0x00 ∷ 0x00 ∷ 0x4A ∷ 0x97 ∷ 0x00 ∷ 0x18 ∷ 0xEB ∷ 0x33 ∷ 0x00 ∷ 0x00 ∷ 0x00 ∷ 0x00 ∷ 0x29 ∷ 0x3E ∷ 0xAA ∷ 0xAA ∷ []

unfoldable pub llep : List ℕ
llep = 0x04 ∷ 0x0D ∷ 0x99 ∷ 0x00 ∷ 0x29 ∷ 0x3E ∷ 0x11 ∷ 0x22 ∷ []

unfoldable pub done : List Deed
done =
    took_low 1 (0x11 ∷ 0x22 ∷ []) ∷ took 4 (0x33 ∷ [])
    ∷ drew (record { bytes = first; lleps = llep ∷ []; fill = [] })
    ∷ drew (record { bytes = second; lleps = []; fill = 0x00 ∷ 0x00 ∷ 0x00 ∷ 0x00 ∷ 0x29 ∷ 0x3E ∷ 0xAA ∷ 0xAA ∷ [] }) ∷ []

pub did : deeds world calls ≡ done
unfolding room world tp calls first second llep done code_word chosen word first_number header ep stream_byte offset_number tp_header around held longer written wrap off lent known pieces sp_bytes want_ordinary ordinary_offered want_low low_offered head_at size_in content_in low_in low_at overwritten D.next leave part fill lacking stream owed_after span rest_after offset draw_with draw_of draw_by D.drew flatten
did = refl

-- a draw of a sender with nothing queued
unfoldable pub blank : Tp
blank =
    record {
      bytes = 0x00 ∷ 0x00 ∷ 0x00 ∷ 0x00 ∷ 0x00 ∷ 0x00 ∷ 0x00 ∷ 0x00 ∷ 0x63 ∷ 0xA9 ∷ 0xAA ∷ 0xAA ∷ 0xAA ∷ 0xAA ∷ 0xAA ∷ 0xAA ∷ [];
      lleps = [];
      fill = 0x00 ∷ 0x00 ∷ 0x00 ∷ 0x00 ∷ 0x63 ∷ 0xA9 ∷ 0xAA ∷ 0xAA ∷ 0xAA ∷ 0xAA ∷ 0xAA ∷ 0xAA ∷ [];
    }

pub filled : deeds world (draw tp ∷ []) ≡ drew blank ∷ []
unfolding room world tp blank code_word chosen word first_number header ep stream_byte offset_number tp_header around held longer written wrap off lent known pieces sp_bytes want_ordinary ordinary_offered want_low low_offered head_at size_in content_in low_in low_at overwritten D.next leave part fill lacking stream owed_after span rest_after offset draw_with draw_of draw_by D.drew flatten
filled = refl

-- ---- what is due

-- a receiver that starts at TP k
abbrev pub From : ℕ → List Deed → List (List ℕ) → List Packet → List Packet → Type 0
From k ds got lows ordinaries = Right 65535 ds got (leb k) (whole_from k (tps ds)) lows ordinaries

module _ (lows ordinaries : List Packet) where
  -- listened to from the first TP on, undamaged
  pub all_due : From 0 done (first ∷ second ∷ []) lows ordinaries → (lows ≡ (1, 0x11 ∷ 0x22 ∷ []) ∷ []) × (ordinaries ≡ (4, 0x33 ∷ []) ∷ [])
  unfolding done first second llep code_word chosen word first_number header ep pieces part flatten
  all_due r =
      (unchanged (first ∷ second ∷ []) (lows_of done (leb 0)) lows r.low, unchanged (first ∷ second ∷ []) (ordinaries_of 65535 done (whole_from 0 (tps done))) ordinaries r.ordinary)

  -- from the second on: nothing, since the ordinary packet begins in the first
  pub late_due : From 1 done (first ∷ second ∷ []) lows ordinaries → (lows ≡ []) × (ordinaries ≡ [])
  unfolding done first second llep code_word chosen word first_number header ep pieces part flatten
  late_due r =
      (unchanged (first ∷ second ∷ []) (lows_of done (leb 1)) lows r.low, unchanged (first ∷ second ∷ []) (ordinaries_of 65535 done (whole_from 1 (tps done))) ordinaries r.ordinary)

-- ---- who is shut out

-- one that hands out nothing: it gives 9 for everything, or any other fixed notice, or nothing at all
pub silent : From 0 done (first ∷ second ∷ []) [] [] → ⊥
silent r = let e = (all_due [] [] r).0 in let z : ◌≡◌ {A = ℕ} 0 1 = cc in omega arith

-- one that reads the first TP and then idles
pub idle : From 0 done (first ∷ second ∷ []) ((1, 0x11 ∷ 0x22 ∷ []) ∷ []) [] → ⊥
idle r = let e = (all_due ((1, 0x11 ∷ 0x22 ∷ []) ∷ []) [] r).1 in let z : ◌≡◌ {A = ℕ} 0 1 = cc in omega arith

-- one that gives a fixed packet: a TP of fill alone gives none, whatever arrives of it
pub fixed : (r : List ℕ) (p : Packet) (ps os : List Packet)
    → (From 0 (drew blank ∷ []) (r ∷ []) (p ∷ ps) os → ⊥) × (From 0 (drew blank ∷ []) (r ∷ []) os (p ∷ ps) → ⊥)
unfolding blank part flatten
fixed r p ps os = (λ x. x.low, λ x. x.ordinary)

-- ---- both ends

-- its sender, and a receiver with a room as long as the queue; nothing changed on the way
unfoldable pub link : Link
unfolding world room opened link_allowed allowed small
link =
    record {
      size = 16;
      stream = 0;
      piece = 65535;
      world = world;
      listener = record { receiver = fresh_of 16 0 64 0; room = room };
      calls = calls;
      got = drawn (tps (deeds world calls));
      sends = refl;
      listens = record { same = refl; able = record { size = omega arith; walk = record { at = omega arith; phase = omega arith }; stage = omega arith } };
      damaged = undamaged 16 0 65535 world refl calls;
    }

-- by demand 3: whatever calls are made of such a receiver, over both TPs until none, they hand out the two packets as they were offered
pub both_ends : (cs : List (List Called)) → Hears link.listener (tps_in link.got) cs
    → (handed_out H.low (tps_in link.got) cs ≡ (1, 0x11 ∷ 0x22 ∷ []) ∷ []) × (handed_out H.ordinary (tps_in link.got) cs ≡ (4, 0x33 ∷ []) ∷ [])
unfolding link done first second llep code_word chosen word first_number header ep pieces part flatten
both_ends cs hears =
    let said = demand3_unchanged link (as_queue_is_roomy link (omega arith), refl) 0 cs hears in (
      said.0 ∙ ap (λ (ds : List Deed). map as_offered (lows_of ds (leb 0))) did,
      said.1 ∙ ap (λ (ds : List Deed). map as_offered (ordinaries_of 65535 ds (whole_from 0 (tps ds)))) did,
    )

-- ---- with gaps in the middle

-- a packet of twelve bytes, six in the first TP and six in the third; the second is full of low-latency packets. Where it is missing the
-- packet is not due, though each of its bytes arrived.
pub over_a_gap : (through (λ n. not (eqb n 1)) 0 (6 ∷ 0 ∷ 6 ∷ []) 0 12 ≡ false) × (through (λ n. true) 0 (6 ∷ 0 ∷ 6 ∷ []) 0 12 ≡ true)
over_a_gap = (refl, refl)
