-- WHAT THE CONTRACTS OF THE SENDER'S CALLS SHUT OUT, on document 01's example 6: a sender that refuses every offer, low-latency or
-- ordinary, or every draw, and one that draws only fill. What the calls give is computed from the definitions that the contracts
-- cite. Assumes nothing.
use mathlib.Core.Path.{◌≡◌, refl, sym, ap, ◌∙◌}
use mathlib.Core.List.{List, [], ◌∷◌, flatten}
use Prim.Native.Nat.{ℕ, ◌≤◌}
use native.Mathlib.Omega.{arith}
use lib.ListN.{get_or, replicate}
use Rattle.std.specs.Prelude.{Result, Err}
use Rattle.golay.specs.Golay.{chosen, code_word}
use Rattle.wire.specs.Wire.{word, first_number, header, ep, stream_byte, offset_number, tp_header}
use Rattle.queue.specs.Ring.{around, held, longer, written, wrap, off}
use Rattle.sender.specs.declared.Refusal.{Refusal}
use Rattle.sender.specs.declared.Sender.{Sender}
use Rattle.sender.specs.Answers.{number, done, refusal, given_by, Left, lent}
use Rattle.sender.specs.Opening.{Sound, fresh}
use Rattle.sender.specs.Offering.{known, want_ordinary, want_low, pieces, sp_bytes, ordinary_offered, low_offered}
use Rattle.sender.specs.Drawing.{head_at, size_in, content_in, low_in, low_at, overwritten, next, leave, part, fill, lacking, stream, owed_after, span, rest_after, offset, draw_with, draw_of, draw_by, drew}
use Rattle.examples.specs.Examples.{first_tp}

-- two empty queues of 32 bytes, and a sender opened with them
abbrev empty : List ℕ
empty = replicate 32 0

abbrev opened : Sender
opened = fresh 16 0 65535 32 32

-- the queues with example 6's packets, and a sender with so many bytes queued in each
abbrev low_queue : List ℕ
low_queue = 0x04 ∷ 0x0D ∷ 0x99 ∷ 0x00 ∷ 0x29 ∷ 0x3E ∷ 0x11 ∷ 0x22 ∷ replicate 24 0

abbrev ordinary_queue : List ℕ
ordinary_queue = 0x10 ∷ 0x07 ∷ 0xB4 ∷ 0x00 ∷ 0x18 ∷ 0xEB ∷ 0x33 ∷ replicate 25 0

abbrev holding : ℕ → ℕ → Sender
holding low ordinary = record { setting = opened.setting; low = record { head = 0; len = low }; ordinary = record { head = 0; len = ordinary }; owed = 0; rest = 0 }

sound : (low ordinary : ℕ) → low ≤ 32 → ordinary ≤ 32 → Sound (holding low ordinary)
sound low ordinary l o =
    record {
      payload_least = omega arith;
      payload_most = omega arith;
      stream = omega arith;
      piece_least = omega arith;
      piece_most = omega arith;
      lowspace = omega arith;
      space = omega arith;
      head_of_low = omega arith;
      low_len = l;
      head = omega arith;
      len = o;
      owed = omega arith;
      rest = omega arith;
    }

-- "Offer low-latency content 1, data 11 22; offer ordinary content 4, data 33; draw"

low_offer : low_offered opened empty empty 1 (0x11 ∷ 0x22 ∷ []) ≡ record { given = done (holding 8 0); buffer = low_queue }
unfolding low_offered want_low lent known ep header first_number word code_word chosen longer written around
low_offer = refl

ordinary_offer : ordinary_offered (holding 8 0) low_queue empty 4 (0x33 ∷ []) ≡ record { given = done (holding 8 7); buffer = ordinary_queue }
unfolding ordinary_offered want_ordinary lent known pieces sp_bytes flatten ep header first_number word code_word chosen longer written around
ordinary_offer = refl

first_draw : drew (holding 8 7) low_queue ordinary_queue (replicate 16 0)
    ≡ record { given = done (record { setting = opened.setting; low = record { head = 8; len = 0 }; ordinary = record { head = 3; len = 4 }; owed = 0; rest = 4 }); buffer = first_tp }
unfolding drew lent overwritten draw_by draw_of draw_with head_at size_in content_in low_in low_at next leave part fill lacking stream owed_after span rest_after offset known ep header first_number word code_word chosen tp_header stream_byte offset_number flatten around held wrap off
first_draw = refl

-- ---- any sender, by what it answers to a call: the answer, and the bytes then of the buffer that the call may write

abbrev pub Offering : Type 0
Offering = Sender → List ℕ → List ℕ → ℕ → List ℕ → Result Sender Refusal × List ℕ

abbrev pub Drawing : Type 0
Drawing = Sender → List ℕ → List ℕ → List ℕ → Result Sender Refusal × List ℕ

abbrev left : Result Sender Refusal × List ℕ → Left
left x = record { given = given_by x.0; buffer = x.1 }

-- it keeps a call's contract
abbrev pub KeepsLow : Offering → Type 0
KeepsLow a = (s : Sender) (low ordinary : List ℕ) (c : ℕ) (d : List ℕ) → Sound s → left (a s low ordinary c d) ≡ low_offered s low ordinary c d

abbrev pub KeepsOrdinary : Offering → Type 0
KeepsOrdinary a = (s : Sender) (low ordinary : List ℕ) (c : ℕ) (d : List ℕ) → Sound s → left (a s low ordinary c d) ≡ ordinary_offered s low ordinary c d

abbrev pub KeepsDraw : Drawing → Type 0
KeepsDraw a = (s : Sender) (low ordinary tp : List ℕ) → Sound s → left (a s low ordinary tp) ≡ drew s low ordinary tp

-- an answer that refuses, with whatever number
abbrev pub Refuses : Result Sender Refusal → Type 0
Refuses x = (k : Refusal) × (x ≡ Err k)

no_refusal : (x : Result Sender Refusal × List ℕ) (s : Sender) (b : List ℕ) → Refuses x.0 → left x ≡ record { given = done s; buffer = b } → ⊥
no_refusal x s b r e =
    let g : refusal (number r.0) ≡ done s = ap given_by (sym r.1) ∙ ap (λ (l : Left). l.given) e in
    let z : ◌≡◌ {A = ℕ} 0 1 = cc in
    omega arith

-- ---- A SENDER THAT REFUSES ALL

pub no_refusing_low : (a : Offering) → KeepsLow a
    → ((s : Sender) (low ordinary : List ℕ) (c : ℕ) (d : List ℕ) → Refuses (a s low ordinary c d).0) → ⊥
no_refusing_low a k r =
    no_refusal _ _ _ (r opened empty empty 1 (0x11 ∷ 0x22 ∷ []))
    (k opened empty empty 1 (0x11 ∷ 0x22 ∷ []) (sound 0 0 (omega arith) (omega arith)) ∙ low_offer)

pub no_refusing_ordinary : (a : Offering) → KeepsOrdinary a
    → ((s : Sender) (low ordinary : List ℕ) (c : ℕ) (d : List ℕ) → Refuses (a s low ordinary c d).0) → ⊥
no_refusing_ordinary a k r =
    no_refusal _ _ _ (r (holding 8 0) low_queue empty 4 (0x33 ∷ []))
    (k (holding 8 0) low_queue empty 4 (0x33 ∷ []) (sound 8 0 (omega arith) (omega arith)) ∙ ordinary_offer)

pub no_refusing_draw : (a : Drawing) → KeepsDraw a → ((s : Sender) (low ordinary tp : List ℕ) → Refuses (a s low ordinary tp).0) → ⊥
no_refusing_draw a k r =
    no_refusal _ _ _ (r (holding 8 7) low_queue ordinary_queue (replicate 16 0))
    (k (holding 8 7) low_queue ordinary_queue (replicate 16 0) (sound 8 7 (omega arith) (omega arith)) ∙ first_draw)

-- ---- A SENDER THAT DRAWS ONLY FILL: each TP as though nothing was queued

unfoldable pub only_fill : Sender → List ℕ
only_fill s = (draw_with s.setting.payload s.setting.stream [] [] s.owed 0).tp

abbrev blank : List ℕ
blank = 0x00 ∷ 0x00 ∷ 0x00 ∷ 0x00 ∷ 0x00 ∷ 0x00 ∷ 0x00 ∷ 0x00 ∷ 0x63 ∷ 0xA9 ∷ replicate 6 0xAA

filled : only_fill (holding 8 7) ≡ blank
unfolding only_fill draw_with part fill lacking stream offset ep header first_number word code_word chosen tp_header stream_byte offset_number
filled = refl

pub no_only_fill : (a : Drawing) → KeepsDraw a → ((s : Sender) (low ordinary tp : List ℕ) → (a s low ordinary tp).1 ≡ only_fill s) → ⊥
no_only_fill a k e =
    let g = k (holding 8 7) low_queue ordinary_queue (replicate 16 0) (sound 8 7 (omega arith) (omega arith)) ∙ first_draw in
    let same : first_tp ≡ blank = sym (ap (λ (l : Left). l.buffer) g) ∙ e (holding 8 7) low_queue ordinary_queue (replicate 16 0) ∙ filled in
    let flag : ◌≡◌ {A = ℕ} 0x80 0x00 = ap (λ (b : List ℕ). get_or b 1 0) same in
    omega arith
