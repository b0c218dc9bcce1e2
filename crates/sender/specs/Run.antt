-- A sender run over any calls, by the definitions that its contracts cite (document 01, "Sender"), in queue buffers that nobody else
-- writes. A call may lend buffers of any length: where one is another than the TP length, or than a queue's at opening, it is refused.
-- Assumes nothing.
use Rattle.std.specs.Prelude.{Bool, cond, List, [], ◌∷◌, ◌++◌, ℕ, suc, ◌-◌, length, replicate}
use Rattle.queue.specs.Ring.{held}
use Rattle.sender.specs.declared.Sender.{Sender}
use Rattle.sender.specs.Answers.{Given, done, refusal, lent}
use Rattle.sender.specs.Offering.{ordinary_offered, low_offered}
use Rattle.sender.specs.Drawing as D
use Rattle.sender.specs.Drawing.{leave, part, lacking}

-- an offer of this content and data, or a draw into this buffer, with the queue buffers of the opening; any of these with such buffers
-- lent for the low-latency and the ordinary queue
pub data Call : Type 0 where
  ordinary low : ℕ → List ℕ → Call
  draw : List ℕ → Call
  lending : List ℕ → List ℕ → Call → Call

-- a sender and its two queue buffers
pub record World : Type 0 where
  pub sender : Sender
  pub low : List ℕ
  pub ordinary : List ℕ

-- a TP drawn: its bytes, the LLEPs in it, and the bytes of the fill EP that begins in it, if one does
pub record Tp : Type 0 where
  pub bytes : List ℕ
  pub lleps : List (List ℕ)
  pub fill : List ℕ

-- what a call did: an offer that was accepted, with its content and data; a draw that gave a TP
pub data Deed : Type 0 where
  refused : Deed
  took took_low : ℕ → List ℕ → Deed
  drew : Tp → Deed

-- the LLEPs that leave at the next draw, and the fill that follows where the queue is empty
abbrev pub leaving : World → List (List ℕ)
leaving w = let P = w.sender.setting.payload in leave (suc P) P (held w.low w.sender.low) P

abbrev pub filling : World → List ℕ
filling w =
    D.fill (lacking (w.sender.setting.payload - length (part (leaving w))) w.sender.owed (held w.ordinary w.sender.ordinary))

-- a refusal leaves the sender unchanged
abbrev pub kept : Sender → Given → Sender
kept s (done t) = t
kept s (refusal k) = s

-- the same sender, lent these buffers
abbrev pub lent_others : World → List ℕ → List ℕ → World
lent_others w l o = record { sender = w.sender; low = l; ordinary = o }

-- "Each call takes the buffers of the opening": buffers of its lengths are they; a call with others leaves them as they are
abbrev pub own_lengths : World → List ℕ → List ℕ → Bool
own_lengths w l o = lent w.sender.setting (length l) (length o)

abbrev pub next : World → Call → World
next w (ordinary c d) =
    let x = ordinary_offered w.sender w.low w.ordinary c d in
    record { sender = kept w.sender x.given; low = w.low; ordinary = x.buffer }
next w (low c d) =
    let x = low_offered w.sender w.low w.ordinary c d in
    record { sender = kept w.sender x.given; low = x.buffer; ordinary = w.ordinary }
next w (draw b) = record { sender = kept w.sender (D.drew w.sender w.low w.ordinary b).given; low = w.low; ordinary = w.ordinary }
next w (lending l o c) =
    cond (own_lengths w l o) (next w c) (record { sender = (next (lent_others w l o) c).sender; low = w.low; ordinary = w.ordinary })

abbrev pub unless : Given → Deed → Deed
unless (done s) d = d
unless (refusal k) d = refused

abbrev pub deed : World → Call → Deed
deed w (ordinary c d) = unless (ordinary_offered w.sender w.low w.ordinary c d).given (took c d)
deed w (low c d) = unless (low_offered w.sender w.low w.ordinary c d).given (took_low c d)
deed w (draw b) =
    let x = D.drew w.sender w.low w.ordinary b in
    unless x.given (drew (record { bytes = x.buffer; lleps = leaving w; fill = filling w }))
deed w (lending l o c) = cond (own_lengths w l o) (deed w c) (deed (lent_others w l o) c)

abbrev pub deeds : World → List Call → List Deed
deeds w [] = []
deeds w (c ∷ cs) = deed w c ∷ deeds (next w c) cs

abbrev pub left : World → List Call → World
left w [] = w
left w (c ∷ cs) = left (next w c) cs

-- the ordinary bytes still to be drawn: owed fill bytes, then the queue
abbrev pub undrawn : World → List ℕ
undrawn w = replicate w.sender.owed 0 ++ held w.ordinary w.sender.ordinary

abbrev pub tps : List Deed → List Tp
tps [] = []
tps (refused ∷ ds) = tps ds
tps (took c d ∷ ds) = tps ds
tps (took_low c d ∷ ds) = tps ds
tps (drew t ∷ ds) = t ∷ tps ds
