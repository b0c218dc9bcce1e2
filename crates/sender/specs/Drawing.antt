-- The draw (document 01, "Sender", and "Layouts" for the TP), over the queued bytes of both queues.
-- Also for overwritten queues, where a header is read from the number halves of its words, without repair. Assumes nothing.
use Rattle.std.specs.Prelude.{◌≡◌, Bool, true, false, cond, ◌&&◌, not, ℕ, zero, suc, ◌+◌, ◌-◌, ◌*◌, ◌/◌, ◌%◌, ◌^◌, ◌<◌, min, leb, ltb, eqb, length, take, drop, replicate}
use mathlib.Core.List.{List, [], ◌∷◌, ◌++◌, flatten}
use Rattle.std.proofs.Common.{arith, eq-eqb, ne_eqb}
use Rattle.digits.specs.Digits.{number}
use Rattle.queue.specs.Ring.{held, off}
use Rattle.wire.specs.Wire.{header, ep, tp_header}
use Rattle.sender.specs.declared.Sender.{Sender}
use Rattle.sender.specs.Answers.{done, Left, refused, lent}
use Rattle.sender.specs.Offering.{known}

-- ---- the header at the head of queued bytes, as a number; its length and content by the number halves of its words

unfoldable pub head_at : List ℕ → ℕ
head_at q = number 0 (take 6 q)

unfoldable pub size_in : ℕ → ℕ
size_in h = h / 2 ^ 36 % 16 * 4096 + h / 2 ^ 12 % 4096

unfoldable pub content_in : ℕ → ℕ
content_in h = h / 2 ^ 42 % 16

-- ---- LLEPs go first

-- the bytes of the EP with header h at the head of n queued bytes, if it is whole and could have been accepted; otherwise 0
unfoldable pub low_in : ℕ → ℕ → ℕ → ℕ
low_in P n h =
    cond (leb (6 + size_in h) n && (leb (7 + size_in h) P && (known (content_in h) && eqb (number 0 (header (content_in h) 0 (size_in h))) h)))
    (6 + size_in h)
    0

unfoldable pub low_at : ℕ → List ℕ → ℕ
low_at P q = low_in P (length q) (head_at q)

-- a queue that is not empty and doesn't start with such an EP
unfoldable pub overwritten : ℕ → List ℕ → Bool
overwritten P q = not (eqb (length q) 0) && eqb (low_at P q) 0

-- in order, while the next one and its end byte fit in what is left; later bytes that aren't one count as not fitting
unfoldable pub next : ℕ → List ℕ → ℕ → ℕ
next P q left = cond (ltb (low_at P q) left) (low_at P q) 0

-- those that leave, each as its bytes; k bounds their number
unfoldable pub leave : ℕ → ℕ → List ℕ → ℕ → List (List ℕ)
leave zero P q left = []
leave (suc k) P q left =
    cond (eqb (next P q left) 0) [] (take (next P q left) q ∷ leave k P (drop (next P q left) q) (left - (next P q left + 1)))

pub none_leaves : (k P : ℕ) (q : List ℕ) (left : ℕ) → next P q left ≡ 0 → leave (suc k) P q left ≡ []
unfolding leave
none_leaves k P q left e = rw (eq-eqb (next P q left) 0 e)

pub one_leaves : (k P : ℕ) (q : List ℕ) (left n : ℕ) → next P q left ≡ n → 0 < n → leave (suc k) P q left ≡ take n q ∷ leave k P (drop n q) (left - (n + 1))
unfolding leave
one_leaves k P q left n e p = rw (e, ne_eqb n 0 (λ z. omega arith))

-- "low-latency part present", "another follows": there is at least one
abbrev pub present : List (List ℕ) → Bool
present [] = false
present (e ∷ es) = true

-- each LLEP followed by its end byte, FF if another follows, else 00
unfoldable pub part : List (List ℕ) → List ℕ
part [] = []
part (e ∷ es) = e ++ cond (present es) 0xFF 0x00 ∷ part es

-- ---- then owed fill bytes, then queued ordinary bytes, then fill

-- if m > 0 bytes remain a fill EP follows: length m − 6 with AA data if m ≥ 6, else length 0
unfoldable pub fill : ℕ → List ℕ
fill zero = []
fill (suc m) = ep 0 0 (replicate (suc m - 6) 0xAA)

-- of r bytes so many remain where the queue is empty
unfoldable pub lacking : ℕ → ℕ → List ℕ → ℕ
lacking r owed q = r - owed - length q

-- what a draw takes its r ordinary bytes from
unfoldable pub stream : ℕ → ℕ → List ℕ → List ℕ
stream r owed q = replicate owed 0 ++ (q ++ fill (lacking r owed q))

-- owed to the next draws: what is left of the owed bytes, or the zero bytes of fill that did not fit
unfoldable pub owed_after : ℕ → ℕ → List ℕ → ℕ
owed_after r owed q = owed - r + (length (fill (lacking r owed q)) - lacking r owed q)

-- ---- the offset: where the first ordinary EP begins

-- an EP's bytes as its header says, at most what is queued
unfoldable pub span : List ℕ → ℕ
span q = min (6 + size_in (head_at q)) (length q)

-- the queue begins with the last rest bytes of an EP that is partly drawn; with so many once n bytes more are drawn
unfoldable pub rest_after : ℕ → List ℕ → ℕ → ℕ
rest_after zero q rest = rest
rest_after (suc n) [] rest = rest
rest_after (suc n) (b ∷ q) zero = rest_after n q (span (b ∷ q) - 1)
rest_after (suc n) (b ∷ q) (suc rest) = rest_after n q rest

-- first ordinary bytes stand before it, of r; counted from the first payload byte, low-latency part included; 2047 if none begins
unfoldable pub offset : ℕ → ℕ → ℕ → ℕ
offset low first r = cond (ltb first r) (low + first) 2047

-- ---- the TP, and what is gone from the queues

pub record Draw : Type 0 where
  pub tp : List ℕ
  pub low_gone : ℕ
  pub gone : ℕ
  pub owed : ℕ
  pub rest : ℕ

unfoldable pub draw_with : ℕ → ℕ → List (List ℕ) → List ℕ → ℕ → ℕ → Draw
draw_with P str es q owed rest =
    let r = P - length (part es) in
    record {
      tp = tp_header str (present es) (offset (length (part es)) (owed + rest) r) ++ (part es ++ take r (stream r owed q));
      low_gone = length (flatten es);
      gone = min (r - owed) (length q);
      owed = owed_after r owed q;
      rest = rest_after (min (r - owed) (length q)) q rest;
    }

unfoldable pub draw_of : ℕ → ℕ → List ℕ → List ℕ → ℕ → ℕ → Draw
draw_of P str low q owed rest = draw_with P str (leave (suc P) P low P) q owed rest

-- ---- the call: low and ordinary are the queues' buffers, b the TP's

abbrev pub took : Sender → Draw → Left
took s d =
    record {
      given = done (record {
        setting = s.setting;
        low = off s.setting.lowspace s.low d.low_gone;
        ordinary = off s.setting.space s.ordinary d.gone;
        owed = d.owed;
        rest = d.rest;
      });
      buffer = d.tp;
    }

-- the draw of a sender by its own settings and counts
unfoldable pub draw_by : Sender → List ℕ → List ℕ → Draw
draw_by s low ordinary =
    draw_of s.setting.payload s.setting.stream (held low s.low) (held ordinary s.ordinary) s.owed s.rest

-- 1 before 5: draw buffer not the TP length
unfoldable pub drew : Sender → List ℕ → List ℕ → List ℕ → Left
drew s low ordinary b =
    cond (not (lent s.setting (length low) (length ordinary))) (refused 1 b)
    (cond (overwritten s.setting.payload (held low s.low)) (refused 1 b)
    (cond (not (eqb (length b) (s.setting.payload + 4))) (refused 5 b)
    (took s (draw_by s low ordinary))))
