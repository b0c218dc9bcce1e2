-- What the private steps of an offer and of a draw ensure of each other. Assumes nothing.
use Rattle.std.specs.Prelude.{◌≡◌, Bool, true, false, cond, not, ℕ, suc, ◌+◌, ◌-◌, ◌*◌, ◌≤◌, min, eqb, ltb, length, take, Result, Ok, Err, Option, Some, None, zero, ⊤}
use mathlib.Core.List.{List, ◌++◌, flatten}
use Rattle.golay.specs.Golay.{code_word}
use Rattle.queue.specs.declared.Ring.{Ring}
use Rattle.queue.specs.Ring as R
use Rattle.queue.specs.Ring.{held, longer, written, off}
use Rattle.sender.specs.declared.Refusal.{Refusal}
use Rattle.sender.specs.declared.Refusal.TheVariants.{Limits, Content, Long, Full, Buffer}
use Rattle.sender.specs.declared.part.Part.{Part}
use Rattle.sender.specs.declared.Sender.{Sender}
use Rattle.sender.specs.Offering.{known, sp_bytes}
use Rattle.sender.specs.Answers.{Left}
use Rattle.sender.specs.Drawing.{overwritten, leave, part, stream, owed_after, took, draw_by}

-- ---- an offer

-- a check's answer: the refusal where the test holds
abbrev pub checked : Bool → Refusal → Result ⊤ Refusal
checked true k = Err k
checked false k = Ok tt

abbrev pub first_of : Result ⊤ Refusal → Result ⊤ Refusal → Result ⊤ Refusal
first_of (Ok u) b = b
first_of (Err k) b = Err k

-- 2, 3, 4 in this order, for an SP of at most so many bytes in pieces of F and a queue with so much room
unfoldable pub judged_of : ℕ → List ℕ → ℕ → ℕ → ℕ → Result ⊤ Refusal
judged_of c d most F room =
    first_of (checked (not (known c)) Content)
    (first_of (checked (ltb most (length d)) Long)
    (checked (ltb room (length (sp_bytes F c d))) Full))

-- e put behind what q holds in b
abbrev pub Put : List ℕ → Ring → List ℕ → R.Left
Put b q e = record { ring = longer q (length e); bytes = written b q e }

-- the first word of a complete EP's header whose length is below 4,096: it says the content alone; of an unknown content none
unfoldable pub first_word : ℕ → Option ℕ
first_word c = cond (known c) (Some (code_word (c * 64))) None

-- ---- a draw

-- so many bytes, where 0 says that there is none
abbrev pub found : ℕ → Option ℕ
found zero = None
found (suc n) = Some (suc n)

-- 1 and 5 in this order, for these low-latency bytes and a buffer of n bytes
unfoldable pub drawable : ℕ → List ℕ → ℕ → Result ⊤ Refusal
drawable P q n = first_of (checked (overwritten P q) Limits) (checked (not (eqb n (P + 4))) Buffer)

-- the low-latency part was written behind a TP's first four bytes: r is the ring then, at the part's end in d'
pub record Parted (P : ℕ) (b : List ℕ) (q : Ring) (d d' : List ℕ) (r : Ring) (at : ℕ) : Type 0 where
  pub bytes : take at d' ≡ take 4 d ++ part (leave (suc P) P (held b q) P)
  pub same : length d' ≡ length d
  pub end : at ≡ 4 + length (part (leave (suc P) P (held b q) P))
  pub within : at ≤ P + 4
  pub ring : r ≡ off (length b) q (length (flatten (leave (suc P) P (held b q) P)))
  pub gone : length (flatten (leave (suc P) P (held b q) P)) ≤ q.len

-- that was tried: where it is refused, or no LLEP leaves, nothing is written
abbrev pub Looked : ℕ → List ℕ → Ring → List ℕ → List ℕ → Result Part Refusal → Type 0
Looked P b q d d' (Ok p) = (drawable P (held b q) (length d) ≡ Ok tt) × (Parted P b q d d' p.ring p.at × (p.at ≡ 4 → d' ≡ d))
Looked P b q d d' (Err k) = (drawable P (held b q) (length d) ≡ Err k) × (d' ≡ d)

-- the ordinary bytes were written into d from place at to its end: r is the ring then
pub record Filled (b : List ℕ) (q : Ring) (owed : ℕ) (d : List ℕ) (at : ℕ) (d' : List ℕ) (r : Ring) (n owed' : ℕ) : Type 0 where
  pub bytes : d' ≡ take at d ++ take (length d - at) (stream (length d - at) owed (held b q))
  pub same : length d' ≡ length d
  pub gone : n ≡ min (length d - at - owed) (length (held b q))
  pub ring : r ≡ off (length b) q n
  pub left : owed' ≡ owed_after (length d - at) owed (held b q)

-- a draw from any buffers of the opening's lengths comes to x
abbrev pub DrawnOver : Sender → Left → Type 0
DrawnOver s x = (low own : List ℕ) → length low ≡ s.setting.lowspace → length own ≡ s.setting.space → x ≡ took s (draw_by s low own)
