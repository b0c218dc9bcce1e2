-- A queue of bytes in a lent buffer, as a ring: the first byte queued is at the head, the next after it, round the buffer's end.
-- Each call is total: what does not fit is left, and then nothing changes. Assumes nothing.
use Rattle.std.specs.Prelude.{Bool, cond, ◌&&◌, List, ◌++◌, ℕ, ◌+◌, ◌-◌, ◌≤◌, min, leb, length, take, drop}
use Rattle.std.proofs.Math.Seq.{paste}
use Rattle.queue.specs.declared.Ring.{Ring}

-- d with s copied over it from index at on, as much of s as there is place for
abbrev pub copied : List ℕ → ℕ → List ℕ → List ℕ
copied d at s = paste d at s (min (length s) (length d - at))

-- the buffer's bytes in the order of reading, from index h on and then from its start
unfoldable pub around : List ℕ → ℕ → List ℕ
around b h = drop h b ++ take h b

-- what the ring q holds in b: the first len bytes in that order
unfoldable pub held : List ℕ → Ring → List ℕ
held b q = take q.len (around b q.head)

-- the head lies in the buffer or at its end, and no more is held than the buffer has
pub record Kept (b : List ℕ) (q : Ring) : Type 0 where
  pub head : q.head ≤ length b
  pub len : q.len ≤ length b

-- the same as a test
unfoldable pub kept : ℕ → Ring → Bool
kept cap q = leb q.head cap && leb q.len cap

-- what a call leaves: the ring, and the bytes that it may write
pub record Left : Type 0 where
  pub ring : Ring
  pub bytes : List ℕ

-- ---- s is put behind what is held

unfoldable pub longer : Ring → ℕ → Ring
longer q n = record { head = q.head; len = q.len + n }

-- its own bytes and no other are written
unfoldable pub written : List ℕ → Ring → List ℕ → List ℕ
written b q s = around (paste (around b q.head) q.len s (length s)) (length b - q.head)

unfoldable pub room : ℕ → Ring → ℕ → Bool
room cap q n = kept cap q && leb n (cap - q.len)

unfoldable pub pushed : List ℕ → Ring → List ℕ → Left
pushed b q s =
    cond (room (length b) q (length s))
    (record { ring = longer q (length s); bytes = written b q s })
    (record { ring = q; bytes = b })

-- ---- n bytes are taken off what is held, into d from index at on

-- an index that passes the buffer's end, brought back
unfoldable pub wrap : ℕ → ℕ → ℕ
wrap cap x = cond (leb x cap) x (x - cap)

unfoldable pub off : ℕ → Ring → ℕ → Ring
off cap q n = record { head = wrap cap (q.head + n); len = q.len - n }

unfoldable pub place : ℕ → ℕ → ℕ → Bool
place size at n = leb at size && leb n (size - at)

unfoldable pub popped : List ℕ → Ring → List ℕ → ℕ → ℕ → Left
popped b q d at n =
    cond (kept (length b) q && (leb n q.len && place (length d) at n))
    (record { ring = off (length b) q n; bytes = paste d at (held b q) n })
    (record { ring = q; bytes = d })
