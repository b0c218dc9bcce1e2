-- The two offers (document 01, "Sender"; "Offers check 2, 3, 4 in this order").
-- Assumes nothing.
use Rattle.std.specs.Prelude.{◌≡◌, refl, Bool, cond, ◌&&◌, not, ℕ, zero, suc, ◌+◌, ◌-◌, ◌≤◌, ◌<◌, leb, ltb, length, take, drop}
use mathlib.Core.List.{List, [], ◌∷◌, flatten}
use Rattle.std.proofs.Common.{le-leb}
use Rattle.std.proofs.lemmas.Bool.{lt-leb}
use Rattle.queue.specs.Ring.{longer, written}
use Rattle.wire.specs.Wire.{ep}
use Rattle.sender.specs.declared.Sender.{Sender}
use Rattle.sender.specs.Answers.{done, Left, refused, lent}

-- ---- the EPs of an SP

-- pieces of F, the last holding the rest; k bounds their number
unfoldable pub later : ℕ → ℕ → ℕ → List ℕ → List (List ℕ)
later zero F c d = ep c 3 d ∷ []
later (suc k) F c d = cond (leb (length d) F) (ep c 3 d ∷ []) (ep c 2 (take F d) ∷ later k F c (drop F d))

pub last_piece : (k F c : ℕ) (d : List ℕ) → length d ≤ F → later k F c d ≡ ep c 3 d ∷ []
unfolding later
last_piece zero F c d h = refl
last_piece (suc k) F c d h = rw (le-leb (length d) F h)

pub middle_piece : (k F c : ℕ) (d : List ℕ) → F < length d → later (suc k) F c d ≡ ep c 2 (take F d) ∷ later k F c (drop F d)
unfolding later
middle_piece k F c d h = rw (lt-leb (length d) F h)

-- up to F bytes: one complete EP; longer: pieces of F, the first flagged so
unfoldable pub pieces : ℕ → ℕ → List ℕ → List (List ℕ)
pieces F c d = cond (leb (length d) F) (ep c 0 d ∷ []) (ep c 1 (take F d) ∷ later (length d) F c (drop F d))

-- no other EP comes between them
unfoldable pub sp_bytes : ℕ → ℕ → List ℕ → List ℕ
sp_bytes F c d = flatten (pieces F c d)

-- ---- what an offer comes to: a refusal's number, or EP bytes to be queued

pub data Want : Type 0 where
  no : ℕ → Want
  put : List ℕ → Want

-- content 1 to 6
unfoldable pub known : ℕ → Bool
known c = leb 1 c && leb c 6

-- an SP of 0 to 131,072 bytes; 4: EP bytes needed > queue length − bytes queued
unfoldable pub want_ordinary : Sender → List ℕ → List ℕ → ℕ → List ℕ → Want
want_ordinary s low b c d =
    cond (not (lent s.setting (length low) (length b))) (no 1)
    (cond (not (known c)) (no 2)
    (cond (ltb 131072 (length d)) (no 3)
    (cond (ltb (s.setting.space - s.ordinary.len) (length (sp_bytes s.setting.piece c d))) (no 4)
    (put (sp_bytes s.setting.piece c d)))))

-- one complete EP, 7 + length ≤ P
unfoldable pub want_low : Sender → List ℕ → List ℕ → ℕ → List ℕ → Want
want_low s b ordinary c d =
    cond (not (lent s.setting (length b) (length ordinary))) (no 1)
    (cond (not (known c)) (no 2)
    (cond (ltb s.setting.payload (7 + length d)) (no 3)
    (cond (ltb (s.setting.lowspace - s.low.len) (length (ep c 0 d))) (no 4)
    (put (ep c 0 d)))))

-- ---- what it leaves: b is the buffer of the queue that the offer is for

abbrev pub put_ordinary : Sender → List ℕ → Want → Left
put_ordinary s b (no k) = refused k b
put_ordinary s b (put e) =
    record {
      given = done (record { setting = s.setting; low = s.low; ordinary = longer s.ordinary (length e); owed = s.owed; rest = s.rest });
      buffer = written b s.ordinary e;
    }

unfoldable pub ordinary_offered : Sender → List ℕ → List ℕ → ℕ → List ℕ → Left
ordinary_offered s low b c d = put_ordinary s b (want_ordinary s low b c d)

abbrev pub put_low : Sender → List ℕ → Want → Left
put_low s b (no k) = refused k b
put_low s b (put e) =
    record {
      given = done (record { setting = s.setting; low = longer s.low (length e); ordinary = s.ordinary; owed = s.owed; rest = s.rest });
      buffer = written b s.low e;
    }

unfoldable pub low_offered : Sender → List ℕ → List ℕ → ℕ → List ℕ → Left
low_offered s b ordinary c d = put_low s b (want_low s b ordinary c d)
