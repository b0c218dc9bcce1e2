-- A receiver as words that anyone may keep, and the receiver whose words these are, if it can be called: the library for C keeps its
-- states so. Assumes nothing.
use Rattle.std.specs.Prelude.{ℕ, ◌+◌, ◌%◌, ◌^◌, ◌≤◌, ◌<◌, Bool, true, false, cond, ◌&&◌, ◌||◌, List, [], ◌∷◌, leb, ltb, eqb, get_or, None, Option, Some}
use Rattle.wire.specs.declared.Header.{Header}
use Rattle.receiver.specs.State.{Able, kept_by}
use Rattle.receiver.specs.declared.Place.{Place}
use Rattle.receiver.specs.declared.Receiver.{Receiver}
use Rattle.receiver.specs.declared.Stage.{Stage}
use Rattle.receiver.specs.declared.Stage.TheVariants.{Fresh, Low, Due, Plain}
use Rattle.receiver.specs.declared.walk.Phase.{Phase}
use Rattle.receiver.specs.declared.walk.Phase.TheVariants.{Lost, Head, Judged, Body}
use Rattle.receiver.specs.declared.walk.Kept.{Kept}

-- ---- words of a receiver

-- sort, offset
abbrev pub stage_words : Stage → List ℕ
stage_words Fresh = 0 ∷ 0 ∷ []
stage_words (Low o) = 1 ∷ o ∷ []
stage_words (Due o) = 2 ∷ o ∷ []
stage_words Plain = 3 ∷ 0 ∷ []

abbrev pub place_words : Place → List ℕ
place_words g = g.stamp.number ∷ g.stamp.byte ∷ g.at ∷ []

abbrev pub header_words : ℕ → Header → ℕ → Place → List ℕ
header_words sort h left g = sort ∷ h.content ∷ h.fragment ∷ h.size ∷ h.flips ∷ left ∷ place_words g

-- of no byte of a header nobody looks where it began
unfoldable pub head_words : ℕ → ℕ → Place → List ℕ
head_words n w g = cond (eqb n 0) (1 ∷ 0 ∷ w ∷ 0 ∷ 0 ∷ 0 ∷ 0 ∷ 0 ∷ 0 ∷ []) (1 ∷ n ∷ w ∷ 0 ∷ 0 ∷ 0 ∷ place_words g)

-- sort; bytes of a header and their number, or a header and the bytes left; where it began
abbrev pub phase_words : Phase → Place → List ℕ
phase_words Lost g = 0 ∷ 0 ∷ 0 ∷ 0 ∷ 0 ∷ 0 ∷ 0 ∷ 0 ∷ 0 ∷ []
phase_words (Head n w) g = head_words n w g
phase_words (Judged h) g = header_words 2 h 0 g
phase_words (Body h n) g = header_words 3 h n g

-- sort, content, repaired, length, where it began
abbrev pub kept_words : Option Kept → List ℕ
kept_words None = 0 ∷ 0 ∷ 0 ∷ 0 ∷ 0 ∷ 0 ∷ 0 ∷ []
kept_words (Some k) = 1 ∷ k.content ∷ k.repaired ∷ k.len ∷ place_words k.began

-- size, stream, limit, count, place; then stage, phase and what is kept
abbrev pub joined : ℕ → ℕ → ℕ → ℕ → ℕ → List ℕ → List ℕ → List ℕ → List ℕ
joined size stream limit count at s p k =
    size ∷ stream ∷ limit ∷ count ∷ at ∷ get_or s 0 0 ∷ get_or s 1 0 ∷ get_or p 0 0 ∷ get_or p 1 0 ∷ get_or p 2 0 ∷ get_or p 3 0 ∷ get_or p 4 0 ∷ get_or p 5 0 ∷ get_or p 6 0 ∷ get_or p 7 0 ∷ get_or p 8 0 ∷ get_or k 0 0 ∷ get_or k 1 0 ∷ get_or k 2 0 ∷ get_or k 3 0 ∷ get_or k 4 0 ∷ get_or k 5 0 ∷ get_or k 6 0 ∷ []

-- THE WORDS OF A RECEIVER
unfoldable pub words_of : Receiver → List ℕ
unfolding head_words
words_of r =
    joined r.size r.stream r.limit r.count r.walk.at (stage_words r.stage) (phase_words r.walk.phase r.walk.began) (kept_words r.walk.kept)

-- ---- and back: words that a sort doesn't need are not looked at, and of a byte's word only the byte

unfoldable pub stage_in : ℕ → ℕ → Stage
stage_in sort o = cond (eqb sort 0) Fresh (cond (eqb sort 1) (Low o) (cond (eqb sort 2) (Due o) Plain))

abbrev pub header_from : ℕ → ℕ → ℕ → ℕ → Header
header_from a b c d = record { content = a % 256; fragment = b % 256; size = c; flips = d % 256 }

unfoldable pub phase_in : ℕ → ℕ → ℕ → ℕ → ℕ → ℕ → Phase
phase_in sort a b c d left =
    cond (eqb sort 0) Lost (cond (eqb sort 1) (Head a b) (cond (eqb sort 2) (Judged (header_from a b c d)) (Body (header_from a b c d) left)))

abbrev pub place_in : ℕ → ℕ → ℕ → Place
place_in n b at = record { stamp = record { number = n; byte = b }; at = at }

unfoldable pub kept_in : ℕ → ℕ → ℕ → ℕ → Place → Option Kept
kept_in sort c e n g = cond (eqb sort 0) None (kept_by (c % 256) e g n)

unfoldable pub receiver_in : List ℕ → Receiver
receiver_in ws = record {
  size = get_or ws 0 0;
  stream = get_or ws 1 0 % 256;
  limit = get_or ws 2 0;
  count = get_or ws 3 0;
  stage = stage_in (get_or ws 5 0) (get_or ws 6 0);
  walk = record {
    at = get_or ws 4 0;
    phase = phase_in (get_or ws 7 0) (get_or ws 8 0) (get_or ws 9 0) (get_or ws 10 0) (get_or ws 11 0) (get_or ws 12 0);
    began = place_in (get_or ws 13 0) (get_or ws 14 0) (get_or ws 15 0);
    kept = kept_in (get_or ws 16 0) (get_or ws 17 0) (get_or ws 18 0) (get_or ws 19 0) (place_in (get_or ws 20 0) (get_or ws 21 0) (get_or ws 22 0));
  };
}

-- ---- tests: the limits of an opening, and what a call asks (`Able` of State)

unfoldable pub openedb : ℕ → ℕ → ℕ → ℕ → Bool
openedb size stream limit at = leb 16 size && (leb size 2051 && (leb stream 15 && (leb limit 131072 && leb at size)))

abbrev pub begunb : ℕ → ℕ → Bool
begunb o at = leb o 2047 && leb 4 at

unfoldable pub stagedb : ℕ → ℕ → ℕ → Bool
stagedb sort o at = cond (eqb sort 0) true (cond (eqb sort 1) (begunb o at) (cond (eqb sort 2) (begunb o at) (eqb sort 3)))

-- with n more bytes what is kept stays in the room
unfoldable pub roomyb : ℕ → ℕ → ℕ → ℕ → Bool
roomyb cap sort len n = cond (eqb sort 0) true (cond (eqb sort 1) (leb (len + n) cap) false)

-- above every number of so many bytes, fewer than a header's
unfoldable pub below : ℕ → ℕ
below n = cond (leb n 5) (256 ^ n) 0

-- a header judged, or an EP with no byte left, only among ordinary bytes (stage 3)
unfoldable pub phasedb : ℕ → ℕ → ℕ → ℕ → ℕ → Bool
phasedb stage sort a b left =
    cond (eqb sort 0) true (cond (eqb sort 1) (ltb b (below a)) (cond (eqb sort 2) (eqb stage 3) (cond (eqb sort 3) (eqb stage 3 || ltb 0 left) false)))

-- the bytes that an EP under way still brings
unfoldable pub left_in : ℕ → ℕ → ℕ
left_in sort left = cond (eqb sort 0) 0 (cond (eqb sort 1) 0 (cond (eqb sort 2) 0 left))

unfoldable pub fitb : List ℕ → Bool
fitb ws =
    openedb (get_or ws 0 0) (get_or ws 1 0) (get_or ws 2 0) (get_or ws 4 0) && (stagedb (get_or ws 5 0) (get_or ws 6 0) (get_or ws 4 0) && (phasedb (get_or ws 5 0) (get_or ws 7 0) (get_or ws 8 0) (get_or ws 9 0) (get_or ws 12 0) && roomyb (get_or ws 2 0) (get_or ws 16 0) (get_or ws 19 0) (left_in (get_or ws 7 0) (get_or ws 12 0))))

-- out of step, between two EPs or in a header
unfoldable pub datalessb : ℕ → ℕ → ℕ → Bool
datalessb sort have word = cond (eqb sort 1) (ltb word (below have)) (eqb sort 0)

-- so, and with nothing kept: such words fit
unfoldable pub bareb : List ℕ → Bool
bareb ws =
    eqb (get_or ws 16 0) 0 && (datalessb (get_or ws 7 0) (get_or ws 8 0) (get_or ws 9 0) && (stagedb (get_or ws 5 0) (get_or ws 6 0) (get_or ws 4 0) && openedb (get_or ws 0 0) (get_or ws 1 0) (get_or ws 2 0) (get_or ws 4 0)))

-- THE RECEIVER OF WORDS: refused where it couldn't be called, or is outside an opening's limits
unfoldable pub of_words : List ℕ → Option Receiver
of_words ws = cond (fitb ws) (Some (receiver_in ws)) None

-- ---- what the laws say (proofs/Worded.antt)

-- within the limits of an opening
pub record Opens (r : Receiver) : Type 0 where
  pub size : r.size ≤ 2051
  pub stream : r.stream ≤ 15
  pub limit : r.limit ≤ 131072

-- contents, fragments and flips are bytes
abbrev pub HeaderBytes : Header → Type 0
HeaderBytes h = (h.content < 256) × (h.fragment < 256) × (h.flips < 256)

abbrev pub PhaseBytes : Phase → Type 0
PhaseBytes Lost = 0 ≤ 0
PhaseBytes (Head n w) = 0 ≤ 0
PhaseBytes (Judged h) = HeaderBytes h
PhaseBytes (Body h n) = HeaderBytes h

abbrev pub KeptBytes : Option Kept → Type 0
KeptBytes None = 0 ≤ 0
KeptBytes (Some k) = k.content < 256

pub record Bytes (r : Receiver) : Type 0 where
  pub phase : PhaseBytes r.walk.phase
  pub kept : KeptBytes r.walk.kept

-- it can be called, and is within the limits of an opening
pub record Fit (r : Receiver) : Type 0 where
  pub able : Able r
  pub opens : Opens r
  pub bytes : Bytes r

abbrev pub FitIf : Option Receiver → Type 0
FitIf None = 0 ≤ 0
FitIf (Some r) = Fit r
