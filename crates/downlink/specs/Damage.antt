-- What a run of the sender put on the link, and the damage that demand 3 allows. Assumes nothing.
use Rattle.std.specs.Prelude.{◌≡◌, cond, List, [], ◌∷◌, ◌++◌, ℕ, ◌+◌, ◌≤◌, ◌<◌, length, take, drop, get_or}
use Rattle.digits.specs.Digits.{number}
use Rattle.golay.specs.Golay.{distance, byte_distance}
use Rattle.sender.specs.Offering.{pieces}
use Rattle.sender.specs.Drawing.{present, part}
use Rattle.sender.specs.Run.{Tp, Deed, refused, took, took_low, drew}

-- ---- what the ordinary bytes are made of, in order

-- a fill EP; an accepted ordinary packet of this content and data, and its EPs
pub data Item : Type 0 where
  filler : List ℕ → Item
  packet : ℕ → List ℕ → List (List ℕ) → Item

abbrev pub fillers : List ℕ → List Item
fillers [] = []
fillers (b ∷ e) = filler (b ∷ e) ∷ []

-- with fragment size F
abbrev pub items : ℕ → List Deed → List Item
items F [] = []
items F (refused ∷ ds) = items F ds
items F (took c d ∷ ds) = packet c d (pieces F c d) ∷ items F ds
items F (took_low c d ∷ ds) = items F ds
items F (drew t ∷ ds) = fillers t.fill ++ items F ds

abbrev pub eps : Item → List (List ℕ)
eps (filler e) = e ∷ []
eps (packet c d es) = es

abbrev pub all_eps : List Item → List (List ℕ)
all_eps [] = []
all_eps (i ∷ is) = eps i ++ all_eps is

-- the TPs as they were drawn
abbrev pub drawn : List Tp → List (List ℕ)
drawn [] = []
drawn (t ∷ ts) = t.bytes ∷ drawn ts

-- of what stands at the places of a TP's bytes, that of its ordinary bytes: behind its low-latency part
abbrev pub behind_lows : {A : Type 0} → Tp → List A → List A
behind_lows t xs = drop (4 + length (part t.lleps)) xs

-- and of TPs, end to end
abbrev pub ordinary_of : {A : Type 0} → List Tp → List (List A) → List A
ordinary_of [] rs = []
ordinary_of (t ∷ ts) [] = []
ordinary_of (t ∷ ts) (r ∷ rs) = behind_lows t r ++ ordinary_of ts rs

-- ---- the damage

abbrev pub Bytes : List ℕ → Type 0
Bytes bs = (i : ℕ) → get_or bs i 0 < 256

-- "at most three flipped bits in each Golay word": three bytes, sent and got
abbrev pub Near : List ℕ → List ℕ → Type 0
Near sent got = Bytes got × (distance (number 0 got) (number 0 sent) ≤ 3)

-- "and in each low-latency end byte"
abbrev pub NearEnd : ℕ → ℕ → Type 0
NearEnd sent got = (got < 256) × (byte_distance got sent ≤ 3)

-- the two words of the header of the EP e; behind it anything
abbrev pub HeadNear : List ℕ → List ℕ → Type 0
HeadNear e got = Near (take 3 e) (take 3 got) × Near (take 3 (drop 3 e)) (take 3 (drop 3 got))

-- EPs laid end to end
abbrev pub EpsNear : List (List ℕ) → List ℕ → Type 0
EpsNear [] got = Unit {0}
EpsNear (e ∷ es) got = HeadNear e got × EpsNear es (drop (length e) got)

-- LLEPs, each with its end byte
abbrev pub LlepsNear : List (List ℕ) → List ℕ → Type 0
LlepsNear [] got = Unit {0}
LlepsNear (e ∷ es) got =
    HeadNear e got × NearEnd (cond (present es) 0xFF 0x00) (get_or got (length e) 0) × LlepsNear es (drop (1 + length e) got)

-- a TP but for its ordinary bytes: length and stream byte intact, its word, its low-latency part
abbrev pub TpNear : Tp → List ℕ → Type 0
TpNear t got =
    (length got ≡ length t.bytes) × (get_or got 0 0 ≡ get_or t.bytes 0 0)
    × Near (take 3 (drop 1 t.bytes)) (take 3 (drop 1 got)) × LlepsNear t.lleps (drop 4 got)

abbrev pub TpsNear : List Tp → List (List ℕ) → Type 0
TpsNear [] [] = Unit {0}
TpsNear [] (r ∷ rs) = ⊥
TpsNear (t ∷ ts) [] = ⊥
TpsNear (t ∷ ts) (r ∷ rs) = TpNear t r × TpsNear ts rs

-- THE DAMAGE: rs arrived for the TPs ts, whose ordinary bytes are the EPs es but for these, still to be drawn.
-- Over the ordinary bytes end to end, a word that a TP end cuts is one word.
pub record Damaged (ts : List Tp) (es : List (List ℕ)) (undrawn : List ℕ) (rs : List (List ℕ)) : Type 0 where
  pub tps : TpsNear ts rs
  pub eps : EpsNear es (ordinary_of ts rs ++ undrawn)
