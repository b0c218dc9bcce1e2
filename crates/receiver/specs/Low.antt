-- The low-latency part, read as a list of bytes (document 01, "Layouts", "Receiver", and 11, 16; R-2).
-- Assumes nothing.
use Rattle.std.specs.Prelude.{ℕ, zero, suc, ◌+◌, min, refl, true, false, cond, List, [], ◌∷◌, ◌++◌, ltb, length, take, drop, get_or, Bool, None, Some, Option}
use Rattle.golay.specs.declared.End.{End}
use Rattle.golay.specs.declared.End.TheVariants.{Zeros, Ones, Neither}
use Rattle.golay.specs.Answers.{end_of, end_flips}
use Rattle.wire.specs.declared.Header.{Header}
use Rattle.wire.specs.Reading.{header_of}
use Rattle.receiver.specs.declared.kind.Kind.{Kind}
use Rattle.receiver.specs.declared.kind.Kind.TheVariants as K
use Rattle.receiver.specs.declared.Stamp.{Stamp}
use Rattle.receiver.specs.declared.Place.{Place}
use Rattle.receiver.specs.Kind.{kind_of}
use Rattle.receiver.specs.Place.{place_at}
use Rattle.receiver.specs.Frame.{Code}
use Rattle.receiver.specs.Join.{Finding, notice, low}

-- a header, and the place of its first byte
pub record Ep : Type 0 where
  pub at : Place
  pub header : Header

abbrev pub ep_at : Place → Header → Ep
ep_at p h = record { at = p; header = h }

-- a packet is known by its content, by "the total repaired in its EP headers (and end byte, if low-latency)", and by the "payload
-- place of its first EP byte"
pub record Tag : Type 0 where
  pub content : ℕ
  pub repaired : ℕ
  pub at : Place

abbrev pub tag_of : ℕ → ℕ → Place → Tag
tag_of c n p = record { content = c; repaired = n; at = p }

-- "A total stops at 4,294,967,295."
abbrev pub total_of : ℕ → ℕ → ℕ
total_of n flips = min (n + flips) 4294967295

abbrev pub begin_of : Ep → Tag
begin_of h = tag_of h.header.content h.header.flips h.at

abbrev pub join_of : Tag → Ep → Tag
join_of t h = tag_of t.content (total_of t.repaired h.header.flips) t.at

abbrev pub ep_if : Place → Option Header → Option Ep
ep_if p None = None
ep_if p (Some h) = Some (ep_at p h)

-- the header code of the wire, over bytes with their places, of which plain ones are kept
abbrev pub wire : Code
wire = record {
  B = Place × ℕ;
  K = ℕ;
  S = Place;
  H = Ep;
  T = Tag;
  keep = λ b. b.1;
  mark = λ b. b.0;
  decode = λ p bs. ep_if p (header_of bs);
  size = λ (h : Ep). h.header.size;
  kind = λ (h : Ep). kind_of h.header;
  content = λ (h : Ep). h.header.content;
  place = λ (h : Ep). h.at;
  begin = begin_of;
  join = join_of;
  sort = λ (t : Tag). t.content;
  begin_sort = λ h. refl;
  join_sort = λ t h. refl;
}

-- "each LLEP followed by its end byte, FF if another follows, else 00"
abbrev pub ended : End → Header → Option (Header × Bool)
ended Zeros h = Some (h, false)
ended Ones h = Some (h, true)
ended Neither h = None

-- the header, with the flips of this end byte counted in
abbrev pub counting : ℕ → Header → Header
counting b h = record { content = h.content; fragment = h.fragment; size = h.size; flips = h.flips + end_flips b }

abbrev pub ends_by : ℕ → Header → Option (Header × Bool)
ends_by b h = ended (end_of b) (counting b h)

unfoldable pub sized : Header → List ℕ → Option (Header × Bool)
sized h bs = cond (ltb (length bs) (7 + h.size)) None (ends_by (get_or bs (6 + h.size) 0) h)

abbrev pub begins : Option Header → List ℕ → Option (Header × Bool)
begins None bs = None
begins (Some h) bs = sized h bs

-- the LLEP that bytes begin with. 11: "fewer than 7 bytes left, header beyond repair, it and its end byte pass P, or end
-- byte beyond repair"
unfoldable pub llep : List ℕ → Option (Header × Bool)
unfolding sized
llep bs = cond (ltb (length bs) 7) None (begins (header_of (take 6 bs)) bs)

-- 16: "an LLEP with a fragment flag not 0 (fill excepted)", or with content 7 to 15; fill is passed over
abbrev pub given : Kind → Place → Header → List ℕ → List (Finding wire)
given K.Fill p h bs = []
given K.Complete p h bs = low (begin_of (ep_at p h)) (take h.size (drop 6 bs)) ∷ []
given K.Reserved p h bs = notice 16 p ∷ []
given K.First p h bs = notice 16 p ∷ []
given K.Middle p h bs = notice 16 p ∷ []
given K.Last p h bs = notice 16 p ∷ []

-- the finds of a low-latency part, and the bytes behind it, none if it breaks; and which of the TP's bytes is the first
-- behind it, or of the LLEP that breaks
pub record Part : Type 0 where
  pub finds : List (Finding wire)
  pub behind : Option (List ℕ)
  pub from : ℕ

abbrev pub ahead : List (Finding wire) → Part → Part
ahead fs p = record { finds = fs ++ p.finds; behind = p.behind; from = p.from }

abbrev pub walked : Option (Header × Bool) → Stamp → ℕ → List ℕ → (ℕ → List ℕ → Part) → Part
walked None t i bs on = record { finds = []; behind = None; from = i }
walked (Some (h, more)) t i bs on =
    ahead (given (kind_of h) (place_at t i) h bs)
    (cond more (on (i + 7 + h.size) (drop (7 + h.size) bs)) (record { finds = []; behind = Some (drop (7 + h.size) bs); from = i + 7 + h.size }))

-- "The walk over the low-latency part stops at the first 00 end byte or the first broken LLEP."
unfoldable pub walk : ℕ → Stamp → ℕ → List ℕ → Part
walk zero t i bs = record { finds = []; behind = None; from = i }
walk (suc k) t i bs = walked (llep bs) t i bs (λ j rest. walk k t j rest)

-- no LLEP is shorter than its end byte, so a walk takes no more turns than there are bytes
unfoldable pub low_part : Stamp → ℕ → List ℕ → Part
unfolding walk
low_part t i bs = walk (suc (length bs)) t i bs
