-- The low-latency part, read as a list of bytes (document 01, "Layouts", "Receiver", and 11, 16; R-2).
-- Assumes nothing.
use Prim.Native.Nat.{ℕ, zero, suc, ◌+◌}
use mathlib.Core.Path.{refl}
use mathlib.Core.Bool.{Bool, cond}
use mathlib.Core.List.{List, [], ◌∷◌, ◌++◌}
use lib.ListN.{length, take, drop}
use Rattle.std.specs.Prelude.{Option, None, Some}
use Rattle.wire.specs.declared.Header.{Header}
use Rattle.wire.specs.Reading.{header_of}
use Rattle.receiver.specs.declared.kind.Kind.{Kind}
use Rattle.receiver.specs.declared.kind.Kind.TheVariants as K
use Rattle.receiver.specs.Kind.{kind_of}
use Rattle.receiver.specs.Low.{llep, total_of}
use Rattle.downlink.proofs.plain.Frame.{Code}
use Rattle.downlink.proofs.plain.Join.{Finding, notice, low}

-- a packet is known by its content and by "the total repaired in its EP headers (and end byte, if low-latency)"
pub record Tag : Type 0 where
  pub content : ℕ
  pub repaired : ℕ

abbrev pub tag_of : ℕ → ℕ → Tag
tag_of c n = record { content = c; repaired = n }

abbrev pub begin_of : Header → Tag
begin_of h = tag_of h.content h.flips

abbrev pub join_of : Tag → Header → Tag
join_of t h = tag_of t.content (total_of t.repaired h.flips)

-- the header code of the wire, over plain bytes
abbrev pub wire : Code
wire = record {
  B = ℕ;
  H = Header;
  T = Tag;
  decode = header_of;
  size = λ (h : Header). h.size;
  kind = kind_of;
  content = λ (h : Header). h.content;
  begin = begin_of;
  join = join_of;
  sort = λ (t : Tag). t.content;
  begin_sort = λ h. refl;
  join_sort = λ t h. refl;
}

-- 16: "an LLEP with a fragment flag not 0 (fill excepted)", or with content 7 to 15; fill is passed over
abbrev pub given : Kind → Header → List ℕ → List (Finding wire)
given K.Fill h bs = []
given K.Complete h bs = low (begin_of h) (take h.size (drop 6 bs)) ∷ []
given K.Reserved h bs = notice 16 ∷ []
given K.First h bs = notice 16 ∷ []
given K.Middle h bs = notice 16 ∷ []
given K.Last h bs = notice 16 ∷ []

-- the finds of a low-latency part, and the bytes behind it; none if it breaks
pub record Part : Type 0 where
  pub finds : List (Finding wire)
  pub behind : Option (List ℕ)

abbrev pub ahead : List (Finding wire) → Part → Part
ahead fs p = record { finds = fs ++ p.finds; behind = p.behind }

abbrev pub walked : Option (Header × Bool) → List ℕ → (List ℕ → Part) → Part
walked None bs on = record { finds = []; behind = None }
walked (Some (h, more)) bs on =
    ahead (given (kind_of h) h bs) (cond more (on (drop (7 + h.size) bs)) (record { finds = []; behind = Some (drop (7 + h.size) bs) }))

-- "The walk over the low-latency part stops at the first 00 end byte or the first broken LLEP."
unfoldable pub walk : ℕ → List ℕ → Part
walk zero bs = record { finds = []; behind = None }
walk (suc k) bs = walked (llep bs) bs (λ rest. walk k rest)

-- no LLEP is shorter than its end byte, so a walk takes no more turns than there are bytes
unfoldable pub low_part : List ℕ → Part
unfolding walk
low_part bs = walk (suc (length bs)) bs
