-- The words of the support desk's sentence (OnePacket): EPs read whole, one right behind the other, that make one packet.
-- Assumes nothing.
use mathlib.Core.Path.{◌≡◌}
use mathlib.Core.List.{List, [], ◌++◌, ◌∷◌}
use Prim.Native.Nat.{ℕ}
use lib.ListN.{length}
use Rattle.wire.specs.declared.Header.{Header}
use Rattle.receiver.specs.declared.Place.{Place}
use Rattle.receiver.specs.declared.kind.Kind.{Kind}
use Rattle.receiver.specs.declared.kind.Kind.TheVariants.{Complete, First, Last, Middle}
use Rattle.receiver.specs.Frame.{Event, closed, entered, fed, opened}
use Rattle.receiver.specs.Kind.{kind_of}
use Rattle.receiver.specs.Low.{ep_at, wire}
use Rattle.receiver.specs.Low as L

-- an EP: the place of its first byte, its header and its data
pub record Ep : Type 0 where
  pub at : Place
  pub header : Header
  pub bytes : List ℕ

abbrev pub head_of : Ep → L.Ep
head_of p = ep_at p.at p.header

abbrev pub feeds : List ℕ → List (Event wire)
feeds [] = []
feeds (b ∷ bs) = fed b ∷ feeds bs

-- what reading one EP in step, all of it, brings to light; and several, one right behind the other
abbrev pub read_ep : Ep → List (Event wire)
read_ep p = opened (head_of p) ∷ entered (head_of p) ∷ (feeds p.bytes ++ closed (head_of p) ∷ [])

abbrev pub read_eps : List Ep → List (Event wire)
read_eps [] = []
read_eps (p ∷ ps) = read_ep p ++ read_eps ps

abbrev pub bytes_of : List Ep → List ℕ
bytes_of [] = []
bytes_of (p ∷ ps) = p.bytes ++ bytes_of ps

-- a whole EP of this kind and content
pub record Is (k : Kind) (c : ℕ) (p : Ep) : Type 0 where
  pub kind : kind_of p.header ≡ k
  pub content : p.header.content ≡ c
  pub whole : length p.bytes ≡ p.header.size

-- a first, which begins at this place, then middles, of one content
pub data Begun (c : ℕ) (g : Place) : List Ep → Type 0 where
  first : {p : Ep} → Is First c p → p.at ≡ g → Begun c g (p ∷ [])
  middle : {ps : List Ep} {p : Ep} → Begun c g ps → Is Middle c p → Begun c g (ps ++ p ∷ [])

-- one EP, or one unbroken series; it begins at this place
pub data OnePacket (c : ℕ) (g : Place) : List Ep → Type 0 where
  complete : {p : Ep} → Is Complete c p → p.at ≡ g → OnePacket c g (p ∷ [])
  series : {ps : List Ep} {p : Ep} → Begun c g ps → Is Last c p → OnePacket c g (ps ++ p ∷ [])

-- the events so far end in the reading of these EPs, whose data are d
pub record Ends-in (es : List (Event wire)) (ps : List Ep) (d : List ℕ) : Type 0 where
  pub earlier : List (Event wire)
  pub read : es ≡ earlier ++ read_eps ps
  pub bytes : d ≡ bytes_of ps

-- these events end in the reading, with nothing between, of the EPs of one packet, the first of which begins at this place
abbrev pub PacketRead : ℕ → Place → List ℕ → List (Event wire) → Type 0
PacketRead c g d es = (ps : List Ep) × OnePacket c g ps × Ends-in es ps d
