-- What the private functions of src/stride.rt promise one another: a stride carries the call on that reading asks for, or ends
-- it, as the turns do that it stands for. Assumes nothing.
use Rattle.std.specs.Prelude.{ℕ, ◌+◌, ◌-◌, ◌≤◌, ◌≡◌, List, length, take, drop, None, Option, Some}
use Rattle.digits.specs.Digits.{number}
use Rattle.wire.specs.declared.Header.{Header}
use Rattle.wire.specs.Reading.{header_in}
use Rattle.receiver.specs.declared.Place.{Place}
use Rattle.receiver.specs.declared.Stamp.{Stamp}
use Rattle.receiver.specs.declared.kind.Kind.{Kind}
use Rattle.receiver.specs.declared.kind.Kind.TheVariants.{Fill, Complete, Middle}
use Rattle.receiver.specs.declared.walk.Kept.{Kept}
use Rattle.receiver.specs.declared.walk.Phase.TheVariants.{Head}
use Rattle.receiver.specs.declared.walk.Turn.{Turn}
use Rattle.receiver.specs.declared.walk.Turn.TheVariants.{More, Stop}
use Rattle.receiver.specs.declared.walk.Walk.{Walk}
use Rattle.receiver.specs.Kind.{kind_of}
use Rattle.receiver.specs.State.{pull_of, Sound, kept_by}
use Rattle.receiver.specs.Turns.{toil, walk_at}
use Rattle.receiver.specs.InWalk.{Ends}

-- between two EPs
abbrev pub between : ℕ → Place → Option Kept → Walk
between at g k = walk_at at (Head 0 0) g k

-- six bytes stand there, with this header
pub record Stands (tp : List ℕ) (at : ℕ) (h : Header) : Type 0 where
  pub six : 6 ≤ length tp - at
  pub read : header_in (number 0 (take 6 (drop at tp))) ≡ Some h

-- of two intact words
abbrev pub HeaderAt : List ℕ → ℕ → Option Header → Type 0
HeaderAt tp at None = 0 ≤ 0
HeaderAt tp at (Some h) = Stands tp at h × (h.flips ≡ 0)

-- an EP of this kind stands there
pub record EpAt (d : Kind) (tp : List ℕ) (at : ℕ) (h : Header) : Type 0 where
  pub stands : Stands tp at h
  pub kind : kind_of h ≡ d

-- fill, whole
abbrev pub FillAt : List ℕ → ℕ → Option Header → Type 0
FillAt tp at None = 0 ≤ 0
FillAt tp at (Some h) = EpAt Fill tp at h × (6 + h.size ≤ length tp - at)

-- a middle of this content and of at most so many data, whole
abbrev pub MiddleAt : List ℕ → ℕ → ℕ → ℕ → Option Header → Type 0
MiddleAt tp at c most None = 0 ≤ 0
MiddleAt tp at c most (Some h) = EpAt Middle tp at h × (h.content ≡ c) × (h.size ≤ most) × (6 + h.size ≤ length tp - at) × (h.flips ≡ 0)

-- a complete EP of at most so many data
abbrev pub CompleteAt : List ℕ → ℕ → ℕ → Option Header → Type 0
CompleteAt tp at most None = 0 ≤ 0
CompleteAt tp at most (Some h) = EpAt Complete tp at h × (h.size ≤ most)

-- from a to b with nothing kept
pub record Skips (tp : List ℕ) (a b : ℕ) : Type 0 where
  pub on : a ≤ b
  pub within : b ≤ length tp
  pub same : (cap : ℕ) (t : Stamp) (g : Place) (m : List ℕ) → length m ≡ cap → pull_of cap t (between b g None) tp m ≡ pull_of cap t (between a g None) tp m

-- from a to b, while the packet of this content grows from n bytes of the room m to l bytes of m'; no total passes its most
pub record Joins (cap : ℕ) (tp : List ℕ) (c a n : ℕ) (m : List ℕ) (b l : ℕ) (m' : List ℕ) : Type 0 where
  pub on : a ≤ b
  pub within : b ≤ length tp
  pub roomy : l ≤ cap
  pub same : (t : Stamp) (g : Place) (e : ℕ) (p : Place) → e ≤ 4294967295 → pull_of cap t (between b g (kept_by c e p l)) tp m' ≡ pull_of cap t (between a g (kept_by c e p n)) tp m

-- strides that lead on: from w with the room's bytes m to x with those of m'
pub record Reaches (cap : ℕ) (t : Stamp) (w : Walk) (tp m : List ℕ) (x : Walk) (m' : List ℕ) : Type 0 where
  pub same : pull_of cap t x tp m' ≡ pull_of cap t w tp m
  pub sound : Sound cap (length tp) x
  pub less : toil (length tp) x ≤ toil (length tp) w

unfoldable pub Strides : ℕ → Stamp → Walk → List ℕ → List ℕ → Turn → List ℕ → Type 0
Strides cap t w tp m (More x) m' = Reaches cap t w tp m x m'
Strides cap t w tp m (Stop a) m' = Ends cap t w tp m a m'
