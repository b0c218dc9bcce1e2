-- The low-latency part by its places in the TP, up to the next find. Assumes nothing.
use Rattle.std.specs.Prelude.{ℕ, zero, suc, ◌+◌, Bool, cond, List, length, drop, None, Option, Some}
use Rattle.wire.specs.declared.Header.{Header}
use Rattle.receiver.specs.declared.Find.{Find}
use Rattle.receiver.specs.declared.Find.TheVariants as F
use Rattle.receiver.specs.declared.kind.Kind.{Kind}
use Rattle.receiver.specs.declared.kind.Kind.TheVariants as K
use Rattle.receiver.specs.declared.low.One.{One}
use Rattle.receiver.specs.declared.low.One.TheVariants.{Stop, More}
use Rattle.receiver.specs.declared.low.Lows.{Lows}
use Rattle.receiver.specs.declared.low.Lows.TheVariants.{Broken, End, Gives}
use Rattle.receiver.specs.Kind.{kind_of}
use Rattle.receiver.specs.Low.{llep}

abbrev pub gives : Find → ℕ → ℕ → Bool → ℕ → One
gives f repaired from more end = Stop (Gives f repaired from more end)

abbrev pub gone_by : Bool → ℕ → One
gone_by more end = cond more (More end) (Stop (End end))

-- what an LLEP at this place tells
abbrev pub told_of : Kind → Header → ℕ → Option Find
told_of K.Fill h at = None
told_of K.Complete h at = Some (F.Low h.content (at + 6) h.size)
told_of K.Reserved h at = Some (F.Notice 16)
told_of K.First h at = Some (F.Notice 16)
told_of K.Middle h at = Some (F.Notice 16)
told_of K.Last h at = Some (F.Notice 16)

-- the total that its find carries: "a packet handed out must carry the total repaired .., a notice 0"
abbrev pub repaired_of : Kind → Header → ℕ
repaired_of K.Fill h = 0
repaired_of K.Complete h = h.flips
repaired_of K.Reserved h = 0
repaired_of K.First h = 0
repaired_of K.Middle h = 0
repaired_of K.Last h = 0

abbrev pub passed_by : Option Find → ℕ → ℕ → Bool → ℕ → One
passed_by None repaired from more end = gone_by more end
passed_by (Some f) repaired from more end = gives f repaired from more end

abbrev pub passed_of : Kind → Header → Bool → ℕ → One
passed_of k h more at = passed_by (told_of k h at) (repaired_of k h) at more (at + 7 + h.size)

abbrev pub one_of : Option (Header × Bool) → ℕ → One
one_of None at = Stop (Broken at)
one_of (Some (h, more)) at = passed_of (kind_of h) h more at

abbrev pub and_then : One → (ℕ → Lows) → Lows
and_then (Stop r) on = r
and_then (More i) on = on i

unfoldable pub lows : ℕ → List ℕ → ℕ → Lows
lows zero tp at = Broken at
lows (suc k) tp at = and_then (one_of (llep (drop at tp)) at) (λ i. lows k tp i)

unfoldable pub lows_of : List ℕ → ℕ → Lows
unfolding lows
lows_of tp at = lows (suc (length tp)) tp at
