-- A FIND'S STRETCH LIES WITHIN what was lent: of the TP if low-latency, of the room if ordinary. Assumes nothing.
use mathlib.Core.Path.{ap, subst, sym, ◌≡◌}
use mathlib.Core.List.{List}
use Prim.Native.Nat.{ℕ, ◌+◌, ◌≤◌}
use native.Mathlib.Omega.{arith}
use lib.ListN.{length, length-take}
use Rattle.receiver.specs.declared.Find.{Find}
use Rattle.receiver.specs.declared.Receiver.{Receiver}
use Rattle.receiver.specs.declared.Step.{Step}
use Rattle.receiver.specs.Call.{Gave, Gives, Said, call_of, data_of, stepped}
use Rattle.receiver.specs.Forecast.{start}
use Rattle.receiver.proofs.Ending.{Within, call_tells}
use Rattle.receiver.specs.declared.Find.TheVariants as F

abbrev pub LiesIn : List ℕ → List ℕ → Find → Type 0
LiesIn tp m F.Nothing = 0 ≤ 0
LiesIn tp m F.Refused = 0 ≤ 0
LiesIn tp m (F.Notice n) = 0 ≤ 0
LiesIn tp m (F.Low c start n) = start + n ≤ length tp
LiesIn tp m (F.Ordinary c n) = n ≤ length m

by_find : (f : Find) (tp m : List ℕ) → Within tp f (data_of f tp m) → LiesIn tp m f
by_find F.Nothing tp m w = omega arith
by_find F.Refused tp m w = omega arith
by_find (F.Notice n) tp m w = omega arith
by_find (F.Low c start n) tp m w = w
by_find (F.Ordinary c n) tp m w = omega (arith, length-take n m)

pub in_bounds : (r : Receiver) (tp m : List ℕ) (q : Step) (m' : List ℕ) → Gives (call_of r tp m) q tp m' → length m ≡ r.limit → length tp ≡ r.size
    → LiesIn tp m' q.find
unfolding stepped
in_bounds r tp m q m' g f w =
    let t = (call_tells r tp m f w).within in
    by_find q.find tp m' (subst (λ (s : Said). Within tp s.find s.bytes) (sym (ap (λ (g : Gave). g.said) g.same)) t)
