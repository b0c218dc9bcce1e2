-- A receiver moved on with what it keeps asks for the same call, and so does a low-latency walk counted otherwise.
-- Assumes nothing.
use mathlib.Core.Path.{refl, ◌≡◌}
use mathlib.Core.List.{List}
use Prim.Native.Nat.{suc, zero, ℕ, ◌-◌, ◌<◌}
use native.Mathlib.Omega.{arith}
use lib.ListN.{drop, length}
use Rattle.std.specs.Prelude.{None, Option, Some}
use Rattle.receiver.specs.declared.Receiver.{Receiver}
use Rattle.receiver.specs.declared.Stamp.{Stamp}
use Rattle.receiver.specs.Pieces.{receiver_with}
use Rattle.receiver.specs.Place.{place_at, placed, start_of}
use Rattle.receiver.specs.declared.Stage.{Stage}
use Rattle.receiver.specs.declared.low.Lows.{Lows}
use Rattle.receiver.specs.declared.low.Lows.TheVariants as L
use Rattle.receiver.specs.declared.low.One.{One}
use Rattle.receiver.specs.declared.low.One.TheVariants as O
use Rattle.receiver.specs.declared.walk.Walk.{Walk}
use Rattle.receiver.specs.Call.{due_call, low_call, ordinary_by, ordinary_call, walk_to}
use Rattle.receiver.specs.Forecast.{dropped, outset}
use Rattle.receiver.specs.Join.{Finding, low, notice, ordinary}
use Rattle.receiver.specs.Low.{llep, wire}
use Rattle.receiver.specs.Lows.{and_then, lows, one_of}
use Rattle.receiver.specs.Pull.{Pulled}
use Rattle.receiver.specs.State.{frame_of, from}
use Rattle.receiver.proofs.Walking.{ahead_at}

-- the count of turns of a low-latency walk changes nothing

and_same : (x : One) (f g : ℕ → Lows) → ((i : ℕ) → x ≡ O.More i → f i ≡ g i) → and_then x f ≡ and_then x g
and_same (O.Stop r) f g e = refl
and_same (O.More i) f g e = e i refl

pub lows_free : (k k' : ℕ) (tp : List ℕ) (at : ℕ) → length tp - at < k → length tp - at < k' → lows k tp at ≡ lows k' tp at
unfolding lows
lows_free zero k' tp at a b = absurd (omega arith)
lows_free (suc k) zero tp at a b = absurd (omega arith)
lows_free (suc k) (suc k') tp at a b =
    and_same (one_of (llep (drop at tp)) at) (λ i. lows k tp i) (λ i. lows k' tp i)
    (λ i e. let o = ahead_at tp at i e in lows_free k k' tp i (omega arith) (omega arith))

-- a receiver moved on with what it keeps asks for the same

module _ (r : Receiver) (s : Stage) (w : Walk) where
  abbrev pub to : Receiver
  to = receiver_with r s w

  plain_same : (x : Option (Finding wire)) (t : Stamp) (p : Pulled wire) → ordinary_by x to t p ≡ ordinary_by x r t p
  plain_same None t p = refl
  plain_same (Some (notice n g)) t p = refl
  plain_same (Some (low c d)) t p = refl
  plain_same (Some (ordinary c d)) t p = refl

  pub ordinary_call_same : (t : Stamp) (p : Pulled wire) → ordinary_call to t p ≡ ordinary_call r t p
  ordinary_call_same t p = plain_same p.find t p

module _ (r : Receiver) (t : Stamp) (s : Stage) (at o : ℕ) (tp m : List ℕ) where
  abbrev pub on : Receiver
  on = to r s (walk_to r at)

  pub due_same : (i : ℕ) → due_call on t o i tp m ≡ due_call r t o i tp m
  unfolding due_call
  due_same i = ordinary_call_same r s (walk_to r at) t
      (from (length m) t (outset wire (start_of t) (frame_of r.walk.began r.walk.phase) o (i - 4) (placed t i (drop i tp))) (walk_to r i) tp m)

  pub low_same : (x : Lows) → low_call x on t o tp m ≡ low_call x r t o tp m
  low_same (L.Broken i) = ordinary_call_same r s (walk_to r at) t (from (length m) t (dropped wire 11 (place_at t i) (placed t i (drop i tp))) (walk_to r i) tp m)
  low_same (L.End i) = due_same i
  low_same (L.Gives f e b more i) = refl
