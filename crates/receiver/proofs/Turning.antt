-- What the parts do to the state by value is what the call asks for.
use mathlib.Core.Path.{ap, refl, sym, ◌∙◌, ◌≡◌}
use mathlib.Core.Bool.{Bool, cond, false, true}
use mathlib.Core.List.{List, [], ◌∷◌}
use Prim.Native.Nat.{ℕ, ◌*◌, ◌+◌, ◌-◌, ◌<◌, ◌≤◌}
use native.Mathlib.Omega.{arith}
use lib.Dec.{leb}
use lib.ListN.{drop, length, take}
use lib.Seq.{length-take-le}
use borrow.Author.Tests.{le-leb, leb-false, leb-true, lt-leb}
use Rattle.std.specs.Prelude.{None, Option, Some}
use Rattle.wire.specs.declared.Header.{Header}
use Rattle.receiver.specs.declared.kind.Kind.{Kind}
use Rattle.receiver.specs.declared.kind.Kind.TheVariants.{Complete, Fill, First, Last, Middle, Reserved}
use Rattle.receiver.specs.declared.walk.Gain.TheVariants.{Notice}
use Rattle.receiver.specs.declared.walk.Kept.{Kept}
use Rattle.receiver.specs.declared.walk.Phase.{Phase}
use Rattle.receiver.specs.declared.walk.Phase.TheVariants.{Body, Head, Judged}
use Rattle.receiver.specs.declared.walk.Walk.{Walk}
use Rattle.receiver.specs.Frame.{Event, Frame, ending, entered, idle, whole, within}
use Rattle.receiver.specs.Join.{Took, admit, broken, finish, fits, free, further, goes_on, handed, held, meets, notice}
use Rattle.receiver.specs.Kind.{kind_of}
use Rattle.receiver.specs.declared.Place.{Place}
use Rattle.receiver.specs.declared.Stamp.{Stamp}
use Rattle.receiver.specs.Place.{placed}
use Rattle.receiver.specs.Low.{begin_of, Ep, ep_at, ep_if, join_of, Tag, tag_of, wire}
use Rattle.receiver.specs.Pull.{Pulled, meet, met, pull}
use Rattle.receiver.specs.State.{Roomy, Sound, held_of, pull_of}
use Rattle.receiver.specs.Turns.{admit_of, empty_of, finish_of, fits_of, further_of, goes, handed_of, holds_of, kept_as, meets_of, opened_of, stops, toil, walk_at, whole_of}
use Rattle.receiver.specs.InWalk.{Carries, shown}
use Rattle.receiver.proofs.Heading.{on_with}

broken_law : (m : List ℕ) (h : Ep) (k : Option Kept) → broken wire h (held_of k m) ≡ cond (empty_of k) (held_of k m, None) (free, Some (notice 14 h.at))
broken_law m h None = refl
broken_law m h (Some k) = refl

goes_law : (m : List ℕ) (h : Ep) (k : Option Kept) → goes_on wire h (held_of k m) ≡ cond (holds_of k h.header.content) (held_of k m, None) (free, Some (notice 14 h.at))
goes_law m h None = refl
goes_law m h (Some k) = refl

pub meets_law : (m : List ℕ) (d : Kind) (h : Ep) (k : Option Kept)
    → meets wire d h (held_of k m) ≡ cond (meets_of d k h.header.content) (held_of k m, None) (free, Some (notice 14 h.at))
meets_law m Fill h k = broken_law m h k
meets_law m Reserved h k = broken_law m h k
meets_law m Complete h k = broken_law m h k
meets_law m First h k = broken_law m h k
meets_law m Middle h k = goes_law m h k
meets_law m Last h k = goes_law m h k

module _ (cap : ℕ) (t : Stamp) (tp m : List ℕ) (full : length m ≡ cap) where
  -- an event that came to T, and on_with these
  abbrev came : ℕ → Frame wire → List (Event wire) → Took wire → Pulled wire
  came j f es T = pull wire cap f j (met wire T.1 T.0 m es (meet wire cap T.0 m es)) (placed t j (drop j tp))

  fits_by : (b : Bool) (w : Walk) (j : ℕ) (h : Header) (g : Place) (c : Tag) (n : ℕ) (d : List ℕ) → d ≡ take n m → j ≤ length tp → n ≤ cap
      → 3 * (length tp - j) + 1 < toil (length tp) w
      → came j (within wire (ep_at g h) h.size) (ending wire (ep_at g h) h.size) (fits wire cap (ep_at g h) c d) ≡ pull_of cap t w tp m
      → leb h.size (cap - n) ≡ b
      → Carries cap t w tp m (cond b (goes j (Body h h.size) g (kept_as c n)) (stops j (Body h h.size) g None (Notice 15))) m
  unfolding Carries pull_of shown
  fits_by true w j h g c n d x l r u e q =
      let y : length d ≡ n = ap length x ∙ length-take-le n m (omega arith) in
      let z : leb (length d + h.size) cap ≡ true = le-leb (length d + h.size) cap (omega (arith, leb-true h.size (cap - n) q)) in
      let v : fits wire cap (ep_at g h) c d ≡ (held c d, None) = rw z in
      record {
        same = sym (ap (λ (d : List ℕ). came j (within wire (ep_at g h) h.size) (ending wire (ep_at g h) h.size) (held c d, None)) x) ∙ sym (ap (came j (within wire (ep_at g h) h.size) (ending wire (ep_at g h) h.size)) v) ∙ e;
        sound = record { at = l; phase = omega (arith, leb-true h.size (cap - n) q) };
        less = u;
      }
  fits_by false w j h g c n d x l r u e q =
      let y : length d ≡ n = ap length x ∙ length-take-le n m (omega arith) in
      let z : leb (length d + h.size) cap ≡ false = lt-leb (length d + h.size) cap (omega (arith, leb-false h.size (cap - n) q)) in
      let v : fits wire cap (ep_at g h) c d ≡ (free, Some (notice 15 g)) = rw z in
      record {
        same = sym (ap (came j (within wire (ep_at g h) h.size) (ending wire (ep_at g h) h.size)) v) ∙ e;
        sound = record { at = l; phase = omega arith };
        gained = omega arith;
      }

  fits_turned : (w : Walk) (j : ℕ) (h : Header) (g : Place) (c : Tag) (n : ℕ) (d : List ℕ) → d ≡ take n m → j ≤ length tp → n ≤ cap
      → 3 * (length tp - j) + 1 < toil (length tp) w
      → came j (within wire (ep_at g h) h.size) (ending wire (ep_at g h) h.size) (fits wire cap (ep_at g h) c d) ≡ pull_of cap t w tp m
      → Carries cap t w tp m (fits_of j h g c n cap) m
  unfolding fits_of
  fits_turned w j h g c n d x l r u e = fits_by (leb h.size (cap - n)) w j h g c n d x l r u e refl

  further_turned : (w : Walk) (j : ℕ) (h : Header) (g : Place) (k : Option Kept) → j ≤ length tp → Roomy cap k 0
      → 3 * (length tp - j) + 1 < toil (length tp) w
      → came j (within wire (ep_at g h) h.size) (ending wire (ep_at g h) h.size) (further wire cap (ep_at g h) (held_of k m)) ≡ pull_of cap t w tp m
      → Carries cap t w tp m (further_of j h g k cap) m
  unfolding Carries pull_of
  further_turned w j h g None l r u e = record { same = e; sound = record { at = l; phase = omega arith }; less = u }
  further_turned w j h g (Some k) l r u e = fits_turned w j h g (join_of (tag_of k.content k.repaired k.began) (ep_at g h)) k.len (take k.len m) refl l (omega arith) u e

  admit_by : (d : Kind) (w : Walk) (j : ℕ) (h : Header) (g : Place) (k : Option Kept) → j ≤ length tp → Roomy cap k 0
      → 3 * (length tp - j) + 1 < toil (length tp) w
      → came j (within wire (ep_at g h) h.size) (ending wire (ep_at g h) h.size) (admit wire cap d (ep_at g h) (held_of k m)) ≡ pull_of cap t w tp m
      → Carries cap t w tp m (admit_of d j h g k cap) m
  unfolding Carries pull_of shown
  admit_by Fill w j h g k l r u e = record { same = e; sound = record { at = l; phase = omega arith }; less = u }
  admit_by Reserved w j h g k l r u e = record { same = e; sound = record { at = l; phase = omega arith }; gained = omega arith }
  admit_by Complete w j h g k l r u e = fits_turned w j h g (begin_of (ep_at g h)) 0 [] refl l (omega arith) u e
  admit_by First w j h g k l r u e = fits_turned w j h g (begin_of (ep_at g h)) 0 [] refl l (omega arith) u e
  admit_by Middle w j h g k l r u e = further_turned w j h g k l r u e
  admit_by Last w j h g k l r u e = further_turned w j h g k l r u e

  pub admit_turned : (w : Walk) (h : Header) → Sound cap (length tp) w → w.phase ≡ Judged h
      → Carries cap t w tp m (admit_of (kind_of h) w.at h w.began w.kept cap) m
  unfolding pull_of
  admit_turned w h s q =
      let v : walk_at w.at (Judged h) w.began w.kept ≡ w = ap (λ (p : Phase). walk_at w.at p w.began w.kept) (sym q) in
      let s' = rw (← v) at s in
      rw (← v) (admit_by (kind_of h) (walk_at w.at (Judged h) w.began w.kept) w.at h w.began w.kept s'.at s'.phase (omega arith) refl)

  opened_by : (b : Bool) (w : Walk) (j : ℕ) (h : Header) (g : Place) (k : Option Kept) (T : Took wire) → j ≤ length tp → Roomy cap k 0
      → 3 * (length tp - j) + 1 < toil (length tp) w
      → came j (within wire (ep_at g h) h.size) (entered (ep_at g h) ∷ ending wire (ep_at g h) h.size) T ≡ pull_of cap t w tp m
      → T ≡ cond b (held_of k m, None) (free, Some (notice 14 g))
      → Carries cap t w tp m (cond b (admit_of (kind_of h) j h g k cap) (stops j (Judged h) g None (Notice 14))) m
  unfolding Carries pull_of shown
  opened_by true w j h g k T l r u e q =
      admit_by (kind_of h) w j h g k l r u (sym (ap (came j (within wire (ep_at g h) h.size) (entered (ep_at g h) ∷ ending wire (ep_at g h) h.size)) q) ∙ e)
  opened_by false w j h g k T l r u e q =
      record { same = sym (ap (came j (within wire (ep_at g h) h.size) (entered (ep_at g h) ∷ ending wire (ep_at g h) h.size)) q) ∙ e; sound = record { at = l; phase = omega arith }; gained = omega arith }

  pub whole_turned : (w : Walk) (j : ℕ) (o : Option Header) (g : Place) (k : Option Kept) → j ≤ length tp → Roomy cap k 0
      → 3 * (length tp - j) + 1 < toil (length tp) w
      → on_with cap t (held_of k m) m (whole wire g (ep_if g o)) j (drop j tp) ≡ pull_of cap t w tp m
      → Carries cap t w tp m (whole_of j o g k cap) m
  unfolding Carries pull_of shown opened_of
  whole_turned w j None g k l r u e = record { same = e; sound = record { at = l; phase = omega arith }; gained = omega arith }
  whole_turned w j (Some h) g k l r u e =
      opened_by (meets_of (kind_of h) k h.content) w j h g k (meets wire (kind_of h) (ep_at g h) (held_of k m)) l r u e (meets_law m (kind_of h) (ep_at g h) k)

  handed_turned : (w : Walk) (mₒ : List ℕ) (j : ℕ) (g : Place) (k : Option Kept) → j ≤ length tp → Roomy cap k 0
      → 3 * (length tp - j) < toil (length tp) w
      → came j idle [] (handed wire (held_of k m)) ≡ pull_of cap t w tp mₒ
      → Carries cap t w tp mₒ (handed_of j g k) m
  unfolding Carries pull_of shown
  handed_turned w mₒ j g None l r u e = record { same = e; sound = record { at = l; phase = omega arith }; less = omega arith }
  handed_turned w mₒ j g (Some k) l r u e = record { same = e; sound = record { at = l; phase = omega arith }; gained = r }

  kept_turned : (w : Walk) (mₒ : List ℕ) (j : ℕ) (g : Place) (k : Option Kept) → j ≤ length tp → Roomy cap k 0
      → 3 * (length tp - j) < toil (length tp) w
      → came j idle [] (held_of k m, None) ≡ pull_of cap t w tp mₒ
      → Carries cap t w tp mₒ (goes j (Head 0 0) g k) m
  unfolding Carries pull_of shown
  kept_turned w mₒ j g k l r u e = record { same = e; sound = record { at = l; phase = (omega arith, omega arith, r) }; less = omega arith }

  pub finish_by : (d : Kind) (w : Walk) (mₒ : List ℕ) (j : ℕ) (g : Place) (k : Option Kept) → j ≤ length tp → Roomy cap k 0
      → 3 * (length tp - j) < toil (length tp) w
      → came j idle [] (finish wire d (held_of k m)) ≡ pull_of cap t w tp mₒ
      → Carries cap t w tp mₒ (finish_of d j g k) m
  finish_by Fill w mₒ j g k l r u e = kept_turned w mₒ j g k l r u e
  finish_by Reserved w mₒ j g k l r u e = kept_turned w mₒ j g k l r u e
  finish_by Complete w mₒ j g k l r u e = handed_turned w mₒ j g k l r u e
  finish_by First w mₒ j g k l r u e = kept_turned w mₒ j g k l r u e
  finish_by Middle w mₒ j g k l r u e = kept_turned w mₒ j g k l r u e
  finish_by Last w mₒ j g k l r u e = handed_turned w mₒ j g k l r u e
