-- Runs of bytes, as frames and events: out of step, in a header, in data. Assumes nothing.
use mathlib.Core.Path.{ap, refl, sym, ◌∙◌, ◌≡◌}
use mathlib.Core.List.{List, [], append_assoc, append-nil, ◌++◌, ◌∷◌}
use Prim.Native.Nat.{suc, zero, ℕ, ◌+◌, ◌≤◌}
use native.Mathlib.Omega.{arith}
use lib.ListN.{length, length-append}
use Rattle.wire.specs.Reading.{header_of}
use Rattle.receiver.specs.declared.Place.{Place}
use Rattle.receiver.specs.declared.Stamp.{Stamp}
use Rattle.receiver.specs.Frame.{Event, Frame, Out, after, ending, events, fed, lost, whole, within}
use Rattle.receiver.specs.Low.{Ep, ep_if, wire}
use Rattle.receiver.specs.Place.{place_at, placed}
use Rattle.receiver.specs.State.{headed}
use Rattle.receiver.proofs.Heading.{first, first_snoc, headed_last, headed_step}
use Rattle.receiver.proofs.Placing.{plain}

abbrev pub saw : Frame wire → List (Place × ℕ) → Out wire
saw f bs = (after wire f bs, events wire f bs)

pub lost_saw : (bs : List (Place × ℕ)) → saw lost bs ≡ (lost, [])
lost_saw [] = refl
lost_saw (b ∷ bs) = lost_saw bs

-- what comes after one step
abbrev onto : Out wire → List (Place × ℕ) → Out wire
onto o bs = (after wire o.0 bs, o.1 ++ events wire o.0 bs)

-- a header's six bytes, the first of which stands there
abbrev pub whole_at : Place → List ℕ → Out wire
whole_at p hs = whole wire p (ep_if p (header_of hs))

-- a header's bytes, in a TP of this stamp
module _ (t : Stamp) where
  pub heads_saw : (g : Place) (hs ds : List ℕ) (at : ℕ) → length hs + length ds ≤ 5
      → saw (headed g hs) (placed t at ds) ≡ (headed (first hs (place_at t at) g) (hs ++ ds), [])
  heads_saw g [] [] at l = refl
  heads_saw g (x ∷ hs) [] at l = ap (λ (h : List ℕ). (headed g h, [])) (sym (append-nil (x ∷ hs)))
  heads_saw g hs (d ∷ ds) at l =
      let q = first hs (place_at t at) g in
      ap (λ (o : Out wire). onto o (placed t (suc at) ds)) (headed_step g hs (place_at t at) d (omega arith))
      ∙ heads_saw q (hs ++ d ∷ []) ds (suc at) (omega (arith, length-append hs (d ∷ [])))
      ∙ ap (λ (p : Place). (headed p ((hs ++ d ∷ []) ++ ds), [])) (first_snoc hs d (place_at t (suc at)) q)
      ∙ ap (λ (h : List ℕ). (headed q h, [])) (append_assoc hs (d ∷ []) ds)

  pub heads_whole_saw : (g : Place) (hs : List ℕ) (d : ℕ) (ds : List ℕ) (at : ℕ) → length hs + suc (length ds) ≡ 6
      → saw (headed g hs) (placed t at (d ∷ ds)) ≡ whole_at (first hs (place_at t at) g) (hs ++ d ∷ ds)
  heads_whole_saw g [] d [] at l = absurd (omega arith)
  heads_whole_saw g (x ∷ hs) d [] at l =
      ap (λ (o : Out wire). onto o []) (headed_last g (x ∷ hs) (place_at t at) d (omega arith))
      ∙ ap (λ (es : List (Event wire)). ((whole_at g ((x ∷ hs) ++ d ∷ [])).0, es)) (append-nil _)
  heads_whole_saw g hs d (x ∷ ds) at l =
      let q = first hs (place_at t at) g in
      ap (λ (o : Out wire). onto o (placed t (suc at) (x ∷ ds))) (headed_step g hs (place_at t at) d (omega arith))
      ∙ heads_whole_saw q (hs ++ d ∷ []) x ds (suc at) (omega (arith, length-append hs (d ∷ [])))
      ∙ ap (λ (p : Place). whole_at p ((hs ++ d ∷ []) ++ x ∷ ds)) (first_snoc hs d (place_at t (suc at)) q)
      ∙ ap (whole_at q) (append_assoc hs (d ∷ []) (x ∷ ds))

abbrev pub feeds : List ℕ → List (Event wire)
feeds [] = []
feeds (d ∷ ds) = fed d ∷ feeds ds

pub data_after : (h : Ep) (k n : ℕ) (bs : List (Place × ℕ)) → n ≡ k + length bs → after wire (within wire h n) bs ≡ within wire h k
data_after h k n [] e = let q : n ≡ k = omega arith in ap (within wire h) q
data_after h k zero (b ∷ bs) e = absurd (omega arith)
data_after h k (suc n) (b ∷ bs) e = data_after h k n bs (omega arith)

pub data_events : (h : Ep) (k n : ℕ) (bs : List (Place × ℕ)) → n ≡ k + length bs
    → ending wire h n ++ events wire (within wire h n) bs ≡ feeds (plain wire bs) ++ ending wire h k
data_events h k n [] e = let q : n ≡ k = omega arith in append-nil (ending wire h n) ∙ ap (ending wire h) q
data_events h k zero (b ∷ bs) e = absurd (omega arith)
data_events h k (suc n) (b ∷ bs) e = ap (λ (es : List (Event wire)). fed b.1 ∷ es) (data_events h k n bs (omega arith))
