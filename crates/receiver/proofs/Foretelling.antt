-- The forecast in runs is the forecast byte by byte, and what it decides.
use mathlib.Core.Path.{ap, refl, sym, ◌∙◌, ◌≡◌}
use mathlib.Core.Bool.{Bool, cond, false, true}
use mathlib.Core.List.{List, [], append_assoc, ◌++◌, ◌∷◌}
use Prim.Native.Nat.{min, suc, zero, ℕ, ◌+◌, ◌-◌, ◌<◌, ◌^◌, ◌≤◌}
use native.Mathlib.Omega.{arith}
use lib.Dec.{eqb, ltb}
use lib.ListN.{drop, length, length-append, length-drop, take, take-append-drop}
use lib.Seq.{length-take-le}
use borrow.Author.Tests.{ltb-false, ltb-true, ne_eqb}
use Rattle.std.specs.Prelude.{None, Option, Some}
use Rattle.digits.specs.Digits.{digits, number}
use Rattle.wire.specs.Reading.{header_in, header_of}
use Rattle.wire.specs.declared.Header.{Header}
use Rattle.receiver.specs.declared.Place.{Place}
use Rattle.receiver.specs.declared.Stamp.{Stamp}
use Rattle.receiver.specs.declared.outset.Fore.TheVariants.{At, Bad}
use Rattle.receiver.specs.declared.walk.Phase.{Phase}
use Rattle.receiver.specs.declared.walk.Phase.TheVariants.{Body, Head, Judged, Lost}
use Rattle.receiver.specs.Forecast.{foretold, later, phase}
use Rattle.receiver.specs.Frame.{Out, idle, lost, whole, within}
use Rattle.receiver.specs.Low.{Ep, ep_at, ep_if, wire}
use Rattle.receiver.specs.Outset.{fore_at, fore_of, foretells, seen}
use Rattle.receiver.specs.Place.{own_of, place_at, placed, start_of}
use Rattle.receiver.specs.InOutset.{ahead_of, behind_of}
use Rattle.receiver.specs.State.{Settled, headed}
use Rattle.receiver.proofs.Bodies.{decoded}
use Rattle.receiver.proofs.Placing.{length_placed, placed_append}
use Rattle.receiver.proofs.Heading.{headed_last, headed_step, length_digits}

pub bad_fore : (n rest : ℕ) (o : Option Header) → o ≡ None → Bad ≡ behind_of o n rest
bad_fore n rest None e = refl
bad_fore n rest (Some h) e = cc

pub good_fore : (n rest : ℕ) (h : Header) (o : Option Header) → o ≡ Some h → At (n + min h.size (rest - n)) ≡ behind_of o n rest
good_fore n rest h None e = cc
good_fore n rest h (Some x) e = let q : h ≡ x = cc in ap (λ (y : Header). At (n + min y.size (rest - n))) q

-- the forecast, in runs

fore_idle : (bs : List (Place × ℕ)) → foretold wire idle bs ≡ Some 0
fore_idle [] = refl
fore_idle (b ∷ bs) = refl

fore_lost : (bs : List (Place × ℕ)) → foretold wire lost bs ≡ None
fore_lost [] = refl
fore_lost (b ∷ bs) = refl

pub fore_within : (h : Ep) (n : ℕ) (bs : List (Place × ℕ)) → foretold wire (within wire h n) bs ≡ Some (min n (length bs))
fore_within h zero bs = fore_idle bs ∙ ap Some (omega arith)
fore_within h (suc n) [] = ap Some (omega arith)
fore_within h (suc n) (b ∷ bs) =
    let e : suc (min n (length bs)) ≡ min (suc n) (suc (length bs)) = omega arith in
    ap (later wire) (fore_within h n bs) ∙ ap Some e

fore_short : (g : Place) (x : ℕ) (xs : List ℕ) (ds : List (Place × ℕ)) → suc (length xs) + length ds ≤ 5 → foretold wire (headed g (x ∷ xs)) ds ≡ Some (length ds)
fore_short g x xs [] l = refl
fore_short g x xs (d ∷ ds) l =
    ap (λ (o : Out wire). later wire (foretold wire o.0 ds)) (headed_step g (x ∷ xs) d.0 d.1 (omega arith))
    ∙ ap (later wire) (fore_short g x (xs ++ d.1 ∷ []) ds (omega (arith, length-append xs (d.1 ∷ []))))

abbrev laters : ℕ → Option ℕ → Option ℕ
laters zero o = o
laters (suc n) o = later wire (laters n o)

laters_some : (n k : ℕ) → laters n (Some k) ≡ Some (n + k)
laters_some zero k = ap Some (omega arith)
laters_some (suc n) k = ap (later wire) (laters_some n k) ∙ ap Some (omega arith)

laters_none : (n : ℕ) → laters n None ≡ None
laters_none zero = refl
laters_none (suc n) = ap (later wire) (laters_none n)

fore_whole : (g : Place) (t : Stamp) (i x : ℕ) (xs : List ℕ) (d : ℕ) (ds : List ℕ) (bs : List (Place × ℕ)) → suc (length xs) + suc (length ds) ≡ 6
    → foretold wire (headed g (x ∷ xs)) (placed t i (d ∷ ds) ++ bs) ≡ laters (suc (length ds)) (foretold wire (whole wire g (ep_if g (header_of (x ∷ xs ++ d ∷ ds)))).0 bs)
fore_whole g t i x xs d [] bs l = ap (λ (o : Out wire). later wire (foretold wire o.0 bs)) (headed_last g (x ∷ xs) (place_at t i) d (omega arith))
fore_whole g t i x xs d (y ∷ ds) bs l =
    ap (λ (o : Out wire). later wire (foretold wire o.0 (placed t (suc i) (y ∷ ds) ++ bs))) (headed_step g (x ∷ xs) (place_at t i) d (omega arith))
    ∙ ap (later wire) (fore_whole g t (suc i) x (xs ++ d ∷ []) y ds bs (omega (arith, length-append xs (d ∷ [])))
    ∙ ap (λ (l : List ℕ). laters (suc (length ds)) (foretold wire (whole wire g (ep_if g (header_of (x ∷ l)))).0 bs)) (append_assoc xs (d ∷ []) (y ∷ ds)))

fore_behind : (g : Place) (o : Option Header) (n r : ℕ) (bs : List (Place × ℕ)) → r - n ≡ length bs → foretells (laters n (foretold wire (whole wire g (ep_if g o)).0 bs)) ≡ behind_of o n r
fore_behind g None n r bs e = ap (λ (o : Option ℕ). foretells (laters n o)) (fore_lost bs) ∙ ap foretells (laters_none n)
fore_behind g (Some h) n r bs e =
    ap (λ (o : Option ℕ). foretells (laters n o)) (fore_within (ep_at g h) h.size bs) ∙ ap foretells (laters_some n (min h.size (length bs)))
    ∙ ap (λ (k : ℕ). At (n + min h.size k)) (sym e)

seen_within : (h : Ep) (n : ℕ) (o : Option ℕ) → seen (phase wire (within wire h n)) o ≡ foretells o
seen_within h zero o = refl
seen_within h (suc n) o = refl

module _ (g : Place) (t : Stamp) (i : ℕ) where
  pub body_fore_at : (h : Header) (n r : ℕ) (bs : List ℕ) → length bs ≡ r → At (min n r) ≡ fore_at g (Body h n) (placed t i bs)
  body_fore_at h n r bs e =
      sym (seen_within (ep_at g h) n _ ∙ ap foretells (fore_within (ep_at g h) n (placed t i bs)) ∙ ap (λ (k : ℕ). At (min n k)) (length_placed t i bs ∙ e))

  -- of a header's bytes hs, some: here ds, and then bs
  some_short : (hs ds : List ℕ) → 0 < length hs → length hs + length ds ≤ 5
      → seen (phase wire (headed g hs)) (foretold wire (headed g hs) (placed t i ds)) ≡ At (length ds)
  some_short [] ds p l = absurd (omega arith)
  some_short (x ∷ xs) ds p l =
      let e = length_placed t i ds in
      ap foretells (fore_short g x xs (placed t i ds) (omega arith)) ∙ ap At e

  some_whole : (hs ds : List ℕ) (bs : List (Place × ℕ)) (n r : ℕ) → 0 < length hs → length hs + length ds ≡ 6 → length hs ≤ 5 → length ds ≡ n → r - n ≡ length bs
      → seen (phase wire (headed g hs)) (foretold wire (headed g hs) (placed t i ds ++ bs)) ≡ behind_of (header_of (hs ++ ds)) n r
  some_whole [] ds bs n r p l q v e = absurd (omega arith)
  some_whole (x ∷ xs) [] bs n r p l q v e = absurd (omega arith)
  some_whole (x ∷ xs) (d ∷ ds) bs n r p l q v e =
      ap foretells (fore_whole g t i x xs d ds bs (omega arith))
      ∙ fore_behind g (header_of (x ∷ xs ++ d ∷ ds)) (suc (length ds)) r bs (omega arith)
      ∙ ap (λ (n : ℕ). behind_of (header_of (x ∷ xs ++ d ∷ ds)) n r) v

  pub ahead_fore_at : (tp : List ℕ) (at n w : ℕ) → at ≤ length tp → n ≤ 5 → w < 256 ^ n → ahead_of tp at n w ≡ fore_at g (Head n w) (placed t i (drop at tp))
  unfolding ahead_of
  ahead_fore_at tp at zero w l m h = sym (ap foretells (fore_idle (placed t i (drop at tp))))
  ahead_fore_at tp at (suc n) w l m h =
      let z : eqb (suc n) 0 ≡ false = ne_eqb (suc n) 0 (λ e. omega arith) in
      rw z (by (ltb (length tp - at) (6 - suc n)) refl)
    where
      by : (b : Bool) → ltb (length tp - at) (6 - suc n) ≡ b
          → cond b (At (length tp - at)) (behind_of (header_in (number w (take (6 - suc n) (drop at tp)))) (6 - suc n) (length tp - at))
          ≡ seen (phase wire (headed g (digits (suc n) w))) (foretold wire (headed g (digits (suc n) w)) (placed t i (drop at tp)))
      by true q =
          let u = ltb-true (length tp - at) (6 - suc n) q in
          let v = length_digits (suc n) w in
          let z = length-drop at tp in
          sym (some_short (digits (suc n) w) (drop at tp) (omega arith) (omega arith) ∙ ap At z)
      by false q =
          let u = ltb-false (length tp - at) (6 - suc n) q in
          let v = length_digits (suc n) w in
          let z = length-drop at tp in
          let ds : List ℕ = take (6 - suc n) (drop at tp) in
          let rest : List ℕ = drop (6 - suc n) (drop at tp) in
          let s : length ds ≡ 6 - suc n = length-take-le (6 - suc n) (drop at tp) (omega arith) in
          let bs = placed t (i + (6 - suc n)) rest in
          let y : length bs ≡ length (drop at tp) - (6 - suc n) = length_placed t (i + (6 - suc n)) rest ∙ length-drop (6 - suc n) (drop at tp) in
          let e : placed t i ds ++ bs ≡ placed t i (drop at tp) =
          sym (placed_append t i (i + (6 - suc n)) ds rest (omega arith)) ∙ ap (placed t i) (take-append-drop (6 - suc n) (drop at tp)) in
          let x = some_whole (digits (suc n) w) ds bs (6 - suc n) (length tp - at) (omega arith) (omega arith) (omega arith) s (omega arith) in
          sym (rw (e, decoded (suc n) w ds h) at x)

pub body_fore : (h : Header) (n r : ℕ) (bs : List ℕ) → length bs ≡ r → At (min n r) ≡ fore_of (Body h n) bs
unfolding fore_of
body_fore h n r bs e = body_fore_at (start_of (own_of 0)) (own_of 0) 0 h n r bs e

pub ahead_fore : (tp : List ℕ) (at n w : ℕ) → at ≤ length tp → n ≤ 5 → w < 256 ^ n → ahead_of tp at n w ≡ fore_of (Head n w) (drop at tp)
unfolding fore_of
ahead_fore tp at n w l m h = ahead_fore_at (start_of (own_of 0)) (own_of 0) 0 tp at n w l m h

pub judged_fore : (h : Header) (r : ℕ) (bs : List ℕ) → length bs ≡ r → At (min h.size r) ≡ fore_of (Judged h) bs
unfolding fore_of
judged_fore h r bs e = body_fore h h.size r bs e

-- the forecast doesn't look at places
pub fore_any : (g : Place) (t : Stamp) (i : ℕ) (p : Phase) (tp : List ℕ) (at : ℕ) → at ≤ length tp → Settled p → fore_at g p (placed t i (drop at tp)) ≡ fore_of p (drop at tp)
unfolding fore_of
fore_any g t i Lost tp at l s = refl
fore_any g t i (Head n w) tp at l s = sym (ahead_fore_at g t i tp at n w l s.0 s.1) ∙ ahead_fore tp at n w l s.0 s.1
fore_any g t i (Judged h) tp at l s = absurd (omega arith)
fore_any g t i (Body h n) tp at l s = sym (body_fore_at g t i h n (length (drop at tp)) (drop at tp) refl) ∙ body_fore h n (length (drop at tp)) (drop at tp) refl
