-- A header's bytes as a number and back, and a header read on in one jump. Assumes nothing.
use mathlib.Core.Path.{ap, refl, sym, ◌∙◌, ◌≡◌}
use mathlib.Core.Bool.{Bool, cond}
use mathlib.Core.List.{List, [], append_assoc, append-nil, ◌++◌, ◌∷◌}
use Prim.Native.Nat.{suc, zero, ℕ, ◌%◌, ◌*◌, ◌+◌, ◌-◌, ◌/◌, ◌<◌, ◌^◌, ◌≤◌}
use native.Mathlib.Omega.{arith}
use lib.ListN.{get_or, length, length-append}
use borrow.Author.Tests.{ne_eqb}
use Rattle.digits.specs.Digits.{digits, number}
use Rattle.wire.specs.Reading.{header_of}
use Rattle.receiver.specs.Frame.{Out, head, step, whole}
use Rattle.receiver.specs.Join.{Held}
use Rattle.receiver.specs.declared.Place.{Place}
use Rattle.receiver.specs.declared.Stamp.{Stamp}
use Rattle.receiver.specs.Low.{ep_if, wire}
use Rattle.receiver.specs.Place.{place_at, placed}
use Rattle.receiver.specs.Turns.{begun_at}
use Rattle.receiver.specs.Pull.{Pulled, dry, meet, pull}
use Rattle.receiver.specs.State.{headed}
use Rattle.receiver.proofs.Run.{one}

pub number_append : (n : ℕ) (xs ys : List ℕ) → number n (xs ++ ys) ≡ number (number n xs) ys
number_append n [] ys = refl
number_append n (x ∷ xs) ys = number_append (n * 256 + x) xs ys

pub number_digits : (k w : ℕ) → w < 256 ^ k → number 0 (digits k w) ≡ w
number_digits zero w h = let e : w ≡ 0 = omega arith in sym e
number_digits (suc k) w h =
    let i = number_digits k (w / 256) (omega arith) in
    number_append 0 (digits k (w / 256)) (w % 256 ∷ []) ∙ ap (λ (n : ℕ). n * 256 + w % 256) i ∙ omega arith

pub length_digits : (k w : ℕ) → length (digits k w) ≡ k
length_digits zero w = refl
length_digits (suc k) w = omega (arith, length-append (digits k (w / 256)) (w % 256 ∷ []), length_digits k (w / 256))

abbrev pub Bytes : List ℕ → Type 0
Bytes bs = (i : ℕ) → get_or bs i 0 < 256

pub digits_number : (k j w : ℕ) (ds : List ℕ) → Bytes ds → j ≡ k + length ds → digits j (number w ds) ≡ digits k w ++ ds
digits_number k j w [] y e = let q : j ≡ k = omega arith in rw q (sym (append-nil (digits k w)))
digits_number k j w (d ∷ ds) y e =
    let y₀ = y 0 in
    let p : (w * 256 + d) / 256 ≡ w = omega arith in
    let q : (w * 256 + d) % 256 ≡ d = omega arith in
    digits_number (suc k) j (w * 256 + d) ds (λ i. y (suc i)) (omega arith)
    ∙ rw (p, q) (append_assoc (digits k w) (d ∷ []) ds)

pub number_small : (k j w : ℕ) (ds : List ℕ) → Bytes ds → j ≡ k + length ds → w < 256 ^ k → number w ds < 256 ^ j
number_small k j w [] y e h = let q : j ≡ k = omega arith in rw q h
number_small k j w (d ∷ ds) y e h = let y₀ = y 0 in number_small (suc k) j (w * 256 + d) ds (λ i. y (suc i)) (omega arith) (omega arith)

-- a header's bytes

-- where a header began of which these bytes are read: there, if none is
abbrev pub first : List ℕ → Place → Place → Place
first [] p g = p
first (x ∷ xs) p g = g

pub first_snoc : (hs : List ℕ) (d : ℕ) (p g : Place) → first (hs ++ d ∷ []) p g ≡ g
first_snoc [] d p g = refl
first_snoc (x ∷ hs) d p g = refl

pub begun_first : (t : Stamp) (at n w : ℕ) (g : Place) → first (digits n w) (place_at t at) g ≡ begun_at t at n g
begun_first t at zero w g = refl
begun_first t at (suc n) w g =
    first_snoc (digits n (w / 256)) (w % 256) (place_at t at) g ∙ sym (ap (λ (b : Bool). cond b (place_at t at) g) (ne_eqb (suc n) 0 (λ e. omega arith)))

pub headed_step : (g : Place) (hs : List ℕ) (p : Place) (d : ℕ) → length hs < 5 → step wire (headed g hs) (p, d) ≡ (headed (first hs p g) (hs ++ d ∷ []), [])
headed_step g [] p d l = refl
headed_step g (x ∷ hs) p d l =
    let e : 4 - length hs ≡ suc (4 - length (hs ++ d ∷ [])) = omega (arith, length-append hs (d ∷ [])) in
    ap (λ (n : ℕ). step wire (head g n (x ∷ hs)) (p, d)) e

pub headed_last : (g : Place) (hs : List ℕ) (p : Place) (d : ℕ) → length hs ≡ 5 → step wire (headed g hs) (p, d) ≡ whole wire g (ep_if g (header_of (hs ++ d ∷ [])))
headed_last g [] p d l = absurd (omega arith)
headed_last g (x ∷ hs) p d l =
    let e : 4 - length hs ≡ 0 = omega arith in
    ap (λ (n : ℕ). step wire (head g n (x ∷ hs)) (p, d)) e

module _ (cap : ℕ) (t : Stamp) (s : Held wire) (m : List ℕ) where
  pub heads : (g : Place) (hs ds bs : List ℕ) (at j : ℕ) → length hs + length ds ≤ 5 → j ≡ at + length ds
      → pull wire cap (headed g hs) at (dry s m) (placed t at (ds ++ bs)) ≡ pull wire cap (headed (first hs (place_at t at) g) (hs ++ ds)) j (dry s m) (placed t j bs)
  heads g [] [] bs at j l e = let q : j ≡ at = omega arith in rw q
  heads g (x ∷ hs) [] bs at j l e =
      let q : j ≡ at = omega arith in
      rw q (ap (λ (l : List ℕ). pull wire cap (headed g l) at (dry s m) (placed t at bs)) (sym (append-nil (x ∷ hs))))
  heads g hs (d ∷ ds) bs at j l e =
      let q = first hs (place_at t at) g in
      one wire cap (headed g hs) (place_at t at, d) (placed t (suc at) (ds ++ bs)) at s m (headed q (hs ++ d ∷ []), []) (headed_step g hs (place_at t at) d (omega arith))
      ∙ heads q (hs ++ d ∷ []) ds bs (suc at) j (omega (arith, length-append hs (d ∷ []))) (omega arith)
      ∙ ap (λ (p : Place). pull wire cap (headed p ((hs ++ d ∷ []) ++ ds)) j (dry s m) (placed t j bs)) (first_snoc hs d (place_at t (suc at)) q)
      ∙ ap (λ (l : List ℕ). pull wire cap (headed q l) j (dry s m) (placed t j bs)) (append_assoc hs (d ∷ []) ds)

  abbrev pub on_with : Out wire → ℕ → List ℕ → Pulled wire
  on_with o j bs = pull wire cap o.0 j (meet wire cap s m o.1) (placed t j bs)

  pub heads_whole : (g : Place) (hs : List ℕ) (d : ℕ) (ds bs : List ℕ) (at j : ℕ) → length hs + suc (length ds) ≡ 6 → j ≡ suc at + length ds
      → pull wire cap (headed g hs) at (dry s m) (placed t at (d ∷ ds ++ bs))
      ≡ on_with (whole wire (first hs (place_at t at) g) (ep_if (first hs (place_at t at) g) (header_of (hs ++ d ∷ ds)))) j bs
  heads_whole g [] d [] bs at j l e = absurd (omega arith)
  heads_whole g (x ∷ hs) d [] bs at j l e =
      let q : j ≡ suc at = omega arith in
      rw q (one wire cap (headed g (x ∷ hs)) (place_at t at, d) (placed t (suc at) bs) at s m _ (headed_last g (x ∷ hs) (place_at t at) d (omega arith)))
  heads_whole g hs d (x ∷ ds) bs at j l e =
      let q = first hs (place_at t at) g in
      one wire cap (headed g hs) (place_at t at, d) (placed t (suc at) (x ∷ ds ++ bs)) at s m (headed q (hs ++ d ∷ []), []) (headed_step g hs (place_at t at) d (omega arith))
      ∙ heads_whole q (hs ++ d ∷ []) x ds bs (suc at) j (omega (arith, length-append hs (d ∷ []))) (omega arith)
      ∙ ap (λ (p : Place). on_with (whole wire p (ep_if p (header_of ((hs ++ d ∷ []) ++ x ∷ ds)))) j bs) (first_snoc hs d (place_at t (suc at)) q)
      ∙ ap (λ (l : List ℕ). on_with (whole wire q (ep_if q (header_of l))) j bs) (append_assoc hs (d ∷ []) (x ∷ ds))
