-- A stream or a content above 255 is refused as 255 is. Assumes nothing.
use Prim.Native.Nat.{ℕ, ◌<◌, min}
use mathlib.Core.Bool.{Bool, true, false, ◌&&◌}
use mathlib.Core.List.{List}
use mathlib.Core.Path.{◌≡◌, refl, ap, ◌∙◌}
use native.Mathlib.Omega.{arith}
use lib.Dec.{leb}
use borrow.Author.Tests.{leb-true, leb-false, lt-leb}
use Rattle.wire.specs.Limits.{link_allowed, allowed}
use Rattle.sender.specs.declared.Sender.{Sender}
use Rattle.sender.specs.Opening.{opened}
use Rattle.sender.specs.Offering.{known, want_ordinary, ordinary_offered, want_low, low_offered}

-- a number's two cases: a byte, or above all bytes
by_byte : {A : Type 0} (f : ℕ → A) (n m : ℕ) → (255 < n → f 255 ≡ f n) → m ≡ min n 255 → f m ≡ f n
by_byte f n m above i = go (leb n 255) refl
  where
    go : (t : Bool) → leb n 255 ≡ t → f m ≡ f n
    go true e = let h = leb-true n 255 e in let k : m ≡ n = omega arith in ap f k
    go false e = let h = leb-false n 255 e in let k : m ≡ 255 = omega arith in ap f k ∙ above h

unknown : (c : ℕ) → 6 < c → known c ≡ false
unfolding known
unknown c h = go (leb 1 c) (lt-leb c 6 h)
  where
    go : (t : Bool) → leb c 6 ≡ false → t && leb c 6 ≡ false
    go true e = e
    go false e = refl

none : (a b c d : Bool) → c ≡ false → (a && (b && c)) && d ≡ false
none true true c d e = ap (λ (t : Bool). t && d) e
none true false c d e = refl
none false b c d e = refl

not_allowed : (tp stream F : ℕ) → 15 < stream → allowed tp stream F ≡ false
unfolding allowed link_allowed
not_allowed tp stream F h = none (leb 16 tp) (leb tp 2051) (leb stream 15) _ (lt-leb stream 15 h)

opened_above : (tp stream F low ordinary : ℕ) → 255 < stream → opened tp 255 F low ordinary ≡ opened tp stream F low ordinary
unfolding opened
opened_above tp stream F low ordinary h =
    let a : 15 < 255 = omega arith in
    let e : 15 < stream = omega arith in
    rw (not_allowed tp 255 F a, not_allowed tp stream F e)

ordinary_above : (s : Sender) (low b : List ℕ) (c : ℕ) (d : List ℕ) → 255 < c → ordinary_offered s low b 255 d ≡ ordinary_offered s low b c d
unfolding ordinary_offered want_ordinary
ordinary_above s low b c d h = let a : 6 < 255 = omega arith in let e : 6 < c = omega arith in rw (unknown 255 a, unknown c e)

low_above : (s : Sender) (b ordinary : List ℕ) (c : ℕ) (d : List ℕ) → 255 < c → low_offered s b ordinary 255 d ≡ low_offered s b ordinary c d
unfolding low_offered want_low
low_above s b ordinary c d h = let a : 6 < 255 = omega arith in let e : 6 < c = omega arith in rw (unknown 255 a, unknown c e)

-- ---- m: what `byte_of` makes of a number

pub opened_byte : (tp stream m F low ordinary : ℕ) → m ≡ min stream 255 → opened tp m F low ordinary ≡ opened tp stream F low ordinary
opened_byte tp stream m F low ordinary = by_byte (λ (n : ℕ). opened tp n F low ordinary) stream m (opened_above tp stream F low ordinary)

pub ordinary_byte : (s : Sender) (low b : List ℕ) (c m : ℕ) (d : List ℕ) → m ≡ min c 255 → ordinary_offered s low b m d ≡ ordinary_offered s low b c d
ordinary_byte s low b c m d = by_byte (λ (n : ℕ). ordinary_offered s low b n d) c m (ordinary_above s low b c d)

pub low_byte : (s : Sender) (b ordinary : List ℕ) (c m : ℕ) (d : List ℕ) → m ≡ min c 255 → low_offered s b ordinary m d ≡ low_offered s b ordinary c d
low_byte s b ordinary c m d = by_byte (λ (n : ℕ). low_offered s b ordinary n d) c m (low_above s b ordinary c d)
