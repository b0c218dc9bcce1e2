-- The end byte: its two code words, 00 and FF, are eight flips apart, so at most one lies within three.
-- Assumes nothing.
use mathlib.Core.Path.{◌≡◌, refl, sym, ap, ◌∙◌}
use mathlib.Core.Bool.{Bool, true, false, cond}
use mathlib.Core.Option.{none, some}
use Prim.Native.Nat.{ℕ, zero, suc, ◌+◌, ◌-◌, ◌/◌, ◌≤◌, ◌<◌, min}
use native.Mathlib.Nat.{lt_of_not-le}
use native.Mathlib.Omega.{arith}
use borrow.Author.Tests.{le-leb, lt-leb}
use lib.Bits.{xor_zero_r}
use lib.Count.{ones, ones_in}
use lib.Dec.{T, leb, eqb, eqb→eq}
use Rattle.golay.specs.Golay.{byte_distance}
use Rattle.golay.specs.Answers.{end_byte, end_flips, end_meant, end_of}
use Rattle.golay.specs.declared.End.{End}
use Rattle.golay.specs.declared.End.TheVariants.{Zeros, Ones, Neither}
use Rattle.golay.proofs.Test.{below, passes}
use Rattle.golay.proofs.Xor.{ones_all}

module _ (b : ℕ) where
  few : ones_in 8 b ≤ 3 → end_of b ≡ Zeros
  unfolding end_of
  few h = simp (le-leb (ones_in 8 b) 3 h)

  many : 5 ≤ ones_in 8 b → end_of b ≡ Ones
  unfolding end_of
  many h = let over : 3 < ones_in 8 b = omega arith in simp (lt-leb (ones_in 8 b) 3 over, le-leb 5 (ones_in 8 b) h)

  four : 3 < ones_in 8 b → ones_in 8 b < 5 → end_of b ≡ Neither
  unfolding end_of
  four h g = simp (lt-leb (ones_in 8 b) 3 h, lt-leb 5 (ones_in 8 b) g)

  -- what is meant is the answer's byte
  meant : end_byte (end_of b) ≡ end_meant b
  unfolding end_of end_meant
  meant = go (leb (ones_in 8 b) 3) (leb 5 (ones_in 8 b))
    where
      go : (s t : Bool) → end_byte (cond s Zeros (cond t Ones Neither)) ≡ cond s (some 0x00) (cond t (some 0xFF) none)
      go true t = refl
      go false true = refl
      go false false = refl

  -- the contract allows one answer
  pub is_end : (r : End) → end_byte r ≡ end_meant b → r ≡ end_of b
  is_end r e = same r (end_of b) (e ∙ sym meant)
    where
      same : (r s : End) → end_byte r ≡ end_byte s → r ≡ s
      same Zeros Zeros e = refl
      same Zeros Ones e = absurd (let z : ◌≡◌ {A = ℕ} 0 0xFF = cc in omega arith)
      same Zeros Neither e = absurd (let z : ◌≡◌ {A = ℕ} 0 1 = cc in omega arith)
      same Ones Zeros e = absurd (let z : ◌≡◌ {A = ℕ} 0 0xFF = cc in omega arith)
      same Ones Ones e = refl
      same Ones Neither e = absurd (let z : ◌≡◌ {A = ℕ} 0 1 = cc in omega arith)
      same Neither Zeros e = absurd (let z : ◌≡◌ {A = ℕ} 0 1 = cc in omega arith)
      same Neither Ones e = absurd (let z : ◌≡◌ {A = ℕ} 0 1 = cc in omega arith)
      same Neither Neither e = refl

ones_most : (k n : ℕ) → ones_in k n ≤ k
unfolding ones_in
ones_most zero n = omega arith
ones_most (suc k) n = omega (arith, ones_most k (n / 2))

-- ---- the same of the code's count of a byte's ones
module _ (b : ℕ) (byte : b < 256) where
  counted : ones b ≡ ones_in 8 b
  counted = ones_all 8 b byte

  pub at_most_three : ones b ≤ 3 → end_byte Zeros ≡ end_meant b
  at_most_three h = ap end_byte (sym (few b (rw counted at h))) ∙ meant b

  pub at_least_five : 5 ≤ ones b → end_byte Ones ≡ end_meant b
  at_least_five h = ap end_byte (sym (many b (rw counted at h))) ∙ meant b

  pub just_four : 3 < ones b → ones b < 5 → end_byte Neither ≡ end_meant b
  just_four h g = ap end_byte (sym (four b (rw counted at h) (rw counted at g))) ∙ meant b

  pub flips_few : ones b ≤ 4 → ones b ≡ end_flips b
  unfolding end_flips
  flips_few h = counted ∙ fewer (ones_in 8 b) (rw counted at h)
    where
      fewer : (n : ℕ) → n ≤ 4 → n ≡ min n (8 - n)
      fewer n h = omega arith

  pub flips_many : 4 < ones b → 8 - ones b ≡ end_flips b
  unfolding end_flips
  flips_many h = ap (λ (n : ℕ). 8 - n) counted ∙ fewer (ones_in 8 b) (rw counted at h)
    where
      fewer : (n : ℕ) → 4 < n → 8 - n ≡ min n (8 - n)
      fewer n h = omega arith

  pub most : ones b ≤ 8
  most = omega (arith, counted, ones_most 8 b)

-- ---- flips from 00 and from FF

-- each of a byte's bits is a flip from 00 or a flip from FF
shared : ℕ → Bool
shared b = eqb (byte_distance b 0x00 + byte_distance b 0xFF) 8

all_shared : T (below shared 256)
unfolding shared byte_distance ones_in
all_shared = tt

module _ (b : ℕ) (byte : b < 256) where
  from_zeros : byte_distance b 0x00 ≡ ones_in 8 b
  unfolding byte_distance
  from_zeros = ap (ones_in 8) (xor_zero_r b)

  from_ones : ones_in 8 b + byte_distance b 0xFF ≡ 8
  unfolding shared
  from_ones = ap (λ (n : ℕ). n + byte_distance b 0xFF) (sym from_zeros) ∙ eqb→eq (byte_distance b 0x00 + byte_distance b 0xFF) 8 (passes shared 256 all_shared b byte)

  -- a byte within three flips of 00 or of FF means that byte
  pub end_near : (r : End) (v : ℕ) → end_byte r ≡ some v → byte_distance b v ≤ 3 → end_of b ≡ r
  end_near Zeros v e h = let z : v ≡ 0x00 = cc in few b (rw from_zeros at (rw z at h))
  end_near Ones v e h = let z : v ≡ 0xFF = cc in let g : byte_distance b 0xFF ≤ 3 = rw z at h in many b (omega (arith, from_ones))
  end_near Neither v e h = absurd (let z : ◌≡◌ {A = ℕ} 0 1 = cc in omega arith)

  -- beyond repair means that both are four flips away
  pub end_far : end_of b ≡ Neither → (byte_distance b 0x00 ≡ 4) × (byte_distance b 0xFF ≡ 4)
  end_far e =
      let over : 3 < ones_in 8 b = lt_of_not-le (λ h. let z = sym (few b h) ∙ e in let n : ◌≡◌ {A = ℕ} 0 1 = cc in omega arith) in
      let under : ones_in 8 b < 5 = lt_of_not-le (λ h. let z = sym (many b h) ∙ e in let n : ◌≡◌ {A = ℕ} 0 1 = cc in omega arith) in
      (omega (arith, from_zeros), omega (arith, from_ones))
