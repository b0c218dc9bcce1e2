-- Line 0 reads back: its text has 133 bytes, and what they say are its numbers. And what the loops over its digits hold.
-- Assumes nothing.
use Prim.Native.Nat.{ℕ, zero, suc, ◌+◌, ◌-◌, ◌*◌, ◌/◌, ◌%◌, ◌^◌, ◌≤◌, ◌<◌}
use mathlib.Core.Path.{◌≡◌, refl, ap, ap₂, sym, subst⁻¹, ◌∙◌}
use mathlib.Core.Bool.{Bool, true, false, cond}
use mathlib.Core.List.{List, [], ◌∷◌, ◌++◌, append_assoc, append-nil}
use native.Mathlib.Nat.{pow-suc, pow-le-pow_right, div-lt_iff_lt-mul}
use native.Mathlib.Omega.{arith}
use lib.Dec.{eqb}
use lib.ListN.{length, take, drop, set, get_or, length-append, length-set, length-drop, length-take, drop_of_length-le}
use lib.Seq.{length-take-le, take_at, drop_at, drop-append-add, drop-cons, take-suc, set_split}
use borrow.Author.Tests.{le-leb, lt-leb}
use Rattle.std.specs.Prelude.{Some, None}
use lib.Pointwise.{pointwise, pointwise_long, bytes_decides}
use Rattle.block.specs.Block.{Block, put}
use Rattle.block.specs.Decimal.{padded}
use Rattle.block.proofs.Laws.{fits, then, block_of, room}
use Rattle.block.proofs.Decimals.{padded_long}
use Rattle.line_zero.specs.declared.Top.{Top}
use Rattle.line_zero.specs.Top.{digits20, covered_word, since_word, end_word, from_word, size_word, field, top_text, digit_of, value_of, held, number_at, numbers_in, top_in, Small}

-- ---- digits written from the last one on: those behind index i are there, those of rest are not

pub record Wrote (n : ℕ) (ds : List ℕ) (rest i : ℕ) : Type 0 where
  pub all : padded i rest ++ drop i ds ≡ digits20 n
  pub long : length ds ≡ 20
  pub within : i ≤ 20

pub wrote_none : (n : ℕ) (ds : List ℕ) → length ds ≡ 20 → Wrote n ds n 20
unfolding digits20
wrote_none n ds e =
    let short : length ds ≤ 20 = omega arith in
    record { all = ap (λ (x : List ℕ). padded 20 n ++ x) (drop_of_length-le ds short) ∙ append-nil (padded 20 n); long = e; within = omega arith }

pub wrote_one : (n : ℕ) (ds : List ℕ) (rest i : ℕ) → 0 < i → Wrote n ds rest i → Wrote n (set ds (i - 1) (48 + rest % 10)) (rest / 10) (i - 1)
wrote_one n ds rest zero some w = absurd (omega arith)
wrote_one n ds rest (suc j) some w =
    let less : suc j - 1 ≡ j = omega arith in
    let v : ℕ = 48 + rest % 10 in
    let before : j < length ds = omega (arith, w.long, w.within) in
    let front : length (take j ds) ≡ j = length-take-le j ds (omega arith) in
    let opened : drop j (set ds j v) ≡ v ∷ drop (suc j) ds = ap (drop j) (set_split ds j v before) ∙ drop_at (take j ds) (v ∷ drop (suc j) ds) j front in
    subst⁻¹ (λ (k : ℕ). Wrote n (set ds k v) (rest / 10) k) less
    (record {
      all = ap (λ (x : List ℕ). padded j (rest / 10) ++ x) opened ∙ sym (append_assoc (padded j (rest / 10)) (v ∷ []) (drop (suc j) ds)) ∙ w.all;
      long = length-set ds j v ∙ w.long;
      within = omega (arith, w.within);
    })

pub wrote_all : (n : ℕ) (ds : List ℕ) (rest i : ℕ) → i ≤ 0 → Wrote n ds rest i → ds ≡ digits20 n
wrote_all n ds rest zero none w = w.all
wrote_all n ds rest (suc j) none w = absurd (omega arith)

-- ---- digits read from the first one on

pub record Valued (s : List ℕ) (n i : ℕ) : Type 0 where
  pub rest : value_of n (drop i s) ≡ value_of 0 s
  pub small : n < 10 ^ i
  pub within : i ≤ length s

pub valued_none : (s : List ℕ) → Valued s 0 0
valued_none s = record { rest = refl; small = omega arith; within = omega arith }

pub valued_small : (s : List ℕ) (n i : ℕ) → length s ≤ 19 → i < length s → Valued s n i → n < 1000000000000000000
valued_small s n i short before v =
    let most : 10 ^ i ≤ 10 ^ 18 = pow-le-pow_right {n = 10} (omega arith) {i = i} {j = 18} (omega arith) in
    omega (arith, v.small, most)

pub valued_one : (s : List ℕ) (n i d : ℕ) → i < length s → d ≡ digit_of (get_or s i 0) → Valued s n i → Valued s (n * 10 + d) (i + 1)
valued_one s n i d before e v =
    let next : i + 1 ≡ suc i = omega arith in
    let low : d < 10 = omega arith in
    let more : n * 10 + d < 10 ^ i * 10 = omega (arith, v.small) in
    subst⁻¹ (Valued s (n * 10 + d)) next
    (record {
      rest = ap (λ (x : ℕ). value_of (n * 10 + x) (drop (suc i) s)) e ∙ sym (ap (value_of n) (drop-cons s i 0 before)) ∙ v.rest;
      small = subst⁻¹ (λ (x : ℕ). n * 10 + d < x) (pow-suc 10 i) more;
      within = omega arith;
    })

pub valued_all : (s : List ℕ) (n i : ℕ) → length s ≤ i → Valued s n i → n ≡ value_of 0 s
valued_all s n i end v = sym (ap (value_of n) (drop_of_length-le s end)) ∙ v.rest

-- ---- what digits make

value_snoc : (m : ℕ) (ds : List ℕ) (b : ℕ) → value_of m (ds ++ b ∷ []) ≡ value_of m ds * 10 + digit_of b
value_snoc m [] b = refl
value_snoc m (d ∷ ds) b = value_snoc (m * 10 + digit_of d) ds b

at_drop : (i j k : ℕ) (s : List ℕ) → k ≡ i + j → get_or (drop i s) j 0 ≡ get_or s k 0
at_drop zero j k s e = let same : j ≡ k = omega arith in ap (λ (x : ℕ). get_or s x 0) same
at_drop (suc i) j zero s e = absurd (omega arith)
at_drop (suc i) j (suc k) [] e = refl
at_drop (suc i) j (suc k) (x ∷ s) e = at_drop i j k s (omega arith)

-- 20 digits by the first 19 and the last
by_last : (s : List ℕ) (i : ℕ) → i + 20 ≤ length s
    → value_of 0 (take 20 (drop i s)) ≡ value_of 0 (take 19 (drop i s)) * 10 + digit_of (get_or s (i + 19) 0)
by_last s i h =
    let long : 19 < length (drop i s) = omega (arith, length-drop i s) in
    ap (value_of 0) (take-suc (drop i s) 19 0 long)
    ∙ value_snoc 0 (take 19 (drop i s)) (get_or (drop i s) 19 0)
    ∙ ap (λ (x : ℕ). value_of 0 (take 19 (drop i s)) * 10 + digit_of x) (at_drop i 19 (i + 19) s refl)

pub held_it : (n : ℕ) → n ≤ 18446744073709551615 → held n ≡ n
held_it n h = rw (le-leb n 18446744073709551615 h)

pub held_none : (n : ℕ) → 18446744073709551615 < n → held n ≡ 0
held_none n h = rw (lt-leb n 18446744073709551615 h)

-- a number of 20 digits at index i, by what its front and its last digit make
module _ (s : List ℕ) (i n d : ℕ) (h : i + 20 ≤ length s) (front : n ≡ value_of 0 (take (i + 19 - i) (drop i s))) (last : d ≡ digit_of (get_or s (i + 19) 0)) where
  parts : value_of 0 (take 20 (drop i s)) ≡ n * 10 + d
  parts =
      let some : i + 19 - i ≡ 19 = omega arith in
      by_last s i h ∙ ap₂ (λ (x y : ℕ). x * 10 + y) (ap (λ (k : ℕ). value_of 0 (take k (drop i s))) (sym some) ∙ sym front) (sym last)

  pub number_held : n ≤ (18446744073709551615 - d) / 10 → n * 10 + d ≡ number_at i s
  number_held q =
      let low : d < 10 = omega arith in
      let most : n * 10 + d ≤ 18446744073709551615 = omega arith in
      sym (ap held parts ∙ held_it (n * 10 + d) most)

  pub number_not : (18446744073709551615 - d) / 10 < n → 0 ≡ number_at i s
  number_not q =
      let low : d < 10 = omega arith in
      let more : 18446744073709551615 < n * 10 + d = omega arith in
      sym (ap held parts ∙ held_none (n * 10 + d) more)

digit_back : (n : ℕ) → digit_of (48 + n % 10) ≡ n % 10
digit_back n = omega arith

value_back : (k n : ℕ) → n < 10 ^ k → value_of 0 (padded k n) ≡ n
value_back zero n h = omega arith
value_back (suc k) n h =
    let most : n < 10 ^ k * 10 = rw (← pow-suc) h in
    let fewer : n / 10 < 10 ^ k = (div-lt_iff_lt-mul {k = 10} (omega arith)).1 most in
    value_snoc 0 (padded k (n / 10)) (48 + n % 10)
    ∙ ap₂ (λ (x y : ℕ). x * 10 + y) (value_back k (n / 10) fewer) (digit_back n)
    ∙ whole n
  where
    whole : (n : ℕ) → n / 10 * 10 + n % 10 ≡ n
    whole n = omega arith

pub twenty_long : (n : ℕ) → length (digits20 n) ≡ 20
unfolding digits20
twenty_long n = padded_long 20 n

twenty_back : (n : ℕ) → n < 18446744073709551616 → held (value_of 0 (digits20 n)) ≡ n
unfolding digits20
twenty_back n h = ap held (value_back 20 n (omega arith)) ∙ held_it n (omega arith)

-- ---- a field of line 0

module _ (w : List ℕ) (n : ℕ) (more : List ℕ) where
  -- the number behind its word
  field_number : (i : ℕ) → length w ≡ i → n < 18446744073709551616 → number_at i (field w n more) ≡ n
  field_number i e small =
      ap (λ (x : List ℕ). held (value_of 0 (take 20 x))) (drop_at w (digits20 n ++ more) i e)
      ∙ ap (λ (x : List ℕ). held (value_of 0 x)) (take_at (digits20 n) more 20 (twenty_long n))
      ∙ twenty_back n small

  -- what stands behind it
  field_behind : (i j : ℕ) → length w + (20 + j) ≡ i → drop i (field w n more) ≡ drop j more
  field_behind i j e =
      ap (λ (k : ℕ). drop k (field w n more)) (sym e)
      ∙ drop-append-add w (digits20 n ++ more) (20 + j)
      ∙ ap (λ (k : ℕ). drop (k + j) (digits20 n ++ more)) (sym (twenty_long n))
      ∙ drop-append-add (digits20 n) more j

  field_past : (i j : ℕ) → length w + (20 + j) ≡ i → number_at i (field w n more) ≡ number_at j more
  field_past i j e = ap (λ (x : List ℕ). held (value_of 0 (take 20 x))) (field_behind i j e)

  pub field_long : length (field w n more) ≡ length w + (20 + length more)
  field_long = length-append w (digits20 n ++ more) ∙ ap (λ (k : ℕ). length w + k) (length-append (digits20 n) more ∙ ap (λ (k : ℕ). k + length more) (twenty_long n))

  field_append : (rest : List ℕ) → field w n more ++ rest ≡ field w n (more ++ rest)
  field_append rest = append_assoc w (digits20 n ++ more) rest ∙ ap (λ (x : List ℕ). w ++ x) (append_assoc (digits20 n) more rest)

-- ---- line 0

module _ (t : Top) where
  abbrev with_size : List ℕ → List ℕ
  with_size m = field size_word t.size m

  abbrev with_from : List ℕ → List ℕ
  with_from m = field from_word t.from (with_size m)

  abbrev with_end : List ℕ → List ℕ
  with_end m = field end_word t.end (with_from m)

  abbrev with_since : List ℕ → List ℕ
  with_since m = field since_word t.since (with_end m)

  abbrev with_all : List ℕ → List ℕ
  with_all m = field covered_word t.covered (with_since m)

  pub top_width : length (top_text t) ≡ 133
  unfolding top_text
  top_width =
      let a = field_long size_word t.size (0x0A ∷ []) in
      let b = field_long from_word t.from (with_size (0x0A ∷ [])) in
      let c = field_long end_word t.end (with_from (0x0A ∷ [])) in
      let d = field_long since_word t.since (with_end (0x0A ∷ [])) in
      let e = field_long covered_word t.covered (with_since (0x0A ∷ [])) in
      omega arith

  appended : (m rest : List ℕ) → with_all m ++ rest ≡ with_all (m ++ rest)
  appended m rest =
      field_append covered_word t.covered (with_since m) rest
      ∙ ap (field covered_word t.covered)
      (field_append since_word t.since (with_end m) rest
      ∙ ap (field since_word t.since)
      (field_append end_word t.end (with_from m) rest
      ∙ ap (field end_word t.end)
      (field_append from_word t.from (with_size m) rest
      ∙ ap (field from_word t.from) (field_append size_word t.size m rest))))

  module _ (small : Small t) (m : List ℕ) where
    covered_back : number_at 8 (with_all m) ≡ t.covered
    covered_back = field_number covered_word t.covered (with_since m) 8 refl small.covered

    since_back : number_at 35 (with_all m) ≡ t.since
    since_back = field_past covered_word t.covered (with_since m) 35 7 refl ∙ field_number since_word t.since (with_end m) 7 refl small.since

    end_back : number_at 60 (with_all m) ≡ t.end
    end_back =
        field_past covered_word t.covered (with_since m) 60 32 refl
        ∙ field_past since_word t.since (with_end m) 32 5 refl
        ∙ field_number end_word t.end (with_from m) 5 refl small.end

    from_back : number_at 86 (with_all m) ≡ t.from
    from_back =
        field_past covered_word t.covered (with_since m) 86 58 refl
        ∙ field_past since_word t.since (with_end m) 58 31 refl
        ∙ field_past end_word t.end (with_from m) 31 6 refl
        ∙ field_number from_word t.from (with_size m) 6 refl small.from

    size_back : number_at 112 (with_all m) ≡ t.size
    size_back =
        field_past covered_word t.covered (with_since m) 112 84 refl
        ∙ field_past since_word t.since (with_end m) 84 57 refl
        ∙ field_past end_word t.end (with_from m) 57 32 refl
        ∙ field_past from_word t.from (with_size m) 32 6 refl
        ∙ field_number size_word t.size m 6 refl small.size

    numbers_back : numbers_in (with_all m) ≡ t
    unfolding numbers_in
    numbers_back = rw (covered_back, since_back, end_back, from_back, size_back)

-- ---- line 0 put field by field into a text of its size

abbrev pub piece : List ℕ → ℕ → List ℕ
piece w n = w ++ digits20 n

piece_long : (w : List ℕ) (n : ℕ) → length (piece w n) ≡ length w + 20
piece_long w n = length-append w (digits20 n) ∙ ap (λ (k : ℕ). length w + k) (twenty_long n)

onto : (a w : List ℕ) (n : ℕ) (rest : List ℕ) → a ++ piece w n ++ rest ≡ a ++ field w n rest
onto a w n rest = append_assoc a (piece w n) rest ∙ ap (λ (x : List ℕ). a ++ x) (append_assoc w (digits20 n) rest)

-- where it is full, it is what was put
pub filled : (d s y : List ℕ) (r : ℕ) → block_of y r ≡ put d 0 s → length s ≡ length d → y ≡ s
filled d s y r e full =
    let fit : 0 + length s ≤ length d = omega arith in
    let end : length d ≤ 0 + length s = omega arith in
    ap (λ (b : Block). b.bytes) (e ∙ fits d 0 s fit) ∙ ap (λ (x : List ℕ). s ++ x) (drop_of_length-le d end) ∙ append-nil s

module _ (t : Top) (d : List ℕ) (size : length d ≡ 133) where
  abbrev s₁ : List ℕ
  s₁ = piece covered_word t.covered

  abbrev s₂ : List ℕ
  s₂ = s₁ ++ piece since_word t.since

  abbrev s₃ : List ℕ
  s₃ = s₂ ++ piece end_word t.end

  abbrev s₄ : List ℕ
  s₄ = s₃ ++ piece from_word t.from

  abbrev s₅ : List ℕ
  s₅ = s₄ ++ piece size_word t.size

  l₁ : length s₁ ≡ 28
  l₁ = piece_long covered_word t.covered

  l₂ : length s₂ ≡ 55
  l₂ = omega (arith, length-append s₁ (piece since_word t.since), piece_long since_word t.since, l₁)

  l₃ : length s₃ ≡ 80
  l₃ = omega (arith, length-append s₂ (piece end_word t.end), piece_long end_word t.end, l₂)

  l₄ : length s₄ ≡ 106
  l₄ = omega (arith, length-append s₃ (piece from_word t.from), piece_long from_word t.from, l₃)

  l₅ : length s₅ ≡ 132
  l₅ = omega (arith, length-append s₄ (piece size_word t.size), piece_long size_word t.size, l₄)

  module _ (y₁ : List ℕ) (r₁ : ℕ) (e₁ : block_of y₁ r₁ ≡ put d 0 s₁) where
    pub room₁ : r₁ + 27 ≤ length y₁
    room₁ = room d y₁ s₁ 0 r₁ 27 e₁ (omega (arith, l₁))

    module _ (y₂ : List ℕ) (r₂ : ℕ) (e₂ : block_of y₂ r₂ ≡ put y₁ r₁ (piece since_word t.since)) where
      p₂ : block_of y₂ r₂ ≡ put d 0 s₂
      p₂ = then d y₁ y₂ s₁ (piece since_word t.since) 0 r₁ r₂ (omega (arith, l₁, piece_long since_word t.since)) e₁ e₂

      pub room₂ : r₂ + 25 ≤ length y₂
      room₂ = room d y₂ s₂ 0 r₂ 25 p₂ (omega (arith, l₂))

      module _ (y₃ : List ℕ) (r₃ : ℕ) (e₃ : block_of y₃ r₃ ≡ put y₂ r₂ (piece end_word t.end)) where
        p₃ : block_of y₃ r₃ ≡ put d 0 s₃
        p₃ = then d y₂ y₃ s₂ (piece end_word t.end) 0 r₂ r₃ (omega (arith, l₂, piece_long end_word t.end)) p₂ e₃

        pub room₃ : r₃ + 26 ≤ length y₃
        room₃ = room d y₃ s₃ 0 r₃ 26 p₃ (omega (arith, l₃))

        module _ (y₄ : List ℕ) (r₄ : ℕ) (e₄ : block_of y₄ r₄ ≡ put y₃ r₃ (piece from_word t.from)) where
          p₄ : block_of y₄ r₄ ≡ put d 0 s₄
          p₄ = then d y₃ y₄ s₃ (piece from_word t.from) 0 r₃ r₄ (omega (arith, l₃, piece_long from_word t.from)) p₃ e₄

          pub room₄ : r₄ + 26 ≤ length y₄
          room₄ = room d y₄ s₄ 0 r₄ 26 p₄ (omega (arith, l₄))

          pub whole_top : (y₅ y₆ : List ℕ) (r₅ r₆ : ℕ) → block_of y₅ r₅ ≡ put y₄ r₄ (piece size_word t.size) → block_of y₆ r₆ ≡ put y₅ r₅ (0x0A ∷ []) → y₆ ≡ top_text t
          unfolding top_text
          whole_top y₅ y₆ r₅ r₆ e₅ e₆ =
              let p₅ = then d y₄ y₅ s₄ (piece size_word t.size) 0 r₄ r₅ (omega (arith, l₄, piece_long size_word t.size)) p₄ e₅ in
              let p₆ = then d y₅ y₆ s₅ (0x0A ∷ []) 0 r₅ r₆ (omega (arith, l₅)) p₅ e₆ in
              let full : length (s₅ ++ (0x0A ∷ [])) ≡ length d = omega (arith, length-append s₅ (0x0A ∷ []), l₅) in
              let flat : s₅ ++ (0x0A ∷ []) ≡ with_all t (0x0A ∷ []) =
              onto s₄ size_word t.size (0x0A ∷ [])
              ∙ onto s₃ from_word t.from (with_size t (0x0A ∷ []))
              ∙ onto s₂ end_word t.end (with_from t (0x0A ∷ []))
              ∙ onto s₁ since_word t.since (with_end t (0x0A ∷ []))
              ∙ append_assoc covered_word (digits20 t.covered) (with_since t (0x0A ∷ [])) in
              filled d (s₅ ++ (0x0A ∷ [])) y₆ r₆ p₆ full ∙ flat

-- THE LAW: what line 0 says is read back, whatever follows it
pub top_back : (t : Top) (rest : List ℕ) → Small t → top_in (top_text t ++ rest) ≡ Some t
unfolding top_in top_text
top_back t rest small =
    let numbers : numbers_in (top_text t ++ rest) ≡ t = ap numbers_in (appended t (0x0A ∷ []) rest) ∙ numbers_back t small ((0x0A ∷ []) ++ rest) in
    let front : take 133 (top_text t ++ rest) ≡ top_text t = take_at (top_text t) rest 133 (top_width t) in
    ap₂ (λ (x : List ℕ) (z : Top). cond (pointwise eqb x (top_text z)) (Some z) None) front numbers
    ∙ ap (λ (b : Bool). cond b (Some t) None) ((bytes_decides (top_text t) (top_text t)).1 refl)

-- ---- reading line 0

pub numbers_of : (s : List ℕ) (a b c d e : ℕ) → a ≡ number_at 8 s → b ≡ number_at 35 s → c ≡ number_at 60 s → d ≡ number_at 86 s → e ≡ number_at 112 s
    → ◌≡◌ {A = Top} (record { covered = a; since = b; end = c; from = d; size = e }) (numbers_in s)
unfolding numbers_in
numbers_of s a b c d e p q r u v = rw (p, q, r, u, v)

unequal : (xs ys : List ℕ) → (length xs ≡ length ys → ⊥) → pointwise eqb xs ys ≡ false
unequal xs ys other = elim (pointwise eqb xs ys) as (λ t. (t ≡ true → length xs ≡ length ys) → t ≡ false) [ true ↦ λ h. absurd (other (h refl)) | false ↦ λ h. refl ] (pointwise_long eqb xs ys)

pub too_short : (s : List ℕ) → length s < 133 → None ≡ top_in s
unfolding top_in
too_short s h =
    let other : length (take 133 s) ≡ length (top_text (numbers_in s)) → ⊥ = λ e. absurd (omega (arith, e, length-take 133 s, top_width (numbers_in s))) in
    sym (ap (λ (b : Bool). cond b (Some (numbers_in s)) None) (unequal (take 133 s) (top_text (numbers_in s)) other))

pub read_by : (s text : List ℕ) (z : Top) (b : Bool) → z ≡ numbers_in s → text ≡ top_text z → b ≡ pointwise eqb (take 133 s) text → cond b (Some z) None ≡ top_in s
unfolding top_in
read_by s text z b numbers is same =
    let own : text ≡ top_text (numbers_in s) = is ∙ ap top_text numbers in
    ap₂ (λ (x : Bool) (y : Top). cond x (Some y) None) (same ∙ ap (pointwise eqb (take 133 s)) own) numbers
