-- A number is spelled by its ten: the digits that are kept and its own last one, whatever is then put over the bytes behind. The
-- ten of a number that was put. Assumes nothing.
use Rattle.std.proofs.Common.{◌≡◌, ℕ, suc, ◌+◌, ◌-◌, ◌/◌, ◌%◌, ◌<◌, ◌≤◌, Bool, true, false, cond, eqb, leb, List, [], ◌∷◌, ◌++◌, length, get_or, take, drop, set, sym, refl, ap, ◌∙◌, ap₂, append_assoc, arith, length-append, length-drop, length-set, length-take-le, get_or-drop, drop-cons, take-take, take_at, drop_at, eq-eqb, ne_eqb, leb-false, leb-true}
use lib.Seq.{get_or-append_seam}
use Rattle.block.specs.Block.{placed, put}
use Rattle.block.specs.Decimal.{decimal}
use Rattle.block.proofs.Decimals.{decimal_most, decimal_some}
use Rattle.block.proofs.Laws.{placed_twice, overlaid, block_of}
use Rattle.block.proofs.Straight.{one_set, one_digit, last_digit, at_most_eight}
use Rattle.listing.specs.declared.Ten.{Ten}
use Rattle.listing.specs.Tens.{heads, Kept, Begun}
use Rattle.listing.proofs.Laws.{put_held, put_long, put_bytes}

-- ---- eight bytes, one by one

one_by : (s : List ℕ) (i j m : ℕ) → i < length s → suc i ≡ j → take (suc m) (drop i s) ≡ get_or s i 0 ∷ take m (drop j s)
one_by s i j m h e = ap (take (suc m)) (drop-cons s i 0 h) ∙ ap (λ (x : ℕ). get_or s i 0 ∷ take m (drop x s)) e

pub eight_are : (s : List ℕ) (at : ℕ) → at + 8 ≤ length s
    → get_or s at 0 ∷ get_or s (at + 1) 0 ∷ get_or s (at + 2) 0 ∷ get_or s (at + 3) 0 ∷ get_or s (at + 4) 0 ∷ get_or s (at + 5) 0 ∷ get_or s (at + 6) 0 ∷ get_or s (at + 7) 0 ∷ []
    ≡ take 8 (drop at s)
eight_are s at h =
    sym
    (one_by s at (at + 1) 7 (omega arith) (omega arith)
    ∙ ap (λ (x : List ℕ). get_or s at 0 ∷ x) (one_by s (at + 1) (at + 2) 6 (omega arith) (omega arith)
    ∙ ap (λ (x : List ℕ). get_or s (at + 1) 0 ∷ x) (one_by s (at + 2) (at + 3) 5 (omega arith) (omega arith)
    ∙ ap (λ (x : List ℕ). get_or s (at + 2) 0 ∷ x) (one_by s (at + 3) (at + 4) 4 (omega arith) (omega arith)
    ∙ ap (λ (x : List ℕ). get_or s (at + 3) 0 ∷ x) (one_by s (at + 4) (at + 5) 3 (omega arith) (omega arith)
    ∙ ap (λ (x : List ℕ). get_or s (at + 4) 0 ∷ x) (one_by s (at + 5) (at + 6) 2 (omega arith) (omega arith)
    ∙ ap (λ (x : List ℕ). get_or s (at + 5) 0 ∷ x) (one_by s (at + 6) (at + 7) 1 (omega arith) (omega arith)
    ∙ ap (λ (x : List ℕ). get_or s (at + 6) 0 ∷ x) (one_by s (at + 7) (at + 8) 0 (omega arith) (omega arith)))))))))

-- ---- a number's last digit, behind the others

split : (n : ℕ) → n < 18446744073709551616 → decimal n ≡ heads (n / 10) ++ (48 + n % 10) ∷ []
split n few = go (leb 10 n) refl
  where
    go : (t : Bool) → leb 10 n ≡ t → decimal n ≡ cond (eqb (n / 10) 0) [] (decimal (n / 10)) ++ (48 + n % 10) ∷ []
    go true e = let h = leb-true 10 n e in rw (ne_eqb (n / 10) 0 (λ z. omega (arith, z, h))) (last_digit n h few)
    go false e = let h = leb-false 10 n e in rw (eq-eqb (n / 10) 0 (omega (arith, h))) (one_digit n h)

-- ---- a number that was put

module _ (d : List ℕ) (at n : ℕ) (y : List ℕ) (r : ℕ) (room : at + 20 ≤ length d) (e : block_of y r ≡ put d at (decimal n)) where
  fit : at + length (decimal n) ≤ length d
  fit = omega (arith, decimal_most n)

  stop : r ≡ at + length (decimal n)
  stop = put_held d y (decimal n) at r fit e

  same : length y ≡ length d
  same = put_long d y (decimal n) at r fit e

  pub put_some : 1 ≤ r
  put_some = omega (arith, stop, decimal_some n)

  pub put_in : r ≤ length y
  put_in = omega (arith, stop, same, fit)

  pub put_behind : at ≤ r
  put_behind = omega (arith, stop)

  pub begun_put : Begun d at n y r
  begun_put = record {
    held = stop;
    long = same;
    over =
        λ w some h.
        ap₂ (λ (x : List ℕ) (k : ℕ). placed x k w) (put_bytes d y (decimal n) at r fit e) stop
        ∙ placed_twice d at (decimal n) w (omega (arith, stop, h));
  }

  -- and its ten
  module _ (few : n < 100000000) where
    digits : decimal n ≡ heads (n / 10) ++ (48 + n % 10) ∷ []
    digits = split n (omega arith)

    size : length (decimal n) ≡ length (heads (n / 10)) + 1
    size = ap length digits ∙ length-append (heads (n / 10)) ((48 + n % 10) ∷ [])

    before : length (take at d) ≡ at
    before = length-take-le at d (omega arith)

    number_from : drop at y ≡ decimal n ++ drop (at + length (decimal n)) d
    number_from =
        ap (drop at) (put_bytes d y (decimal n) at r fit e ∙ append_assoc (take at d) (decimal n) (drop (at + length (decimal n)) d))
        ∙ drop_at (take at d) (decimal n ++ drop (at + length (decimal n)) d) at before

    digits_from : drop at y ≡ heads (n / 10) ++ (48 + n % 10) ∷ drop (at + length (decimal n)) d
    digits_from =
        number_from
        ∙ ap (λ (x : List ℕ). x ++ drop (at + length (decimal n)) d) digits
        ∙ append_assoc (heads (n / 10)) ((48 + n % 10) ∷ []) (drop (at + length (decimal n)) d)

    pub last_is : get_or y (r - 1) 0 ≡ 48 + n % 10
    last_is =
        let place : r - 1 ≡ at + length (heads (n / 10)) = omega (arith, stop, size) in
        ap (λ (i : ℕ). get_or y i 0) place
        ∙ sym (get_or-drop at y (length (heads (n / 10))) 0)
        ∙ ap (λ (x : List ℕ). get_or x (length (heads (n / 10))) 0) digits_from
        ∙ get_or-append_seam (heads (n / 10)) (48 + n % 10) (drop (at + length (decimal n)) d) 0

    text_front : take (r - at - 1) (take 8 (drop at y)) ≡ heads (n / 10)
    text_front =
        let short : r - at - 1 ≤ 8 = omega (arith, stop, at_most_eight n few) in
        let place : length (heads (n / 10)) ≡ r - at - 1 = omega (arith, stop, size) in
        take-take (r - at - 1) 8 (drop at y) short
        ∙ ap (take (r - at - 1)) digits_from
        ∙ take_at (heads (n / 10)) ((48 + n % 10) ∷ drop (at + length (decimal n)) d) (r - at - 1) place

    pub kept_put : (text : List ℕ) → text ≡ take 8 (drop at y) → Kept (record { last = n + (57 - get_or y (r - 1) 0); text = text; places = r - at })
    kept_put text is =
        let tenth : (n + (57 - get_or y (r - 1) 0)) / 10 ≡ n / 10 = omega (arith, last_is) in
        record {
          some = omega (arith, stop, decimal_some n);
          few = omega (arith, stop, at_most_eight n few);
          eight = ap length is ∙ length-take-le 8 (drop at y) (omega (arith, length-drop at y, same));
          nine = omega (arith, last_is);
          digits = ap (take (r - at - 1)) is ∙ text_front ∙ ap heads (sym tenth);
        }

-- ---- a number of the ten that is kept

module _ (t : Ten) (k : Kept t) (n : ℕ) (low : n ≤ t.last) (near : t.last ≤ n + 9) (most : n < 18446744073709551616) where
  tenth : n / 10 ≡ t.last / 10
  tenth = omega (arith, k.nine)

  digit : 48 + n % 10 ≡ 57 - (t.last - n)
  digit = omega (arith, k.nine)

  spelt : decimal n ≡ take (t.places - 1) t.text ++ (57 - (t.last - n)) ∷ []
  spelt =
      split n most
      ∙ ap₂ (λ (q v : ℕ). heads q ++ v ∷ []) tenth digit
      ∙ ap (λ (x : List ℕ). x ++ (57 - (t.last - n)) ∷ []) (sym k.digits)

  long : length (take (t.places - 1) t.text) ≡ t.places - 1
  long = length-take-le (t.places - 1) t.text (omega (arith, k.few, k.eight))

  size_kept : length (decimal n) ≡ t.places
  size_kept =
      let sum = ap length spelt ∙ length-append (take (t.places - 1) t.text) ((57 - (t.last - n)) ∷ []) in
      omega (arith, sum, long, k.some)

  module _ (d : List ℕ) (at : ℕ) (room : at + 20 ≤ length d) (y : List ℕ) (q : ℕ) (e : block_of y q ≡ put d at t.text) where
    text_fit : at + length t.text ≤ length d
    text_fit = omega (arith, k.eight)

    y_long : length y ≡ length d
    y_long = put_long d y t.text at q text_fit e

    pub last_in : at + t.places - 1 < length y
    last_in = omega (arith, y_long, k.few, k.some)

    wrote : set y (at + t.places - 1) (57 - (t.last - n)) ≡ placed y (at + (t.places - 1)) ((57 - (t.last - n)) ∷ [])
    wrote =
        let index : at + t.places - 1 ≡ at + (t.places - 1) = omega (arith, k.some) in
        ap (λ (i : ℕ). set y i (57 - (t.last - n))) index
        ∙ one_set y (at + (t.places - 1)) (57 - (t.last - n)) (omega (arith, last_in, index))

    over_it : (w : List ℕ) → 7 ≤ length w → at + t.places + length w ≤ length d
        → placed (set y (at + t.places - 1) (57 - (t.last - n))) (at + t.places - 1 + 1) w ≡ placed d at (decimal n ++ w)
    over_it w some h =
        let v = 57 - (t.last - n) in
        let next : at + t.places - 1 + 1 ≡ at + (t.places - 1) + 1 = omega (arith, k.some) in
        let fit_y : at + (t.places - 1) + 1 + length w ≤ length y = omega (arith, y_long, k.some) in
        ap₂ (λ (x : List ℕ) (i : ℕ). placed x i w) wrote next
        ∙ placed_twice y (at + (t.places - 1)) (v ∷ []) w fit_y
        ∙ ap (λ (x : List ℕ). placed x (at + (t.places - 1)) (v ∷ w)) (put_bytes d y t.text at q text_fit e)
        ∙ overlaid d t.text (v ∷ w) at (t.places - 1) (omega (arith, k.few, k.eight)) (omega (arith, k.eight)) (omega (arith, k.some))
        ∙ ap (placed d at) (sym (append_assoc (take (t.places - 1) t.text) (v ∷ []) w))
        ∙ ap (λ (x : List ℕ). placed d at (x ++ w)) (sym spelt)

    pub begun_kept : Begun d at n (set y (at + t.places - 1) (57 - (t.last - n))) (at + t.places - 1 + 1)
    begun_kept = record {
      held = omega (arith, size_kept, k.some);
      long = length-set y (at + t.places - 1) (57 - (t.last - n)) ∙ y_long;
      over = λ w some h. over_it w some (omega (arith, k.some, h));
    }
