-- Numbers of bytes, and stretches of a slice. Assumes nothing.
use mathlib.Core.Path.{ap, refl, subst, sym, ◌∙◌, ◌≡◌}
use mathlib.Core.List.{List, [], ◌++◌, ◌∷◌}
use Prim.Native.Nat.{min, suc, ℕ, ◌*◌, ◌+◌, ◌-◌, ◌<◌, ◌^◌, ◌≤◌}
use native.Mathlib.Decide.{dec_le}
use native.Mathlib.Nat.{pow-le-pow_right}
use native.Mathlib.Numerals.{add-one}
use native.Mathlib.Omega.{arith}
use lib.ListN.{drop, drop_of_length-le, get_or, length, length-drop, take}
use lib.Seq.{drop-cons, get_or-drop, get_or-take, length-take-le, paste, take_all, take-take}
use Rattle.std.specs.Prelude.{None, Option, Some}
use Rattle.digits.specs.Digits.{number}
use Rattle.queue.specs.Ring.{copied}
use Rattle.wire.specs.declared.Header.{Header}
use Rattle.receiver.specs.declared.Place.{Place}
use Rattle.receiver.specs.declared.walk.Gain.TheVariants.{Notice}
use Rattle.receiver.specs.declared.walk.Kept.{Kept}
use Rattle.receiver.specs.declared.walk.Phase.TheVariants.{Lost}
use Rattle.receiver.specs.Turns.{opened_of, stops, whole_of}
use Rattle.receiver.specs.InWalk.{pasted}
use Rattle.receiver.specs.State.{kept_by}

pub beyond_read : (at : ℕ) (g : Place) (k : Option Kept) (cap : ℕ) (o : Option Header) → o ≡ None → stops at Lost g None (Notice 12) ≡ whole_of at o g k cap
beyond_read at g k cap None e = refl
beyond_read at g k cap (Some h) e = cc

pub whole_read : (at : ℕ) (g : Place) (k : Option Kept) (cap : ℕ) (h : Header) (o : Option Header) → o ≡ Some h → opened_of at h g k cap ≡ whole_of at o g k cap
whole_read at g k cap h None e = cc
whole_read at g k cap h (Some x) e = let q : h ≡ x = cc in ap (λ (y : Header). opened_of at y g k cap) q

-- the number of some bytes

pub next_small : (k w b : ℕ) → w < 256 ^ k → b < 256 → w * 256 + b < 256 ^ suc k
next_small k w b h g = omega arith

pub small : (k w : ℕ) → w < 256 ^ k → k ≤ 5 → w < 1099511627776
small k w h g = let q = pow-le-pow_right {n = 256} (omega arith) g in omega arith

pub gather_on : (tp : List ℕ) (at n w i z : ℕ) → i < n → at + n ≤ length tp → number w (drop i (take n (drop at tp))) ≡ z
    → number (w * 256 + get_or tp (at + i) 0) (drop (i + 1) (take n (drop at tp))) ≡ z
gather_on tp at n w i z h g e =
    let l : length (take n (drop at tp)) ≡ n = length-take-le n (drop at tp) (omega (arith, length-drop at tp)) in
    let q : i < length (take n (drop at tp)) = omega arith in
    let d = get_or-take n (drop at tp) i 0 h ∙ get_or-drop at tp i 0 in
    rw (add-one, ← d) (rw (drop-cons (take n (drop at tp)) i 0 q) at e)

pub gather_off : (tp : List ℕ) (at n w i z : ℕ) → n ≤ i → at + n ≤ length tp → number w (drop i (take n (drop at tp))) ≡ z → w ≡ z
gather_off tp at n w i z h g e =
    let l : length (take n (drop at tp)) ≡ n = length-take-le n (drop at tp) (omega (arith, length-drop at tp)) in
    let q : drop i (take n (drop at tp)) ≡ [] = empty (drop i (take n (drop at tp))) (omega (arith, length-drop i (take n (drop at tp)))) in
    rw q at e
  where
    empty : (l : List ℕ) → length l ≡ 0 → l ≡ []
    empty [] e = refl
    empty (x ∷ xs) e = absurd (omega arith)

abbrev six : List ℕ → List ℕ
six h = get_or h 0 0 ∷ get_or h 1 0 ∷ get_or h 2 0 ∷ get_or h 3 0 ∷ get_or h 4 0 ∷ get_or h 5 0 ∷ []

all_six : (h : List ℕ) → length h ≡ 6 → six h ≡ h
all_six [] e = absurd (omega arith)
all_six (a ∷ []) e = absurd (omega arith)
all_six (a ∷ b ∷ []) e = absurd (omega arith)
all_six (a ∷ b ∷ c ∷ []) e = absurd (omega arith)
all_six (a ∷ b ∷ c ∷ d ∷ []) e = absurd (omega arith)
all_six (a ∷ b ∷ c ∷ d ∷ f ∷ []) e = absurd (omega arith)
all_six (a ∷ b ∷ c ∷ d ∷ f ∷ g ∷ []) e = refl
all_six (a ∷ b ∷ c ∷ d ∷ f ∷ g ∷ x ∷ xs) e = absurd (omega arith)

pub six_of_lem : (tp : List ℕ) (at : ℕ) → at + 6 ≤ length tp → number 0 (six (take (at + 6 - at) (drop at tp))) ≡ number 0 (take 6 (drop at tp))
six_of_lem tp at l =
    let q : at + 6 - at ≡ 6 = omega arith in
    rw q (ap (number 0) (all_six (take 6 (drop at tp)) (length-take-le 6 (drop at tp) (omega (arith, length-drop at tp)))))

pub none_read : (tp : List ℕ) (at have word : ℕ) → have ≡ 0 → word < 256 ^ have → number 0 (take 6 (drop at tp)) ≡ number word (take (6 - have) (drop at tp))
none_read tp at have word e l =
    let z : word < 256 ^ 0 = subst (λ (n : ℕ). word < 256 ^ n) e l in
    let p : 6 ≡ 6 - have = omega arith in
    let q : 0 ≡ word = omega arith in
    ap (λ (n : ℕ). number 0 (take n (drop at tp))) p ∙ ap (λ (w : ℕ). number w (take (6 - have) (drop at tp))) q

pub three_of : (tp : List ℕ) → 4 ≤ length tp → number 0 (get_or tp 1 0 ∷ get_or tp 2 0 ∷ get_or tp 3 0 ∷ []) ≡ number 0 (take 3 (drop 1 tp))
three_of [] l = absurd (omega arith)
three_of (a ∷ []) l = absurd (omega arith)
three_of (a ∷ b ∷ []) l = absurd (omega arith)
three_of (a ∷ b ∷ c ∷ []) l = absurd (omega arith)
three_of (a ∷ b ∷ c ∷ d ∷ tp) l = refl

pub put_is : (tp : List ℕ) (at n c sum : ℕ) (b : Place) (l : ℕ) (k : Option Kept) (m m' : List ℕ) → k ≡ kept_by c sum b l → at + n ≤ length tp → l + n ≤ length m
    → m' ≡ copied m l (take (at + n - at) (drop at tp)) → m' ≡ pasted k m (drop at tp) n
put_is tp at n c sum b l k m m' e h room g =
    let q : at + n - at ≡ n = omega arith in
    let f = length-take-le n (drop at tp) (omega (arith, length-drop at tp)) in
    let all : min n (length m - l) ≡ n = omega arith in
    let z : m' ≡ paste m l (take n (drop at tp)) n = rw (q, f, all) at g in
    let t = take-take n n (drop at tp) (omega arith) in
    rw e (z ∙ ap (λ (t : List ℕ). take l m ++ t ++ drop (l + n) m) t)

-- as much of a stretch as there is

take_least : (l : List ℕ) (n k : ℕ) → k ≡ min n (length l) → take k l ≡ take n l
take_least l n k e = go (dec_le n (length l))
  where
    go : Dec (n ≤ length l) → take k l ≡ take n l
    go (yes h) = let q : k ≡ n = omega arith in rw q
    go (no h) = take_all k l (omega arith) ∙ sym (take_all n l (omega arith))

pub part_is : (s : List ℕ) (start n i k : ℕ) → i ≡ min start (length s) → k ≡ min n (length s - i) → take (i + k - i) (drop i s) ≡ take n (drop start s)
part_is s start n i k e f = go (dec_le start (length s))
  where
    q : i + k - i ≡ k
    q = omega arith

    go : Dec (start ≤ length s) → take (i + k - i) (drop i s) ≡ take n (drop start s)
    go (yes h) =
        let p : i ≡ start = omega arith in
        rw (q, p) (take_least (drop start s) n k (omega (arith, length-drop start s)))
    go (no h) =
        let a : drop i s ≡ [] = drop_of_length-le s {i = i} (omega arith) in
        let b : drop start s ≡ [] = drop_of_length-le s {i = start} (omega arith) in
        let x : k ≡ 0 = omega arith in
        rw (q, a, b, x) (sym (take_all n [] (omega arith)))
