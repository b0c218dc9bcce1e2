-- The bytes at a packet's own places: as they arrived they are what reading hands out, as they were drawn what was offered.
-- Assumes nothing.
use Prim.Native.Nat.{ℕ, zero, suc, ◌+◌, ◌-◌, ◌≤◌, ◌<◌}
use mathlib.Core.Path.{◌≡◌, refl, sym, ap, ap₂, ◌∙◌, subst}
use mathlib.Core.Bool.{Bool, true, false, cond}
use mathlib.Core.Logic.{◌⊎◌, inl, inr, ⊎_elim}
use mathlib.Core.List.{List, [], ◌∷◌, ◌++◌, append_assoc, flatten, map, map-append}
use native.Mathlib.Decide.{ℕ_discrete}
use native.Mathlib.Omega.{arith}
use lib.ListN.{length, take, drop, get_or, length-append, length-drop, length-map, drop_of_length-le}
use lib.Seq.{take-append-le, drop-append-le, drop_at, drop-cons, get_or_at, append_snoc}
use Rattle.sender.specs.Drawing.{part}
use Rattle.sender.specs.Run.{Tp}
use Rattle.downlink.specs.Hearing.{Packet}
use Rattle.downlink.specs.Damage.{Item, filler, packet, eps, all_eps, drawn, ordinary_of, TpsNear}
use Rattle.downlink.specs.Due.{Place, places_in, places, byte_at, Due, as_offered, Stands, Exactly, lows_in, bodies, due_of, size, ordinary_due}
use Rattle.downlink.specs.Demand.{carries, total}
use Rattle.downlink.proofs.Loads.{ItemOk, ItemsOk}
use Rattle.downlink.proofs.Lows.{split}
use Rattle.downlink.proofs.Fills.{drop_both}
use Rattle.downlink.proofs.Places.{lows_by, ordinary_back}
use Rattle.downlink.proofs.Laws.{flatten_append}
use Rattle.downlink.proofs.Arrive.{handed}
use Rattle.downlink.proofs.Streams.{handed_by}

-- ---- lists

map_take : {A B : Type 0} (f : A → B) (n : ℕ) (l : List A) → map f (take n l) ≡ take n (map f l)
map_take f zero l = refl
map_take f (suc n) [] = refl
map_take f (suc n) (x ∷ l) = ap (λ m. f x ∷ m) (map_take f n l)

pub map_drop : {A B : Type 0} (f : A → B) (n : ℕ) (l : List A) → map f (drop n l) ≡ drop n (map f l)
map_drop f zero l = refl
map_drop f (suc n) [] = refl
map_drop f (suc n) (x ∷ l) = map_drop f n l

get_d_map : {A B : Type 0} (f : A → B) (l : List A) (i : ℕ) (d : A) (e : B) → i < length l → get_or (map f l) i e ≡ f (get_or l i d)
get_d_map f [] i d e h = absurd (omega arith)
get_d_map f (x ∷ l) zero d e h = refl
get_d_map f (x ∷ l) (suc i) d e h = get_d_map f l i d e (omega arith)

-- ---- the packet with the bytes at its places

abbrev pub read : (Place → ℕ) → Due → Packet
read f p = (p.content, map f p.own)

module _ (sent got : List (List ℕ)) where
  stands : (p : Due) → map (byte_at sent) p.own ≡ p.offered → Stands sent got p (read (byte_at got) p)
  stands p e =
      let l = ap length e in
      let m : length (map (byte_at sent) p.own) ≡ length p.own = length-map p.own (byte_at sent) in
      let n : length (map (byte_at got) p.own) ≡ length p.own = length-map p.own (byte_at got) in
      record { content = refl; long = omega arith; same = λ i h. byte i (omega arith); there = e; here = refl }
    where
      at : ℕ → Place
      at i = get_or p.own i (0, 0)

      go : (i : ℕ) → i < length p.own → Dec (byte_at got (at i) ≡ byte_at sent (at i))
          → (get_or (map (byte_at got) p.own) i 0 ≡ get_or p.offered i 0) ⊎ (byte_at got (at i) ≡ byte_at sent (at i) → ⊥)
      go i h (yes same) =
          inl (get_d_map (byte_at got) p.own i (0, 0) 0 h ∙ same ∙ sym (get_d_map (byte_at sent) p.own i (0, 0) 0 h) ∙ ap (λ (l : List ℕ). get_or l i 0) e)
      go i h (no other) = inr other

      byte : (i : ℕ) → i < length p.own → (get_or (map (byte_at got) p.own) i 0 ≡ get_or p.offered i 0) ⊎ (byte_at got (at i) ≡ byte_at sent (at i) → ⊥)
      byte i h = go i h (ℕ_discrete (byte_at got (at i)) (byte_at sent (at i)))

  abbrev first : List Packet → List ℕ
  first [] = []
  first (q ∷ qs) = q.1

  abbrev rest : List Packet → List Packet
  rest [] = []
  rest (q ∷ qs) = qs

  all_stand : (ps : List Due) → map (read (byte_at sent)) ps ≡ map as_offered ps → Exactly sent got ps (map (read (byte_at got)) ps)
  all_stand [] e = tt
  all_stand (p ∷ ps) e = (stands p (ap first e), all_stand ps (ap rest e))

  pub exactly : (ps : List Due) (qs : List Packet) → map (read (byte_at sent)) ps ≡ map as_offered ps → qs ≡ map (read (byte_at got)) ps → Exactly sent got ps qs
  exactly ps qs e q = subst (Exactly sent got ps) (sym q) (all_stand ps e)

-- where nothing was changed: the packets themselves
pub unchanged : (sent : List (List ℕ)) (ps : List Due) (qs : List Packet) → Exactly sent sent ps qs → qs ≡ map as_offered ps
unchanged sent [] [] e = refl
unchanged sent [] (q ∷ qs) e = absurd e
unchanged sent (p ∷ ps) [] e = absurd e
unchanged sent (p ∷ ps) (q ∷ qs) e =
    ap₂ (λ (x : Packet) (y : List Packet). x ∷ y)
    (ap₂ (λ (c : ℕ) (d : List ℕ). (c, d)) e.0.content (sym e.0.here ∙ e.0.there)) (unchanged sent ps qs e.1)

-- ---- low-latency packets

pub lows_read : (f : Place → ℕ) (ps : List Packet) (xs : List Place) → map (read f) (lows_in ps xs) ≡ lows_by ps (map f xs)
lows_read f [] xs = refl
lows_read f (p ∷ ps) xs =
    let n : ℕ = length p.1 in
    ap₂ (λ (d : List ℕ) (l : List Packet). (p.0, d) ∷ l)
    (map_take f n (drop 6 xs) ∙ ap (take n) (map_drop f 6 xs))
    (lows_read f ps (drop (7 + n) xs) ∙ ap (lows_by ps) (map_drop f (7 + n) xs))

pub lows_offered : (ps : List Packet) (xs : List Place) → map as_offered (lows_in ps xs) ≡ ps
lows_offered [] xs = refl
lows_offered (p ∷ ps) xs = ap (λ l. p ∷ l) (lows_offered ps (drop (7 + length p.1) xs))

-- ---- ordinary packets

bodies_map : {A : Type 0} (f : A → ℕ) (es : List (List ℕ)) (xs : List A) → map f (bodies es xs) ≡ bodies es (map f xs)
bodies_map f [] xs = refl
bodies_map f (e ∷ es) xs =
    let n : ℕ = length e - 6 in
    map-append f (take n (drop 6 xs)) (bodies es (drop (length e) xs))
    ∙ ap₂ (λ (a b : List ℕ). a ++ b) (map_take f n (drop 6 xs) ∙ ap (take n) (map_drop f 6 xs)) (bodies_map f es (drop (length e) xs) ∙ ap (bodies es) (map_drop f (length e) xs))

bodies_front : (es : List (List ℕ)) (xs z : List ℕ) → length (flatten es) ≤ length xs → bodies es (xs ++ z) ≡ bodies es xs
unfolding flatten
bodies_front [] xs z h = refl
bodies_front (e ∷ es) xs z h =
    let n : ℕ = length e - 6 in
    let m = length-append e (flatten es) in
    ap₂ (λ (a b : List ℕ). a ++ b)
    (⊎_elim
    (λ p. ap (take n) (drop-append-le 6 xs z (omega arith)) ∙ take-append-le n (drop 6 xs) z (omega (arith, length-drop 6 xs)))
    (λ p. let none : n ≡ 0 = omega arith in ap (λ (k : ℕ). take k (drop 6 (xs ++ z))) none ∙ sym (ap (λ (k : ℕ). take k (drop 6 xs)) none))
    (split 6 (length e)))
    (ap (bodies es) (drop-append-le (length e) xs z (omega arith)) ∙ bodies_front es (drop (length e) xs) z (omega (arith, length-drop (length e) xs)))

item_read : (f : Place → ℕ) (i : Item) (xs : List Place) (z : List ℕ) → size i ≤ length xs → map (read f) (due_of i xs) ≡ handed i (map f xs ++ z)
item_read f (filler e) xs z h = refl
item_read f (packet c d es) xs z h =
    ap (λ l. (c, l) ∷ []) (bodies_map f es xs ∙ sym (bodies_front es (map f xs) z (omega (arith, length-map xs f))))

module _ (t : ℕ → ℕ → Bool) (to : ℕ) (was-drawn : (a b : ℕ) → t a b ≡ true → b ≤ to) where
  -- what was not drawn is not due
  pub ordinary_read : (f : Place → ℕ) (at : ℕ) (is : List Item) (xs : List Place) (z : List ℕ) → to ≤ at + length xs
      → map (read f) (ordinary_due t at is xs) ≡ handed_by t at is (map f xs ++ z)
  ordinary_read f at [] xs z h = refl
  ordinary_read f at (i ∷ is) xs z h =
      map-append (read f) (cond (t at (at + size i)) (due_of i xs) []) (ordinary_due t (at + n) is (drop n xs))
      ∙ ap₂ (λ (a b : List Packet). a ++ b) (go (t at (at + n)) refl)
      (ordinary_read f (at + n) is (drop n xs) (drop (n - length (map f xs)) z) (omega (arith, length-drop n xs)) ∙ ap (handed_by t (at + n) is) behind)
    where
      n : ℕ
      n = size i

      behind : map f (drop n xs) ++ drop (n - length (map f xs)) z ≡ drop n (map f xs ++ z)
      behind = ap (λ l. l ++ drop (n - length (map f xs)) z) (map_drop f n xs) ∙ sym (drop_both n (map f xs) z)

      go : (b : Bool) → t at (at + n) ≡ b → map (read f) (cond b (due_of i xs) []) ≡ cond b (handed i (map f xs ++ z)) []
      go true e = item_read f i xs z (omega (arith, was-drawn at (at + n) e))
      go false e = refl

module _ (P str F : ℕ) (top : P ≤ 2047) (t : ℕ → ℕ → Bool) where
  item_offered : (i : Item) → ItemOk P str F top i → (xs : List Place) (z : List ℕ) → handed i (flatten (eps i) ++ z) ≡ map as_offered (due_of i xs)
  item_offered (filler e) ok xs z = refl
  item_offered (packet c d es) (c₁, c₆, is) xs z =
      ap (λ l. (c, l) ∷ []) (ap (λ (es : List (List ℕ)). bodies es (flatten es ++ z)) is ∙ ordinary_back F c d z)

  -- of the bytes as they were drawn
  pub ordinary_offered_lem : (at : ℕ) (is : List Item) → ItemsOk P str F top is → (xs : List Place) (z : List ℕ)
      → handed_by t at is (flatten (all_eps is) ++ z) ≡ map as_offered (ordinary_due t at is xs)
  unfolding flatten
  ordinary_offered_lem at [] ok xs z = refl
  ordinary_offered_lem at (i ∷ is) ok xs z =
      ap (handed_by t at (i ∷ is)) splits
      ∙ ap₂ (λ (a b : List Packet). a ++ b) (go (t at (at + size i)))
      (ap (handed_by t (at + size i) is) (drop_at (flatten (eps i)) rest (size i) refl) ∙ ordinary_offered_lem (at + size i) is ok.1 (drop (size i) xs) z)
      ∙ sym (map-append as_offered (cond (t at (at + size i)) (due_of i xs) []) (ordinary_due t (at + size i) is (drop (size i) xs)))
    where
      rest : List ℕ
      rest = flatten (all_eps is) ++ z

      splits : flatten (eps i ++ all_eps is) ++ z ≡ flatten (eps i) ++ rest
      splits = ap (λ l. l ++ z) (flatten_append (eps i) (all_eps is)) ∙ append_assoc (flatten (eps i)) (flatten (all_eps is)) z

      go : (b : Bool) → cond b (handed i (flatten (eps i) ++ rest)) [] ≡ map as_offered (cond b (due_of i xs) [])
      go true = item_offered i ok.0 xs rest
      go false = refl

-- ---- the bytes of TPs at their places

row : (tps : List (List ℕ)) (n i : ℕ) (bs r : List ℕ) → get_or tps n [] ≡ r → length r ≡ i + length bs → map (byte_at tps) (places_in n i bs) ≡ drop i r
row tps n i [] r e l = let done : length r ≤ i = omega arith in sym (drop_of_length-le r done)
row tps n i (b ∷ bs) r e l =
    ap₂ (λ (x : ℕ) (y : List ℕ). x ∷ y) (ap (λ (r : List ℕ). get_or r i 0) e) (row tps n (suc i) bs r e (omega arith)) ∙ sym (drop-cons r i 0 (omega arith))

abbrev pub SameLengths : List Tp → List (List ℕ) → Type 0
SameLengths [] rs = rs ≡ []
SameLengths (t ∷ ts) [] = ⊥
SameLengths (t ∷ ts) (r ∷ rs) = (length r ≡ length t.bytes) × SameLengths ts rs

pub near_lengths : (ts : List Tp) (rs : List (List ℕ)) → TpsNear ts rs → SameLengths ts rs
near_lengths [] [] near = refl
near_lengths [] (r ∷ rs) near = absurd near
near_lengths (t ∷ ts) [] near = absurd near
near_lengths (t ∷ ts) (r ∷ rs) near = (near.0.0, near_lengths ts rs near.1)

pub drawn_lengths : (ts : List Tp) → SameLengths ts (drawn ts)
drawn_lengths [] = refl
drawn_lengths (t ∷ ts) = (refl, drawn_lengths ts)

-- of TPs behind others
snoc_length : (pre : List (List ℕ)) (r : List ℕ) (n : ℕ) → length pre ≡ n → length (pre ++ r ∷ []) ≡ suc n
snoc_length pre r n e = omega (arith, length-append pre (r ∷ []))

pub row_at : (pre : List (List ℕ)) (n : ℕ) (t : Tp) (r : List ℕ) (rs : List (List ℕ)) → length pre ≡ n → length r ≡ length t.bytes
    → map (byte_at (pre ++ r ∷ rs)) (places_in n 0 t.bytes) ≡ r
row_at pre n t r rs e l = row (pre ++ r ∷ rs) n 0 t.bytes r (get_or_at pre r rs [] n e) (omega arith)

pub ordinary_at : (pre : List (List ℕ)) (n : ℕ) (ts : List Tp) (rs : List (List ℕ)) → length pre ≡ n → SameLengths ts rs
    → map (byte_at (pre ++ rs)) (ordinary_of ts (places n ts)) ≡ ordinary_of ts rs
ordinary_at pre n [] rs e same = refl
ordinary_at pre n (t ∷ ts) [] e same = absurd same
ordinary_at pre n (t ∷ ts) (r ∷ rs) e same =
    let f : Place → ℕ = byte_at (pre ++ r ∷ rs) in
    let m : ℕ = 4 + length (part t.lleps) in
    map-append f (drop m (places_in n 0 t.bytes)) (ordinary_of ts (places (suc n) ts))
    ∙ ap₂ (λ (a b : List ℕ). a ++ b)
    (map_drop f m (places_in n 0 t.bytes) ∙ ap (drop m) (row_at pre n t r rs e same.0))
    (ap (λ (tps : List (List ℕ)). map (byte_at tps) (ordinary_of ts (places (suc n) ts))) (sym (append_snoc pre r rs))
    ∙ ordinary_at (pre ++ r ∷ []) (suc n) ts rs (snoc_length pre r n e) same.1)

places_length : (n i : ℕ) (bs : List ℕ) → length (places_in n i bs) ≡ length bs
places_length n i [] = refl
places_length n i (b ∷ bs) = ap suc (places_length n (suc i) bs)

pub carries_total : (n : ℕ) (ts : List Tp) → total (carries ts) ≡ length (ordinary_of ts (places n ts))
carries_total n [] = refl
carries_total n (t ∷ ts) =
    let m : ℕ = 4 + length (part t.lleps) in
    omega (
      arith,
      carries_total (suc n) ts,
      length-append (drop m (places_in n 0 t.bytes)) (ordinary_of ts (places (suc n) ts)),
      length-drop m (places_in n 0 t.bytes),
      length-drop m t.bytes,
      places_length n 0 t.bytes,
    )
