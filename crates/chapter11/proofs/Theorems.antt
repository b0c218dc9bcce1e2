-- Reassembling what was composed gives the packet with its fill cut, also with up to three flips in each Golay word; and
-- where less than four bytes of fill stand, that is the packet itself. Assumes nothing.
use Rattle.std.proofs.Common.{◌≡◌, ℕ, zero, suc, ◌+◌, ◌-◌, ◌*◌, ◌/◌, ◌%◌, ◌<◌, ◌≤◌, Bool, true, false, cond, eqb, leb, List, [], ◌∷◌, ◌++◌, length, get_or, take, drop, sym, refl, ap, ◌∙◌, subst, ap₂, append_assoc, mod-eq_of_lt, lt_of_not-le, arith, lit<, lit≤, length-append, length-drop, take-append-drop, length-take, length-take-le, get_or-drop, drop-cons, get_or-take, take-take, drop-drop, take-add, drop_at, eq-eqb, le-leb, leb-true}
use Rattle.std.specs.Prelude.{Option, Some, None}
use Rattle.chapter11.specs.declared.Refusal.{Refusal}
use Rattle.chapter11.specs.declared.Refusal.TheVariants.{Unfit, Fill}
use native.Mathlib.Decide.{dec_le}
use lib.Bits.{xor_self}
use lib.Count.{ones_in}
use lib.ListN.{get_or-eq_default}
use lib.Seq.{take-append-le, take-append-add}
use Rattle.block.specs.Block.{placed}
use Rattle.digits.specs.Digits.{number}
use Rattle.digits.proofs.Laws.{Bytes}
use Rattle.golay.specs.Golay.{code_word, distance, weight}
use Rattle.wire.specs.Wire.{word}
use Rattle.wire.proofs.Laws.{word_length, word_number, number_back}
use Rattle.chapter11.specs.declared.Fields.{Fields}
use Rattle.chapter11.specs.Packet.{two_at, four_at, two, four, channel, data_length, sum_of, header_sum, fill, is_packet, cut_from, cut_till, cut, all_zero, new_length, header_for, new_header, rest, cut_fill}
use Rattle.chapter11.specs.Source.{gives, refuses, trailer, fields_in, protected, source_packet, composed_of, word_at, number_at, fields_from, fields_of, packet_of, packet_with, reassembled_of}
use Rattle.chapter11.proofs.Packets.{Is, is, sum_size_most}
use Rattle.chapter11.proofs.Sources.{protected_length, source_length, packet_length_lem}

-- ---- a header's numbers, written again

module _ (p : List ℕ) (small : Bytes p) where
  two_back : (i : ℕ) → i + 2 ≤ length p → two (two_at p i) ++ drop (i + 2) p ≡ drop i p
  two_back i h =
      let a = get_or p i 0 in
      let b = get_or p (i + 1) 0 in
      let low : (a + b * 256) % 256 ≡ a = omega (arith, small i) in
      let upper : (a + b * 256) / 256 ≡ b = omega (arith, small i) in
      let high : (a + b * 256) / 256 % 256 ≡ b = ap (λ (x : ℕ). x % 256) upper ∙ mod-eq_of_lt (small (i + 1)) in
      let one : suc i ≡ i + 1 = omega arith in
      let more : suc (i + 1) ≡ i + 2 = omega arith in
      rw (low, high)
      (sym (drop-cons p i 0 (omega arith)
      ∙ ap (λ (k : ℕ). a ∷ drop k p) one
      ∙ ap (λ (l : List ℕ). a ∷ l) (drop-cons p (i + 1) 0 (omega arith) ∙ ap (λ (k : ℕ). b ∷ drop k p) more)))

  two_lt : (i : ℕ) → two_at p i < 65536
  two_lt i = omega (arith, small i, small (i + 1))

  four_back : (i : ℕ) → i + 4 ≤ length p → four (four_at p i) ++ drop (i + 4) p ≡ drop i p
  four_back i h =
      let a = two_at p i in
      let b = two_at p (i + 2) in
      let below = two_lt i in
      let low : (a + b * 65536) % 256 ≡ a % 256 = omega arith in
      let middle : (a + b * 65536) / 256 ≡ a / 256 + b * 256 = omega arith in
      let high : (a + b * 65536) / 256 % 256 ≡ a / 256 % 256 = ap (λ (x : ℕ). x % 256) middle ∙ omega arith in
      let upper : (a + b * 65536) / 65536 ≡ b = omega arith in
      let on : i + 2 + 2 ≡ i + 4 = omega arith in
      rw (low, high, upper)
      (ap (λ (k : ℕ). two a ++ (two b ++ drop k p)) (sym on)
      ∙ ap (λ (l : List ℕ). two a ++ l) (two_back (i + 2) (omega arith))
      ∙ two_back i (omega arith))

-- a part's bytes are bytes
below_all : (p : List ℕ) → Bytes p → (j : ℕ) → get_or (take 24 p) j 0 < 256
below_all p small j = go (dec_le 24 j)
  where
    go : Dec (24 ≤ j) → get_or (take 24 p) j 0 < 256
    go (yes h) = let past : length (take 24 p) ≤ j = omega (arith, length-take 24 p) in rw (get_or-eq_default (take 24 p) 0 past) (lit< tt)
    go (no h) = rw (get_or-take 24 p j 0 (lt_of_not-le h)) (small j)

-- what is written over itself
over : (h s : List ℕ) (n : ℕ) → s ++ drop (n + length s) h ≡ drop n h → placed h n s ≡ h
over h s n e = append_assoc (take n h) s (drop (n + length s) h) ∙ ap (λ (l : List ℕ). take n h ++ l) e ∙ take-append-drop n h

-- ---- the Golay words say the fields

module _ (c t n : ℕ) (hc : c < 65536) (ht : t < 32) (hn : n < 524288) where
  fields_back : fields_from (Some (c / 4096 % 16)) (Some (c % 4096)) (Some (t % 32 * 128 + n / 4096 % 128)) (Some (n % 4096))
      ≡ Some (record { channel = c; trailer = t; size = n })
  fields_back =
      let e₁ : c / 4096 % 16 % 16 * 4096 + c % 4096 ≡ c = omega arith in
      let upper : n / 4096 % 128 ≡ n / 4096 = omega arith in
      let e₂ : (t % 32 * 128 + n / 4096 % 128) / 128 ≡ t = omega arith in
      let e₃ : (t % 32 * 128 + n / 4096 % 128) % 128 * 4096 + n % 4096 ≡ n = omega arith in
      rw (e₁, e₂, e₃)

-- a word within three flips of the one that was sent
abbrev pub Near : List ℕ → ℕ → ℕ → Type 0
Near sp i n = distance (word_at sp i) (code_word n) ≤ 3

module _ (f : Fields) (sp : List ℕ) where
  pub record Repairable : Type 0 where
    pub first : Near sp 0 (f.channel / 4096 % 16)
    pub second : Near sp 3 (f.channel % 4096)
    pub third : Near sp 6 (f.trailer % 32 * 128 + f.size / 4096 % 128)
    pub fourth : Near sp 9 (f.size % 4096)

  pub fields_read : f.channel < 65536 → f.trailer < 32 → f.size < 524288 → Repairable → fields_of sp ≡ Some f
  unfolding fields_of number_at
  fields_read hc ht hn near =
      rw (
        number_back (word_at sp 0) (f.channel / 4096 % 16) (omega arith) near.first,
        number_back (word_at sp 3) (f.channel % 4096) (omega arith) near.second,
        number_back (word_at sp 6) (f.trailer % 32 * 128 + f.size / 4096 % 128) (omega arith) near.third,
        number_back (word_at sp 9) (f.size % 4096) (omega arith) near.fourth,
      )
      (fields_back f.channel f.trailer f.size hc ht hn)

-- the words as they were sent
itself : (w : ℕ) → distance w w ≤ 3
unfolding distance weight ones_in
itself w = rw (xor_self w) (lit≤ tt)

at_word : (sp z : List ℕ) (i n : ℕ) → drop i sp ≡ word n ++ z → word_at sp i ≡ code_word n
unfolding word
at_word sp z i n e =
    let here : i + 0 ≡ i = omega arith in
    let byte : (j : ℕ) → get_or sp (i + j) 0 ≡ get_or (word n ++ z) j 0 = λ j. sym (get_or-drop i sp j 0) ∙ ap (λ (l : List ℕ). get_or l j 0) e in
    ap (λ (x : ℕ). number 0 (x ∷ get_or sp (i + 1) 0 ∷ get_or sp (i + 2) 0 ∷ [])) (ap (λ (k : ℕ). get_or sp k 0) (sym here) ∙ byte 0)
    ∙ ap₂ (λ (x y : ℕ). number 0 (get_or (word n ++ z) 0 0 ∷ x ∷ y ∷ [])) (byte 1) (byte 2)
    ∙ word_number n

sent : (f : Fields) (z : List ℕ) → Repairable f (protected f ++ z)
unfolding protected
sent f z =
    let a = word (f.channel / 4096 % 16) in
    let b = word (f.channel % 4096) in
    let c = word (f.trailer % 32 * 128 + f.size / 4096 % 128) in
    let d = word (f.size % 4096) in
    let sp = a ++ b ++ c ++ d ++ z in
    let split : sp ≡ a ++ (b ++ (c ++ (d ++ z))) = simp append_assoc in
    let at_b : drop 3 sp ≡ b ++ (c ++ (d ++ z)) = ap (drop 3) split ∙ drop_at a (b ++ (c ++ (d ++ z))) 3 (word_length (f.channel / 4096 % 16)) in
    let at_c : drop 6 sp ≡ c ++ (d ++ z) = sym (drop-drop 3 3 sp) ∙ ap (drop 3) at_b ∙ drop_at b (c ++ (d ++ z)) 3 (word_length (f.channel % 4096)) in
    let at_d : drop 9 sp ≡ d ++ z = sym (drop-drop 3 6 sp) ∙ ap (drop 3) at_c ∙ drop_at c (d ++ z) 3 (word_length (f.trailer % 32 * 128 + f.size / 4096 % 128)) in
    record {
      first = rw (at_word sp (b ++ (c ++ (d ++ z))) 0 (f.channel / 4096 % 16) split) (itself _);
      second = rw (at_word sp (c ++ (d ++ z)) 3 (f.channel % 4096) at_b) (itself _);
      third = rw (at_word sp (d ++ z) 6 (f.trailer % 32 * 128 + f.size / 4096 % 128) at_c) (itself _);
      fourth = rw (at_word sp z 9 (f.size % 4096) at_d) (itself _);
    }

-- ---- a packet and its source packet

module _ (p : List ℕ) (small : Bytes p) (i : Is p) where
  abbrev n : ℕ
  n = new_length p

  abbrev h : List ℕ
  h = take 24 p

  h_size : length h ≡ 24
  h_size = length-take-le 24 p i.long

  -- the header's first four bytes, and its bytes 8 to 11
  starts : take 4 h ≡ two 0xEB25 ++ two (channel p)
  starts =
      take-take 4 24 p (lit≤ tt)
      ∙ ap (take 4) (sym (ap (λ (l : List ℕ). two (two_at p 0) ++ l) (two_back p small 2 (omega (arith, i.long))) ∙ two_back p small 0 (omega (arith, i.long))))
      ∙ ap (λ (x : ℕ). two x ++ two (channel p)) i.synced

  sized : take 4 (drop 8 h) ≡ four (data_length p)
  sized =
      ap (λ (l : List ℕ). take 4 (drop 8 l)) (take-add 8 16 p)
      ∙ ap (take 4) (drop_at (take 8 p) (take 16 (drop 8 p)) 8 (length-take-le 8 p (omega (arith, i.long))))
      ∙ take-take 4 16 (drop 8 p) (lit≤ tt)
      ∙ ap (take 4) (sym (four_back p small 8 (omega (arith, i.long))))

  -- the new header begins with the numbers that reassembling writes
  abbrev g : List ℕ
  g = placed h 4 (four n)

  first_four : length (take 4 h ++ four n) ≡ 8
  first_four = rw (length-append, length-take-le 4 h (omega (arith, h_size)))

  front : take 12 (new_header p) ≡ two 0xEB25 ++ two (channel p) ++ four n ++ four (data_length p)
  unfolding header_for
  front =
      let g_size : 22 ≤ length g = rw (length-append, first_four, length-drop) (omega (arith, h_size)) in
      let inner : 12 ≤ length (take 22 g) = rw (length-take-le 22 g g_size) (lit≤ tt) in
      let outer : 12 ≤ length (take 22 g ++ two (header_sum g)) = rw length-append (omega arith) in
      take-append-le 12 (take 22 g ++ two (header_sum g)) (drop 24 g) outer
      ∙ take-append-le 12 (take 22 g) (two (header_sum g)) inner
      ∙ take-take 12 22 g (lit≤ tt)
      ∙ ap (λ (k : ℕ). take (k + 4) g) (sym first_four)
      ∙ take-append-add (take 4 h ++ four n) (drop 8 h) 4
      ∙ ap₂ (λ (x y : List ℕ). x ++ four n ++ y) starts sized

  module _ (sp : List ℕ) (size : length sp ≡ n) (behind : drop 12 sp ≡ drop 12 (new_header p) ++ rest p) where
    is_packet_lem : packet_of (fields_in p) sp ≡ cut_fill p
    unfolding packet_of
    is_packet_lem =
        let x = two 0xEB25 ++ two (channel p) in
        let y = four (data_length p) in
        ap₂ (λ (m : ℕ) (l : List ℕ). x ++ four m ++ y ++ l) size behind
        ∙ sym (append_assoc (x ++ four n ++ y) (drop 12 (new_header p)) (rest p))
        ∙ ap (λ (l : List ℕ). l ++ drop 12 (new_header p) ++ rest p) (sym front)
        ∙ ap (λ (l : List ℕ). l ++ rest p) (take-append-drop 12 (new_header p))

    pub repaired : (room : ℕ) → length sp ≤ room → Repairable (fields_in p) sp → reassembled_of sp room ≡ gives (cut_fill p)
    unfolding reassembled_of
    repaired room fit near =
        let long : 24 ≤ length sp = omega (arith, size) in
        let c_lt = two_lt p small 2 in
        let sum = sum_size_most (get_or p 14 0) in
        let t_lt : trailer p < 32 = omega arith in
        let d_lt : data_length p < 524288 = omega (arith, i.fits, i.short) in
        let same : 24 + trailer p + data_length p ≡ length sp = omega (arith, size) in
        rw (
          le-leb 24 (length sp) long,
          fields_read (fields_in p) sp c_lt t_lt d_lt near,
          eq-eqb (24 + trailer p + data_length p) (length sp) same,
          le-leb (length sp) room fit,
        )
        (ap gives is_packet_lem)

-- what is composed is a packet's source packet, and fits
abbrev Composed : List ℕ → ℕ → List ℕ → Type 0
Composed p room sp = (is_packet p ≡ true) × ((new_length p ≤ room) × (sp ≡ source_packet p))

composed_is : (p : List ℕ) (room : ℕ) (sp : List ℕ) → composed_of p room ≡ gives sp → Composed p room sp
unfolding composed_of
composed_is p room sp e = go (is_packet p) (leb (new_length p) room) (all_zero (cut p)) refl refl e
  where
    none : (k : Refusal) → refuses k ≡ gives sp → Composed p room sp
    none k q = let z : ◌≡◌ {A = ℕ} 0 1 = cc in absurd (omega arith)

    go : (a b c : Bool) → is_packet p ≡ a → leb (new_length p) room ≡ b
        → cond a (cond b (cond c (gives (source_packet p)) (refuses Fill)) (refuses Unfit)) (refuses Unfit) ≡ gives sp → Composed p room sp
    go true true true is fit q = (is, (leb-true (new_length p) room fit, cc))
    go true true false is fit q = none Fill q
    go true false c is fit q = none Unfit q
    go false b c is fit q = none Unfit q

pub composed_fits : (p : List ℕ) (room : ℕ) (sp : List ℕ) → composed_of p room ≡ gives sp → length sp ≤ room
composed_fits p room sp e =
    let c = composed_is p room sp e in
    omega (arith, c.1.0, ap length c.1.1, source_length p (is p c.0))

-- and what is reassembled fits too
pub reassembled_fits : (sp : List ℕ) (room : ℕ) (s : List ℕ) → reassembled_of sp room ≡ gives s → length s ≤ room
unfolding reassembled_of
reassembled_fits sp room s e = go (leb 24 (length sp)) refl e
  where
    none_given : refuses Unfit ≡ gives s → length s ≤ room
    none_given q = let z : ◌≡◌ {A = ℕ} 0 1 = cc in absurd (omega arith)

    said : (f : Fields) → 24 ≤ length sp → (a b : Bool) → leb (length sp) room ≡ b
        → cond a (cond b (gives (packet_of f sp)) (refuses Unfit)) (refuses Unfit) ≡ gives s → length s ≤ room
    said f long true true fit q =
        let same : packet_of f sp ≡ s = cc in
        omega (arith, ap length same, packet_length_lem f sp (omega arith), leb-true (length sp) room fit)
    said f long true false fit q = none_given q
    said f long false b fit q = none_given q

    with_fields : (o : Option Fields) → 24 ≤ length sp → packet_with o sp room ≡ gives s → length s ≤ room
    with_fields None long q = none_given q
    with_fields (Some f) long q = said f long (eqb (24 + f.trailer + f.size) (length sp)) (leb (length sp) room) refl q

    go : (t : Bool) → leb 24 (length sp) ≡ t → cond t (packet_with (fields_of sp) sp room) (refuses Unfit) ≡ gives s → length s ≤ room
    go true h q = with_fields (fields_of sp) (leb-true 24 (length sp) h) q
    go false h q = none_given q

behind_words : (p : List ℕ) → drop 12 (source_packet p) ≡ drop 12 (new_header p) ++ rest p
unfolding source_packet
behind_words p =
    ap (drop 12) (append_assoc (protected (fields_in p)) (drop 12 (new_header p)) (rest p))
    ∙ drop_at (protected (fields_in p)) (drop 12 (new_header p) ++ rest p) 12 (protected_length (fields_in p))

as_sent : (p : List ℕ) → Repairable (fields_in p) (source_packet p)
unfolding source_packet
as_sent p =
    subst (Repairable (fields_in p)) (sym (append_assoc (protected (fields_in p)) (drop 12 (new_header p)) (rest p)))
    (sent (fields_in p) (drop 12 (new_header p) ++ rest p))

-- reassembling what was composed, into any buffer that it fits, gives the packet with its fill cut
pub back : (p : List ℕ) (room : ℕ) (sp : List ℕ) (other : ℕ) → Bytes p → composed_of p room ≡ gives sp → length sp ≤ other
    → reassembled_of sp other ≡ gives (cut_fill p)
back p room sp other small e fit =
    let c = composed_is p room sp e in
    let i = is p c.0 in
    rw c.1.1
    (repaired p small i (source_packet p) (source_length p i) (behind_words p) other (rw c.1.1 at fit) (as_sent p))

-- ---- less than four bytes of fill

sum_same : (p : List ℕ) (k : ℕ) → 2 * k ≤ 24 → sum_of k (take 24 p) ≡ sum_of k p
unfolding sum_of
sum_same p zero h = refl
sum_same p (suc k) h =
    rw (sum_same p k (omega arith), get_or-take 24 p (2 * k) 0 (omega arith), get_or-take 24 p (2 * k + 1) 0 (omega arith))

-- a packet with less than four bytes of fill stays as it is
pub uncut : (p : List ℕ) → Bytes p → is_packet p ≡ true → fill p < 4 → cut_fill p ≡ p
unfolding header_for rest
uncut p small good few =
    let i = is p good in
    let h = take 24 p in
    let h_size : length h ≡ 24 = length-take-le 24 p i.long in
    let same : new_length p ≡ length p = omega (arith, i.fits) in
    let byte : (j : ℕ) → j < 24 → get_or h j 0 ≡ get_or p j 0 = λ j below. get_or-take 24 p j 0 below in
    let bytes : Bytes h = λ j. below_all p small j in
    let told : four_at h 4 ≡ new_length p = rw (byte 4 (lit< tt), byte 5 (lit< tt), byte 6 (lit< tt), byte 7 (lit< tt)) (i.told ∙ sym same) in
    let first : placed h 4 (four (new_length p)) ≡ h = rw (← told) (over h (four (four_at h 4)) 4 (four_back h bytes 4 (omega arith))) in
    let right : two_at h 22 ≡ header_sum h = rw (byte 22 (lit< tt), byte 23 (lit< tt)) (i.right ∙ sym (sum_same p 11 (lit≤ tt))) in
    let second : placed h 22 (two (header_sum h)) ≡ h = rw (← right) (over h (two (two_at h 22)) 22 (two_back h bytes 22 (omega arith))) in
    let whole : cut_from p ≡ cut_till p = omega (arith, i.fits) in
    let on : 24 + (cut_from p - 24) ≡ cut_till p = omega (arith, i.fits) in
    let behind : take (cut_from p - 24) (drop 24 p) ++ drop (cut_till p) p ≡ drop 24 p =
    ap (λ (l : List ℕ). take (cut_from p - 24) (drop 24 p) ++ l) (ap (λ (k : ℕ). drop k p) (sym on) ∙ sym (drop-drop (cut_from p - 24) 24 p))
    ∙ take-append-drop (cut_from p - 24) (drop 24 p) in
    ap₂ (λ (x y : List ℕ). x ++ y) (ap (λ (x : List ℕ). placed x 22 (two (header_sum x))) first ∙ second) behind
    ∙ take-append-drop 24 p

-- so it comes back as it went
pub same_back : (p : List ℕ) (room : ℕ) (sp : List ℕ) (other : ℕ) → Bytes p → composed_of p room ≡ gives sp → fill p < 4 → length sp ≤ other
    → reassembled_of sp other ≡ gives p
same_back p room sp other small e few fit =
    back p room sp other small e fit ∙ ap gives (uncut p small (composed_is p room sp e).0 few)
