-- What each test says of a record in a slice. Assumes nothing.
use Prim.Native.Nat.{ℕ, ◌+◌, ◌-◌, ◌/◌, ◌%◌, ◌≤◌, ◌<◌, min}
use mathlib.Core.Path.{◌≡◌, refl, ap, sym, subst, subst⁻¹, ◌∙◌}
use mathlib.Core.Bool.{Bool, true, false, cond}
use mathlib.Core.List.{List, [], ◌∷◌, ◌++◌}
use native.Mathlib.Omega.{arith}
use borrow.Author.Tests.{le-leb, lt-leb, leb-true, eq-eqb, ne_eqb, eqb-true, eqb-false}
use lib.Dec.{eqb, leb}
use lib.ListN.{length, take, drop, get_or, length-append, length-take, length-drop, drop_of_length-le}
use lib.Seq.{take_all, take-nil, get_or-take, length-take-le, take-append_seam, take-append-le, drop-append-le}
use Rattle.block.specs.Block.{Block, placed, put}
use Rattle.block.proofs.Laws.{fits, then, block_of}
use Rattle.digits.specs.Digits.{number}
use Rattle.wire.proofs.Allowing.{both}
use Rattle.house.specs.declared.Record.{Record}
use Rattle.house.specs.declared.Record.TheVariants.{Setup, Ordinary, Low, Draw, Packet, Gap}
use Rattle.house.specs.declared.Place.{Place}
use Rattle.house.specs.declared.Place.TheVariants.{Start, Sending, Listing}
use Rattle.house.specs.declared.Fault.{Fault}
use Rattle.house.specs.declared.Fault.TheVariants.{Mark, Kind, Content, Length}
use Rattle.std.specs.Prelude.{Option, Some, None, Result, Ok, Err}
use Rattle.house.specs.declared.Unwritten.{Unwritten}
use Rattle.house.specs.declared.Unwritten.TheVariants.{NoRoom, OtherLength}
use Rattle.house.specs.Records.{length_of, head_of, record_bytes, is_read, content_fits, length_fits, record_of, ruled, judged_of}
use Rattle.house.specs.Slices.{behind_head, at_hand, data_in, Left, written_in}

abbrev left_of : Result ℕ Unwritten → List ℕ → Left
left_of a b = record { answer = a; bytes = b }

-- ---- the mark

module _ (p : Place) (s : List ℕ) (byte : get_or s 1 0 < 256) where
  no_mark : (number 0 (get_or s 0 0 ∷ get_or s 1 0 ∷ []) ≡ 50951 → ⊥) → Err Mark ≡ judged_of p s
  unfolding judged_of
  no_mark h = rw (ne_eqb _ _ h)

  pub other_first : (get_or s 0 0 ≡ 199 → ⊥) → Err Mark ≡ judged_of p s
  other_first h = no_mark (λ e. h (omega (arith, e)))

  pub other_second : (get_or s 1 0 ≡ 7 → ⊥) → Err Mark ≡ judged_of p s
  other_second h = no_mark (λ e. h (omega (arith, e)))

-- ---- a head's first four bytes at once

-- three of them are the mark and a kind, the fourth is the content
four_bytes : (a b c d k n : ℕ) → a < 256 → b < 256 → c < 256 → d < 256 → n ≡ number 0 (d ∷ c ∷ b ∷ a ∷ []) → n % 0x1000000 ≡ number 0 (k ∷ 7 ∷ 199 ∷ [])
    → (a ≡ 199) × ((b ≡ 7) × ((c ≡ k) × (d ≡ n / 0x1000000 % 256)))
four_bytes a b c d k n ha hb hc hd is e = (omega arith, (omega arith, (omega arith, omega arith)))

module _ (s : List ℕ) (byte : (i : ℕ) → get_or s i 0 < 256) (start n : ℕ)
    (four : start ≡ number 0 (get_or s 3 0 ∷ get_or s 2 0 ∷ get_or s 1 0 ∷ get_or s 0 0 ∷ []))
    (long : n ≡ number 0 (get_or s 4 0 ∷ get_or s 5 0 ∷ get_or s 6 0 ∷ get_or s 7 0 ∷ [])) where
  by_kind : (p : Place) (k : ℕ) → start % 0x1000000 ≡ number 0 (k ∷ 7 ∷ 199 ∷ []) → ruled p k (start / 0x1000000 % 256) n ≡ judged_of p s
  unfolding judged_of
  by_kind p k e =
      let b = four_bytes (get_or s 0 0) (get_or s 1 0) (get_or s 2 0) (get_or s 3 0) k start (byte 0) (byte 1) (byte 2) (byte 3) four e in
      rw (b.0, b.1.0, b.1.1.0, b.1.1.1, ← long)

  pub tp_head : start ≡ 0x000407C7 → n ≤ 32768 → Ok (Packet n) ≡ judged_of Listing s
  unfolding ruled
  tp_head e few = rw (← by_kind Listing 4 (ap (λ (x : ℕ). x % 0x1000000) e), e, le-leb n 32768 few)

  pub draw_head : start ≡ 0x000307C7 → n ≡ 0 → Ok Draw ≡ judged_of Sending s
  unfolding ruled
  draw_head e none = rw (← by_kind Sending 3 (ap (λ (x : ℕ). x % 0x1000000) e), e, none)

  pub ordinary_head : start % 0x1000000 ≡ 0x0107C7 → n ≤ 32768 → Ok (Ordinary (start / 0x1000000 % 256) n) ≡ judged_of Sending s
  unfolding ruled
  ordinary_head e few = rw (← by_kind Sending 1 e, le-leb n 32768 few)

  pub low_head_lem : start % 0x1000000 ≡ 0x0207C7 → n ≤ 32768 → Ok (Low (start / 0x1000000 % 256) n) ≡ judged_of Sending s
  unfolding ruled
  low_head_lem e few = rw (← by_kind Sending 2 e, le-leb n 32768 few)

-- ---- read

pub too_short : (p : Place) (s : List ℕ) → length s < 8 → at_hand p s ≡ Ok None
unfolding at_hand
too_short p s h = rw (lt-leb 8 (length s) h)

by_head : (p : Place) (s : List ℕ) (j g : Result Record Fault) → 8 ≤ length s → j ≡ judged_of p s → j ≡ g → behind_head g (length s) ≡ at_hand p s
unfolding at_hand
by_head p s j g h e is = rw (le-leb 8 (length s) h) (ap (λ (x : Result Record Fault). behind_head x (length s)) (sym is ∙ e))

pub is_bad : (p : Place) (s : List ℕ) (f : Fault) {j : Result Record Fault} → 8 ≤ length s → j ≡ judged_of p s → j ≡ Err f → Err f ≡ at_hand p s
is_bad p s f {j} h e is = by_head p s j (Err f) h e is

module _ (p : Place) (s : List ℕ) (r : Record) {j : Result Record Fault} {n : ℕ} (h : 8 ≤ length s) (e : j ≡ judged_of p s) (is : j ≡ Ok r) (long : n ≡ length_of r) where
  pub cut_short : length s - 8 < n → Ok None ≡ at_hand p s
  cut_short l = let less : length s < 8 + length_of r = omega arith in subst (λ x. x ≡ at_hand p s) (rw (lt-leb (8 + length_of r) (length s) less)) (by_head p s j (Ok r) h e is)

  pub is_whole_lem : n ≤ length s - 8 → Ok (Some r) ≡ at_hand p s
  is_whole_lem l = let enough : 8 + length_of r ≤ length s = omega arith in subst (λ x. x ≡ at_hand p s) (rw (le-leb (8 + length_of r) (length s) enough)) (by_head p s j (Ok r) h e is)

-- a whole record and its data are at hand
abbrev needed : Result (Option Record) Fault → ℕ
needed (Ok None) = 0
needed (Err f) = 0
needed (Ok (Some r)) = 8 + length_of r

needed_fits : (p : Place) (s : List ℕ) → needed (at_hand p s) ≤ length s
unfolding at_hand
needed_fits p s = go (leb 8 (length s)) (judged_of p s)
  where
    whole : (r : Record) (t : Bool) → leb (8 + length_of r) (length s) ≡ t → needed (cond t (Ok (Some r)) (Ok None)) ≤ length s
    whole r true e = leb-true (8 + length_of r) (length s) e
    whole r false e = omega arith

    go : (t : Bool) (j : Result Record Fault) → needed (cond t (behind_head j (length s)) (Ok None)) ≤ length s
    go false j = omega arith
    go true (Err f) = omega arith
    go true (Ok r) = whole r (leb (8 + length_of r) (length s)) refl

pub whole_fits : (p : Place) (s : List ℕ) (r : Record) → at_hand p s ≡ Ok (Some r) → 8 + length_of r ≤ length s
whole_fits p s r is = subst (λ (a : Result (Option Record) Fault). needed a ≤ length s) is (needed_fits p s)

-- ---- which record it is

abbrev OfSetup : Result Record Fault → Type 0
OfSetup (Err f) = Unit {0}
OfSetup (Ok r) = r ≡ Setup

abbrev IsSetup : Result (Option Record) Fault → Type 0
IsSetup (Ok None) = Unit {0}
IsSetup (Err f) = Unit {0}
IsSetup (Ok (Some r)) = r ≡ Setup

of_setup : (s : List ℕ) → OfSetup (judged_of Start s)
unfolding judged_of ruled
of_setup s =
    let k = get_or s 2 0 in
    let c = get_or s 3 0 in
    let n = number 0 (get_or s 4 0 ∷ get_or s 5 0 ∷ get_or s 6 0 ∷ get_or s 7 0 ∷ []) in
    go (eqb (number 0 (get_or s 0 0 ∷ get_or s 1 0 ∷ [])) 50951) (eqb k 0) (content_fits k c) (length_fits k n) (cond (eqb k 1) (Ordinary c n) (cond (eqb k 2) (Low c n) (cond (eqb k 3) Draw (cond (eqb k 4) (Packet n) Gap))))
  where
    go : (m t c l : Bool) (r : Record) → OfSetup (cond m (cond t (cond c (cond l (Ok (cond t Setup r)) (Err Length)) (Err Content)) (Err Kind)) (Err Mark))
    go false t c l r = tt
    go true false c l r = tt
    go true true false l r = tt
    go true true true false r = tt
    go true true true true r = refl

is_setup : (s : List ℕ) → IsSetup (at_hand Start s)
unfolding at_hand
is_setup s = go (leb 8 (length s)) (judged_of Start s) (of_setup s)
  where
    whole : (r : Record) (t : Bool) → r ≡ Setup → IsSetup (cond t (Ok (Some r)) (Ok None))
    whole r true e = e
    whole r false e = tt

    go : (t : Bool) (j : Result Record Fault) → OfSetup j → IsSetup (cond t (behind_head j (length s)) (Ok None))
    go false j h = tt
    go true (Err f) h = tt
    go true (Ok r) h = whole r (leb (8 + length_of r) (length s)) h

-- the first record is a setup record
pub start_setup : (s : List ℕ) (r : Record) → at_hand Start s ≡ Ok (Some r) → r ≡ Setup
start_setup s r is = subst IsSetup is (is_setup s)

-- behind the setup the listing program reads TPs and gaps

abbrev pub Read : Record → Type 0
Read Setup = ⊥
Read (Ordinary c n) = ⊥
Read (Low c n) = ⊥
Read Draw = ⊥
Read (Packet n) = Unit {0}
Read Gap = Unit {0}

abbrev OfRead : Result Record Fault → Type 0
OfRead (Err f) = Unit {0}
OfRead (Ok r) = Read r

abbrev IsRead : Result (Option Record) Fault → Type 0
IsRead (Ok None) = Unit {0}
IsRead (Err f) = Unit {0}
IsRead (Ok (Some r)) = Read r

read_kind : (k c n : ℕ) → is_read Listing k ≡ true → Read (record_of k c n)
read_kind k c n e = go (eqb k 4) refl
  where
    go : (t : Bool) → eqb k 4 ≡ t → Read (record_of k c n)
    go true f = subst⁻¹ (λ (x : ℕ). Read (record_of x c n)) (eqb-true k 4 f) tt
    go false f =
        let b = both (leb 4 k) (leb k 5) e in
        let low = leb-true 4 k b.0 in
        let high = leb-true k 5 b.1 in
        let other = eqb-false k 4 f in
        let five : k ≡ 5 = omega arith in
        subst⁻¹ (λ (x : ℕ). Read (record_of x c n)) five tt

of_read : (s : List ℕ) → OfRead (judged_of Listing s)
unfolding judged_of ruled
of_read s =
    let k = get_or s 2 0 in
    let c = get_or s 3 0 in
    let n = number 0 (get_or s 4 0 ∷ get_or s 5 0 ∷ get_or s 6 0 ∷ get_or s 7 0 ∷ []) in
    go (eqb (number 0 (get_or s 0 0 ∷ get_or s 1 0 ∷ [])) 50951) (is_read Listing k) (content_fits k c) (length_fits k n) (record_of k c n) (read_kind k c n)
  where
    go : (m t c l : Bool) (r : Record) → (t ≡ true → Read r) → OfRead (cond m (cond t (cond c (cond l (Ok r) (Err Length)) (Err Content)) (Err Kind)) (Err Mark))
    go false t c l r f = tt
    go true false c l r f = tt
    go true true false l r f = tt
    go true true true false r f = tt
    go true true true true r f = f refl

is_read_lem : (s : List ℕ) → IsRead (at_hand Listing s)
unfolding at_hand
is_read_lem s = go (leb 8 (length s)) (judged_of Listing s) (of_read s)
  where
    whole : (r : Record) (t : Bool) → Read r → IsRead (cond t (Ok (Some r)) (Ok None))
    whole r true e = e
    whole r false e = tt

    go : (t : Bool) (j : Result Record Fault) → OfRead j → IsRead (cond t (behind_head j (length s)) (Ok None))
    go false j h = tt
    go true (Err f) h = tt
    go true (Ok r) h = whole r (leb (8 + length_of r) (length s)) h

pub listing_reads : (s : List ℕ) (r : Record) → at_hand Listing s ≡ Ok (Some r) → Read r
listing_reads s r is = subst IsRead is (is_read_lem s)

abbrev Says : Result Record Fault → Result (Option Record) Fault → Type 0
Says j (Ok None) = Unit {0}
Says j (Err f) = Unit {0}
Says j (Ok (Some r)) = j ≡ Ok r

says : (p : Place) (s : List ℕ) → Says (judged_of p s) (at_hand p s)
unfolding at_hand
says p s = go (leb 8 (length s)) (judged_of p s)
  where
    whole : (r : Record) (t : Bool) → Says (Ok r) (cond t (Ok (Some r)) (Ok None))
    whole r true = refl
    whole r false = tt

    go : (t : Bool) (j : Result Record Fault) → Says j (cond t (behind_head j (length s)) (Ok None))
    go false j = tt
    go true (Err f) = tt
    go true (Ok r) = whole r (leb (8 + length_of r) (length s))

judged_front : (p : Place) (s : List ℕ) (n : ℕ) → 8 ≤ n → judged_of p (take n s) ≡ judged_of p s
unfolding judged_of
judged_front p s n h =
    rw (
      get_or-take n s 0 0 (omega arith),
      get_or-take n s 1 0 (omega arith),
      get_or-take n s 2 0 (omega arith),
      get_or-take n s 3 0 (omega arith),
      get_or-take n s 4 0 (omega arith),
      get_or-take n s 5 0 (omega arith),
      get_or-take n s 6 0 (omega arith),
      get_or-take n s 7 0 (omega arith),
    )

-- the record at the start of s is at hand in its first n bytes, if they hold it
pub front_whole : (p : Place) (s : List ℕ) (n : ℕ) (r : Record) → 8 + length_of r ≤ n → at_hand p s ≡ Ok (Some r) → at_hand p (take n s) ≡ Ok (Some r)
front_whole p s n r enough is =
    let fits = whole_fits p s r is in
    let long : length (take n s) ≡ min n (length s) = length-take n s in
    let good : judged_of p s ≡ Ok r = subst (Says (judged_of p s)) is (says p s) in
    sym (is_whole_lem p (take n s) r (omega arith) (sym good ∙ sym (judged_front p s n (omega arith))) refl refl (omega arith))

-- and with more bytes behind it
pub more_whole : (p : Place) (s more : List ℕ) (r : Record) → at_hand p s ≡ Ok (Some r) → at_hand p (s ++ more) ≡ Ok (Some r)
more_whole p s more r is =
    let fits = whole_fits p s r is in
    let long : length (s ++ more) ≡ length s + length more = length-append s more in
    let good : judged_of p s ≡ Ok r = subst (Says (judged_of p s)) is (says p s) in
    let same : judged_of p s ≡ judged_of p (s ++ more) = ap (judged_of p) (sym (take-append_seam s more)) ∙ judged_front p (s ++ more) (length s) (omega arith) in
    sym (is_whole_lem p (s ++ more) r (omega arith) (sym good ∙ same) refl refl (omega arith))

-- ---- the data

pub no_data : (r : Record) (s : List ℕ) → length s < 8 → take (0 - 0) (drop 0 s) ≡ data_in r s
no_data r s h = let few : length s ≤ 8 = omega arith in rw (drop_of_length-le s few) (sym (take-nil (length_of r)))

pub all_behind : (r : Record) (s : List ℕ) (n : ℕ) → n ≡ length_of r → length s - 8 < n → take (length s - 8) (drop 8 s) ≡ data_in r s
all_behind r s n e h =
    let all : length (drop 8 s) ≤ length_of r = rw length-drop (omega arith) in
    let here : length (drop 8 s) ≤ length s - 8 = rw length-drop (omega arith) in
    take_all (length s - 8) (drop 8 s) here ∙ sym (take_all (length_of r) (drop 8 s) all)

pub as_said : (r : Record) (s : List ℕ) (n : ℕ) → n ≡ length_of r → take (8 + n - 8) (drop 8 s) ≡ data_in r s
as_said r s n e = let k : 8 + n - 8 ≡ length_of r = omega arith in rw k

-- a whole record has all of them
pub whole_data : (p : Place) (s : List ℕ) (r : Record) → at_hand p s ≡ Ok (Some r) → length (data_in r s) ≡ length_of r
whole_data p s r is = length-take-le (length_of r) (drop 8 s) (rw length-drop (omega (arith, whole_fits p s r is)))

-- and they stay with more bytes behind them
pub more_data : (p : Place) (s more : List ℕ) (r : Record) → at_hand p s ≡ Ok (Some r) → data_in r (s ++ more) ≡ data_in r s
more_data p s more r is =
    let fits = whole_fits p s r is in
    ap (take (length_of r)) (drop-append-le 8 s more (omega arith))
    ∙ take-append-le (length_of r) (drop 8 s) more (rw length-drop (omega arith))

-- ---- written

module _ (r : Record) (d out : List ℕ) (at : ℕ) where
  pub other_length : (n : ℕ) → n ≡ length_of r → (length d ≡ n → ⊥) → record { answer = Err OtherLength; bytes = out } ≡ written_in r d out at
  unfolding written_in
  other_length n e h = rw (ne_eqb (length d) (length_of r) (λ same. h (same ∙ sym e)))

  module _ (n : ℕ) (e : n ≡ length_of r) (same : length d ≡ n) where
    pub no_room : leb (at + 8 + length d) (length out) ≡ false → record { answer = Err NoRoom; bytes = out } ≡ written_in r d out at
    unfolding written_in
    no_room h = rw (eq-eqb (length d) (length_of r) (same ∙ e), h)

    -- head and data, put one after the other
    pub both_put : leb (at + 8 + length d) (length out) ≡ true → (y z : List ℕ) (k q : ℕ)
        → block_of y k ≡ put out at (head_of r) → block_of z q ≡ put y k d → record { answer = Ok q; bytes = z } ≡ written_in r d out at
    unfolding written_in
    both_put h y z k q first second =
        let room : at + 8 + length d ≤ length out = leb-true (at + 8 + length d) (length out) h in
        let long : length (record_bytes r d) ≡ 8 + length d = length-append (head_of r) d in
        let whole : at + length (record_bytes r d) ≤ length out = omega arith in
        let end : at + length (record_bytes r d) ≡ at + 8 + length d = omega arith in
        rw (eq-eqb (length d) (length_of r) (same ∙ e), h)
        (ap (λ (b : Block). left_of (Ok b.at) b.bytes) (then out y z (head_of r) d at k q room first second ∙ fits out at (record_bytes r d) whole)
        ∙ ap (λ (m : ℕ). left_of (Ok m) (placed out at (record_bytes r d))) end)
