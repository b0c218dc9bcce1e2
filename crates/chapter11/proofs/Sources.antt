-- What the Golay words of a source packet say, and what is written behind them. Assumes nothing.
use Rattle.std.proofs.Common.{◌≡◌, ℕ, ◌+◌, ◌-◌, ◌<◌, ◌≤◌, Bool, true, false, eqb, List, [], ◌∷◌, ◌++◌, length, take, drop, sym, refl, ap, ◌∙◌, append_assoc, append-nil, arith, length-append, length-drop, drop_of_length-le, length-take-le, take_all, eq-eqb, ne_eqb, eqb-true, le-leb}
use Rattle.std.specs.Prelude.{◌↔◌, IsTrue, All, Option, Some, None, Ok, Err}
use borrow.Author.Tests.{eqb-false, lt-leb}
use Rattle.block.specs.Block.{Block, placed, put}
use Rattle.block.proofs.Laws.{fits, then, block_of, length_placed}
use Rattle.golay.specs.declared.Word.{Word}
use Rattle.golay.specs.Answers.{Decodes}
use Rattle.wire.specs.Reading.{number_of}
use Rattle.wire.proofs.Answers.{number_is}
use Rattle.wire.proofs.Laws.{word_length}
use Rattle.chapter11.specs.declared.Refusal.{Refusal}
use Rattle.chapter11.specs.declared.Refusal.TheVariants.{Unfit, Fill}
use Rattle.chapter11.specs.declared.Fields.{Fields}
use Rattle.chapter11.specs.declared.packet.Cut.{Cut}
use Rattle.chapter11.specs.Packet.{two, four, channel, data_length, header_sum, is_packet, cut, all_zero, new_length, cut_in, header_for, new_header, rest, cut_from, cut_till}
use Rattle.chapter11.specs.Source.{Left, gives, left, trailer, fields_in, protected, source_packet, composed_of, word_at, number_at, fields_from, fields_of, packet_of, reassembled_of}
use Rattle.std.proofs.lemmas.List.Elements.{All-nil, All-cons, All-head, All-tail}
use Rattle.queue.proofs.Puts.{and_left, and_right}
use Rattle.chapter11.proofs.Packets.{Is, is}

-- ---- the words

pub read_word : (sp : List ℕ) (i w : ℕ) (x : Option Word) → w ≡ word_at sp i → Decodes w x → number_of x ≡ number_at sp i
unfolding number_at
read_word sp i w x e d = sym (number_is w x d) ∙ rw e

-- the four words, read one after the other
module _ (sp : List ℕ) where
  pub beyond_first : None ≡ number_at sp 0 → None ≡ fields_of sp
  unfolding fields_of
  beyond_first e = rw (← e)

  module _ (a : ℕ) (ea : Some a ≡ number_at sp 0) where
    pub beyond_second : None ≡ number_at sp 3 → None ≡ fields_of sp
    unfolding fields_of
    beyond_second e = rw (← ea, ← e)

    module _ (b : ℕ) (eb : Some b ≡ number_at sp 3) where
      pub beyond_third : None ≡ number_at sp 6 → None ≡ fields_of sp
      unfolding fields_of
      beyond_third e = rw (← ea, ← eb, ← e)

      module _ (c : ℕ) (ec : Some c ≡ number_at sp 6) where
        pub beyond_fourth : None ≡ number_at sp 9 → None ≡ fields_of sp
        unfolding fields_of
        beyond_fourth e = rw (← ea, ← eb, ← ec, ← e)

        pub whole : (d : ℕ) (f : Fields) → Some d ≡ number_at sp 9 → Some f ≡ fields_from (Some a) (Some b) (Some c) (Some d) → Some f ≡ fields_of sp
        unfolding fields_of
        whole d f ed e = e ∙ rw (← ea, ← eb, ← ec, ← ed)

-- ---- the fields of a packet

pub fields_is : (p : List ℕ) (c n z : ℕ) → c ≡ channel p → z ≡ data_length p → n ≡ new_length p
    → ◌≡◌ {A = Fields} (record { channel = c; trailer = n - 24 - z; size = z }) (fields_in p)
fields_is p c n z ec ez en =
    let behind : new_length p - 24 - data_length p ≡ trailer p = omega arith in
    rw (ec, en, ez, behind)

-- ---- what is written

-- what is put at the buffer's start is what the call leaves
pub at_start : (d y s : List ℕ) (r : ℕ) → length s ≤ length d → block_of y r ≡ put d 0 s → ◌≡◌ {A = Left} (record { answer = Ok r; buffer = y }) (left d (gives s))
at_start d y s r h e =
    let none : 0 + length s ≡ length s = omega arith in
    ap (λ (k : Block). record { answer = Ok k.at; buffer = k.bytes }) (e ∙ fits d 0 s (omega arith)) ∙ rw none

-- from index n to the end
to_end : (n : ℕ) (s : List ℕ) → take (length s - n) (drop n s) ≡ drop n s
to_end n s = take_all (length s - n) (drop n s) (rw length-drop (omega arith))

put_bytes : (d y s : List ℕ) (n r : ℕ) → n + length s ≤ length d → block_of y r ≡ put d n s → y ≡ placed d n s
put_bytes d y s n r h e = ap (λ (k : Block). k.bytes) (e ∙ fits d n s h)

pub protected_length : (f : Fields) → length (protected f) ≡ 12
unfolding protected
protected_length f = simp (length-append, word_length)

pub header_length : (h : List ℕ) (n : ℕ) → length h ≡ 24 → length (header_for h n) ≡ 24
unfolding header_for
header_length h n e =
    let inner : length (placed h 4 (four n)) ≡ length h = length_placed h 4 (four n) (omega arith) in
    length_placed (placed h 4 (four n)) 22 (two (header_sum (placed h 4 (four n)))) (omega arith) ∙ inner ∙ e

-- the header is written over an array of its size
pub header_is : (p h₀ h₁ h₂ h₃ a b : List ℕ) (n s r₁ r₂ r₃ : ℕ) → 24 ≤ length p → length h₀ ≡ 24
    → block_of h₁ r₁ ≡ put h₀ 0 (take 24 p)
    → a ≡ four n → block_of h₂ r₂ ≡ put h₁ 4 a
    → s ≡ header_sum h₂ → b ≡ two s → block_of h₃ r₃ ≡ put h₂ 22 b
    → h₃ ≡ header_for (take 24 p) n
unfolding header_for
header_is p h₀ h₁ h₂ h₃ a b n s r₁ r₂ r₃ long size e₁ ea e₂ es eb e₃ =
    let h = take 24 p in
    let h_size : length h ≡ 24 = length-take-le 24 p long in
    let all : length h₀ ≤ 0 + length h = omega arith in
    let first : h₁ ≡ h = put_bytes h₀ h₁ h 0 r₁ (omega arith) e₁ ∙ ap (λ (x : List ℕ). h ++ x) (drop_of_length-le h₀ all) ∙ append-nil h in
    let g = placed h 4 (four n) in
    let second : h₂ ≡ g = put_bytes h h₂ (four n) 4 r₂ (omega arith) (e₂ ∙ ap (λ (x : List ℕ). put x 4 a) first ∙ ap (put h 4) ea) in
    let g_size : length g ≡ length h = length_placed h 4 (four n) (omega arith) in
    let sum : b ≡ two (header_sum g) = eb ∙ ap two (es ∙ ap header_sum second) in
    put_bytes g h₃ (two (header_sum g)) 22 r₃ (omega arith) (e₃ ∙ ap (λ (x : List ℕ). put x 22 b) second ∙ ap (put g 22) sum)

-- a source packet is written in four pieces
pub rest_length : (p : List ℕ) → Is p → length (rest p) ≡ new_length p - 24
unfolding rest
rest_length p i =
    let most : cut_from p - 24 ≤ length (drop 24 p) = rw length-drop (omega (arith, i.fits)) in
    rw (length-append, length-take-le (cut_from p - 24) (drop 24 p) most, length-drop) (omega (arith, i.fits))

last_length : (p : List ℕ) → Is p → length (drop 12 (new_header p)) ≡ 12
last_length p i = rw length-drop (omega (arith, header_length (take 24 p) (new_length p) (length-take-le 24 p i.long)))

pub source_length : (p : List ℕ) → Is p → length (source_packet p) ≡ new_length p
unfolding source_packet
source_length p i =
    rw (length-append, length-append)
    (omega (arith, protected_length (fields_in p), last_length p i, rest_length p i))

module _ (p d : List ℕ) (k : Cut) (good : is_packet p ≡ true) (ek : k ≡ cut_in p) (room : k.left ≤ length d) where
  pub source_put : (a h y₁ y₂ y₃ y₄ : List ℕ) (r₁ r₂ r₃ r₄ : ℕ)
      → a ≡ protected (fields_in p) → h ≡ header_for (take 24 p) k.left
      → block_of y₁ r₁ ≡ put d 0 a
      → block_of y₂ r₂ ≡ put y₁ r₁ (take 12 (drop 12 h))
      → block_of y₃ r₃ ≡ put y₂ r₂ (take (k.from - 24) (drop 24 p))
      → block_of y₄ r₄ ≡ put y₃ r₃ (take (length p - k.till) (drop k.till p))
      → block_of y₄ r₄ ≡ put d 0 (source_packet p)
  unfolding source_packet rest
  source_put a h y₁ y₂ y₃ y₄ r₁ r₂ r₃ r₄ ea eh e₁ e₂ e₃ e₄ =
      let i = is p good in
      let w = protected (fields_in p) in
      let l = drop 12 (new_header p) in
      let m = take (cut_from p - 24) (drop 24 p) in
      let z = drop (cut_till p) p in
      let fit : new_length p ≤ length d = omega (arith, ap (λ (c : Cut). c.left) ek) in
      let w-size = protected_length (fields_in p) in
      let l-size = last_length p i in
      let last : take 12 (drop 12 h) ≡ l = take_all 12 (drop 12 h) (rw (eh, ek) (omega arith)) ∙ rw (eh, ek) in
      let m_most : cut_from p - 24 ≤ length (drop 24 p) = rw length-drop (omega (arith, i.fits)) in
      let m-size = length-take-le (cut_from p - 24) (drop 24 p) m_most in
      let z-size = length-drop (cut_till p) p in
      let f₁ : block_of y₁ r₁ ≡ put d 0 w = e₁ ∙ ap (put d 0) ea in
      let f₂ : block_of y₂ r₂ ≡ put y₁ r₁ l = e₂ ∙ ap (put y₁ r₁) last in
      let f₃ : block_of y₃ r₃ ≡ put y₂ r₂ m = e₃ ∙ ap (λ (c : Cut). put y₂ r₂ (take (c.from - 24) (drop 24 p))) ek in
      let f₄ : block_of y₄ r₄ ≡ put y₃ r₃ z = e₄ ∙ ap (put y₃ r₃) (to_end k.till p) ∙ ap (λ (c : Cut). put y₃ r₃ (drop c.till p)) ek in
      let g₂ = then d y₁ y₂ w l 0 r₁ r₂ (omega (arith, i.fits)) f₁ f₂ in
      let g₃ = then d y₂ y₃ (w ++ l) m 0 r₂ r₃ (rw length-append (omega (arith, i.fits))) g₂ f₃ in
      then d y₃ y₄ (w ++ l ++ m) z 0 r₃ r₄ (rw (length-append, length-append) (omega (arith, i.fits))) g₃ f₄ ∙ ap (put d 0) (append_assoc (w ++ l) m z)

-- a packet is written in five
pub packet_length_lem : (f : Fields) (sp : List ℕ) → 12 ≤ length sp → length (packet_of f sp) ≡ length sp
unfolding packet_of
packet_length_lem f sp h = rw (length-append, length-drop) (omega arith)

pub packet_put : (f : Fields) (sp d a₁ a₂ a₃ a₄ y₁ y₂ y₃ y₄ y₅ : List ℕ) (r₁ r₂ r₃ r₄ r₅ : ℕ) → 24 ≤ length sp → length sp ≤ length d
    → a₁ ≡ two 0xEB25 → a₂ ≡ two f.channel → a₃ ≡ four (length sp) → a₄ ≡ four f.size
    → block_of y₁ r₁ ≡ put d 0 a₁ → block_of y₂ r₂ ≡ put y₁ r₁ a₂ → block_of y₃ r₃ ≡ put y₂ r₂ a₃ → block_of y₄ r₄ ≡ put y₃ r₃ a₄
    → block_of y₅ r₅ ≡ put y₄ r₄ (take (length sp - 12) (drop 12 sp))
    → block_of y₅ r₅ ≡ put d 0 (packet_of f sp)
unfolding packet_of
packet_put f sp d a₁ a₂ a₃ a₄ y₁ y₂ y₃ y₄ y₅ r₁ r₂ r₃ r₄ r₅ long room h₁ h₂ h₃ h₄ e₁ e₂ e₃ e₄ e₅ =
    let s₁ = two 0xEB25 in
    let s₂ = two f.channel in
    let s₃ = four (length sp) in
    let s₄ = four f.size in
    let z = length-drop 12 sp in
    let g₂ = then d y₁ y₂ s₁ s₂ 0 r₁ r₂ (omega arith) (e₁ ∙ ap (put d 0) h₁) (e₂ ∙ ap (put y₁ r₁) h₂) in
    let g₃ = then d y₂ y₃ (s₁ ++ s₂) s₃ 0 r₂ r₃ (omega arith) g₂ (e₃ ∙ ap (put y₂ r₂) h₃) in
    let g₄ = then d y₃ y₄ (s₁ ++ s₂ ++ s₃) s₄ 0 r₃ r₄ (omega arith) g₃ (e₄ ∙ ap (put y₃ r₃) h₄) in
    then d y₄ y₅ (s₁ ++ s₂ ++ s₃ ++ s₄) (drop 12 sp) 0 r₄ r₅ (omega arith) g₄ (e₅ ∙ ap (put y₄ r₄) (to_end 12 sp))

-- ---- fill that is zero

zero_all : (s : List ℕ) → all_zero s ≡ true → All (λ b. b ≡ 0) s
zero_all [] e = All-nil (λ b. b ≡ 0)
zero_all (b ∷ bs) e = All-cons (λ x. x ≡ 0) b bs (eqb-true b 0 (and_left (eqb b 0) (all_zero bs) e)) (zero_all bs (and_right (eqb b 0) (all_zero bs) e))

all_zero_of : (s : List ℕ) → All (λ b. b ≡ 0) s → all_zero s ≡ true
all_zero_of [] h = refl
all_zero_of (b ∷ bs) h = rw (eq-eqb b 0 (All-head (λ x. x ≡ 0) b bs h)) (all_zero_of bs (All-tail (λ x. x ≡ 0) b bs h))

pub zero_is : (t : Bool) (s : List ℕ) → (IsTrue t ↔ All (λ b. b ≡ 0) s) → t ≡ all_zero s
zero_is true s e = sym (all_zero_of s (e.0 refl))
zero_is false s e = go (all_zero s) refl
  where
    go : (u : Bool) → all_zero s ≡ u → false ≡ all_zero s
    go true h = e.1 (zero_all s h) ∙ sym h
    go false h = sym h

-- ---- what the two calls leave

abbrev no : Refusal → List ℕ → Left
no k d = record { answer = Err k; buffer = d }

abbrev yes : ℕ → List ℕ → Left
yes r d = record { answer = Ok r; buffer = d }

module _ (p d : List ℕ) where
  pub not_packet : is_packet p ≡ false → no Unfit d ≡ left d (composed_of p (length d))
  unfolding composed_of
  not_packet e = rw e

  module _ (k : Cut) (good : is_packet p ≡ true) (ek : k ≡ cut_in p) where
    cut_is : take (k.till - k.from) (drop k.from p) ≡ cut p
    cut_is = ap (λ (c : Cut). take (c.till - c.from) (drop c.from p)) ek

    pub no_room : length d < k.left → no Unfit d ≡ left d (composed_of p (length d))
    unfolding composed_of
    no_room h =
        let short : length d < new_length p = omega (arith, ap (λ (c : Cut). c.left) ek) in
        rw (good, lt-leb (new_length p) (length d) short)

    module _ (room : k.left ≤ length d) where
      fit : new_length p ≤ length d
      fit = omega (arith, ap (λ (c : Cut). c.left) ek)

      pub not_fill : all_zero (take (k.till - k.from) (drop k.from p)) ≡ false → no Fill d ≡ left d (composed_of p (length d))
      unfolding composed_of
      not_fill e = rw (good, le-leb (new_length p) (length d) fit, sym (ap all_zero cut_is) ∙ e)

      pub composed : (y : List ℕ) (r : ℕ) → all_zero (take (k.till - k.from) (drop k.from p)) ≡ true → block_of y r ≡ put d 0 (source_packet p)
          → yes r y ≡ left d (composed_of p (length d))
      unfolding composed_of
      composed y r e w =
          at_start d y (source_packet p) r (omega (arith, fit, source_length p (is p good))) w
          ∙ rw (good, le-leb (new_length p) (length d) fit, sym (ap all_zero cut_is) ∙ e)

-- the sizes agree, by subtraction
pub agrees : (t s n : ℕ) → 24 ≤ n → t ≤ n - 24 → eqb (n - 24 - t) s ≡ eqb (24 + t + s) n
agrees t s n long fits = go (eqb (24 + t + s) n) refl
  where
    go : (b : Bool) → eqb (24 + t + s) n ≡ b → eqb (n - 24 - t) s ≡ b
    go true e = eq-eqb (n - 24 - t) s (omega (arith, eqb-true (24 + t + s) n e))
    go false e = ne_eqb (n - 24 - t) s (λ same. eqb-false (24 + t + s) n e (omega arith))

module _ (sp d : List ℕ) where
  pub too_short : length sp < 24 → no Unfit d ≡ left d (reassembled_of sp (length d))
  unfolding reassembled_of
  too_short h = rw (lt-leb 24 (length sp) h)

  module _ (long : 24 ≤ length sp) where
    pub beyond : fields_of sp ≡ None → no Unfit d ≡ left d (reassembled_of sp (length d))
    unfolding reassembled_of
    beyond e = rw (le-leb 24 (length sp) long, e)

    module _ (f : Fields) (said : Some f ≡ fields_of sp) where
      pub other_size : eqb (24 + f.trailer + f.size) (length sp) ≡ false → no Unfit d ≡ left d (reassembled_of sp (length d))
      unfolding reassembled_of
      other_size e = rw (le-leb 24 (length sp) long, sym said, e)

      module _ (size : eqb (24 + f.trailer + f.size) (length sp) ≡ true) where
        pub no_room_back : length d < length sp → no Unfit d ≡ left d (reassembled_of sp (length d))
        unfolding reassembled_of
        no_room_back h = rw (le-leb 24 (length sp) long, sym said, size, lt-leb (length sp) (length d) h)

        pub reassembled : (y : List ℕ) (r : ℕ) → length sp ≤ length d → block_of y r ≡ put d 0 (packet_of f sp) → yes r y ≡ left d (reassembled_of sp (length d))
        unfolding reassembled_of
        reassembled y r h w =
            at_start d y (packet_of f sp) r (omega (arith, packet_length_lem f sp (omega arith))) w
            ∙ rw (le-leb 24 (length sp) long, sym said, size, le-leb (length sp) (length d) h)
