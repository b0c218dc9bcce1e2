-- What arrives of damaged items is a stream of readable EPs. Assumes nothing.
use Prim.Native.Nat.{ℕ, zero, suc, ◌+◌, ◌-◌, ◌≤◌, ◌<◌}
use mathlib.Core.Path.{◌≡◌, refl, sym, ap, ◌∙◌}
use mathlib.Core.Bool.{Bool, true, false, cond}
use mathlib.Core.List.{List, [], ◌∷◌, ◌++◌, append-nil, flatten}
use native.Mathlib.Omega.{arith}
use lib.Dec.{leb}
use lib.ListN.{length, take, drop, get_or, replicate, length-append, length-take, length-drop, length-replicate}
use lib.Seq.{take-add}
use borrow.Author.Tests.{leb-true, leb-false}
use Rattle.wire.specs.Wire.{ep}
use Rattle.wire.proofs.Laws.{ep_length}
use Rattle.sender.specs.Offering.{later, pieces}
use Rattle.receiver.specs.declared.kind.Kind.TheVariants.{Middle}
use Rattle.downlink.proofs.plain.Low.{wire}
use Rattle.downlink.specs.Damage.{Item, filler, packet, HeadNear, EpsNear}
use Rattle.downlink.specs.Hearing.{Packet}
use Rattle.downlink.specs.Due.{bodies, size}
use Rattle.downlink.proofs.Trains.{Ep, plain, cells, stream}
use Rattle.downlink.proofs.Items as R
use Rattle.downlink.proofs.Marks.{Cells, ep_cells, eps_cells}
use Rattle.downlink.proofs.Loads.{item_cells}
use Rattle.downlink.proofs.Repair.{head_of, header_reads, kind_fill, kind_complete, kind_first, kind_middle, kind_last, flips_in}

-- what reading hands out of an item, where these bytes arrived
abbrev pub handed : Item → List ℕ → List Packet
handed (filler e) bs = []
handed (packet c d es) bs = (c, bodies es bs) ∷ []

-- sent marks on the bytes that arrived
abbrev pub mix : Cells → List ℕ → Cells
mix [] bs = []
mix (c ∷ cs) [] = []
mix (c ∷ cs) (b ∷ bs) = (c.0, b) ∷ mix cs bs

pub mix_append : (xs ys : Cells) (bs : List ℕ) → length xs ≤ length bs → mix (xs ++ ys) bs ≡ mix xs bs ++ mix ys (drop (length xs) bs)
mix_append [] ys bs p = refl
mix_append (x ∷ xs) ys [] p = absurd (omega arith)
mix_append (x ∷ xs) ys (b ∷ bs) p = ap (λ l. (x.0, b) ∷ l) (mix_append xs ys bs (omega arith))

pub mix_length : (xs : Cells) (bs : List ℕ) → length xs ≤ length bs → length (mix xs bs) ≡ length xs
mix_length [] bs p = refl
mix_length (x ∷ xs) [] p = absurd (omega arith)
mix_length (x ∷ xs) (b ∷ bs) p = ap suc (mix_length xs bs (omega arith))

mix_plain : (ws : List ℕ) (r : Cells) (bs : List ℕ) → length ws ≤ length bs
    → mix (plain wire ws ++ r) bs ≡ plain wire (take (length ws) bs) ++ mix r (drop (length ws) bs)
mix_plain [] r bs p = refl
mix_plain (w ∷ ws) r [] p = absurd (omega arith)
mix_plain (w ∷ ws) r (b ∷ bs) p = ap (λ l. (false, b) ∷ l) (mix_plain ws r bs (omega arith))

mix_ep : (e : List ℕ) (n : ℕ) (r : Cells) (bs : List ℕ) → length e ≡ 6 + n → 6 + n ≤ length bs
    → mix (ep_cells e ++ r) bs ≡ (true, get_or bs 0 0) ∷ plain wire (take 5 (drop 1 bs) ++ take n (drop 6 bs)) ++ mix r (drop (length e) bs)
mix_ep [] n r bs p q = absurd (omega arith)
mix_ep (x ∷ e) n r [] p q = absurd (omega arith)
mix_ep (x ∷ e) n r (b ∷ bs) p q =
    let l : length e ≡ 5 + n = omega arith in
    ap (λ z. (true, b) ∷ z)
    (mix_plain e r bs (omega arith)
    ∙ ap (λ (k : ℕ). plain wire (take k bs) ++ mix r (drop (length e) bs)) l
    ∙ ap (λ z. plain wire z ++ mix r (drop (length e) bs)) (take-add 5 n bs))

head_is : (bs : List ℕ) → 1 ≤ length bs → get_or bs 0 0 ∷ take 5 (drop 1 bs) ≡ take 6 bs
head_is [] p = absurd (omega arith)
head_is (b ∷ bs) p = refl

-- ---- one EP

module _ (c f : ℕ) (d bs : List ℕ) (p : c < 16) (q : f < 4) (s : length d < 65536) (enough : 6 + length d ≤ length bs) (near : HeadNear (ep c f d) bs) where
  abbrev rep : Ep wire
  rep =
      record {
        h = head_of c f (length d) (flips_in c f d bs);
        first = get_or bs 0 0;
        more = take 5 (drop 1 bs);
        load = take (length d) (drop 6 bs);
        six = omega (arith, length-take 5 (drop 1 bs), length-drop 1 bs);
        reads = ap wire.decode (head_is bs (omega arith)) ∙ header_reads c f d bs p q s (omega arith) near;
        sized = omega (arith, length-take (length d) (drop 6 bs), length-drop 6 bs);
      }

  rep_stream : (es : List (List ℕ)) (rs : List (Ep wire)) → stream wire rs ≡ mix (eps_cells es) (drop (length (ep c f d)) bs)
      → stream wire (rep ∷ rs) ≡ mix (eps_cells (ep c f d ∷ es)) bs
  rep_stream es rs ih =
      ap (λ l. cells wire rep ++ l) ih ∙ sym (mix_ep (ep c f d) (length d) (eps_cells es) bs (ep_length c f d) enough)

body_is : (c f : ℕ) (d bs : List ℕ) → take (length (ep c f d) - 6) (drop 6 bs) ≡ take (length d) (drop 6 bs)
body_is c f d bs = let l = ep_length c f d in let e : length (ep c f d) - 6 ≡ length d = omega arith in ap (λ (k : ℕ). take k (drop 6 bs)) e

module _ (F room : ℕ) (f₁ : 1 ≤ F) (f₂ : F ≤ 65535) where
  -- ---- the later pieces of a packet

  record Rested (n c : ℕ) (es : List (List ℕ)) (bs : List ℕ) : Type 0 where
    rs : List (Ep wire)
    rest_ok : R.Rest wire room c n rs
    is_mix : stream wire rs ≡ mix (eps_cells es) bs
    loads_are : R.loads wire room rs ≡ bodies es bs

  rest_cons : (c n : ℕ) (e : Ep wire) (rs : List (Ep wire)) → wire.kind e.h ≡ Middle → c ≡ e.h.content
      → n + e.h.size ≤ room → R.Rest wire room c (n + e.h.size) rs → R.Rest wire room c n (e ∷ rs)
  rest_cons c n e [] k p s r = absurd r
  rest_cons c n e (f ∷ rs) k p s r = (k, p, s, r)

  last_rested : (n c : ℕ) (d bs : List ℕ) → 1 ≤ c → c ≤ 6 → length d < 65536 → n + length d ≤ room
      → length (flatten (ep c 3 d ∷ [])) ≤ length bs → EpsNear (ep c 3 d ∷ []) bs → Rested n c (ep c 3 d ∷ []) bs
  unfolding flatten
  last_rested n c d bs p q s m len near =
      let enough : 6 + length d ≤ length bs = omega (arith, length-append (ep c 3 d) [], ep_length c 3 d) in
      record {
        rs = rep c 3 d bs (omega arith) (omega arith) s enough near.0 ∷ [];
        rest_ok = (kind_last c (length d) (flips_in c 3 d bs) p q, refl, m);
        is_mix = rep_stream c 3 d bs (omega arith) (omega arith) s enough near.0 [] [] refl;
        loads_are = ap (λ l. l ++ []) (sym (body_is c 3 d bs));
      }

  rested : (k n c : ℕ) (d bs : List ℕ) → 1 ≤ c → c ≤ 6 → length d ≤ k + F → n + length d ≤ room
      → length (flatten (later k F c d)) ≤ length bs → EpsNear (later k F c d) bs → Rested n c (later k F c d) bs
  unfolding later flatten
  rested zero n c d bs p q s m len near = last_rested n c d bs p q (omega arith) m len near
  rested (suc k) n c d bs p q s m len near =
      go (leb (length d) F) refl (λ n' d' bs' s' m' len' near'. rested k n' c d' bs' p q s' m' len' near') len near
    where
      two : Bool → List (List ℕ)
      two b = cond b (ep c 3 d ∷ []) (ep c 2 (take F d) ∷ later k F c (drop F d))

      go : (b : Bool) → leb (length d) F ≡ b
          → ((n' : ℕ) (d' bs' : List ℕ) → length d' ≤ k + F → n' + length d' ≤ room → length (flatten (later k F c d')) ≤ length bs'
          → EpsNear (later k F c d') bs' → Rested n' c (later k F c d') bs')
          → length (flatten (two b)) ≤ length bs → EpsNear (two b) bs → Rested n c (two b) bs
      go true t ih len near = last_rested n c d bs p q (omega (arith, leb-true (length d) F t)) m len near
      go false t ih len near =
          let long = leb-false (length d) F t in
          let x : List ℕ = take F d in
          let x_length : length x ≡ F = omega (arith, length-take F d) in
          let e : List ℕ = ep c 2 x in
          let e_length : length e ≡ 6 + length x = ep_length c 2 x in
          let short : length x < 65536 = omega arith in
          let more = length-append e (flatten (later k F c (drop F d))) in
          let enough : 6 + length x ≤ length bs = omega arith in
          let r = ih (n + length x) (drop F d) (drop (length e) bs) (omega (arith, length-drop F d)) (omega (arith, length-drop F d))
          (omega (arith, length-drop (length e) bs)) near.1 in
          record {
            rs = rep c 2 x bs (omega arith) (omega arith) short enough near.0 ∷ r.rs;
            rest_ok = rest_cons c n (rep c 2 x bs (omega arith) (omega arith) short enough near.0) r.rs (kind_middle c (length x) (flips_in c 2 x bs) p q) refl (omega arith) r.rest_ok;
            is_mix = rep_stream c 2 x bs (omega arith) (omega arith) short enough near.0 (later k F c (drop F d)) r.rs r.is_mix;
            loads_are = ap (λ l. take (length x) (drop 6 bs) ++ l) r.loads_are ∙ ap (λ l. l ++ bodies (later k F c (drop F d)) (drop (length e) bs)) (sym (body_is c 2 x bs));
          }

  -- ---- one item

  pub record One (i : Item) (bs : List ℕ) : Type 0 where
    pub ri : R.Item wire room
    pub is_mix : stream wire (R.eps wire room ri) ≡ mix (item_cells i) bs
    pub given_is : R.given wire room ri ≡ handed i bs

  pub fill_arrives : (n : ℕ) (bs : List ℕ) → n ≤ 2047 → size (filler (ep 0 0 (replicate n 0xAA))) ≤ length bs
      → EpsNear (ep 0 0 (replicate n 0xAA) ∷ []) bs → One (filler (ep 0 0 (replicate n 0xAA))) bs
  unfolding flatten
  fill_arrives n bs small len near =
      let d : List ℕ = replicate n 0xAA in
      let l : length d ≡ n = length-replicate n 0xAA in
      let enough : 6 + length d ≤ length bs = omega (arith, length-append (ep 0 0 d) [], ep_length 0 0 d) in
      let s : length d < 65536 = omega arith in
      record {
        ri = R.padding (rep 0 0 d bs (omega arith) (omega arith) s enough near.0) (kind_fill (length d) (flips_in 0 0 d bs));
        is_mix = rep_stream 0 0 d bs (omega arith) (omega arith) s enough near.0 [] [] refl;
        given_is = refl;
      }

  pub packet_arrives : (c : ℕ) (d bs : List ℕ) → 1 ≤ c → c ≤ 6 → length d ≤ room → size (packet c d (pieces F c d)) ≤ length bs
      → EpsNear (pieces F c d) bs → One (packet c d (pieces F c d)) bs
  unfolding pieces flatten
  packet_arrives c d bs p q fits len near = go (leb (length d) F) refl len near
    where
      two : Bool → List (List ℕ)
      two b = cond b (ep c 0 d ∷ []) (ep c 1 (take F d) ∷ later (length d) F c (drop F d))

      go : (b : Bool) → leb (length d) F ≡ b → length (flatten (two b)) ≤ length bs → EpsNear (two b) bs → One (packet c d (two b)) bs
      go true t len near =
          let short : length d < 65536 = omega (arith, leb-true (length d) F t) in
          let enough : 6 + length d ≤ length bs = omega (arith, length-append (ep c 0 d) [], ep_length c 0 d) in
          record {
            ri = R.single (rep c 0 d bs (omega arith) (omega arith) short enough near.0) (kind_complete c (length d) (flips_in c 0 d bs) p q) fits;
            is_mix = rep_stream c 0 d bs (omega arith) (omega arith) short enough near.0 [] [] refl;
            given_is = ap (λ l. (c, l) ∷ []) (sym (append-nil (take (length d) (drop 6 bs))) ∙ ap (λ l. l ++ []) (sym (body_is c 0 d bs)));
          }
      go false t len near =
          let long = leb-false (length d) F t in
          let x : List ℕ = take F d in
          let x_length : length x ≡ F = omega (arith, length-take F d) in
          let e : List ℕ = ep c 1 x in
          let e_length : length e ≡ 6 + length x = ep_length c 1 x in
          let short : length x < 65536 = omega arith in
          let more = length-append e (flatten (later (length d) F c (drop F d))) in
          let enough : 6 + length x ≤ length bs = omega arith in
          let r = rested (length d) (length x) c (drop F d) (drop (length e) bs) p q (omega (arith, length-drop F d)) (omega (arith, length-drop F d))
          (omega (arith, length-drop (length e) bs)) near.1 in
          record {
            ri = R.series (rep c 1 x bs (omega arith) (omega arith) short enough near.0) (kind_first c (length x) (flips_in c 1 x bs) p q) (omega arith) r.rs r.rest_ok;
            is_mix = rep_stream c 1 x bs (omega arith) (omega arith) short enough near.0 (later (length d) F c (drop F d)) r.rs r.is_mix;
            given_is = ap (λ l. (c, take (length x) (drop 6 bs) ++ l) ∷ []) r.loads_are
                ∙ ap (λ l. (c, l ++ bodies (later (length d) F c (drop F d)) (drop (length e) bs)) ∷ []) (sym (body_is c 1 x bs));
          }
