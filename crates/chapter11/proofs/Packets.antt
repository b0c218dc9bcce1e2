-- What is known of a packet: the facts behind its test, the bounds of its parts, and its numbers as bytes. Assumes nothing.
use Rattle.std.proofs.Common.{◌≡◌, ℕ, ◌+◌, ◌-◌, ◌*◌, ◌%◌, ◌^◌, ◌<◌, ◌≤◌, Bool, true, false, cond, ◌&&◌, eqb, leb, List, length, ap, ◌∙◌, add-one, arith, eq-eqb, ne_eqb, eqb-true, le-leb, leb-true}
use borrow.Author.Tests.{lt-leb}
use Rattle.queue.proofs.Puts.{and_left, and_right}
use Rattle.chapter11.specs.Packet.{two_at, sync, packet_length, checksum, sum_size_by, sum_size, sum_of, header_sum, data_end, together, is_packet, new_length, cut_in}
use Rattle.chapter11.specs.declared.packet.Cut.{Cut}

pub record Is (p : List ℕ) : Type 0 where
  pub long : 24 ≤ length p
  pub short : length p ≤ 131072
  pub synced : sync p ≡ 0xEB25
  pub told : packet_length p ≡ length p
  pub right : checksum p ≡ header_sum p
  pub fits : together p ≤ length p

pub is : (p : List ℕ) → is_packet p ≡ true → Is p
unfolding is_packet
is p e =
    let a = leb 24 (length p) in
    let b = leb (length p) 131072 in
    let c = eqb (sync p) 0xEB25 in
    let d = eqb (packet_length p) (length p) in
    let f = eqb (checksum p) (header_sum p) in
    let g = leb (together p) (length p) in
    let e₁ = and_right a (b && (c && (d && (f && g)))) e in
    let e₂ = and_right b (c && (d && (f && g))) e₁ in
    let e₃ = and_right c (d && (f && g)) e₂ in
    let e₄ = and_right d (f && g) e₃ in
    record {
      long = leb-true 24 (length p) (and_left a (b && (c && (d && (f && g)))) e);
      short = leb-true (length p) 131072 (and_left b (c && (d && (f && g))) e₁);
      synced = eqb-true (sync p) 0xEB25 (and_left c (d && (f && g)) e₂);
      told = eqb-true (packet_length p) (length p) (and_left d (f && g) e₃);
      right = eqb-true (checksum p) (header_sum p) (and_left f g e₄);
      fits = leb-true (together p) (length p) (and_right f g e₄);
    }

-- each test that fails, where those before it hold
module _ (p : List ℕ) where
  pub too_short : length p < 24 → false ≡ is_packet p
  unfolding is_packet
  too_short h = rw (lt-leb 24 (length p) h)

  module _ (long : 24 ≤ length p) where
    pub too_long : 131072 < length p → false ≡ is_packet p
    unfolding is_packet
    too_long h = rw (le-leb 24 (length p) long, lt-leb (length p) 131072 h)

    module _ (short : length p ≤ 131072) where
      pub no_sync : (sync p ≡ 0xEB25 → ⊥) → false ≡ is_packet p
      unfolding is_packet
      no_sync h = rw (le-leb 24 (length p) long, le-leb (length p) 131072 short, ne_eqb (sync p) 0xEB25 h)

      module _ (synced : sync p ≡ 0xEB25) where
        pub other_length : (packet_length p ≡ length p → ⊥) → false ≡ is_packet p
        unfolding is_packet
        other_length h = rw (le-leb 24 (length p) long, le-leb (length p) 131072 short, eq-eqb (sync p) 0xEB25 synced, ne_eqb (packet_length p) (length p) h)

        module _ (told : packet_length p ≡ length p) where
          pub wrong_sum : (checksum p ≡ header_sum p → ⊥) → false ≡ is_packet p
          unfolding is_packet
          wrong_sum h = rw (le-leb 24 (length p) long, le-leb (length p) 131072 short, eq-eqb (sync p) 0xEB25 synced, eq-eqb (packet_length p) (length p) told, ne_eqb (checksum p) (header_sum p) h)

          pub right_sum : checksum p ≡ header_sum p → (w : ℕ) → w ≡ together p → leb w (length p) ≡ is_packet p
          unfolding is_packet
          right_sum h w e = rw (le-leb 24 (length p) long, le-leb (length p) 131072 short, eq-eqb (sync p) 0xEB25 synced, eq-eqb (packet_length p) (length p) told, eq-eqb (checksum p) (header_sum p) h, e)

pub sum_size_most : (f : ℕ) → sum_size_by f ≤ 4
sum_size_most f = go (eqb (f % 4) 3)
  where
    go : (t : Bool) → cond t 4 (f % 4) ≤ 4
    go true = omega arith
    go false = omega arith

-- ---- the loop of the sum

pub next_sum : (h : List ℕ) (i s t r : ℕ) → s ≡ sum_of i h → t ≡ two_at h (2 * i) → r ≡ (s + t) % 2 ^ 16 → r ≡ sum_of (i + 1) h
unfolding sum_of
next_sum h i s t r es et er = er ∙ rw (es, et, add-one i)

-- ---- what the code answers for a packet

pub cut_is : (p : List ℕ) (w s : ℕ) → w ≡ together p → s ≡ sum_size p
    → ◌≡◌ {A = Cut} (record { from = w - s + (length p - w) % 4; till = length p - s; left = w + (length p - w) % 4 }) (cut_in p)
cut_is p w s ew es =
    let front : together p - sum_size p ≡ data_end p = omega arith in
    rw (ew, es, front)

-- the bounds of what is cut
pub record Within (p : List ℕ) (k : Cut) : Type 0 where
  pub long : 24 ≤ length p
  pub low : 24 ≤ k.from
  pub order : k.from ≤ k.till
  pub high : k.till ≤ length p
  pub left : k.left ≡ new_length p

pub within : (p : List ℕ) (k : Cut) → is_packet p ≡ true → k ≡ cut_in p → Within p k
within p k good e =
    let i = is p good in
    record {
      long = i.long;
      low = rw e (omega arith);
      order = rw e (omega (arith, i.fits));
      high = rw e (omega arith);
      left = ap (λ (c : Cut). c.left) e;
    }
