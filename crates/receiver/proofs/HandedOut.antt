-- THE SENTENCE OF WHAT THE CALLS HAND OUT: each ordinary packet among the finds of a receiver's life, from its opening on,
-- was read as `one_packet` says. A packet among the finds comes from one event. Assumes nothing.
use mathlib.Core.Path.{ap, refl, subst, sym, ◌∙◌, ◌≡◌}
use mathlib.Core.Logic.{inl, inr, ◌⊎◌}
use mathlib.Core.Bool.{Bool, cond, false, true}
use mathlib.Core.List.{List, [], append_assoc, ◌++◌, ◌∷◌}
use Prim.Native.Nat.{suc, zero, ℕ, ◌%◌, ◌+◌, ◌≤◌}
use native.Mathlib.Omega.{arith}
use lib.Dec.{eqb, leb}
use lib.ListN.{drop, get_or, length, take}
use Rattle.std.specs.Prelude.{Some, None, Option}
use Rattle.digits.specs.Digits.{number}
use Rattle.wire.specs.Reading.{stream_of, tp_number_in, version_of}
use Rattle.wire.specs.declared.Header.{Header}
use Rattle.receiver.specs.declared.Place.{Place}
use Rattle.receiver.specs.declared.Receiver.{Receiver}
use Rattle.receiver.specs.declared.Stamp.{Stamp}
use Rattle.receiver.specs.declared.kind.Kind.{Kind}
use Rattle.receiver.specs.declared.kind.Kind.TheVariants.{Complete, Fill, First, Last, Middle, Reserved}
use Rattle.receiver.specs.declared.stages.Stamps.{Stamps}
use Rattle.receiver.specs.Call.{OpenedAs}
use Rattle.receiver.specs.Frame.{Event, Frame, lost}
use Rattle.receiver.specs.Join.{Finding, Held, finds, free, holding, listed, low, notice, ordinary, take_in}
use Rattle.receiver.specs.Kind.{kind_of}
use Rattle.receiver.specs.Low.{Part, Tag, given, llep, low_part, walk, walked, wire}
use Rattle.receiver.specs.Place.{place_at}
use Rattle.receiver.specs.Tp.{Brings, Heard, Input, Setting, Stand, behind, brings, count_after, dropping, events_all, gap_told, input_of, listing_all, listing_of, low_part_if, refusing, stamping_of, tp_in, worded}
use Rattle.receiver.proofs.Listening.{Life, from_opening}
use Rattle.receiver.proofs.OnePacket.{one_packet}
use Rattle.receiver.proofs.Packets.{PacketRead}
use Rattle.receiver.proofs.Rest.{standing}

abbrev pub Among : Finding wire → List (Finding wire) → Type 0
Among x [] = 1 ≤ 0
Among x (y ∷ ys) = (x ≡ y) ⊎ Among x ys

among_or : (x : Finding wire) (xs ys : List (Finding wire)) → Among x (xs ++ ys) → Among x xs ⊎ Among x ys
among_or x [] ys a = inr a
among_or x (z ∷ xs) ys (inl e) = inl (inl e)
among_or x (z ∷ xs) ys (inr a) = later_or (among_or x xs ys a)
  where
    later_or : Among x xs ⊎ Among x ys → ((x ≡ z) ⊎ Among x xs) ⊎ Among x ys
    later_or (inl a) = inl (inr a)
    later_or (inr a) = inr a

among_left : (x : Finding wire) (xs ys : List (Finding wire)) → Among x xs → Among x (xs ++ ys)
among_left x [] ys a = absurd (omega arith)
among_left x (z ∷ xs) ys (inl e) = inl e
among_left x (z ∷ xs) ys (inr a) = inr (among_left x xs ys a)

among_right : (x : Finding wire) (xs ys : List (Finding wire)) → Among x ys → Among x (xs ++ ys)
among_right x [] ys a = a
among_right x (z ∷ xs) ys a = inr (among_right x xs ys a)

-- the low-latency part gives no ordinary packet

abbrev LowOnly : List (Finding wire) → Type 0
LowOnly [] = 0 ≤ 0
LowOnly (notice n p ∷ fs) = LowOnly fs
LowOnly (low c d ∷ fs) = LowOnly fs
LowOnly (ordinary c d ∷ fs) = 1 ≤ 0

none_among : (c : Tag) (d : List ℕ) (fs : List (Finding wire)) → LowOnly fs → Among (ordinary c d) fs → ⊥
none_among c d [] l a = omega arith
none_among c d (notice n p ∷ fs) l (inl e) = let z : ◌≡◌ {A = ℕ} 0 1 = cc in omega arith
none_among c d (notice n p ∷ fs) l (inr a) = none_among c d fs l a
none_among c d (low x y ∷ fs) l (inl e) = let z : ◌≡◌ {A = ℕ} 0 1 = cc in omega arith
none_among c d (low x y ∷ fs) l (inr a) = none_among c d fs l a
none_among c d (ordinary x y ∷ fs) l a = omega arith

given_only : (k : Kind) (p : Place) (h : Header) (bs : List ℕ) (fs : List (Finding wire)) → LowOnly fs → LowOnly (given k p h bs ++ fs)
given_only Fill p h bs fs l = l
given_only Reserved p h bs fs l = l
given_only Complete p h bs fs l = l
given_only First p h bs fs l = l
given_only Middle p h bs fs l = l
given_only Last p h bs fs l = l

walked_only : (l : Option (Header × Bool)) (t : Stamp) (i : ℕ) (bs : List ℕ) (on : ℕ → List ℕ → Part) → ((j : ℕ) (rest : List ℕ) → LowOnly (on j rest).finds) → LowOnly (walked l t i bs on).finds
walked_only None t i bs on ih = omega arith
walked_only (Some (h, true)) t i bs on ih =
    given_only (kind_of h) (place_at t i) h bs (on (i + 7 + h.size) (drop (7 + h.size) bs)).finds (ih (i + 7 + h.size) (drop (7 + h.size) bs))
walked_only (Some (h, false)) t i bs on ih = given_only (kind_of h) (place_at t i) h bs [] (omega arith)

walk_only : (k : ℕ) (t : Stamp) (i : ℕ) (bs : List ℕ) → LowOnly (walk k t i bs).finds
unfolding walk
walk_only zero t i bs = omega arith
walk_only (suc k) t i bs = walked_only (llep bs) t i bs (λ j rest. walk k t j rest) (λ j rest. walk_only k t j rest)

part_only : (b : Bool) (t : Stamp) (bs : List ℕ) → LowOnly (low_part_if b t bs).finds
unfolding low_part
part_only true t bs = walk_only (suc (length bs)) t 4 bs
part_only false t bs = omega arith

behind_only : (p : Part) (b : Option (List ℕ)) (t : Stamp) (o : ℕ) (bs : List ℕ) → LowOnly p.finds → LowOnly (behind p b t o bs).lows
behind_only p None t o bs l = l
behind_only p (Some rest) t o bs l = l

worded_only : (o : Option ℕ) (t : Stamp) (bs : List ℕ) → LowOnly (worded o t bs).lows
worded_only None t bs = omega arith
worded_only (Some w) t bs =
    behind_only (low_part_if (leb 2048 w) t bs) (low_part_if (leb 2048 w) t bs).behind t (w % 2048) bs (part_only (leb 2048 w) t bs)

brings_only : (s : Setting) (n : Stamps) (tp : List ℕ) → LowOnly (brings s n tp).lows
unfolding brings
brings_only s n tp = by (eqb (length tp) s.size) (eqb (stream_of (get_or tp 0 0)) s.stream) (eqb (version_of (get_or tp 0 0)) 0)
  where
    W : Brings
    W = worded (tp_number_in (number 0 (take 3 (drop 1 tp)))) n.now (drop 4 tp)

    by : (a b c : Bool) → LowOnly (cond a (cond b (cond c W (dropping 7 n.now)) (refusing 8 n.before)) (refusing 6 n.before)).lows
    by true true true = worded_only (tp_number_in (number 0 (take 3 (drop 1 tp)))) n.now (drop 4 tp)
    by true true false = omega arith
    by true false c = omega arith
    by false b c = omega arith

input_only : (s : Setting) (n : Stamps) (f : Frame wire) (x : Input) → LowOnly (input_of s n f x).lows
input_only s n f gap_told = omega arith
input_only s n f (tp_in tp) = brings_only s n tp

-- the finds of all events

module _ (room : ℕ) where
  finds_append : (s : Held wire) (es fs : List (Event wire)) → finds wire room s (es ++ fs) ≡ finds wire room s es ++ finds wire room (holding wire room s es) fs
  finds_append s [] fs = refl
  finds_append s (e ∷ es) fs =
      ap (λ (l : List (Finding wire)). listed wire (take_in wire room s e).1 ++ l) (finds_append (take_in wire room s e).0 es fs)
      ∙ sym (append_assoc (listed wire (take_in wire room s e).1) (finds wire room (take_in wire room s e).0 es) (finds wire room (holding wire room (take_in wire room s e).0 es) fs))

  -- the event that gives a find
  abbrev pub FromEvent : Finding wire → Held wire → List (Event wire) → Type 0
  FromEvent x s es =
      (es₁ : List (Event wire)) × ((e : Event wire) × ((es₂ : List (Event wire)) × ((es ≡ es₁ ++ e ∷ es₂) × ((take_in wire room (holding wire room s es₁) e).1 ≡ Some x))))

  further_on : (x : Finding wire) (s : Held wire) (e : Event wire) (es : List (Event wire)) → FromEvent x (take_in wire room s e).0 es → FromEvent x s (e ∷ es)
  further_on x s e es (es₁, (y, (es₂, (q, g)))) = (e ∷ es₁, (y, (es₂, (ap (λ (l : List (Event wire)). e ∷ l) q, g))))

  pub finds_from : (x : Finding wire) (s : Held wire) (es : List (Event wire)) → Among x (finds wire room s es) → FromEvent x s es
  finds_from x s [] a = absurd (omega arith)
  finds_from x s (e ∷ es) a = further (among_or x (listed wire (take_in wire room s e).1) (finds wire room (take_in wire room s e).0 es) a) (finds_from x (take_in wire room s e).0 es)
    where
      here : (o : Option (Finding wire)) → (take_in wire room s e).1 ≡ o → Among x (listed wire o) → FromEvent x s (e ∷ es)
      here None q a = absurd (omega arith)
      here (Some y) q (inl z) = ([], (e, (es, (refl, q ∙ ap Some (sym z)))))
      here (Some y) q (inr a) = absurd (omega arith)

      further : Among x (listed wire (take_in wire room s e).1) ⊎ Among x (finds wire room (take_in wire room s e).0 es)
          → (Among x (finds wire room (take_in wire room s e).0 es) → FromEvent x (take_in wire room s e).0 es) → FromEvent x s (e ∷ es)
      further (inl a) ih = here (take_in wire room s e).1 refl a
      further (inr a) ih = further_on x s e es (ih a)

module _ (s : Setting) (c : Tag) (d : List ℕ) where
  listed_from : (n : ℕ) (t : Stand) (xs : List Input) → Among (ordinary c d) (listing_all s n t xs).0 → Among (ordinary c d) (finds wire s.room t.held (events_all s n t.frame xs))
  listed_from n t [] a = a
  listed_from n t (x ∷ xs) a = outer (among_or P (h.lows ++ now') later' a) (listed_from (count_after s n x) (listing_of s (stamping_of n) t x).1 xs)
    where
      P : Finding wire
      P = ordinary c d

      h : Heard
      h = input_of s (stamping_of n) t.frame x

      now' : List (Finding wire)
      now' = finds wire s.room t.held h.told

      later' : List (Finding wire)
      later' = (listing_all s (count_after s n x) (listing_of s (stamping_of n) t x).1 xs).0

      rest' : List (Event wire)
      rest' = events_all s (count_after s n x) h.frame xs

      goal : Among P (now' ++ finds wire s.room (holding wire s.room t.held h.told) rest') → Among P (finds wire s.room t.held (h.told ++ rest'))
      goal a = subst (λ (l : List (Finding wire)). Among P l) (sym (finds_append s.room t.held h.told rest')) a

      inner : Among P h.lows ⊎ Among P now' → Among P (finds wire s.room t.held (h.told ++ rest'))
      inner (inl a) = absurd (none_among c d h.lows (input_only s (stamping_of n) t.frame x) a)
      inner (inr a) = goal (among_left P now' (finds wire s.room (holding wire s.room t.held h.told) rest') a)

      outer : Among P (h.lows ++ now') ⊎ Among P later' → (Among P later' → Among P (finds wire s.room (holding wire s.room t.held h.told) rest'))
          → Among P (finds wire s.room t.held (h.told ++ rest'))
      outer (inl a) ih = inner (among_or P h.lows now' a)
      outer (inr a) ih = goal (among_right P now' (finds wire s.room (holding wire s.room t.held h.told) rest') (ih a))

-- the reading of one packet, which begins at this place, ends at an event of this list
abbrev pub ReadWithin : ℕ → Place → List ℕ → List (Event wire) → Type 0
ReadWithin c g d es =
    (es₁ : List (Event wire)) × ((e : Event wire) × ((es₂ : List (Event wire)) × ((es ≡ es₁ ++ e ∷ es₂) × PacketRead c g d (es₁ ++ e ∷ []))))

-- HANDED OUT: whatever the calls hand out as one packet, after an opening, over any TPs and told gaps; the place that it carries is
-- that of the first of its EPs
pub handed_out_lem : (size stream : ℕ) (m : List ℕ) (r : Receiver) (t : Tag) (d : List ℕ) {xs : List Input} {fs : List (Finding wire)} {r' : Receiver} {m' : List ℕ}
    → OpenedAs size stream (length m) (Some r) → Life r m xs fs r' m' → Among (ordinary t d) fs
    → ReadWithin t.content t.at d (events_all (record { size = size; stream = stream; room = length m }) 0 lost xs)
handed_out_lem size stream m r t d {xs} {fs} {r'} {m'} o l a =
    let s : Setting = record { size = size; stream = stream; room = length m } in
    let b = subst (λ (fs : List (Finding wire)). Among (ordinary t d) fs) (sym (from_opening size stream m r o l)) a in
    let (es₁, (x, (es₂, (q, g)))) = finds_from (length m) (ordinary t d) free (events_all s 0 lost xs) (listed_from s t d 0 (standing lost free) xs b) in
    (es₁, (x, (es₂, (q, one_packet s 0 xs es₁ x es₂ t d q g))))
