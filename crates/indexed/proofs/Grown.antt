-- GROWN: growing an index gives the one made afresh. The receiver that growing starts stands, before the first new record, where the
-- one that read all stands, or goes on alike. Assumes nothing.
use Prim.Native.Nat.{ℕ, suc, ◌-◌, ◌<◌, ◌≤◌}
use mathlib.Core.Path.{◌≡◌, refl, sym, ap, ap₂, ◌∙◌, subst}
use mathlib.Core.Bool.{Bool, false}
use mathlib.Core.List.{List, [], ◌∷◌, ◌++◌, map, map-append}
use native.Mathlib.Omega.{arith}
use lib.Dec.{leb}
use lib.ListN.{take, drop, take-append-drop, length-take}
use borrow.Author.Tests.{le-leb, lt-leb}
use Rattle.std.specs.Prelude.{Option, None, Some}
use Rattle.receiver.specs.declared.Stamp.{Stamp}
use Rattle.receiver.specs.declared.Place.{Place}
use Rattle.receiver.specs.Frame.{Frame, lost, idle, head, body}
use Rattle.receiver.specs.Forecast.{Way}
use Rattle.receiver.specs.Join.{Held, free, held}
use Rattle.receiver.specs.Low.{wire}
use Rattle.receiver.specs.Tp as T
use Rattle.receiver.specs.Tp.{Setting, Input}
use Rattle.receiver.proofs.Facts.{wired}
use Rattle.indexing.specs.Lines.{Line}
use Rattle.indexed.specs.Index.{start_stamp, behind, behind_all, fresh, lines_of, stand_at, under_way, unfinished, stamp_in, since_of, index_of, regrown, grow_of}
use Rattle.indexed.specs.Packets.{Packet, handed}
use Rattle.indexed.specs.Statements.{handed_all, line_by, Listed, Grown}
use Rattle.indexed.proofs.Ways as W
use Rattle.indexed.proofs.Ways.{Stand, run}
use Rattle.indexed.proofs.Facts.{InWays, in_way, InStand, in_run}
use Rattle.indexed.proofs.Near.{Rests, Aged, rests_run}
use Rattle.indexed.proofs.Restart.{none_is, frame_from, held_from, pending, in_pending, restart, Same, same_equal, same_fresh, same_gives, same_next, same_pending}
use Rattle.indexed.proofs.Inputs.{lows_of, bare}
use Rattle.indexed.proofs.Climb.{marks_climb}
use Rattle.indexed.proofs.Records.{lines_are, way, ways_of, onward, onward_is, hands_are, stand_run, behind_append, stand_append, hands_append, Stamped, stamped_map, Own, stamped_own, stamped_before, climbs_all}

-- ---- where what is unfinished began

pub frame_pending : (f : Frame wire) → under_way f ≡ frame_from wire wired f
frame_pending lost = refl
frame_pending idle = refl
frame_pending (head p k hs) = refl
frame_pending (body h k) = refl

held_pending : (u : Held wire) (f : Frame wire) → unfinished u f ≡ held_from wire wired u f
held_pending free f = frame_pending f
held_pending (held t d) f = refl

abbrev pending_in : T.Stand → Option Place
pending_in t = unfinished t.held t.frame

pending_is : (t : T.Stand) → pending_in t ≡ pending wire wired (bare t)
pending_is t = held_pending t.held t.frame

module _ (s : Setting) where
  abbrev Alike : T.Stand → T.Stand → Type 0
  Alike t u = Same wire s.room wired (bare t) (bare u)

  -- ---- two receivers that go on alike hand out the same

  alike_onward : (p : Stamp) (t u : T.Stand) (x : Input) → Alike t u → Alike (onward s p t x) (onward s p u x)
  alike_onward p t u x a =
      subst (λ (v : Stand wire). Same wire s.room wired v (bare (onward s p u x))) (sym (onward_is s p t x))
      (subst (λ (v : Stand wire). Same wire s.room wired (W.next wire s.room (bare t) (way s p x)) v) (sym (onward_is s p u x))
      (same_next wire s.room wired (way s p x) (bare t) (bare u) a))

  alike_stand : (ys : List Input) (p : Stamp) (t u : T.Stand) → Alike t u → Alike (stand_at s p t ys) (stand_at s p u ys)
  alike_stand [] p t u a = a
  alike_stand (y ∷ ys) p t u a = alike_stand ys (behind p y) (onward s p t y) (onward s p u y) (alike_onward p t u y a)

  alike_hands : (ys : List Input) (p : Stamp) (t u : T.Stand) → Alike t u → handed_all s p t ys ≡ handed_all s p u ys
  alike_hands [] p t u a = refl
  alike_hands (y ∷ ys) p t u a =
      ap₂ (λ (l m : List (Packet wire)). l ++ m)
      (hands_are s p t y ∙ ap (λ (l : List (Packet wire)). handed wire (lows_of s p y) ++ l) (same_gives wire s.room wired (way s p y) (bare t) (bare u) a) ∙ sym (hands_are s p u y))
      (alike_hands ys (behind p y) (onward s p t y) (onward s p u y) (alike_onward p t u y a))

  alike_since : (t u : T.Stand) → Alike t u → since_of t ≡ since_of u
  alike_since t u a = ap stamp_in (pending_is t ∙ same_pending wire s.room wired (bare t) (bare u) a ∙ sym (pending_is u))

  -- ---- what is known of places

  pub rests_at : (xs : List Input) (p : Stamp) → Rests wire s.room (stand_at s p fresh xs).frame (stand_at s p fresh xs).held
  rests_at xs p =
      subst (λ (v : Stand wire). Rests wire s.room v.frame v.held) (sym (stand_run s xs p fresh)) (rests_run wire s.room (ways_of s p xs) (bare fresh) (λ e. refl))

  in_ways_of : (R : Stamp → Type 0) (xs : List Input) (p : Stamp) → Stamped R p xs → InWays wire (λ (q : Place). R q.stamp) (ways_of s p xs)
  in_ways_of R [] p a = tt
  in_ways_of R (x ∷ xs) p a =
      (in_way wire (λ (q : Place). R q.stamp) (way s p x) (climbs_all R p 0 (W.marks wire (way s p x)) a.0 (marks_climb s p x)), in_ways_of R xs (behind p x) a.1)

  -- a fact of each record's stamp is a fact of every place that is known behind them
  pub in_stand : (R : Stamp → Type 0) (xs : List Input) (p : Stamp) → Stamped R p xs → InStand wire (λ (q : Place). R q.stamp) wired (bare (stand_at s p fresh xs))
  in_stand R xs p a =
      subst (λ (v : Stand wire). InStand wire (λ (q : Place). R q.stamp) wired v) (sym (stand_run s xs p fresh))
      (in_run wire (λ (q : Place). R q.stamp) wired s.room (ways_of s p xs) (bare fresh) (in_ways_of R xs p a) (tt, tt))

  -- ---- where growing stands

  abbrev At : List Input → T.Stand
  At xs = stand_at s start_stamp fresh xs

  -- the records before the n-th have earlier numbers
  pub stamped_first : (n : ℕ) (xs : List Input) → Stamped (λ (q : Stamp). q.number < suc n) start_stamp (take n xs)
  stamped_first n xs = stamped_before (suc n) (take n xs) start_stamp (let e = length-take n xs in omega arith)

  pub split : (n : ℕ) (xs : List Input) → At xs ≡ stand_at s (behind_all start_stamp (take n xs)) (At (take n xs)) (drop n xs)
  split n xs = ap At (sym (take-append-drop n xs)) ∙ stand_append s (take n xs) (drop n xs) start_stamp fresh

  -- with something unfinished that began in the record that n records stand before
  restarted : (xs : List Input) (n : ℕ) (q : Place) → pending_in (At xs) ≡ Some q → q.stamp.number ≡ suc n
      → bare (At xs) ≡ bare (stand_at s (behind_all start_stamp (take n xs)) fresh (drop n xs))
  restarted xs n q e i =
      let new : Place → Bool = λ (p : Place). leb (suc n) p.stamp.number in
      let p : Stamp = behind_all start_stamp (take n xs) in
      let ws : List (Way wire) = ways_of s p (drop n xs) in
      let t : T.Stand = At (take n xs) in
      let here : bare (At xs) ≡ run wire s.room (bare t) ws = ap bare (split n xs) ∙ stand_run s (drop n xs) p t in
      let old : Aged wire s.room wired new (bare t) =
      in_stand (λ (x : Stamp). leb (suc n) x.number ≡ false) (take n xs) start_stamp
      (stamped_map (λ (x : Stamp). x.number < suc n) (λ (x : Stamp). leb (suc n) x.number ≡ false) (λ x l. lt-leb (suc n) x.number l) (take n xs) start_stamp (stamped_first n xs)) in
      here
      ∙ restart wire s.room wired new ws (bare t) q (rests_at (take n xs) start_stamp) old
      (ap (pending wire wired) (sym here) ∙ sym (pending_is (At xs)) ∙ e) (le-leb (suc n) q.stamp.number (omega arith))
      ∙ sym (stand_run s (drop n xs) p fresh)

  pending_own : (xs : List Input) (q : Place) → pending_in (At xs) ≡ Some q → Own start_stamp xs q.stamp
  pending_own xs q e =
      in_pending wire wired (λ (p : Place). Own start_stamp xs p.stamp) q (bare (At xs)) (in_stand (Own start_stamp xs) xs start_stamp (stamped_own xs start_stamp))
      (sym (pending_is (At xs)) ∙ e)

  resumed : (xs : List Input) → Alike (At xs) (regrown s (since_of (At xs)) xs)
  resumed xs = by (pending_in (At xs)) refl
    where
      by : (o : Option Place) → pending_in (At xs) ≡ o → Alike (At xs) (regrown s (stamp_in o) xs)
      by None e = same_fresh wire s.room wired (bare (At xs)) (rests_at xs start_stamp) (sym (pending_is (At xs)) ∙ e)
      by (Some q) e =
          let o : Own start_stamp xs q.stamp = pending_own xs q e in
          let i = o.number_is in
          let less : q.stamp.number - 1 ≡ o.n = omega arith in
          let there : stand_at s (behind_all start_stamp (take o.n xs)) fresh (drop o.n xs) ≡ stand_at s q.stamp fresh (drop (q.stamp.number - 1) xs) =
          ap₂ (λ (p : Stamp) (n : ℕ). stand_at s p fresh (drop n xs)) (sym o.stamp_is) (sym less) in
          same_equal wire s.room wired (bare (At xs)) (bare (stand_at s q.stamp fresh (drop (q.stamp.number - 1) xs))) (rests_at xs start_stamp)
          (restarted xs o.n q e (omega arith) ∙ ap bare there)

  -- ---- the index

  lines_append : (xs ys : List Input) → lines_of s start_stamp fresh (xs ++ ys) ≡ lines_of s start_stamp fresh xs ++ lines_of s (behind_all start_stamp xs) (At xs) ys
  lines_append xs ys =
      lines_are s (xs ++ ys) start_stamp fresh
      ∙ ap (map line_by) (hands_append s xs ys start_stamp fresh)
      ∙ map-append line_by (handed_all s start_stamp fresh xs) (handed_all s (behind_all start_stamp xs) (At xs) ys)
      ∙ ap₂ (λ (a b : List Line). a ++ b) (sym (lines_are s xs start_stamp fresh)) (sym (lines_are s ys (behind_all start_stamp xs) (At xs)))

  abbrev From : List Input → T.Stand
  From xs = regrown s (since_of (At xs)) xs

  lines_grow : (xs ys : List Input) → lines_of s (behind_all start_stamp xs) (From xs) ys ≡ lines_of s (behind_all start_stamp xs) (At xs) ys
  lines_grow xs ys =
      let p : Stamp = behind_all start_stamp xs in
      lines_are s ys p (From xs) ∙ ap (map line_by) (sym (alike_hands ys p (At xs) (From xs) (resumed xs))) ∙ sym (lines_are s ys p (At xs))

  since_grow : (xs ys : List Input) → since_of (stand_at s (behind_all start_stamp xs) (From xs) ys) ≡ since_of (At (xs ++ ys))
  since_grow xs ys =
      let p : Stamp = behind_all start_stamp xs in
      sym (alike_since (stand_at s p (At xs) ys) (stand_at s p (From xs) ys) (alike_stand ys p (At xs) (From xs) (resumed xs)))
      ∙ ap since_of (sym (stand_append s xs ys start_stamp fresh))

pub listed : Listed
unfolding index_of
listed s xs = lines_are s xs start_stamp fresh

pub grown : Grown
unfolding index_of grow_of
grown s xs ys =
    let lines : List Line = lines_of s start_stamp fresh xs in
    ap₂ (λ (p : Stamp) (o : Option Stamp). record { next = p; since = o; lines = lines ++ lines_of s (behind_all start_stamp xs) (From s xs) ys })
    (sym (behind_append xs ys start_stamp)) (since_grow s xs ys)
    ∙ ap (λ (l : List Line). record { next = behind_all start_stamp (xs ++ ys); since = since_of (At s (xs ++ ys)); lines = l })
    (ap (λ (l : List Line). lines ++ l) (lines_grow s xs ys) ∙ sym (lines_append s xs ys))

-- the record that is named is one of the recording's, so that 0 can stand for none
pub since_own : (s : Setting) (xs : List Input) (p : Stamp) → (index_of s xs).since ≡ Some p → Own start_stamp xs p
unfolding index_of
since_own s xs p e = go (pending_in (At s xs)) refl e
  where
    go : (o : Option Place) → pending_in (At s xs) ≡ o → stamp_in o ≡ Some p → Own start_stamp xs p
    go None z e = none_is e
    go (Some q) z e = let j : q.stamp ≡ p = cc in subst (Own start_stamp xs) j (pending_own s xs q z)

pub since_positive : (s : Setting) (xs : List Input) (p : Stamp) → (index_of s xs).since ≡ Some p → 1 ≤ p.number
since_positive s xs p e = let i = (since_own s xs p e).number_is in omega arith
