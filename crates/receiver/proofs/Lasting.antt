-- What no call changes: the settings, and the room's length; and the count of TPs. Assumes nothing.
use mathlib.Core.Path.{ap, refl, sym, ◌∙◌, ◌≡◌}
use mathlib.Core.Logic.{inl, inr, ◌⊎◌}
use mathlib.Core.Bool.{Bool, cond, false, true, ◌&&◌}
use mathlib.Core.List.{List, [], ◌∷◌}
use Prim.Native.Nat.{suc, ℕ, ◌%◌, ◌+◌, ◌-◌}
use lib.Dec.{eqb, leb}
use lib.ListN.{drop, get_or, length, length-set, take}
use borrow.Author.Tests.{eq-eqb}
use Rattle.std.specs.Prelude.{None, Option, Some}
use Rattle.digits.specs.Digits.{number}
use Rattle.wire.specs.Reading.{stream_of, tp_number_in, version_of}
use Rattle.receiver.specs.declared.Find.{Find}
use Rattle.receiver.specs.declared.Receiver.{Receiver}
use Rattle.receiver.specs.declared.Place.{Place}
use Rattle.receiver.specs.declared.Stage.{Stage}
use Rattle.receiver.specs.declared.Stamp.{Stamp}
use Rattle.receiver.specs.declared.low.Lows.{Lows}
use Rattle.receiver.specs.declared.stages.Stamps.{Stamps}
use Rattle.receiver.specs.Call.{Gave, call_as, call_of, count_in, counted_of, due_call, first_call, gone, low_call, ordinary_by, payload_call, stage_call, stamps_of, start_call, unchanged, walk_to, word_call}
use Rattle.receiver.specs.Forecast.{Start, dropped, outset}
use Rattle.receiver.specs.Frame.{Event, Frame, closed, entered, fed, gap, lose, opened, step}
use Rattle.receiver.specs.Join.{Finding, Held, free, held, low, notice, ordinary, stored, take_in}
use Rattle.receiver.specs.Low.{wire}
use Rattle.receiver.specs.Lows.{lows_of}
use Rattle.receiver.specs.Place.{count_of, place_at, placed, start_of}
use Rattle.receiver.specs.Pull.{Met, Pulled, dry, found, meet, met, pull, reads, upto}
use Rattle.receiver.specs.State.{frame_of, from, held_of, pull_of, todo_of}
use Rattle.receiver.specs.Tp.{count_after, counts, tp_in}
use Rattle.receiver.specs.declared.Find.TheVariants as F
use Rattle.receiver.specs.declared.Stage.TheVariants as S
use Rattle.receiver.specs.declared.low.Lows.TheVariants as L

module _ (cap : ℕ) where
  stored_length : (s : Held wire) (e : Event wire) (m : List ℕ) → length (stored wire s e m) ≡ length m
  stored_length s (lose n p) m = refl
  stored_length s gap m = refl
  stored_length s (opened h) m = refl
  stored_length s (entered h) m = refl
  stored_length free (fed b) m = refl
  stored_length (held c d) (fed b) m = length-set m (length d) b
  stored_length s (closed h) m = refl

  abbrev room_of_lem : Met wire → List ℕ
  room_of_lem (dry s m) = m
  room_of_lem (found x s m es) = m

  met_length : (x : Option (Finding wire)) (s : Held wire) (m : List ℕ) (es : List (Event wire)) (on : Met wire) (n : ℕ)
      → length m ≡ n → length (room_of_lem on) ≡ n → length (room_of_lem (met wire x s m es on)) ≡ n
  met_length None s m es on n a b = b
  met_length (Some f) s m es on n a b = a

  meet_length : (s : Held wire) (m : List ℕ) (es : List (Event wire)) → length (room_of_lem (meet wire cap s m es)) ≡ length m
  meet_length s m [] = refl
  meet_length s m (e ∷ es) =
      met_length (take_in wire cap s e).1 (take_in wire cap s e).0 (stored wire s e m) es (meet wire cap (take_in wire cap s e).0 (stored wire s e m) es) (length m)
      (stored_length s e m) (meet_length (take_in wire cap s e).0 (stored wire s e m) es ∙ stored_length s e m)

  upto_length : (x : Met wire) (f : Frame wire) (at n : ℕ) (on : Held wire → List ℕ → Pulled wire) → length (room_of_lem x) ≡ n
      → ((s : Held wire) (m : List ℕ) → length m ≡ n → length (on s m).room ≡ n) → length (upto wire x f at on).room ≡ n
  upto_length (dry s m) f at n on e go = go s m e
  upto_length (found x s m es) f at n on e go = e

  reads_length : (bs : List (Place × ℕ)) (f : Frame wire) (at n : ℕ) (s : Held wire) (m : List ℕ) → length m ≡ n → length (reads wire cap bs f at s m).room ≡ n
  reads_length [] f at n s m e = e
  reads_length (b ∷ bs) f at n s m e =
      upto_length (meet wire cap s m (step wire f b).1) (step wire f b).0 (suc at) n (λ s' m'. reads wire cap bs (step wire f b).0 (suc at) s' m')
      (meet_length s m (step wire f b).1 ∙ e) (λ s' m' q. reads_length bs (step wire f b).0 (suc at) n s' m' q)

  pull_length : (f : Frame wire) (at : ℕ) (s : Held wire) (m : List ℕ) (es : List (Event wire)) (bs : List (Place × ℕ))
      → length (pull wire cap f at (meet wire cap s m es) bs).room ≡ length m
  pull_length f at s m es bs =
      upto_length (meet wire cap s m es) f at (length m) (λ s m. reads wire cap bs f at s m) (meet_length s m es) (λ s' m' q. reads_length bs f at (length m) s' m' q)

pub record Lasts (r : Receiver) (m : List ℕ) (g : Gave) : Type 0 where
  pub size : g.size ≡ r.size
  pub stream : g.stream ≡ r.stream
  pub limit : g.limit ≡ r.limit
  pub room : length g.room ≡ length m

-- and the count, behind a TP's first call
pub record Keeps (r : Receiver) (m : List ℕ) (g : Gave) : Type 0 where
  pub lasts : Lasts r m g
  pub count : g.count ≡ r.count

-- in a TP of this stamp
module _ (r : Receiver) (t : Stamp) (tp m : List ℕ) where
  plain_lasts : (x : Option (Finding wire)) (p : Pulled wire) → length p.room ≡ length m → Keeps r m (ordinary_by x r t p)
  plain_lasts None p e = record { lasts = record { size = refl; stream = refl; limit = refl; room = e }; count = refl }
  plain_lasts (Some (notice n g)) p e = record { lasts = record { size = refl; stream = refl; limit = refl; room = e }; count = refl }
  plain_lasts (Some (low c d)) p e = record { lasts = record { size = refl; stream = refl; limit = refl; room = e }; count = refl }
  plain_lasts (Some (ordinary c d)) p e = record { lasts = record { size = refl; stream = refl; limit = refl; room = e }; count = refl }

  start_lasts : (at : ℕ) (x : Start wire) → Keeps r m (start_call r t at x tp m)
  start_lasts at x =
      let p = from (length m) t x (walk_to r at) tp m in
      plain_lasts p.find p (pull_length (length m) x.frame (at + x.past) (held_of r.walk.kept m) m x.told (placed t (at + x.past) (drop (at + x.past) tp)))

  due_lasts : (o at : ℕ) → Keeps r m (due_call r t o at tp m)
  unfolding due_call
  due_lasts o at = start_lasts at (outset wire (start_of t) (frame_of r.walk.began r.walk.phase) o (at - 4) (placed t at (drop at tp)))

  low_lasts : (l : Lows) (o : ℕ) → Keeps r m (low_call l r t o tp m)
  low_lasts (L.Broken at) o = start_lasts at (dropped wire 11 (place_at t at) (placed t at (drop at tp)))
  low_lasts (L.End at) o = due_lasts o at
  low_lasts (L.Gives f e from more at) o = record { lasts = record { size = refl; stream = refl; limit = refl; room = refl }; count = refl }

  payload_call_lasts : (b : Bool) (o : ℕ) → Keeps r m (payload_call b r t o tp m)
  payload_call_lasts true o = low_lasts (lows_of tp 4) o
  payload_call_lasts false o = due_lasts o 4

  gone_lasts : (n : ℕ) → Keeps r m (gone r t n m)
  gone_lasts n = record { lasts = record { size = refl; stream = refl; limit = refl; room = refl }; count = refl }

  begun_lasts : (o : Option ℕ) → Keeps r m (word_call o r t tp m)
  begun_lasts None = gone_lasts 9
  begun_lasts (Some w) = payload_call_lasts (leb 2048 w) (w % 2048)

  still_lasts : (f : Find) (n : ℕ) → Keeps r m (unchanged r t f n m)
  still_lasts f n = record { lasts = record { size = refl; stream = refl; limit = refl; room = refl }; count = refl }

-- a call by these stamps keeps the count and the stage, or counts the TP
abbrev Counted : Receiver → List ℕ → Gave → Type 0
Counted r m g = (Keeps r m g × (g.stage ≡ r.stage)) ⊎ Keeps (counted_of r) m g

module _ (r : Receiver) (n : Stamps) (tp m : List ℕ) where
  abbrev W : Gave
  W = word_call (tp_number_in (number 0 (take 3 (drop 1 tp)))) (counted_of r) n.now tp m

  still : (f : Find) (k : ℕ) → Counted r m (unchanged r n.before f k m)
  still f k = inl (still_lasts r n.before tp m f k, refl)

  -- one of the receiver's stream is counted
  own_lasts : (b : Bool) → Keeps (counted_of r) m (cond b W (gone (counted_of r) n.now 7 m))
  own_lasts true = begun_lasts (counted_of r) n.now tp m (tp_number_in (number 0 (take 3 (drop 1 tp))))
  own_lasts false = gone_lasts (counted_of r) n.now tp m 7

  first_lasts : Counted r m (first_call r (counted_of r) n tp m)
  unfolding first_call
  first_lasts = by (eqb (stream_of (get_or tp 0 0)) r.stream)
    where
      by : (a : Bool) → Counted r m (cond a (cond (eqb (version_of (get_or tp 0 0)) 0) W (gone (counted_of r) n.now 7 m)) (unchanged r n.before (F.Notice 8) 8 m))
      by true = inr (own_lasts (eqb (version_of (get_or tp 0 0)) 0))
      by false = still (F.Notice 8) 8

  staged_lasts : (g : Stage) → Counted r m (stage_call g r (counted_of r) n tp m)
  unfolding pull_of
  staged_lasts S.Fresh = first_lasts
  staged_lasts (S.Low o) = inr (low_lasts (counted_of r) n.now tp m (lows_of tp r.walk.at) o)
  staged_lasts (S.Due o) = inr (due_lasts (counted_of r) n.now tp m o r.walk.at)
  staged_lasts S.Plain =
      let w = r.walk in
      let p = pull_of (length m) n.now w tp m in
      inr (plain_lasts (counted_of r) n.now tp m p.find p
      (pull_length (length m) (frame_of w.began w.phase) w.at (held_of w.kept m) m (todo_of w.began w.phase) (placed n.now w.at (drop w.at tp))))

  call_counted : Counted r m (call_as r n tp m)
  unfolding call_as
  call_counted = by (eqb (length m) r.limit) (eqb (length tp) r.size)
    where
      by : (a b : Bool) → Counted r m (cond a (cond b (stage_call r.stage r (counted_of r) n tp m) (unchanged r n.before (F.Notice 6) 6 m)) (unchanged r n.before F.Refused 1 m))
      by true true = staged_lasts r.stage
      by true false = still (F.Notice 6) 6
      by false b = still F.Refused 1

  -- A CALL CHANGES neither the settings nor the room's length
  pub lasts_as : Lasts r m (call_as r n tp m)
  lasts_as = by call_counted
    where
      by : Counted r m (call_as r n tp m) → Lasts r m (call_as r n tp m)
      by (inl k) = k.0.lasts
      by (inr k) = let l = k.lasts in record { size = l.size; stream = l.stream; limit = l.limit; room = l.room }

  later_in : (g : Stage) (k : ℕ) → (g ≡ S.Fresh → ⊥) → count_in g k ≡ k
  later_in S.Fresh k d = absurd (d refl)
  later_in (S.Low o) k d = refl
  later_in (S.Due o) k d = refl
  later_in S.Plain k d = refl

  -- THE COUNT: a call within a TP keeps it; one that leaves the TP unfinished has counted it
  pub later_count : (r.stage ≡ S.Fresh → ⊥) → (call_as r n tp m).count ≡ r.count
  later_count d = by call_counted
    where
      by : Counted r m (call_as r n tp m) → (call_as r n tp m).count ≡ r.count
      by (inl k) = k.0.count
      by (inr k) = k.count ∙ later_in r.stage r.count d

  pub unfinished_count : ((call_as r n tp m).stage ≡ S.Fresh → ⊥) → (call_as r n tp m).count ≡ count_in r.stage r.count
  unfinished_count d = by call_counted
    where
      by : Counted r m (call_as r n tp m) → (call_as r n tp m).count ≡ count_in r.stage r.count
      by (inl k) = k.0.count ∙ sym (later_in r.stage r.count (λ e. d (k.1 ∙ e)))
      by (inr k) = k.count

  -- a TP's first call, with the room of the opening
  begun_count : (first_call r (counted_of r) n tp m).count ≡ cond (eqb (stream_of (get_or tp 0 0)) r.stream) (count_in r.stage r.count) r.count
  unfolding first_call
  begun_count = by (eqb (stream_of (get_or tp 0 0)) r.stream)
    where
      by : (a : Bool)
          → (cond {A = Gave} a (cond (eqb (version_of (get_or tp 0 0)) 0) W (gone (counted_of r) n.now 7 m)) (unchanged r n.before (F.Notice 8) 8 m)).count
          ≡ cond a (count_in r.stage r.count) r.count
      by true = (own_lasts (eqb (version_of (get_or tp 0 0)) 0)).count
      by false = refl

  pub first_count : r.stage ≡ S.Fresh → length m ≡ r.limit
      → (call_as r n tp m).count ≡ count_after (record { size = r.size; stream = r.stream; room = r.limit }) r.count (tp_in tp)
  unfolding call_as counts
  first_count e f = rw (eq-eqb (length m) r.limit f) (by (eqb (length tp) r.size))
    where
      T : Bool
      T = eqb (stream_of (get_or tp 0 0)) r.stream

      by : (a : Bool)
          → (cond {A = Gave} a (stage_call r.stage r (counted_of r) n tp m) (unchanged r n.before (F.Notice 6) 6 m)).count ≡ cond (a && T) (count_of r.count) r.count
      by true =
          ap (λ (g : Stage). (stage_call g r (counted_of r) n tp m).count) e ∙ begun_count
          ∙ ap (λ (g : Stage). cond T (count_in g r.count) r.count) e
      by false = refl

-- by the receiver's own count
pub call_lasts : (r : Receiver) (tp m : List ℕ) → Lasts r m (call_of r tp m)
unfolding call_of
call_lasts r tp m = lasts_as r (stamps_of r) tp m
