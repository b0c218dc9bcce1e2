-- What the contract of a call promises is carried by some step: of every receiver that came from an opening and its calls, every TP of
-- bytes and every room. Assumes nothing.
use Prim.Native.Nat.{ℕ, suc, ◌+◌, ◌-◌, ◌%◌, ◌≤◌, ◌<◌}
use mathlib.Core.Path.{◌≡◌, refl, sym, ap, ◌∙◌, subst, subst⁻¹}
use mathlib.Core.Bool.{Bool, true, false, cond}
use mathlib.Core.List.{List, [], ◌∷◌}
use native.Mathlib.Omega.{arith}
use lib.Dec.{leb, eqb}
use lib.ListN.{length, take, drop, get_or, length-drop}
use lib.Seq.{get_or-drop}
use borrow.Author.Tests.{eqb-true}
use Rattle.std.specs.Prelude.{Option, None, Some}
use Rattle.digits.specs.Digits.{number}
use Rattle.wire.specs.Reading.{tp_number_in, stream_of, version_of}
use Rattle.receiver.specs.declared.About.{About}
use Rattle.receiver.specs.declared.Find.{Find}
use Rattle.receiver.specs.declared.Find.TheVariants as F
use Rattle.receiver.specs.declared.Place.{Place}
use Rattle.receiver.specs.declared.Receiver.{Receiver}
use Rattle.receiver.specs.declared.Stamp.{Stamp}
use Rattle.receiver.specs.declared.stages.Stamps.{Stamps}
use Rattle.receiver.specs.declared.Stage.{Stage}
use Rattle.receiver.specs.declared.Stage.TheVariants as S
use Rattle.receiver.specs.declared.Step.{Step}
use Rattle.receiver.specs.declared.low.Lows.{Lows}
use Rattle.receiver.specs.declared.low.Lows.TheVariants as L
use Rattle.receiver.specs.declared.walk.Phase.{Phase}
use Rattle.receiver.specs.Place.{place_at, placed, start_of}
use Rattle.receiver.specs.Frame.{Frame, Event}
use Rattle.receiver.specs.Forecast.{Start, dropped, outset}
use Rattle.receiver.specs.Join.{Held, Finding, notice, low, ordinary}
use Rattle.receiver.specs.Low.{wire}
use Rattle.receiver.specs.Lows.{lows_of}
use Rattle.receiver.specs.Pull.{Pulled, meet}
use Rattle.receiver.specs.State.{frame_of, todo_of, held_of, keeps, pull_of, from, Fine, Settled, Staged, Able}
use Rattle.receiver.specs.Call.{fresh_of, Said, Gave, Gives, said_of, says, leave, moved, holds, unchanged, gone, ordinary_by, walk_to, start_call, due_call, low_call, payload_call, word_call, first_call, stage_call, call_as, call_of, counted_of, stamps_of, stepped, hands}
use Rattle.receiver.proofs.Walking.{place, low_in_lem}
use Rattle.downlink.specs.Damage.{Bytes}
use Rattle.downlink.proofs.Strip.{bytes, bytes_placed}
use Rattle.downlink.proofs.Rests.{began_of, phase_of, kept_of, FrameOk, need, HeldOk, frame_back, no_todo, MetOk, held_back, keeps_back, fine, settled}
use Rattle.downlink.proofs.Pulls.{PulledOk, pull_ok, phase_met, phase_ok, dropping, outset_ok}

-- some step and some bytes of the room carry it
pub record Carried (tp : List ℕ) (g : Gave) : Type 0 where
  pub step : Step
  pub room : List ℕ
  pub gives : Gives g step tp room

drop_bytes : (n : ℕ) (bs : List ℕ) → Bytes bs → Bytes (drop n bs)
drop_bytes n bs small i = subst⁻¹ (λ (b : ℕ). b < 256) (get_or-drop n bs i 0) (small (n + i))

-- the bytes from this one on, with their places
placed_bytes : (t : Stamp) (n : ℕ) (bs : List ℕ) → Bytes bs → Bytes (bytes (placed t n (drop n bs)))
placed_bytes t n bs small = subst⁻¹ (λ (l : List ℕ). Bytes l) (bytes_placed t n (drop n bs)) (drop_bytes n bs small)

placed_length : (t : Stamp) (n : ℕ) (bs : List ℕ) → length (placed t n bs) ≡ length bs
placed_length t n [] = refl
placed_length t n (b ∷ bs) = ap suc (placed_length t (suc n) bs)

within_tp : (t : Stamp) (n : ℕ) (bs : List ℕ) → n ≤ length bs → n + length (placed t n (drop n bs)) ≤ length bs
within_tp t n bs p = omega (arith, placed_length t n (drop n bs), length-drop n bs)

-- of a receiver that has counted the TP
module _ (r : Receiver) (tp m : List ℕ) (able : Able r) (small : Bytes tp) where
  abbrev began : Place
  began = r.walk.began

  abbrev frame : Frame wire
  frame = frame_of began r.walk.phase

  as_it_is : (f : Find) (g : Place) (a : Said) → said_of f (record { repaired = 0; at = g }) tp m ≡ a → Carried tp (moved r r.stage r.walk.at a m)
  unfolding stepped
  as_it_is f g a e = record {
    step = record { receiver = r; find = f; about = record { repaired = 0; at = g } };
    room = m;
    gives = record { same = ap (λ (a : Said). moved r r.stage r.walk.at a m) e; able = able };
  }

  module _ (full : length m ≡ r.limit) (right : length tp ≡ r.size) (t : Stamp) where
    -- a receiver of r's settings in this stage, at this place
    abbrev now : Stage → ℕ → Place → Phase → Held wire → Receiver
    now g at b ph s = record {
      size = r.size;
      stream = r.stream;
      limit = r.limit;
      count = r.count;
      stage = g;
      walk = record { at = at; phase = ph; began = b; kept = kept_of s };
    }

    stands_for : (g : Stage) (at : ℕ) (b : Place) (ph : Phase) (f : Frame wire) (es : List (Event wire)) (s : Held wire) (room : List ℕ) (x : Find) (z : About) (a : Said)
        → frame_of b ph ≡ f → todo_of b ph ≡ es → held_of (kept_of s) room ≡ s → said_of x z tp room ≡ a
        → at ≤ r.size → Fine (length m) ph (kept_of s) → Staged g (now g at b ph s).walk
        → Carried tp (leave r g at f es s (holds s) a room)
    unfolding stepped
    stands_for g at b ph f es s room x z a e₁ e₂ e₃ e₄ p q st =
        record {
          step = record { receiver = now g at b ph s; find = x; about = z };
          room = room;
          gives = record {
            same = ap (λ y. leave r g at y (todo_of b ph) (held_of (kept_of s) room) (keeps (kept_of s)) (said_of x z tp room) room) e₁
                ∙ ap (λ y. leave r g at f y (held_of (kept_of s) room) (keeps (kept_of s)) (said_of x z tp room) room) e₂
                ∙ ap (λ y. leave r g at f es y (keeps (kept_of s)) (said_of x z tp room) room) e₃
                ∙ ap (λ (y : ℕ). leave r g at f es s y (said_of x z tp room) room) (keeps_back (length m) began s)
                ∙ ap (λ (y : Said). leave r g at f es s (holds s) y room) e₄;
            able = record { size = able.size; walk = record { at = p; phase = subst (λ (n : ℕ). Fine n ph (kept_of s)) full q }; stage = st };
          };
        }

    -- ordinary bytes
    plain_by : (o : Option (Finding wire)) (p : Pulled wire) → PulledOk (length m) began r.size o p → Carried tp (ordinary_by o r t p)
    plain_by None p (e, ok, h) =
        let b = began_of began p.frame in
        stands_for S.Fresh 0 b (phase_of p.frame) p.frame p.todo p.held p.room F.Nothing (record { repaired = 0; at = start_of t })
        (says F.Nothing None (start_of t))
        (frame_back began p.frame ok) (no_todo b p.frame ∙ sym e) (held_back (length m) began _ p.held p.room h) refl
        (omega arith) (fine (length m) began p.frame p.held p.room ok h) (settled (length m) began p.frame ok)
    plain_by (Some (notice n g)) p (e, rests, q) =
        stands_for S.Plain p.at rests.began rests.phase p.frame p.todo p.held p.room (F.Notice n) (record { repaired = 0; at = g })
        (says (F.Notice n) (Some n) g)
        rests.frame rests.todo rests.kept refl q rests.sound (omega arith)
    plain_by (Some (low c d)) p (e, rests, q) = absurd e
    plain_by (Some (ordinary c d)) p (e, rests, q) =
        stands_for S.Plain p.at rests.began rests.phase p.frame p.todo p.held p.room (F.Ordinary c.content (length d))
        (record { repaired = c.repaired; at = c.at }) (hands (F.Ordinary c.content (length d)) c d)
        rests.frame rests.todo rests.kept (ap (λ (d' : List ℕ). hands (F.Ordinary c.content (length d)) c d') e) q rests.sound (omega arith)

    start_by : (at : ℕ) (x : Start wire) → MetOk (length m) began x.frame (meet wire (length m) (held_of r.walk.kept m) m x.told)
        → at + x.past ≤ length tp → Carried tp (start_call r t at x tp m)
    start_by at x ok p =
        let f = from (length m) t x (walk_to r at) tp m in
        let n = at + x.past in
        plain_by f.find f
        (pull_ok (length m) began r.size (placed t n (drop n tp)) x.frame n (meet wire (length m) (held_of r.walk.kept m) m x.told) ok
        (placed_bytes t n tp small) (omega (arith, within_tp t n tp p)))

    -- 7, 9
    dropping_it : (n : ℕ) → Carried tp (gone r t n m)
    unfolding stepped
    dropping_it n = record {
      step = record { receiver = fresh_of r.size r.stream r.limit r.count; find = F.Notice n; about = record { repaired = 0; at = start_of t } };
      room = m;
      gives = record { same = refl; able = record { size = able.size; walk = record { at = omega arith; phase = omega arith }; stage = omega arith } };
    }

    module _ (still : Settled r.walk.phase) where
      begins : FrameOk frame × HeldOk (length m) began (need frame) (held_of r.walk.kept m) m
      begins =
          phase_ok (length m) began began r.walk.phase r.walk.kept m refl still
          (subst⁻¹ (λ (n : ℕ). Fine n r.walk.phase r.walk.kept) full able.walk.phase)

      due_by : (o at : ℕ) → at ≤ length tp → Carried tp (due_call r t o at tp m)
      unfolding due_call
      due_by o at p =
          let bs = placed t at (drop at tp) in
          let x = outset_ok (length m) began (held_of r.walk.kept m) m refl (start_of t) frame begins.0 begins.1 o (at - 4) bs in
          start_by at (outset wire (start_of t) frame o (at - 4) bs) x.0 (omega (arith, x.1, within_tp t at tp p))

      -- a find of the low-latency part
      given : (f : Find) (e i : ℕ) (more : Bool) (at o : ℕ) → o < 2048 → 4 ≤ at → at ≤ length tp → Carried tp (low_call (L.Gives f e i more at) r t o tp m)
      unfolding stepped
      given f e i more at o p q z = record {
        step = record {
          receiver = record { size = r.size; stream = r.stream; limit = r.limit; count = r.count; stage = cond more (S.Low o) (S.Due o); walk = walk_to r at };
          find = f;
          about = record { repaired = e; at = place_at t i };
        };
        room = m;
        gives = record { same = refl; able = record { size = able.size; walk = record { at = omega arith; phase = able.walk.phase }; stage = go more } };
      }
        where
          go : (b : Bool) → Staged (cond b (S.Low o) (S.Due o)) (walk_to r at)
          go true = (p, q, still)
          go false = (p, q, still)

      low_by : (l : Lows) (o : ℕ) → o < 2048 → 4 ≤ place l → place l ≤ length tp → Carried tp (low_call l r t o tp m)
      low_by (L.Broken at) o p q z =
          let bs = placed t at (drop at tp) in
          let x = dropping (length m) began (held_of r.walk.kept m) m refl 11 (place_at t at) bs in
          start_by at (dropped wire 11 (place_at t at) bs) x.0 (omega (arith, x.1, within_tp t at tp z))
      low_by (L.End at) o p q z = due_by o at z
      low_by (L.Gives f e i more at) o p q z = given f e i more at o p q z

      worded : (w : Option ℕ) → Carried tp (word_call w r t tp m)
      worded None = dropping_it 9
      worded (Some w) = go (leb 2048 w)
        where
          go : (b : Bool) → Carried tp (payload_call b r t (w % 2048) tp m)
          go true = let b = low_in_lem true tp 4 (lows_of tp 4) (omega (arith, able.size)) refl in low_by (lows_of tp 4) (w % 2048) (omega arith) b.0 b.1
          go false = due_by (w % 2048) 4 (omega (arith, able.size))

    plain_on : Carried tp (ordinary_by (pull_of (length m) t r.walk tp m).find r t (pull_of (length m) t r.walk tp m))
    unfolding pull_of
    plain_on =
        let p = pull_of (length m) t r.walk tp m in
        plain_by p.find p
        (pull_ok (length m) began r.size (placed t r.walk.at (drop r.walk.at tp)) frame r.walk.at
        (meet wire (length m) (held_of r.walk.kept m) m (todo_of began r.walk.phase))
        (phase_met (length m) began began r.walk.phase r.walk.kept m refl (subst⁻¹ (λ (n : ℕ). Fine n r.walk.phase r.walk.kept) full able.walk.phase))
        (placed_bytes t r.walk.at tp small) (omega (arith, within_tp t r.walk.at tp (omega (arith, able.walk.at)))))

module _ (r : Receiver) (n : Stamps) (tp m : List ℕ) (able : Able r) (small : Bytes tp) where
  -- with the TP counted it is as able
  abbrev counted : Able (counted_of r)
  counted = record { size = able.size; walk = able.walk; stage = able.stage }

  module _ (full : length m ≡ r.limit) (right : length tp ≡ r.size) where
    fresh_by_lem : Settled r.walk.phase → Carried tp (first_call r (counted_of r) n tp m)
    unfolding first_call
    fresh_by_lem still = go (eqb (stream_of (get_or tp 0 0)) r.stream) (eqb (version_of (get_or tp 0 0)) 0) (tp_number_in (number 0 (take 3 (drop 1 tp))))
      where
        go : (a b : Bool) (w : Option ℕ)
            → Carried tp (cond a (cond b (word_call w (counted_of r) n.now tp m) (gone (counted_of r) n.now 7 m)) (unchanged r n.before (F.Notice 8) 8 m))
        go true true w = worded (counted_of r) tp m counted small full right n.now still w
        go true false w = dropping_it (counted_of r) tp m counted small full right n.now 7
        go false b w = as_it_is r tp m able small (F.Notice 8) (start_of n.before) (says (F.Notice 8) (Some 8) (start_of n.before)) refl

    staged_by : (g : Stage) → Staged g r.walk → Carried tp (stage_call g r (counted_of r) n tp m)
    staged_by S.Fresh t = fresh_by_lem t
    staged_by (S.Low o) t =
        let b = low_in_lem true tp r.walk.at (lows_of tp r.walk.at) (omega (arith, able.walk.at)) refl in
        low_by (counted_of r) tp m counted small full right n.now t.2 (lows_of tp r.walk.at) o t.0 (omega (arith, t.1, b.0)) b.1
    staged_by (S.Due o) t = due_by (counted_of r) tp m counted small full right n.now t.2 o r.walk.at (omega (arith, able.walk.at))
    staged_by S.Plain t = plain_on (counted_of r) tp m counted small full right n.now

  -- THE CALL, by any stamps
  pub carried_as : Carried tp (call_as r n tp m)
  unfolding call_as
  carried_as = go (eqb (length m) r.limit) (eqb (length tp) r.size) refl refl
    where
      go : (a b : Bool) → eqb (length m) r.limit ≡ a → eqb (length tp) r.size ≡ b
          → Carried tp (cond a (cond b (stage_call r.stage r (counted_of r) n tp m) (unchanged r n.before (F.Notice 6) 6 m)) (unchanged r n.before F.Refused 1 m))
      go true true e f = staged_by (eqb-true (length m) r.limit e) (eqb-true (length tp) r.size f) r.stage able.stage
      go true false e f = as_it_is r tp m able small (F.Notice 6) (start_of n.before) (says (F.Notice 6) (Some 6) (start_of n.before)) refl
      go false b e f = as_it_is r tp m able small F.Refused (start_of n.before) (says F.Refused (Some 1) (start_of n.before)) refl

-- and by its own count
pub carried : (r : Receiver) (tp m : List ℕ) → Able r → Bytes tp → Carried tp (call_of r tp m)
unfolding call_of
carried r tp m able small = carried_as r (stamps_of r) tp m able small
