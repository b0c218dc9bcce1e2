-- One call in its parts: each stage's step gives what the definition of the call says.
-- Assumes nothing.
use mathlib.Core.Path.{ap, refl, subst, sym, ◌∙◌, ◌≡◌}
use mathlib.Core.Bool.{Bool, cond, false, true}
use mathlib.Core.List.{List, [], ◌∷◌}
use Prim.Native.Nat.{suc, zero, ℕ, ◌+◌, ◌<◌, ◌≤◌}
use native.Mathlib.Omega.{arith}
use lib.ListN.{drop, length, length-drop, take}
use lib.Seq.{length-take-le}
use Rattle.std.specs.Prelude.{None, Some, Option}
use Rattle.receiver.specs.declared.Place.{Place}
use Rattle.receiver.specs.declared.Stamp.{Stamp}
use Rattle.receiver.specs.declared.Find.{Find}
use Rattle.receiver.specs.declared.Receiver.{Receiver}
use Rattle.receiver.specs.declared.Stage.{Stage}
use Rattle.receiver.specs.declared.Stage.TheVariants.{Due, Fresh, Low, Plain}
use Rattle.receiver.specs.declared.walk.Answer.{Answer}
use Rattle.receiver.specs.declared.walk.Gain.{Gain}
use Rattle.receiver.specs.declared.walk.Kept.{Kept}
use Rattle.receiver.specs.declared.walk.Phase.{Phase}
use Rattle.receiver.specs.declared.walk.Phase.TheVariants.{Body, Head, Judged, Lost}
use Rattle.receiver.specs.declared.walk.Walk.{Walk}
use Rattle.receiver.specs.Call.{Gives, Said, gone, hands, holds, leave, low_call, ordinary_call, said_of, says, start_call, stepped, unchanged, walk_to}
use Rattle.receiver.specs.Forecast.{dropped}
use Rattle.receiver.specs.Place.{place_at, placed, start_of}
use Rattle.receiver.specs.Frame.{Event, Frame, lost, step}
use Rattle.receiver.specs.Join.{Held, free}
use Rattle.receiver.specs.Low.{Tag, tag_of, wire}
use Rattle.receiver.specs.Outset.{upon_of}
use Rattle.receiver.specs.Pieces.{none_of, same_of, step_of, step_with, tell_of}
use Rattle.receiver.specs.InWalk.{Gained, shown}
use Rattle.receiver.specs.InOutset.{lose_of, set_out}
use Rattle.receiver.specs.InStages.{set_call}
use Rattle.receiver.specs.Pull.{Met, Pulled, dry, found, meet, reads, upto}
use Rattle.receiver.specs.State.{Able, Fine, Roomy, Settled, Sound, Staged, frame_of, held_of, keeps, pull_of, todo_of}
use Rattle.receiver.proofs.SettingOut.{roomy, upon_any, upon_fine, upon_todo}
use Rattle.receiver.proofs.Placing.{length_placed}
use Rattle.receiver.specs.declared.Find.TheVariants as F
use Rattle.receiver.specs.declared.low.Lows.TheVariants as L
use Rattle.receiver.specs.declared.walk.Gain.TheVariants as G

-- where a call says none, nothing is left to be taken in

module _ (cap : ℕ) where
  upto_none : (x : Met wire) (f : Frame wire) (at : ℕ) (go : Held wire → List ℕ → Pulled wire)
      → ((s : Held wire) (m : List ℕ) → (go s m).find ≡ None → (go s m).todo ≡ []) → (upto wire x f at go).find ≡ None → (upto wire x f at go).todo ≡ []
  upto_none (dry s m) f at go q e = q s m e
  upto_none (found x s m es) f at go q e = cc

  reads_none : (bs : List (Place × ℕ)) (f : Frame wire) (at : ℕ) (s : Held wire) (m : List ℕ) → (reads wire cap bs f at s m).find ≡ None → (reads wire cap bs f at s m).todo ≡ []
  reads_none [] f at s m e = refl
  reads_none (b ∷ bs) f at s m e =
      upto_none (meet wire cap s m (step wire f b).1) (step wire f b).0 (suc at) (λ s' m'. reads wire cap bs (step wire f b).0 (suc at) s' m')
      (λ s' m' q. reads_none bs (step wire f b).0 (suc at) s' m' q) e

  pub pull_of_none : (t : Stamp) (w : Walk) (tp m : List ℕ) → (pull_of cap t w tp m).find ≡ None → (pull_of cap t w tp m).todo ≡ []
  unfolding pull_of
  pull_of_none t w tp m e =
      let f = frame_of w.began w.phase in
      let bs = placed t w.at (drop w.at tp) in
      upto_none (meet wire cap (held_of w.kept m) m (todo_of w.began w.phase)) f w.at (λ s m. reads wire cap bs f w.at s m) (λ s m q. reads_none bs f w.at s m q) e

settled_of : (cap : ℕ) (g : Place) (p : Phase) (k : Option Kept) → Fine cap p k → todo_of g p ≡ [] → Settled p
settled_of cap g Lost k f e = omega arith
settled_of cap g (Head n w) k f e = (f.0, f.1)
settled_of cap g (Judged h) k f e = let z : ◌≡◌ {A = ℕ} 0 1 = cc in omega arith
settled_of cap g (Body h zero) k f e = let z : ◌≡◌ {A = ℕ} 0 1 = cc in omega arith
settled_of cap g (Body h (suc n)) k f e = omega arith

-- what is kept lies in the room, so that its length is told

keeps_in : (cap : ℕ) (k : Option Kept) → Roomy cap k 0 → keeps k ≤ cap
keeps_in cap None r = omega arith
keeps_in cap (Some k) r = omega arith

kept_told : (m : List ℕ) (k : Option Kept) → keeps k ≤ length m → keeps k ≡ holds (held_of k m)
kept_told m None l = refl
kept_told m (Some k) l = sym (length-take-le k.len m l)

module _ (r : Receiver) (t : Stamp) (tp m : List ℕ) (size : 16 ≤ r.size) (whole : length tp ≡ r.size) (full : length m ≡ r.limit) where
  shows : (s : Stage) (at : ℕ) (w : Walk) (a : Said) → Sound (length m) (length tp) w
      → leave r s at (frame_of w.began w.phase) (todo_of w.began w.phase) (held_of w.kept m) (keeps w.kept) a m
      ≡ leave r s at (frame_of w.began w.phase) (todo_of w.began w.phase) (held_of w.kept m) (holds (held_of w.kept m)) a m
  shows s at w a d =
      ap (λ (k : ℕ). leave r s at (frame_of w.began w.phase) (todo_of w.began w.phase) (held_of w.kept m) k a m)
      (kept_told m w.kept (keeps_in (length m) w.kept (roomy (length m) w.phase w.kept d.phase)))

  packet_told : (x : Tag) (n : ℕ) → n ≤ length m
      → said_of (F.Ordinary x.content n) (record { repaired = x.repaired; at = x.at }) tp m ≡ hands (F.Ordinary x.content (length (take n m))) x (take n m)
  packet_told x n l = ap (λ (k : ℕ). hands (F.Ordinary x.content k) x (take n m)) (sym (length-take-le n m l))

  notice_by : (n : ℕ) (w : Walk) (p : Pulled wire) → shown (record { walk = w; gain = G.Notice n }) m ≡ p → Sound (length m) (length tp) w
      → Gives (ordinary_call r t p) (step_with r Plain w (F.Notice n) (none_of w.began)) tp m
  unfolding stepped shown
  notice_by n w p e s = record {
    same = shows Plain w.at w (says (F.Notice n) (Some n) w.began) s ∙ ap (ordinary_call r t) e;
    able = record { size = size; walk = rw (full, whole) at s; stage = omega arith };
  }

  -- 12 and 13 leave reading at the offset
  pub lose_gives : (at n i : ℕ) (g : Place) → at + n ≤ length tp → shown (lose_of (at + n) (length tp) i g) m ≡ set_out (length m) t (walk_to r at) n tp m
      → Gives (set_call r t at n tp m) (step_of r Plain (at + n) (upon_of (at + n) (length tp)) None (F.Notice i) g) tp m
  unfolding set_out stepped
  lose_gives at n i g b e =
      let p = upon_of (at + n) (length tp) in
      let x = notice_by i (lose_of (at + n) (length tp) i g).walk (set_out (length m) t (walk_to r at) n tp m) e
      (record { at = b; phase = upon_fine (length m) (at + n) (length tp) None (omega arith) }) in
      let y = upon_any r.walk.began g (at + n) (length tp) in
      let v = upon_todo r.walk.began (at + n) (length tp) ∙ sym (upon_todo g (at + n) (length tp)) in
      record {
        same = ap (λ (f : Frame wire). leave r Plain (at + n) f (todo_of r.walk.began p) free 0 (says (F.Notice i) (Some i) g) m) y
            ∙ ap (λ (es : List (Event wire)). leave r Plain (at + n) (frame_of g p) es free 0 (says (F.Notice i) (Some i) g) m) v
            ∙ x.same;
        able = record { size = size; walk = record { at = x.able.walk.at; phase = x.able.walk.phase }; stage = omega arith };
      }

  tell_by : (g : Gain) (w : Walk) (p : Pulled wire) → shown (record { walk = w; gain = g }) m ≡ p → Sound (length m) (length tp) w → Gained (length m) g
      → (p.find ≡ None → p.todo ≡ []) → Gives (ordinary_call r t p) (tell_of g r t w) tp m
  unfolding stepped shown
  tell_by G.Nothing w p e s d q =
      let s' : Sound r.limit r.size w = rw (full, whole) at s in
      record {
        same = shows Fresh 0 w (says F.Nothing None (start_of t)) s ∙ ap (ordinary_call r t) e;
        able = record {
          size = size;
          walk = record { at = omega arith; phase = s'.phase };
          stage = settled_of (length m) w.began w.phase w.kept s.phase (ap (λ (p : Pulled wire). p.todo) e ∙ q (sym (ap (λ (p : Pulled wire). p.find) e)));
        };
      }
  tell_by (G.Notice n) w p e s d q = notice_by n w p e s
  tell_by (G.Packet c sum b n) w p e s d q = record {
    same = shows Plain w.at w (said_of (F.Ordinary c n) (record { repaired = sum; at = b }) tp m) s
        ∙ ap (λ (a : Said). leave r Plain w.at (frame_of w.began w.phase) (todo_of w.began w.phase) (held_of w.kept m) (holds (held_of w.kept m)) a m) (packet_told (tag_of c sum b) n (omega arith))
        ∙ ap (ordinary_call r t) e;
    able = record { size = size; walk = rw (full, whole) at s; stage = omega arith };
  }

  pub drop_gives : (n : ℕ) (g : Place) (at : ℕ) → at ≤ length tp
      → Gives (start_call r t at (dropped wire n g (placed t at (drop at tp))) tp m) (step_of r Plain (length tp) Lost None (F.Notice n) g) tp m
  unfolding stepped
  drop_gives n g at l =
      let e : length tp ≡ at + length (placed t at (drop at tp)) = omega (arith, length-drop at tp, length_placed t at (drop at tp)) in
      record {
        same = ap (λ (i : ℕ). leave r Plain i lost [] free 0 (says (F.Notice n) (Some n) g) m) e;
        able = record { size = size; walk = record { at = omega arith; phase = omega arith }; stage = omega arith };
      }

  pub gone_gives : (n : ℕ) → Gives (gone r t n m) (step_of r Fresh 0 Lost None (F.Notice n) (start_of t)) tp m
  unfolding stepped
  gone_gives n = record { same = refl; able = record { size = size; walk = record { at = omega arith; phase = omega arith }; stage = omega arith } }

  low_stage : (more : Bool) (o : ℕ) (w : Walk) → o < 2048 → 4 ≤ w.at → Settled w.phase → Staged (cond more (Low o) (Due o)) w
  low_stage true o w l b s = (l, b, s)
  low_stage false o w l b s = (l, b, s)

  pub low_gives : (o : ℕ) (f : Find) (e b : ℕ) (more : Bool) (i at : ℕ) → o < 2048 → 4 ≤ i → i ≤ length tp → Sound r.limit r.size (walk_to r at) → Settled r.walk.phase
      → Gives (low_call (L.Gives f e b more i) r t o tp m) (step_with r (cond more (Low o) (Due o)) (walk_to r i) f (record { repaired = e; at = place_at t b })) tp m
  unfolding stepped
  low_gives o f e b more i at l c d w z = record {
    same = refl;
    able = record { size = size; walk = record { at = omega arith; phase = w.phase }; stage = low_stage more o (walk_to r i) l c z };
  }

-- with the room of the call's entry, m₀
pub tell_gives : (r : Receiver) (t : Stamp) (tp m m₀ : List ℕ) → 16 ≤ r.size → length tp ≡ r.size → length m₀ ≡ r.limit → (a : Answer) (p : Pulled wire)
    → shown a m ≡ p → Sound (length m₀) (length tp) a.walk → Gained (length m₀) a.gain → (p.find ≡ None → p.todo ≡ [])
    → length m ≡ length m₀ → Gives (ordinary_call r t p) (tell_of a.gain r t a.walk) tp m
tell_gives r t tp m m₀ size whole full a p e s d q same =
    tell_by r t tp m size whole (same ∙ full) a.gain a.walk p e
    (subst (λ (n : ℕ). Sound n (length tp) a.walk) (sym same) s) (subst (λ (n : ℕ). Gained n a.gain) (sym same) d) q

pub same_gives : (r : Receiver) (t : Stamp) (tp m : List ℕ) (n : ℕ) → Able r → Gives (unchanged r t (F.Notice n) n m) (same_of r (F.Notice n) (start_of t)) tp m
unfolding stepped
same_gives r t tp m n a = record { same = refl; able = a }

pub refused_gives : (r : Receiver) (t : Stamp) (tp m : List ℕ) → Able r → Gives (unchanged r t F.Refused 1 m) (same_of r F.Refused (start_of t)) tp m
unfolding stepped
refused_gives r t tp m a = record { same = refl; able = a }
