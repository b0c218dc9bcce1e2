-- THE TURNS MAKE THE CALL: whatever room is lent, a turn with a find gives what the call gives, and one without leaves the
-- call that was asked for; the data that it reads put in. Assumes nothing.
use mathlib.Core.Path.{ap, refl, subst, sym, ◌∙◌, ◌≡◌}
use mathlib.Core.Bool.{Bool, cond, false, true}
use mathlib.Core.List.{List}
use Prim.Native.Nat.{suc, ℕ, ◌+◌, ◌<◌, ◌≤◌}
use native.Mathlib.Omega.{arith}
use lib.Dec.{eqb}
use lib.ListN.{drop, length}
use borrow.Author.Tests.{eq-eqb, eqb-false, eqb-true}
use Rattle.std.specs.Prelude.{None, Option, Some, Err, Ok, Result}
use Rattle.wire.specs.declared.Header.{Header}
use Rattle.receiver.specs.declared.Find.{Find}
use Rattle.receiver.specs.declared.Find.TheVariants as F
use Rattle.receiver.specs.declared.About.{About}
use Rattle.receiver.specs.declared.Receiver.{Receiver}
use Rattle.receiver.specs.declared.Piece.{Piece}
use Rattle.receiver.specs.declared.Stage.{Stage}
use Rattle.receiver.specs.declared.Stage.TheVariants.{Due, Fresh, Low, Plain}
use Rattle.receiver.specs.declared.Turned as D
use Rattle.receiver.specs.declared.entry.Top.{Top}
use Rattle.receiver.specs.declared.entry.Top.TheVariants.{Dropped, Elsewhere, Says}
use Rattle.receiver.specs.declared.kind.Kind.{Kind}
use Rattle.receiver.specs.declared.kind.Kind.TheVariants as K
use Rattle.receiver.specs.declared.low.Lows.{Lows}
use Rattle.receiver.specs.declared.low.Lows.TheVariants as L
use Rattle.receiver.specs.declared.stages.Course.TheVariants as C
use Rattle.receiver.specs.declared.walk.Turn.{Turn}
use Rattle.receiver.specs.declared.walk.Turn.TheVariants.{More, Stop}
use Rattle.receiver.specs.declared.walk.Walk.{Walk}
use Rattle.receiver.specs.Call.{Gave, Gives, call_as, call_of, counted_of, due_call, low_call, ordinary_call, payload_call, stage_call, stamps_of, walk_to}
use Rattle.receiver.specs.Place.{place_at, start_of}
use Rattle.receiver.specs.declared.Stamp.{Stamp}
use Rattle.receiver.specs.Kind.{kind_of}
use Rattle.receiver.specs.Low.{llep}
use Rattle.receiver.specs.Lows.{and_then, lows, lows_of, one_of, passed_by, repaired_of, told_of}
use Rattle.receiver.specs.Turns.{advance_of}
use Rattle.receiver.specs.Outset.{lost_at, place_of, set_out_of, upon_of}
use Rattle.receiver.specs.Pieces.{due_turn, llep_turn, ordinary_turn, out_turn, receiver_with, same_of, same_turn, stage_turn, stamp_of, step_of, top_of, top_turn, turn_of}
use Rattle.receiver.specs.Turn.{Makes, put_of}
use Rattle.receiver.specs.InWalk.{Carries, room_of}
use Rattle.receiver.specs.InStages.{Leads, Lent, Onward}
use Rattle.receiver.specs.State.{Able, Settled, Sound, Staged, pull_of}
use Rattle.receiver.proofs.Advancing.{put_room}
use Rattle.receiver.proofs.Answering.{call_six}
use Rattle.receiver.proofs.Bodies.{advance_carries, room_length}
use Rattle.receiver.proofs.Calling.{drop_gives, gone_gives, low_gives, pull_of_none, same_gives, tell_gives}
use Rattle.receiver.proofs.Parting.{behind_in, due_behind, due_outside, set_loses, set_reads}
use Rattle.receiver.proofs.Piecing.{piece_of}
use Rattle.receiver.proofs.TakingUp.{fresh_top, fresh_by, says_small}
use Rattle.receiver.proofs.Heading.{Bytes}
use Rattle.receiver.proofs.Walking.{inside_at}
use Rattle.receiver.proofs.Moving.{due_same, low_same, lows_free, on, ordinary_call_same}

-- the call of a receiver in its stage, by its own count
abbrev pub staged : Receiver → List ℕ → List ℕ → Gave
staged q tp m = stage_call q.stage q (counted_of q) (stamps_of q) tp m

-- a turn among the stages

pub record Goes (gave : Gave) (r : Receiver) (tp m : List ℕ) (q : Receiver) (m' : List ℕ) : Type 0 where
  pub same : staged q tp m' ≡ gave
  pub able : Able q
  pub size : q.size ≡ r.size
  pub limit : q.limit ≡ r.limit
  pub room : length m' ≡ length m

abbrev pub Made : Option Find → About → Gave → Receiver → List ℕ → List ℕ → Receiver → List ℕ → Type 0
Made None a gave r tp m q m' = Goes gave r tp m q m'
Made (Some f) a gave r tp m q m' = Gives gave (record { receiver = q; find = f; about = a }) tp m'

abbrev pub MadeBy : D.Turned → Gave → Receiver → List ℕ → List ℕ → Type 0
MadeBy t gave r tp m = Made t.told t.about gave r tp m t.receiver (put_of t.piece tp m)

low_staged : (more : Bool) (o : ℕ) (w : Walk) → o < 2048 → 4 ≤ w.at → Settled w.phase → Staged (cond more (Low o) (Due o)) w
low_staged true o w l b s = (l, b, s)
low_staged false o w l b s = (l, b, s)

-- r in a stage, of which nothing else changes
module _ (r : Receiver) (tp m : List ℕ) (able : Able r) (whole : length tp ≡ r.size) (full : length m ≡ r.limit) where
  abbrev pub in_stage : Stage → Receiver
  in_stage g = receiver_with r g r.walk

  abbrev t : Stamp
  t = stamp_of r

  -- the TP's header, with which the TP is counted
  module _ (z : Settled r.walk.phase) where
    abbrev f : Receiver
    f = in_stage Fresh

    abbrev c : Receiver
    c = counted_of f

    top_made : (x : Top) → top_of r.stream tp ≡ x → MadeBy (top_turn x f (length tp)) (fresh_by x f (stamps_of f) tp m) f tp m
    unfolding put_of
    top_made Elsewhere e = same_gives f t tp m 8 (record { size = able.size; walk = able.walk; stage = z })
    top_made (Dropped n) e = gone_gives c (stamp_of c) tp m able.size whole full n
    top_made (Says has o) e =
        let b = able.size in
        record {
          same = same has;
          able = record { size = b; walk = record { at = omega arith; phase = able.walk.phase }; stage = low_staged has o (walk_to r 4) (says_small r.stream tp has o e) (omega arith) z };
          size = refl;
          limit = refl;
          room = refl;
        }
      where
        same : (has : Bool) → staged (on c (stamp_of c) (cond has (Low o) (Due o)) 4 o tp m) tp m ≡ payload_call has c (stamp_of c) o tp m
        same true = low_same c (stamp_of c) (Low o) 4 o tp m (lows_of tp 4)
        same false = due_same c (stamp_of c) (Due o) 4 o tp m 4

  -- one LLEP
  module _ (o : ℕ) (z : Staged (Low o) r.walk) where
    abbrev at : ℕ
    at = r.walk.at

    abbrev l : Receiver
    l = in_stage (Low o)

    found : (f : Find) (e : ℕ) (more : Bool) (i : ℕ) → 4 ≤ i → i ≤ length tp
        → Made (Some f) (record { repaired = e; at = place_at t at }) (low_call (L.Gives f e at more i) l t o tp m) l tp m
        (on l t (cond more (Low o) (Due o)) i o tp m) m
    found f e more i a b = low_gives l t tp m able.size whole full o f e at more i at z.0 a b able.walk z.2

    kind_made : (k : Kind) (h : Header) (more : Bool) → at + 7 + h.size ≤ length tp
        → Made (told_of k h at) (record { repaired = repaired_of k h; at = place_at t at })
        (low_call (and_then (passed_by (told_of k h at) (repaired_of k h) at more (at + 7 + h.size)) (λ i. lows (length tp) tp i)) l t o tp m) l tp m
        (on l t (cond more (Low o) (Due o)) (at + 7 + h.size) o tp m) m
    unfolding lows_of
    kind_made K.Fill h more b = record {
      same = same more;
      able = record { size = able.size; walk = record { at = omega arith; phase = able.walk.phase }; stage = low_staged more o (walk_to r (at + 7 + h.size)) z.0 (omega (arith, z.1)) z.2 };
      size = refl;
      limit = refl;
      room = refl;
    }
      where
        same : (more : Bool) → staged (on l t (cond more (Low o) (Due o)) (at + 7 + h.size) o tp m) tp m
            ≡ low_call (and_then (passed_by None 0 at more (at + 7 + h.size)) (λ i. lows (length tp) tp i)) l t o tp m
        same true =
            low_same l t (Low o) (at + 7 + h.size) o tp m (lows_of tp (at + 7 + h.size))
            ∙ ap (λ (x : Lows). low_call x l t o tp m) (lows_free (suc (length tp)) (length tp) tp (at + 7 + h.size) (omega arith) (omega arith))
        same false = due_same l t (Due o) (at + 7 + h.size) o tp m (at + 7 + h.size)
    kind_made K.Complete h more b = found (F.Low h.content (at + 6) h.size) h.flips more (at + 7 + h.size) (omega (arith, z.1)) b
    kind_made K.Reserved h more b = found (F.Notice 16) 0 more (at + 7 + h.size) (omega (arith, z.1)) b
    kind_made K.First h more b = found (F.Notice 16) 0 more (at + 7 + h.size) (omega (arith, z.1)) b
    kind_made K.Middle h more b = found (F.Notice 16) 0 more (at + 7 + h.size) (omega (arith, z.1)) b
    kind_made K.Last h more b = found (F.Notice 16) 0 more (at + 7 + h.size) (omega (arith, z.1)) b

    llep_by : (x : Option (Header × Bool)) → llep (drop at tp) ≡ x → MadeBy (llep_turn x l o (length tp)) (low_call (and_then (one_of x at) (λ i. lows (length tp) tp i)) l t o tp m) l tp m
    unfolding put_of
    llep_by None e = let b = able.walk.at in drop_gives l t tp m able.size whole full 11 (place_at t at) at (omega arith)
    llep_by (Some (h, more)) e = kind_made (kind_of h) h more (inside_at tp at h more e)

    llep_made : MadeBy (llep_turn (llep (drop at tp)) l o (length tp)) (low_call (lows_of tp at) l t o tp m) l tp m
    unfolding lows_of lows
    llep_made = llep_by (llep (drop at tp)) refl

  -- the outset
  module _ (o : ℕ) (z : Staged (Due o) r.walk) where
    abbrev d : Receiver
    d = in_stage (Due o)

    lent : Lent d r.walk.at tp
    lent = record { size = able.size; whole = whole; payload = z.1; walk = able.walk; settled = z.2 }

    in_tp_lem : r.walk.at ≤ length tp
    in_tp_lem = let b = able.walk.at in omega arith

    out_made : (n : ℕ) (s : Result Walk ℕ) → place_of o r.walk.at (length tp) ≡ Ok n → set_out_of r.walk n tp ≡ s
        → MadeBy (out_turn s d n (length tp)) (due_call d t o r.walk.at tp m) d tp m
    unfolding put_of Leads
    out_made n (Err i) p e =
        let b = behind_in o r.walk.at (length tp) n in_tp_lem p in
        due_behind d t o r.walk.at tp lent
        (C.Gives (step_of d Plain (r.walk.at + n) (upon_of (r.walk.at + n) (length tp)) None (F.Notice i) (lost_at i t r.walk.began))) n p
        (set_loses d t r.walk.at n tp (set_out_of r.walk n tp) lent i (upon_of (r.walk.at + n) (length tp)) b refl refl e) m full
    out_made n (Ok x) p e =
        let b = behind_in o r.walk.at (length tp) n in_tp_lem p in
        let g : Onward (due_call d t o r.walk.at tp) d t tp x =
        due_behind d t o r.walk.at tp lent (C.Reads x) n p (set_reads d t r.walk.at n tp (set_out_of r.walk n tp) lent x b refl e) in
        record {
          same = ordinary_call_same d Plain x t (pull_of (length m) t x tp m) ∙ g.same m full;
          able = record { size = able.size; walk = g.sound; stage = omega arith };
          size = refl;
          limit = refl;
          room = refl;
        }

    due_made : (p : Result ℕ ℕ) → place_of o r.walk.at (length tp) ≡ p → MadeBy (due_turn p d tp) (due_call d t o r.walk.at tp m) d tp m
    unfolding put_of Leads
    due_made (Err n) e = due_outside d t o r.walk.at tp lent n e m full
    due_made (Ok n) e = out_made n (set_out_of r.walk n tp) e refl

  -- among ordinary bytes
  module _ (bytes : Bytes tp) where
    abbrev w : Walk
    w = r.walk

    abbrev p : Receiver
    p = in_stage Plain

    plain_by : (x : Turn) (m' : List ℕ) → Carries (length m) t w tp m x m' → length m' ≡ length m
        → Made (ordinary_turn x p).told (ordinary_turn x p).about (ordinary_call p t (pull_of (length m) t w tp m)) p tp m (ordinary_turn x p).receiver m'
    unfolding Carries
    plain_by (More x) m' c b = record {
      same = ordinary_call_same p Plain x t (pull_of (length m') t x tp m') ∙ ap (λ (n : ℕ). ordinary_call p t (pull_of n t x tp m')) b ∙ ap (ordinary_call p t) c.same;
      able = record { size = able.size; walk = rw (full, whole) at c.sound; stage = omega arith };
      size = refl;
      limit = refl;
      room = b;
    }
    plain_by (Stop a) m' c b =
        tell_gives p t tp m' m able.size whole full a (pull_of (length m) t w tp m) c.same c.sound c.gained (pull_of_none (length m) t w tp m) b

    sound : Sound r.limit (length tp) w
    sound = subst (λ (n : ℕ). Sound r.limit n w) (sym whole) able.walk

    plain_made : MadeBy (ordinary_turn (advance_of r.limit t w tp) p) (ordinary_call p t (pull_of (length m) t w tp m)) p tp m
    plain_made =
        let x = advance_of r.limit t w tp in
        let d = subst (λ (n : ℕ). Carries n t w tp m x (room_of w tp m)) (sym full) (advance_carries r.limit t tp m full bytes w sound) in
        let e = ap (λ (y : Piece). put_of y tp m) (piece_of p x) ∙ put_room r.limit t w tp m in
        subst (λ (m' : List ℕ). Made (ordinary_turn x p).told (ordinary_turn x p).about (ordinary_call p t (pull_of (length m) t w tp m)) p tp m (ordinary_turn x p).receiver m') (sym e)
        (plain_by x (room_of w tp m) d (room_length r.limit w tp m full sound ∙ sym full))

    pub stage_made : (g : Stage) → Staged g r.walk → MadeBy (stage_turn g (in_stage g) tp) (staged (in_stage g) tp m) (in_stage g) tp m
    stage_made Fresh z =
        subst (λ (x : Gave). MadeBy (top_turn (top_of r.stream tp) (in_stage Fresh) (length tp)) x (in_stage Fresh) tp m)
        (fresh_top (in_stage Fresh) (stamps_of (in_stage Fresh)) tp m) (top_made z (top_of r.stream tp) refl)
    stage_made (Low o) z = llep_made o z
    stage_made (Due o) z = due_made o z (place_of o r.walk.at (length tp)) refl
    stage_made Plain z = plain_made

-- what a turn makes of the call

call_staged : (r : Receiver) (tp m : List ℕ) → length m ≡ r.limit → length tp ≡ r.size → staged r tp m ≡ call_of r tp m
unfolding call_of call_as
call_staged r tp m f w = rw (eq-eqb (length m) r.limit f, eq-eqb (length tp) r.size w)

module _ (r : Receiver) (tp m : List ℕ) (whole : length tp ≡ r.size) (full : length m ≡ r.limit) where
  makes_by : (t : Option Find) (a : About) (q : Receiver) (m' : List ℕ) → Made t a (staged r tp m) r tp m q m' → Makes t a r tp m q m'
  makes_by None a q m' d = (d.room ∙ full ∙ sym d.limit, sym (call_staged q tp m' (d.room ∙ full ∙ sym d.limit) (whole ∙ sym d.size)) ∙ d.same ∙ call_staged r tp m full whole)
  makes_by (Some f) a q m' d = subst (λ (x : Gave). Gives x (record { receiver = q; find = f; about = a }) tp m') (call_staged r tp m full whole) d

pub able_by : (t : Option Find) (a : About) (x : Gave) (r : Receiver) (tp m : List ℕ) (q : Receiver) (m' : List ℕ) → Made t a x r tp m q m' → Able q
able_by None a x r tp m q m' d = d.able
able_by (Some f) a x r tp m q m' d = d.able

-- THE TURNS MAKE THE CALL
pub turn_makes : (r : Receiver) (tp m : List ℕ) → Able r → Bytes tp → length m ≡ r.limit
    → Makes (turn_of r tp).told (turn_of r tp).about r tp m (turn_of r tp).receiver (put_of (turn_of r tp).piece tp m)
unfolding turn_of put_of call_of
turn_makes r tp m a b f = by (eqb (length tp) r.size) refl
  where
    by : (x : Bool) → eqb (length tp) r.size ≡ x
        → Makes (cond {A = D.Turned} x (stage_turn r.stage r tp) (same_turn r 6)).told (cond {A = D.Turned} x (stage_turn r.stage r tp) (same_turn r 6)).about r tp m (cond {A = D.Turned} x (stage_turn r.stage r tp) (same_turn r 6)).receiver
        (put_of (cond {A = D.Turned} x (stage_turn r.stage r tp) (same_turn r 6)).piece tp m)
    by true e =
        let w = eqb-true (length tp) r.size e in
        makes_by r tp m w f (stage_turn r.stage r tp).told (stage_turn r.stage r tp).about (stage_turn r.stage r tp).receiver _
        (stage_made r tp m a w f b r.stage a.stage)
    by false e =
        call_six r (stamps_of r) tp m (same_of r (F.Notice 6) (start_of (stamp_of r))) m f (eqb-false (length tp) r.size e) (same_gives r (stamp_of r) tp m 6 a)
