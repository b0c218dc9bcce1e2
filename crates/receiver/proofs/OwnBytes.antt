-- EACH TURN BRINGS EXACTLY WHAT ITS OWN BYTES BRING TO LIGHT: the TP's header, an LLEP, the outset and ordinary bytes alike.
-- Assumes nothing.
use mathlib.Core.Path.{ap, refl, subst, sym, ◌∙◌, ◌≡◌}
use mathlib.Core.Bool.{Bool, cond, false, true}
use mathlib.Core.List.{List, [], append-nil, ◌++◌, ◌∷◌}
use Prim.Native.Nat.{suc, zero, ℕ, ◌+◌, ◌-◌, ◌≤◌}
use native.Mathlib.Omega.{arith}
use lib.Dec.{eqb}
use lib.ListN.{drop, length, take}
use lib.Seq.{drop-drop, take-take}
use borrow.Author.Tests.{eqb-true}
use Rattle.std.specs.Prelude.{Err, Ok, Result, None, Option, Some}
use Rattle.wire.specs.declared.Header.{Header}
use Rattle.receiver.specs.declared.walk.Walk.{Walk}
use Rattle.receiver.specs.declared.Piece.{Piece}
use Rattle.receiver.specs.declared.Place.{Place}
use Rattle.receiver.specs.declared.Receiver.{Receiver}
use Rattle.receiver.specs.declared.Stage.{Stage}
use Rattle.receiver.specs.declared.Stage.TheVariants.{Due, Fresh, Low, Plain}
use Rattle.receiver.specs.declared.Stamp.{Stamp}
use Rattle.receiver.specs.declared.Turned.{Turned}
use Rattle.receiver.specs.declared.entry.Top.{Top}
use Rattle.receiver.specs.declared.entry.Top.TheVariants.{Dropped, Elsewhere, Says}
use Rattle.receiver.specs.declared.kind.Kind.{Kind}
use Rattle.receiver.specs.declared.kind.Kind.TheVariants as K
use Rattle.receiver.specs.declared.outset.Fore.{Fore}
use Rattle.receiver.specs.declared.outset.Fore.TheVariants.{At, Bad, Off}
use Rattle.receiver.specs.declared.walk.Gain.{Gain}
use Rattle.receiver.specs.declared.walk.Gain.TheVariants as G
use Rattle.receiver.specs.declared.walk.Phase.{Phase}
use Rattle.receiver.specs.declared.walk.Turn.{Turn}
use Rattle.receiver.specs.declared.walk.Turn.TheVariants.{More, Stop}
use Rattle.receiver.specs.Forecast.{Start, agree, foretold, phase, resume, start, upon}
use Rattle.receiver.specs.Frame.{Event, lose}
use Rattle.receiver.specs.InStages.{Lent}
use Rattle.receiver.specs.InWalk.{room_of}
use Rattle.receiver.specs.Join.{low}
use Rattle.receiver.specs.Kind.{kind_of}
use Rattle.receiver.specs.Low.{begin_of, ep_at, given, llep, wire}
use Rattle.receiver.specs.Lows.{repaired_of, told_of}
use Rattle.receiver.specs.Outset.{fore_at, fore_of, lost_at, out_by, place_of, set_out_of, upon_of}
use Rattle.receiver.specs.Place.{place_at, placed, start_of}
use Rattle.receiver.specs.Pieces.{due_turn, gave_of, llep_turn, ordinary_turn, out_turn, read_of, same_turn, stage_turn, stamp_of, tell_of, top_of, top_turn, turn_of}
use Rattle.receiver.specs.State.{Able, Settled, Sound, Staged, frame_of, todo_of}
use Rattle.receiver.specs.Tp.{Heard, heard_by, refusing}
use Rattle.receiver.specs.Call.{stamps_of}
use Rattle.receiver.specs.Turn.{TurnedAs, put_of}
use Rattle.receiver.specs.Turns.{advance_of}
use Rattle.receiver.proofs.Advancing.{put_room, walk_of}
use Rattle.receiver.proofs.Bringing.{Brings}
use Rattle.receiver.proofs.Eventing.{advance_brings}
use Rattle.receiver.proofs.Foretelling.{fore_any}
use Rattle.receiver.proofs.Heading.{Bytes}
use Rattle.receiver.proofs.Parting.{outset_at, starts}
use Rattle.receiver.proofs.Piecing.{piece_of}
use Rattle.receiver.proofs.SettingOut.{bad_since, by_at, by_bad, by_off, settled_todo, upon_frame, upon_todo}
use Rattle.receiver.proofs.Brought.{Takes, brought, frame_in, llep_brings, own_of, stage_brings, start_brings, tells, top_brings}

-- an LLEP's data stand among its own bytes
own_data : (n k j : ℕ) (l : List ℕ) → k + n ≤ j → take n (drop k (take j l)) ≡ take n (drop k l)
own_data n zero j l e = take-take n j l (omega arith)
own_data n (suc k) zero l e = absurd (omega arith)
own_data n (suc k) (suc j) [] e = refl
own_data n (suc k) (suc j) (a ∷ l) e = own_data n k j l (omega arith)

module _ (r : Receiver) (tp m : List ℕ) where
  abbrev w : Phase
  w = r.walk.phase

  abbrev left : List (Event wire)
  left = todo_of r.walk.began w

  abbrev stamp : Stamp
  stamp = stamp_of r

  -- a loss of step by this notice, with nothing left to be taken in
  lost_told : (n : ℕ) (p : Place) → Settled w → left ++ lose n p ∷ [] ≡ lose n p ∷ []
  lost_told n p s = ap (λ (es : List (Event wire)). es ++ lose n p ∷ []) (settled_todo r.walk.began w s)

  top_takes : (t : Top) → Settled w → Takes (top_brings t (stamps_of r) (frame_in r)) r tp m (top_turn t r (length tp)) m
  top_takes Elsewhere s = record { taken = []; frame = refl; told = append-nil left; held = refl; finds = refl }
  top_takes (Dropped n) s =
      let p = start_of (stamps_of r).now in
      record { taken = lose n p ∷ []; frame = refl; told = lost_told n p s; held = refl; finds = refl }
  top_takes (Says has o) s = record { taken = []; frame = refl; told = append-nil left; held = refl; finds = refl }

  abbrev at : ℕ
  at = r.walk.at

  module _ (o : ℕ) where
    kind_told : (k : Kind) (h : Header)
        → given k (place_at stamp at) h (take (at + 7 + h.size - at) (drop at tp)) ++ [] ≡ tells (told_of k h at) (record { repaired = repaired_of k h; at = place_at stamp at }) tp m
    kind_told K.Fill h = refl
    kind_told K.Complete h =
        ap (λ (d : List ℕ). low (begin_of (ep_at (place_at stamp at) h)) d ∷ []) (own_data h.size 6 (at + 7 + h.size - at) (drop at tp) (omega arith) ∙ ap (take h.size) (drop-drop 6 at tp))
    kind_told K.Reserved h = refl
    kind_told K.First h = refl
    kind_told K.Middle h = refl
    kind_told K.Last h = refl

    llep_takes : (l : Option (Header × Bool)) → Settled w → Takes (llep_brings l stamp at (frame_in r) (own_of (llep_turn l r o (length tp)).piece tp)) r tp m (llep_turn l r o (length tp)) m
    llep_takes None s = record { taken = lose 11 (place_at stamp at) ∷ []; frame = refl; told = lost_told 11 (place_at stamp at) s; held = refl; finds = refl }
    llep_takes (Some (h, more)) s = record { taken = []; frame = refl; told = append-nil left; held = refl; finds = kind_told (kind_of h) h }

  -- the outset
  module _ (n : ℕ) (s : Settled w) (inside : at ≤ length tp) where
    abbrev bs : List (Place × ℕ)
    bs = placed stamp at (drop at tp)

    abbrev begun : Start wire
    begun = start wire (start_of stamp) (frame_in r) n bs

    there : (g : Place) → frame_of g (upon_of (at + n) (length tp)) ≡ upon wire (drop n bs)
    there g = upon_frame g stamp at n tp

    none_left : (g : Place) → todo_of g (upon_of (at + n) (length tp)) ≡ []
    none_left g = upon_todo g (at + n) (length tp)

    resumes : (i : ℕ) → begun ≡ resume wire (lose i (lost_at i stamp r.walk.began) ∷ []) n bs → Takes (start_brings begun) r tp m (out_turn (Err i) r n (length tp)) m
    resumes i e =
        let g = r.walk.began in
        let p = lost_at i stamp g in
        record {
          taken = lose i p ∷ [];
          frame = ap (λ (t : Start wire). t.frame) e ∙ sym (there g);
          told = ap (λ (t : Start wire). left ++ t.told) e ∙ lost_told i p s ∙ sym (ap (λ (es : List (Event wire)). lose i p ∷ es) (none_left g));
          held = refl;
          finds = refl;
        }

    -- the forecast, over the bytes with their places
    fore_here : (f : Fore) → fore_of w (drop at tp) ≡ f → fore_at r.walk.began w bs ≡ f
    fore_here f e = fore_any r.walk.began stamp at w tp at inside s ∙ e

    fore_takes : (f : Fore) → fore_of w (drop at tp) ≡ f → Takes (start_brings begun) r tp m (out_turn (out_by f r.walk n (length tp)) r n (length tp)) m
    fore_takes Off e =
        let g = r.walk.began in
        let z = by_off (phase wire (frame_in r)) (foretold wire (frame_in r) bs) (start_of stamp) (frame_in r) n bs (fore_here Off e) in
        record {
          taken = [];
          frame = ap (λ (t : Start wire). t.frame) z ∙ sym (there g);
          told = ap (λ (t : Start wire). left ++ t.told) z ∙ append-nil left ∙ settled_todo g w s ∙ sym (none_left g);
          held = refl;
          finds = refl;
        }
    fore_takes Bad e =
        let x = fore_here Bad e in
        resumes 12 (by_bad (phase wire (frame_in r)) (foretold wire (frame_in r) bs) (start_of stamp) (frame_in r) n bs refl x
        ∙ ap (λ (p : Place). resume wire (lose 12 p ∷ []) n bs) (bad_since (start_of stamp) r.walk.began w bs x))
    fore_takes (At k) e =
        go (eqb k n) (by_at k (phase wire (frame_in r)) (foretold wire (frame_in r) bs) (start_of stamp) (frame_in r) n bs refl (fore_here (At k) e))
      where
        go : (b : Bool) → begun ≡ agree wire b (start_of stamp) (frame_in r) n bs → Takes (start_brings begun) r tp m (out_turn (cond {A = Result Walk ℕ} b (Ok r.walk) (Err 13)) r n (length tp)) m
        go true z = record {
          taken = [];
          frame = ap (λ (t : Start wire). t.frame) z;
          told = ap (λ (t : Start wire). left ++ t.told) z ∙ append-nil left;
          held = refl;
          finds = refl;
        }
        go false z = resumes 13 z

  due_takes : (o : ℕ) (l : Lent r at tp) (p : Result ℕ ℕ) → Takes (start_brings (starts r stamp o at tp l p)) r tp m (due_turn p r tp) m
  unfolding set_out_of
  due_takes o l (Err n) = record { taken = lose n (start_of stamp) ∷ []; frame = refl; told = lost_told n (start_of stamp) l.settled; held = refl; finds = refl }
  due_takes o l (Ok n) =
      let p = l.walk.at in
      let q = l.whole in
      fore_takes n l.settled (omega arith) (fore_of w (drop at tp)) refl

  -- among ordinary bytes
  turn_takes : (t : Turn) (m' : List ℕ) → Brings r.limit r.walk.began w r.walk.kept m (placed stamp at (take ((walk_of t).at - at) (drop at tp))) t m'
      → Takes (stage_brings Plain r tp (own_of (ordinary_turn t r).piece tp)) r tp m (ordinary_turn t r) m'
  turn_takes (More x) m' b = record { taken = b.taken; frame = b.frame; told = b.told; held = b.held; finds = b.finds }
  turn_takes (Stop a) m' b = by a.gain b
    where
      by : (g : Gain) → Brings r.limit r.walk.began w r.walk.kept m (placed stamp at (take (a.walk.at - at) (drop at tp))) (Stop (record { walk = a.walk; gain = g })) m'
          → Takes (stage_brings Plain r tp (own_of (read_of r.walk a.walk) tp)) r tp m (gave_of (tell_of g r stamp a.walk) (read_of r.walk a.walk)) m'
      by G.Nothing b = record { taken = b.taken; frame = b.frame; told = b.told; held = b.held; finds = b.finds }
      by (G.Notice n) b = record { taken = b.taken; frame = b.frame; told = b.told; held = b.held; finds = b.finds }
      by (G.Packet c sum g n) b = record { taken = b.taken; frame = b.frame; told = b.told; held = b.held; finds = b.finds }

abbrev TakesOf : Heard → Receiver → List ℕ → List ℕ → Turned → Type 0
TakesOf h r tp m q = Takes h r tp m q (put_of q.piece tp m)

module _ (r : Receiver) (tp m : List ℕ) (able : Able r) (bytes : Bytes tp) (full : length m ≡ r.limit) (whole : length tp ≡ r.size) where
  plain_takes : TakesOf (stage_brings Plain r tp (own_of (ordinary_turn (advance_of r.limit (stamp_of r) r.walk tp) r).piece tp)) r tp m (ordinary_turn (advance_of r.limit (stamp_of r) r.walk tp) r)
  plain_takes =
      let t = advance_of r.limit (stamp_of r) r.walk tp in
      let s = subst (λ (n : ℕ). Sound r.limit n r.walk) (sym whole) able.walk in
      let e = ap (λ (p : Piece). put_of p tp m) (piece_of r t) ∙ put_room r.limit (stamp_of r) r.walk tp m in
      subst (λ (m' : List ℕ). Takes (stage_brings Plain r tp (own_of (ordinary_turn t r).piece tp)) r tp m (ordinary_turn t r) m') (sym e)
      (turn_takes r tp m t (room_of r.walk tp m) (advance_brings r.limit (stamp_of r) r.walk tp m full bytes s))

  top_put : (t : Top) → put_of (top_turn t r (length tp)).piece tp m ≡ m
  unfolding put_of
  top_put Elsewhere = refl
  top_put (Dropped n) = refl
  top_put (Says has o) = refl

  llep_put : (l : Option (Header × Bool)) (o : ℕ) → put_of (llep_turn l r o (length tp)).piece tp m ≡ m
  unfolding put_of
  llep_put None o = refl
  llep_put (Some (h, more)) o = refl

  due_put : (p : Result ℕ ℕ) → put_of (due_turn p r tp).piece tp m ≡ m
  unfolding put_of
  due_put (Err n) = refl
  due_put (Ok n) = by (set_out_of r.walk n tp)
    where
      by : (s : Result Walk ℕ) → put_of (out_turn s r n (length tp)).piece tp m ≡ m
      by (Ok x) = refl
      by (Err i) = refl

  stage_takes : (g : Stage) → Staged g r.walk → TakesOf (stage_brings g r tp (own_of (stage_turn g r tp).piece tp)) r tp m (stage_turn g r tp)
  stage_takes Fresh z =
      let t = top_of r.stream tp in
      subst (λ (m' : List ℕ). Takes (top_brings t (stamps_of r) (frame_in r)) r tp m (top_turn t r (length tp)) m') (sym (top_put t)) (top_takes r tp m t z)
  stage_takes (Low o) z =
      let l = llep (drop r.walk.at tp) in
      subst (λ (m' : List ℕ). Takes (llep_brings l (stamp_of r) r.walk.at (frame_in r) (own_of (llep_turn l r o (length tp)).piece tp)) r tp m (llep_turn l r o (length tp)) m') (sym (llep_put l o)) (llep_takes r tp m o l z.2)
  stage_takes (Due o) z =
      let l : Lent r r.walk.at tp = record { size = able.size; whole = whole; payload = z.1; walk = able.walk; settled = z.2 } in
      let p = place_of o r.walk.at (length tp) in
      subst (λ (t : Start wire). TakesOf (start_brings t) r tp m (due_turn p r tp)) (sym (outset_at r (stamp_of r) o r.walk.at tp l))
      (subst (λ (m' : List ℕ). Takes (start_brings (starts r (stamp_of r) o r.walk.at tp l p)) r tp m (due_turn p r tp) m') (sym (due_put p)) (due_takes r tp m o l p))
  stage_takes Plain z = plain_takes

-- EACH TURN BRINGS EXACTLY WHAT ITS OWN BYTES BRING
pub turn_brings : (r : Receiver) (tp m : List ℕ) (q : Turned) → Able r → Bytes tp → length m ≡ r.limit → TurnedAs r tp q
    → TakesOf (brought r tp (own_of q.piece tp)) r tp m q
unfolding turn_of put_of
turn_brings r tp m q a b f t =
    subst (λ (q : Turned). TakesOf (brought r tp (own_of q.piece tp)) r tp m q) (sym t.same) (by (eqb (length tp) r.size) refl)
  where
    by : (x : Bool) → eqb (length tp) r.size ≡ x
        → TakesOf (cond x (stage_brings r.stage r tp (own_of (cond {A = Turned} x (stage_turn r.stage r tp) (same_turn r 6)).piece tp)) (heard_by (frame_in r) (refusing 6 (stamp_of r)))) r tp m
        (cond x (stage_turn r.stage r tp) (same_turn r 6))
    by true e = stage_takes r tp m a b f (eqb-true (length tp) r.size e) r.stage a.stage
    by false e = record { taken = []; frame = refl; told = append-nil (todo_of r.walk.began r.walk.phase); held = refl; finds = refl }
