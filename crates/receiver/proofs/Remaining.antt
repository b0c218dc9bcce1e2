-- A TURN AND THE FINDS TO COME: it changes no setting; one without a find leaves the finds that a receiver still has to give of
-- this TP. Assumes nothing.
use mathlib.Core.Path.{ap, refl, subst, sym, ◌∙◌, ◌≡◌}
use mathlib.Core.Bool.{Bool, cond, false, true}
use mathlib.Core.List.{List}
use Prim.Native.Nat.{ℕ}
use lib.Dec.{eqb}
use lib.ListN.{drop, length}
use borrow.Author.Tests.{eq-eqb}
use Rattle.std.specs.Prelude.{None, Option, Err, Ok, Result, Some}
use Rattle.wire.specs.declared.Header.{Header}
use Rattle.receiver.specs.declared.Find.{Find}
use Rattle.receiver.specs.declared.Receiver.{Receiver}
use Rattle.receiver.specs.declared.Stamp.{Stamp}
use Rattle.receiver.specs.declared.Stage.{Stage}
use Rattle.receiver.specs.declared.Stage.TheVariants.{Due, Fresh, Low, Plain}
use Rattle.receiver.specs.declared.Turned.{Turned}
use Rattle.receiver.specs.declared.entry.Top.{Top}
use Rattle.receiver.specs.declared.entry.Top.TheVariants.{Dropped, Elsewhere, Says}
use Rattle.receiver.specs.declared.walk.Gain.{Gain}
use Rattle.receiver.specs.declared.walk.Gain.TheVariants as G
use Rattle.receiver.specs.declared.walk.Turn.{Turn}
use Rattle.receiver.specs.declared.walk.Turn.TheVariants.{More, Stop}
use Rattle.receiver.specs.declared.walk.Walk.{Walk}
use Rattle.receiver.specs.Call.{Gave, call_of, stamps_of}
use Rattle.receiver.specs.Low.{llep}
use Rattle.receiver.specs.Turns.{advance_of}
use Rattle.receiver.specs.Outset.{place_of, set_out_of}
use Rattle.receiver.specs.Pieces.{due_turn, llep_turn, out_turn, ordinary_turn, receiver_with, same_turn, stage_turn, stamp_of, top_turn, turn_of, tell_of, top_of}
use Rattle.receiver.specs.Turn.{Makes, put_of}
use Rattle.receiver.specs.State.{Able}
use Rattle.receiver.proofs.Called.{call_rest, coming_of}
use Rattle.receiver.proofs.Heading.{Bytes}
use Rattle.receiver.proofs.Making.{turn_makes}
use Rattle.receiver.proofs.Promising.{turn_as}
use Rattle.receiver.proofs.Rest.{afterwards}

-- the settings of an opening
pub record Lasts (r q : Receiver) : Type 0 where
  pub size : q.size ≡ r.size
  pub stream : q.stream ≡ r.stream
  pub limit : q.limit ≡ r.limit

module _ (r : Receiver) where
  kept : (n : ℕ) (s : Stage) (w : Walk) → Lasts r (record { size = r.size; stream = r.stream; limit = r.limit; count = n; stage = s; walk = w })
  kept n s w = record { size = refl; stream = refl; limit = refl }

  top_lasts : (t : Top) (len : ℕ) → Lasts r (top_turn t r len).receiver
  top_lasts Elsewhere len = record { size = refl; stream = refl; limit = refl }
  top_lasts (Dropped n) len = kept _ _ _
  top_lasts (Says has o) len = kept _ _ _

  llep_lasts : (l : Option (Header × Bool)) (o len : ℕ) → Lasts r (llep_turn l r o len).receiver
  llep_lasts None o len = kept _ _ _
  llep_lasts (Some (h, more)) o len = kept _ _ _

  out_lasts : (s : Result Walk ℕ) (n len : ℕ) → Lasts r (out_turn s r n len).receiver
  out_lasts (Ok x) n len = kept _ _ _
  out_lasts (Err i) n len = kept _ _ _

  due_lasts : (p : Result ℕ ℕ) (tp : List ℕ) → Lasts r (due_turn p r tp).receiver
  due_lasts (Err n) tp = kept _ _ _
  due_lasts (Ok n) tp = out_lasts (set_out_of r.walk n tp) n (length tp)

  tell_lasts : (g : Gain) (t : Stamp) (w : Walk) → Lasts r (tell_of g r t w).receiver
  tell_lasts G.Nothing t w = kept _ _ _
  tell_lasts (G.Notice n) t w = kept _ _ _
  tell_lasts (G.Packet c sum b n) t w = kept _ _ _

  plain_lasts : (t : Turn) → Lasts r (ordinary_turn t r).receiver
  plain_lasts (More x) = kept _ _ _
  plain_lasts (Stop a) = tell_lasts a.gain (stamp_of r) a.walk

  stage_lasts : (g : Stage) (tp : List ℕ) → Lasts r (stage_turn g r tp).receiver
  stage_lasts Fresh tp = top_lasts (top_of r.stream tp) (length tp)
  stage_lasts (Low o) tp = llep_lasts (llep (drop r.walk.at tp)) o (length tp)
  stage_lasts (Due o) tp = due_lasts (place_of o r.walk.at (length tp)) tp
  stage_lasts Plain tp = plain_lasts (advance_of r.limit (stamp_of r) r.walk tp)

-- NO TURN CHANGES A SETTING
pub turn_lasts : (r : Receiver) (tp : List ℕ) → Lasts r (turn_of r tp).receiver
unfolding turn_of
turn_lasts r tp = by (eqb (length tp) r.size)
  where
    by : (x : Bool) → Lasts r (cond {A = Turned} x (stage_turn r.stage r tp) (same_turn r 6)).receiver
    by true = stage_lasts r r.stage tp
    by false = record { size = refl; stream = refl; limit = refl }

-- WITHIN A TP ITS STAMP STAYS: a turn without a find leaves it begun, and counted once
module _ (r : Receiver) where
  -- r in a stage
  abbrev in_stage : Stage → Receiver
  in_stage g = receiver_with r g r.walk

  abbrev Stays : Turned → Stage → Type 0
  Stays x g = x.told ≡ None → (stamps_of x.receiver).now ≡ (stamps_of (in_stage g)).now

  top_stays : (t : Top) (len : ℕ) → Stays (top_turn t (in_stage Fresh) len) Fresh
  top_stays Elsewhere len e = cc
  top_stays (Dropped n) len e = cc
  top_stays (Says true o) len e = refl
  top_stays (Says false o) len e = refl

  llep_stays : (l : Option (Header × Bool)) (o len : ℕ) → Stays (llep_turn l (in_stage (Low o)) o len) (Low o)
  llep_stays None o len e = cc
  llep_stays (Some (h, true)) o len e = refl
  llep_stays (Some (h, false)) o len e = refl

  out_stays : (s : Result Walk ℕ) (o n len : ℕ) → Stays (out_turn s (in_stage (Due o)) n len) (Due o)
  out_stays (Ok x) o n len e = refl
  out_stays (Err i) o n len e = cc

  due_stays : (p : Result ℕ ℕ) (o : ℕ) (tp : List ℕ) → Stays (due_turn p (in_stage (Due o)) tp) (Due o)
  due_stays (Err n) o tp e = cc
  due_stays (Ok n) o tp e = out_stays (set_out_of r.walk n tp) o n (length tp) e

  plain_stays : (t : Turn) → Stays (ordinary_turn t (in_stage Plain)) Plain
  plain_stays (More x) e = refl
  plain_stays (Stop a) e = cc

  stage_stays : (g : Stage) (tp : List ℕ) → Stays (stage_turn g (in_stage g) tp) g
  stage_stays Fresh tp e = top_stays (top_of r.stream tp) (length tp) e
  stage_stays (Low o) tp e = llep_stays (llep (drop r.walk.at tp)) o (length tp) e
  stage_stays (Due o) tp e = due_stays (place_of o r.walk.at (length tp)) o tp e
  stage_stays Plain tp e = plain_stays (advance_of r.limit (stamp_of r) r.walk tp) e

turn_stamps : (r : Receiver) (tp : List ℕ) → length tp ≡ r.size → (turn_of r tp).told ≡ None → (stamps_of (turn_of r tp).receiver).now ≡ (stamps_of r).now
unfolding turn_of
turn_stamps r tp w = by (eqb (length tp) r.size) (eq-eqb (length tp) r.size w)
  where
    by : (x : Bool) → x ≡ true → ((cond {A = Turned} x (stage_turn r.stage r tp) (same_turn r 6)).told ≡ None)
        → (stamps_of (cond {A = Turned} x (stage_turn r.stage r tp) (same_turn r 6)).receiver).now ≡ (stamps_of r).now
    by true z e = stage_stays r r.stage tp e
    by false z e = cc

-- THE FINDS TO COME stay, where a turn gives none
pub turn_coming : (r : Receiver) (tp m : List ℕ) → Able r → Bytes tp → length m ≡ r.limit → length tp ≡ r.size → (turn_of r tp).told ≡ None
    → coming_of (turn_of r tp).receiver.stage (turn_of r tp).receiver (stamps_of (turn_of r tp).receiver) tp (put_of (turn_of r tp).piece tp m)
    ≡ coming_of r.stage r (stamps_of r) tp m
turn_coming r tp m a b f w e =
    let q = (turn_of r tp).receiver in
    let m' = put_of (turn_of r tp).piece tp m in
    let s = turn_lasts r tp in
    let n : Makes None (turn_of r tp).about r tp m (turn_of r tp).receiver (put_of (turn_of r tp).piece tp m) =
    subst (λ (t : Option Find). Makes t (turn_of r tp).about r tp m (turn_of r tp).receiver (put_of (turn_of r tp).piece tp m)) e (turn_makes r tp m a b f) in
    call_rest q tp m' (turn_as r tp (turn_of r tp) a b refl).able n.0 (w ∙ sym s.size)
    ∙ ap (λ (g : Gave). afterwards q.limit (stamps_of q).now g tp) n.1
    ∙ ap (λ (cap : ℕ). afterwards cap (stamps_of q).now (call_of r tp m) tp) s.limit
    ∙ ap (λ (t : Stamp). afterwards r.limit t (call_of r tp m) tp) (turn_stamps r tp w e)
    ∙ sym (call_rest r tp m a f w)
