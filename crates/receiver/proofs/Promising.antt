-- WHAT A TURN PROMISES, of its definition: the receiver can be called, the piece lies within the TP and the room, and less is
-- left to do. Assumes nothing.
use mathlib.Core.Path.{ap, refl, subst, sym, ◌∙◌, ◌≡◌}
use mathlib.Core.Bool.{Bool, cond, false, true}
use mathlib.Core.List.{List}
use Prim.Native.Nat.{ℕ, ◌*◌, ◌+◌, ◌-◌, ◌<◌, ◌≤◌}
use native.Mathlib.Omega.{arith}
use lib.Dec.{eqb, ltb}
use lib.ListN.{drop, length, length-replicate, replicate}
use borrow.Author.Tests.{eq-eqb, eqb-true, le-ltb, ne_eqb}
use Rattle.std.specs.Prelude.{Err, Ok, Result, None, Option, Some}
use Rattle.wire.specs.declared.Header.{Header}
use Rattle.receiver.specs.declared.Receiver.{Receiver}
use Rattle.receiver.specs.declared.Stage.{Stage}
use Rattle.receiver.specs.declared.Stage.TheVariants.{Due, Fresh, Low, Plain}
use Rattle.receiver.specs.declared.Turned as D
use Rattle.receiver.specs.declared.entry.Top.{Top}
use Rattle.receiver.specs.declared.entry.Top.TheVariants.{Dropped, Elsewhere, Says}
use Rattle.receiver.specs.declared.outset.Fore.{Fore}
use Rattle.receiver.specs.declared.outset.Fore.TheVariants.{At, Bad, Off}
use Rattle.receiver.specs.declared.walk.Gain.{Gain}
use Rattle.receiver.specs.declared.walk.Gain.TheVariants as G
use Rattle.receiver.specs.declared.walk.Turn.{Turn}
use Rattle.receiver.specs.declared.walk.Turn.TheVariants.{More, Stop}
use Rattle.receiver.specs.declared.walk.Walk.{Walk}
use Rattle.receiver.specs.Call.{walk_to}
use Rattle.receiver.specs.Kind.{kind_of}
use Rattle.receiver.specs.Low.{llep}
use Rattle.receiver.specs.Lows.{told_of}
use Rattle.receiver.specs.Turns.{advance_of, toil}
use Rattle.receiver.specs.Outset.{fore_of, out_by, place_of, set_out_of, upon_of}
use Rattle.receiver.specs.Pieces.{due_turn, gave_of, llep_turn, out_turn, ordinary_turn, read_of, role_of, same_turn, stage_turn, stamp_of, top_turn, turn_of, tell_of, top_of}
use Rattle.receiver.specs.Turn.{Fits, LessIf, Nearer, TurnedAs, Within, effort, effort_by, told_goes_on}
use Rattle.receiver.specs.InWalk.{Carries, room_of}
use Rattle.receiver.specs.State.{Able, Sound}
use Rattle.receiver.proofs.Advancing.{LessBy, advance_ahead, advance_fits, advance_less, gain_of, rank_in, walk_of}
use Rattle.receiver.proofs.Bodies.{advance_carries}
use Rattle.receiver.proofs.Parting.{behind_in}
use Rattle.receiver.proofs.TakingUp.{drops_small}
use Rattle.receiver.proofs.Heading.{Bytes}
use Rattle.receiver.proofs.Walking.{inside_at}
use Rattle.receiver.proofs.Making.{able_by, stage_made, staged}

-- a piece lies within the TP

module _ (r : Receiver) (tp : List ℕ) (able : Able r) (whole : length tp ≡ r.size) (bytes : Bytes tp) where
  here : r.walk.at ≤ length tp
  here = let b = able.walk.at in omega arith

  top_in_lem : (t : Top) → Within (top_turn t r (length tp)).piece (length tp) r.limit
  top_in_lem Elsewhere = record { from = omega arith; to = omega arith; fits = omega arith }
  top_in_lem (Dropped n) = let z = able.size in record { from = omega arith; to = omega arith; fits = omega arith }
  top_in_lem (Says has o) = let z = able.size in record { from = omega arith; to = omega arith; fits = omega arith }

  llep_in : (o : ℕ) (l : Option (Header × Bool)) → llep (drop r.walk.at tp) ≡ l → Within (llep_turn l r o (length tp)).piece (length tp) r.limit
  llep_in o None e = record { from = here; to = omega arith; fits = omega arith }
  llep_in o (Some (h, more)) e = record { from = omega arith; to = inside_at tp r.walk.at h more e; fits = omega arith }

  out_in : (n : ℕ) (f : Fore) → r.walk.at + n ≤ length tp → Within (out_turn (out_by f r.walk n (length tp)) r n (length tp)).piece (length tp) r.limit
  out_in n Off l = record { from = omega arith; to = l; fits = omega arith }
  out_in n Bad l = record { from = omega arith; to = l; fits = omega arith }
  out_in n (At k) l = by (eqb k n)
    where
      by : (b : Bool) → Within (out_turn (cond {A = Result Walk ℕ} b (Ok r.walk) (Err 13)) r n (length tp)).piece (length tp) r.limit
      by true = record { from = omega arith; to = here; fits = omega arith }
      by false = record { from = omega arith; to = l; fits = omega arith }

  due_in : (o : ℕ) (p : Result ℕ ℕ) → place_of o r.walk.at (length tp) ≡ p → Within (due_turn p r tp).piece (length tp) r.limit
  unfolding set_out_of
  due_in o (Err n) e = record { from = here; to = omega arith; fits = omega arith }
  due_in o (Ok n) e = out_in n (fore_of r.walk.phase (drop r.walk.at tp)) (behind_in o r.walk.at (length tp) n here e)

  turned_in : (t : Turn) (m m' : List ℕ) → Carries r.limit (stamp_of r) r.walk tp m t m' → (walk_of t).at ≤ length tp
  unfolding Carries
  turned_in (More x) m m' t = t.sound.at
  turned_in (Stop a) m m' t = t.sound.at

  plain_in : Within (ordinary_turn (advance_of r.limit (stamp_of r) r.walk tp) r).piece (length tp) r.limit
  plain_in =
      let m : List ℕ = replicate r.limit 0 in
      let s = subst (λ (n : ℕ). Sound r.limit n r.walk) (sym whole) able.walk in
      let t = advance_of r.limit (stamp_of r) r.walk tp in
      by t (advance_ahead r.limit (stamp_of r) r.walk tp here) (turned_in t m (room_of r.walk tp m) (advance_carries r.limit (stamp_of r) tp m (length-replicate r.limit 0) bytes r.walk s)) (advance_fits r.limit (stamp_of r) r.walk tp s)
    where
      by : (t : Turn) → r.walk.at ≤ (walk_of t).at → (walk_of t).at ≤ length tp → Fits (role_of r.walk.phase r.walk.kept (walk_of t).phase) ((walk_of t).at - r.walk.at) r.limit
          → Within (ordinary_turn t r).piece (length tp) r.limit
      by (More x) a b c = record { from = a; to = b; fits = c }
      by (Stop x) a b c = record { from = a; to = b; fits = c }

  stage_in_lem : (g : Stage) → Within (stage_turn g r tp).piece (length tp) r.limit
  stage_in_lem Fresh = top_in_lem (top_of r.stream tp)
  stage_in_lem (Low o) = llep_in o (llep (drop r.walk.at tp)) refl
  stage_in_lem (Due o) = due_in o (place_of o r.walk.at (length tp)) refl
  stage_in_lem Plain = plain_in

-- a turn after which the TP goes on leaves less to do

sure : (b : Bool) (n k : ℕ) → n < k → LessIf b n k
sure true n k l = l
sure false n k l = omega arith

module _ (r : Receiver) (tp : List ℕ) (able : Able r) (whole : length tp ≡ r.size) where
  abbrev NearBy : Stage → D.Turned → Type 0
  NearBy g t = LessIf (told_goes_on t.told) (effort (length tp) t.receiver) (effort_by (length tp) g r.walk)

  -- into a stage before the ordinary bytes, and among them
  low_near : (more : Bool) (o i : ℕ) → effort_by (length tp) (cond more (Low o) (Due o)) (walk_to r i) < 3 * (3 * length tp + 3)
  low_near true o i = omega (arith, rank_in r.walk.phase)
  low_near false o i = omega (arith, rank_in r.walk.phase)

  plain_near : (x : Walk) → effort_by (length tp) Plain x < 3 * length tp + 3
  plain_near x = omega (arith, rank_in x.phase)

  top_near : (t : Top) → top_of r.stream tp ≡ t → NearBy Fresh (top_turn t r (length tp))
  top_near Elsewhere e = omega arith
  top_near (Dropped n) e = let q = drops_small r.stream tp n e in rw (le-ltb 9 n q) (omega arith)
  top_near (Says has o) e = omega (arith, low_near has o 4)

  llep_near : (o : ℕ) (l : Option (Header × Bool)) → llep (drop r.walk.at tp) ≡ l → NearBy (Low o) (llep_turn l r o (length tp))
  llep_near o None e = omega arith
  llep_near o (Some (h, more)) e =
      sure (told_goes_on (told_of (kind_of h) h r.walk.at)) _ _ (by more (inside_at tp r.walk.at h more e))
    where
      by : (more : Bool) → r.walk.at + 7 + h.size ≤ length tp
          → effort_by (length tp) (cond more (Low o) (Due o)) (walk_to r (r.walk.at + 7 + h.size)) < effort_by (length tp) (Low o) r.walk
      by true l = omega arith
      by false l = omega arith

  out_near : (o n : ℕ) (s : Result Walk ℕ) → NearBy (Due o) (out_turn s r n (length tp))
  out_near o n (Ok x) = omega (arith, plain_near x)
  out_near o n (Err i) = sure (ltb 9 i) _ _ (omega (arith, plain_near (record { at = r.walk.at + n; phase = upon_of (r.walk.at + n) (length tp); began = r.walk.began; kept = None })))

  due_near : (o : ℕ) (p : Result ℕ ℕ) → NearBy (Due o) (due_turn p r tp)
  due_near o (Err n) = sure (ltb 9 n) _ _ (omega arith)
  due_near o (Ok n) = out_near o n (set_out_of r.walk n tp)

  tell_near : (t : Turn) → LessBy (gain_of t) (toil (length tp) (walk_of t)) (toil (length tp) r.walk) → NearBy Plain (ordinary_turn t r)
  tell_near (More x) l = omega arith
  tell_near (Stop a) l = by a.gain l
    where
      by : (g : Gain) → LessBy g (toil (length tp) a.walk) (toil (length tp) r.walk) → NearBy Plain (gave_of (tell_of g r (stamp_of r) a.walk) (read_of r.walk a.walk))
      by G.Nothing l = omega arith
      by (G.Notice n) l = sure (ltb 9 n) _ _ (omega arith)
      by (G.Packet c sum b n) l = omega arith

  stage_near : (g : Stage) → NearBy g (stage_turn g r tp)
  stage_near Fresh = top_near (top_of r.stream tp) refl
  stage_near (Low o) = llep_near o (llep (drop r.walk.at tp)) refl
  stage_near (Due o) = due_near o (place_of o r.walk.at (length tp))
  stage_near Plain =
      tell_near (advance_of r.limit (stamp_of r) r.walk tp) (advance_less r.limit (stamp_of r) r.walk tp (subst (λ (n : ℕ). Sound r.limit n r.walk) (sym whole) able.walk))

abbrev Promised : Receiver → List ℕ → D.Turned → Type 0
Promised r tp q = Able q.receiver × Within q.piece (length tp) r.limit × Nearer q.told (length tp) r q.receiver

-- THE PROMISE of a turn, of its definition
pub turn_as : (r : Receiver) (tp : List ℕ) (q : D.Turned) → Able r → Bytes tp → q ≡ turn_of r tp → TurnedAs r tp q
unfolding turn_of
turn_as r tp q a b e = let p = subst (Promised r tp) (sym e) (by (eqb (length tp) r.size) refl) in record { same = e; able = p.0; within = p.1; nearer = p.2 }
  where
    m : List ℕ
    m = replicate r.limit 0

    by : (x : Bool) → eqb (length tp) r.size ≡ x → Promised r tp (cond x (stage_turn r.stage r tp) (same_turn r 6))
    by true e =
        let w = eqb-true (length tp) r.size e in
        let t = stage_turn r.stage r tp in
        let x = staged r tp m in
        let d = stage_made r tp m a w (length-replicate r.limit 0) b r.stage a.stage in
        (able_by t.told t.about x r tp m t.receiver _ d, stage_in_lem r tp a w b r.stage, stage_near r tp a w r.stage)
    by false e = (a, record { from = omega arith; to = omega arith; fits = omega arith }, omega arith)

pub turn_six : (r : Receiver) (tp : List ℕ) → (r.size ≡ length tp → ⊥) → same_turn r 6 ≡ turn_of r tp
unfolding turn_of
turn_six r tp n = rw (ne_eqb (length tp) r.size (λ e. n (sym e)))

pub turn_at : (r : Receiver) (tp : List ℕ) (g : Stage) → r.size ≡ length tp → r.stage ≡ g → stage_turn g r tp ≡ turn_of r tp
unfolding turn_of
turn_at r tp g w e = ap (λ (g : Stage). stage_turn g r tp) (sym e) ∙ sym (ap (λ (x : Bool). cond x (stage_turn r.stage r tp) (same_turn r 6)) (eq-eqb (length tp) r.size (sym w)))
