-- WORDS AND RECEIVERS UNDO EACH OTHER: a receiver that fits comes back from its words, but for the place that nothing looks at; words
-- that are not refused give one that fits; and two receivers that show the same have the same words. Assumes nothing.
use Prim.Native.Nat.{ℕ, ◌+◌, ◌%◌, ◌^◌, ◌≤◌, ◌<◌}
use mathlib.Core.Bool.{Bool, true, false, cond, ◌&&◌, ◌||◌}
use mathlib.Core.Logic.{inl, inr, ◌⊎◌}
use mathlib.Core.List.{List, [], ◌∷◌}
use mathlib.Core.Path.{◌≡◌, refl, sym, subst, ap, ◌∙◌}
use native.Mathlib.Omega.{arith}
use native.Mathlib.Nat.{mod-eq_of_lt, mod-lt}
use lib.Dec.{leb, ltb, eqb}
use lib.ListN.{get_or}
use borrow.Author.Tests.{le-leb, leb-true, lt-ltb, le-ltb, ltb-true, ne_eqb, eqb-true}
use Rattle.std.specs.Prelude.{None, Some, Option}
use Rattle.wire.specs.declared.Header.{Header}
use Rattle.receiver.specs.declared.Receiver.{Receiver}
use Rattle.receiver.specs.declared.Place.{Place}
use Rattle.receiver.specs.declared.Stage.{Stage}
use Rattle.receiver.specs.declared.Stage.TheVariants.{Fresh, Low, Due, Plain}
use Rattle.receiver.specs.declared.Step.{Step}
use Rattle.receiver.specs.declared.walk.Phase.{Phase}
use Rattle.receiver.specs.declared.walk.Phase.TheVariants.{Lost, Head, Judged, Body}
use Rattle.receiver.specs.declared.walk.Kept.{Kept}
use Rattle.receiver.specs.declared.walk.Walk.{Walk}
use Rattle.receiver.specs.Call.{Gave, Gives, call_of, stamps_of, stepped}
use Rattle.receiver.specs.Place.{own_of, start_of}
use Rattle.receiver.specs.State.{Fine, Roomy, Settled, Staged, kept_by}
use Rattle.receiver.specs.Words.{words_of, stage_words, place_words, head_words, phase_words, kept_words, joined, stage_in, header_from, phase_in, place_in, kept_in, receiver_in, openedb, begunb, stagedb, roomyb, below, phasedb, left_in, fitb, datalessb, bareb, of_words, Opens, HeaderBytes, PhaseBytes, KeptBytes, Fit, FitIf}
use Rattle.receiver.proofs.Lasting.{lasts_as}
use Rattle.receiver.proofs.Pinned.{began_in, plainly}

both : (s t : Bool) → s ≡ true → t ≡ true → (s && t) ≡ true
both true t e f = f
both false t e f = e

left : (s t : Bool) → (s && t) ≡ true → s ≡ true
left true t e = refl
left false t e = e

right : (s t : Bool) → (s && t) ≡ true → t ≡ true
right true t e = e
right false true e = refl
right false false e = e

no : {A : Type 0} (s : Bool) → s ≡ true → s ≡ false → A
no true e f = absurd (subst (λ (t : Bool). cond t ℕ ⊥) f 0)
no false e f = absurd (subst (λ (t : Bool). cond t ⊥ ℕ) e 0)

-- ---- each test says what a call asks

headed : (n w : ℕ) → ltb w (below n) ≡ true → (n ≤ 5) × (w < 256 ^ n)
unfolding below
headed n w e = go (leb n 5) refl
  where
    go : (t : Bool) → leb n 5 ≡ t → (n ≤ 5) × (w < 256 ^ n)
    go true f = (leb-true n 5 f, ltb-true w (256 ^ n) (subst (λ (t : Bool). ltb w (cond t (256 ^ n) 0) ≡ true) f e))
    go false f = no (ltb w 0) (subst (λ (t : Bool). ltb w (cond t (256 ^ n) 0) ≡ true) f e) (le-ltb w 0 (omega arith))

heading : (n w : ℕ) → n ≤ 5 → w < 256 ^ n → ltb w (below n) ≡ true
unfolding below
heading n w h k = subst (λ (t : Bool). ltb w (cond t (256 ^ n) 0) ≡ true) (sym (le-leb n 5 h)) (lt-ltb w (256 ^ n) k)

roomy : (cap s c e k n : ℕ) (g : Place) → roomyb cap s k n ≡ true → Roomy cap (kept_in s c e k g) n
unfolding roomyb kept_in
roomy cap s c e k n g h = go (eqb s 0) (eqb s 1) h
  where
    go : (t u : Bool) → cond t true (cond u (leb (k + n) cap) false) ≡ true → Roomy cap (cond t None (kept_by (c % 256) e g k)) n
    go true u f = omega arith
    go false true f = leb-true (k + n) cap f
    go false false f = no false f refl

-- the words of a phase, in this stage
module _ (stage s a b c d l : ℕ) (p : phasedb stage s a b l ≡ true) where
  fine : (cap : ℕ) (k : Option Kept) → Roomy cap k (left_in s l) → Fine cap (phase_in s a b c d l) k
  unfolding phasedb left_in phase_in
  fine cap k r = go (eqb s 0) (eqb s 1) (eqb s 2) (eqb s 3) p r
    where
      go : (t u v x : Bool) → cond t true (cond u (ltb b (below a)) (cond v (eqb stage 3) (cond x (eqb stage 3 || ltb 0 l) false))) ≡ true
          → Roomy cap k (cond t 0 (cond u 0 (cond v 0 l)))
          → Fine cap (cond t Lost (cond u (Head a b) (cond v (Judged (header_from a b c d)) (Body (header_from a b c d) l)))) k
      go true u v x e f = f
      go false true v x e f = let h = headed a b e in (h.0, h.1, f)
      go false false true x e f = f
      go false false false x e f = f

  settled : eqb stage 3 ≡ false → Settled (phase_in s a b c d l)
  unfolding phasedb phase_in
  settled n = go (eqb s 0) (eqb s 1) (eqb s 2) (eqb s 3) p
    where
      go : (t u v x : Bool) → cond t true (cond u (ltb b (below a)) (cond v (eqb stage 3) (cond x (eqb stage 3 || ltb 0 l) false))) ≡ true
          → Settled (cond t Lost (cond u (Head a b) (cond v (Judged (header_from a b c d)) (Body (header_from a b c d) l))))
      go true u v x e = omega arith
      go false true v x e = headed a b e
      go false false true x e = no (eqb stage 3) e n
      go false false false true e = ltb-true 0 l (subst (λ (t : Bool). (t || ltb 0 l) ≡ true) n e)
      go false false false false e = no false e refl

begun : (o at : ℕ) → begunb o at ≡ true → (o < 2048) × (4 ≤ at)
begun o at e =
    let a : o ≤ 2047 = leb-true o 2047 (left (leb o 2047) (leb 4 at) e) in
    (omega (arith, a), leb-true 4 at (right (leb o 2047) (leb 4 at) e))

beginning : (o at : ℕ) → o < 2048 → 4 ≤ at → begunb o at ≡ true
beginning o at h k =
    let b : o ≤ 2047 = omega (arith, h) in
    both (leb o 2047) (leb 4 at) (le-leb o 2047 b) (le-leb 4 at k)

-- another stage than that of ordinary bytes
other : (s k : ℕ) → eqb s k ≡ true → k < 3 → eqb s 3 ≡ false
other s k e h = let f : s ≡ k = eqb-true s k e in ne_eqb s 3 (λ g. omega (arith, f, g, h))

staged : (s o : ℕ) (w : Walk) → stagedb s o w.at ≡ true → (eqb s 3 ≡ false → Settled w.phase) → Staged (stage_in s o) w
unfolding stagedb stage_in
staged s o w e h = go (eqb s 0) (eqb s 1) (eqb s 2) refl refl refl e
  where
    go : (t u v : Bool) → eqb s 0 ≡ t → eqb s 1 ≡ u → eqb s 2 ≡ v → cond t true (cond u (begunb o w.at) (cond v (begunb o w.at) (eqb s 3))) ≡ true
        → Staged (cond t Fresh (cond u (Low o) (cond v (Due o) Plain))) w
    go true u v a b c f = h (other s 0 a (omega arith))
    go false true v a b c f = let x = begun o w.at f in (x.0, x.1, h (other s 1 b (omega arith)))
    go false false true a b c f = let x = begun o w.at f in (x.0, x.1, h (other s 2 c (omega arith)))
    go false false false a b c f = omega arith

byte : (n : ℕ) → n % 256 < 256
byte n = mod-lt n (omega arith)

phase_bytes : (s a b c d l : ℕ) → PhaseBytes (phase_in s a b c d l)
unfolding phase_in
phase_bytes s a b c d l = go (eqb s 0) (eqb s 1) (eqb s 2)
  where
    go : (t u v : Bool) → PhaseBytes (cond t Lost (cond u (Head a b) (cond v (Judged (header_from a b c d)) (Body (header_from a b c d) l))))
    go true u v = omega arith
    go false true v = omega arith
    go false false true = (byte a, byte b, byte d)
    go false false false = (byte a, byte b, byte d)

kept_bytes : (s c e n : ℕ) (g : Place) → KeptBytes (kept_in s c e n g)
unfolding kept_in
kept_bytes s c e n g = go (eqb s 0)
  where
    go : (t : Bool) → KeptBytes (cond t None (kept_by (c % 256) e g n))
    go true = omega arith
    go false = byte c

-- words that pass name a stream
pub streamed : (ws : List ℕ) → fitb ws ≡ true → get_or ws 1 0 ≤ 15
unfolding fitb openedb
streamed ws e =
    let stream = get_or ws 1 0 in
    let o₄ = left _ _ e in
    let o₃ = right (leb 16 (get_or ws 0 0)) _ o₄ in
    let o₂ = right (leb (get_or ws 0 0) 2051) _ o₃ in
    leb-true stream 15 (left (leb stream 15) _ o₂)

-- words with nothing kept and no data under way pass
dataless_phased : (stage sort have word n : ℕ) → datalessb sort have word ≡ true → phasedb stage sort have word n ≡ true
unfolding datalessb phasedb
dataless_phased stage sort have word n e = go (eqb sort 1) refl e
  where
    go : (t : Bool) → eqb sort 1 ≡ t → cond t (ltb word (below have)) (eqb sort 0) ≡ true → phasedb stage sort have word n ≡ true
    go true one f = simp (eqb-true sort 1 one, f)
    go false other f = simp (eqb-true sort 0 f)

pub bare_fits : (ws : List ℕ) → bareb ws ≡ true → fitb ws ≡ true
unfolding bareb fitb roomyb
bare_fits ws e =
    let dataless = right (eqb (get_or ws 16 0) 0) _ e in
    let staged = right (datalessb (get_or ws 7 0) (get_or ws 8 0) (get_or ws 9 0)) _ dataless in
    let opened = right (stagedb (get_or ws 5 0) (get_or ws 6 0) (get_or ws 4 0)) _ staged in
    let kept : get_or ws 16 0 ≡ 0 = eqb-true _ _ (left _ _ e) in
    simp (opened, left (stagedb (get_or ws 5 0) (get_or ws 6 0) (get_or ws 4 0)) _ staged, dataless_phased (get_or ws 5 0) (get_or ws 7 0) (get_or ws 8 0) (get_or ws 9 0) (get_or ws 12 0) (left _ _ dataless), kept)

-- WORDS THAT PASS give a receiver that fits
pub fits : (ws : List ℕ) → fitb ws ≡ true → Fit (receiver_in ws)
unfolding fitb openedb receiver_in
fits ws e =
    let size = get_or ws 0 0 in
    let stream = get_or ws 1 0 in
    let limit = get_or ws 2 0 in
    let at = get_or ws 4 0 in
    let S = stagedb (get_or ws 5 0) (get_or ws 6 0) at in
    let P = phasedb (get_or ws 5 0) (get_or ws 7 0) (get_or ws 8 0) (get_or ws 9 0) (get_or ws 12 0) in
    let R = roomyb limit (get_or ws 16 0) (get_or ws 19 0) (left_in (get_or ws 7 0) (get_or ws 12 0)) in
    let O₁ = leb limit 131072 && leb at size in
    let O₂ = leb stream 15 && O₁ in
    let O₃ = leb size 2051 && O₂ in
    let o₄ = left (leb 16 size && O₃) (S && (P && R)) e in
    let o₃ = right (leb 16 size) O₃ o₄ in
    let o₂ = right (leb size 2051) O₂ o₃ in
    let o₁ = right (leb stream 15) O₁ o₂ in
    let f = right (leb 16 size && O₃) (S && (P && R)) e in
    let g = right S (P && R) f in
    let p = left P R g in
    let few : stream ≤ 15 = leb-true stream 15 (left (leb stream 15) O₁ o₂) in
    let same : stream % 256 ≡ stream = mod-eq_of_lt (omega (arith, few)) in
    record {
      able = record {
        size = leb-true 16 size (left (leb 16 size) O₃ o₄);
        walk = record {
          at = leb-true at size (right (leb limit 131072) (leb at size) o₁);
          phase = fine (get_or ws 5 0) (get_or ws 7 0) (get_or ws 8 0) (get_or ws 9 0) (get_or ws 10 0) (get_or ws 11 0) (get_or ws 12 0) p limit _
              (roomy limit (get_or ws 16 0) (get_or ws 17 0) (get_or ws 18 0) (get_or ws 19 0) (left_in (get_or ws 7 0) (get_or ws 12 0)) (place_in (get_or ws 20 0) (get_or ws 21 0) (get_or ws 22 0)) (right P R g));
        };
        stage = staged (get_or ws 5 0) (get_or ws 6 0) _ (left S (P && R) f)
            (settled (get_or ws 5 0) (get_or ws 7 0) (get_or ws 8 0) (get_or ws 9 0) (get_or ws 10 0) (get_or ws 11 0) (get_or ws 12 0) p);
      };
      opens = record {
        size = leb-true size 2051 (left (leb size 2051) O₂ o₃);
        stream = subst (λ (n : ℕ). n ≤ 15) (sym same) few;
        limit = leb-true limit 131072 (left (leb limit 131072) (leb at size) o₁);
      };
      bytes = record {
        phase = phase_bytes (get_or ws 7 0) (get_or ws 8 0) (get_or ws 9 0) (get_or ws 10 0) (get_or ws 11 0) (get_or ws 12 0);
        kept = kept_bytes (get_or ws 16 0) (get_or ws 17 0) (get_or ws 18 0) (get_or ws 19 0) (place_in (get_or ws 20 0) (get_or ws 21 0) (get_or ws 22 0));
      };
    }

-- ---- the words of a receiver that fits pass

-- a header's words, by whether no byte of it is read
abbrev head_by : ℕ → ℕ → Place → Bool → List ℕ
head_by n w g t = cond t (1 ∷ 0 ∷ w ∷ 0 ∷ 0 ∷ 0 ∷ 0 ∷ 0 ∷ 0 ∷ []) (1 ∷ n ∷ w ∷ 0 ∷ 0 ∷ 0 ∷ place_words g)

by_head : (n w : ℕ) (g : Place) (P : List ℕ → Type 0) → (n ≡ 0 → P (1 ∷ 0 ∷ w ∷ 0 ∷ 0 ∷ 0 ∷ 0 ∷ 0 ∷ 0 ∷ [])) → P (1 ∷ n ∷ w ∷ 0 ∷ 0 ∷ 0 ∷ place_words g)
    → P (head_words n w g)
unfolding head_words
by_head n w g P a b = go (eqb n 0) refl
  where
    go : (t : Bool) → eqb n 0 ≡ t → P (head_by n w g t)
    go true e = a (eqb-true n 0 e)
    go false e = b

staged_words : (s : Stage) (w : Walk) → Staged s w → stagedb (get_or (stage_words s) 0 0) (get_or (stage_words s) 1 0) w.at ≡ true
unfolding stagedb
staged_words Fresh w h = refl
staged_words (Low o) w h = beginning o w.at h.0 h.1
staged_words (Due o) w h = beginning o w.at h.0 h.1
staged_words Plain w h = refl

settled_words : (s : Stage) (w : Walk) → Staged s w → (eqb (get_or (stage_words s) 0 0) 3 ≡ true) ⊎ Settled w.phase
settled_words Fresh w h = inr h
settled_words (Low o) w h = inr h.2
settled_words (Due o) w h = inr h.2
settled_words Plain w h = inl refl

abbrev PhasedBy : ℕ → List ℕ → Type 0
PhasedBy k ws = phasedb k (get_or ws 0 0) (get_or ws 1 0) (get_or ws 2 0) (get_or ws 5 0) ≡ true

phased_words : (cap k : ℕ) (p : Phase) (g : Place) (h : Option Kept) → Fine cap p h → (eqb k 3 ≡ true) ⊎ Settled p → PhasedBy k (phase_words p g)
unfolding phasedb
phased_words cap k Lost g h f s = refl
phased_words cap k (Head n w) g h f s =
    by_head n w g (PhasedBy k) (λ e. subst (λ (i : ℕ). ltb w (below i) ≡ true) e (heading n w f.0 f.1)) (heading n w f.0 f.1)
phased_words cap k (Judged x) g h f (inl e) = e
phased_words cap k (Judged x) g h f (inr z) = absurd (omega (arith, z))
phased_words cap k (Body x n) g h f (inl e) = subst (λ (t : Bool). (t || ltb 0 n) ≡ true) (sym e) refl
phased_words cap k (Body x n) g h f (inr z) = go (eqb k 3)
  where
    go : (t : Bool) → (t || ltb 0 n) ≡ true
    go true = refl
    go false = lt-ltb 0 n z

rooming : (cap : ℕ) (k : Option Kept) (n : ℕ) → Roomy cap k n → roomyb cap (get_or (kept_words k) 0 0) (get_or (kept_words k) 3 0) n ≡ true
unfolding roomyb
rooming cap None n h = refl
rooming cap (Some k) n h = le-leb (k.len + n) cap h

abbrev RoomyBy : ℕ → Option Kept → List ℕ → Type 0
RoomyBy cap k ws = roomyb cap (get_or (kept_words k) 0 0) (get_or (kept_words k) 3 0) (left_in (get_or ws 0 0) (get_or ws 5 0)) ≡ true

roomy_words : (cap : ℕ) (p : Phase) (g : Place) (k : Option Kept) → Fine cap p k → RoomyBy cap k (phase_words p g)
unfolding left_in
roomy_words cap Lost g k f = rooming cap k 0 f
roomy_words cap (Head n w) g k f = by_head n w g (RoomyBy cap k) (λ e. rooming cap k 0 f.2) (rooming cap k 0 f.2)
roomy_words cap (Judged h) g k f = rooming cap k 0 f
roomy_words cap (Body h n) g k f = rooming cap k n f

pub passes : (r : Receiver) → Fit r → fitb (words_of r) ≡ true
unfolding fitb openedb words_of
passes r h =
    both _ _ (both _ _ (le-leb 16 r.size h.able.size) (both _ _ (le-leb r.size 2051 h.opens.size) (both _ _ (le-leb r.stream 15 h.opens.stream) (both _ _ (le-leb r.limit 131072 h.opens.limit) (le-leb r.walk.at r.size h.able.walk.at)))))
    (both _ _ (staged_words r.stage r.walk h.able.stage)
    (both _ _ (phased_words r.limit (get_or (stage_words r.stage) 0 0) r.walk.phase r.walk.began r.walk.kept h.able.walk.phase (settled_words r.stage r.walk h.able.stage))
    (roomy_words r.limit r.walk.phase r.walk.began r.walk.kept h.able.walk.phase)))

-- ---- there and back

back_stage : (s : Stage) → stage_in (get_or (stage_words s) 0 0) (get_or (stage_words s) 1 0) ≡ s
unfolding stage_in
back_stage Fresh = refl
back_stage (Low o) = refl
back_stage (Due o) = refl
back_stage Plain = refl

abbrev phase_of_lem : List ℕ → Phase
phase_of_lem ws = phase_in (get_or ws 0 0) (get_or ws 1 0) (get_or ws 2 0) (get_or ws 3 0) (get_or ws 4 0) (get_or ws 5 0)

back_header : (h : Header) → HeaderBytes h → header_from h.content h.fragment h.size h.flips ≡ h
back_header h b = rw (mod-eq_of_lt b.0, mod-eq_of_lt b.1, mod-eq_of_lt b.2)

back_phase : (p : Phase) (g : Place) → PhaseBytes p → phase_of_lem (phase_words p g) ≡ p
unfolding phase_in
back_phase Lost g b = refl
back_phase (Head n w) g b = by_head n w g (λ (ws : List ℕ). phase_of_lem ws ≡ Head n w) (λ e. ap (λ (i : ℕ). Head i w) (sym e)) refl
back_phase (Judged h) g b = ap Judged (back_header h b)
back_phase (Body h n) g b = ap (λ (x : Header). Body x n) (back_header h b)

back_began : (p : Phase) (g : Place) → place_in (get_or (phase_words p g) 6 0) (get_or (phase_words p g) 7 0) (get_or (phase_words p g) 8 0) ≡ began_in p g
unfolding head_words
back_began Lost g = refl
back_began (Head n w) g = go (eqb n 0)
  where
    go : (t : Bool) → place_in (get_or (head_by n w g t) 6 0) (get_or (head_by n w g t) 7 0) (get_or (head_by n w g t) 8 0) ≡ cond t (start_of (own_of 0)) g
    go true = refl
    go false = refl
back_began (Judged h) g = refl
back_began (Body h n) g = refl

abbrev kept_of_lem : List ℕ → Option Kept
kept_of_lem ws = kept_in (get_or ws 0 0) (get_or ws 1 0) (get_or ws 2 0) (get_or ws 3 0) (place_in (get_or ws 4 0) (get_or ws 5 0) (get_or ws 6 0))

back_kept : (k : Option Kept) → KeptBytes k → kept_of_lem (kept_words k) ≡ k
unfolding kept_in
back_kept None b = refl
back_kept (Some k) b = ap (λ (x : ℕ). kept_by x k.repaired k.began k.len) (mod-eq_of_lt b)

unfoldable made : ℕ → ℕ → ℕ → ℕ → Stage → ℕ → Phase → Place → Option Kept → Receiver
made size stream limit count s at p g k =
    record { size = size; stream = stream; limit = limit; count = count; stage = s; walk = record { at = at; phase = p; began = g; kept = k } }

same_made : (size limit count at : ℕ) {a b : ℕ} {s t : Stage} {p q : Phase} {g h : Place} {k l : Option Kept} → a ≡ b → s ≡ t → p ≡ q → g ≡ h → k ≡ l
    → made size a limit count s at p g k ≡ made size b limit count t at q h l
same_made size limit count at d e f g h = cc

pub back_receiver : (r : Receiver) → Fit r → receiver_in (words_of r) ≡ plainly r
unfolding receiver_in words_of made
back_receiver r h =
    let few : r.stream ≤ 15 = h.opens.stream in
    let same : r.stream % 256 ≡ r.stream = mod-eq_of_lt (omega (arith, few)) in
    same_made r.size r.limit r.count r.walk.at same (back_stage r.stage) (back_phase r.walk.phase r.walk.began h.bytes.phase)
    (back_began r.walk.phase r.walk.began) (back_kept r.walk.kept h.bytes.kept)

-- BACK: a receiver that fits comes back from its words
pub back : (r : Receiver) → Fit r → of_words (words_of r) ≡ Some (plainly r)
unfolding of_words
back r h =
    ap (λ (t : Bool). cond t (Some (receiver_in (words_of r))) None) (passes r h) ∙ ap Some (back_receiver r h)

-- the three ends of `of_words`
pub accepted : (ws : List ℕ) (t : Bool) (r : Receiver) → t ≡ fitb ws → t ≡ true → r ≡ receiver_in ws → (Some r ≡ of_words ws) × FitIf (Some r)
unfolding of_words
accepted ws t r a b c =
    (ap Some c ∙ ap (λ (t : Bool). cond t (Some (receiver_in ws)) None) (sym b ∙ a), subst (λ (x : Receiver). Fit x) (sym c) (fits ws (sym a ∙ b)))

pub refused : (ws : List ℕ) (t : Bool) → t ≡ fitb ws → t ≡ false → (None ≡ of_words ws) × FitIf None
unfolding of_words
refused ws t a b = (ap (λ (t : Bool). cond t (Some (receiver_in ws)) None) (sym b ∙ a), omega arith)

-- ---- the same words

phase_alike : (p : Phase) (g : Place) → phase_words p (began_in p g) ≡ phase_words p g
unfolding head_words
phase_alike Lost g = refl
phase_alike (Head n w) g = go (eqb n 0)
  where
    go : (t : Bool) → head_by n w (cond t (start_of (own_of 0)) g) t ≡ head_by n w g t
    go true = refl
    go false = refl
phase_alike (Judged h) g = refl
phase_alike (Body h n) g = refl

words_alike : (r : Receiver) → words_of (plainly r) ≡ words_of r
unfolding words_of
words_alike r =
    ap (λ (ws : List ℕ). joined r.size r.stream r.limit r.count r.walk.at (stage_words r.stage) ws (kept_words r.walk.kept)) (phase_alike r.walk.phase r.walk.began)

-- two receivers that are equal but for what nothing looks at have the same words
pub same_words : (r s : Receiver) → plainly r ≡ plainly s → words_of r ≡ words_of s
same_words r s e = sym (words_alike r) ∙ ap words_of e ∙ words_alike s

-- A CALL LEAVES the limits of the opening
pub opens_still : (r : Receiver) (q : Step) (tp m m' : List ℕ) → Gives (call_of r tp m) q tp m' → Opens r → Opens q.receiver
unfolding stepped call_of
opens_still r q tp m m' g o =
    let l = lasts_as r (stamps_of r) tp m in
    let a : q.receiver.size ≡ r.size = ap (λ (x : Gave). x.size) g.same ∙ l.size in
    let b : q.receiver.stream ≡ r.stream = ap (λ (x : Gave). x.stream) g.same ∙ l.stream in
    let c : q.receiver.limit ≡ r.limit = ap (λ (x : Gave). x.limit) g.same ∙ l.limit in
    record {
      size = subst (λ (n : ℕ). n ≤ 2051) (sym a) o.size;
      stream = subst (λ (n : ℕ). n ≤ 15) (sym b) o.stream;
      limit = subst (λ (n : ℕ). n ≤ 131072) (sym c) o.limit;
    }
