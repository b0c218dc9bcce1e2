-- Wherever reading and reassembly stop, a receiver by value stands for it: what is kept and the room's bytes go along with the events, byte
-- by byte. Assumes nothing.
use Prim.Native.Nat.{ℕ, zero, suc, ◌+◌, ◌-◌, ◌≤◌, ◌<◌}
use mathlib.Core.Path.{◌≡◌, refl, ap, ◌∙◌}
use mathlib.Core.Bool.{Bool, true, false, cond}
use mathlib.Core.List.{List, [], ◌∷◌, ◌++◌}
use native.Mathlib.Omega.{arith}
use lib.Dec.{leb, eqb}
use lib.ListN.{length, take, set, length-append, length-set}
use lib.Seq.{take-suc-set}
use borrow.Author.Tests.{leb-true}
use Rattle.std.specs.Prelude.{Option, None, Some}
use Rattle.digits.specs.Digits.{number}
use Rattle.digits.proofs.Laws.{digits_number, number_lt}
use Rattle.receiver.specs.declared.Place.{Place}
use Rattle.receiver.specs.declared.kind.Kind.{Kind}
use Rattle.receiver.specs.declared.kind.Kind.TheVariants.{Fill, Reserved, Complete, First, Middle, Last}
use Rattle.receiver.specs.declared.walk.Kept.{Kept}
use Rattle.receiver.specs.declared.walk.Phase.{Phase}
use Rattle.receiver.specs.declared.walk.Phase.TheVariants.{Lost, Head, Judged, Body}
use Rattle.receiver.specs.Frame.{Frame, lost, idle, head, body, Event, lose, entered, fed, within, ending, whole, step}
use Rattle.receiver.specs.Join.{Finding, notice, low, ordinary, Held, free, held, Took, handed, finish, meets, goes_on, broken, fits, further, admit}
use Rattle.receiver.specs.Turns.{kept_as}
use Rattle.receiver.specs.Low.{Ep, begin_of, join_of, Tag, wire}
use Rattle.receiver.specs.Pull.{Met, dry, found, met, meet}
use Rattle.receiver.specs.State.{headed, frame_of, todo_of, held_of, keeps, Fine, Roomy, Settled}
use Rattle.receiver.specs.Call.{holds}
use Rattle.downlink.specs.Damage.{Bytes}

-- ---- a frame and what is held, by value

abbrev pub phase_of : Frame wire → Phase
phase_of lost = Lost
phase_of idle = Head 0 0
phase_of (head p k hs) = Head (length hs) (number 0 hs)
phase_of (body h k) = Body h.header (suc k)

-- where the header or EP under way began, any place if none is
abbrev pub began_of : Place → Frame wire → Place
began_of g lost = g
began_of g idle = g
began_of g (head p k hs) = p
began_of g (body h k) = h.at

abbrev pub kept_of : Held wire → Option Kept
kept_of free = None
kept_of (held t d) = kept_as t (length d)

-- bytes of a header: some, and with those that are missing after the next one six
abbrev pub FrameOk : Frame wire → Type 0
FrameOk lost = Unit {0}
FrameOk idle = Unit {0}
FrameOk (head p k hs) = (0 < length hs) × (length hs + k ≡ 5) × Bytes hs
FrameOk (body h k) = Unit {0}

-- data bytes still to come
abbrev pub need : Frame wire → ℕ
need lost = 0
need idle = 0
need (head p k hs) = 0
need (body h k) = suc k

headed_back : (g : Place) (k : ℕ) (hs : List ℕ) → 0 < length hs → length hs + k ≡ 5 → headed g hs ≡ head g k hs
headed_back g k [] p q = absurd (omega arith)
headed_back g k (b ∷ bs) p q = let e : 4 - length bs ≡ k = omega arith in ap (λ (n : ℕ). head g n (b ∷ bs)) e

pub frame_back : (g : Place) (f : Frame wire) → FrameOk f → frame_of (began_of g f) (phase_of f) ≡ f
frame_back g lost ok = refl
frame_back g idle ok = refl
frame_back g (head s k hs) (p, q, b) = ap (headed s) (digits_number 0 (length hs) 0 hs b (omega arith)) ∙ headed_back s k hs p q
frame_back g (body h k) ok = refl

pub no_todo : (g : Place) (f : Frame wire) → todo_of g (phase_of f) ≡ []
no_todo g lost = refl
no_todo g idle = refl
no_todo g (head p k hs) = refl
no_todo g (body h k) = refl

-- what is held stands at the room's start, and n more bytes fit
-- and g is any place
module _ (cap : ℕ) (g : Place) where
  abbrev pub HeldOk : ℕ → Held wire → List ℕ → Type 0
  HeldOk n free m = Unit {0}
  HeldOk n (held c d) m = (length d + n ≤ cap) × (take (length d) m ≡ d)

  pub less_ok : (n k : ℕ) (s : Held wire) (m : List ℕ) → k ≤ n → HeldOk n s m → HeldOk k s m
  less_ok n k free m h ok = tt
  less_ok n k (held c d) m h ok = (omega (arith, ok.0), ok.1)

  pub held_back : (n : ℕ) (s : Held wire) (m : List ℕ) → HeldOk n s m → held_of (kept_of s) m ≡ s
  held_back n free m ok = refl
  held_back n (held c d) m ok = ap (held c) ok.1

  pub keeps_back : (s : Held wire) → keeps (kept_of s) ≡ holds s
  keeps_back free = refl
  keeps_back (held c d) = refl

  roomy : (n : ℕ) (s : Held wire) (m : List ℕ) → HeldOk n s m → Roomy cap (kept_of s) n
  roomy n free m ok = omega arith
  roomy n (held c d) m ok = ok.0

  pub fine : (f : Frame wire) (s : Held wire) (m : List ℕ) → FrameOk f → HeldOk (need f) s m → Fine cap (phase_of f) (kept_of s)
  fine lost s m ok h = roomy 0 s m h
  fine idle s m ok h = (omega arith, omega arith, roomy 0 s m h)
  fine (head g k hs) s m (p, q, b) h = (omega arith, number_lt 0 (length hs) 0 hs b (omega arith) (omega arith), roomy 0 s m h)
  fine (body h k) s m ok r = roomy (suc k) s m r

  pub settled : (f : Frame wire) → FrameOk f → Settled (phase_of f)
  settled lost ok = omega arith
  settled idle ok = (omega arith, omega arith)
  settled (head g k hs) (p, q, b) = (omega arith, number_lt 0 (length hs) 0 hs b (omega arith) (omega arith))
  settled (body h k) ok = omega arith

  -- where a call stops: some place and phase stand for it
  pub record Rests (f : Frame wire) (es : List (Event wire)) (s : Held wire) (m : List ℕ) : Type 0 where
    pub began : Place
    pub phase : Phase
    pub frame : frame_of began phase ≡ f
    pub todo : todo_of began phase ≡ es
    pub kept : held_of (kept_of s) m ≡ s
    pub sound : Fine cap phase (kept_of s)

  still : (f : Frame wire) (s : Held wire) (m : List ℕ) → FrameOk f → HeldOk (need f) s m → Rests f [] s m
  still f s m ok h = record { began = began_of g f; phase = phase_of f; frame = frame_back g f ok; todo = no_todo (began_of g f) f; kept = held_back (need f) s m h; sound = fine f s m ok h }

  judged : (h : Ep) (s : Held wire) (m : List ℕ) → HeldOk 0 s m → Rests (within wire h h.header.size) (entered h ∷ ending wire h h.header.size) s m
  judged h s m ok = record { began = h.at; phase = Judged h.header; frame = refl; todo = refl; kept = held_back 0 s m ok; sound = roomy 0 s m ok }

  bodied : (h : Ep) (n : ℕ) (s : Held wire) (m : List ℕ) → HeldOk n s m → Rests (within wire h n) (ending wire h n) s m
  bodied h n s m ok = record { began = h.at; phase = Body h.header n; frame = refl; todo = refl; kept = held_back n s m ok; sound = roomy n s m ok }

  -- ---- events

  abbrev pub FindOk : Finding wire → List ℕ → Type 0
  FindOk (notice n p) m = Unit {0}
  FindOk (low c d) m = ⊥
  FindOk (ordinary c d) m = take (length d) m ≡ d

  abbrev pub MetOk : Frame wire → Met wire → Type 0
  MetOk f (dry s m) = FrameOk f × HeldOk (need f) s m × (length m ≡ cap)
  MetOk f (found x s m es) = FindOk x m × Rests f es s m × (length m ≡ cap)

  handed_ok : (s : Held wire) (m : List ℕ) → HeldOk 0 s m → length m ≡ cap → MetOk idle (met wire (handed wire s).1 (handed wire s).0 m [] (dry (handed wire s).0 m))
  handed_ok free m ok l = (tt, tt, l)
  handed_ok (held c d) m ok l = (ok.1, still idle free m tt tt, l)

  finish_ok : (k : Kind) (s : Held wire) (m : List ℕ) → HeldOk 0 s m → length m ≡ cap
      → MetOk idle (met wire (finish wire k s).1 (finish wire k s).0 m [] (dry (finish wire k s).0 m))
  finish_ok Fill s m ok l = (tt, ok, l)
  finish_ok Reserved s m ok l = (tt, ok, l)
  finish_ok Complete s m ok l = handed_ok s m ok l
  finish_ok First s m ok l = (tt, ok, l)
  finish_ok Middle s m ok l = (tt, ok, l)
  finish_ok Last s m ok l = handed_ok s m ok l

  pub ending_ok : (h : Ep) (n : ℕ) (s : Held wire) (m : List ℕ) → HeldOk n s m → length m ≡ cap → MetOk (within wire h n) (meet wire cap s m (ending wire h n))
  ending_ok h zero s m ok l = finish_ok (wire.kind h) s m ok l
  ending_ok h (suc k) s m ok l = (tt, ok, l)

  -- the way into an EP
  abbrev Enters : Ep → List ℕ → Took wire → Type 0
  Enters h m t = MetOk (within wire h h.header.size) (met wire t.1 t.0 m (ending wire h h.header.size) (meet wire cap t.0 m (ending wire h h.header.size)))

  fits_ok : (h : Ep) (c : Tag) (d m : List ℕ) → length d ≤ cap → take (length d) m ≡ d → length m ≡ cap → Enters h m (fits wire cap h c d)
  fits_ok h c d m q e l = go (leb (length d + h.header.size) cap) refl
    where
      go : (b : Bool) → leb (length d + h.header.size) cap ≡ b → Enters h m (cond b (held c d, None) (free, Some (notice 15 h.at)))
      go true t = ending_ok h h.header.size (held c d) m (leb-true (length d + h.header.size) cap t, e) l
      go false t = (tt, bodied h h.header.size free m tt, l)

  further_ok : (h : Ep) (s : Held wire) (m : List ℕ) → HeldOk 0 s m → length m ≡ cap → Enters h m (further wire cap h s)
  further_ok h free m ok l = ending_ok h h.header.size free m tt l
  further_ok h (held c d) m ok l = fits_ok h (join_of c h) d m (omega (arith, ok.0)) ok.1 l

  admit_ok : (k : Kind) (h : Ep) (s : Held wire) (m : List ℕ) → HeldOk 0 s m → length m ≡ cap → Enters h m (admit wire cap k h s)
  admit_ok Fill h s m ok l = ending_ok h h.header.size free m tt l
  admit_ok Reserved h s m ok l = (tt, bodied h h.header.size free m tt, l)
  admit_ok Complete h s m ok l = fits_ok h (begin_of h) [] m (omega arith) refl l
  admit_ok First h s m ok l = fits_ok h (begin_of h) [] m (omega arith) refl l
  admit_ok Middle h s m ok l = further_ok h s m ok l
  admit_ok Last h s m ok l = further_ok h s m ok l

  pub entered_ok : (h : Ep) (s : Held wire) (m : List ℕ) → HeldOk 0 s m → length m ≡ cap
      → MetOk (within wire h h.header.size) (meet wire cap s m (entered h ∷ ending wire h h.header.size))
  entered_ok h s m ok l = admit_ok (wire.kind h) h s m ok l

  -- a header is whole
  abbrev Opens : Ep → List ℕ → Took wire → Type 0
  Opens h m t =
      MetOk (within wire h h.header.size) (met wire t.1 t.0 m (entered h ∷ ending wire h h.header.size) (meet wire cap t.0 m (entered h ∷ ending wire h h.header.size)))

  broken_ok : (h : Ep) (s : Held wire) (m : List ℕ) → length m ≡ cap → Opens h m (broken wire h s)
  broken_ok h free m l = entered_ok h free m tt l
  broken_ok h (held c d) m l = (tt, judged h free m tt, l)

  goes_ok : (h : Ep) (s : Held wire) (m : List ℕ) → HeldOk 0 s m → length m ≡ cap → Opens h m (goes_on wire h s)
  goes_ok h free m ok l = (tt, judged h free m tt, l)
  goes_ok h (held t d) m ok l = go (eqb t.content h.header.content)
    where
      go : (b : Bool) → Opens h m (cond b (held t d, None) (free, Some (notice 14 h.at)))
      go true = entered_ok h (held t d) m ok l
      go false = (tt, judged h free m tt, l)

  meets_ok : (k : Kind) (h : Ep) (s : Held wire) (m : List ℕ) → HeldOk 0 s m → length m ≡ cap → Opens h m (meets wire k h s)
  meets_ok Fill h s m ok l = broken_ok h s m l
  meets_ok Reserved h s m ok l = broken_ok h s m l
  meets_ok Complete h s m ok l = broken_ok h s m l
  meets_ok First h s m ok l = broken_ok h s m l
  meets_ok Middle h s m ok l = goes_ok h s m ok l
  meets_ok Last h s m ok l = goes_ok h s m ok l

  -- a data byte
  fed_ok : (h : Ep) (k b : ℕ) (s : Held wire) (m : List ℕ) → HeldOk (suc k) s m → length m ≡ cap
      → MetOk (within wire h k) (meet wire cap s m (fed b ∷ ending wire h k))
  fed_ok h k b free m ok l = ending_ok h k free m tt l
  fed_ok h k b (held c d) m ok l =
      let n : length (d ++ b ∷ []) ≡ suc (length d) = omega (arith, length-append d (b ∷ [])) in
      let p : length d + suc k ≤ cap = ok.0 in
      let i : length d < length m = omega arith in
      ending_ok h k (held c (d ++ b ∷ [])) (set m (length d) b)
      (omega arith, ap (λ (j : ℕ). take j (set m (length d) b)) n ∙ take-suc-set m (length d) b i ∙ ap (λ z. z ++ b ∷ []) ok.1)
      (length-set m (length d) b ∙ l)

  -- ---- bytes

  pub snoc_bytes : (hs : List ℕ) (b : ℕ) → Bytes hs → b < 256 → Bytes (hs ++ b ∷ [])
  snoc_bytes [] b h p zero = p
  snoc_bytes [] b h p (suc i) = omega arith
  snoc_bytes (x ∷ hs) b h p zero = h zero
  snoc_bytes (x ∷ hs) b h p (suc i) = snoc_bytes hs b (λ j. h (suc j)) p i

  pub lose_ok : (f : Frame wire) (n : ℕ) (p : Place) (s : Held wire) (m : List ℕ) → FrameOk f → length m ≡ cap → MetOk f (meet wire cap s m (lose n p ∷ []))
  lose_ok f n p s m ok l = (tt, still f free m ok tt, l)

  whole_ok : (p : Place) (o : Option Ep) (s : Held wire) (m : List ℕ) → HeldOk 0 s m → length m ≡ cap
      → MetOk (whole wire p o).0 (meet wire cap s m (whole wire p o).1)
  whole_ok p None s m ok l = lose_ok lost 12 p s m tt l
  whole_ok p (Some h) s m ok l = meets_ok (wire.kind h) h s m ok l

  pub step_ok : (f : Frame wire) (b : Place × ℕ) (s : Held wire) (m : List ℕ) → b.1 < 256 → FrameOk f → HeldOk (need f) s m → length m ≡ cap
      → MetOk (step wire f b).0 (meet wire cap s m (step wire f b).1)
  step_ok lost b s m p ok h l = (tt, h, l)
  step_ok idle b s m p ok h l = ((omega arith, refl, snoc_bytes [] b.1 (λ i. omega arith) p), h, l)
  step_ok (head g zero hs) b s m p ok h l = whole_ok g (wire.decode g (hs ++ b.1 ∷ [])) s m h l
  step_ok (head g (suc k) hs) b s m p (some_read, six, bytes) h l =
      let n = length-append hs (b.1 ∷ []) in
      ((omega arith, omega arith, snoc_bytes hs b.1 bytes p), h, l)
  step_ok (body h k) b s m p ok r l = fed_ok h k b.1 s m r l
