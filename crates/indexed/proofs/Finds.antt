-- THE CALLS OF A TP that the loop makes: with what they put, in one go or in several, they are the calls that find what the definitions of
-- the index say. Assumes nothing.
use Prim.Native.Nat.{ℕ}
use mathlib.Core.Path.{◌≡◌, refl, ap, sym, subst, subst⁻¹, ◌∙◌}
use mathlib.Core.Bool.{Bool, true, false, cond}
use mathlib.Core.List.{List, [], ◌∷◌, ◌++◌, append_assoc, append-nil}
use native.Mathlib.Omega.{arith}
use borrow.Author.Tests.{eq-eqb, ne_eqb, eqb-true, eqb-false, ltb-true, ltb-false}
use lib.Dec.{eqb, ltb}
use lib.ListN.{length, take, drop, length-drop}
use lib.Seq.{length-take-le}
use Rattle.block.specs.Block.{Block}
use Rattle.receiver.specs.declared.About.{About}
use Rattle.receiver.specs.declared.Find.{Find}
use Rattle.receiver.specs.declared.Find.TheVariants as F
use Rattle.receiver.specs.declared.Receiver.{Receiver}
use Rattle.receiver.specs.declared.Stage.{Stage}
use Rattle.receiver.specs.declared.Stage.TheVariants as S
use Rattle.receiver.specs.declared.Stamp.{Stamp}
use Rattle.receiver.specs.declared.Step.{Step}
use Rattle.receiver.specs.Call.{Gave, Gives, Said, call_as, always, data_of, lasts, stepped}
use Rattle.receiver.specs.Join.{Finding, notice, low, ordinary}
use Rattle.receiver.specs.Lanes.{call_by}
use Rattle.receiver.specs.Low.{wire, tag_of}
use Rattle.receiver.specs.State.{Able}
use Rattle.receiver.specs.Tp.{Listing, listing_of, tp_in}
use Rattle.receiver.proofs.Called.{Calls, coming_of, more_rest, full_on, whole_on, stamped_steady}
use Rattle.receiver.proofs.Called as C
use Rattle.receiver.proofs.Ending.{Ended, Within, Numbered, Tells, tells_as, six_tells_as}
use Rattle.receiver.proofs.Rest.{saying}
use Rattle.receiver.proofs.Whole.{setting_of, stand_of}
use Rattle.indexing.specs.Lines.{Line, line_text, find_text, new_text}
use Rattle.index_loop.specs.Walking.{Hears, nothing, then, Ends, last, Pauses, puts}
use Rattle.index_loop.specs.declared.Task.TheVariants.{Index}
use Rattle.indexed.specs.Index.{packets, line_of}
use Rattle.indexed.specs.File.{lines_text}
use Rattle.indexed.proofs.Adding.{Adds, adds_none, adds_then, adds_one, new_most}
use Rattle.indexed.proofs.KillSafe.{lines_append}

-- ---- whether a TP has more to give

false_true : false ≡ true → ⊥
false_true e = let z : ◌≡◌ {A = ℕ} 0 1 = cc in omega arith

not_ended : (f : Find) → lasts f ≡ true → Ended f → ⊥
not_ended F.Nothing e i = false_true e
not_ended F.Refused e i = false_true e
not_ended (F.Notice n) e i = let l = ltb-true 9 n e in omega arith
not_ended (F.Low c start n) e i = omega arith
not_ended (F.Ordinary c n) e i = omega arith

is_ended : (f : Find) → lasts f ≡ false → Numbered f → Ended f
is_ended F.Nothing e i = omega arith
is_ended F.Refused e i = omega arith
is_ended (F.Notice n) e i = let l = ltb-false 9 n e in (i, omega arith)
is_ended (F.Low c start n) e i = absurd (false_true (sym e))
is_ended (F.Ordinary c n) e i = absurd (false_true (sym e))

-- ---- lines

packets_append : (fs gs : List (Finding wire)) → packets (fs ++ gs) ≡ packets fs ++ packets gs
packets_append [] gs = refl
packets_append (notice n p ∷ fs) gs = packets_append fs gs
packets_append (low t d ∷ fs) gs = ap (λ (l : List Line). line_of true t d ∷ l) (packets_append fs gs)
packets_append (ordinary t d ∷ fs) gs = ap (λ (l : List Line). line_of false t d ∷ l) (packets_append fs gs)

-- of what record n brings, these
abbrev pub new_in : ℕ → ℕ → List (Finding wire) → List Line
new_in covered n fs = cond (ltb n covered) [] (packets fs)

abbrev pub text_in : ℕ → ℕ → List (Finding wire) → List ℕ
text_in covered n fs = lines_text (new_in covered n fs)

pub new_none : (covered n : ℕ) → new_in covered n [] ≡ []
new_none covered n = go (ltb n covered)
  where
    go : (t : Bool) → ◌≡◌ {A = List Line} (cond t [] []) []
    go true = refl
    go false = refl

pub text_in_append : (covered n : ℕ) (fs gs : List (Finding wire)) → text_in covered n (fs ++ gs) ≡ text_in covered n fs ++ text_in covered n gs
text_in_append covered n fs gs = go (ltb n covered)
  where
    go : (t : Bool) → lines_text (cond t [] (packets (fs ++ gs))) ≡ lines_text (cond t [] (packets fs)) ++ lines_text (cond t [] (packets gs))
    go true = refl
    go false = ap lines_text (packets_append fs gs) ∙ lines_append (packets fs) (packets gs)

-- a find's line is that of the packet which it is
find_text_lem : (cap : ℕ) (tp : List ℕ) (f : Find) (a : About) (m : List ℕ) → Within tp f (data_of f tp m)
    → find_text a.at f ≡ lines_text (packets (saying cap f a (data_of f tp m)))
find_text_lem cap tp F.Nothing a m i = refl
find_text_lem cap tp F.Refused a m i = refl
find_text_lem cap tp (F.Notice j) a m i = refl
find_text_lem cap tp (F.Low c start z) a m i =
    let d = take z (drop start tp) in
    let long : length d ≡ z = length-take-le z (drop start tp) (omega (arith, i, length-drop start tp)) in
    ap (λ (n : ℕ). find_text a.at (F.Low c start n)) (sym long) ∙ sym (append-nil (line_text (line_of true (tag_of c a.repaired a.at) d)))
find_text_lem cap tp (F.Ordinary c z) a m i =
    ap (λ (n : ℕ). find_text a.at (F.Ordinary c n)) i ∙ sym (append-nil (line_text (line_of false (tag_of c a.repaired a.at) (take z m))))

-- ---- calls so far, with their finds

abbrev pub said : List ℕ → Receiver → Step → List ℕ → List (Finding wire)
said tp r q m = saying r.limit q.find q.about (data_of q.find tp m)

data So (t : Stamp) (tp : List ℕ) (r : Receiver) (m : List ℕ) : List (Finding wire) → Receiver → List ℕ → Type 0 where
  none : So t tp r m [] r m
  also : {fs : List (Finding wire)} {r' : Receiver} {m' : List ℕ} {q : Step} {m'' : List ℕ} → So t tp r m fs r' m'
      → Gives (call_by t r' tp m') q tp m'' → lasts q.find ≡ true → So t tp r m (fs ++ said tp r' q m'') q.receiver m''

-- the receiver that they leave, or one whose next call is the same
pub record Paused (t : Stamp) (tp : List ℕ) (r : Receiver) (m : List ℕ) (fs : List (Finding wire)) (r' : Receiver) (m' : List ℕ) : Type 0 where
  left : Receiver
  so : So t tp r m fs left m'
  alike : call_by t r' tp m' ≡ call_by t left tp m'

pub paused_none : {t : Stamp} {tp : List ℕ} {r : Receiver} {m : List ℕ} → Paused t tp r m [] r m
paused_none {r = r} = record { left = r; so = none; alike = refl }

so_calls : {t : Stamp} {tp : List ℕ} {r : Receiver} {m : List ℕ} {fs : List (Finding wire)} {r' : Receiver} {m' : List ℕ} {gs : List (Finding wire)} {r'' : Receiver} {m'' : List ℕ}
    → So t tp r m fs r' m' → Calls (λ q. always t) tp r' m' gs r'' m'' → Calls (λ q. always t) tp r m (fs ++ gs) r'' m''
so_calls none c = c
so_calls {t} {tp} {r} {m} {gs = gs} {r'' = r''} {m'' = m₃} (also {fs = fs} {r' = r'} {q = q} {m'' = m''} h g on) c =
    subst⁻¹ (λ (l : List (Finding wire)). Calls (λ q. always t) tp r m l r'' m₃) (append_assoc fs (said tp r' q m'') gs) (so_calls h (C.more g (not_ended q.find on) c))

-- ---- one call

module _ (t : Stamp) (tp : List ℕ) (r : Receiver) (m : List ℕ) (q : Step) (m' : List ℕ) (g : Gives (call_by t r tp m) q tp m') where
  number_told : Tells tp (call_by t r tp m) → Numbered q.find
  unfolding stepped
  number_told k = subst⁻¹ Numbered (ap (λ (x : Gave). x.said.find) g.same) k.numbered

  said_text : (covered : ℕ) → Tells tp (call_by t r tp m) → new_text covered t.number q.about.at q.find ≡ text_in covered t.number (said tp r q m')
  unfolding stepped
  said_text covered k = go (ltb t.number covered)
    where
      go : (b : Bool) → cond b [] (find_text q.about.at q.find) ≡ lines_text (cond b [] (packets (said tp r q m')))
      go true = refl
      go false = find_text_lem r.limit tp q.find q.about m' (subst⁻¹ (λ (x : Said). Within tp x.find x.bytes) (ap (λ (x : Gave). x.said) g.same) k.within)

  -- a TP of another length has none but 6
  no_other : length m ≡ r.limit → (length tp ≡ r.size → ⊥) → lasts q.find ≡ true → ⊥
  unfolding call_as stepped
  no_other f w e =
      let six : (call_by t r tp m).said.find ≡ F.Notice 6 = rw (eq-eqb (length m) r.limit f, ne_eqb (length tp) r.size w) refl in
      false_true (subst (λ (x : Find). lasts x ≡ true) (ap (λ (x : Gave). x.said.find) g.same ∙ six) e)

  adds_said : (covered : ℕ) (o : Block) → Tells tp (call_by t r tp m) → Adds o (text_in covered t.number (said tp r q m')) (puts (Index covered) t tp q m' o)
  adds_said covered o k =
      subst (λ (s : List ℕ). Adds o s (puts (Index covered) t tp q m' o)) (said_text covered k)
      (adds_one o (new_text covered t.number q.about.at q.find) (new_most covered t.number q.about.at q.find))

-- ---- from a receiver between two TPs

module _ (t : Stamp) (tp : List ℕ) (r : Receiver) (m : List ℕ) (able : Able r) (fresh : r.stage ≡ S.Fresh) (full : length m ≡ r.limit) where
  record Lent (r' : Receiver) (m' : List ℕ) : Type 0 where
    can : Able r'
    all : length m' ≡ r'.limit
    whole : length tp ≡ r'.size

  lent_so : {fs : List (Finding wire)} {r' : Receiver} {m' : List ℕ} → length tp ≡ r.size → So t tp r m fs r' m' → Lent r' m'
  lent_so w none = record { can = able; all = full; whole = w }
  lent_so w (also {r' = r'} {m' = m'} {q = q} {m'' = m''} h g on) =
      let k = lent_so w h in
      record { can = g.able; all = full_on (λ q. always t) r' tp m' q m'' g k.can k.all k.whole; whole = whole_on (λ q. always t) r' tp m' q m'' g k.can k.all k.whole }

  -- of another length: the first call is the last
  no_more : {fs : List (Finding wire)} {r' : Receiver} {m' : List ℕ} → So t tp r m fs r' m' → (length tp ≡ r.size → ⊥)
      → (q : Step) (m'' : List ℕ) → Gives (call_by t r' tp m') q tp m'' → lasts q.find ≡ true → ⊥
  no_more none w q m'' g on = no_other t tp r m q m'' g full w on
  no_more (also {q = q₁} {m'' = m₁} h g₁ on₁) w q m'' g on = no_more h w q₁ m₁ g₁ on₁

  other_tells : {fs : List (Finding wire)} {r' : Receiver} {m' : List ℕ} → (length tp ≡ r.size → ⊥) → So t tp r m fs r' m' → Tells tp (call_by t r' tp m')
  other_tells w none = six_tells_as r (always t) tp m full w fresh
  other_tells w (also {q = q} {m'' = m''} h g on) = absurd (no_more h w q m'' g on)

  so_tells : {fs : List (Finding wire)} {r' : Receiver} {m' : List ℕ} → So t tp r m fs r' m' → Tells tp (call_by t r' tp m')
  so_tells {fs} {r'} {m'} h = go (eqb (length tp) r.size) refl
    where
      go : (b : Bool) → eqb (length tp) r.size ≡ b → Tells tp (call_by t r' tp m')
      go true e = let k = lent_so (eqb-true (length tp) r.size e) h in tells_as r' (always t) tp m' k.all k.whole
      go false e = other_tells (eqb-false (length tp) r.size e) h

  -- the finds of the definition begin with them
  so_rest : {fs : List (Finding wire)} {r' : Receiver} {m' : List ℕ} → length tp ≡ r.size → So t tp r m fs r' m'
      → (coming_of r.stage r (always t) tp m).0 ≡ fs ++ (coming_of r'.stage r' (always t) tp m').0
  so_rest w none = refl
  so_rest w (also {fs = fs} {r' = r'} {m' = m'} {q = q} {m'' = m''} h g on) =
      let k = lent_so w h in
      so_rest w h
      ∙ ap (λ (x : Listing). fs ++ x.0) (more_rest (λ q. always t) r' tp m' q m'' g k.can k.all k.whole (stamped_steady t) (not_ended q.find on))
      ∙ sym (append_assoc fs (said tp r' q m'') (coming_of q.receiver.stage q.receiver (always t) tp m'').0)

  abbrev read : Listing
  read = listing_of (setting_of r) (always t) (stand_of r m) (tp_in tp)

  pub paused_rest : {fs : List (Finding wire)} {r' : Receiver} {m' : List ℕ} → Paused t tp r m fs r' m' → (others : List (Finding wire)) × (read.0 ≡ fs ++ others)
  paused_rest {fs} {r'} {m'} p = go (eqb (length tp) r.size) refl
    where
      other : {gs : List (Finding wire)} {l : Receiver} {k : List ℕ} → (length tp ≡ r.size → ⊥) → So t tp r m gs l k → (others : List (Finding wire)) × (read.0 ≡ gs ++ others)
      other w none = (read.0, refl)
      other w (also {q = q} {m'' = m''} h g on) = absurd (no_more h w q m'' g on)

      go : (b : Bool) → eqb (length tp) r.size ≡ b → (others : List (Finding wire)) × (read.0 ≡ fs ++ others)
      go true e =
          let l = p.left in
          ((coming_of l.stage l (always t) tp m').0, ap (λ (g : Stage). (coming_of g r (always t) tp m).0) (sym fresh) ∙ so_rest (eqb-true (length tp) r.size e) p.so)
      go false e = other (eqb-false (length tp) r.size e) p.so

  -- behind the finds fs
  module _ (covered : ℕ) {fs : List (Finding wire)} {r₁ : Receiver} {m₁ : List ℕ} (before : Paused t tp r m fs r₁ m₁) where
    pub record On (o : Block) (r₂ : Receiver) (m₂ : List ℕ) (o' : Block) : Type 0 where
      pub finds : List (Finding wire)
      pub paused : Paused t tp r m (fs ++ finds) r₂ m₂
      pub adds : Adds o (text_in covered t.number finds) o'

    pub record Over (o : Block) (r₂ : Receiver) (m₂ : List ℕ) (o' : Block) : Type 0 where
      pub finds : List (Finding wire)
      pub calls : Calls (λ q. always t) tp r m (fs ++ finds) r₂ m₂
      pub adds : Adds o (text_in covered t.number finds) o'

    hears_on : {o : Block} {r₂ : Receiver} {m₂ : List ℕ} {o' : Block} → Hears (Index covered) t tp r₁ m₁ o r₂ m₂ o' → On o r₂ m₂ o'
    hears_on {o} nothing = record {
      finds = [];
      paused = subst⁻¹ (λ (l : List (Finding wire)). Paused t tp r m l r₁ m₁) (append-nil fs) before;
      adds = subst⁻¹ (λ (s : List ℕ). Adds o s o) (ap lines_text (new_none covered t.number)) (adds_none o);
    }
    hears_on {o} (then {r' = r'} {m' = m'} {o' = o'} {q = q} {m'' = m''} h g on) =
        let k = hears_on h in
        let p = k.paused in
        let same = subst (λ (x : Gave). Gives x q tp m'') p.alike g in
        let one = said tp p.left q m'' in
        record {
          finds = k.finds ++ one;
          paused = record {
            left = q.receiver;
            so = subst (λ (l : List (Finding wire)). So t tp r m l q.receiver m'') (append_assoc fs k.finds one) (also p.so same on);
            alike = refl;
          };
          adds = subst⁻¹ (λ (s : List ℕ). Adds o s (puts (Index covered) t tp q m'' o')) (text_in_append covered t.number k.finds one) (adds_then k.adds (adds_said t tp p.left m' q m'' same covered o' (so_tells p.so)));
        }

    pub pauses_on : {o : Block} {r₂ : Receiver} {m₂ : List ℕ} {o' : Block} → Pauses (Index covered) t tp r₁ m₁ o r₂ m₂ o' → On o r₂ m₂ o'
    pauses_on p =
        let k = hears_on p.hears in
        record { finds = k.finds; paused = record { left = k.paused.left; so = k.paused.so; alike = p.alike ∙ k.paused.alike }; adds = k.adds }

    pub ends_on : {o : Block} {r₂ : Receiver} {m₂ : List ℕ} {o' : Block} → Ends (Index covered) t tp r₁ m₁ o r₂ m₂ o' → Over o r₂ m₂ o'
    ends_on {o} (last {r' = r'} {m' = m'} {o' = o'} {q = q} {m'' = m''} h g off) =
        let k = hears_on h in
        let p = k.paused in
        let same = subst (λ (x : Gave). Gives x q tp m'') p.alike g in
        let one = said tp p.left q m'' in
        let tells = so_tells p.so in
        record {
          finds = k.finds ++ one;
          calls = subst (λ (l : List (Finding wire)). Calls (λ q. always t) tp r m l q.receiver m'') (append_assoc fs k.finds one) (so_calls p.so (C.last same (is_ended q.find off (number_told t tp p.left m' q m'' same tells))));
          adds = subst⁻¹ (λ (s : List ℕ). Adds o s (puts (Index covered) t tp q m'' o')) (text_in_append covered t.number k.finds one) (adds_then k.adds (adds_said t tp p.left m' q m'' same covered o' tells));
        }
