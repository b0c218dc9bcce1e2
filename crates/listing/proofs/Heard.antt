-- THE LINES OF A TP'S CALLS are the lines of the finds that its definition reads: all of them where the calls end the TP, before that the
-- first. Assumes nothing.
use Rattle.std.proofs.Common.{◌≡◌, ℕ, ◌+◌, ◌≤◌, Bool, true, false, eqb, List, [], ◌∷◌, ◌++◌, length, take, drop, sym, refl, ap, ◌∙◌, subst, append_assoc, append-nil, arith, length-drop, length-take-le, ltb-false, ltb-true, eq-eqb, ne_eqb, eqb-true}
use borrow.Author.Tests.{eqb-false}
use Rattle.block.specs.Block.{Block, put}
use Rattle.block.proofs.Laws.{fits, held_placed, block_of}
use Rattle.receiver.specs.declared.About.{About}
use Rattle.receiver.specs.declared.Find.{Find}
use Rattle.receiver.specs.declared.Find.TheVariants as F
use Rattle.receiver.specs.declared.Receiver.{Receiver}
use Rattle.receiver.specs.declared.Stage.{Stage}
use Rattle.receiver.specs.declared.Stage.TheVariants as S
use Rattle.receiver.specs.declared.Step.{Step}
use Rattle.receiver.specs.declared.stages.Stamps.{Stamps}
use Rattle.receiver.specs.Call.{Gave, Gives, Said, call_as, call_of, data_of, lasts, stamps_of, stepped}
use Rattle.receiver.specs.Join.{Finding}
use Rattle.receiver.specs.Low.{wire}
use Rattle.receiver.specs.State.{Able}
use Rattle.receiver.specs.Tp.{Listing, tp_in, listing_of, stamping_of, count_after}
use Rattle.receiver.proofs.Called.{Calls, coming_of, more_rest, full_on, whole_on, own, own_steady, whole_tp}
use Rattle.receiver.proofs.Called as C
use Rattle.receiver.proofs.Ending.{Ended, Within, Numbered, Tells, call_tells, six_tells}
use Rattle.receiver.proofs.Listening.{Leaves, tp_leaves, tp_counts, own_stamps}
use Rattle.receiver.proofs.Rest.{saying}
use Rattle.receiver.proofs.Whole.{setting_of, stand_of}
use Rattle.listing.specs.Hearing.{Hears, nothing, then, Ends, last}
use Rattle.listing.specs.Lines.{header_line, low_word, ordinary_word, notice_word, line_with, line_of}
use Rattle.listing.specs.Recordings.{find_line, tp_lines}

-- ---- the header line, put into an empty block

pub header_held : (d y : List ℕ) (r : ℕ) → 0 + length header_line ≤ length d → block_of y r ≡ put d 0 header_line → take r y ≡ header_line
header_held d y r room e = ap (λ (b : Block). take b.at b.bytes) (e ∙ fits d 0 header_line room) ∙ held_placed d 0 header_line room

-- ---- whether a TP has more to give

false_true : false ≡ true → ⊥
false_true e = let z : ◌≡◌ {A = ℕ} 0 1 = cc in omega arith

not_ended : (f : Find) → lasts f ≡ true → Ended f → ⊥
not_ended F.Nothing e i = false_true e
not_ended F.Refused e i = false_true e
not_ended (F.Notice n) e i = let l = ltb-true 9 n e in omega arith
not_ended (F.Low c start n) e i = omega arith
not_ended (F.Ordinary c n) e i = omega arith

is_ended : (f : Find) → lasts f ≡ false → Numbered f → Ended f
is_ended F.Nothing e i = omega arith
is_ended F.Refused e i = omega arith
is_ended (F.Notice n) e i = let l = ltb-false 9 n e in (i, omega arith)
is_ended (F.Low c start n) e i = absurd (false_true (sym e))
is_ended (F.Ordinary c n) e i = absurd (false_true (sym e))

-- ---- lines

lines_append : (n : ℕ) (fs gs : List (Finding wire)) → tp_lines n (fs ++ gs) ≡ tp_lines n fs ++ tp_lines n gs
lines_append n [] gs = refl
lines_append n (f ∷ fs) gs = ap (λ l. find_line n f ++ l) (lines_append n fs gs) ∙ sym (append_assoc (find_line n f) (tp_lines n fs) (tp_lines n gs))

-- in the TP with this number
module _ (tp : List ℕ) (n : ℕ) where
  find_line_lem : (cap : ℕ) (f : Find) (a : About) (m : List ℕ) → Within tp f (data_of f tp m) → Numbered f → tp_lines n (saying cap f a (data_of f tp m)) ≡ line_of n f
  find_line_lem cap F.Nothing a m i k = refl
  find_line_lem cap F.Refused a m i k = absurd (omega arith)
  find_line_lem cap (F.Notice j) a m i k = append-nil (line_with n notice_word j 0)
  find_line_lem cap (F.Low c start z) a m i k =
      let long : length (take z (drop start tp)) ≡ z = length-take-le z (drop start tp) (omega (arith, i, length-drop start tp)) in
      append-nil (line_with n low_word c (length (take z (drop start tp)))) ∙ ap (line_with n low_word c) long
  find_line_lem cap (F.Ordinary c z) a m i k = append-nil (line_with n ordinary_word c (length (take z m))) ∙ ap (line_with n ordinary_word c) (sym i)

  -- ---- one call

  module _ (r : Receiver) (m : List ℕ) (q : Step) (m' : List ℕ) (g : Gives (call_of r tp m) q tp m') where
    abbrev said : List (Finding wire)
    said = saying r.limit q.find q.about (data_of q.find tp m')

    told_number : Tells tp (call_of r tp m) → Numbered q.find
    unfolding stepped
    told_number t = subst Numbered (sym (ap (λ (g : Gave). g.said.find) g.same)) t.numbered

    said_line : Tells tp (call_of r tp m) → tp_lines n said ≡ line_of n q.find
    unfolding stepped
    said_line t =
        find_line_lem r.limit q.find q.about m'
        (subst (λ (s : Said). Within tp s.find s.bytes) (sym (ap (λ (g : Gave). g.said) g.same)) t.within) (told_number t)

    -- a TP of another length has none but 6
    no_other : length m ≡ r.limit → (length tp ≡ r.size → ⊥) → lasts q.find ≡ true → ⊥
    unfolding call_of call_as stepped
    no_other f w e =
        let six : (call_of r tp m).said.find ≡ F.Notice 6 = rw (eq-eqb (length m) r.limit f, ne_eqb (length tp) r.size w) refl in
        false_true (subst (λ (x : Find). lasts x ≡ true) (ap (λ (g : Gave). g.said.find) g.same ∙ six) e)

  -- ---- the calls so far

  abbrev coming : Receiver → List ℕ → Listing
  coming r m = coming_of r.stage r (stamps_of r) tp m

  record Lent (r : Receiver) (m : List ℕ) : Type 0 where
    able : Able r
    full : length m ≡ r.limit
    whole : length tp ≡ r.size

  lent_on : {r : Receiver} {m ls : List ℕ} {r' : Receiver} {m' : List ℕ} → Hears tp n r m ls r' m' → Lent r m → Lent r' m'
  lent_on nothing l = l
  lent_on (then {r' = r'} {m' = m'} {q = q} {m'' = m''} h g on) l =
      let k = lent_on h l in
      let o = own r' tp m' q m'' g in
      record { able = g.able; full = full_on stamps_of r' tp m' q m'' o k.able k.full k.whole; whole = whole_on stamps_of r' tp m' q m'' o k.able k.full k.whole }

  hears_coming : {r : Receiver} {m ls : List ℕ} {r' : Receiver} {m' : List ℕ} → Hears tp n r m ls r' m' → Lent r m
      → tp_lines n (coming r m).0 ≡ ls ++ tp_lines n (coming r' m').0
  hears_coming nothing l = refl
  hears_coming (then {ls = ls} {r' = r'} {m' = m'} {q = q} {m'' = m''} h g on) l =
      let k = lent_on h l in
      let one = said r' m' q m'' g in
      let rest = tp_lines n (coming q.receiver m'').0 in
      hears_coming h l
      ∙ ap (λ (x : Listing). ls ++ tp_lines n x.0) (more_rest stamps_of r' tp m' q m'' (own r' tp m' q m'' g) k.able k.full k.whole own_steady (not_ended q.find on))
      ∙ ap (λ z. ls ++ z) (lines_append n one (coming q.receiver m'').0)
      ∙ ap (λ z. ls ++ (z ++ rest)) (said_line r' m' q m'' g (call_tells r' tp m' k.full k.whole))
      ∙ sym (append_assoc ls (line_of n q.find) rest)

  -- ---- calls up to the last

  record EndedBy (r : Receiver) (m ls : List ℕ) (r' : Receiver) (m' : List ℕ) : Type 0 where
    finds : List (Finding wire)
    calls : Calls stamps_of tp r m finds r' m'
    lines : tp_lines n finds ≡ ls

  before_calls : {r : Receiver} {m ls : List ℕ} {r' : Receiver} {m' ks : List ℕ} {r'' : Receiver} {m'' : List ℕ} → Hears tp n r m ls r' m' → Lent r m
      → EndedBy r' m' ks r'' m'' → EndedBy r m (ls ++ ks) r'' m''
  before_calls nothing l c = c
  before_calls {r = r} {m = m} {ks = ks} {r'' = r''} {m'' = m₃} (then {ls = ls} {r' = r'} {m' = m'} {q = q} {m'' = m''} h g on) l c =
      let k = lent_on h l in
      let one = said r' m' q m'' g in
      let more : EndedBy r' m' (line_of n q.find ++ ks) r'' m₃ =
      record {
        finds = one ++ c.finds;
        calls = C.more (own r' tp m' q m'' g) (not_ended q.find on) c.calls;
        lines = lines_append n one c.finds ∙ ap (λ z. z ++ tp_lines n c.finds) (said_line r' m' q m'' g (call_tells r' tp m' k.full k.whole)) ∙ ap (λ z. line_of n q.find ++ z) c.lines;
      } in
      subst (λ z. EndedBy r m z r'' m₃) (sym (append_assoc ls (line_of n q.find) ks)) (before_calls h l more)

  ends_calls : {r : Receiver} {m ls : List ℕ} {r' : Receiver} {m' : List ℕ} → Ends tp n r m ls r' m' → Lent r m → EndedBy r m ls r' m'
  ends_calls (last {r' = r'} {m' = m'} {q = q} {m'' = m''} h g off) l =
      let k = lent_on h l in
      let t = call_tells r' tp m' k.full k.whole in
      before_calls h l
      (record { finds = said r' m' q m'' g; calls = C.last (own r' tp m' q m'' g) (is_ended q.find off (told_number r' m' q m'' g t)); lines = said_line r' m' q m'' g t })

  -- a TP of another length: its first call is its last
  no_then : {r : Receiver} {m ls : List ℕ} {r' : Receiver} {m' : List ℕ} → Hears tp n r m ls r' m' → length m ≡ r.limit → (length tp ≡ r.size → ⊥)
      → (q : Step) (m'' : List ℕ) → Gives (call_of r' tp m') q tp m'' → lasts q.find ≡ true → ⊥
  no_then {r} {m} nothing f w q m'' g on = no_other r m q m'' g f w on
  no_then (then {q = q₁} {m'' = m₁} h g₁ on₁) f w q m'' g on = no_then h f w q₁ m₁ g₁ on₁

  six_calls : {r : Receiver} {m ls : List ℕ} {r' : Receiver} {m' : List ℕ} → Ends tp n r m ls r' m' → r.stage ≡ S.Fresh → length m ≡ r.limit → (length tp ≡ r.size → ⊥)
      → EndedBy r m ls r' m'
  six_calls {r} {m} (last {q = q} {m'' = m''} nothing g off) e f w =
      let t = six_tells r tp m f w e in
      record { finds = said r m q m'' g; calls = C.last (own r tp m q m'' g) (is_ended q.find off (told_number r m q m'' g t)); lines = said_line r m q m'' g t }
  six_calls (last (then {q = q} {m'' = m''} h g on) g' off) e f w = absurd (no_then h f w q m'' g on)

-- ---- THE LINES OF A WHOLE TP, from a receiver between two TPs

module _ (tp : List ℕ) (n : ℕ) (r : Receiver) (m : List ℕ) (able : Able r) (fresh : r.stage ≡ S.Fresh) (full : length m ≡ r.limit) where
  abbrev read : Listing
  read = listing_of (setting_of r) (stamping_of r.count) (stand_of r m) (tp_in tp)

  read_by : coming_of r.stage r (stamps_of r) tp m ≡ read
  read_by =
      ap (λ (g : Stage). coming_of g r (stamps_of r) tp m) fresh
      ∙ ap (λ (k : Stamps). listing_of (setting_of r) k (stand_of r m) (tp_in tp)) (own_stamps r fresh)

  -- the first lines, and the others
  pub record Begun (ls : List ℕ) : Type 0 where
    pub others : List ℕ
    pub lines : ls ++ others ≡ tp_lines n read.0

  pub first_lines : {ls : List ℕ} {r' : Receiver} {m' : List ℕ} → Hears tp n r m ls r' m' → Begun ls
  first_lines {ls} {r'} {m'} h = go (eqb (length tp) r.size) refl h
    where
      other : {ls : List ℕ} {r' : Receiver} {m' : List ℕ} → Hears tp n r m ls r' m' → (length tp ≡ r.size → ⊥) → Begun ls
      other nothing w = record { others = tp_lines n read.0; lines = refl }
      other (then {q = q} {m'' = m''} h g on) w = absurd (no_then tp n h full w q m'' g on)

      go : (b : Bool) → eqb (length tp) r.size ≡ b → Hears tp n r m ls r' m' → Begun ls
      go true e h =
          record {
            others = tp_lines n (coming tp n r' m').0;
            lines = sym (hears_coming tp n h (record { able = able; full = full; whole = eqb-true (length tp) r.size e })) ∙ ap (λ (x : Listing). tp_lines n x.0) read_by;
          }
      go false e h = other h (eqb-false (length tp) r.size e)

  -- all lines, and where the receiver then stands
  pub record Done (ls : List ℕ) (r' : Receiver) (m' : List ℕ) : Type 0 where
    pub lines : tp_lines n read.0 ≡ ls
    pub stand : read.1 ≡ stand_of r' m'
    pub count : r'.count ≡ count_after (setting_of r) r.count (tp_in tp)
    pub leaves : Leaves r r' m m'

  pub all_lines : {ls : List ℕ} {r' : Receiver} {m' : List ℕ} → Ends tp n r m ls r' m' → Done ls r' m'
  all_lines {ls} {r'} {m'} h =
      let c = ended (eqb (length tp) r.size) refl in
      let e : read ≡ (c.finds, stand_of r' m') =
      ap (λ (k : Stamps). listing_of (setting_of r) k (stand_of r m) (tp_in tp)) (sym (own_stamps r fresh)) ∙ whole_tp c.calls own_steady able fresh full in
      record {
        lines = ap (λ (x : Listing). tp_lines n x.0) e ∙ c.lines;
        stand = ap (λ (x : Listing). x.1) e;
        count = tp_counts c.calls fresh full;
        leaves = tp_leaves c.calls fresh full;
      }
    where
      ended : (b : Bool) → eqb (length tp) r.size ≡ b → EndedBy tp n r m ls r' m'
      ended true e = ends_calls tp n h (record { able = able; full = full; whole = eqb-true (length tp) r.size e })
      ended false e = six_calls tp n h fresh full (eqb-false (length tp) r.size e)

-- ---- calls behind calls

pub hears_on : {tp : List ℕ} {n : ℕ} {r : Receiver} {m ls : List ℕ} {r' : Receiver} {m' ks : List ℕ} {r'' : Receiver} {m'' : List ℕ}
    → Hears tp n r m ls r' m' → Hears tp n r' m' ks r'' m'' → Hears tp n r m (ls ++ ks) r'' m''
hears_on {tp} {n} {r} {m} {ls} {r'} {m'} h nothing = subst (λ (z : List ℕ). Hears tp n r m z r' m') (sym (append-nil ls)) h
hears_on {tp} {n} {r} {m} {ls} h (then {ls = ks} {q = q} {m'' = m''} k g on) =
    subst (λ (z : List ℕ). Hears tp n r m z q.receiver m'') (append_assoc ls ks (line_of n q.find)) (then (hears_on h k) g on)

pub ends_on : {tp : List ℕ} {n : ℕ} {r : Receiver} {m ls : List ℕ} {r' : Receiver} {m' ks : List ℕ} {r'' : Receiver} {m'' : List ℕ}
    → Hears tp n r m ls r' m' → Ends tp n r' m' ks r'' m'' → Ends tp n r m (ls ++ ks) r'' m''
ends_on {tp} {n} {r} {m} {ls} h (last {ls = ks} {q = q} {m'' = m''} k g off) =
    subst (λ (z : List ℕ). Ends tp n r m z q.receiver m'') (append_assoc ls ks (line_of n q.find)) (last (hears_on h k) g off)
