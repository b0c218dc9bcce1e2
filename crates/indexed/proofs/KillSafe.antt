-- KILL-SAFE: until line 0 is written over, the first `size` bytes are the old index, whatever stands behind them, and they are all that a
-- growth reads of the file; afterwards they are the new one. So a file holds the index of some first part of the recording, or is
-- shorter than line 0; and from either a whole growth makes the index of all of it. Assumes nothing.
use Prim.Native.Nat.{ℕ, ◌+◌, ◌-◌, ◌<◌, ◌≤◌}
use mathlib.Core.Path.{◌≡◌, refl, sym, ap, ap₂, ◌∙◌, subst}
use mathlib.Core.Logic.{◌⊎◌, inl, inr}
use mathlib.Core.Bool.{Bool, true, false, cond, ◌&&◌}
use mathlib.Core.List.{List, [], ◌∷◌, ◌++◌, append-nil, append_assoc}
use native.Mathlib.Omega.{arith}
use lib.Dec.{eqb}
use lib.ListN.{length, take, drop, take-append-drop, length-append, length-take}
use lib.Seq.{take_all, take-take, take_at, drop_at}
use borrow.Author.Tests.{ne_eqb, le-leb, lt-ltb, le-ltb}
use Rattle.std.specs.Prelude.{Option, None, Some}
use Rattle.receiver.specs.declared.Stamp.{Stamp}
use Rattle.receiver.specs.Tp.{Setting, Input}
use Rattle.line_zero.specs.declared.Top.{Top}
use Rattle.line_zero.specs.Top.{top_text, top_in, Small}
use Rattle.line_zero.proofs.Laws.{top_back, top_width}
use Rattle.indexing.specs.Lines.{Line, line_text}
use Rattle.indexed.specs.Index.{start_stamp, behind, behind_all, Index, index_of, new_lines, new_since, grow_of}
use Rattle.indexed.specs.File.{lines_text, number_of, byte_of, top_with, top_of, file_of, since_in, Write, renamed, cut, add, over, done, all_done, Killed, grown_lines, grown_top, growth, bytes_of, covers_more, is_whole, writes_by, empty_top, writes_of, grow_file, Good, History, torn, grew, killed, added, KillSafe}
use Rattle.indexed.proofs.Records.{behind_append}
use Rattle.indexed.proofs.Grown.{grown, since_positive}

pub lines_append : (xs ys : List Line) → lines_text (xs ++ ys) ≡ lines_text xs ++ lines_text ys
lines_append [] ys = refl
lines_append (x ∷ xs) ys = ap (λ (l : List ℕ). line_text x ++ l) (lines_append xs ys) ∙ sym (append_assoc (line_text x) (lines_text xs) (lines_text ys))

pub number_behind : (xs : List Input) (p : Stamp) → (behind_all p xs).number ≡ p.number + length xs
number_behind [] p = omega arith
number_behind (x ∷ xs) p = let e = number_behind xs (behind p x) in omega arith

byte_behind : (xs : List Input) (p : Stamp) → p.byte ≤ (behind_all p xs).byte
byte_behind [] p = omega arith
byte_behind (x ∷ xs) p = let e = byte_behind xs (behind p x) in omega arith

-- line 0 gives back the stamp that it names
since_back : (o : Option Stamp) → ((p : Stamp) → o ≡ Some p → 1 ≤ p.number) → cond (eqb (number_of o) 0) None (Some (record { number = number_of o; byte = byte_of o })) ≡ o
since_back None pos = refl
since_back (Some p) pos =
    let l = pos p refl in
    ap (λ (b : Bool). cond b None (Some p)) (ne_eqb p.number 0 (λ e. omega arith))

module _ (s : Setting) where
  abbrev ix : List Input → Index
  ix xs = index_of s xs

  -- line 0 of the index made afresh, and the file
  abbrev zero_of : List Input → Top
  zero_of xs = top_of (ix xs)

  abbrev file : List Input → List ℕ
  file xs = file_of (ix xs)

  abbrev full : List Input → ℕ
  full xs = 133 + length (lines_text (ix xs).lines)

  file_long : (xs : List Input) → length (file xs) ≡ full xs
  unfolding file_of
  file_long xs =
      length-append (top_text (zero_of xs)) (lines_text (ix xs).lines) ∙ ap (λ (n : ℕ). n + length (lines_text (ix xs).lines)) (top_width (zero_of xs))

  next_is : (xs : List Input) → (ix xs).next ≡ behind_all start_stamp xs
  unfolding index_of
  next_is xs = refl

  -- ---- a growth from the index of xs

  unfoldable pub more : List Input → List Input → List Line
  more xs ys = new_lines s (ix xs).next (ix xs).since xs ys

  since_is : (xs : List Input) → since_in (zero_of xs) ≡ (ix xs).since
  since_is xs = since_back (ix xs).since (since_positive s xs)

  covered_is : (xs : List Input) → (zero_of xs).covered - 1 ≡ length xs
  covered_is xs = let e = ap (λ (p : Stamp). p.number) (next_is xs) ∙ number_behind xs start_stamp in omega arith

  -- of what a growth reads: the covered records and the new ones
  there : {A : Type 0} (f : Option Stamp → List Input → List Input → A) (xs ys : List Input)
      → f (since_in (zero_of xs)) (take ((zero_of xs).covered - 1) (xs ++ ys)) (drop ((zero_of xs).covered - 1) (xs ++ ys)) ≡ f (ix xs).since xs ys
  there f xs ys =
      ap₂ (λ (o : Option Stamp) (n : ℕ). f o (take n (xs ++ ys)) (drop n (xs ++ ys))) (since_is xs) (covered_is xs)
      ∙ ap₂ (λ (a b : List Input). f (ix xs).since a b) (take_at xs ys (length xs) refl) (drop_at xs ys (length xs) refl)

  pub lines_there : (xs ys : List Input) → grown_lines s (zero_of xs) (xs ++ ys) ≡ more xs ys
  unfolding more
  lines_there xs ys = there (λ (o : Option Stamp) (a b : List Input). new_lines s (ix xs).next o a b) xs ys

  lines_are : (xs ys : List Input) → (ix (xs ++ ys)).lines ≡ (ix xs).lines ++ more xs ys
  unfolding grow_of more
  lines_are xs ys = sym (ap (λ (i : Index). i.lines) (grown s xs ys))

  text_is : (xs ys : List Input) → lines_text (ix (xs ++ ys)).lines ≡ lines_text (ix xs).lines ++ lines_text (more xs ys)
  text_is xs ys = ap lines_text (lines_are xs ys) ∙ lines_append (ix xs).lines (more xs ys)

  sums : (w a b c : ℕ) → c ≡ a + b → (w + a) + b ≡ w + c
  sums w a b c e = omega arith

  size_is : (xs ys : List Input) → full xs + length (lines_text (more xs ys)) ≡ full (xs ++ ys)
  size_is xs ys =
      sums 133 (length (lines_text (ix xs).lines)) (length (lines_text (more xs ys))) (length (lines_text (ix (xs ++ ys)).lines))
      (ap length (text_is xs ys) ∙ length-append (lines_text (ix xs).lines) (lines_text (more xs ys)))

  top_there : (xs ys : List Input) → grown_top s (zero_of xs) (xs ++ ys) ≡ zero_of (xs ++ ys)
  unfolding grow_of more
  top_there xs ys =
      there (λ (o : Option Stamp) (a b : List Input). top_with (behind_all (ix xs).next b) (new_since s (ix xs).next o a b) (full xs + length (lines_text (new_lines s (ix xs).next o a b)))) xs ys
      ∙ ap (λ (n : ℕ). top_with (behind_all (ix xs).next ys) (new_since s (ix xs).next (ix xs).since xs ys) n) (size_is xs ys)
      ∙ ap (λ (i : Index). top_with i.next i.since (full (xs ++ ys))) (grown s xs ys)

  abbrev steps : List Input → List Input → List Write
  steps xs ys = cut (full xs) ∷ add (lines_text (more xs ys)) ∷ over (top_text (zero_of (xs ++ ys))) ∷ []

  growth_is : (xs ys : List Input) → growth s (zero_of xs) (xs ++ ys) ≡ steps xs ys
  growth_is xs ys =
      ap₂ (λ (l : List Line) (z : Top). cut (full xs) ∷ add (lines_text l) ∷ over (top_text z) ∷ []) (lines_there xs ys) (top_there xs ys)

  -- line 0 over the old index and the new lines
  new_file : (xs ys : List Input) → done (file xs ++ lines_text (more xs ys)) (over (top_text (zero_of (xs ++ ys)))) ≡ file (xs ++ ys)
  unfolding file_of
  new_file xs ys =
      let o : List ℕ = top_text (zero_of (xs ++ ys)) in
      let z : List ℕ = top_text (zero_of xs) in
      let old : List ℕ = lines_text (ix xs).lines in
      let new : List ℕ = lines_text (more xs ys) in
      ap (λ (l : List ℕ). o ++ drop (length o) l) (append_assoc z old new)
      ∙ ap (λ (l : List ℕ). o ++ l) (drop_at z (old ++ new) (length o) (top_width (zero_of xs) ∙ sym (top_width (zero_of (xs ++ ys)))))
      ∙ ap (λ (l : List ℕ). o ++ l) (sym (text_is xs ys))

  -- ---- what a file holds

  abbrev Holds : List Input → List ℕ → Type 0
  Holds xs f = take (full xs) f ≡ file xs

  pub record Part (f : List ℕ) (zs : List Input) : Type 0 where
    pub covers : List Input
    pub rest : List Input
    pub parts : zs ≡ covers ++ rest
    pub holds : Holds covers f

  abbrev Sound : List ℕ → List Input → Type 0
  Sound f zs = (length f < 133) ⊎ Part f zs

  holds_own : (xs : List Input) → Holds xs (file xs)
  holds_own xs = take_all (full xs) (file xs) (let e = file_long xs in omega arith)

  whole_sound : (zs : List Input) (g : List ℕ) → g ≡ file zs → Sound g zs
  whole_sound zs g e = inr (record { covers = zs; rest = []; parts = sym (append-nil zs); holds = ap (take (full zs)) e ∙ holds_own zs })

  front : (xs : List Input) (b : List ℕ) → take (full xs) (file xs ++ b) ≡ file xs
  front xs b = take_at (file xs) b (full xs) (file_long xs)

  grown_whole : (xs ys : List Input) (f : List ℕ) → Holds xs f → all_done f (growth s (zero_of xs) (xs ++ ys)) ≡ file (xs ++ ys)
  grown_whole xs ys f h =
      ap (all_done f) (growth_is xs ys)
      ∙ ap (λ (l : List ℕ). done (l ++ lines_text (more xs ys)) (over (top_text (zero_of (xs ++ ys))))) h
      ∙ new_file xs ys

  grown_killed : (xs ys : List Input) (f g : List ℕ) → Holds xs f → Killed f (growth s (zero_of xs) (xs ++ ys)) g → Sound g (xs ++ ys)
  grown_killed xs ys f g h k = go (subst (λ (ws : List Write). Killed f ws g) (growth_is xs ys) k)
    where
      new : List ℕ
      new = lines_text (more xs ys)

      old : Holds xs g → Sound g (xs ++ ys)
      old z = inr (record { covers = xs; rest = ys; parts = refl; holds = z })

      go : Killed f (steps xs ys) g → Sound g (xs ++ ys)
      go (inl (m, l, e)) = old (ap (take (full xs)) e ∙ take-take (full xs) m f l ∙ h)
      go (inr (inl (m, e))) = old (ap (take (full xs)) (e ∙ ap (λ (l : List ℕ). l ++ take m new) h) ∙ front xs (take m new))
      go (inr (inr (inl e))) = old (ap (take (full xs)) (e ∙ ap (λ (l : List ℕ). l ++ new) h) ∙ front xs new)
      go (inr (inr (inr e))) =
          whole_sound (xs ++ ys) g (e ∙ ap (λ (l : List ℕ). done (l ++ new) (over (top_text (zero_of (xs ++ ys))))) h ∙ new_file xs ys)

  -- ---- which writes a file gets

  empty_is : empty_top ≡ zero_of []
  unfolding index_of
  empty_is = refl

  empty_holds : Holds [] (top_text empty_top)
  unfolding index_of file_of
  empty_holds = take_all 133 (top_text empty_top) (let e = top_width empty_top in omega arith) ∙ sym (append-nil (top_text empty_top))

  afresh : List Input → List Write
  afresh zs = renamed (top_text empty_top) ∷ growth s (zero_of []) zs

  short_writes : (f : List ℕ) (zs : List Input) (rest : ℕ) → length f < 133 → writes_of s f zs rest ≡ afresh zs
  unfolding writes_of afresh
  short_writes f zs rest l =
      ap (λ (b : Bool). cond b (renamed (top_text empty_top) ∷ growth s empty_top zs) (writes_by s (top_in f) (length f) zs rest)) (lt-ltb (length f) 133 l)
      ∙ ap (λ (z : Top). renamed (top_text empty_top) ∷ growth s z zs) empty_is

  long : (xs : List Input) (f : List ℕ) → Holds xs f → full xs ≤ length f
  long xs f h =
      let a : length (take (full xs) f) ≡ full xs = ap length h ∙ file_long xs in
      let b = length-take (full xs) f in
      omega arith

  says : (xs : List Input) (f : List ℕ) → Small (zero_of xs) → Holds xs f → top_in f ≡ Some (zero_of xs)
  unfolding file_of
  says xs f small h =
      let lines : List ℕ = lines_text (ix xs).lines in
      let tail : List ℕ = drop (full xs) f in
      let parts : f ≡ top_text (zero_of xs) ++ (lines ++ tail) =
      sym (take-append-drop (full xs) f) ∙ ap (λ (l : List ℕ). l ++ tail) h ∙ append_assoc (top_text (zero_of xs)) lines tail in
      ap top_in parts ∙ top_back (zero_of xs) (lines ++ tail) small

  is_whole_lem : (xs : List Input) (n : ℕ) → full xs ≤ n → is_whole (zero_of xs) n ≡ true
  is_whole_lem xs n l = ap₂ (λ (a b : Bool). a && b) (le-leb 133 (full xs) (omega arith)) (le-leb (full xs) n l)

  covers_no_more : (xs ys : List Input) (rest : ℕ) → covers_more (zero_of xs) (bytes_of (xs ++ ys) rest) ≡ false
  covers_no_more xs ys rest =
      let p : Stamp = behind_all start_stamp xs in
      let a = ap (λ (q : Stamp). q.byte) (next_is xs) in
      let b = ap (λ (q : Stamp). q.byte) (behind_append xs ys start_stamp) in
      let c = byte_behind ys p in
      le-ltb (bytes_of (xs ++ ys) rest) (ix xs).next.byte (omega arith)

  held_writes : (xs ys : List Input) (f : List ℕ) (rest : ℕ) → Small (zero_of xs) → Holds xs f → writes_of s f (xs ++ ys) rest ≡ growth s (zero_of xs) (xs ++ ys)
  unfolding writes_of
  held_writes xs ys f rest small h =
      let zs : List Input = xs ++ ys in
      let l = long xs f h in
      ap (λ (b : Bool). cond b (renamed (top_text empty_top) ∷ growth s empty_top zs) (writes_by s (top_in f) (length f) zs rest)) (le-ltb (length f) 133 (omega arith))
      ∙ ap (λ (r : Option Top). writes_by s r (length f) zs rest) (says xs f small h)
      ∙ ap₂ (λ (a b : Bool). cond a (cond b [] (growth s (zero_of xs) zs)) []) (is_whole_lem xs (length f) l) (covers_no_more xs ys rest)

  -- ---- any growth

  whole : (f : List ℕ) (zs : List Input) (rest : ℕ) → Good s zs → Sound f zs → grow_file s f zs rest ≡ file zs
  unfolding afresh
  whole f zs rest good (inl l) = ap (all_done f) (short_writes f zs rest l) ∙ grown_whole [] zs (top_text empty_top) empty_holds
  whole f zs rest good (inr p) =
      let xs : List Input = p.covers in
      let ys : List Input = p.rest in
      ap (λ (l : List Input). grow_file s f l rest) p.parts
      ∙ ap (all_done f) (held_writes xs ys f rest (good xs ys p.parts) p.holds)
      ∙ grown_whole xs ys f p.holds
      ∙ ap file (sym p.parts)

  cut_short : (f g : List ℕ) (zs : List Input) (rest : ℕ) → Good s zs → Sound f zs → Killed f (writes_of s f zs rest) g → Sound g zs
  unfolding afresh
  cut_short f g zs rest good (inl l) k = go (subst (λ (ws : List Write). Killed f ws g) (short_writes f zs rest l) k)
    where
      go : Killed f (afresh zs) g → Sound g zs
      go (inl e) = inl (subst (λ (h : List ℕ). length h < 133) (sym e) l)
      go (inr m) = grown_killed [] zs (top_text empty_top) g empty_holds m
  cut_short f g zs rest good (inr p) k =
      let xs : List Input = p.covers in
      let ys : List Input = p.rest in
      let a : Killed f (writes_of s f (xs ++ ys) rest) g = subst (λ (l : List Input). Killed f (writes_of s f l rest) g) p.parts k in
      let b : Killed f (growth s (zero_of xs) (xs ++ ys)) g = subst (λ (ws : List Write). Killed f ws g) (held_writes xs ys f rest (good xs ys p.parts) p.holds) a in
      subst (Sound g) (sym p.parts) (grown_killed xs ys f g p.holds b)

  more_sound : (f : List ℕ) (zs ys : List Input) → Sound f zs → Sound f (zs ++ ys)
  more_sound f zs ys (inl l) = inl l
  more_sound f zs ys (inr p) =
      inr (record { covers = p.covers; rest = p.rest ++ ys; parts = ap (λ (l : List Input). l ++ ys) p.parts ∙ append_assoc p.covers p.rest ys; holds = p.holds })

  sound : {f : List ℕ} {zs : List Input} → History s f zs → Sound f zs
  sound (torn f zs l) = inl l
  sound (grew f zs rest h good) = whole_sound zs (grow_file s f zs rest) (whole f zs rest good (sound h))
  sound (killed f g zs rest h good k) = cut_short f g zs rest good (sound h) k
  sound (added f zs ys h) = more_sound f zs ys (sound h)

pub kill_safe : KillSafe
kill_safe s f zs rest h good = whole s f zs rest good (sound s h)
