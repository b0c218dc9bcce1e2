-- Any TPs missing, with a gap told at each place where some are: a use of the window lemma for each stretch that arrived, since a told gap,
-- a lost step and the start of listening are one state. Assumes nothing.
use Prim.Native.Nat.{ℕ, zero, suc, ◌+◌, ◌≤◌, ◌<◌}
use mathlib.Core.Path.{◌≡◌, refl, sym, ap, ap₂, ◌∙◌, subst⁻¹}
use mathlib.Core.Bool.{Bool, true, false, cond, ◌||◌}
use mathlib.Core.List.{List, [], ◌∷◌, ◌++◌, append_assoc, append-nil}
use native.Mathlib.Omega.{arith}
use lib.Dec.{leb}
use lib.ListN.{length, drop, take, length-append}
use lib.Seq.{drop-drop, drop_at, take_at, take-nil}
use borrow.Author.Tests.{leb-true}
use Rattle.downlink.proofs.plain.Frame.{Code, Frame, lost, Event, gap, Out}
use Rattle.downlink.proofs.plain.Join.{free}
use Rattle.downlink.proofs.Within.{within, picked, inside, merged}
use Rattle.downlink.proofs.Window.{Cell, before, bytes, flat, part, heard}
use Rattle.downlink.proofs.Trains.{stream}
use Rattle.downlink.proofs.Joins.{Hand, Does, does, does_append}
use Rattle.downlink.proofs.Items.{Item, padding, single, series, given, all_eps_lem, all_given, item_size, window}

drop_take : {A : Type 0} (n m : ℕ) (l : List A) → drop n (take (n + m) l) ≡ take m (drop n l)
drop_take zero m l = let e : 0 + m ≡ m = omega arith in ap (λ n. take n l) e
drop_take {A} (suc n) m [] = let e : suc n + m ≡ suc (n + m) = omega arith in ap (λ k. drop (suc n) (take {A = A} k [])) e ∙ sym (take-nil m)
drop_take (suc n) m (a ∷ l) = let e : suc n + m ≡ suc (n + m) = omega arith in ap (λ k. drop (suc n) (take k (a ∷ l))) e ∙ drop_take n m l

-- ---- the stretches that arrived

module _ (arrived : ℕ → Bool) where
  -- of TPs that carry so many bytes, of which the first has the number n: whether the bytes a to b lie within one stretch that arrived; the
  -- stretch under way carries those from `from` to `to`
  abbrev pub unbroken : ℕ → ℕ → ℕ → List ℕ → ℕ → ℕ → Bool
  unbroken n from to [] a b = inside from to a b
  unbroken n from to (m ∷ ms) a b =
      cond (arrived n) (unbroken (suc n) from (to + m) ms a b) (inside from to a b || unbroken (suc n) (to + m) (to + m) ms a b)

  inside_true : (from to a b : ℕ) (x : Bool) → leb from a ≡ x → inside from to a b ≡ true → from ≤ a
  inside_true from to a b true e h = leb-true from a e
  inside_true from to a b false e h = absurd (let z : ◌≡◌ {A = ℕ} 0 1 = cc in omega arith)

  -- what lies in one begins in it
  pub begins : (n from to : ℕ) (ms : List ℕ) (a b : ℕ) → from ≤ to → unbroken n from to ms a b ≡ true → from ≤ a
  begins n from to [] a b p h = inside_true from to a b (leb from a) refl h
  begins n from to (m ∷ ms) a b p h =
      go (arrived n) (inside from to a b) refl (λ h. begins (suc n) from (to + m) ms a b (omega arith) h)
      (λ h. let q = begins (suc n) (to + m) (to + m) ms a b (omega arith) h in omega arith) h
    where
      go : (x y : Bool) → inside from to a b ≡ y → (unbroken (suc n) from (to + m) ms a b ≡ true → from ≤ a)
          → (unbroken (suc n) (to + m) (to + m) ms a b ≡ true → from ≤ a)
          → cond x (unbroken (suc n) from (to + m) ms a b) (y || unbroken (suc n) (to + m) (to + m) ms a b) ≡ true → from ≤ a
      go true y e f g h = f h
      go false true e f g h = inside_true from to a b (leb from a) refl e
      go false false e f g h = g h

-- ---- what is heard

module _ (C : Code) where
  -- the frame after TPs that carry these chunks
  abbrev pub upto : Frame C → List (List (Cell C)) → Frame C
  upto f [] = f
  upto f (cs ∷ css) = upto (part C f (before C cs) (bytes C cs)).0 css

  heard_snoc : (f : Frame C) (css : List (List (Cell C))) (cs : List (Cell C))
      → heard C f (css ++ cs ∷ []) ≡ heard C f css ++ (part C (upto f css) (before C cs) (bytes C cs)).1
  heard_snoc f [] cs = append-nil (part C f (before C cs) (bytes C cs)).1
  heard_snoc f (x ∷ css) cs =
      let o : Out C = part C f (before C x) (bytes C x) in
      ap (λ l. o.1 ++ l) (heard_snoc o.0 css cs)
      ∙ sym (append_assoc o.1 (heard C o.0 css) (part C (upto o.0 css) (before C cs) (bytes C cs)).1)

  upto_snoc : (f : Frame C) (css : List (List (Cell C))) (cs : List (Cell C)) → upto f (css ++ cs ∷ []) ≡ (part C (upto f css) (before C cs) (bytes C cs)).0
  upto_snoc f [] cs = refl
  upto_snoc f (x ∷ css) cs = upto_snoc (part C f (before C x) (bytes C x)).0 css cs

  flat_snoc : (css : List (List (Cell C))) (cs : List (Cell C)) → flat C (css ++ cs ∷ []) ≡ flat C css ++ cs
  flat_snoc [] cs = append-nil cs
  flat_snoc (x ∷ css) cs = ap (λ l. x ++ l) (flat_snoc css cs) ∙ sym (append_assoc x (flat C css) cs)

  -- of a TP that arrived, or not, told of the gap already or not, which would bring this
  abbrev pub heeding : Bool → Bool → Out C → Frame C → (Bool → Frame C → List (Event C)) → List (Event C)
  heeding true told o f on = o.1 ++ on false o.0
  heeding false true o f on = on true f
  heeding false false o f on = gap ∷ on true lost

  abbrev pub listened : (ℕ → Bool) → Bool → ℕ → Frame C → List (List (Cell C)) → List (Event C)
  listened arrived told n f [] = []
  listened arrived told n f (cs ∷ css) =
      heeding (arrived n) told (part C f (before C cs) (bytes C cs)) f (λ told' g. listened arrived told' (suc n) g css)

  abbrev pub lengths : List (List (Cell C)) → List ℕ
  lengths [] = []
  lengths (cs ∷ css) = length cs ∷ lengths css

  -- once told of a gap, nothing is under way
  abbrev pub Told : Bool → List (List (Cell C)) → Type 0
  Told true run = run ≡ []
  Told false run = Unit {0}

  pub at_start : (told : Bool) → Told told []
  at_start true = refl
  at_start false = tt

module _ (C : Code) (room : ℕ) where
  all_given_append : (xs ys : List (Item C room)) → all_given C room (xs ++ ys) ≡ all_given C room xs ++ all_given C room ys
  all_given_append [] ys = refl
  all_given_append (x ∷ xs) ys =
      ap (λ l. given C room x ++ l) (all_given_append xs ys) ∙ sym (append_assoc (given C room x) (all_given C room xs) (all_given C room ys))

  pub item_some : (i : Item C room) → 0 < item_size C room i
  item_some (padding e k) = omega arith
  item_some (single e k s) = omega arith
  item_some (series e k s es r) = omega arith

  module _ (is : List (Item C room)) (arrived : ℕ → Bool) where
    abbrev S : List (Cell C)
    S = stream C (all_eps_lem C room is)

    -- the packets of a stretch
    stretch : (from : ℕ) (run : List (List (Cell C))) (left : List (Cell C)) → drop from S ≡ flat C run ++ left
        → (does C room free (heard C lost run)).1 ≡ all_given C room (within (item_size C room) from (from + length (flat C run)) 0 is)
    stretch from run left e =
        let g : List (Cell C) = flat C run in
        window C room is run from (from + length g) (sym (drop_take from (length g) S ∙ ap (take (length g)) e ∙ take_at g left (length g) refl))

    pub gaps : (css : List (List (Cell C))) (told : Bool) (n from : ℕ) (run : List (List (Cell C))) (left : List (Cell C)) → Told C told run
        → drop from S ≡ flat C run ++ (flat C css ++ left)
        → (does C room free (heard C lost run ++ listened C arrived told n (upto C lost run) css)).1
        ≡ all_given C room (picked (item_size C room) (unbroken arrived n from (from + length (flat C run)) (lengths C css)) 0 is)
    gaps [] told n from run left t e = ap (λ l. (does C room free l).1) (append-nil (heard C lost run)) ∙ stretch from run left e
    gaps (cs ∷ css) told n from run left t e =
        go (arrived n) told t
        (gaps css false (suc n) from (run ++ cs ∷ []) left tt (e ∙ sym longer))
        (gaps css true (suc n) (to + length cs) [] left refl behind)
      where
        f : Frame C
        f = upto C lost run

        o : Out C
        o = part C f (before C cs) (bytes C cs)

        to : ℕ
        to = from + length (flat C run)

        rest : List (Cell C)
        rest = flat C css ++ left

        ms : List ℕ
        ms = lengths C css

        longer : flat C (run ++ cs ∷ []) ++ rest ≡ flat C run ++ ((cs ++ flat C css) ++ left)
        longer =
            ap (λ l. l ++ rest) (flat_snoc C run cs) ∙ append_assoc (flat C run) cs rest
            ∙ ap (λ l. flat C run ++ l) (sym (append_assoc cs (flat C css) left))

        behind : drop (to + length cs) S ≡ rest
        behind =
            sym (drop-drop (length cs) to S)
            ∙ ap (drop (length cs)) (sym (drop-drop (length (flat C run)) from S) ∙ ap (drop (length (flat C run))) e
            ∙ drop_at (flat C run) ((cs ++ flat C css) ++ left) (length (flat C run)) refl ∙ append_assoc cs (flat C css) left)
            ∙ drop_at cs rest (length cs) refl

        -- what the stretch under way gives, and what comes behind the gap
        two : (does C room free (listened C arrived true (suc n) lost css)).1
            ≡ all_given C room (picked (item_size C room) (unbroken arrived (suc n) (to + length cs) (to + length cs + 0) ms) 0 is)
            → (does C room free (heard C lost run)).1 ++ (does C room free (listened C arrived true (suc n) lost css)).1
            ≡ all_given C room (picked (item_size C room) (λ a b. inside from to a b || unbroken arrived (suc n) (to + length cs) (to + length cs) ms a b) 0 is)
        two new =
            let here : List (Item C room) = within (item_size C room) from to 0 is in
            let at : ℕ = to + length cs in
            let same : at + 0 ≡ at = omega arith in
            let later : List (Item C room) = picked (item_size C room) (unbroken arrived (suc n) at at ms) 0 is in
            ap₂ (λ (x y : List (Hand C)). x ++ y) (stretch from run ((cs ++ flat C css) ++ left) e)
            (new ∙ ap (λ (k : ℕ). all_given C room (picked (item_size C room) (unbroken arrived (suc n) at k ms) 0 is)) same)
            ∙ sym (all_given_append here later)
            ∙ ap (all_given C room) (merged (item_size C room) item_some from to (unbroken arrived (suc n) at at ms)
            (λ a b h. let q = begins arrived (suc n) at at ms a b (omega arith) h in omega arith) 0 is)

        go : (x told : Bool) → Told C told run
            → (does C room free (heard C lost (run ++ cs ∷ []) ++ listened C arrived false (suc n) (upto C lost (run ++ cs ∷ [])) css)).1
            ≡ all_given C room (picked (item_size C room) (unbroken arrived (suc n) from (from + length (flat C (run ++ cs ∷ []))) ms) 0 is)
            → (does C room free (listened C arrived true (suc n) lost css)).1
            ≡ all_given C room (picked (item_size C room) (unbroken arrived (suc n) (to + length cs) (to + length cs + 0) ms) 0 is)
            → (does C room free (heard C lost run ++ heeding C x told o f (λ told' g. listened C arrived told' (suc n) g css))).1
            ≡ all_given C room (picked (item_size C room) (λ a b. cond x (unbroken arrived (suc n) from (to + length cs) ms a b)
            (inside from to a b || unbroken arrived (suc n) (to + length cs) (to + length cs) ms a b)) 0 is)
        go true told t on new =
            let far : from + length (flat C (run ++ cs ∷ [])) ≡ to + length cs = omega (arith, ap length (flat_snoc C run cs), length-append (flat C run) cs) in
            ap (λ l. (does C room free l).1)
            (sym (append_assoc (heard C lost run) o.1 (listened C arrived false (suc n) o.0 css))
            ∙ ap₂ (λ (x : List (Event C)) (g : Frame C). x ++ listened C arrived false (suc n) g css) (sym (heard_snoc C lost run cs)) (sym (upto_snoc C lost run cs)))
            ∙ on ∙ ap (λ (k : ℕ). all_given C room (picked (item_size C room) (unbroken arrived (suc n) from k ms) 0 is)) far
        go false true t on new =
            subst⁻¹ (λ r. (does C room free (heard C lost r ++ listened C arrived true (suc n) (upto C lost r) css)).1
            ≡ (does C room free (heard C lost r)).1 ++ (does C room free (listened C arrived true (suc n) lost css)).1) t refl
            ∙ two new
        go false false t on new =
            ap (λ (d : Does C room). d.1) (does_append C room free (heard C lost run) (gap ∷ listened C arrived true (suc n) lost css) (does C room free (heard C lost run)) refl)
            ∙ two new
