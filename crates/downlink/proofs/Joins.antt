-- Reassembly of what one EP brings: its header and data give at most notices, and its end the packet. Assumes nothing.
use Prim.Native.Nat.{ℕ, ◌+◌}
use mathlib.Core.Path.{◌≡◌, refl, sym, ap, ◌∙◌}
use mathlib.Core.Bool.{Bool, true, false, cond}
use mathlib.Core.List.{List, [], ◌∷◌, ◌++◌, append_assoc, append-nil}
use lib.Dec.{leb, eqb}
use lib.ListN.{length}
use Rattle.std.specs.Prelude.{Option, None, Some}
use Rattle.receiver.specs.declared.kind.Kind.{Kind}
use Rattle.receiver.specs.declared.kind.Kind.TheVariants.{Fill, Reserved, Complete, First, Middle, Last}
use Rattle.downlink.proofs.plain.Frame.{Code, Event, entered, closed}
use Rattle.downlink.proofs.plain.Join.{Finding, notice, low, ordinary, Held, free, held, Took, broken, goes_on, meets, finish, fits, further, admit, grown, take_in, holding, listed, finds}
use Rattle.downlink.proofs.Trains.{Ep, feeds, entering, ep_event, ep_events}
use Rattle.downlink.proofs.Cut.{opening}

module _ (C : Code) where
  -- a packet handed out: its content and its bytes
  abbrev pub Hand : Type 0
  Hand = ℕ × List C.B

  abbrev pub packets : List (Finding C) → List Hand
  packets [] = []
  packets (notice n ∷ fs) = packets fs
  packets (low t d ∷ fs) = packets fs
  packets (ordinary t d ∷ fs) = (C.sort t, d) ∷ packets fs

  pub packets_append : (xs ys : List (Finding C)) → packets (xs ++ ys) ≡ packets xs ++ packets ys
  packets_append [] ys = refl
  packets_append (notice n ∷ xs) ys = packets_append xs ys
  packets_append (low t d ∷ xs) ys = packets_append xs ys
  packets_append (ordinary t d ∷ xs) ys = ap (λ l. (C.sort t, d) ∷ l) (packets_append xs ys)

  abbrev pub joined : Held C → List C.B → Held C
  joined free d = free
  joined (held c d₀) d = held c (d₀ ++ d)

  joined_none : (s : Held C) → s ≡ joined s []
  joined_none free = refl
  joined_none (held c d) = ap (held c) (sym (append-nil d))

  joined_more : (s : Held C) (b : C.B) (d : List C.B) → joined (grown C s b) d ≡ joined s (b ∷ d)
  joined_more free b d = refl
  joined_more (held c d₀) b d = ap (held c) (append_assoc d₀ (b ∷ []) d)

module _ (C : Code) (room : ℕ) where
  pub holding_append : (s : Held C) (xs ys : List (Event C)) → holding C room s (xs ++ ys) ≡ holding C room (holding C room s xs) ys
  holding_append s [] ys = refl
  holding_append s (x ∷ xs) ys = holding_append (take_in C room s x).0 xs ys

  pub finds_append : (s : Held C) (xs ys : List (Event C))
      → finds C room s (xs ++ ys) ≡ finds C room s xs ++ finds C room (holding C room s xs) ys
  finds_append s [] ys = refl
  finds_append s (x ∷ xs) ys =
      ap (λ l. listed C (take_in C room s x).1 ++ l) (finds_append (take_in C room s x).0 xs ys)
      ∙ sym (append_assoc (listed C (take_in C room s x).1) (finds C room (take_in C room s x).0 xs) (finds C room (holding C room (take_in C room s x).0 xs) ys))

  -- what events do to reassembly: what is held after them, and the packets handed out
  abbrev pub Does : Type 0
  Does = Held C × List (Hand C)

  abbrev pub does : Held C → List (Event C) → Does
  does s es = (holding C room s es, packets C (finds C room s es))

  abbrev pub and_then : Does → List (Event C) → Does
  and_then d ys = ((does d.0 ys).0, d.1 ++ (does d.0 ys).1)

  pub does_append : (s : Held C) (xs ys : List (Event C)) (d : Does) → does s xs ≡ d → does s (xs ++ ys) ≡ and_then d ys
  does_append s xs ys d e =
      rw (holding_append s xs ys, finds_append s xs ys, packets_append C (finds C room s xs) (finds C room (holding C room s xs) ys))
      (ap (λ (d : Does). and_then d ys) e)

  -- ---- the events of one EP

  goes_quiet : (s : Held C) (c : ℕ) → packets C (listed C (goes_on C s c).1) ≡ []
  goes_quiet free c = refl
  goes_quiet (held t₀ d) c = go (eqb (C.sort t₀) c)
    where
      go : (t : Bool) → packets C (listed C (cond {A = Took C} t (held t₀ d, None) (free, Some (notice 14))).1) ≡ []
      go true = refl
      go false = refl

  broken_quiet : (s : Held C) → packets C (listed C (broken C s).1) ≡ []
  broken_quiet free = refl
  broken_quiet (held c d) = refl

  meets_quiet : (k : Kind) (s : Held C) (c : ℕ) → packets C (listed C (meets C k s c).1) ≡ []
  meets_quiet Fill s c = broken_quiet s
  meets_quiet Reserved s c = broken_quiet s
  meets_quiet Complete s c = broken_quiet s
  meets_quiet First s c = broken_quiet s
  meets_quiet Middle s c = goes_quiet s c
  meets_quiet Last s c = goes_quiet s c

  fits_quiet : (n : ℕ) (t : C.T) (d : List C.B) → packets C (listed C (fits C room n t d).1) ≡ []
  fits_quiet n t d = go (leb (length d + n) room)
    where
      go : (b : Bool) → packets C (listed C (cond {A = Took C} b (held t d, None) (free, Some (notice 15))).1) ≡ []
      go true = refl
      go false = refl

  further_quiet : (h : C.H) (s : Held C) → packets C (listed C (further C room h s).1) ≡ []
  further_quiet h free = refl
  further_quiet h (held t d) = fits_quiet (C.size h) (C.join t h) d

  admit_quiet : (k : Kind) (h : C.H) (s : Held C) → packets C (listed C (admit C room k h s).1) ≡ []
  admit_quiet Fill h s = refl
  admit_quiet Reserved h s = refl
  admit_quiet Complete h s = fits_quiet (C.size h) (C.begin h) []
  admit_quiet First h s = fits_quiet (C.size h) (C.begin h) []
  admit_quiet Middle h s = further_quiet h s
  admit_quiet Last h s = further_quiet h s

  abbrev pub inside : Kind → Held C → C.H → Held C
  inside k s h = (admit C room k h (meets C k s (C.content h)).0).0

  quietly : (t : Took C) (es : List (Event C)) → packets C (listed C t.1) ≡ []
      → ◌≡◌ {A = Does} (holding C room t.0 es, packets C (listed C t.1 ++ finds C room t.0 es)) (does t.0 es)
  quietly t es q =
      ap (λ (l : List (Hand C)). (holding C room t.0 es, l))
      (packets_append C (listed C t.1) (finds C room t.0 es) ∙ ap (λ l. l ++ packets C (finds C room t.0 es)) q)

  does_entering : (s : Held C) (h : C.H) (es : List (Event C)) → does s (entering C h es) ≡ does (inside (C.kind h) s h) es
  does_entering s h es =
      let k = C.kind h in
      let t : Took C = meets C k s (C.content h) in
      quietly t (entered h ∷ es) (meets_quiet k s (C.content h))
      ∙ quietly (admit C room k h t.0) es (admit_quiet k h t.0)

  does_feeds : (s : Held C) (d : List C.B) (es : List (Event C)) → does s (feeds C d ++ es) ≡ does (joined C s d) es
  does_feeds s [] es = ap (λ t. does t es) (joined_none C s)
  does_feeds s (b ∷ d) es = does_feeds (grown C s b) d es ∙ ap (λ t. does t es) (joined_more C s b d)

  abbrev pub ended : Kind → Held C → Does
  ended k s = ((finish C k s).0, packets C (listed C (finish C k s).1))

  abbrev pub one : Kind → Held C → Ep C → Does
  one k s e = ended k (joined C (inside k s e.h) e.load)

  does_one : (k : Kind) (s : Held C) (e : Ep C) → C.kind e.h ≡ k → does s (ep_event C e) ≡ one k s e
  does_one k s e q =
      let s' : Held C = joined C (inside (C.kind e.h) s e.h) e.load in
      does_entering s e.h (feeds C e.load ++ closed e.h ∷ [])
      ∙ does_feeds (inside (C.kind e.h) s e.h) e.load (closed e.h ∷ [])
      ∙ ap (λ l. ((finish C (C.kind e.h) s').0, packets C l)) (append-nil (listed C (finish C (C.kind e.h) s').1))
      ∙ ap (λ k. one k s e) q

  pub does_cons : (k : Kind) (s : Held C) (e : Ep C) (es : List (Ep C)) (d : Does) → C.kind e.h ≡ k → one k s e ≡ d
      → does s (ep_events C (e ∷ es)) ≡ and_then d (ep_events C es)
  does_cons k s e es d q r = does_append s (ep_event C e) (ep_events C es) d (does_one k s e q ∙ r)

  pub opening_quiet : (s : Held C) (o : Option (C.H × List C.B)) → (does s (opening C o)).1 ≡ []
  opening_quiet s None = refl
  opening_quiet s (Some (h, d)) =
      ap (λ (x : Does). x.1) (does_entering s h (feeds C d) ∙ ap (does (inside (C.kind h) s h)) (sym (append-nil (feeds C d))) ∙ does_feeds (inside (C.kind h) s h) d [])
