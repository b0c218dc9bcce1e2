-- The source packets that a stretch of a stream of EPs hands out: those wholly within it. THE WINDOW LEMMA: `window`.
-- Assumes nothing.
use Prim.Native.Nat.{ℕ, ◌+◌, ◌≤◌, ◌<◌}
use mathlib.Core.Path.{◌≡◌, refl, sym, ap, ◌∙◌, subst⁻¹}
use mathlib.Core.Bool.{Bool, true, false, ◌&&◌}
use mathlib.Core.List.{List, [], ◌∷◌, ◌++◌, append_assoc, append-nil}
use native.Mathlib.Omega.{arith}
use native.Mathlib.Decide.{dec_le}
use lib.Dec.{leb}
use lib.ListN.{length, drop, take, length-append}
use borrow.Author.Tests.{le-leb, eq-eqb}
use Rattle.std.specs.Prelude.{Option, None}
use Rattle.receiver.specs.declared.kind.Kind.TheVariants.{Fill, Complete, First, Middle, Last}
use Rattle.downlink.proofs.plain.Frame.{Code, lost, Event}
use Rattle.downlink.proofs.plain.Join.{Held, free, held, Took, goes_on, fits, further, finds}
use Rattle.downlink.proofs.Within.{keep, within, total, kept, too_early, too_late, beyond, all_in, within_append}
use Rattle.downlink.proofs.Window.{Cell, flat, heard}
use Rattle.downlink.proofs.Trains.{Ep, stream, ep_event, ep_events}
use Rattle.downlink.proofs.Cut.{ep_size, opening, heard_window}
use Rattle.downlink.proofs.Joins.{Hand, packets, joined, Does, does, does_append, inside, ended, one, does_cons, opening_quiet}

module _ (C : Code) (room : ℕ) where
  -- ---- what the stream is made of

  -- fragments after the first, of content c, n bytes being held
  abbrev pub Rest : ℕ → ℕ → List (Ep C) → Type 0
  Rest c n [] = ⊥
  Rest c n (e ∷ []) = (C.kind e.h ≡ Last) × (c ≡ C.content e.h) × (n + C.size e.h ≤ room)
  Rest c n (e ∷ f ∷ es) =
      (C.kind e.h ≡ Middle) × (c ≡ C.content e.h) × (n + C.size e.h ≤ room) × Rest c (n + C.size e.h) (f ∷ es)

  -- fill, a source packet in one EP, or in several
  pub data Item : Type 0 where
    padding : (e : Ep C) → C.kind e.h ≡ Fill → Item
    single : (e : Ep C) → C.kind e.h ≡ Complete → C.size e.h ≤ room → Item
    series : (e : Ep C) → C.kind e.h ≡ First → C.size e.h ≤ room → (es : List (Ep C)) → Rest (C.content e.h) (C.size e.h) es → Item

  abbrev pub eps : Item → List (Ep C)
  eps (padding e k) = e ∷ []
  eps (single e k s) = e ∷ []
  eps (series e k s es r) = e ∷ es

  abbrev pub loads : List (Ep C) → List C.B
  loads [] = []
  loads (e ∷ es) = e.load ++ loads es

  abbrev pub given : Item → List (Hand C)
  given (padding e k) = []
  given (single e k s) = (C.content e.h, e.load) ∷ []
  given (series e k s es r) = (C.content e.h, e.load ++ loads es) ∷ []

  abbrev pub all_eps_lem : List Item → List (Ep C)
  all_eps_lem [] = []
  all_eps_lem (i ∷ is) = eps i ++ all_eps_lem is

  abbrev pub all_given : List Item → List (Hand C)
  all_given [] = []
  all_given (i ∷ is) = given i ++ all_given is

  abbrev pub item_size : Item → ℕ
  item_size i = total (ep_size C) (eps i)

  ep_events_append : (xs ys : List (Ep C)) → ep_events C (xs ++ ys) ≡ ep_events C xs ++ ep_events C ys
  ep_events_append [] ys = refl
  ep_events_append (e ∷ es) ys =
      ap (λ l. ep_event C e ++ l) (ep_events_append es ys) ∙ sym (append_assoc (ep_event C e) (ep_events C es) (ep_events C ys))

  module _ (from to : ℕ) where
    abbrev lie : ℕ → List (Ep C) → List (Event C)
    lie at es = ep_events C (within (ep_size C) from to at es)

    -- fragments whose first one was missed
    tail_free : (at c n : ℕ) (es : List (Ep C)) → Rest c n es → does C room free (lie at es) ≡ (free, [])
    tail_free at c n [] r = absurd r
    tail_free at c n (e ∷ []) r = go (leb from at && leb (at + ep_size C e) to)
      where
        go : (b : Bool) → does C room free (ep_events C (keep b e [])) ≡ (free, [])
        go true = does_cons C room Last free e [] (free, []) r.0 refl
        go false = refl
    tail_free at c n (e ∷ f ∷ es) r =
        go (leb from at && leb (at + ep_size C e) to) (tail_free (at + ep_size C e) c (n + C.size e.h) (f ∷ es) r.3)
      where
        ws : List (Ep C)
        ws = within (ep_size C) from to (at + ep_size C e) (f ∷ es)

        go : (b : Bool) → does C room free (ep_events C ws) ≡ (free, []) → does C room free (ep_events C (keep b e ws)) ≡ (free, [])
        go true ih = does_cons C room Middle free e ws (free, []) r.0 refl ∙ ih
        go false ih = ih

    -- fragments whose last one is not within
    front : (at : ℕ) (s : Held C) (c n : ℕ) (es : List (Ep C)) → Rest c n es → to < at + total (ep_size C) es
        → (does C room s (lie at es)).1 ≡ []
    front at s c n [] r p = absurd r
    front at s c n (e ∷ []) r p = ap (λ l. (does C room s (ep_events C l)).1) (too_late (ep_size C) from to at e [] (omega arith))
    front at s c n (e ∷ f ∷ es) r p =
        go (leb from at && leb (at + ep_size C e) to) (λ t. front (at + ep_size C e) t c (n + C.size e.h) (f ∷ es) r.3 (omega arith))
      where
        ws : List (Ep C)
        ws = within (ep_size C) from to (at + ep_size C e) (f ∷ es)

        go : (b : Bool) → ((t : Held C) → (does C room t (ep_events C ws)).1 ≡ []) → (does C room s (ep_events C (keep b e ws))).1 ≡ []
        go true ih = ap (λ (d : Does C room). d.1) (does_cons C room Middle s e ws (one C room Middle s e) r.0 refl) ∙ ih (one C room Middle s e).0
        go false ih = ih s

  fits_ok : (n : ℕ) (t : C.T) (d : List C.B) → length d + n ≤ room → fits C room n t d ≡ (held t d, None)
  fits_ok n t d p = rw (le-leb (length d + n) room p)

  goes_on_ok : (t : C.T) (c : ℕ) (d : List C.B) → C.sort t ≡ c → goes_on C (held t d) c ≡ (held t d, None)
  goes_on_ok t c d p = rw (eq-eqb (C.sort t) c p)

  inside_on : (t : C.T) (d : List C.B) (h : C.H) → C.sort t ≡ C.content h → length d + C.size h ≤ room
      → inside C room Middle (held t d) h ≡ held (C.join t h) d
  inside_on t d h p q =
      ap (λ (x : Took C). (further C room h x.0).0) (goes_on_ok t (C.content h) d p)
      ∙ ap (λ (x : Took C). x.0) (fits_ok (C.size h) (C.join t h) d q)

  -- nothing held, and one packet of this content
  abbrev gone : List C.B → ℕ → Does C room
  gone d c = (free, (c, d) ∷ [])

  rest_done : (t : C.T) (d : List C.B) (es : List (Ep C)) → Rest (C.sort t) (length d) es
      → does C room (held t d) (ep_events C es) ≡ gone (d ++ loads es) (C.sort t)
  rest_done t d [] r = absurd r
  rest_done t d (e ∷ []) r =
      does_cons C room Last (held t d) e [] (gone (d ++ e.load) (C.sort t)) r.0
      (ap (λ (s : Held C). ended C room Last (joined C s e.load)) (inside_on t d e.h r.1 r.2)
      ∙ ap (gone (d ++ e.load)) (C.join_sort t e.h))
      ∙ ap (λ l. gone (d ++ l) (C.sort t)) (sym (append-nil e.load))
  rest_done t d (e ∷ f ∷ es) r =
      let n_is : length (d ++ e.load) ≡ length d + C.size e.h = omega (arith, length-append d e.load, e.sized) in
      let same = C.join_sort t e.h in
      let u : C.T = C.join t e.h in
      does_cons C room Middle (held t d) e (f ∷ es) (held u (d ++ e.load), []) r.0
      (ap (λ (s : Held C). ended C room Middle (joined C s e.load)) (inside_on t d e.h r.1 r.2))
      ∙ rest_done u (d ++ e.load) (f ∷ es)
      (subst⁻¹ (λ n. Rest (C.sort u) n (f ∷ es)) n_is (subst⁻¹ (λ c. Rest c (length d + C.size e.h) (f ∷ es)) same r.3))
      ∙ ap (gone ((d ++ e.load) ++ loads (f ∷ es))) same
      ∙ ap (λ l. gone l (C.sort t)) (append_assoc d e.load (loads (f ∷ es)))

  item_whole : (i : Item) → does C room free (ep_events C (eps i)) ≡ (free, given i)
  item_whole (padding e k) = does_cons C room Fill free e [] (free, []) k refl
  item_whole (single e k s) =
      does_cons C room Complete free e [] (gone e.load (C.content e.h)) k
      (ap (λ (t : Took C). ended C room Complete (joined C t.0 e.load)) (fits_ok (C.size e.h) (C.begin e.h) [] (omega arith))
      ∙ ap (gone e.load) (C.begin_sort e.h))
  item_whole (series e k s es r) =
      let n_is : length e.load ≡ C.size e.h = e.sized in
      let same = C.begin_sort e.h in
      let t : C.T = C.begin e.h in
      does_cons C room First free e es (held t e.load, []) k
      (ap (λ (x : Took C). ended C room First (joined C x.0 e.load)) (fits_ok (C.size e.h) t [] (omega arith)))
      ∙ rest_done t e.load es (subst⁻¹ (λ n. Rest (C.sort t) n es) n_is (subst⁻¹ (λ c. Rest c (C.size e.h) es) same r))
      ∙ ap (gone (e.load ++ loads es)) same

  module _ (from to : ℕ) where
    item_late : (at : ℕ) (i : Item) → at < from → does C room free (lie from to at (eps i)) ≡ (free, [])
    item_late at (padding e k) p = ap (λ l. does C room free (ep_events C l)) (too_early (ep_size C) from to at e [] p)
    item_late at (single e k s) p = ap (λ l. does C room free (ep_events C l)) (too_early (ep_size C) from to at e [] p)
    item_late at (series e k s es r) p =
        ap (λ l. does C room free (ep_events C l)) (too_early (ep_size C) from to at e es p)
        ∙ tail_free from to (at + ep_size C e) (C.content e.h) (C.size e.h) es r

    item_front : (at : ℕ) (i : Item) → to < at + item_size i → (does C room free (lie from to at (eps i))).1 ≡ []
    item_front at (padding e k) p = ap (λ l. (does C room free (ep_events C l)).1) (too_late (ep_size C) from to at e [] (omega arith))
    item_front at (single e k s) p = ap (λ l. (does C room free (ep_events C l)).1) (too_late (ep_size C) from to at e [] (omega arith))
    item_front at (series e k s es r) p = go (leb from at && leb (at + ep_size C e) to)
      where
        ws : List (Ep C)
        ws = within (ep_size C) from to (at + ep_size C e) es

        ih : (t : Held C) → (does C room t (ep_events C ws)).1 ≡ []
        ih t = front from to (at + ep_size C e) t (C.content e.h) (C.size e.h) es r (omega arith)

        go : (b : Bool) → (does C room free (ep_events C (keep b e ws))).1 ≡ []
        go true = ap (λ (d : Does C room). d.1) (does_cons C room First free e ws (one C room First free e) k refl) ∙ ih (one C room First free e).0
        go false = ih free

    -- the packets of a stretch are those of the items wholly within it
    pub items_window : (at : ℕ) (is : List Item) (o : Option (C.H × List C.B))
        → packets C (finds C room free (ep_events C (within (ep_size C) from to at (all_eps_lem is)) ++ opening C o))
        ≡ all_given (within item_size from to at is)
    items_window at [] o = opening_quiet C room free o
    items_window at (i ∷ is) o = go (dec_le from at) (dec_le (at + item_size i) to) (items_window (at + item_size i) is o)
      where
        A : List (Event C)
        A = lie from to at (eps i)

        R : List (Event C)
        R = lie from to (at + item_size i) (all_eps_lem is) ++ opening C o

        split : lie from to at (eps i ++ all_eps_lem is) ++ opening C o ≡ A ++ R
        split =
            ap (λ l. ep_events C l ++ opening C o) (within_append (ep_size C) from to at (eps i) (all_eps_lem is))
            ∙ ap (λ l. l ++ opening C o) (ep_events_append (within (ep_size C) from to at (eps i)) (within (ep_size C) from to (at + item_size i) (all_eps_lem is)))
            ∙ append_assoc A (lie from to (at + item_size i) (all_eps_lem is)) (opening C o)

        goal : Type 0
        goal = (does C room free (lie from to at (eps i ++ all_eps_lem is) ++ opening C o)).1 ≡ all_given (within item_size from to at (i ∷ is))

        go : Dec (from ≤ at) → Dec (at + item_size i ≤ to) → (does C room free R).1 ≡ all_given (within item_size from to (at + item_size i) is) → goal
        go (yes p) (yes q) ih =
            ap (λ l. (does C room free l).1) split
            ∙ ap (λ (d : Does C room). d.1) (does_append C room free A R (free, given i) (ap (λ l. does C room free (ep_events C l)) (all_in (ep_size C) from to at (eps i) p q) ∙ item_whole i))
            ∙ ap (λ l. given i ++ l) ih
            ∙ ap all_given (sym (kept item_size from to at i is p q))
        go (yes p) (no q) ih =
            let A-is = item_front at i (omega arith) in
            let none_left = beyond (ep_size C) from to (at + item_size i) (all_eps_lem is) (omega arith) in
            ap (λ l. (does C room free l).1) split
            ∙ ap (λ (d : Does C room). d.1) (does_append C room free A R (does C room free A) refl)
            ∙ ap (λ l. l ++ (does C room (does C room free A).0 R).1) A-is
            ∙ ap (λ l. (does C room (does C room free A).0 (ep_events C l ++ opening C o)).1) none_left
            ∙ opening_quiet C room (does C room free A).0 o
            ∙ ap all_given (sym (too_late item_size from to at i is (omega arith) ∙ beyond item_size from to (at + item_size i) is (omega arith)))
        go (no p) q ih =
            ap (λ l. (does C room free l).1) split
            ∙ ap (λ (d : Does C room). d.1) (does_append C room free A R (free, []) (item_late at i (omega arith)))
            ∙ ih
            ∙ ap all_given (sym (too_early item_size from to at i is (omega arith)))

  -- LATE JOIN, AND ANY TOLD GAP: the TPs that carry the stretch [from, to) of a stream, read from out of step, hand out exactly the
  -- source packets begun at `from` or later whose last byte comes before `to`
  pub window : (is : List Item) (css : List (List (Cell C))) (from to : ℕ) → flat C css ≡ drop from (take to (stream C (all_eps_lem is)))
      → packets C (finds C room free (heard C lost css)) ≡ all_given (within item_size from to 0 is)
  window is css from to e =
      let w = heard_window C css (all_eps_lem is) from to e in
      ap (λ l. packets C (finds C room free l)) w.1 ∙ items_window from to 0 is w.0
