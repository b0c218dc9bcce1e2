-- A stream of readable EPs: what reading it brings to light, and that reading from between two EPs stays in step with it.
-- Assumes nothing.
use Prim.Native.Nat.{ℕ, zero, suc}
use mathlib.Core.Path.{◌≡◌, refl, sym, ap, ◌∙◌, subst⁻¹}
use mathlib.Core.Bool.{true, false}
use mathlib.Core.List.{List, [], ◌∷◌, ◌++◌, append_assoc, append-nil}
use native.Mathlib.Omega.{arith}
use lib.ListN.{length}
use Rattle.std.specs.Prelude.{Some}
use Rattle.downlink.proofs.plain.Frame.{Code, Frame, idle, head, body, Event, opened, entered, fed, closed, Out, within, ending, whole, after, events}
use Rattle.downlink.proofs.Window.{Cell, bytes, run, bytes_append, after_append, events_append, Tracks}

module _ (C : Code) where
  -- an EP as it arrives: its header's six bytes C, which read as `h`, and as many data bytes C as that says
  pub record Ep : Type 0 where
    pub h : C.H
    pub first : C.B
    pub more : List C.B
    pub load : List C.B
    pub six : length more ≡ 5
    pub reads : C.decode (first ∷ more) ≡ Some h
    pub sized : length load ≡ C.size h

  abbrev pub plain : List C.B → List (Cell C)
  plain [] = []
  plain (b ∷ bs) = (false, b) ∷ plain bs

  abbrev pub cells : Ep → List (Cell C)
  cells e = (true, e.first) ∷ plain (e.more ++ e.load)

  abbrev pub stream : List Ep → List (Cell C)
  stream [] = []
  stream (e ∷ es) = cells e ++ stream es

  pub bytes_plain : (bs : List C.B) → bytes C (plain bs) ≡ bs
  bytes_plain [] = refl
  bytes_plain (b ∷ bs) = ap (λ l. b ∷ l) (bytes_plain bs)

  pub plain_append : (xs ys : List C.B) → plain (xs ++ ys) ≡ plain xs ++ plain ys
  plain_append [] ys = refl
  plain_append (x ∷ xs) ys = ap (λ l. (false, x) ∷ l) (plain_append xs ys)

  -- the events of so many data bytes C
  abbrev pub feeds : List C.B → List (Event C)
  feeds [] = []
  feeds (b ∷ bs) = fed b ∷ feeds bs

  abbrev pub entering : C.H → List (Event C) → List (Event C)
  entering h es = opened h ∷ entered h ∷ es

  pub run_head : (k : ℕ) (hs xs : List C.B) → length xs ≡ suc k → run C (head k hs) xs ≡ whole C (C.decode (hs ++ xs))
  run_head k hs [] e = absurd (omega arith)
  run_head zero hs (x ∷ []) e = rw append-nil
  run_head zero hs (x ∷ y ∷ xs) e = absurd (omega arith)
  run_head (suc k) hs (x ∷ xs) e = rw append_assoc at (run_head k (hs ++ x ∷ []) xs (omega arith))

  pub run_body : (h : C.H) (k : ℕ) (xs : List C.B) → length xs ≡ suc k → run C (body h k) xs ≡ (idle, feeds xs ++ closed h ∷ [])
  run_body h k [] e = absurd (omega arith)
  run_body h zero (x ∷ []) e = refl
  run_body h zero (x ∷ y ∷ xs) e = absurd (omega arith)
  run_body h (suc k) (x ∷ xs) e = ap (λ (o : Out C). (o.0, fed x ∷ o.1)) (run_body h k xs (omega arith))

  abbrev pub then : Out C → List C.B → Out C
  then o bs = (after C o.0 bs, o.1 ++ events C o.0 bs)

  pub run_append : (s : Frame C) (xs ys : List C.B) → run C s (xs ++ ys) ≡ then (run C s xs) ys
  run_append s xs ys = rw (after_append C, events_append C)

  abbrev pub enter : C.H → ℕ → Out C
  enter h n = (within C h n, entering h (ending C h n))

  enter_load : (h : C.H) (n : ℕ) (ds : List C.B) → length ds ≡ n → then (enter h n) ds ≡ (idle, entering h (feeds ds ++ closed h ∷ []))
  enter_load h zero [] e = refl
  enter_load h zero (d ∷ ds) e = absurd (omega arith)
  enter_load h (suc k) ds e = ap (λ (o : Out C). (o.0, entering h o.1)) (run_body h k ds e)

  abbrev pub ep_event : Ep → List (Event C)
  ep_event e = entering e.h (feeds e.load ++ closed e.h ∷ [])

  run_ep : (e : Ep) → run C idle (bytes C (cells e)) ≡ (idle, ep_event e)
  run_ep e =
      ap (run C (head 4 (e.first ∷ []))) (bytes_plain (e.more ++ e.load))
      ∙ run_append (head 4 (e.first ∷ [])) e.more e.load
      ∙ ap (λ (o : Out C). then o e.load) (run_head 4 (e.first ∷ []) e.more e.six ∙ ap (whole C) e.reads)
      ∙ enter_load e.h (C.size e.h) e.load e.sized

  tracks_body : (h : C.H) (k : ℕ) (xs : List C.B) (cs : List (Cell C)) → length xs ≡ suc k
      → Tracks C idle cs → Tracks C (body h k) (plain xs ++ cs)
  tracks_body h k [] cs e t = absurd (omega arith)
  tracks_body h zero (x ∷ []) cs e t = (refl, t)
  tracks_body h zero (x ∷ y ∷ xs) cs e t = absurd (omega arith)
  tracks_body h (suc k) (x ∷ xs) cs e t = (refl, tracks_body h k xs cs (omega arith) t)

  tracks_head : (k : ℕ) (hs xs : List C.B) (cs : List (Cell C)) → length xs ≡ suc k
      → Tracks C (after C (head k hs) xs) cs → Tracks C (head k hs) (plain xs ++ cs)
  tracks_head k hs [] cs e t = absurd (omega arith)
  tracks_head zero hs (x ∷ []) cs e t = (refl, t)
  tracks_head zero hs (x ∷ y ∷ xs) cs e t = absurd (omega arith)
  tracks_head (suc k) hs (x ∷ xs) cs e t = (refl, tracks_head k (hs ++ x ∷ []) xs cs (omega arith) t)

  tracks_within : (h : C.H) (n : ℕ) (ds : List C.B) (cs : List (Cell C)) → length ds ≡ n
      → Tracks C idle cs → Tracks C (within C h n) (plain ds ++ cs)
  tracks_within h zero [] cs e t = t
  tracks_within h zero (d ∷ ds) cs e t = absurd (omega arith)
  tracks_within h (suc k) ds cs e t = tracks_body h k ds cs e t

  pub tracks_ep : (e : Ep) (cs : List (Cell C)) → Tracks C idle cs → Tracks C idle (cells e ++ cs)
  tracks_ep e cs t =
      let s : Frame C = head 4 (e.first ∷ []) in
      let r = ap (λ (o : Out C). o.0) (run_head 4 (e.first ∷ []) e.more e.six ∙ ap (whole C) e.reads) in
      let split = ap (λ l. l ++ cs) (plain_append e.more e.load) ∙ append_assoc (plain e.more) (plain e.load) cs in (
        refl,
        subst⁻¹ (Tracks C s) split (tracks_head 4 (e.first ∷ []) e.more (plain e.load ++ cs) e.six
            (subst⁻¹ (λ f. Tracks C f (plain e.load ++ cs)) r (tracks_within e.h (C.size e.h) e.load cs e.sized t))),
      )

  pub tracks_stream : (es : List Ep) (cs : List (Cell C)) → Tracks C idle cs → Tracks C idle (stream es ++ cs)
  tracks_stream [] cs t = t
  tracks_stream (e ∷ es) cs t = subst⁻¹ (Tracks C idle) (append_assoc (cells e) (stream es) cs) (tracks_ep e (stream es ++ cs) (tracks_stream es cs t))

  abbrev pub ep_events : List Ep → List (Event C)
  ep_events [] = []
  ep_events (e ∷ es) = ep_event e ++ ep_events es

  pub run_stream : (es : List Ep) (cs : List (Cell C)) → events C idle (bytes C (stream es ++ cs)) ≡ ep_events es ++ events C idle (bytes C cs)
  run_stream [] cs = refl
  run_stream (e ∷ es) cs =
      ap (events C idle) (ap (bytes C) (append_assoc (cells e) (stream es) cs) ∙ bytes_append C (cells e) (stream es ++ cs))
      ∙ events_append C idle (bytes C (cells e)) (bytes C (stream es ++ cs))
      ∙ ap (λ (o : Out C). (then o (bytes C (stream es ++ cs))).1) (run_ep e)
      ∙ ap (λ l. ep_event e ++ l) (run_stream es cs)
      ∙ sym (append_assoc (ep_event e) (ep_events es) (events C idle (bytes C cs)))
