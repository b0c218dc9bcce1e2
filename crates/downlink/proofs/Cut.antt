-- A stretch of a stream of EPs: from the first EP that begins in it, it is the EPs wholly within, and the start of one more.
-- Assumes nothing.
use Prim.Native.Nat.{ℕ, zero, suc, ◌+◌, ◌-◌, ◌≤◌, ◌<◌}
use mathlib.Core.Path.{◌≡◌, refl, sym, ap, ◌∙◌, subst⁻¹}
use mathlib.Core.List.{List, [], ◌∷◌, ◌++◌, append_assoc, append-nil}
use native.Mathlib.Omega.{arith}
use native.Mathlib.Decide.{dec_le}
use lib.ListN.{length, drop, take, length-append, length-take, take-append-drop}
use lib.Seq.{take-nil, drop-nil, take-append-le, take-append-add}
use Rattle.std.specs.Prelude.{Option, None, Some}
use Rattle.downlink.proofs.plain.Frame.{Code, Frame, lost, idle, head, body, Event, fed, Out, whole, events}
use Rattle.downlink.proofs.Within as I
use Rattle.downlink.proofs.Within.{kept, too_early, too_late, beyond}
use Rattle.downlink.proofs.Window.{Cell, bytes, from_mark, Tracks, tracks_left, flat, heard, heard_lost}
use Rattle.downlink.proofs.Trains.{Ep, plain, cells, stream, feeds, entering, bytes_plain, run_append, then, enter, run_head, tracks_ep, tracks_stream, ep_events, run_stream}

module _ (C : Code) where
  abbrev pub ep_size : Ep C → ℕ
  ep_size e = length (cells C e)

  -- the start of an EP: nothing yet, or its header and some of its data
  abbrev pub opening : Option (C.H × List C.B) → List (Event C)
  opening None = []
  opening (Some (h, d)) = entering C h (feeds C d)

  bytes_take : (n : ℕ) (cs : List (Cell C)) → bytes C (take n cs) ≡ take n (bytes C cs)
  bytes_take zero cs = refl
  bytes_take (suc n) [] = refl
  bytes_take (suc n) (c ∷ cs) = ap (λ l. c.1 ∷ l) (bytes_take n cs)

  quiet_head : (k : ℕ) (hs xs : List C.B) → length xs ≤ k → events C (head k hs) xs ≡ []
  quiet_head k hs [] p = refl
  quiet_head zero hs (x ∷ xs) p = absurd (omega arith)
  quiet_head (suc k) hs (x ∷ xs) p = quiet_head k (hs ++ x ∷ []) xs (omega arith)

  short_body : (h : C.H) (k : ℕ) (xs : List C.B) → length xs ≤ k → events C (body h k) xs ≡ feeds C xs
  short_body h k [] p = refl
  short_body h zero (x ∷ xs) p = absurd (omega arith)
  short_body h (suc k) (x ∷ xs) p = ap (λ l. fed x ∷ l) (short_body h k xs (omega arith))

  short_enter : (h : C.H) (n : ℕ) (xs : List C.B) → length xs < n → (then C (enter C h n) xs).1 ≡ entering C h (feeds C xs)
  short_enter h zero xs p = absurd (omega arith)
  short_enter h (suc k) xs p = ap (entering C h) (short_body h k xs (omega arith))

  length_plain : (bs : List C.B) → length (plain C bs) ≡ length bs
  length_plain [] = refl
  length_plain (b ∷ bs) = ap suc (length_plain bs)

  ep_length : (e : Ep C) → ep_size e ≡ 6 + length e.load
  ep_length e = omega (arith, length_plain (e.more ++ e.load), length-append e.more e.load, e.six)

  stub_bytes : (e : Ep C) (n : ℕ) → n < 6 + length e.load
      → (o : Option (C.H × List C.B)) × (events C idle (take n (e.first ∷ e.more ++ e.load)) ≡ opening o)
  stub_bytes e zero p = (None, refl)
  stub_bytes e (suc m) p = go (dec_le 5 m)
    where
      s : Frame C
      s = head 4 (e.first ∷ [])

      go : Dec (5 ≤ m) → (o : Option (C.H × List C.B)) × (events C s (take m (e.more ++ e.load)) ≡ opening o)
      go (yes q) =
          let split : m ≡ length e.more + (m - 5) = omega (arith, e.six) in (
            Some (e.h, take (m - 5) e.load),
            ap (events C s) (ap (λ n. take n (e.more ++ e.load)) split ∙ take-append-add e.more e.load (m - 5))
                ∙ ap (λ (o : Out C). o.1) (run_append C s e.more (take (m - 5) e.load)
                ∙ ap (λ (o : Out C). then C o (take (m - 5) e.load)) (run_head C 4 (e.first ∷ []) e.more e.six ∙ ap (whole C) e.reads))
                ∙ short_enter e.h (C.size e.h) (take (m - 5) e.load) (omega (arith, length-take (m - 5) e.load, e.sized)),
          )
      go (no q) = (
        None,
        ap (events C s) (take-append-le m e.more e.load (omega (arith, e.six)))
            ∙ quiet_head 4 (e.first ∷ []) (take m e.more) (omega (arith, length-take m e.more)),
      )

  -- no EP begins inside one
  unmarked : (n j : ℕ) (bs : List C.B) → from_mark C (drop j (take n (plain C bs))) ≡ []
  unmarked zero j bs = ap (from_mark C) (drop-nil j)
  unmarked (suc n) zero [] = refl
  unmarked (suc n) zero (b ∷ bs) = unmarked n zero bs
  unmarked (suc n) (suc j) [] = refl
  unmarked (suc n) (suc j) (b ∷ bs) = unmarked n j bs

  past_plain : (j : ℕ) (bs : List C.B) (w : List (Cell C))
      → from_mark C (drop j (plain C bs ++ w)) ≡ from_mark C (drop (j - length (plain C bs)) w)
  past_plain j [] w = let e : j ≡ j - 0 = omega arith in ap (λ n. from_mark C (drop n w)) e
  past_plain zero (b ∷ bs) w =
      let e : 0 - length (plain C bs) ≡ 0 - suc (length (plain C bs)) = omega arith in
      past_plain zero bs w ∙ ap (λ n. from_mark C (drop n w)) e
  past_plain (suc j) (b ∷ bs) w =
      let e : j - length (plain C bs) ≡ suc j - suc (length (plain C bs)) = omega arith in
      past_plain j bs w ∙ ap (λ n. from_mark C (drop n w)) e

  begins : (n : ℕ) (es : List (Ep C)) → from_mark C (take n (stream C es)) ≡ take n (stream C es)
  begins zero es = refl
  begins (suc n) [] = refl
  begins (suc n) (e ∷ es) = refl

  begins_ep : (n : ℕ) (e : Ep C) → from_mark C (take n (cells C e)) ≡ take n (cells C e)
  begins_ep zero e = refl
  begins_ep (suc n) e = refl

  unmarked_ep : (n j : ℕ) (e : Ep C) → from_mark C (drop (suc j) (take n (cells C e))) ≡ []
  unmarked_ep zero j e = refl
  unmarked_ep (suc n) j e = unmarked n j (e.more ++ e.load)

  idle_steady : Tracks C idle []
  idle_steady e = let z : ◌≡◌ {A = ℕ} 0 1 = cc in omega arith

  pub record Cut (w : List (Cell C)) (es : List (Ep C)) : Type 0 where
    pub tail : List (Cell C)
    pub whole_then : from_mark C w ≡ stream C es ++ tail
    pub header : Option (C.H × List C.B)
    pub stub : events C idle (bytes C tail) ≡ opening header
    pub steady : Tracks C idle tail

  move : {w w' : List (Cell C)} {es es' : List (Ep C)} → from_mark C w ≡ from_mark C w' → es ≡ es' → Cut w' es' → Cut w es
  move p q r =
      record { tail = r.tail; whole_then = p ∙ r.whole_then ∙ ap (λ l. stream C l ++ r.tail) (sym q); header = r.header; stub = r.stub; steady = r.steady }

  pub cut : (from to at : ℕ) (es : List (Ep C)) → Cut (drop (from - at) (take (to - at) (stream C es))) (I.within ep_size from to at es)
  cut from to at [] =
      record { tail = []; whole_then = ap (λ l. from_mark C (drop (from - at) l)) (take-nil (to - at)) ∙ ap (from_mark C) (drop-nil (from - at)); header = None; stub = refl; steady = idle_steady }
  cut from to at (e ∷ es) = go (dec_le (at + ep_size e) to) (dec_le from at) (cut from to (at + ep_size e) es)
    where
      S : List (Cell C)
      S = stream C es

      W : List (Cell C)
      W = take (to - (at + ep_size e)) S

      long : at + ep_size e ≤ to → take (to - at) (cells C e ++ S) ≡ cells C e ++ W
      long p =
          let split : to - at ≡ ep_size e + (to - (at + ep_size e)) = omega arith in
          ap (λ n. take n (cells C e ++ S)) split ∙ take-append-add (cells C e) S (to - (at + ep_size e))

      short : ¬ (at + ep_size e ≤ to) → take (to - at) (cells C e ++ S) ≡ take (to - at) (cells C e)
      short p = take-append-le (to - at) (cells C e) S (omega arith)

      nothing : ¬ (at + ep_size e ≤ to) → I.within ep_size from to at (e ∷ es) ≡ []
      nothing p = too_late ep_size from to at e es (omega arith) ∙ beyond ep_size from to (at + ep_size e) es (omega arith)

      now : {l l' : List (Cell C)} → from ≤ at → l ≡ l' → drop (from - at) l ≡ l'
      now {l} q h = let z : from - at ≡ 0 = omega arith in ap (λ n. drop n l) z ∙ h

      go : Dec (at + ep_size e ≤ to) → Dec (from ≤ at)
          → Cut (drop (from - (at + ep_size e)) W) (I.within ep_size from to (at + ep_size e) es)
          → Cut (drop (from - at) (take (to - at) (cells C e ++ S))) (I.within ep_size from to at (e ∷ es))
      go (yes p) (yes q) r =
          let z : 0 ≡ from - (at + ep_size e) = omega arith in
          let W_is : W ≡ stream C (I.within ep_size from to (at + ep_size e) es) ++ r.tail =
          sym (begins (to - (at + ep_size e)) es) ∙ ap (λ n. from_mark C (drop n W)) z ∙ r.whole_then in
          move {w' = cells C e ++ W} (ap (from_mark C) (now q (long p))) (kept ep_size from to at e es q p)
          (record { tail = r.tail; whole_then = ap (λ l. cells C e ++ l) W_is ∙ sym (append_assoc (cells C e) (stream C (I.within ep_size from to (at + ep_size e) es)) r.tail); header = r.header; stub = r.stub; steady = r.steady })
      go (yes p) (no q) r =
          let j : ℕ = from - at - 1 in
          let j_is : from - at ≡ suc j = omega arith in
          let k_is : j - length (plain C (e.more ++ e.load)) ≡ from - (at + ep_size e) = omega arith in
          move (ap (λ l. from_mark C (drop (from - at) l)) (long p) ∙ ap (λ n. from_mark C (drop n (cells C e ++ W))) j_is
          ∙ past_plain j (e.more ++ e.load) W ∙ ap (λ n. from_mark C (drop n W)) k_is)
          (too_early ep_size from to at e es (omega arith)) r
      go (no p) (yes q) r =
          let st = stub_bytes e (to - at) (omega (arith, ep_length e)) in
          record {
            tail = take (to - at) (cells C e);
            whole_then = ap (from_mark C) (now q (short p)) ∙ begins_ep (to - at) e ∙ ap (λ l. stream C l ++ take (to - at) (cells C e)) (sym (nothing p));
            header = st.0;
            stub = ap (events C idle) (bytes_take (to - at) (cells C e) ∙ ap (λ l. take (to - at) (e.first ∷ l)) (bytes_plain C (e.more ++ e.load))) ∙ st.1;
            steady = tracks_left C idle (take (to - at) (cells C e)) (drop (to - at) (cells C e))
                (subst⁻¹ (Tracks C idle) (take-append-drop (to - at) (cells C e) ∙ sym (append-nil (cells C e))) (tracks_ep C e [] idle_steady));
          }
      go (no p) (no q) r =
          let j : ℕ = from - at - 1 in
          let j_is : from - at ≡ suc j = omega arith in
          move {w' = []} {es' = []} (ap (λ l. from_mark C (drop (from - at) l)) (short p) ∙ ap (λ n. from_mark C (drop n (take (to - at) (cells C e)))) j_is
          ∙ unmarked_ep (to - at) j e) (nothing p)
          (record { tail = []; whole_then = refl; header = None; stub = refl; steady = idle_steady })

  -- the TPs that carry a stretch of a stream, read out of step: the EPs wholly within, and perhaps one more header
  pub heard_window : (css : List (List (Cell C))) (es : List (Ep C)) (from to : ℕ) → flat C css ≡ drop from (take to (stream C es))
      → (o : Option (C.H × List C.B)) × (heard C lost css ≡ ep_events C (I.within ep_size from to 0 es) ++ opening o)
  heard_window css es from to e =
      let from0 : from ≡ from - 0 = omega arith in
      let to0 : to ≡ to - 0 = omega arith in
      let c = cut from to 0 es in
      let ws : List (Ep C) = I.within ep_size from to 0 es in
      let shape : from_mark C (flat C css) ≡ stream C ws ++ c.tail =
      ap (from_mark C) (e ∙ ap (λ n. drop n (take to (stream C es))) from0 ∙ ap (λ n. drop (from - 0) (take n (stream C es))) to0) ∙ c.whole_then in (
        c.header,
        heard_lost C css (subst⁻¹ (Tracks C idle) shape (tracks_stream C ws c.tail c.steady))
            ∙ ap (λ l. events C idle (bytes C l)) shape ∙ run_stream C ws c.tail ∙ ap (λ l. ep_events C ws ++ l) c.stub,
      )
