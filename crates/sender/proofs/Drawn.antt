-- Laws of the draw. Assumes nothing.
use Rattle.std.specs.Prelude.{Ok, Err}
use mathlib.Core.Path.{◌≡◌, refl, sym, ap, ◌∙◌}
use mathlib.Core.Bool.{Bool, true, false, cond, not}
use mathlib.Core.Logic.{⊎_elim}
use mathlib.Core.List.{List, [], ◌∷◌, ◌++◌, append_assoc, append-nil, flatten}
use Prim.Native.Nat.{ℕ, suc, ◌+◌, ◌-◌, ◌≤◌, ◌<◌, min}
use native.Mathlib.Omega.{arith}
use lib.Dec.{ltb, eqb}
use lib.ListN.{length, take, replicate, length-append}
use lib.Seq.{paste, take-length, length-take-le, drop_at}
use borrow.Author.Tests.{le-ltb, lt-ltb, eq-eqb}
use Rattle.queue.specs.declared.Ring.{Ring}
use Rattle.queue.specs.Ring.{copied, held, off, Kept}
use Rattle.queue.proofs.Copies.{copied_all, length_copied}
use Rattle.queue.proofs.Puts.{length_held}
use Rattle.queue.proofs.Takes.{wrapped, off_zero}
use Rattle.wire.specs.Wire.{tp_header}
use Rattle.wire.proofs.Laws.{tp_header_length}
use Rattle.sender.specs.declared.Setting.{Setting}
use Rattle.sender.specs.declared.Sender.{Sender}
use Rattle.sender.specs.declared.Refusal.{Refusal}
use Rattle.sender.specs.declared.Refusal.TheVariants.{Limits, Buffer}
use Rattle.sender.specs.Answers.{number, done, Left, refused, lent}
use Rattle.sender.specs.Opening.{Sound}
use Rattle.sender.specs.Drawing.{next, leave, none_leaves, present, part, fill, stream, owed_after, rest_after, offset, draw_with, draw_of, took, draw_by, overwritten, drew}
use Rattle.sender.specs.Steps.{checked, first_of, drawable, Parted, Filled, DrawnOver}
use Rattle.sender.proofs.Bools.{split}
use Rattle.sender.proofs.Heads.{low_few, next_is}
use Rattle.sender.proofs.Passing.{number_in, is_no}
use Rattle.sender.proofs.Stream.{rep_length, owed_least, owned_idle}

-- the flag: the part has bytes
some_tells : (es : List (List ℕ)) → ltb 0 (length (part es)) ≡ present es
unfolding part
some_tells [] = refl
some_tells (e ∷ es) = lt-ltb 0 (length (part (e ∷ es))) (some_bytes e (cond (present es) 0xFF 0x00) (part es))
  where
    some_bytes : (e : List ℕ) (x : ℕ) (r : List ℕ) → 0 < length (e ++ x ∷ r)
    some_bytes e x r = omega (arith, length-append e (x ∷ r))

more_than_four : (L : ℕ) → ltb 4 (4 + L) ≡ ltb 0 L
more_than_four L =
    ⊎_elim
    (λ z. le-ltb 4 (4 + L) (omega arith) ∙ sym (le-ltb 0 L z))
    (λ z. lt-ltb 4 (4 + L) (omega arith) ∙ sym (lt-ltb 0 L z))
    (split L 0)

pub offset_within : (low first r : ℕ) → first < r → low + first ≡ offset low first r
unfolding offset
offset_within low first r h = rw (lt-ltb first r h)

pub offset_none : (low first r : ℕ) → r ≤ first → 2047 ≡ offset low first r
unfolding offset
offset_none low first r h = rw (le-ltb first r h)

-- the header over the first four bytes
topped : (d₂ h x y : List ℕ) → length x ≡ 4 → length h ≡ 4 → d₂ ≡ x ++ y → paste d₂ 0 h (length h) ≡ h ++ y
topped d₂ h x y lx lh e = rw (take-length, e, lh, drop_at x y 4 lx) refl

-- the two queues lie in buffers of the opening's lengths
module _ (s : Sender) (w : Sound s) where
  pub kept_low : (low : List ℕ) → length low ≡ s.setting.lowspace → Kept low s.low
  kept_low low e = record { head = rw e w.head_of_low; len = rw e w.low_len }

  pub kept_own : (own : List ℕ) → length own ≡ s.setting.space → Kept own s.ordinary
  kept_own own e = record { head = rw e w.head; len = rw e w.len }

  pub space_most : s.ordinary.len ≤ 1048576
  space_most = let l = w.len in let m = w.space in omega arith

module _ (s : Sender) (w : Sound s) (low own d d₁ d₂ : List ℕ) (t u : Ring) (at n ow : ℕ)
    (el : length low ≡ s.setting.lowspace) (eo : length own ≡ s.setting.space) (ed : length d ≡ s.setting.payload + 4)
    (p : Parted s.setting.payload low s.low d d₁ t at) (o : Filled own s.ordinary s.owed d₁ at d₂ u n ow) where
  pub gone_few : n ≤ s.ordinary.len
  gone_few = omega (arith, o.gone, length_held own s.ordinary (kept_own s w own eo))

  pub drawn_length : (d₃ h : List ℕ) → d₃ ≡ copied d₂ 0 h → length d₃ ≡ length d
  drawn_length d₃ h e = rw (e, length_copied d₂ h 0, o.same, p.same)

  pub finished : (first : Bool) (off' rest : ℕ) (h d₃ : List ℕ) → off' ≡ offset (at - 4) (s.owed + s.rest) (s.setting.payload + 4 - at)
      → first ≡ ltb 4 at → h ≡ tp_header s.setting.stream first off' → d₃ ≡ copied d₂ 0 h → rest ≡ rest_after n (held own s.ordinary) s.rest
      → record { given = done (record { setting = s.setting; low = t; ordinary = u; owed = ow; rest = rest }); buffer = d₃ } ≡ took s (draw_by s low own)
  unfolding draw_by draw_of draw_with
  finished first off' rest h d₃ en ef eh c₃ er =
      let P : ℕ = s.setting.payload in
      let str : ℕ = s.setting.stream in
      let es : List (List ℕ) = leave (suc P) P (held low s.low) P in
      let L : ℕ = length (part es) in
      let Q : List ℕ = held own s.ordinary in
      let pe = p.end in
      let pw = p.within in
      let e₁ = p.same in
      let f₁ : at - 4 ≡ L = omega arith in
      let f₂ : P + 4 - at ≡ P - L = omega arith in
      let f₃ : length d₁ - at ≡ P - L = omega arith in
      let fl : first ≡ present es = ef ∙ rw (pe) (more_than_four L) ∙ some_tells es in
      let hn : h ≡ tp_header str (present es) (offset L (s.owed + s.rest) (P - L)) = eh ∙ rw (fl, en, f₁, f₂) refl in
      let lh : length h ≡ 4 = rw hn (tp_header_length str (present es) (offset L (s.owed + s.rest) (P - L))) in
      let l4 : length (take 4 d) ≡ 4 = length-take-le 4 d (omega arith) in
      let e₃ : d₃ ≡ paste d₂ 0 h (length h) = c₃ ∙ copied_all d₂ h 0 (omega (arith, o.same)) in
      let body : d₂ ≡ take 4 d ++ (part es ++ take (P - L) (stream (P - L) s.owed Q)) =
      o.bytes ∙ rw (f₃, p.bytes) (append_assoc (take 4 d) (part es) (take (P - L) (stream (P - L) s.owed Q))) in
      let tp : d₃ ≡ tp_header str (present es) (offset L (s.owed + s.rest) (P - L)) ++ (part es ++ take (P - L) (stream (P - L) s.owed Q)) =
      e₃ ∙ topped d₂ h (take 4 d) (part es ++ take (P - L) (stream (P - L) s.owed Q)) l4 lh body ∙ ap (λ (z : List ℕ). z ++ (part es ++ take (P - L) (stream (P - L) s.owed Q))) hn in
      let g : n ≡ min (P - L - s.owed) (length Q) = o.gone ∙ rw f₃ refl in
      let oe : ow ≡ owed_after (P - L) s.owed Q = o.left ∙ rw f₃ refl in
      let te : t ≡ off s.setting.lowspace s.low (length (flatten es)) = rw (← el) p.ring in
      let ue : u ≡ off s.setting.space s.ordinary n = rw (← eo) o.ring in
      rw (tp, te, ue, oe, er, g) refl

  pub still_sound : (rest : ℕ) → rest ≤ s.ordinary.len - n → Sound (record { setting = s.setting; low = t; ordinary = u; owed = ow; rest = rest })
  unfolding off
  still_sound rest h =
      let lh = w.head_of_low in
      let ll = w.low_len in
      let oh = w.head in
      let ol = w.len in
      let gf = gone_few in
      let pg = p.gone in
      let N : ℕ = length (flatten (leave (suc s.setting.payload) s.setting.payload (held low s.low) s.setting.payload)) in
      let te : t ≡ off s.setting.lowspace s.low N = rw (← el) p.ring in
      let ue : u ≡ off s.setting.space s.ordinary n = rw (← eo) o.ring in
      record {
        payload_least = w.payload_least;
        payload_most = w.payload_most;
        stream = w.stream;
        piece_least = w.piece_least;
        piece_most = w.piece_most;
        lowspace = w.lowspace;
        space = w.space;
        head_of_low = rw te (wrapped s.setting.lowspace (s.low.head + N) (omega arith));
        low_len = rw te (omega arith);
        head = rw ue (wrapped s.setting.space (s.ordinary.head + n) (omega arith));
        len = rw ue (omega arith);
        owed = rw o.left (owed_least (length d₁ - at) s.owed (held own s.ordinary) w.owed);
        rest = rw ue h;
      }

-- ---- nothing is queued, and nothing owed

idle_parted : (P : ℕ) (b : List ℕ) (q : Ring) (d : List ℕ) → Kept b q → q.len ≡ 0 → Parted P b q d d q 4
unfolding part flatten
idle_parted P b q d w z =
    let n : next P (held b q) P ≡ 0 = next_is P (held b q) P (omega arith) ∙ sym (low_few P (held b q) (omega (arith, length_held b q w))) in
    let e = none_leaves P P (held b q) P n in
    record {
      bytes = rw e (sym (append-nil (take 4 d)));
      same = refl;
      end = rw e refl;
      within = omega arith;
      ring = rw e (sym (off_zero b q w));
      gone = rw e (omega arith);
    }

module _ (s : Sender) (w : Sound s) (z : s.low.len + s.ordinary.len + s.owed ≡ 0) (d d₂ : List ℕ) (ow : ℕ) (ed : length d ≡ s.setting.payload + 4)
    (e₂ : d₂ ≡ take 4 d ++ take (length d - 4) (fill (length d - 4))) (eo : ow ≡ length (fill (length d - 4)) - (length d - 4)) where
  module _ (low own : List ℕ) (ll : length low ≡ s.setting.lowspace) (lo : length own ≡ s.setting.space) where
    no_part : Parted s.setting.payload low s.low d d s.low 4
    no_part = idle_parted s.setting.payload low s.low d (kept_low s w low ll) (omega arith)

    no_queue : Filled own s.ordinary s.owed d 4 d₂ s.ordinary 0 ow
    no_queue = owned_idle own s.ordinary s.owed d d₂ 4 ow (kept_own s w own lo) (omega arith) (omega arith) (omega arith) e₂ eo

    only_fill_lem : (h d₃ : List ℕ) → h ≡ tp_header s.setting.stream false 0 → d₃ ≡ copied d₂ 0 h
        → record { given = done (record { setting = s.setting; low = s.low; ordinary = s.ordinary; owed = ow; rest = 0 }); buffer = d₃ } ≡ took s (draw_by s low own)
    unfolding rest_after
    only_fill_lem h d₃ eh e₃ =
        let r = w.rest in
        let p = w.payload_least in
        let first : s.owed + s.rest ≡ 0 = omega arith in
        let f : 0 ≡ offset 0 (s.owed + s.rest) (s.setting.payload + 4 - 4) = rw first (offset_within 0 0 (s.setting.payload + 4 - 4) (omega arith)) in
        finished s w low own d d d₂ s.low s.ordinary 4 0 ow ll lo ed no_part no_queue false 0 0 h d₃ f (sym (le-ltb 4 4 (omega arith))) eh e₃ (omega arith)

  pub fill_drawn : (h d₃ : List ℕ) → h ≡ tp_header s.setting.stream false 0 → d₃ ≡ copied d₂ 0 h
      → DrawnOver s (record { given = done (record { setting = s.setting; low = s.low; ordinary = s.ordinary; owed = ow; rest = 0 }); buffer = d₃ })
  fill_drawn h d₃ eh e₃ low own ll lo = only_fill_lem low own ll lo h d₃ eh e₃

  pub fill_sound : Sound (record { setting = s.setting; low = s.low; ordinary = s.ordinary; owed = ow; rest = 0 })
  fill_sound =
      let low : List ℕ = replicate s.setting.lowspace 0 in
      let own : List ℕ = replicate s.setting.space 0 in
      let ll = rep_length s.setting.lowspace 0 in
      let lo = rep_length s.setting.space 0 in
      still_sound s w low own d d d₂ s.low s.ordinary 4 0 ow ll lo ed (no_part low own ll lo) (no_queue low own ll lo) 0 (omega arith)

-- ---- the call

pub is_lent : (g : Setting) (l o : ℕ) → l ≡ g.lowspace → o ≡ g.space → lent g l o ≡ true
unfolding lent
is_lent g l o e f = rw (eq-eqb l g.lowspace e, eq-eqb o g.space f)

module _ (s : Sender) (low own b : List ℕ) where
  pub draw_1 : lent s.setting (length low) (length own) ≡ false → refused 1 b ≡ drew s low own b
  unfolding drew
  draw_1 e = rw e

  module _ (e : lent s.setting (length low) (length own) ≡ true) where
    pub draw_no : (k : Refusal) → drawable s.setting.payload (held low s.low) (length b) ≡ Err k → refused (number k) b ≡ drew s low own b
    unfolding drew drawable
    draw_no k j = rw e (told (overwritten s.setting.payload (held low s.low)) (eqb (length b) (s.setting.payload + 4)) k j)
      where
        told : (t u : Bool) (k : Refusal) → first_of (checked t Limits) (checked (not u) Buffer) ≡ Err k
            → refused (number k) b ≡ cond t (refused 1 b) (cond (not u) (refused 5 b) (took s (draw_by s low own)))
        told true u k j = ap (λ (n : ℕ). refused n b) (sym (ap number_in j))
        told false true k j = absurd (omega (arith, ap is_no j))
        told false false k j = ap (λ (n : ℕ). refused n b) (sym (ap number_in j))

    pub draw_done : (x : Left) → drawable s.setting.payload (held low s.low) (length b) ≡ Ok tt → x ≡ took s (draw_by s low own) → x ≡ drew s low own b
    unfolding drew drawable
    draw_done x j f = f ∙ rw e (going (overwritten s.setting.payload (held low s.low)) (eqb (length b) (s.setting.payload + 4)) j)
      where
        going : (t u : Bool) → first_of (checked t Limits) (checked (not u) Buffer) ≡ Ok tt
            → took s (draw_by s low own) ≡ cond t (refused 1 b) (cond (not u) (refused 5 b) (took s (draw_by s low own)))
        going true u j = absurd (omega (arith, ap is_no j))
        going false true j = refl
        going false false j = absurd (omega (arith, ap is_no j))
