-- Laws of the low-latency part. Assumes nothing.
use mathlib.Core.Path.{◌≡◌, refl, sym, ap, subst, ◌∙◌}
use Rattle.std.specs.Prelude.{Ok, Err}
use mathlib.Core.Bool.{false, cond}
use mathlib.Core.Logic.{⊎_elim}
use mathlib.Core.List.{List, [], ◌∷◌, ◌++◌, append_assoc, append-nil, flatten}
use Prim.Native.Nat.{ℕ, suc, ◌+◌, ◌-◌, ◌≤◌, ◌<◌}
use native.Mathlib.Nat.{sub-zero, sub-add-eq}
use native.Mathlib.Numerals.{add-one}
use native.Mathlib.Omega.{arith}
use lib.Dec.{ltb}
use lib.ListN.{length, take, drop, set, length-set, length-append}
use lib.Seq.{paste, take-paste, length-paste, take-suc-set, length-take-le, take-take}
use borrow.Author.Tests.{le-ltb, lt-ltb}
use Rattle.queue.specs.declared.Ring.{Ring}
use Rattle.queue.specs.Ring.{Left, held, off, Kept, popped}
use Rattle.queue.proofs.Copies.{take_past}
use Rattle.queue.proofs.Puts.{length_held}
use Rattle.queue.proofs.Takes.{pop_fits, kept_off, held_off, off_zero, off_off}
use Rattle.sender.specs.Drawing.{low_at, overwritten, next, leave, none_leaves, one_leaves, part}
use Rattle.sender.specs.declared.Refusal.TheVariants.{Limits, Buffer}
use Rattle.sender.specs.Steps.{drawable, Parted}
use Rattle.sender.proofs.Bools.{split}
use Rattle.sender.proofs.Heads.{next_is, next_within, over_none, is_over, not_over, limits_first, buffer_then, can_draw}

-- ---- LLEPs while the last one isn't known: each is followed by FF

unfoldable pub linked : List (List ℕ) → List ℕ
linked [] = []
linked (e ∷ es) = e ++ 255 ∷ linked es

linked_more : (es : List (List ℕ)) (e : List ℕ) → linked (es ++ (e ∷ [])) ≡ linked es ++ e ++ (255 ∷ [])
unfolding linked
linked_more [] e = refl
linked_more (x ∷ es) e = rw (linked_more es e) (simp append_assoc)

linked_length : (es : List (List ℕ)) → length (linked es) ≡ length (part es)
unfolding linked part
linked_length [] = refl
linked_length (e ∷ es) = omega (arith, linked_length es, length-append e (255 ∷ linked es), part_length e es)
  where
    part_length : (e : List ℕ) (es : List (List ℕ)) → length (part (e ∷ es)) ≡ length e + suc (length (part es))
    part_length e es = length-append e _

flat_more : (es : List (List ℕ)) (e : List ℕ) → length (flatten (es ++ (e ∷ []))) ≡ length (flatten es) + length e
unfolding flatten
flat_more [] e = omega (arith, ap length (append-nil e))
flat_more (x ∷ es) e = omega (arith, length-append x (flatten (es ++ (e ∷ []))), length-append x (flatten es), flat_more es e)

-- the last byte of such a part is made 0
cut_last : (e r : List ℕ) (k : ℕ) → length r ≡ suc k → take (length (e ++ 255 ∷ r) - 1) (e ++ 255 ∷ r) ++ (0 ∷ []) ≡ e ++ 255 ∷ (take k r ++ (0 ∷ []))
cut_last e r k h =
    rw (take_past e (255 ∷ r) (length (e ++ 255 ∷ r) - 1) (suc k) (omega (arith, length-append e (255 ∷ r)))) (append_assoc e (255 ∷ take k r) (0 ∷ []))

last_made : (e : List ℕ) (es : List (List ℕ)) → take (length (linked (e ∷ es)) - 1) (linked (e ∷ es)) ++ (0 ∷ []) ≡ part (e ∷ es)
unfolding linked part
last_made e [] = rw (take_past e (255 ∷ []) (length (e ++ 255 ∷ []) - 1) 0 (omega (arith, length-append e (255 ∷ [])))) (ap (λ (x : List ℕ). x ++ (0 ∷ [])) (append-nil e))
last_made e (f ∷ es) =
    cut_last e (linked (f ∷ es)) (length (linked (f ∷ es)) - 1) (omega (arith, length-append f (255 ∷ linked es))) ∙ ap (λ (x : List ℕ). e ++ 255 ∷ x) (last_made f es)

closing : (es : List (List ℕ)) (x d : List ℕ) (at : ℕ) → length x ≡ 4 → at ≡ 4 + length (linked es) → at ≤ length d → take at d ≡ x ++ linked es
    → take at (cond (ltb 4 at) (set d (at - 1) 0) d) ≡ x ++ part es
unfolding linked part
closing [] x d at lx p r w = rw (le-ltb 4 at (omega arith)) w
closing (e ∷ es) x d at lx p r w =
    let L : ℕ = length (linked (e ∷ es)) in
    let some = length-append e (255 ∷ linked es) in
    let m : ℕ = at - 1 in
    let f : at ≡ suc m = omega arith in
    let here : take at (set d m 0) ≡ take m d ++ (0 ∷ []) = ap (λ (k : ℕ). take k (set d m 0)) f ∙ take-suc-set d m 0 (omega arith) in
    let before : take m d ≡ x ++ take (L - 1) (linked (e ∷ es)) = sym (take-take m at d (omega arith)) ∙ ap (take m) w ∙ take_past x (linked (e ∷ es)) m (L - 1) (omega arith) in
    rw (lt-ltb 4 at (omega arith)) (here ∙ ap (λ (y : List ℕ). y ++ (0 ∷ [])) before ∙ append_assoc x (take (L - 1) (linked (e ∷ es))) (0 ∷ []) ∙ ap (λ (y : List ℕ). x ++ y) (last_made e es))

-- ---- numbers

more : (l t g n : ℕ) → t ≡ l - g → g ≤ l → n ≤ t → g + n ≤ l
more l t g n e p h = omega arith

turned : (h l t g n cap : ℕ) → t ≡ l - g → g ≤ l → n ≤ t → h ≤ cap → l ≤ cap → h + g + n ≤ cap + cap
turned h l t g n cap e p q r s = omega arith

-- what a turn asks of numbers, each over bare ones: `omega` looks at all that is in reach

within_on : (a m : ℕ) → a < m → a + 1 ≤ m
within_on a m h = omega arith

add_assoc : (a b c : ℕ) → a + b + c ≡ a + (b + c)
add_assoc a b c = omega arith

place_on : (a n o l : ℕ) → a ≡ 4 + o → l ≡ o + n + 1 → a + n + 1 ≡ 4 + l
place_on a n o l e f = omega arith

enough_on : (P a n f : ℕ) → P + 4 - a ≤ f → a + n < P + 4 → P + 4 - (a + n + 1) ≤ f - 1
enough_on P a n f h p = omega arith

fuel_on : (P a n f : ℕ) → P + 4 - a ≤ f → a + n < P + 4 → f ≡ suc (f - 1)
fuel_on P a n f h p = omega arith

rest_on : (P a n : ℕ) → P + 4 - (a + n + 1) ≡ P + 3 - (a + n)
rest_on P a n = omega arith

rest_off : (P a n : ℕ) → P + 4 - a - (n + 1) ≡ P + 3 - (a + n)
rest_off P a n = omega arith

below : (a l m : ℕ) → l ≡ m → a < m → a < l
below a l m e h = omega arith

most : (n l m : ℕ) → l ≡ m → n ≤ m → n ≤ l
most n l m e h = omega arith

reach : (a l m P : ℕ) → l ≡ m → m ≡ P + 4 → a ≤ P + 4 → a ≤ l
reach a l m P e f h = omega arith

-- ---- the loop

-- what holds at the loop's head: these LLEPs are gone
pub record Walk (P : ℕ) (b : List ℕ) (q : Ring) (d₀ d : List ℕ) (t : Ring) (at : ℕ) : Type 0 where
  pub sound : Kept b t
  pub size : length d ≡ length d₀
  pub within : at ≤ P + 4
  pub gone : List (List ℕ)
  pub written : take at d ≡ take 4 d₀ ++ linked gone
  pub place : at ≡ 4 + length (linked gone)
  pub ring : t ≡ off (length b) q (length (flatten gone))
  pub few : length (flatten gone) ≤ q.len
  pub left : t.len ≡ q.len - length (flatten gone)
  pub fuel : ℕ
  pub enough : P + 4 - at ≤ fuel
  pub leaves : gone ++ leave (suc fuel) P (held b t) (P + 4 - at) ≡ leave (suc P) P (held b q) P
  pub fresh : at ≡ 4 → (d ≡ d₀) × (t ≡ q)
  pub begun : 4 < at → (length d₀ ≡ P + 4) × (low_at P (held b q) ≡ 0 → ⊥)

pub starts : (P : ℕ) (b : List ℕ) (q : Ring) (d : List ℕ) → Kept b q → Walk P b q d d q 4
unfolding linked flatten
starts P b q d w =
    let f : P + 4 - 4 ≡ P = omega arith in
    record {
      sound = w;
      size = refl;
      within = omega arith;
      gone = [];
      written = sym (append-nil (take 4 d));
      place = refl;
      ring = sym (off_zero b q w);
      few = omega arith;
      left = sym (sub-zero q.len);
      fuel = P;
      enough = omega arith;
      leaves = rw f refl;
      fresh = λ e. (refl, refl);
      begun = λ h. absurd (omega arith);
    }

module _ (P : ℕ) (b : List ℕ) (q : Ring) (d₀ d : List ℕ) (t : Ring) (at : ℕ) (i : Walk P b q d₀ d t at) where
  pub room : P + 4 - at ≤ P
  room = let p = i.place in omega arith

  module _ (n : ℕ) (ne : n ≡ low_at (P + 4 - at) (held b t)) where
    next_n : next P (held b t) (P + 4 - at) ≡ n
    next_n = next_is P (held b t) (P + 4 - at) room ∙ sym ne

    -- the first one is what was looked for
    first : at ≡ 4 → low_at P (held b q) ≡ n
    first e =
        let f : P + 4 - at ≡ P = omega arith in
        sym (ne ∙ ap (λ (k : ℕ). low_at k (held b t)) f ∙ ap (λ (r : Ring). low_at P (held b r)) (i.fresh e).1)

    -- in a buffer of another length none is gone
    not_begun : (length d₀ ≡ P + 4 → ⊥) → at ≡ 4
    not_begun f = let p = i.place in ⊎_elim (λ h. omega arith) (λ h. absurd (f (i.begun h).0)) (split at 4)

    -- none is left
    module _ (z : n ≡ 0) (w : Kept b q) where
      -- an EP is queued, and it isn't an LLEP
      pub spoilt : (m : ℕ) → at ≡ 4 → 0 < q.len → (drawable P (held b q) m ≡ Err Limits) × (d ≡ d₀)
      spoilt m h p = (limits_first P (held b q) m (is_over P (held b q) (omega (arith, length_held b q w)) (first h ∙ z)), (i.fresh h).0)

      whole : (at ≡ 4 → q.len ≤ 0) → overwritten P (held b q) ≡ false
      whole g =
          ⊎_elim
          (λ h. sym (over_none P (held b q) (let s = g (omega arith) in omega (arith, length_held b q w))))
          (λ h. not_over P (held b q) (i.begun h).1)
          (split at 4)

      pub unfit : (at ≡ 4 → q.len ≤ 0) → (length d₀ ≡ P + 4 → ⊥) → (drawable P (held b q) (length d₀) ≡ Err Buffer) × (d ≡ d₀)
      unfit g f = (buffer_then P (held b q) (length d₀) (whole g) f, (i.fresh (not_begun f)).0)

      pub fit : (at ≡ 4 → q.len ≤ 0) → length d₀ ≡ P + 4 → drawable P (held b q) (length d₀) ≡ Ok tt
      fit g f = can_draw P (held b q) (length d₀) (whole g) f

    module _ (z : n ≡ 0) (d' : List ℕ) (e : d' ≡ cond (ltb 4 at) (set d (at - 1) 0) d) where
      pub same_size : length d' ≡ length d₀
      same_size =
          ⊎_elim
          (λ h. ap length e ∙ rw (le-ltb 4 at h) i.size)
          (λ h. ap length e ∙ rw (lt-ltb 4 at h) (length-set d (at - 1) 0 ∙ i.size))
          (split at 4)

      -- no LLEP leaves
      pub untouched : at ≡ 4 → d' ≡ d₀
      untouched h = e ∙ rw (le-ltb 4 at (omega arith)) (i.fresh h).0

      pub ends : length d₀ ≡ P + 4 → Parted P b q d₀ d' t at
      ends s =
          let none = none_leaves i.fuel P (held b t) (P + 4 - at) (next_n ∙ z) in
          let g : i.gone ≡ leave (suc P) P (held b q) P = sym (append-nil i.gone) ∙ ap (λ (x : List (List ℕ)). i.gone ++ x) (sym none) ∙ i.leaves in
          let l4 : length (take 4 d₀) ≡ 4 = length-take-le 4 d₀ (omega arith) in
          let w = i.within in
          let z = i.size in
          let c = closing i.gone (take 4 d₀) d at l4 i.place (omega arith) i.written in
          let pl : at ≡ 4 + length (part i.gone) = i.place ∙ ap (λ (k : ℕ). 4 + k) (linked_length i.gone) in
          record {
            bytes = ap (take at) e ∙ c ∙ ap (λ (x : List (List ℕ)). take 4 d₀ ++ part x) g;
            same = same_size;
            end = pl ∙ ap (λ (x : List (List ℕ)). 4 + length (part x)) g;
            within = i.within;
            ring = i.ring ∙ ap (λ (x : List (List ℕ)). off (length b) q (length (flatten x))) g;
            gone = rw (← g) i.few;
          }

    module _ (p : n ≡ 0 → ⊥) where
      -- another length: only the first one was looked for
      pub other_length : (length d₀ ≡ P + 4 → ⊥) → (drawable P (held b q) (length d₀) ≡ Err Buffer) × (d ≡ d₀)
      other_length f =
          let h = not_begun f in
          (buffer_then P (held b q) (length d₀) (not_over P (held b q) (λ e. p (sym (first h) ∙ e))) f, (i.fresh h).0)

      module _ (s : length d ≡ P + 4) where
        pub fits : (n ≤ t.len) × (at + n < P + 4)
        fits =
            let e = next_n in
            let f = next_within P (held b t) (P + 4 - at) in
            let l = length_held b t i.sound in
            let h : 0 < n = ⊎_elim (λ k. absurd (p (omega arith))) (λ k. k) (split n 0) in
            let u : n < P + 4 - at = rw e at (f.1 (rw e h)) in
            let v : n ≤ length (held b t) = rw e at f.0 in
            (omega arith, omega arith)

        module _ (d₁ : List ℕ) (t₁ : Ring) (u : record { ring = t₁; bytes = d₁ } ≡ popped b t d at n) where
          taken : ◌≡◌ {A = Left} (record { ring = t₁; bytes = d₁ }) (record { ring = off (length b) t n; bytes = paste d at (held b t) n })
          taken = let F₁ = fits.1 in u ∙ pop_fits b t n i.sound fits.0 d at (omega arith)

          ring_is : t₁ ≡ off (length b) t n
          ring_is = ap (λ (x : Left). x.ring) taken

          bytes_is : d₁ ≡ paste d at (held b t) n
          bytes_is = ap (λ (x : Left). x.bytes) taken

          pub stays : length d₁ ≡ P + 4
          stays =
              let F₀ = fits.0 in
              let F₁ = fits.1 in
              let l = length_held b t i.sound in
              rw bytes_is (length-paste d at (held b t) n (omega arith) (omega arith) ∙ s)

          kept_on : Kept b t₁
          kept_on = rw ring_is (kept_off b t n i.sound fits.0)

          len_on : t₁.len ≡ t.len - n
          unfolding off
          len_on = ap (λ (x : Ring). x.len) ring_is

          forth : Kept b q → Walk P b q d₀ (set d₁ (at + n) 255) t₁ (at + n + 1)
          forth w =
              let F₀ = fits.0 in
              let F₁ = fits.1 in
              let z = i.size in
              let l = length_held b t i.sound in
              let x : n ≤ length (held b t) = most n (length (held b t)) t.len l F₀ in
              let y : at ≤ length d = reach at (length d) (length d) P refl s i.within in
              let l₁ = stays in
              let E : List ℕ = take n (held b t) in
              let lt : length E ≡ n = length-take-le n (held b t) x in
              let rest : held b t₁ ≡ drop n (held b t) = ap (held b) ring_is ∙ held_off b t n i.sound F₀ in
              let k = i.fuel - 1 in
              let en₀ = i.enough in
              let fk : i.fuel ≡ suc k = fuel_on P at n i.fuel en₀ F₁ in
              let g₁ : P + 4 - (at + n + 1) ≡ P + 3 - (at + n) = rest_on P at n in
              let g₂ : P + 4 - at - (n + 1) ≡ P + 3 - (at + n) = rest_off P at n in
              let es = leave (suc k) P (held b t₁) (P + 3 - (at + n)) in
              let h : 0 < n = ⊎_elim (λ j. absurd (p (omega arith))) (λ j. j) (split n 0) in
              let one : leave (suc i.fuel) P (held b t) (P + 4 - at) ≡ E ∷ es =
              one_leaves i.fuel P (held b t) (P + 4 - at) n next_n h ∙ ap (λ (z : ℕ). E ∷ leave z P (drop n (held b t)) (P + 4 - at - (n + 1))) fk ∙ rw (g₂, rest) refl in
              let tk : take (at + n + 1) (set d₁ (at + n) 255) ≡ take 4 d₀ ++ linked (i.gone ++ (E ∷ [])) =
              rw (add-one, take-suc-set d₁ (at + n) 255 (below (at + n) (length d₁) (P + 4) l₁ F₁), bytes_is, take-paste d at (held b t) n y x, i.written, linked_more i.gone E) (simp append_assoc) in
              let lo : length (linked (i.gone ++ (E ∷ []))) ≡ length (linked i.gone) + n + 1 =
              ap length (linked_more i.gone E) ∙ length-append (linked i.gone ++ E) (255 ∷ []) ∙ rw (length-append (linked i.gone) E, lt) refl in
              let gl : length (flatten (i.gone ++ (E ∷ []))) ≡ length (flatten i.gone) + n = flat_more i.gone E ∙ rw lt refl in
              let G : ℕ = length (flatten i.gone) in
              let pl = i.place in
              record {
                sound = kept_on;
                size = length-set d₁ (at + n) 255 ∙ l₁ ∙ sym s ∙ z;
                within = within_on (at + n) (P + 4) F₁;
                gone = i.gone ++ (E ∷ []);
                written = tk;
                place = place_on at n (length (linked i.gone)) (length (linked (i.gone ++ (E ∷ [])))) pl lo;
                ring = ring_is ∙ ap (λ (z : Ring). off (length b) z n) i.ring ∙ off_off (length b) q G n (turned q.head q.len t.len G n (length b) i.left i.few F₀ w.head w.len) ∙ ap (off (length b) q) (sym gl);
                few = rw gl (more q.len t.len G n i.left i.few F₀);
                left = len_on ∙ ap (λ (z : ℕ). z - n) i.left ∙ sym (sub-add-eq q.len G n) ∙ ap (λ (z : ℕ). q.len - z) (sym gl);
                fuel = k;
                enough = enough_on P at n i.fuel en₀ F₁;
                leaves = rw g₁ (append_assoc i.gone (E ∷ []) es ∙ ap (λ (z : List (List ℕ)). i.gone ++ z) (sym one) ∙ i.leaves);
                fresh = λ e. absurd (omega arith);
                begun = λ v. (sym z ∙ s, ⊎_elim (λ j. λ e. p (sym (first (omega arith)) ∙ e)) (λ j. (i.begun j).1) (split at 4));
              }

          pub again : Kept b q → Walk P b q d₀ (set d₁ (at + n) 255) t₁ (at + (n + 1))
          again w = subst (Walk P b q d₀ (set d₁ (at + n) 255) t₁) (add_assoc at n 1) (forth w)
