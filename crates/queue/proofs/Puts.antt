-- Laws of what a ring holds, and of bytes put behind it. Assumes nothing.
use mathlib.Core.Path.{◌≡◌, refl, sym, ap, ap₂, ◌∙◌}
use mathlib.Core.Bool.{Bool, true, false, cond, ◌&&◌}
use mathlib.Core.List.{List, [], ◌++◌}
use Prim.Native.Nat.{ℕ, ◌+◌, ◌-◌, ◌≤◌, ◌<◌}
use native.Mathlib.Nat.{add_assoc, add-zero}
use native.Mathlib.Omega.{arith}
use lib.Dec.{leb}
use lib.ListN.{length, take, drop, length-append, length-drop}
use lib.Seq.{paste, paste-zero, take-length, take-paste, length-take-le, length-paste}
use borrow.Author.Tests.{le-leb, lt-leb, leb-true}
use Rattle.queue.specs.declared.Ring.{Ring}
use Rattle.queue.specs.Ring.{Left, around, held, Kept, kept, longer, written, room, pushed}
use Rattle.queue.proofs.Copies.{paste_two, parts}
use Rattle.queue.proofs.Runs.{length_around, length_around_all, undo, write_run}

pub and_left : (a b : Bool) → a && b ≡ true → a ≡ true
and_left true b e = refl
and_left false b e = e

pub and_right : (a b : Bool) → a && b ≡ true → b ≡ true
and_right true b e = e
and_right false b e = cc

pub is_kept : (b : List ℕ) (q : Ring) → Kept b q → kept (length b) q ≡ true
unfolding kept
is_kept b q w = rw (le-leb q.head (length b) w.head, le-leb q.len (length b) w.len)

pub kept_len : (cap : ℕ) (q : Ring) → kept cap q ≡ true → q.len ≤ cap
unfolding kept
kept_len cap q e = leb-true q.len cap (and_right (leb q.head cap) (leb q.len cap) e)

pub kept_is : (b : List ℕ) (q : Ring) → kept (length b) q ≡ true → Kept b q
unfolding kept
kept_is b q e =
    record {
      head = leb-true q.head (length b) (and_left (leb q.head (length b)) (leb q.len (length b)) e);
      len = leb-true q.len (length b) (and_right (leb q.head (length b)) (leb q.len (length b)) e);
    }

pub length_held : (b : List ℕ) (q : Ring) → Kept b q → length (held b q) ≡ q.len
unfolding held
length_held b q w = length-take-le q.len (around b q.head) (omega (arith, length_around b q.head w.head, w.len))

-- ---- putting

again : (b s t x : List ℕ) (q : Ring) → around x q.head ≡ paste (around b q.head) q.len s (length s) → length x ≡ length b
    → q.len ≤ length (around b q.head) → written x (longer q (length s)) t ≡ written b q (s ++ t)
unfolding written longer
again b s t x q a l h = rw (a, l, paste_two (around b q.head) s t q.len h)

module _ (b s : List ℕ) (q : Ring) (w : Kept b q) (p : q.len + length s ≤ length b) where
  pub push_fits : pushed b q s ≡ record { ring = longer q (length s); bytes = written b q s }
  unfolding pushed room
  push_fits = rw (is_kept b q w, le-leb (length s) (length b - q.len) (omega arith))

  pub written_around : around (written b q s) q.head ≡ paste (around b q.head) q.len s (length s)
  unfolding written
  written_around =
      let wh = w.head in
      let x : List ℕ = paste (around b q.head) q.len s (length s) in
      let lx : length x ≡ length b = length-paste (around b q.head) q.len s (length s) (omega (arith, length_around b q.head wh)) (omega arith) ∙ length_around b q.head wh in
      let k : length x - (length b - q.head) ≡ q.head = omega arith in
      rw k at (undo x (length b - q.head) (omega arith))

  pub length_written : length (written b q s) ≡ length b
  length_written =
      let wh = w.head in
      let l = length_around b q.head wh in
      sym (length_around_all (written b q s) q.head) ∙ ap length written_around ∙ length-paste (around b q.head) q.len s (length s) (omega arith) (omega arith) ∙ l

  pub kept_written : Kept (written b q s) (longer q (length s))
  unfolding longer
  kept_written =
      let wh = w.head in
      let l = length_written in
      record { head = omega arith; len = omega arith }

  pub held_written : held (written b q s) (longer q (length s)) ≡ held b q ++ s
  unfolding held longer
  held_written =
      let k : q.len ≤ length (around b q.head) = omega (arith, length_around b q.head w.head, w.len) in
      rw (written_around, take-paste (around b q.head) q.len s (length s) k (omega arith), take-length)

-- nothing
pub put_none : (b : List ℕ) (q : Ring) → Kept b q → ◌≡◌ {A = Left} (record { ring = q; bytes = b }) (record { ring = longer q 0; bytes = written b q [] })
unfolding longer written
put_none b q w =
    let r : q ≡ record { head = q.head; len = q.len + 0 } = rw add-zero refl in
    let e : b ≡ around (paste (around b q.head) q.len [] 0) (length b - q.head) =
    sym (undo b q.head w.head) ∙ ap (λ (x : List ℕ). around x (length b - q.head)) (paste-zero (around b q.head) q.len []) in
    ap₂ (λ (x : Ring) (y : List ℕ). record { ring = x; bytes = y }) r e

-- one behind another
pub written_two : (b s t : List ℕ) (q : Ring) → Kept b q → q.len + length s + length t ≤ length b
    → written (written b q s) (longer q (length s)) t ≡ written b q (s ++ t)
written_two b s t q w p =
    let wl = w.len in
    let l = length_around b q.head w.head in
    again b s t (written b q s) q (written_around b s q w (omega arith)) (length_written b s q w (omega arith)) (omega arith)

-- six bytes in two runs
pub write_six : (b h b₁ b₂ : List ℕ) (at : ℕ) → length h ≡ 6 → at ≤ length b → b₁ ≡ paste b at (take 4 h) 4 → b₂ ≡ paste b₁ (at + 4) (take 2 (drop 4 h)) 2
    → b₂ ≡ paste b at h 6
write_six b h b₁ b₂ at l p e₁ e₂ =
    let u : length (take 4 h) ≡ 4 = length-take-le 4 h (omega arith) in
    let v : length (take 2 (drop 4 h)) ≡ 2 = length-take-le 2 (drop 4 h) (omega (arith, length-drop 4 h)) in
    let s : take 4 h ++ take 2 (drop 4 h) ≡ h = rw l at (parts h 4) in
    e₂ ∙ rw e₁ (rw (u, v, s, l) at (paste_two b (take 4 h) (take 2 (drop 4 h)) at p))

-- six bytes and then t: by one write after the other, and in one stride before the buffer's end
module _ (b h t : List ℕ) (q : Ring) (w : Kept b q) (l : length h ≡ 6) where
  module _ (p : 6 + length t ≤ length b - q.len) (b₁ b₂ : List ℕ) where
    pub write_both : b₁ ≡ written b q h → b₂ ≡ written b₁ (record { head = q.head; len = q.len + 6 }) t → b₂ ≡ written b q (h ++ t)
    unfolding longer
    write_both e₁ e₂ =
        let wl = w.len in
        e₂ ∙ ap (λ (x : List ℕ). written x (record { head = q.head; len = q.len + 6 }) t) e₁ ∙ ap (λ (n : ℕ). written (written b q h) (record { head = q.head; len = q.len + n }) t) (sym l) ∙ written_two b h t q w (omega arith)

    pub write_stride : (at : ℕ) → at ≡ cond (leb (length b) (q.head + q.len)) (q.head + q.len - length b) (q.head + q.len)
        → 6 + length t ≤ length b - at → b₁ ≡ paste b at h 6 → b₂ ≡ paste b₁ (at + 6) t (length t) → b₂ ≡ written b q (h ++ t)
    write_stride at a r e₁ e₂ =
        let n : length (h ++ t) ≡ 6 + length t = length-append h t ∙ ap (λ (x : ℕ). x + length t) l in
        let e : b₂ ≡ paste (paste b at h (length h)) (at + length h) t (length t) = e₂ ∙ rw (e₁, l) refl in
        write_run b (h ++ t) q w (omega arith) b₂ at a (omega arith) (e ∙ paste_two b h t at (omega arith))

  -- what the code tests
  pub push_none : length b - q.len < 6 + length t → record { ring = q; bytes = b } ≡ pushed b q (h ++ t)
  unfolding pushed room
  push_none p = rw (length-append h t, l, is_kept b q w, lt-leb (6 + length t) (length b - q.len) p)

  pub push_done : 6 + length t ≤ length b - q.len → (b' : List ℕ) → b' ≡ written b q (h ++ t)
      → record { ring = record { head = q.head; len = q.len + (6 + length t) }; bytes = b' } ≡ pushed b q (h ++ t)
  unfolding pushed room longer
  push_done p b' f = rw (length-append h t, l, is_kept b q w, le-leb (6 + length t) (length b - q.len) p, f)

pub longer_two : (q : Ring) (n m : ℕ) → longer (longer q n) m ≡ longer q (n + m)
unfolding longer
longer_two q n m = rw add_assoc
