-- Laws of the opening. Assumes nothing.
use mathlib.Core.Path.{◌≡◌, refl}
use mathlib.Core.Bool.{Bool, true, false, cond, ◌&&◌}
use Prim.Native.Nat.{ℕ}
use native.Mathlib.Omega.{arith}
use borrow.Author.Tests.{leb-true}
use lib.Dec.{leb}
use Rattle.wire.specs.Limits.{allowed}
use Rattle.wire.proofs.Allowing.{both, Allowed, limits}
use Rattle.sender.specs.declared.Sender.{Sender}
use Rattle.sender.specs.Answers.{done, refusal}
use Rattle.sender.specs.Opening.{Sound, small, fresh, opened}
use Rattle.sender.proofs.Bools.{and_left, and_right}

module _ (tp stream F low ordinary : ℕ) where
  pub open_not : allowed tp stream F ≡ false → refusal 1 ≡ opened tp stream F low ordinary
  unfolding opened
  open_not e = rw e

  module _ (e : allowed tp stream F ≡ true) where
    pub open_large : small low ordinary ≡ false → refusal 1 ≡ opened tp stream F low ordinary
    unfolding opened
    open_large h = rw (e, h)

    module _ (h : small low ordinary ≡ true) where
      pub open_done : done (fresh tp stream F low ordinary) ≡ opened tp stream F low ordinary
      unfolding opened
      open_done = rw (e, h)

      pub open_sound : Sound (fresh tp stream F low ordinary)
      unfolding small
      open_sound =
          let l = limits tp stream F e in
          let l₁ = l.tp_least in
          let l₂ = l.tp_most in
          record {
            payload_least = omega arith;
            payload_most = omega arith;
            stream = l.stream_most;
            piece_least = l.piece_least;
            piece_most = l.piece_most;
            lowspace = leb-true low 1048576 (and_left _ (leb ordinary 1048576) h);
            space = leb-true ordinary 1048576 (and_right (leb low 1048576) _ h);
            head_of_low = omega arith;
            low_len = omega arith;
            head = omega arith;
            len = omega arith;
            owed = omega arith;
            rest = omega arith;
          }

-- what is opened is fresh, and its settings are within the limits
pub opened_is : (tp stream F low ordinary : ℕ) (s : Sender) → opened tp stream F low ordinary ≡ done s → Allowed tp stream F × (s ≡ fresh tp stream F low ordinary)
unfolding opened
opened_is tp stream F low ordinary s e =
    let o = go (allowed tp stream F && small low ordinary) e in
    (limits tp stream F (both (allowed tp stream F) (small low ordinary) o.0).0, o.1)
  where
    go : (t : Bool) → cond t (done (fresh tp stream F low ordinary)) (refusal 1) ≡ done s → (t ≡ true) × (s ≡ fresh tp stream F low ordinary)
    go true g = (refl, cc)
    go false g = (cc, cc)
