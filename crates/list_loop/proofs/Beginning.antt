-- Where the loop begins: what the opening and the header line ensure. Assumes nothing.
use Prim.Native.Nat.{ℕ}
use mathlib.Core.Path.{◌≡◌, refl, ap, sym, subst, subst⁻¹}
use mathlib.Core.List.{List}
use lib.ListN.{length, take}
use Rattle.listing.specs.Lines.{header_line}
use Rattle.std.specs.Prelude.{Option, Some}
use Rattle.receiver.specs.declared.Receiver.{Receiver}
use Rattle.receiver.specs.Call.{OpenedAs, fresh_of}
use Rattle.receiver.specs.Tracks.{Placed}
use Rattle.receiver.proofs.Listening.{opened_fresh}
use Rattle.receiver.proofs.Owning.{placed_fresh}
use Rattle.list_loop.specs.Whole.{setting_of, Begins}
use Rattle.list_loop.specs.declared.Run.{Run}

pub begins : (size stream : ℕ) (m out : List ℕ) (q : Option Receiver) (r : Run) → OpenedAs size stream (length m) q → q ≡ Some r.receiver → r.done ≡ 0
    → take r.at out ≡ header_line → Begins (setting_of r.receiver) r m out
begins size stream m out q r opened is done held =
    let o : OpenedAs size stream (length m) (Some r.receiver) = subst (OpenedAs size stream (length m)) is opened in
    let f = opened_fresh size stream (length m) r.receiver o in
    record {
      receiver = subst (λ (x : Receiver). x ≡ fresh_of x.size x.stream x.limit 0) (sym f) refl;
      able = o.able;
      room = sym (ap (λ (x : Receiver). x.limit) f);
      done = done;
      held = held;
    }

-- a fresh receiver keeps nothing
pub placed_first : (size stream room : ℕ) (q : Option Receiver) (r : Receiver) → OpenedAs size stream room q → q ≡ Some r → Placed r
placed_first size stream room q r opened is =
    subst⁻¹ Placed (opened_fresh size stream room r (subst (OpenedAs size stream room) is opened)) (placed_fresh size stream room 0)
