-- `checks::of_room` meets its contract: one EP; or the SP alone too long, or its pieces counted. Assumes nothing.
use mathlib.Core.Path.{refl, sym, ap, ◌∙◌}
use Prim.Native.Nat.{ℕ}
use native.Mathlib.Omega.{arith}
use lib.Dec.{ltb}
use lib.ListN.{length}
use borrow.Author.Tests.{lt-ltb, ltb-true}
use Rattle.wire.proofs.Laws.{ep_length}
use Rattle.sender.specs.declared.Refusal.TheVariants.{Full}
use Rattle.sender.specs.Offering.{sp_bytes}
use Rattle.sender.specs.Steps.{checked}
use Rattle.sender.proofs.Passing.{passed, held_of}
use Rattle.sender.proofs.Pieces.{one_piece, sp_least}
use Rattle.sender.proofs.checks.of_room.Goals as goal

pub returns-then-sp-piece : goal.returns-then-sp-piece
returns-then-sp-piece c =
    let a = c.args in
    let one = ap length (one_piece a.piece a.content a.sp.now c.if-sp-piece.true) ∙ ep_length a.content 0 a.sp.now in
    rw one c.of_bytes.ensures

pub returns-in_err-of_bytes : goal.returns-in_err-of_bytes
returns-in_err-of_bytes c =
    let a = c.args in
    let h = held_of (ltb a.room (length a.sp.now)) Full _ (sym c.of_bytes-2.ensures ∙ c.in_err-of_bytes.was) in
    let more = ltb-true a.room (length a.sp.now) h.0 in
    passed _ _ c.from_residual.ensures.1 ∙ rw (h.1, lt-ltb a.room (length (sp_bytes a.piece a.content a.sp.now)) (omega (arith, sp_least a.piece a.content a.sp.now c.requires.0))) refl

pub returns : goal.returns
returns c =
    let a = c.args in
    c.of_bytes-3.ensures ∙ ap (λ (n : ℕ). checked (ltb a.room n) Full) c.in_pieces.ensures
