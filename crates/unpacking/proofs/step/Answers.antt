-- `unpacking::step` meets its contract: the find's data are its stretch.
-- Assumes nothing.
use Prim.Native.Nat.{ℕ}
use mathlib.Core.List.{List}
use mathlib.Core.Path.{ap, ◌∙◌}
use Rattle.block.proofs.Laws.{block_of}
use Rattle.unpacking.specs.Unpacking.{find_of}
use Rattle.unpacking.proofs.step.Goals as goal

pub returns : goal.returns
returns c =
    let a = c.args in
    record { gives = c.next-step.ensures; refused_after = c.put_packet-unpacked.ensures ∙ ap (λ (l : List ℕ). find_of c.next-step.result.find l (block_of a.out.now a.at)) c.found.ensures }
