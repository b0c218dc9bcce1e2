-- `jumping::put_wanted` meets its contract: nothing is put for a packet that is not the one asked for.
-- Assumes nothing.
use mathlib.Core.Path.{ap, sym, ◌∙◌}
use mathlib.Core.Bool.{cond}
use mathlib.Core.List.{[]}
use Rattle.block.specs.Block.{put}
use Rattle.block.proofs.Laws.{nothing}
use Rattle.reading.specs.Packets.{packet_of}
use Rattle.jumping.proofs.put_wanted.Goals as goal

pub returns-then-not-is_wanted : goal.returns-then-not-is_wanted
returns-then-not-is_wanted c =
    let a = c.args in
    let no = sym c.is_wanted.ensures ∙ c.if-not-is_wanted.true in
    nothing a.out.now a.at ∙ ap (put a.out.now a.at) (sym (ap (λ b. cond b (packet_of a.find a.«data».now) []) no))
