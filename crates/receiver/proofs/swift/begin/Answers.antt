-- `receiver::swift::begin` meets its contract: what the header says, and where that points.
-- Assumes nothing.
use mathlib.Core.Path.{ap, sym, ◌∙◌}
use mathlib.Core.Bool.{Bool}
use Rattle.receiver.specs.declared.entry.Top.TheVariants.{Says}
use Rattle.receiver.proofs.Swiftly.{begins_by}
use Rattle.receiver.proofs.TakingUp.{says_small}
use Rattle.receiver.proofs.swift.begin.Goals as goal

pub place_of-requires : goal.place_of-requires
place_of-requires c =
    let e = sym c.read_top.ensures ∙ c.in-Says.is in
    (says_small c.args.stream c.args.tp.now _ _ e, c.requires)

pub returns : goal.returns
returns c =
    let o = c.in-Says.offset in
    let e = sym c.read_top.ensures ∙ c.in-Says.is ∙ ap (λ (b : Bool). Says b o) c.if-low.false in
    rw c.ok.ensures.value (begins_by c.args.stream o c.args.tp.now _ e (sym c.place_of.ensures))
