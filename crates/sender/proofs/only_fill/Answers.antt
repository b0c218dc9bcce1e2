-- `sender::only_fill` meets its contract, by the laws `fill_drawn` and `fill_sound`. Assumes nothing.
use mathlib.Core.Path.{◌≡◌, sym, subst}
use Prim.Native.Nat.{◌+◌}
use lib.ListN.{length}
use Rattle.sender.specs.declared.Sender.{Sender}
use Rattle.sender.specs.Fields.{state}
use Rattle.sender.proofs.Drawn.{fill_drawn, fill_sound}
use Rattle.sender.proofs.only_fill.Goals as goal

pub invariant_of-result : goal.invariant_of-result
invariant_of-result c =
    let a = c.args in
    let r = subst (λ (s : Sender). (s.low.len + s.ordinary.len + s.owed ≡ 0) × (length a.tp.now ≡ s.setting.payload + 4)) (sym c.s.view_is) c.requires in
    let f = c.fill_part-owed.ensures in
    fill_sound (state c.s.inside) c.s.invariant r.0 a.tp.now _ _ r.1 f.dst_after f.value

pub returns : goal.returns
returns c =
    let a = c.args in
    let v = state c.s.inside in
    let r = subst (λ (s : Sender). (s.low.len + s.ordinary.len + s.owed ≡ 0) × (length a.tp.now ≡ s.setting.payload + 4)) (sym c.s.view_is) c.requires in
    let f = c.fill_part-owed.ensures in
    record { drawn_over = rw (← c.s.view_is) (fill_drawn v c.s.invariant r.0 a.tp.now _ _ r.1 f.dst_after f.value _ _ c.tp_header_of-h.ensures c.copy_at.ensures); sound_2 = fill_sound v c.s.invariant r.0 a.tp.now _ _ r.1 f.dst_after f.value }
