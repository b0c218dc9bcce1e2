-- `Console::run_lent`: what the program holds behind the records taken, it holds before what is left with whatever was read behind it.
-- Assumes nothing.
use Prim.Native.Nat.{ℕ, ◌+◌, ◌-◌, ◌*◌, ◌≤◌}
use mathlib.Core.Path.{◌≡◌, ap, sym, subst, ◌∙◌}
use mathlib.Core.List.{List, ◌++◌}
use native.Mathlib.Omega.{arith}
use lib.ListN.{length, drop}
use Rattle.console.specs.Taking.{stretch, behind, Onward, Goes}
use Rattle.console.specs.declared.TheConstants.{BLOCKS, SIZE}
use Rattle.console.specs.declared.Unread.{Unread}
use Rattle.console.proofs.Onward.{goes_on}
use Rattle.console.proofs.Rounds.{behind_fits, behind_is, read_behind, goes_behind, read_most, both_most}
use Rattle.console.proofs.Console.run_lent.Goals as goal

pub behind-requires : goal.behind-requires
behind-requires g c =
    let begins = rw c.in-Some.is at c.take-taken.ensures.begins in
    let i = c.loop.invariant in
    let most = behind_fits c.loop.block c.loop.unread c.in-Some.refused.begin i.from (omega arith) (rw (← c.bytes_of.ensures) begins) in
    omega arith

pub loop-preserved : goal.loop-preserved
loop-preserved g c =
    let l = c.loop in
    let i = c.loop.invariant in
    let p = c.args.program.now in
    let d = c.loop.block in
    let u = c.loop.unread in
    let k = c.take-taken.result.bytes in
    let b = c.go_on.new.block in
    let v = c.in-Some-go_on.next in
    let n : ℕ = (BLOCKS - c.loop.counter) * SIZE in
    let m : ℕ = (BLOCKS - (c.loop.counter + 1)) * SIZE in
    let within : k ≤ length (stretch d u) = rw (← c.bytes_of.ensures) c.take-taken.ensures.whole.within in
    let rest : c.behind-rest.result ≡ behind u k = c.behind-rest.ensures in
    let on : Onward d (behind u k) b v = goes_on d (behind u k) b v c.go_on.result (subst (λ (x : Unread). Goes d x b c.go_on.result) rest c.go_on.ensures) c.in-Some-go_on.is in
    let more = read_behind d (behind u k) b v in
    let most = read_most d (behind u k) b v in
    let size : length b ≡ SIZE = omega arith in
    let left : drop k c.bytes_of.result.now ≡ stretch d (behind u k) = ap (drop k) c.bytes_of.ensures ∙ behind_is d u k i.from (omega arith) within in
    let taken : g.P.Lent.Behind p c.take-taken.new.self c.take-taken.new.buffers n (stretch d (behind u k)) =
    subst (λ (x : List ℕ). g.P.Lent.Behind p c.take-taken.new.self c.take-taken.new.buffers n x) left (c.take-taken.ensures.behind p n (subst (λ (x : List ℕ). g.P.Lent.Before p l.program l.buffers n x) (sym c.bytes_of.ensures) i.before)) in
    record {
      from = on.from;
      till = omega (arith, on.end);
      size = size;
      before = subst (λ (x : List ℕ). g.P.Lent.Before p c.empty.new.self c.take-taken.new.buffers m x) (goes_behind d (behind u k) b v on) (c.empty.ensures p c.take-taken.new.buffers n m (stretch d (behind u k)) more (omega arith) (omega (arith, both_most d (behind u k) b v on)) taken);
    }
