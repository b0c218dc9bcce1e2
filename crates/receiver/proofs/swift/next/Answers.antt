-- `receiver::swift::next` meets its contract, by the receiver whose words these are.
-- Assumes nothing.
use mathlib.Core.List.{List}
use mathlib.Core.Bool.{true}
use mathlib.Core.Path.{◌≡◌, refl, subst, sym, ◌∙◌}
use Prim.Native.Nat.{ℕ}
use lib.ListN.{get_or, length}
use Rattle.receiver.specs.Words.{fitb, receiver_in}
use Rattle.receiver.proofs.OnWords.{stands_as, swift_on, told_as, told_same, words_full, words_lent, words_whole}
use Rattle.receiver.proofs.swift.next.Goals as goal
use Rattle.receiver.proofs.swift.next.Goals.{Joined-w-eq1, then-w-eq1+in_default, else-w-eq1}

-- a low-latency part with no find leaves the words as they were
same : (c : Joined-w-eq1) → c.if-w-eq1.w ≡ c.args.w.now
same c =
    let a = c.args in
    elim c.if-w-eq1.branch [
      | then-w-eq1+in_default w ↦ w.w-is ∙ told_same (receiver_in a.w.now) a.tp.now a.room.now a.w.now _ (words_full a.w.now a.room.now c.if-room-w.false) w.low_again.result w.in_default.is w.low_again.ensures
      | else-w-eq1 w ↦ w.w-is
    ]

-- so what the tests said still holds of them
tested : (c : Joined-w-eq1) → (fitb c.if-w-eq1.w ≡ true) × (length c.args.tp.now ≡ get_or c.if-w-eq1.w 0 0) × (length c.args.room.now ≡ get_or c.if-w-eq1.w 2 0)
tested c = subst (λ (v : List ℕ). (fitb v ≡ true) × (length c.args.tp.now ≡ get_or v 0 0) × (length c.args.room.now ≡ get_or v 2 0)) (sym (same c)) (c.requires, c.if-tp-w.false, c.if-room-w.false)

pub low_again-requires : goal.low_again-requires
low_again-requires c = (c.requires, c.if-w-eq1.true, words_whole c.args.w.now c.args.tp.now c.if-tp-w.false)

pub returns-in-Some : goal.returns-in-Some
returns-in-Some c =
    let a = c.args in
    told_as (receiver_in a.w.now) a.tp.now a.room.now a.w.now _ (words_full a.w.now a.room.now c.if-room-w.false) c.low_again.result _ c.in-Some.is c.low_again.ensures

pub lane_in-lane-requires : goal.lane_in-lane-requires
lane_in-lane-requires c = (tested c).0

pub busy-requires : goal.busy-requires
busy-requires c =
    let a = c.args in
    let t = tested (goal.at.busy-requires c).Joined-w-eq1 in
    rw c.receiver_in.ensures (words_lent c.if-w-eq1.w a.tp.now t.0 t.1, words_full c.if-w-eq1.w a.room.now t.2)

pub returns-then-is_busy : goal.returns-then-is_busy
returns-then-is_busy c =
    let a = c.args in
    swift_on a.w.now c.if-w-eq1.w (same (goal.at.returns-then-is_busy c).Joined-w-eq1) c.busy.result a.tp.now a.room.now _ _ (rw c.receiver_in.ensures at c.busy.ensures)

pub returns-in-Other : goal.returns-in-Other
returns-in-Other c = (same (goal.at.returns-in-Other c).Joined-w-eq1, refl)

pub laned-requires : goal.laned-requires
laned-requires c =
    let a = c.args in
    let t = tested (goal.at.laned-requires c).Joined-w-eq1 in (
      t.0,
      stands_as c.lane_in-lane.result (receiver_in c.if-w-eq1.w) c.in_default-lane.not-Other c.lane_in-lane.ensures,
      words_whole c.if-w-eq1.w a.tp.now t.1,
      words_full c.if-w-eq1.w a.room.now t.2,
    )

pub returns : goal.returns
returns c = let a = c.args in swift_on a.w.now c.if-w-eq1.w (same (goal.at.returns c).Joined-w-eq1) c.laned.result a.tp.now a.room.now _ _ c.laned.ensures
