-- By the first test that fails. Assumes nothing.
use Rattle.std.proofs.Common.{sym, ◌∙◌}
use Rattle.chapter11.proofs.Packets.{too_short, too_long, no_sync, other_length, wrong_sum, right_sum}
use Rattle.chapter11.proofs.packet.is_packet.Goals.{then-p-lt24-via-then-p-lt24, then-p-lt24-via-else-p-lt24+then-p-gt-LONGEST, then-p-lt24-via-else-p-lt24+else-p-gt-LONGEST+then-two_at-ne-SYNC, then-p-lt24-via-else-p-lt24+else-p-gt-LONGEST+else-two_at-ne-SYNC+then-four_at-p, then-p-lt24-via-else-p-lt24+else-p-gt-LONGEST+else-two_at-ne-SYNC+else-four_at-p+then-two_at-sum_of}
use Rattle.chapter11.proofs.packet.is_packet.Goals as goal

pub returns-then-p-lt24 : goal.returns-then-p-lt24
returns-then-p-lt24 c =
    elim c.then-p-lt24.branch [
      | then-p-lt24-via-then-p-lt24 w ↦ too_short _ w.if-p-lt24.true
      | then-p-lt24-via-else-p-lt24+then-p-gt-LONGEST w ↦ too_long _ w.if-p-lt24.false w.if-p-gt-LONGEST.true
      | then-p-lt24-via-else-p-lt24+else-p-gt-LONGEST+then-two_at-ne-SYNC w ↦ no_sync _ w.if-p-lt24.false w.if-p-gt-LONGEST.false (λ e. w.if-two_at-ne-SYNC.true (w.two_at.ensures ∙ e))
      | then-p-lt24-via-else-p-lt24+else-p-gt-LONGEST+else-two_at-ne-SYNC+then-four_at-p w ↦ other_length _ w.if-p-lt24.false w.if-p-gt-LONGEST.false (sym w.two_at.ensures ∙ w.if-two_at-ne-SYNC.false) (λ e. w.if-four_at-p.true (w.four_at.ensures ∙ e))
      | then-p-lt24-via-else-p-lt24+else-p-gt-LONGEST+else-two_at-ne-SYNC+else-four_at-p+then-two_at-sum_of w ↦ wrong_sum _ w.if-p-lt24.false w.if-p-gt-LONGEST.false (sym w.two_at.ensures ∙ w.if-two_at-ne-SYNC.false) (sym w.four_at.ensures ∙ w.if-four_at-p.false) (λ e. w.if-two_at-sum_of.true (w.two_at-else-four_at-p.ensures ∙ e ∙ sym w.sum_of.ensures))
    ]

pub returns : goal.returns
returns c = right_sum _ c.if-p-lt24.false c.if-p-gt-LONGEST.false (sym c.two_at.ensures ∙ c.if-two_at-ne-SYNC.false) (sym c.four_at.ensures ∙ c.if-four_at-p.false) (sym c.two_at-else-four_at-p.ensures ∙ c.if-two_at-sum_of.false ∙ c.sum_of.ensures) _ c.together.ensures
