-- `reading::packet` meets its contract.
-- Assumes nothing.
use mathlib.Core.Path.{refl, ap}
use Rattle.reading.specs.Packets.{packet_of}
use Rattle.reading.proofs.Laws.{no_record, a_record}
use Rattle.reading.proofs.packet.Goals as goal
use Rattle.reading.proofs.packet.Goals.{in-Low, in-Ordinary}

pub returns-in-Nothing : goal.returns-in-Nothing
returns-in-Nothing c = no_record _ _ _ _ c.in-Nothing.is

pub returns : goal.returns
returns c =
    let x = c.args.«data».now in
    elim c.match-find.branch [
      | in-Low w ↦ a_record _ _ _ _ _ _ _ _ _ w.said-is refl (ap (λ f. packet_of f x) w.in-Low.is) c.write_record.ensures c.unwrap_or.ensures
      | in-Ordinary w ↦ a_record _ _ _ _ _ _ _ _ _ w.said-is refl (ap (λ f. packet_of f x) w.in-Ordinary.is) c.write_record.ensures c.unwrap_or.ensures
    ]
