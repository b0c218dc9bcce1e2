-- What the reading program writes for a find: a packet handed out is a record of kind 1 (ordinary) or 2 (low-latency) with its
-- content and data, as it was offered; a notice writes nothing. Assumes nothing.
use Rattle.std.specs.Prelude.{ℕ, List, [], length}
use Rattle.house.specs.Records.{record_bytes}
use Rattle.house.specs.declared.Record.TheVariants as R
use Rattle.receiver.specs.declared.Find.{Find}
use Rattle.receiver.specs.declared.Find.TheVariants.{Nothing, Refused, Notice, Low, Ordinary}

-- of a find with these data
abbrev pub packet_of : Find → List ℕ → List ℕ
packet_of Nothing d = []
packet_of Refused d = []
packet_of (Notice k) d = []
packet_of (Low c start n) d = record_bytes (R.Low c (length d)) d
packet_of (Ordinary c n) d = record_bytes (R.Ordinary c (length d)) d
