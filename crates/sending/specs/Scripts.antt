-- What the sending program writes for a script (document 01, 'Records and programs'), as one definition over the sender's own calls.
-- Assumes nothing.
use Rattle.std.specs.Prelude.{ℕ, List, [], ◌∷◌, ◌++◌, replicate}
use Rattle.std.proofs.Math.Option.{Option, none, some}
use Rattle.house.specs.Records.{record_bytes}
use Rattle.house.specs.Series.{Item}
use Rattle.house.specs.declared.Record.{Record}
use Rattle.house.specs.declared.Record.TheVariants.{Setup, Ordinary, Low, Draw, Packet, Gap}
use Rattle.sender.specs.Run.{Call, ordinary, low, draw, World, Deed, refused, took, took_low, drew, next, deed}

-- "1 ordinary SP, 2 low-latency SP, 3 draw": the call that a record asks for, a draw into a cleared buffer; the others ask for none
abbrev pub asked : ℕ → Record → List ℕ → Option Call
asked tp Setup d = none
asked tp (Ordinary c n) d = some (ordinary c d)
asked tp (Low c n) d = some (low c d)
asked tp Draw d = some (draw (replicate tp 0))
asked tp (Packet n) d = none
asked tp Gap d = none

-- "writes .. kind 4 records": one for each TP; "A refused offer is skipped."
abbrev pub record_of : ℕ → Deed → List ℕ
record_of tp refused = []
record_of tp (took c d) = []
record_of tp (took_low c d) = []
record_of tp (drew t) = record_bytes (Packet tp) t.bytes

-- what a call writes, and what it leaves
abbrev pub writes : ℕ → World → Option Call → List ℕ
writes tp w none = []
writes tp w (some c) = record_of tp (deed w c)

abbrev pub leaves : World → Option Call → World
leaves w none = w
leaves w (some c) = next w c

-- of a script's records behind the setup, by a sender of this TP length and its queues: what is written, and what is left
abbrev pub sent_by : ℕ → World → List Item → List ℕ
sent_by tp w [] = []
sent_by tp w (x ∷ xs) = writes tp w (asked tp x.said x.bytes) ++ sent_by tp (leaves w (asked tp x.said x.bytes)) xs

abbrev pub left_by : ℕ → World → List Item → World
left_by tp w [] = w
left_by tp w (x ∷ xs) = left_by tp (leaves w (asked tp x.said x.bytes)) xs

-- THE RECORDING of a script with this setup: "writes kind 0 and kind 4 records"
abbrev pub recording : ℕ → List ℕ → World → List Item → List ℕ
recording tp setup w xs = record_bytes Setup setup ++ sent_by tp w xs
