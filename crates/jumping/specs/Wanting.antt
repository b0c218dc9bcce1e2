-- The packet that a line of an index names (R-8): "the first of its sort begun at or after that place". Assumes nothing.
use Rattle.std.specs.Prelude.{ℕ, Bool, false, cond, not, ◌&&◌, List, []}
use Rattle.indexing.specs.Lines.{at_or_after}
use Rattle.reading.specs.Packets.{packet_of}
use Rattle.receiver.specs.declared.Find.{Find}
use Rattle.receiver.specs.declared.Find.TheVariants.{Nothing, Refused, Notice, Low, Ordinary}
use Rattle.receiver.specs.declared.Place.{Place}
use Rattle.jumping.specs.declared.Wanted.{Wanted}

-- "begun at or after that place"
abbrev pub begun_there : Wanted → Place → Bool
begun_there w p = at_or_after w.record w.place p.stamp.number p.at

-- "of its sort"
abbrev pub is_sort : Bool → Find → Bool
is_sort low Nothing = false
is_sort low Refused = false
is_sort low (Notice k) = false
is_sort low (Low c start n) = low
is_sort low (Ordinary c n) = not low

abbrev pub is_wanted : Wanted → Place → Find → Bool
is_wanted w p f = is_sort w.low f && begun_there w p

-- that packet's record, and nothing for any other find
abbrev pub wanted_of : Wanted → Place → Find → List ℕ → List ℕ
wanted_of w p f d = cond (is_wanted w p f) (packet_of f d) []
