-- A receiver called over TPs, each until none, and told of gaps, by the promises of its contracts (document 01, "Receiver").
-- The calls may give any answers that the contract allows. Assumes nothing.
use Rattle.std.specs.Prelude.{◌≡◌, Bool, true, false, ◌&&◌, List, [], ◌∷◌, ◌++◌, ℕ, leb}
use Rattle.receiver.specs.declared.Find.{Find}
use Rattle.receiver.specs.declared.Find.TheVariants.{Nothing, Refused, Notice, Low, Ordinary}
use Rattle.receiver.specs.declared.Receiver.{Receiver}
use Rattle.receiver.specs.declared.Step.{Step}
use Rattle.receiver.specs.Call.{data_of, call_of, gap_of, Gives}
use Rattle.receiver.specs.Tp.{Input, tp_in, gap_told}

-- a receiver, and the bytes of its room
pub record Listener : Type 0 where
  pub receiver : Receiver
  pub room : List ℕ

-- a call: its step, and the room's bytes after it
pub record Called : Type 0 where
  pub step : Step
  pub room : List ℕ

abbrev pub onward : Listener → List Called → Listener
onward x [] = x
onward x (c ∷ cs) = onward (record { receiver = c.step.receiver; room = c.room }) cs

-- "the same TP and room are lent until one says none, which ends the TP, as 7, 9 .. do"; 6 and 8 begin none
abbrev pub ends : Find → Bool
ends Nothing = true
ends Refused = true
ends (Notice n) = leb 6 n && leb n 9
ends (Low c start n) = false
ends (Ordinary c n) = false

abbrev pub Either : Bool → Type 0 → Type 0 → Type 0
Either true ended more = ended
Either false ended more = more

-- the calls of one TP
abbrev pub Calls : List ℕ → Listener → List Called → Type 0
Calls tp x [] = ⊥
Calls tp x (c ∷ cs) =
    Gives (call_of x.receiver tp x.room) c.step tp c.room
    × Either (ends c.step.find) (cs ≡ []) (Calls tp (record { receiver = c.step.receiver; room = c.room }) cs)

abbrev pub told_of_gap : Listener → Listener
told_of_gap x = record { receiver = gap_of x.receiver; room = x.room }

-- TPs and told gaps, one after the other
abbrev pub Hears : Listener → List Input → List (List Called) → Type 0
Hears x [] [] = Unit {0}
Hears x [] (cs ∷ css) = ⊥
Hears x (tp_in tp ∷ xs) [] = ⊥
Hears x (tp_in tp ∷ xs) (cs ∷ css) = Calls tp x cs × Hears (onward x cs) xs css
Hears x (gap_told ∷ xs) css = Hears (told_of_gap x) xs css

-- TPs alone
abbrev pub tps_in : List (List ℕ) → List Input
tps_in [] = []
tps_in (tp ∷ tps) = tp_in tp ∷ tps_in tps

-- ---- what is handed out

-- a packet: its content and its data
abbrev pub Packet : Type 0
Packet = ℕ × List ℕ

abbrev pub low : Find → List ℕ → List Packet
low Nothing d = []
low Refused d = []
low (Notice n) d = []
low (Low c start n) d = (c, d) ∷ []
low (Ordinary c n) d = []

abbrev pub ordinary : Find → List ℕ → List Packet
ordinary Nothing d = []
ordinary Refused d = []
ordinary (Notice n) d = []
ordinary (Low c start n) d = []
ordinary (Ordinary c n) d = (c, d) ∷ []

-- the packets of one sort, in order, each with the stretch that its find names
abbrev pub in_tp : (Find → List ℕ → List Packet) → List ℕ → List Called → List Packet
in_tp sort tp [] = []
in_tp sort tp (c ∷ cs) = sort c.step.find (data_of c.step.find tp c.room) ++ in_tp sort tp cs

abbrev pub handed_out : (Find → List ℕ → List Packet) → List Input → List (List Called) → List Packet
handed_out sort [] css = []
handed_out sort (tp_in tp ∷ xs) [] = []
handed_out sort (tp_in tp ∷ xs) (cs ∷ css) = in_tp sort tp cs ++ handed_out sort xs css
handed_out sort (gap_told ∷ xs) css = handed_out sort xs css
