-- Demand 3 with gaps in the middle (document 02, R-13): any TPs may be missing, and the receiver is told of a gap at each place where some
-- are and nowhere else. Assumes nothing.
use Rattle.std.specs.Prelude.{Bool, true, false, cond, ◌&&◌, ◌||◌, List, [], ◌∷◌, ℕ, suc, ◌-◌, leb}
use Rattle.receiver.specs.Tp.{Input, tp_in, gap_told}
use Rattle.sender.specs.Run.{tps}
use Rattle.downlink.specs.Hearing.{Called, Hears}
use Rattle.downlink.specs.Demand.{carries, Link, did, Roomy, RightOf}

-- what the receiver hears of TPs, of which the first has the number n and these arrived: a gap for each stretch that is missing, unless it
-- was told already (at the start of listening it may be told, or not)
abbrev pub heard_of : (ℕ → Bool) → Bool → ℕ → List (List ℕ) → List Input
heard_of arrived told n [] = []
heard_of arrived told n (r ∷ rs) =
    cond (arrived n) (tp_in r ∷ heard_of arrived false (suc n) rs)
    (cond told (heard_of arrived true (suc n) rs) (gap_told ∷ heard_of arrived true (suc n) rs))

-- of TPs that carry so many ordinary bytes, of which the first has the number n: all arrived up to the one with the byte before `end`, those
-- that carry no ordinary byte included
abbrev pub up_to : (ℕ → Bool) → ℕ → List ℕ → ℕ → Bool
up_to arrived n [] end = false
up_to arrived n (m ∷ ms) end = arrived n && (leb end m || up_to arrived (suc n) ms (end - m))

-- "every TP from the first byte to the last arrived": from the one with byte `first` on
abbrev pub through : (ℕ → Bool) → ℕ → List ℕ → ℕ → ℕ → Bool
through arrived n [] first end = false
through arrived n (m ∷ ms) first end = cond (leb m first) (through arrived (suc n) ms (first - m) (end - m)) (up_to arrived n (m ∷ ms) end)

-- where this holds of the link, a receiver that is called over the TPs that arrived, each until it ends, and told of the gaps, does this
abbrev pub WithGaps : (Link → Type 0) → (Link → (ℕ → Bool) → (ℕ → ℕ → Bool) → List Input → List (List Called) → Type 0) → Type 0
WithGaps holds does =
    (l : Link) → holds l → (arrived : ℕ → Bool) (told : Bool) (calls : List (List Called))
    → Hears l.listener (heard_of arrived told 0 l.got) calls
    → does l arrived (through arrived 0 (carries (tps (did l)))) (heard_of arrived told 0 l.got) calls

-- "Then the ordinary packets handed out are exactly those for which every TP from the first byte to the last arrived, and the low-latency
-- ones exactly those whose TP arrived, each sort in order."
abbrev pub Demand13 : Type 0
Demand13 = WithGaps Roomy RightOf
