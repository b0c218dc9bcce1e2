-- R-8'S STATEMENTS: the index beside a recording, over `indexed.Index` and the receiver's own definitions. Assumes nothing.
use Rattle.std.specs.Prelude.{ℕ, ◌-◌, ◌<◌, ◌≡◌, ◌⊎◌, Bool, true, false, not, ◌&&◌, List, [], ◌∷◌, ◌++◌, map, take, drop, Some}
use Rattle.receiver.specs.declared.Stamp.{Stamp}
use Rattle.receiver.specs.declared.Place.{Place}
use Rattle.receiver.specs.Join.{held}
use Rattle.receiver.specs.Low.{Tag, wire}
use Rattle.receiver.specs.Tp.{Setting, Stand, Input}
use Rattle.indexing.specs.Lines.{Line, at_or_after}
use Rattle.indexed.specs.Index.{start_stamp, behind, behind_all, fresh, line_of, record_of, stand_at, under_way, index_of, grow_of}
use Rattle.indexed.specs.Packets.{Packet, handed, chosen, first, Rising}

-- ---- "one line for each handed-out packet, in order"

-- what a receiver that stands so hands out of these inputs, the first of them a record with this stamp
abbrev pub handed_all : Setting → Stamp → Stand → List Input → List (Packet wire)
handed_all s p t [] = []
handed_all s p t (x ∷ xs) = handed wire (record_of s p t x).0 ++ handed_all s (behind p x) (record_of s p t x).1 xs

-- of a whole recording
abbrev pub handed_out : Setting → List Input → List (Packet wire)
handed_out s xs = handed_all s start_stamp fresh xs

abbrev pub line_by : Packet wire → Line
line_by q = line_of q.is_low q.tag q.bytes

abbrev pub Listed : Type 0
Listed = (s : Setting) (xs : List Input) → (index_of s xs).lines ≡ map line_by (handed_out s xs)

-- ---- "When records are added at the end, the index grows without reading the whole recording again, and equals one made afresh."

abbrev pub Grown : Type 0
Grown = (s : Setting) (xs ys : List Input) → grow_of s (index_of s xs) xs ys ≡ index_of s (xs ++ ys)

-- ---- "the unfinished EP or held series (the older, if any)": where both are there, line 0 names the series

-- record k, place i stands before record n, place j
abbrev pub Earlier : ℕ → ℕ → ℕ → ℕ → Type 0
Earlier k i n j = (k < n) ⊎ ((k ≡ n) × (i < j))

abbrev pub Older : Type 0
Older = (s : Setting) (xs : List Input) (t : Tag) (d : List ℕ) (p : Place)
    → (stand_at s start_stamp fresh xs).held ≡ held t d → under_way (stand_at s start_stamp fresh xs).frame ≡ Some p
    → Earlier t.at.stamp.number t.at.at p.stamp.number p.at ⊎ (t.at ≡ p)

-- ---- lines of one sort rise, by record and place

abbrev pub same_sort : Bool → Bool → Bool
same_sort true b = b
same_sort false b = not b

abbrev pub of_sort : Bool → List Line → List Line
of_sort is_low ls = chosen (λ (l : Line). same_sort is_low l.is_low) ls

abbrev pub Before : Line → Line → Type 0
Before l m = Earlier l.begun l.place m.begun m.place

abbrev pub Rises : Type 0
Rises = (s : Setting) (xs : List Input) (is_low : Bool) → Rising Before (of_sort is_low (index_of s xs).lines)

-- ---- "From any line, a receiver started at that record finds that packet as the first of its sort begun at or after that place."

-- "a receiver started at that record": what it hands out
abbrev pub started_at : Setting → List Input → ℕ → List (Packet wire)
started_at s xs k = handed_all s (behind_all start_stamp (take (k - 1) xs)) fresh (drop (k - 1) xs)

-- "of its sort begun at or after that place"
abbrev pub sought : Line → Packet wire → Bool
sought l q = same_sort l.is_low q.is_low && at_or_after l.begun l.place (line_by q).begun (line_by q).place

abbrev pub FromLine : Type 0
FromLine = (s : Setting) (xs : List Input) (before behind : List (Packet wire)) (q : Packet wire) → handed_out s xs ≡ before ++ q ∷ behind
    → first (chosen (sought (line_by q)) (started_at s xs (line_by q).begun)) ≡ Some q
