-- What a recording lists (document 01, 'Listing'), as one definition over what the receiver's own definition finds in its records.
-- Assumes nothing.
use Rattle.std.specs.Prelude.{ℕ, suc, List, [], ◌∷◌, ◌++◌, length}
use Rattle.receiver.specs.Frame.{lost}
use Rattle.receiver.specs.Join.{Finding, notice, low, ordinary, free}
use Rattle.receiver.specs.Low.{wire}
use Rattle.receiver.specs.Tp.{Setting, Stand, Input, tp_in, gap_told, listing_of, stamping_of, count_after}
use Rattle.listing.specs.Lines.{header_line, low_word, ordinary_word, notice_word, line_with}

-- "sort (low, ordinary, notice), content or notice number, data bytes (0 for a notice)"
abbrev pub find_line : ℕ → Finding wire → List ℕ
find_line tp (notice k p) = line_with tp notice_word k 0
find_line tp (low t d) = line_with tp low_word t.content (length d)
find_line tp (ordinary t d) = line_with tp ordinary_word t.content (length d)

-- "a line for each find" of the TP with this number
abbrev pub tp_lines : ℕ → List (Finding wire) → List ℕ
tp_lines tp [] = []
tp_lines tp (f ∷ fs) = find_line tp f ++ tp_lines tp fs

-- "number, from 1, of the TP that gave it (refused TPs count, gaps don't)": of the records behind n TPs, of which the receiver
-- has counted c ("The listing keeps its own TP numbers.")
abbrev pub lines_behind : Setting → ℕ → ℕ → Stand → List Input → List ℕ
lines_behind s n c t [] = []
lines_behind s n c t (tp_in b ∷ xs) =
    tp_lines (suc n) (listing_of s (stamping_of c) t (tp_in b)).0
    ++ lines_behind s (suc n) (count_after s c (tp_in b)) (listing_of s (stamping_of c) t (tp_in b)).1 xs
lines_behind s n c t (gap_told ∷ xs) = lines_behind s n c (listing_of s (stamping_of c) t gap_told).1 xs

-- THE LISTING of a recording with these settings and records: "header line, then a line for each find"
abbrev pub listed : Setting → List Input → List ℕ
listed s xs = header_line ++ lines_behind s 0 0 (record { frame = lost; held = free }) xs
