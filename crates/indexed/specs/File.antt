-- The index as a file (R-8): its bytes, what a growth writes and in which order, and what may be left where it is killed.
-- Assumes nothing; `Partly` says what is assumed of the file system.
use Rattle.std.specs.Prelude.{ℕ, ◌+◌, ◌-◌, ◌≤◌, ◌<◌, ◌≡◌, ◌⊎◌, Bool, cond, ◌&&◌, List, [], ◌∷◌, ◌++◌, eqb, leb, ltb, length, take, drop, Option, None, Some}
use Rattle.receiver.specs.declared.Stamp.{Stamp}
use Rattle.receiver.specs.Tp.{Setting, Input}
use Rattle.line_zero.specs.declared.Top.{Top}
use Rattle.indexing.specs.Lines.{Line, line_text}
use Rattle.line_zero.specs.Top.{top_text, top_in, Small}
use Rattle.indexed.specs.Index.{start_stamp, behind_all, Index, index_of, new_lines, new_since}

abbrev pub lines_text : List Line → List ℕ
lines_text [] = []
lines_text (l ∷ ls) = line_text l ++ lines_text ls

-- line 0's numbers for the record named, 0 if none is
abbrev pub number_of : Option Stamp → ℕ
number_of None = 0
number_of (Some p) = p.number

abbrev pub byte_of : Option Stamp → ℕ
byte_of None = 0
byte_of (Some p) = p.byte

abbrev pub top_with : Stamp → Option Stamp → ℕ → Top
top_with p since size = record { covered = p.number; since = number_of since; end = p.byte; from = byte_of since; size = size }

abbrev pub top_of : Index → Top
top_of ix = top_with ix.next ix.since (133 + length (lines_text ix.lines))

-- THE FILE: line 0, then "one line for each handed-out packet"
unfoldable pub file_of : Index → List ℕ
file_of ix = top_text (top_of ix) ++ lines_text ix.lines

-- ---- what line 0 says to a growth

abbrev pub next_of : Top → Stamp
next_of z = record { number = z.covered; byte = z.end }

abbrev pub since_in : Top → Option Stamp
since_in z = cond (eqb z.since 0) None (Some (record { number = z.since; byte = z.from }))

-- ---- writes

-- another file takes the name; all behind so many bytes goes; an append; a write over the first bytes
pub data Write : Type 0 where
  renamed : List ℕ → Write
  cut : ℕ → Write
  add over : List ℕ → Write

abbrev pub done : List ℕ → Write → List ℕ
done f (renamed bs) = bs
done f (cut n) = take n f
done f (add bs) = f ++ bs
done f (over bs) = bs ++ drop (length bs) f

abbrev pub all_done : List ℕ → List Write → List ℕ
all_done f [] = f
all_done f (w ∷ ws) = all_done (done f w) ws

-- killed during a write: of an append any part may be there, of what is to go any part may be left.
-- ASSUMED of the file system: the renaming, and the one write over line 0, happen or don't
abbrev pub Partly : List ℕ → Write → List ℕ → Type 0
Partly f (renamed bs) g = g ≡ f
Partly f (cut n) g = (m : ℕ) × (n ≤ m) × (g ≡ take m f)
Partly f (add bs) g = (m : ℕ) × (g ≡ f ++ take m bs)
Partly f (over bs) g = g ≡ f

-- what may be left of f, killed at any moment of these writes, also behind the last
abbrev pub Killed : List ℕ → List Write → List ℕ → Type 0
Killed f [] g = g ≡ f
Killed f (w ∷ ws) g = Partly f w g ⊎ Killed (done f w) ws g

-- a growth from this line 0, over all records of the recording
abbrev pub grown_lines : Setting → Top → List Input → List Line
grown_lines s z zs = new_lines s (next_of z) (since_in z) (take (z.covered - 1) zs) (drop (z.covered - 1) zs)

abbrev pub grown_top : Setting → Top → List Input → Top
grown_top s z zs =
    top_with (behind_all (next_of z) (drop (z.covered - 1) zs))
    (new_since s (next_of z) (since_in z) (take (z.covered - 1) zs) (drop (z.covered - 1) zs))
    (z.size + length (lines_text (grown_lines s z zs)))

abbrev pub growth : Setting → Top → List Input → List Write
growth s z zs = cut z.size ∷ add (lines_text (grown_lines s z zs)) ∷ over (top_text (grown_top s z zs)) ∷ []

-- how many bytes a recording has: its setup, its whole records, and so many bytes of one that is still being written
abbrev pub bytes_of : List Input → ℕ → ℕ
bytes_of zs rest = (behind_all start_stamp zs).byte + rest

-- 23: "index covers more records than the recording has"
abbrev pub covers_more : Top → ℕ → Bool
covers_more z bytes = ltb bytes z.end

-- line 0 is part of what it counts, and a file that was cut is no index
abbrev pub is_whole : Top → ℕ → Bool
is_whole z bytes = leb 133 z.size && leb z.size bytes

-- what a file of so many bytes with this line 0 gets; 23, and no index: nothing is written
abbrev pub writes_by : Setting → Option Top → ℕ → List Input → ℕ → List Write
writes_by s None n zs rest = []
writes_by s (Some z) n zs rest = cond (is_whole z n) (cond (covers_more z (bytes_of zs rest)) [] (growth s z zs)) []

abbrev pub empty_top : Top
empty_top = top_with start_stamp None 133

-- a file that is missing or shorter than line 0 becomes the empty index first
unfoldable pub writes_of : Setting → List ℕ → List Input → ℕ → List Write
unfolding top_in top_text
writes_of s f zs rest =
    cond (ltb (length f) 133) (renamed (top_text empty_top) ∷ growth s empty_top zs) (writes_by s (top_in f) (length f) zs rest)

abbrev pub grow_file : Setting → List ℕ → List Input → ℕ → List ℕ
grow_file s f zs rest = all_done f (writes_of s f zs rest)

-- ---- the promise

-- line 0 of each first part of a recording holds its numbers
abbrev pub Good : Setting → List Input → Type 0
Good s zs = (xs ys : List Input) → zs ≡ xs ++ ys → Small (top_of (index_of s xs))

-- all that can befall an index: it is missing or shorter than line 0; it grows; a growth is killed; records are added
pub data History (s : Setting) : List ℕ → List Input → Type 0 where
  torn : (f : List ℕ) (zs : List Input) → length f < 133 → History s f zs
  grew : (f : List ℕ) (zs : List Input) (rest : ℕ) → History s f zs → Good s zs → History s (grow_file s f zs rest) zs
  killed : (f g : List ℕ) (zs : List Input) (rest : ℕ) → History s f zs → Good s zs → Killed f (writes_of s f zs rest) g → History s g zs
  added : (f : List ℕ) (zs ys : List Input) → History s f zs → History s f (zs ++ ys)

-- THE STATEMENT: whatever befell it, the next growth gives the index made afresh, byte for byte
abbrev pub KillSafe : Type 0
KillSafe = (s : Setting) (f : List ℕ) (zs : List Input) (rest : ℕ) → History s f zs → Good s zs → grow_file s f zs rest ≡ file_of (index_of s zs)
