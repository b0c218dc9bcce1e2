-- THE INDEX of a recording, as one definition over what the receiver's own definition finds in its records, and what growing makes
-- of it (R-8). Each input is read with its record's number and first byte as stamp. Assumes nothing.
use Rattle.std.specs.Prelude.{ℕ, suc, ◌+◌, ◌-◌, Bool, true, false, List, [], ◌∷◌, ◌++◌, length, drop, Option, None, Some}
use Rattle.receiver.specs.declared.Stamp.{Stamp}
use Rattle.receiver.specs.declared.Place.{Place}
use Rattle.receiver.specs.Frame.{Frame, lost, idle, head, body}
use Rattle.receiver.specs.Join.{Finding, notice, low, ordinary, Held, free, held}
use Rattle.receiver.specs.Low.{Tag, wire}
use Rattle.receiver.specs.Call.{always}
use Rattle.receiver.specs.Tp.{Setting, Stand, Listing, Input, tp_in, gap_told, listing_of}
use Rattle.indexing.specs.Lines.{Line}

-- a record's bytes: its head and its data
abbrev pub record_size : Input → ℕ
record_size (tp_in bs) = 8 + length bs
record_size gap_told = 8

-- "the setup is 0": the first input is record 1, and begins at byte 13
abbrev pub start_stamp : Stamp
start_stamp = record { number = 1; byte = 13 }

abbrev pub behind : Stamp → Input → Stamp
behind p x = record { number = suc p.number; byte = p.byte + record_size x }

abbrev pub behind_all : Stamp → List Input → Stamp
behind_all p [] = p
behind_all p (x ∷ xs) = behind_all (behind p x) xs

-- "It starts out of step."
abbrev pub fresh : Stand
fresh = record { frame = lost; held = free }

-- a packet's line; its place is that of its first EP byte
abbrev pub line_of : Bool → Tag → List ℕ → Line
line_of is_low t d = record { begun = t.at.stamp.number; place = t.at.at; is_low = is_low; content = t.content; bytes = length d }

-- "one line for each handed-out packet"
abbrev pub packets : List (Finding wire) → List Line
packets [] = []
packets (notice n p ∷ fs) = packets fs
packets (low t d ∷ fs) = line_of true t d ∷ packets fs
packets (ordinary t d ∷ fs) = line_of false t d ∷ packets fs

-- what the record with this stamp brings
abbrev pub record_of : Setting → Stamp → Stand → Input → Listing
record_of s p t x = listing_of s (always p) t x

-- "in order": of hand-out
abbrev pub lines_of : Setting → Stamp → Stand → List Input → List Line
lines_of s p t [] = []
lines_of s p t (x ∷ xs) = packets (record_of s p t x).0 ++ lines_of s (behind p x) (record_of s p t x).1 xs

abbrev pub stand_at : Setting → Stamp → Stand → List Input → Stand
stand_at s p t [] = t
stand_at s p t (x ∷ xs) = stand_at s (behind p x) (record_of s p t x).1 xs

-- "the unfinished EP": also a fill, one that is passed over, and a header that is cut
abbrev pub under_way : Frame wire → Option Place
under_way lost = None
under_way idle = None
under_way (head p k hs) = Some p
under_way (body h k) = Some h.at

-- "or held series (the older, if any)": a series that is held is the older
abbrev pub unfinished : Held wire → Frame wire → Option Place
unfinished free f = under_way f
unfinished (held t d) f = Some t.at

abbrev pub stamp_in : Option Place → Option Stamp
stamp_in None = None
stamp_in (Some p) = Some p.stamp

-- "at which record the unfinished EP or held series .. began"
abbrev pub since_of : Stand → Option Stamp
since_of t = stamp_in (unfinished t.held t.frame)

-- next: the first record that is not covered
pub record Index : Type 0 where
  pub next : Stamp
  pub since : Option Stamp
  pub lines : List Line

-- MADE AFRESH
unfoldable pub index_of : Setting → List Input → Index
index_of s xs = record {
  next = behind_all start_stamp xs;
  since = since_of (stand_at s start_stamp fresh xs);
  lines = lines_of s start_stamp fresh xs;
}

-- "growing reads from there, else from the first new record": where it stands before the first new record
abbrev pub regrown : Setting → Option Stamp → List Input → Stand
regrown s None xs = fresh
regrown s (Some p) xs = stand_at s p fresh (drop (p.number - 1) xs)

-- "and lists nothing twice": of the covered records xs it only reads, of the new ones ys it lists
abbrev pub new_lines : Setting → Stamp → Option Stamp → List Input → List Input → List Line
new_lines s p since xs ys = lines_of s p (regrown s since xs) ys

abbrev pub new_since : Setting → Stamp → Option Stamp → List Input → List Input → Option Stamp
new_since s p since xs ys = since_of (stand_at s p (regrown s since xs) ys)

-- GROWN
unfoldable pub grow_of : Setting → Index → List Input → List Input → Index
grow_of s ix xs ys = record {
  next = behind_all ix.next ys;
  since = new_since s ix.next ix.since xs ys;
  lines = ix.lines ++ new_lines s ix.next ix.since xs ys;
}
