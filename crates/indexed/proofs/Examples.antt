-- THE INDEX OF EXAMPLE 6 (document 01), computed: of both its TPs, and of the first alone, whose end cuts the second packet's header.
-- Assumes nothing.
use mathlib.Core.Path.{◌≡◌, refl, ap, ap₂, ◌∙◌}
use mathlib.Core.Bool.{true, false}
use mathlib.Core.List.{List, [], ◌∷◌, ◌++◌}
use Prim.Native.Nat.{ℕ}
use lib.Count.{ones_in}
use lib.ListN.{drop}
use Rattle.std.specs.Prelude.{Option, None, Some}
use Rattle.golay.specs.Answers.{end_flips, end_of}
use Rattle.wire.specs.declared.Header.{Header}
use Rattle.wire.specs.Reading.{header_of, sort_of}
use Rattle.receiver.specs.declared.Stamp.{Stamp}
use Rattle.receiver.specs.Frame.{Frame, idle, head, Event, opened, entered, fed, closed, whole, after, events}
use Rattle.receiver.specs.Forecast.{Start, start, goes, read, way_at}
use Rattle.receiver.specs.Join.{low, ordinary, free}
use Rattle.receiver.specs.declared.Place.{Place}
use Rattle.receiver.specs.Place.{start_of, placed}
use Rattle.receiver.specs.Call.{always}
use Rattle.receiver.specs.Kind.{kind_of, piece_of}
use Rattle.receiver.specs.Low.{Ep, ep_at, ep_if, Tag, wire, llep, low_part, sized, walk}
use Rattle.receiver.specs.Tp.{Setting, Brings, Stand, Listing, brings, heard_by, Input, tp_in, listing}
use Rattle.block.specs.Decimal.{decimal}
use Rattle.line_zero.specs.Top.{top_text}
use Rattle.indexing.specs.Lines.{Line, line_with}
use Rattle.examples.specs.Examples.{first_tp, second_tp}
use Rattle.examples.proofs.Sixth.{first_word, second_word, low_header, cut_header, fill_header}
use Rattle.indexed.specs.Index.{start_stamp, behind, fresh, packets, record_of, since_of, index_of}
use Rattle.indexed.specs.File.{file_of}

-- TP length 16, stream 0, the programs' room
abbrev pub setting : Setting
setting = record { size = 16; stream = 0; room = 32768 }

abbrev pub low_line : Line
low_line = record { begun = 1; place = 0; is_low = true; content = 1; bytes = 2 }

abbrev pub ordinary_line : Line
ordinary_line = record { begun = 1; place = 9; is_low = false; content = 4; bytes = 1 }

-- its packets
abbrev tag_at : ℕ → ℕ → Tag
tag_at content place = record { content = content; repaired = 0; at = record { stamp = start_stamp; at = place } }

-- behind the first TP three bytes of a header are read, which began at place 9
abbrev cut_at : Stand
cut_at = record { frame = head (record { stamp = start_stamp; at = 9 }) 2 (0x10 ∷ 0x07 ∷ 0xB4 ∷ []); held = free }

first_record : record_of setting start_stamp fresh (tp_in first_tp) ≡ (low (tag_at 1 0) (0x11 ∷ 0x22 ∷ []) ∷ [], cut_at)
unfolding brings low_part walk llep sized header_of end_of end_flips kind_of sort_of piece_of way_at ones_in
first_record = simp (first_word, low_header)

abbrev header_with : ℕ → ℕ → Header
header_with content size = record { content = content; fragment = 0; size = size; flips = 0 }

-- the header that the second TP finishes, and the fill's
cut_of : header_of (0x10 ∷ 0x07 ∷ 0xB4 ∷ 0x00 ∷ 0x18 ∷ 0xEB ∷ []) ≡ Some (header_with 4 1)
unfolding header_of
cut_of = cut_header

fill_of : header_of (0x00 ∷ 0x00 ∷ 0x00 ∷ 0x00 ∷ 0x29 ∷ 0x3E ∷ []) ≡ Some (header_with 0 2)
unfolding header_of
fill_of = fill_header

abbrev between : Stand
between = record { frame = idle; held = free }

abbrev second : Stamp
second = behind start_stamp (tp_in first_tp)

abbrev bytes : List (Place × ℕ)
bytes = placed second 4 (drop 4 second_tp)

second_brings : brings setting (always second) second_tp ≡ record { lows = []; way = goes (start_of second) 4 bytes }
unfolding brings way_at
second_brings = simp (second_word)

-- the offset is as foretold
set_out_lem : start wire (start_of second) cut_at.frame 4 bytes ≡ record { told = []; frame = cut_at.frame; past = 0 }
set_out_lem = simp (cut_of)

abbrev headed : Ep
headed = ep_at (record { stamp = start_stamp; at = 9 }) (header_with 4 1)

abbrev filled : Ep
filled = ep_at (record { stamp = second; at = 4 }) (header_with 0 2)

-- a data byte, and then a fill EP that ends with the payload
left_frame : after wire cut_at.frame bytes ≡ idle
left_frame =
    ap (λ (o : Option Header). after wire (whole wire headed.at (ep_if headed.at o)).0 (drop 3 bytes)) cut_of
    ∙ ap (λ (o : Option Header). after wire (whole wire filled.at (ep_if filled.at o)).0 (drop 10 bytes)) fill_of

told_events : events wire cut_at.frame bytes
    ≡ opened headed ∷ entered headed ∷ fed 0x33 ∷ closed headed ∷ opened filled ∷ entered filled ∷ fed 0xAA ∷ fed 0xAA ∷ closed filled ∷ []
told_events = simp (cut_of) (simp (fill_of) refl)

second_record : record_of setting second cut_at (tp_in second_tp) ≡ (ordinary (tag_at 4 9) (0x33 ∷ []) ∷ [], between)
unfolding kind_of sort_of piece_of
second_record =
    ap (λ (x : Brings). listing setting cut_at (heard_by cut_at.frame x)) second_brings
    ∙ ap (λ (t : Start wire). listing setting cut_at (record { lows = []; told = (read wire t bytes).1; frame = (read wire t bytes).0 })) set_out_lem
    ∙ ap₂ (λ (f : Frame wire) (es : List (Event wire)). listing setting cut_at (record { lows = []; told = es; frame = f })) left_frame told_events

-- an index by what its records bring
of_one : (s : Setting) (x : Input) (r : Listing) → record_of s start_stamp fresh x ≡ r
    → index_of s (x ∷ []) ≡ record { next = behind start_stamp x; since = since_of r.1; lines = packets r.0 ++ [] }
unfolding index_of
of_one s x r e = ap (λ (z : Listing). record { next = behind start_stamp x; since = since_of z.1; lines = packets z.0 ++ [] }) e

of_two : (s : Setting) (x y : Input) (r q : Listing) → record_of s start_stamp fresh x ≡ r → record_of s (behind start_stamp x) r.1 y ≡ q
    → index_of s (x ∷ y ∷ []) ≡ record { next = behind (behind start_stamp x) y; since = since_of q.1; lines = packets r.0 ++ (packets q.0 ++ []) }
unfolding index_of
of_two s x y r q e f =
    let p : Stamp = behind start_stamp x in
    let end : Stamp = behind p y in
    ap (λ (z : Listing). record { next = end; since = since_of (record_of s p z.1 y).1; lines = packets z.0 ++ (packets (record_of s p z.1 y).0 ++ []) }) e
    ∙ ap (λ (z : Listing). record { next = end; since = since_of z.1; lines = packets r.0 ++ (packets z.0 ++ []) }) f

-- of the first TP: two records are covered with the setup, to byte 37, and record 1, at byte 13, has the cut header
pub first_index : index_of setting (tp_in first_tp ∷ []) ≡ record { next = record { number = 2; byte = 37 }; since = Some start_stamp; lines = low_line ∷ [] }
first_index = of_one setting (tp_in first_tp) (low (tag_at 1 0) (0x11 ∷ 0x22 ∷ []) ∷ [], cut_at) first_record

-- of both: three are covered, to byte 61, and nothing is unfinished
pub sixth_index : index_of setting (tp_in first_tp ∷ tp_in second_tp ∷ []) ≡ record { next = record { number = 3; byte = 61 }; since = None; lines = low_line ∷ ordinary_line ∷ [] }
sixth_index =
    of_two setting (tp_in first_tp) (tp_in second_tp) (low (tag_at 1 0) (0x11 ∷ 0x22 ∷ []) ∷ [], cut_at) (ordinary (tag_at 4 9) (0x33 ∷ []) ∷ [], between) first_record second_record

-- the files: "1 0 low 1 2" and "1 9 ordinary 4 1", each with its line end, behind line 0
abbrev low_text : List ℕ
low_text = 0x31 ∷ 0x20 ∷ 0x30 ∷ 0x20 ∷ 0x6C ∷ 0x6F ∷ 0x77 ∷ 0x20 ∷ 0x31 ∷ 0x20 ∷ 0x32 ∷ 0x0A ∷ []

abbrev ordinary_text : List ℕ
ordinary_text = 0x31 ∷ 0x20 ∷ 0x39 ∷ 0x20 ∷ 0x6F ∷ 0x72 ∷ 0x64 ∷ 0x69 ∷ 0x6E ∷ 0x61 ∷ 0x72 ∷ 0x79 ∷ 0x20 ∷ 0x34 ∷ 0x20 ∷ 0x31 ∷ 0x0A ∷ []

pub first_file : file_of (index_of setting (tp_in first_tp ∷ [])) ≡ top_text (record { covered = 2; since = 1; end = 37; from = 13; size = 145 }) ++ low_text
unfolding file_of line_with decimal
first_file = ap file_of first_index

pub sixth_file : file_of (index_of setting (tp_in first_tp ∷ tp_in second_tp ∷ [])) ≡ top_text (record { covered = 3; since = 0; end = 61; from = 0; size = 162 }) ++ (low_text ++ ordinary_text)
unfolding file_of line_with decimal
sixth_file = ap file_of sixth_index
