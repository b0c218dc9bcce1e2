-- Document 01's example 6, the receiver's half: the two TPs, read by the definitions, give low 1 with data 11 22, begun in
-- TP 1 at place 0, then ordinary 4 with data 33, begun in TP 1 at place 9, and are listed so. Each word is read once, by its distance 0 from a code word. Assumes nothing.
use mathlib.Core.Path.{ap₂, refl, sym, ◌≡◌}
use mathlib.Core.List.{[], ◌∷◌}
use Prim.Native.Nat.{ℕ, ◌%◌, ◌/◌, ◌^◌}
use lib.Count.{ones_in}
use lib.Dec.{lit<, lit≤}
use Rattle.std.specs.Prelude.{Some}
use Rattle.golay.specs.Answers.{Decodes, end_flips, end_of, found}
use Rattle.golay.specs.Golay.{chosen, code_word, distance, weight}
use Rattle.golay.proofs.Theorems.{is_reading}
use Rattle.wire.proofs.Answers.{number_is}
use Rattle.wire.specs.Reading.{fields_of, header_from, header_in, header_of, sort_of, tp_number_in}
use Rattle.receiver.specs.Forecast.{way_at}
use Rattle.receiver.specs.Join.{low, ordinary}
use Rattle.receiver.specs.Kind.{kind_of, piece_of}
use Rattle.receiver.specs.Low.{llep, low_part, sized, walk}
use Rattle.receiver.specs.Tp.{brings, counts}
use Rattle.block.specs.Decimal.{decimal}
use Rattle.listing.specs.Lines.{line_with}
use Rattle.examples.specs.Examples.{sixth, read, intact, listing, sixth_listing}

pub first_word : tp_number_in 0x809958 ≡ Some 0x809
unfolding tp_number_in Decodes code_word distance weight chosen ones_in
first_word = let d : Decodes 0x809958 (found 0x809 0 0) = (lit< tt, refl, lit≤ tt, refl) in number_is 0x809958 (found 0x809 0 0) d

pub second_word : tp_number_in 0x004A97 ≡ Some 0x004
unfolding tp_number_in Decodes code_word distance weight chosen ones_in
second_word = let d : Decodes 0x004A97 (found 0x004 0 0) = (lit< tt, refl, lit≤ tt, refl) in number_is 0x004A97 (found 0x004 0 0) d

-- six bytes whose two words are intact
header_is : (w a b : ℕ) → Decodes (w / 2 ^ 24 % 2 ^ 24) (found a 0 0) → Decodes (w % 2 ^ 24) (found b 0 0) → header_in w ≡ Some (fields_of a b 0)
unfolding header_in
header_is w a b d e =
    sym (ap₂ header_from (is_reading (w / 2 ^ 24 % 2 ^ 24) (found a 0 0) d) (is_reading (w % 2 ^ 24) (found b 0 0) e))

pub low_header : header_in 0x040D9900293E ≡ Some (record { content = 1; fragment = 0; size = 2; flips = 0 })
unfolding Decodes code_word distance weight chosen ones_in
low_header =
    let d : Decodes 0x040D99 (found 0x040 0 0) = (lit< tt, refl, lit≤ tt, refl) in
    let e : Decodes 0x00293E (found 0x002 0 0) = (lit< tt, refl, lit≤ tt, refl) in
    header_is 0x040D9900293E 0x040 0x002 d e

pub cut_header : header_in 0x1007B40018EB ≡ Some (record { content = 4; fragment = 0; size = 1; flips = 0 })
unfolding Decodes code_word distance weight chosen ones_in
cut_header =
    let d : Decodes 0x1007B4 (found 0x100 0 0) = (lit< tt, refl, lit≤ tt, refl) in
    let e : Decodes 0x0018EB (found 0x001 0 0) = (lit< tt, refl, lit≤ tt, refl) in
    header_is 0x1007B40018EB 0x100 0x001 d e

pub fill_header : header_in 0x00000000293E ≡ Some (record { content = 0; fragment = 0; size = 2; flips = 0 })
unfolding Decodes code_word distance weight chosen ones_in
fill_header =
    let d : Decodes 0x000000 (found 0x000 0 0) = (lit< tt, refl, lit≤ tt, refl) in
    let e : Decodes 0x00293E (found 0x002 0 0) = (lit< tt, refl, lit≤ tt, refl) in
    header_is 0x00000000293E 0x000 0x002 d e

-- with any room of at least a byte; here of one
pub example_6 : read sixth ≡ low (intact 1 1 0) (0x11 ∷ 0x22 ∷ []) ∷ ordinary (intact 4 1 9) (0x33 ∷ []) ∷ []
unfolding brings counts low_part walk llep sized header_of end_of end_flips kind_of sort_of piece_of way_at ones_in
example_6 = simp (first_word, low_header, second_word, cut_header, fill_header)

-- and its listing
pub example_6_listed : listing sixth ≡ sixth_listing
unfolding brings counts low_part walk llep sized header_of end_of end_flips kind_of sort_of piece_of way_at ones_in line_with decimal
example_6_listed = simp (first_word, low_header, second_word, cut_header, fill_header)
