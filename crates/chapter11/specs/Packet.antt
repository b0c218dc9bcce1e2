-- A Chapter 11 packet (R-1 of document 02; header layout, secondary header flag and checksum kind as in the Chapter 11 standard).
-- Its header has 24 bytes, with numbers least significant byte first. Assumes nothing.
use Rattle.std.specs.Prelude.{ℕ, zero, suc, ◌+◌, ◌-◌, ◌*◌, ◌/◌, ◌%◌, Bool, true, cond, ◌&&◌, List, [], ◌∷◌, ◌++◌, length, take, drop, ◌==◌, nat_le, slice_index}
use Rattle.block.specs.Block.{placed}
use Rattle.chapter11.specs.declared.packet.Cut.{Cut}

-- ---- numbers in a header

-- the number of two bytes, of four bytes, from index i on
abbrev pub two_at : List ℕ → ℕ → ℕ
two_at p i = slice_index p i + slice_index p (i + 1) * 256

abbrev pub four_at : List ℕ → ℕ → ℕ
four_at p i = two_at p i + two_at p (i + 2) * 65536

-- the two low bytes, the four low bytes of a number
abbrev pub two : ℕ → List ℕ
two n = n % 256 ∷ n / 256 % 256 ∷ []

abbrev pub four : ℕ → List ℕ
four n = two n ++ two (n / 65536)

-- ---- the header's fields

abbrev pub sync : List ℕ → ℕ
sync p = two_at p 0

abbrev pub channel : List ℕ → ℕ
channel p = two_at p 2

abbrev pub packet_length : List ℕ → ℕ
packet_length p = four_at p 4

abbrev pub data_length : List ℕ → ℕ
data_length p = four_at p 8

abbrev pub flags : List ℕ → ℕ
flags p = slice_index p 14

abbrev pub checksum : List ℕ → ℕ
checksum p = two_at p 22

-- flag bit 7: a secondary header of 12 bytes
abbrev pub secondary_by : ℕ → ℕ
secondary_by f = f / 128 % 2 * 12

-- flag bits 1 and 0: no data checksum, or one of 8, 16 or 32 bits
abbrev pub sum_size_by : ℕ → ℕ
sum_size_by f = cond (f % 4 == 3) 4 (f % 4)

-- the 16-bit sum, wrapping, of the first n words
unfoldable pub sum_of : ℕ → List ℕ → ℕ
sum_of zero p = 0
sum_of (suc n) p = (sum_of n p + two_at p (2 * n)) % 65536

-- "The header checksum is the 16-bit sum, wrapping, of the header's other eleven words": it is the twelfth itself
abbrev pub header_sum : List ℕ → ℕ
header_sum p = sum_of 11 p

-- ---- the packet's parts: header, secondary header, data, fill, data checksum

abbrev pub secondary : List ℕ → ℕ
secondary p = secondary_by (flags p)

abbrev pub sum_size : List ℕ → ℕ
sum_size p = sum_size_by (flags p)

abbrev pub data_end : List ℕ → ℕ
data_end p = 24 + secondary p + data_length p

-- "header, secondary header, data length and data checksum together"
abbrev pub together : List ℕ → ℕ
together p = data_end p + sum_size p

abbrev pub fill : List ℕ → ℕ
fill p = length p - together p

-- what "17 when composing" asks of the packet alone, in its order
unfoldable pub is_packet : List ℕ → Bool
is_packet p =
    nat_le 24 (length p)
    && (nat_le (length p) 131072
    && (sync p == 0xEB25
    && (packet_length p == length p
    && (checksum p == header_sum p
    && nat_le (together p) (length p)))))

-- ---- "Fill of n bytes is cut to n modulo 4, from the end of the fill"

abbrev pub kept : List ℕ → ℕ
kept p = fill p % 4

-- where the fill to be cut begins and ends
abbrev pub cut_from : List ℕ → ℕ
cut_from p = data_end p + kept p

abbrev pub cut_till : List ℕ → ℕ
cut_till p = length p - sum_size p

abbrev pub cut : List ℕ → List ℕ
cut p = take (cut_till p - cut_from p) (drop (cut_from p) p)

abbrev pub all_zero : List ℕ → Bool
all_zero [] = true
all_zero (b ∷ bs) = b == 0 && all_zero bs

-- ---- "the same packet with less fill and its new length and checksum"

abbrev pub new_length : List ℕ → ℕ
new_length p = together p + kept p

-- what the code answers for a packet
abbrev pub cut_in : List ℕ → Cut
cut_in p = record { from = cut_from p; till = cut_till p; left = new_length p }

-- a header with its checksum worked out anew
abbrev pub summed : List ℕ → List ℕ
summed h = placed h 22 (two (header_sum h))

-- a header for a packet of n bytes
unfoldable pub header_for : List ℕ → ℕ → List ℕ
header_for h n = summed (placed h 4 (four n))

-- where no fill was cut this is the header as it was: theorem `uncut`
abbrev pub new_header : List ℕ → List ℕ
new_header p = header_for (take 24 p) (new_length p)

-- what follows the header: secondary header, data and the fill that is kept; data checksum
unfoldable pub rest : List ℕ → List ℕ
rest p = take (cut_from p - 24) (drop 24 p) ++ drop (cut_till p) p

abbrev pub cut_fill : List ℕ → List ℕ
cut_fill p = new_header p ++ rest p
