-- A Chapter 11 source packet, composed and reassembled (R-1 of document 02; IRIG 106-23 Chapter 7, 7.2.2.4). Assumes nothing.
use Rattle.std.specs.Prelude.{ℕ, ◌+◌, ◌*◌, ◌/◌, ◌%◌, cond, List, [], ◌∷◌, ◌++◌, length, drop, ◌==◌, nat_le, slice_index, Option, Some, None, Result, Ok, Err}
use Rattle.digits.specs.Digits.{number}
use Rattle.golay.specs.Answers.{reading}
use Rattle.wire.specs.Wire.{word}
use Rattle.wire.specs.Reading.{number_of}
use Rattle.chapter11.specs.declared.Refusal.{Refusal}
use Rattle.chapter11.specs.declared.Refusal.TheVariants.{Unfit, Fill}
use Rattle.chapter11.specs.declared.Fields.{Fields}
use Rattle.chapter11.specs.Packet.{two, four, channel, data_length, secondary, sum_size, is_packet, kept, cut, all_zero, new_length, new_header, rest}

-- ---- what a call gives, and what it leaves

-- document 02's number for each refusal
abbrev pub refusal_number : Refusal → ℕ
refusal_number Unfit = 17
refusal_number Fill = 18

pub data Outcome : Type 0 where
  gives : List ℕ → Outcome
  refuses : Refusal → Outcome

-- how many bytes the result has, or the refusal; and the buffer
pub record Left : Type 0 where
  pub answer : Result ℕ Refusal
  pub buffer : List ℕ

-- the result goes to the buffer's start, and no other byte is written; "A refusal writes nothing."
abbrev pub left : List ℕ → Outcome → Left
left out (gives s) = record { answer = Ok (length s); buffer = s ++ drop (length s) out }
left out (refuses k) = record { answer = Err k; buffer = out }

-- ---- composing

-- "the sum of the Chapter 11 SP's secondary header length, fill bytes length, and packet checksum length" (7.2.2.4)
abbrev pub trailer : List ℕ → ℕ
trailer p = secondary p + kept p + sum_size p

abbrev pub fields_in : List ℕ → Fields
fields_in p = record { channel = channel p; trailer = trailer p; size = data_length p }

-- "four Golay words (channel ID, trailer bytes, data length)", with the bits of Figure 7-8; "Reserved bits are sent zero"
unfoldable pub protected : Fields → List ℕ
protected f =
    word (f.channel / 4096 % 16) ++ word (f.channel % 4096)
    ++ word (f.trailer % 32 * 128 + f.size / 4096 % 128) ++ word (f.size % 4096)

-- "then the header's last 12 bytes as they were, then the rest"
unfoldable pub source_packet : List ℕ → List ℕ
source_packet p = protected (fields_in p) ++ drop 12 (new_header p) ++ rest p

-- "17 when composing, exactly if .., or the result doesn't fit its buffer; .. 18 fill to be cut that isn't zero"
unfoldable pub composed_of : List ℕ → ℕ → Outcome
composed_of p room =
    cond (is_packet p)
    (cond (nat_le (new_length p) room)
    (cond (all_zero (cut p)) (gives (source_packet p)) (refuses Fill))
    (refuses Unfit))
    (refuses Unfit)

-- ---- reassembling

-- the three bytes at index i as a number, and the number of the Golay word that they are; none beyond repair
abbrev pub word_at : List ℕ → ℕ → ℕ
word_at sp i = number 0 (slice_index sp i ∷ slice_index sp (i + 1) ∷ slice_index sp (i + 2) ∷ [])

unfoldable pub number_at : List ℕ → ℕ → Option ℕ
number_at sp i = number_of (reading (word_at sp i))

-- "Reserved bits are .. not read"
abbrev pub fields_from : Option ℕ → Option ℕ → Option ℕ → Option ℕ → Option Fields
fields_from (Some a) (Some b) (Some c) (Some d) = Some (record { channel = a % 16 * 4096 + b; trailer = c / 128; size = c % 128 * 4096 + d })
fields_from (Some a) (Some b) (Some c) None = None
fields_from (Some a) (Some b) None d = None
fields_from (Some a) None c d = None
fields_from None b c d = None

unfoldable pub fields_of : List ℕ → Option Fields
fields_of sp = fields_from (number_at sp 0) (number_at sp 3) (number_at sp 6) (number_at sp 9)

-- the sync pattern, the channel ID, the packet length (the SP has as many bytes), the data length, and all behind the Golay words
unfoldable pub packet_of : Fields → List ℕ → List ℕ
packet_of f sp = two 0xEB25 ++ two f.channel ++ four (length sp) ++ four f.size ++ drop 12 sp

abbrev pub packet_with : Option Fields → List ℕ → ℕ → Outcome
packet_with None sp room = refuses Unfit
packet_with (Some f) sp room =
    cond (24 + f.trailer + f.size == length sp)
    (cond (nat_le (length sp) room) (gives (packet_of f sp)) (refuses Unfit))
    (refuses Unfit)

-- "17 when reassembling, exactly if there are fewer than 24 bytes, a Golay word is beyond repair, or 24 plus trailer bytes
-- plus data length isn't the SP's length, or the result doesn't fit"
unfoldable pub reassembled_of : List ℕ → ℕ → Outcome
reassembled_of sp room = cond (nat_le 24 (length sp)) (packet_with (fields_of sp) sp room) (refuses Unfit)
