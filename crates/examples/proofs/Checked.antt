-- The list of examples holds, by computing each.
-- Assumes nothing.
use mathlib.Core.Path.{refl}
use mathlib.Core.List.{flatten}
use lib.Count.{ones_in}
use lib.Dec.{lit<, lit≤}
use Rattle.golay.specs.Golay.{chosen, code_word, weight, distance}
use Rattle.golay.specs.Answers.{Decodes, end_of, found}
use Rattle.golay.proofs.Decoder.{nearest}
use Rattle.wire.specs.Wire.{word, first_number, header, ep, stream_byte, offset_number, tp_header}
use Rattle.queue.specs.Ring.{around, held, longer, written, wrap, off}
use Rattle.sender.specs.Answers.{lent}
use Rattle.sender.specs.Offering.{later, pieces, sp_bytes, known, want_ordinary, want_low, ordinary_offered, low_offered}
use Rattle.sender.specs.Drawing.{head_at, size_in, content_in, low_in, low_at, overwritten, next, leave, part, fill, lacking, stream, owed_after, span, rest_after, offset, draw_with, draw_of, draw_by, drew}
use Rattle.examples.proofs.Sixth.{example_6, example_6_listed}
use Rattle.examples.specs.Examples.{Hold, done, ◌and◌, examples}

-- 00000F is four flips from the code word of 0, so no code word is nearer
pub examples_hold : Hold examples
unfolding Decodes code_word distance weight chosen ones_in end_of flatten word first_number header ep stream_byte offset_number tp_header around held longer written wrap off lent later pieces sp_bytes known want_ordinary want_low ordinary_offered low_offered head_at size_in content_in low_in low_at overwritten next leave part fill lacking stream owed_after span rest_after offset draw_with draw_of draw_by drew
examples_hold =
    let seven : Decodes 0x000007 (found 0x000 3 0x000007) = (lit< tt, refl, lit≤ tt, refl) in
    let eight_d : Decodes 0x7FF38D (found 0x7FF 3 0x000007) = (lit< tt, refl, lit≤ tt, refl) in
    refl
    and refl
    and refl
    and refl
    and seven
    and nearest 0x00000F 0x000 4 (lit< tt) refl (lit≤ tt)
    and eight_d
    and refl
    and refl
    and refl
    and refl
    and refl
    and example_6
    and example_6_listed
    and refl
    and refl
    and done
