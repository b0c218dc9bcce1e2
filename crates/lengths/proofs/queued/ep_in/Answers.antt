-- Too short, beyond repair, or a header. Assumes nothing.
use Rattle.std.proofs.Common.{◌-◌, length, sym, ap, ◌∙◌}
use Rattle.lengths.specs.Queued.{whole_of}
use Rattle.lengths.proofs.Eps.{ep_short, ep_read}
use Rattle.lengths.proofs.queued.ep_in.Goals as goal

pub returns-then-bytes-lt6 : goal.returns-then-bytes-lt6
returns-then-bytes-lt6 c = ep_short c.args.bytes.now c.if-bytes-lt6.true

pub returns-in_err-header : goal.returns-in_err-header
returns-in_err-header c =
    let s = c.args.bytes.now in
    c.from_residual.ensures
    ∙ sym (ap (whole_of (length s - 6)) c.in_err-header.was)
    ∙ ep_read s c.from_six-six.result c.read_header.result c.if-bytes-lt6.false c.from_six-six.ensures c.read_header.ensures

pub returns : goal.returns
returns c =
    let s = c.args.bytes.now in
    c.whole_of.ensures
    ∙ sym (ap (whole_of (length s - 6)) c.in_ok-header.was)
    ∙ ep_read s c.from_six-six.result c.read_header.result c.if-bytes-lt6.false c.from_six-six.ensures c.read_header.ensures
