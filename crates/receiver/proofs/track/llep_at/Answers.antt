-- `receiver::track::llep_at` meets its contract: a complete header, and an end byte that can be read.
-- Assumes nothing.
use mathlib.Core.Path.{sym, ◌∙◌}
use mathlib.Core.Bool.{true, false}
use Rattle.golay.proofs.Ends.{is_end}
use Rattle.receiver.proofs.LaneAhead.{fits_of_lem}
use Rattle.receiver.proofs.TrackOver.{brief_as, full_goes_on, unfound, zero_ends}
use Rattle.receiver.proofs.track.llep_at.Goals as goal

pub returns-then-tp-at-lt7 : goal.returns-then-tp-at-lt7
returns-then-tp-at-lt7 c = unfound c.no_brief.result c.args.tp.now c.args.at c.no_brief.ensures

pub returns-in_default : goal.returns-in_default
returns-in_default c = unfound c.no_brief-in_default.result c.args.tp.now c.args.at c.no_brief-in_default.ensures

pub returns-then-tp-at : goal.returns-then-tp-at
returns-then-tp-at c = unfound c.no_brief-then-tp-at.result c.args.tp.now c.args.at c.no_brief-then-tp-at.ensures

pub returns-then-not-fits : goal.returns-then-not-fits
returns-then-not-fits c = unfound c.no_brief-then-not-fits.result c.args.tp.now c.args.at c.no_brief-then-not-fits.ensures

pub returns-then-b-eq0 : goal.returns-then-b-eq0
returns-then-b-eq0 c =
    let a = c.args in
    brief_as a.tp.now a.at _ c.if-tp-at-lt7.false (sym c.read_at.ensures ∙ c.in-Some.is) c.if-tp-at.false (fits_of_lem _ _ _ c.fits.ensures (c.if-not-fits.false)) c.llep_of.result false (zero_ends _ c.if-b-eq0.true) c.llep_of.ensures

pub returns-then-b : goal.returns-then-b
returns-then-b c =
    let a = c.args in
    brief_as a.tp.now a.at _ c.if-tp-at-lt7.false (sym c.read_at.ensures ∙ c.in-Some.is) c.if-tp-at.false (fits_of_lem _ _ _ c.fits.ensures (c.if-not-fits.false)) c.llep_of-then-b.result true (full_goes_on _ c.if-b.true) c.llep_of-then-b.ensures

pub returns-in-Zeros : goal.returns-in-Zeros
returns-in-Zeros c =
    let a = c.args in
    brief_as a.tp.now a.at _ c.if-tp-at-lt7.false (sym c.read_at.ensures ∙ c.in-Some.is) c.if-tp-at.false (fits_of_lem _ _ _ c.fits.ensures (c.if-not-fits.false)) c.llep_of-in-Zeros.result false (sym (is_end _ _ c.end_of.ensures) ∙ c.in-Zeros.is) c.llep_of-in-Zeros.ensures

pub returns-in-Ones : goal.returns-in-Ones
returns-in-Ones c =
    let a = c.args in
    brief_as a.tp.now a.at _ c.if-tp-at-lt7.false (sym c.read_at.ensures ∙ c.in-Some.is) c.if-tp-at.false (fits_of_lem _ _ _ c.fits.ensures (c.if-not-fits.false)) c.llep_of-in-Ones.result true (sym (is_end _ _ c.end_of.ensures) ∙ c.in-Ones.is) c.llep_of-in-Ones.ensures

pub returns-in-Neither : goal.returns-in-Neither
returns-in-Neither c = unfound c.no_brief-in-Neither.result c.args.tp.now c.args.at c.no_brief-in-Neither.ensures
