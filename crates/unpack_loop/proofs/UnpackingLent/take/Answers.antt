-- `Unpacking::take` takes whole records with a receiver that can be called, and ends: each moves on in the stretch, or its refusal is told first.
-- Assumes nothing.
use native.Mathlib.Omega.{arith}
use Rattle.console.proofs.Records.{none_taken, record_fits, one_more}
use Rattle.house.specs.declared.Place.TheVariants.{Listing}
use Rattle.unpack_loop.proofs.UnpackingLent.take.Goals as goal

pub loop-self-init : goal.loop-self-init
loop-self-init c = record { able = c.requires.1.1; whole = none_taken Listing c.args.unread.now }

pub loop-self-smaller : goal.loop-self-smaller
loop-self-smaller c =
    let fits = record_fits c.loop-self.invariant.whole c.read_record.ensures c.in-Ok-Some.is c.in-Ok-Some.field-0-is c.data_of-data.ensures in
    omega arith

pub loop-self-preserved : goal.loop-self-preserved
loop-self-preserved c =
    record { able = c.turn.ensures; whole = one_more c.loop-self.invariant.whole c.read_record.ensures c.in-Ok-Some.is c.in-Ok-Some.field-0-is c.data_of-data.ensures }
