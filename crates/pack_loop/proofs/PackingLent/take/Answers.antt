-- `Packing::take` takes whole records, and ends: each moves on in the stretch.
-- Assumes nothing.
use native.Mathlib.Omega.{arith}
use Rattle.console.proofs.Records.{none_taken, record_fits, one_more}
use Rattle.house.specs.declared.Place.TheVariants.{Sending}
use Rattle.pack_loop.proofs.PackingLent.take.Goals as goal

pub loop-self-init : goal.loop-self-init
loop-self-init c = none_taken Sending c.args.unread.now

pub returns-in-Some-clause-whole : goal.returns-in-Some-clause-whole
returns-in-Some-clause-whole c = one_more c.loop-self.invariant c.read_record.ensures c.in-Ok-Some.is c.in-Ok-Some.field-0-is c.data_of-data.ensures

pub loop-self-smaller : goal.loop-self-smaller
loop-self-smaller c =
    let fits = record_fits c.loop-self.invariant c.read_record.ensures c.in-Ok-Some.is c.in-Ok-Some.field-0-is c.data_of-data.ensures in
    omega arith

pub loop-self-preserved : goal.loop-self-preserved
loop-self-preserved c = one_more c.loop-self.invariant c.read_record.ensures c.in-Ok-Some.is c.in-Ok-Some.field-0-is c.data_of-data.ensures
