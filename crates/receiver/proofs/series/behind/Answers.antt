-- `receiver::series::behind` meets its contract: what a course leaves, by its sort.
-- Assumes nothing.
use mathlib.Core.Path.{refl}
use Rattle.receiver.proofs.Serially.{leaves_by}
use Rattle.receiver.proofs.series.behind.Goals as goal

pub returns-in-Stops : goal.returns-in-Stops
returns-in-Stops c = leaves_by _ _ _ _ _ _ _ _ _ c.in-Stops.is (record { said = refl; words = c.put.ensures.w_after; bytes = c.put.ensures.bytes })

pub returns-in-Ends : goal.returns-in-Ends
returns-in-Ends c = leaves_by _ _ _ _ _ _ _ _ _ c.in-Ends.is (record { said = c.nothing.ensures; words = c.put-in-Ends.ensures.w_after; bytes = c.put-in-Ends.ensures.bytes })

pub returns-in-Cut : goal.returns-in-Cut
returns-in-Cut c =
    leaves_by _ _ _ _ _ _ _ _ _ c.in-Cut.is
    (record {
      said = c.nothing-in-Cut.ensures;
      words = rw (c.of.ensures, c.own.ensures) at c.put-in-Cut.ensures.w_after;
      bytes = rw (c.of.ensures, c.own.ensures) at c.put-in-Cut.ensures.bytes;
    })

pub returns-in-Whole : goal.returns-in-Whole
returns-in-Whole c = leaves_by _ _ _ _ _ _ _ _ _ c.in-Whole.is (record { said = refl; words = rw c.between.ensures at c.put-in-Whole.ensures.w_after; bytes = rw c.between.ensures at c.put-in-Whole.ensures.bytes })
