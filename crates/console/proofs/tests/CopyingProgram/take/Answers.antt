-- `tests::Copying::take`: the record at the start, where one is whole. Assumes nothing.
use Prim.Native.Nat.{ℕ, ◌+◌}
use mathlib.Core.Path.{◌≡◌, ap, sym, subst, ◌∙◌}
use mathlib.Core.List.{List}
use native.Mathlib.Nat.{zero-add}
use lib.ListN.{length}
use Rattle.std.specs.Prelude.{Option, Some, Result, Ok}
use Rattle.house.specs.declared.Fault.{Fault}
use Rattle.house.specs.declared.Record.{Record}
use Rattle.house.specs.declared.Place.TheVariants.{Listing}
use Rattle.house.specs.Slices.{at_hand, data_in}
use Rattle.console.specs.Taking.{Whole}
use Rattle.console.proofs.Records.{none_taken, rest_of, rest_is, one_more}
use Rattle.console.proofs.tests.CopyingProgram.take.Goals as goal

module _ (s x : List ℕ) (r : Record) (a : Result (Option Record) Fault) (o : Option Record) (read : a ≡ at_hand Listing s) (is_ok : a ≡ Ok o) (is_some : o ≡ Some r) (data_is : x ≡ data_in r s) where
  there : a ≡ at_hand Listing (rest_of s 0)
  there = read ∙ ap (at_hand Listing) (sym (rest_is s 0))

  data_there : x ≡ data_in r (rest_of s 0)
  data_there = data_is ∙ ap (data_in r) (sym (rest_is s 0))

  one : Whole Listing s (8 + length x)
  one = subst (Whole Listing s) (zero-add (8 + length x)) (one_more (none_taken Listing s) there is_ok is_some data_there)

pub returns-in-Ok-Some-clause-whole : goal.returns-in-Ok-Some-clause-whole
returns-in-Ok-Some-clause-whole c = one _ _ _ _ _ c.read_record.ensures c.in-Ok-Some.is c.in-Ok-Some.field-0-is c.data_of-data.ensures

pub returns-clause-whole : goal.returns-clause-whole
returns-clause-whole c = none_taken Listing c.args.unread.now

pub returns-2-clause-whole : goal.returns-2-clause-whole
returns-2-clause-whole c = none_taken Listing c.args.unread.now
