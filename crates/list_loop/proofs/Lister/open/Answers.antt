-- `Lister::open`: what `open` gives can be called and keeps nothing, and the header line is held.
-- Assumes nothing.
use mathlib.Core.Path.{refl}
use native.Mathlib.Omega.{arith}
use Rattle.listing.proofs.Heard.{header_held}
use Rattle.list_loop.proofs.Beginning.{begins, placed_first}
use Rattle.list_loop.proofs.Lister.open.Goals as goal

pub returns : goal.returns
returns c =
    let opened = c.open.ensures in
    let is = c.in_ok-receiver.was in
    record {
      ready = record { able = c.in_ok-receiver.ensures.able; placed = placed_first _ _ _ _ _ opened is; ten = c.first_ten.ensures; room = omega arith };
      begins = begins _ _ _ _ _ _ opened is refl (header_held _ _ _ (omega arith) c.header-at.ensures);
    }
