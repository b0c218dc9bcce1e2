-- Refused, or read and off. Assumes nothing.
use mathlib.Core.Path.{sym, ◌∙◌}
use native.Mathlib.Omega.{arith}
use Rattle.queue.proofs.Puts.{kept_is}
use Rattle.queue.proofs.Takes.{place_is, pop_forged, pop_few, pop_beyond, pop_done, in_part}
use Rattle.queue.proofs.Ring.pop_into.Goals as goal
use Rattle.queue.proofs.Ring.pop_into.Goals.{then-not-is_kept-via-then-not-is_kept, then-not-is_kept-via-else-not-is_kept+then-self-n, then-not-is_kept-via-else-not-is_kept+else-self-n+then-not-has_place}

pub returns-then-not-is_kept : goal.returns-then-not-is_kept
returns-then-not-is_kept c =
    let a = c.args in
    elim c.then-not-is_kept.branch [
      | then-not-is_kept-via-then-not-is_kept w ↦ pop_forged a.buf.now a.self a.dst.now a.at a.n (sym c.is_kept.ensures ∙ w.if-not-is_kept.true)
      | then-not-is_kept-via-else-not-is_kept+then-self-n w ↦ pop_few a.buf.now a.self a.dst.now a.at a.n (sym c.is_kept.ensures ∙ w.if-not-is_kept.false) w.if-self-n.true
      | then-not-is_kept-via-else-not-is_kept+else-self-n+then-not-has_place w ↦
          pop_beyond a.buf.now a.self a.dst.now a.at a.n (sym c.is_kept.ensures ∙ w.if-not-is_kept.false) w.if-self-n.false (sym w.has_place.ensures ∙ w.if-not-has_place.true)
    ]

pub overflow_add-end : goal.overflow_add-end
overflow_add-end c = let p = place_is _ _ _ (sym c.has_place.ensures ∙ c.if-not-has_place.false) in omega arith

pub slice_bounds-read-end : goal.slice_bounds-read-end
slice_bounds-read-end c = let p = place_is _ _ _ (sym c.has_place.ensures ∙ c.if-not-has_place.false) in omega arith

pub read-requires : goal.read-requires
read-requires c =
    let a = c.args in
    record { kept = kept_is a.buf.now a.self (sym c.is_kept.ensures ∙ c.if-not-is_kept.false); dst_len_bound = in_part a.dst.now a.at a.n a.self.len c.if-self-n.false }

pub off_by-requires : goal.off_by-requires
off_by-requires c =
    let a = c.args in
    let k = kept_is a.buf.now a.self (sym c.is_kept.ensures ∙ c.if-not-is_kept.false) in
    let kl = k.len in
    (k.head, omega arith, omega arith)

pub returns : goal.returns
returns c =
    let a = c.args in
    pop_done a.buf.now a.self a.dst.now a.at a.n _ _ (sym c.is_kept.ensures ∙ c.if-not-is_kept.false) c.if-self-n.false (sym c.has_place.ensures ∙ c.if-not-has_place.false) c.off_by.ensures c.read.ensures
