-- `tens::put_anew` meets its contract: the number begins itself, and its bytes are its ten's.
-- Assumes nothing.
use Rattle.std.proofs.Common.{◌≡◌, ◌+◌, ◌-◌, length, take, drop, subst, ap, ◌∙◌, arith}
use Rattle.std.specs.Prelude.{MatchResult, ◌≢◌}
use Rattle.std.specs.Array.{IsWholeChunk}
use Rattle.listing.proofs.Spelling.{put_some, put_in, put_behind, begun_put, last_is, kept_put}
use Rattle.listing.proofs.tens.put_anew.Goals as goal

pub returns-then-number-gt99999999 : goal.returns-then-number-gt99999999
returns-then-number-gt99999999 c =
    let a = c.args in
    (begun_put a.out.now a.at a.number _ _ c.requires.at_in_bounds c.put_number-end.ensures, c.requires.kept)

pub overflow_sub-left : goal.overflow_sub-left
overflow_sub-left c =
    let a = c.args in
    put_some a.out.now a.at a.number _ _ c.requires.at_in_bounds c.put_number-end.ensures

pub bounds-out-end : goal.bounds-out-end
bounds-out-end c =
    let a = c.args in
    omega (arith, put_some a.out.now a.at a.number _ _ c.requires.at_in_bounds c.put_number-end.ensures, put_in a.out.now a.at a.number _ _ c.requires.at_in_bounds c.put_number-end.ensures)

pub overflow_sub-left-2 : goal.overflow_sub-left-2
overflow_sub-left-2 c =
    let a = c.args in
    omega (arith, last_is a.out.now a.at a.number _ _ c.requires.at_in_bounds c.put_number-end.ensures (omega arith))

pub overflow_sub-result : goal.overflow_sub-result
overflow_sub-result c =
    let a = c.args in
    put_behind a.out.now a.at a.number _ _ c.requires.at_in_bounds c.put_number-end.ensures

pub returns : goal.returns
returns c =
    let a = c.args in
    let y = c.put_number-end.new.out in
    let e = c.put_number-end.ensures in
    let room = c.requires.at_in_bounds in
    let part = take (a.at + 8 - a.at) (drop a.at y) in
    let read = subst (λ r. MatchResult r (λ x. IsWholeChunk part x 8) (λ _. length part ≢ 8)) c.unwrap.ensures c.try_into.ensures.1 in
    let eight : a.at + 8 - a.at ≡ 8 = omega arith in
    let text = read.same ∙ ap (λ k. take k (drop a.at y)) eight in
    (begun_put a.out.now a.at a.number _ _ room e, kept_put a.out.now a.at a.number _ _ room e (omega arith) _ text)
