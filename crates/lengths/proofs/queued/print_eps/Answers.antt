-- Each EP lies within the queue. Assumes nothing.
use Rattle.std.proofs.Common.{sym, ◌∙◌, arith, length-drop}
use Rattle.lengths.proofs.Eps.{within}
use Rattle.lengths.proofs.queued.print_eps.Goals as goal

pub overflow_add-at : goal.overflow_add-at
overflow_add-at c =
    let w = within _ _ (sym c.ep_in.ensures ∙ c.in-Some.is) in
    let l = length-drop c.loop-ep.at c.args.queue.now in
    omega arith

pub overflow_add-at-in-Some : goal.overflow_add-at-in-Some
overflow_add-at-in-Some c =
    let w = within _ _ (sym c.ep_in.ensures ∙ c.in-Some.is) in
    let l = length-drop c.loop-ep.at c.args.queue.now in
    omega arith

pub loop-ep-smaller : goal.loop-ep-smaller
loop-ep-smaller c =
    let w = within _ _ (sym c.ep_in.ensures ∙ c.in-Some.is) in
    let l = length-drop c.loop-ep.at c.args.queue.now in
    omega arith

pub loop-ep-preserved : goal.loop-ep-preserved
loop-ep-preserved c =
    let w = within _ _ (sym c.ep_in.ensures ∙ c.in-Some.is) in
    let l = length-drop c.loop-ep.at c.args.queue.now in
    omega arith
