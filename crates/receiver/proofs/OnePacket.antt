-- THE SUPPORT DESK'S SENTENCE: whatever is handed out as one packet was read, all of it, in step, from one EP or from one
-- unbroken series of pieces of one content, with no loss of step, no gap and no other EP between them. Assumes nothing.
use mathlib.Core.Path.{subst, ◌≡◌}
use mathlib.Core.List.{List, [], ◌++◌, ◌∷◌}
use Prim.Native.Nat.{ℕ}
use native.Mathlib.Omega.{arith}
use Rattle.std.specs.Prelude.{Some}
use Rattle.receiver.specs.Frame.{Event, lost}
use Rattle.receiver.specs.Join.{free, holding, ordinary, take_in}
use Rattle.receiver.specs.Low.{Tag, wire}
use Rattle.receiver.specs.Tp.{Input, Setting, events_all}
use Rattle.receiver.proofs.Flow.{Flow, Follows, Spot, all_flow, apart, next_to, still}
use Rattle.receiver.proofs.Handing.{flow_inv, follows_gives}
use Rattle.receiver.proofs.Packets.{PacketRead}
use Rattle.receiver.proofs.Tracing.{Inv}

split_flow : {p r : Spot} (e : Event wire) (fs es : List (Event wire)) → Flow p (es ++ e ∷ fs) r
    → (q : Spot) × ((q' : Spot) × (Flow p es q × Follows q e q'))
split_flow {p} e fs [] (next_to {q = q} x f) = (p, (q, (still, x)))
split_flow e fs (a ∷ es) (next_to x f) = let r = split_flow e fs es f in (r.0, (r.1.0, (next_to x r.1.1.0, r.1.1.1)))

-- THE SENTENCE: listening from out of step to any TPs and gaps, if the event e hands out a packet, then the events up to e
-- end in the reading of a complete EP, or of a first, middles and a last, all whole, all of its content, one right behind the
-- other; its data are theirs, and its place is that of the first of them
pub one_packet : (s : Setting) (n : ℕ) (xs : List Input) (es : List (Event wire)) (e : Event wire) (fs : List (Event wire)) (t : Tag) (d : List ℕ)
    → events_all s n lost xs ≡ es ++ e ∷ fs
    → (take_in wire s.room (holding wire s.room free es) e).1 ≡ Some (ordinary t d)
    → PacketRead t.content t.at d (es ++ e ∷ [])
one_packet s n xs es e fs t d q g =
    let a = all_flow s n lost xs in
    let f : Flow apart (es ++ e ∷ fs) a.0 = subst (λ (l : List (Event wire)). Flow apart l a.0) q a.1 in
    let x = split_flow e fs es f in
    let i : Inv x.0 (holding wire s.room free es) es = flow_inv s.room x.1.1.0 free [] (omega arith) in
    follows_gives s.room x.1.1.1 (holding wire s.room free es) es i t d g
