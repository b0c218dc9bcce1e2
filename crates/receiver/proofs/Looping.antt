-- ANY LOOP OVER TURNS, the data of each piece put into the room, is the call; and what such a loop outside this crate needs of a
-- turn that meets its promise. Assumes nothing.
use mathlib.Core.Path.{refl, subst, sym, ◌≡◌}
use mathlib.Core.Bool.{true}
use mathlib.Core.List.{List}
use Prim.Native.Nat.{ℕ, ◌<◌}
use lib.ListN.{length}
use Rattle.std.specs.Prelude.{None, Option, Some}
use Rattle.receiver.specs.declared.Find.{Find}
use Rattle.receiver.specs.declared.Receiver.{Receiver}
use Rattle.receiver.specs.declared.Step.{Step}
use Rattle.receiver.specs.declared.Turned as D
use Rattle.receiver.specs.Call.{Gave, Gives, call_of}
use Rattle.receiver.specs.Pieces.{turn_of}
use Rattle.receiver.specs.Turn.{Makes, Nearer, TurnedAs, effort, told_goes_on, put_of}
use Rattle.receiver.specs.State.{Able}
use Rattle.receiver.proofs.Heading.{Bytes}
use Rattle.receiver.proofs.Making.{turn_makes}
use Rattle.receiver.proofs.Promising.{turn_as}

-- any loop over turns, from r with the room's bytes m to a find, the state behind it and the room's bytes then
pub data Turnings (tp : List ℕ) : Receiver → List ℕ → Step → List ℕ → Type 0 where
  last : {r : Receiver} {m : List ℕ} {f : Find} → (turn_of r tp).told ≡ Some f
      → Turnings tp r m (record { receiver = (turn_of r tp).receiver; find = f; about = (turn_of r tp).about }) (put_of (turn_of r tp).piece tp m)
  more : {r : Receiver} {m : List ℕ} {q : Step} {m' : List ℕ} → (turn_of r tp).told ≡ None
      → Turnings tp (turn_of r tp).receiver (put_of (turn_of r tp).piece tp m) q m' → Turnings tp r m q m'

-- IS THE CALL
pub folded : {tp m : List ℕ} {r : Receiver} {q : Step} {m' : List ℕ} → Turnings tp r m q m' → Able r → Bytes tp → length m ≡ r.limit
    → Gives (call_of r tp m) q tp m'
folded {tp} {m} {r} (last e) a b f = subst (λ (t : Option Find). Makes t (turn_of r tp).about r tp m (turn_of r tp).receiver (put_of (turn_of r tp).piece tp m)) e (turn_makes r tp m a b f)
folded {tp} {m} {r} {q} {m'} (more e t) a b f =
    let s = (turn_of r tp).receiver in
    let n = subst (λ (t : Option Find). Makes t (turn_of r tp).about r tp m s (put_of (turn_of r tp).piece tp m)) e (turn_makes r tp m a b f) in
    subst (λ (g : Gave). Gives g q tp m') n.1 (folded t (turn_as r tp (turn_of r tp) a b refl).able b n.0)

-- A TURN BY ITS PROMISE: whatever meets it makes the call, the piece put into any room of the receiver's length
module _ (r : Receiver) (tp m m' : List ℕ) (q : D.Turned) (able : Able r) (bytes : Bytes tp) (full : length m ≡ r.limit) (t : TurnedAs r tp q)
    (put : m' ≡ put_of q.piece tp m) where
  pub promised_makes : Makes q.told q.about r tp m q.receiver m'
  promised_makes =
      subst (λ (m' : List ℕ). Makes q.told q.about r tp m q.receiver m') (sym put)
      (subst (λ (q : D.Turned). Makes q.told q.about r tp m q.receiver (put_of q.piece tp m)) (sym t.same) (turn_makes r tp m able bytes full))

  pub more_made : q.told ≡ None → (length m' ≡ q.receiver.limit) × (call_of q.receiver tp m' ≡ call_of r tp m)
  more_made e = subst (λ (x : Option Find). Makes x q.about r tp m q.receiver m') e promised_makes

  pub find_made : (f : Find) (g : Gave) → q.told ≡ Some f → call_of r tp m ≡ g → Gives g (record { receiver = q.receiver; find = f; about = q.about }) tp m'
  find_made f g e c =
      subst (λ (x : Gave). Gives x (record { receiver = q.receiver; find = f; about = q.about }) tp m') c (subst (λ (x : Option Find). Makes x q.about r tp m q.receiver m') e promised_makes)

-- what a loop over turns is measured by
pub more_less : (r : Receiver) (tp : List ℕ) (q : D.Turned) → TurnedAs r tp q → q.told ≡ None → effort (length tp) q.receiver < effort (length tp) r
more_less r tp q t e = subst (λ (x : Option Find). Nearer x (length tp) r q.receiver) e t.nearer

pub on_less : (r : Receiver) (tp : List ℕ) (q : D.Turned) → TurnedAs r tp q → told_goes_on q.told ≡ true → effort (length tp) q.receiver < effort (length tp) r
on_less r tp q t e = rw e at t.nearer
