-- One block more: from what is at hand, and what going on ensures, to what is promised from block to block. Assumes nothing.
use Prim.Native.Nat.{ℕ}
use mathlib.Core.Path.{◌≡◌, refl, ap, sym, subst, subst⁻¹, ◌∙◌}
use mathlib.Core.List.{List}
use Rattle.block.specs.Block.{Block}
use Rattle.console.specs.Taking.{begin_of, stretch}
use Rattle.console.specs.declared.Unread.{Unread}
use Rattle.house.specs.Slices.{at_hand}
use Rattle.std.specs.Prelude.{Option, None, Result, Ok}
use Rattle.house.specs.declared.Fault.{Fault}
use Rattle.house.specs.declared.Record.{Record}
use Rattle.house.specs.declared.Place.TheVariants.{Listing}
use Rattle.receiver.specs.declared.Receiver.{Receiver}
use Rattle.index_loop.specs.declared.Stop.{Stop}
use Rattle.index_loop.specs.declared.Stop.TheVariants.{More}
use Rattle.index_loop.specs.declared.Task.{Task}
use Rattle.index_loop.specs.Advancing.{GoesOn, whole, bad, read, ended, unreadable, Reached, Advances, reads, StopsAt}

pub at_hand_lem : (d : List ℕ) (u : Unread) (x : List ℕ) (a z : Result (Option Record) Fault) → x ≡ stretch d u → a ≡ at_hand Listing x → a ≡ z → at_hand Listing (stretch d u) ≡ z
at_hand_lem d u x a z e f g = ap (at_hand Listing) (sym e) ∙ sym f ∙ g

pub read_anew : (d : List ℕ) (u : Unread) (begin n : ℕ) (b : List ℕ) → at_hand Listing (stretch d u) ≡ Ok None → begin ≡ begin_of u → GoesOn d u More (record { gone = begin; from = 0; till = n }) b
read_anew d u begin n b h e = subst⁻¹ (λ (i : ℕ). GoesOn d u More (record { gone = i; from = 0; till = n }) b) e (read h)

module _ (task : Task) (a : Reached) (d : List ℕ) (u : Unread) (n : ℕ) (x : Receiver) (m : List ℕ) (o : Block) (s : Stop) (v : Unread) (d' : List ℕ)
    (so : Advances task a (record { block = d; unread = u; number = n; receiver = x; room = m; out = o })) (g : GoesOn d u s v d') where
  -- in the last block more came in, or none
  pub settled : (last : List ℕ) × (Advances task a (record { block = last; unread = v; number = n; receiver = x; room = m; out = o }) × StopsAt last v s d')
  settled = by g so
    where
      by : {s : Stop} {v : Unread} {d' : List ℕ} → GoesOn d u s v d' → Advances task a (record { block = d; unread = u; number = n; receiver = x; room = m; out = o })
          → (last : List ℕ) × (Advances task a (record { block = last; unread = v; number = n; receiver = x; room = m; out = o }) × StopsAt last v s d')
      by (whole h) so = (d, (reads so (whole h), refl))
      by (bad h) so = (d, (so, h))
      by {d' = d'} (read h) so = (d', (reads so (read h), refl))
      by (ended h) so = (d, (so, h))
      by (unreadable h) so = (d, (so, h))

  -- there is more
  pub goes : s ≡ More → Advances task a (record { block = d'; unread = v; number = n; receiver = x; room = m; out = o })
  goes e = reads so (subst (λ (z : Stop). GoesOn d u z v d') e g)
