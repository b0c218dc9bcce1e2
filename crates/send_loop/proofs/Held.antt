-- One record more: from what its turn ensures to what the loop promises. Assumes nothing.
use Prim.Native.Nat.{ℕ, ◌+◌, ◌≤◌}
use mathlib.Core.Path.{◌≡◌, refl, ap, sym, subst, ◌∙◌}
use mathlib.Core.List.{List, [], ◌∷◌, ◌++◌, append_assoc, append-nil}
use lib.ListN.{length, take, drop}
use Rattle.std.specs.Prelude.{Some, Ok, Option}
use Rattle.house.specs.Records.{length_of}
use Rattle.house.specs.Series.{Item, Taken, nothing, then}
use Rattle.house.specs.Slices.{at_hand, data_in}
use Rattle.house.specs.declared.Place.TheVariants as P
use Rattle.house.specs.declared.Record.{Record}
use Rattle.sender.specs.Run.{World}
use Rattle.sending.specs.Scripts.{asked, writes, leaves, sent_by, left_by}
use Rattle.sending.specs.Turn.{After, turn_of}
use Rattle.sending.proofs.Scripted.{turned_world, turned_held, sent_more, left_more}
use Rattle.send_loop.specs.Running.{world_of, Sent}
use Rattle.send_loop.specs.declared.Buffers.{Buffers}
use Rattle.send_loop.specs.declared.Sending.{Sending}

pub sent_none : (p : Sending) (b : Buffers) (s : List ℕ) → Sent p b s p b s
sent_none p b s = record { tp = refl; records = []; taken = nothing; held = sym (append-nil (take p.at b.out)); world = refl }

module _ (first : Sending) (lent : Buffers) (s : List ℕ) (p : Sending) (b : Buffers) (t : List ℕ) (sent : Sent first lent s p b t) where
  pub sent_then : (said : Record) (sp : List ℕ) (q : Sending) (d : Buffers) (k : Option ℕ) (v : List ℕ) → at_hand P.Sending t ≡ Ok (Some said) → sp ≡ data_in said t
      → drop (8 + length_of said) t ≡ v → p.at + 8 + p.tp ≤ length b.out → q.tp ≡ p.tp
      → ◌≡◌ {A = After} (record { sender = q.sender; low = d.low; ordinary = d.ordinary; block = record { bytes = d.out; at = q.at }; refused = k }) (turn_of said p.sender sp b.low b.ordinary p.tp (record { bytes = b.out; at = p.at }))
      → Sent first lent s q d v
  sent_then said sp q d k v whole is behind room same e =
      let x : Item = record { said = said; bytes = data_in said t } in
      let xs : List Item = sent.records in
      let tp = first.tp in
      let w₀ : World = world_of first lent in
      let w : World = world_of p b in
      let u : World = left_by tp w₀ xs in
      record {
        tp = same ∙ sent.tp;
        records = xs ++ x ∷ [];
        taken = subst (Taken P.Sending s (xs ++ x ∷ [])) behind (then sent.taken whole);
        held =
            ap (λ (a : After). take a.block.at a.block.bytes) e
            ∙ turned_held p.sender sp b.low b.ordinary p.tp b.out p.at room said
            ∙ ap (λ (n : ℕ). take p.at b.out ++ writes n w (asked n said sp)) sent.tp
            ∙ ap (λ (z : List ℕ). z ++ writes tp w (asked tp said sp)) sent.held
            ∙ append_assoc (take first.at lent.out) (sent_by tp w₀ xs) (writes tp w (asked tp said sp))
            ∙ ap (λ (z : World). take first.at lent.out ++ (sent_by tp w₀ xs ++ writes tp z (asked tp said sp))) sent.world
            ∙ ap (λ (x : List ℕ). take first.at lent.out ++ (sent_by tp w₀ xs ++ writes tp u (asked tp said x))) is
            ∙ ap (λ (z : List ℕ). take first.at lent.out ++ z) (sym (sent_more tp w₀ xs x));
        world =
            ap (λ (a : After). record { sender = a.sender; low = a.low; ordinary = a.ordinary }) e
            ∙ turned_world p.sender sp b.low b.ordinary p.tp b.out p.at room said
            ∙ ap (λ (n : ℕ). leaves w (asked n said sp)) sent.tp
            ∙ ap (λ (z : World). leaves z (asked tp said sp)) sent.world
            ∙ ap (λ (x : List ℕ). leaves u (asked tp said x)) is
            ∙ sym (left_more tp w₀ xs x);
      }
