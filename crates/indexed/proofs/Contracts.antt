-- What `index_loop::start`, `advance` and `emptied` ensure makes such a loop: it begins, goes on, and stops. Assumes nothing.
use Prim.Native.Nat.{ℕ}
use mathlib.Core.Path.{◌≡◌, refl, ap, sym, subst, ◌∙◌}
use mathlib.Core.List.{List, ◌++◌}
use native.Mathlib.Omega.{arith}
use lib.ListN.{length, take}
use Rattle.std.specs.Prelude.{Option, Some, None, Result, Ok, Err}
use Rattle.house.specs.declared.Fault.{Fault}
use Rattle.house.specs.declared.Record.{Record}
use Rattle.console.specs.declared.Unread.{Unread}
use Rattle.receiver.specs.Call.{OpenedAs}
use Rattle.receiver.specs.State.{Able}
use Rattle.receiver.specs.declared.Receiver.{Receiver}
use Rattle.receiver.specs.declared.Stamp.{Stamp}
use Rattle.receiver.proofs.Listening.{opened_fresh}
use Rattle.index_loop.specs.Advancing.{Reached, reached, StopsAt, Advanced, Starts, Empties}
use Rattle.index_loop.specs.Walking.{block_of}
use Rattle.index_loop.specs.declared.Stop.{Stop}
use Rattle.index_loop.specs.declared.Stop.TheVariants.{More, End, Bad, Unreadable}
use Rattle.index_loop.specs.declared.Task.TheVariants.{Index}
use Rattle.index_loop.specs.declared.Walk.{Walk}
use Rattle.indexed.specs.Loop.{Of, Roomy, emptied, Begins, Writes, onward, Ended}

-- a receiver is opened, and the walk started at the record p
pub begins : (size stream : ℕ) (p : Stamp) (x : Receiver) (walk : Walk) (d m out : List ℕ) → OpenedAs size stream (length m) (Some x) → Starts x p.number p.byte walk
    → Begins (record { size = size; stream = stream; room = length m }) p (reached walk d m out)
begins size stream p x walk d m out o w = record {
  receiver = w.receiver ∙ opened_fresh size stream (length m) x o;
  able = subst (λ (r : Receiver). Able r) (sym w.receiver) o.able;
  room = refl;
  number = w.number;
  unread = w.unread;
  out = w.at;
}

module _ (covered : ℕ) (recording : List ℕ) (a : Reached) (written : List ℕ) (first : Walk) (d m out : List ℕ) (r : Walk) (d' m' out' : List ℕ)
    (k : Advanced (Index covered) first d m out r d' m' out') where
  -- it advances, and what is held is appended
  pub appends : Writes covered recording a written (reached first d m out) → Of recording k.taken → Roomy (block_of out' r.at)
      → Writes covered recording a (written ++ take r.at out') (emptied (reached r k.last m' out'))
  appends l of room = onward l k.taken of room

  -- where there is more, the emptied walk goes on there
  pub empties : (next : Walk) → r.stop ≡ More → Empties r next → reached next d' m' out' ≡ emptied (reached r k.last m' out')
  empties next more e =
      let same : d' ≡ k.last = subst (λ (s : Stop). StopsAt k.last r.unread s d') more k.stop in
      at_all next r.receiver r.record 0 r.unread k.last e.receiver e.number e.at e.unread same
    where
      at_all : (w : Walk) (x : Receiver) (n i : ℕ) (u : Unread) (b : List ℕ) → w.receiver ≡ x → w.record ≡ n → w.at ≡ i → w.unread ≡ u → d' ≡ b
          → reached w d' m' out' ≡ record { block = b; unread = u; number = n; receiver = x; room = m'; out = block_of out' i }
      at_all w x n i u b ex en ei eu eb =
          ap (λ (z : Receiver). record { block = d'; unread = w.unread; number = w.record; receiver = z; room = m'; out = block_of out' w.at }) ex
          ∙ ap (λ (z : ℕ). record { block = d'; unread = w.unread; number = z; receiver = x; room = m'; out = block_of out' w.at }) en
          ∙ ap (λ (z : ℕ). record { block = d'; unread = w.unread; number = n; receiver = x; room = m'; out = block_of out' z }) ei
          ∙ ap (λ (z : Unread). record { block = d'; unread = z; number = n; receiver = x; room = m'; out = block_of out' i }) eu
          ∙ ap (λ (z : List ℕ). record { block = z; unread = u; number = n; receiver = x; room = m'; out = block_of out' i }) eb

  -- where there is none, it ended
  pub ended : (r.stop ≡ More → ⊥) → Ended (emptied (reached r k.last m' out'))
  ended other said whole = by r.stop other k.stop
    where
      part : ◌≡◌ {A = Result (Option Record) Fault} (Ok (Some said)) (Ok None) → ⊥
      part e = let z : ◌≡◌ {A = ℕ} 0 1 = cc in omega arith

      by : (s : Stop) → (s ≡ More → ⊥) → StopsAt k.last r.unread s d' → ⊥
      by More o e = o refl
      by End o e = part (sym whole ∙ e)
      by (Bad f) o e = let both : ◌≡◌ {A = Result (Option Record) Fault} (Ok (Some said)) (Err f) = sym whole ∙ e in let z : ◌≡◌ {A = ℕ} 0 1 = cc in omega arith
      by Unreadable o e = part (sym whole ∙ e)
