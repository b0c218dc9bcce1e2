-- The calls exist: for every TP of bytes, from every receiver that came from an opening and its calls, there are calls until none. So the
-- statements are not empty. Assumes nothing.
use Prim.Native.Nat.{ℕ, zero, suc}
use mathlib.Core.Path.{◌≡◌, refl, sym, ap, ◌∙◌, subst⁻¹}
use mathlib.Core.Bool.{Bool, true, false}
use mathlib.Core.Logic.{◌⊎◌, inl, inr, ⊎_elim}
use mathlib.Core.List.{List, [], ◌∷◌}
use native.Mathlib.Omega.{arith}
use lib.Dec.{eqb}
use lib.ListN.{length}
use borrow.Author.Tests.{eq-eqb, eqb-true}
use Rattle.receiver.specs.declared.Find.TheVariants as F
use Rattle.receiver.specs.declared.Receiver.{Receiver}
use Rattle.receiver.specs.State.{Able}
use Rattle.receiver.specs.Call.{Gave, Gives, call_as, call_of, stepped}
use Rattle.receiver.specs.Place.{own_of, start_of}
use Rattle.receiver.specs.Tp.{Input, tp_in, gap_told}
use Rattle.receiver.proofs.Listening.{opened_fresh}
use Rattle.receiver.proofs.Lasting.{Lasts, call_lasts}
use Rattle.downlink.specs.Damage.{Bytes}
use Rattle.downlink.specs.Hearing.{Listener, Called, onward, ends, Either, Calls, told_of_gap, Hears}
use Rattle.downlink.specs.Demand.{Link}
use Rattle.downlink.specs.Gaps.{heard_of}
use Rattle.downlink.proofs.Calling.{able_on, able_told}
use Rattle.downlink.proofs.Soon.{Going, coming, ends_soon}
use Rattle.downlink.proofs.Carried.{Carried, carried}

module _ (tp : List ℕ) (small : Bytes tp) where
  abbrev step_on : Called → Listener
  step_on c = record { receiver = c.step.receiver; room = c.room }

  -- so many that go on, or all of them
  some_calls : (n : ℕ) (x : Listener) → Able x.receiver
      → ((cs : List Called) × Calls tp x cs) ⊎ ((cs : List Called) × Going tp x cs × (length cs ≡ n))
  some_calls zero x able = inr ([], tt, refl)
  some_calls (suc n) x able = go (ends c.step.find) refl (some_calls n (step_on c) gives.able)
    where
      k : Carried tp (call_of x.receiver tp x.room)
      k = carried x.receiver tp x.room able small

      c : Called
      c = record { step = k.step; room = k.room }

      gives : Gives (call_of x.receiver tp x.room) c.step tp c.room
      gives = k.gives

      go : (t : Bool) → ends c.step.find ≡ t
          → ((cs : List Called) × Calls tp (step_on c) cs) ⊎ ((cs : List Called) × Going tp (step_on c) cs × (length cs ≡ n))
          → ((cs : List Called) × Calls tp x cs) ⊎ ((cs : List Called) × Going tp x cs × (length cs ≡ suc n))
      go true e later = inl (c ∷ [], (gives, subst⁻¹ (λ (t : Bool). Either t (◌≡◌ {A = List Called} [] []) (Calls tp (step_on c) [])) e refl))
      go false e (inl (cs, calls)) = inl (c ∷ cs, (gives, subst⁻¹ (λ (t : Bool). Either t (cs ≡ []) (Calls tp (step_on c) cs)) e calls))
      go false e (inr (cs, going, l)) = inr (c ∷ cs, (gives, e, going), omega arith)

  -- where a receiver with its own room gets to
  full_on : (cs : List Called) (x : Listener) → Calls tp x cs → length x.room ≡ x.receiver.limit → length (onward x cs).room ≡ (onward x cs).receiver.limit
  unfolding stepped
  full_on [] x calls full = absurd calls
  full_on (c ∷ cs) x (gives, then) full = go (ends c.step.find) then (λ z. full_on cs (step_on c) z here)
    where
      lasts : Lasts x.receiver x.room (call_of x.receiver tp x.room)
      lasts = call_lasts x.receiver tp x.room

      here : length c.room ≡ c.step.receiver.limit
      here =
          ap (λ (g : Gave). length g.room) gives.same ∙ lasts.room ∙ full ∙ sym (ap (λ (g : Gave). g.limit) gives.same ∙ lasts.limit)

      go : (t : Bool) → Either t (cs ≡ []) (Calls tp (step_on c) cs)
          → (Calls tp (step_on c) cs → length (onward (step_on c) cs).room ≡ (onward (step_on c) cs).receiver.limit)
          → length (onward (step_on c) cs).room ≡ (onward (step_on c) cs).receiver.limit
      go true over ih = subst⁻¹ (λ (ys : List Called). length (onward (step_on c) ys).room ≡ (onward (step_on c) ys).receiver.limit) over here
      go false more ih = ih more

  six : (x : Listener) → Able x.receiver → length x.room ≡ x.receiver.limit → eqb (length tp) x.receiver.size ≡ false → (cs : List Called) × Calls tp x cs
  unfolding call_of call_as stepped
  six x able full e = (
    record { step = record { receiver = x.receiver; find = F.Notice 6; about = record { repaired = 0; at = start_of (own_of x.receiver.count) } }; room = x.room } ∷ [],
    (record { same = sym (rw (eq-eqb (length x.room) x.receiver.limit full, e) refl); able = able }, refl),
  )

  -- of one TP
  all_calls : (x : Listener) → Able x.receiver → length x.room ≡ x.receiver.limit → (cs : List Called) × Calls tp x cs
  all_calls x able full = by (eqb (length tp) x.receiver.size) refl
    where
      by : (b : Bool) → eqb (length tp) x.receiver.size ≡ b → (cs : List Called) × Calls tp x cs
      by true e =
          ⊎_elim (λ calls. calls)
          (λ more. absurd (let l = ends_soon tp more.0 x able full (eqb-true (length tp) x.receiver.size e) more.1 in omega (arith, more.2)))
          (some_calls (suc (length (coming tp x).0)) x able)
      by false e = six x able full e

abbrev pub AllBytes : List Input → Type 0
AllBytes [] = Unit {0}
AllBytes (tp_in tp ∷ xs) = Bytes tp × AllBytes xs
AllBytes (gap_told ∷ xs) = AllBytes xs

-- THE CALLS of any number of TPs of bytes, whatever their length, and told gaps: there are some
pub calls_exist : (xs : List Input) (x : Listener) → Able x.receiver → length x.room ≡ x.receiver.limit → AllBytes xs
    → (css : List (List Called)) × Hears x xs css
calls_exist [] x able full small = ([], tt)
calls_exist (tp_in tp ∷ xs) x able full small =
    let one = all_calls tp small.0 x able full in
    let more = calls_exist xs (onward x one.0) (able_on tp one.0 x one.1) (full_on tp small.0 one.0 x one.1 full) small.1 in
    (one.0 ∷ more.0, (one.1, more.1))
calls_exist (gap_told ∷ xs) x able full small = calls_exist xs (told_of_gap x) (able_told x.receiver able) full small

-- so no statement is empty: whichever TPs of a link arrive, there are calls to speak of
pub heard_exist : (l : Link) (arrived : ℕ → Bool) (told : Bool) → AllBytes (heard_of arrived told 0 l.got)
    → (css : List (List Called)) × Hears l.listener (heard_of arrived told 0 l.got) css
heard_exist l arrived told small =
    let fresh = opened_fresh l.size l.stream (length l.listener.room) l.listener.receiver l.listens in
    calls_exist (heard_of arrived told 0 l.got) l.listener l.listens.able (sym (ap (λ (r : Receiver). r.limit) fresh)) small
