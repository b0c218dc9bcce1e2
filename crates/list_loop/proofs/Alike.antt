-- Where the calls of two receivers are alike, the calls made from the one on are made from the other on. Assumes nothing.
use Prim.Native.Nat.{ℕ}
use mathlib.Core.Path.{◌≡◌, refl, subst}
use mathlib.Core.Bool.{true, false}
use mathlib.Core.Logic.{◌⊎◌, inl, inr, ⊎_elim}
use mathlib.Core.List.{List, [], ◌++◌}
use Rattle.listing.specs.Hearing.{Hears, nothing, then, Ends, last}
use Rattle.listing.specs.Lines.{line_of}
use Rattle.receiver.specs.Call.{Gave, Gives, call_of, lasts}
use Rattle.receiver.specs.declared.Receiver.{Receiver}
use Rattle.receiver.specs.declared.Step.{Step}

-- calls from r on, to a receiver whose next call is that of r', and which is r' once a line is there
record Follows (tp : List ℕ) (n : ℕ) (r : Receiver) (m ls : List ℕ) (r' : Receiver) (m' : List ℕ) : Type 0 where
  pub left : Receiver
  pub hears : Hears tp n r m ls left m'
  pub alike : call_of r' tp m' ≡ call_of left tp m'
  pub same : (ls ≡ []) ⊎ (left ≡ r')

module _ {tp : List ℕ} {n : ℕ} {r : Receiver} {m : List ℕ} where
  follows_then : {ls : List ℕ} {r' : Receiver} {m' : List ℕ} {q : Step} {m'' : List ℕ} → Follows tp n r m ls r' m' → Gives (call_of r' tp m') q tp m'' → lasts q.find ≡ true
      → Follows tp n r m (ls ++ line_of n q.find) q.receiver m''
  follows_then {q = q} {m'' = m''} p g on =
      record { left = q.receiver; hears = then p.hears (subst (λ (x : Gave). Gives x q tp m'') p.alike g) on; alike = refl; same = inr refl }

  follows_last : {ls : List ℕ} {r' : Receiver} {m' : List ℕ} {q : Step} {m'' : List ℕ} → Follows tp n r m ls r' m' → Gives (call_of r' tp m') q tp m'' → lasts q.find ≡ false
      → Ends tp n r m (ls ++ line_of n q.find) q.receiver m''
  follows_last {q = q} {m'' = m''} p g off = last p.hears (subst (λ (x : Gave). Gives x q tp m'') p.alike g) off

  module _ {r₁ : Receiver} (e : call_of r₁ tp m ≡ call_of r tp m) where
    follows : {ls : List ℕ} {r' : Receiver} {m' : List ℕ} → Hears tp n r₁ m ls r' m' → Follows tp n r m ls r' m'
    follows nothing = record { left = r; hears = nothing; alike = e; same = inl refl }
    follows (then h g on) = follows_then (follows h) g on

    pub hears_from : {ls : List ℕ} {r' : Receiver} {m' : List ℕ} → Hears tp n r₁ m ls r' m' → (ls ≡ [] → ⊥) → Hears tp n r m ls r' m'
    hears_from {ls} {r'} {m'} h some =
        let p = follows h in
        ⊎_elim (λ z. absurd (some z)) (λ z. subst (λ (x : Receiver). Hears tp n r m ls x m') z p.hears) p.same

    pub ends_from : {ls : List ℕ} {r' : Receiver} {m' : List ℕ} → Ends tp n r₁ m ls r' m' → Ends tp n r m ls r' m'
    ends_from (last h g off) = follows_last (follows h) g off
