-- What a call's answer says of its outcome, for the crates above. Assumes nothing.
use Rattle.std.proofs.Common.{◌≡◌, ℕ, ◌≤◌, List, ◌++◌, length, take, drop, sym, refl, ap, ◌∙◌, arith, length-append, take_at}
use Rattle.std.specs.Prelude.{Result, Ok, Err}
use Rattle.chapter11.specs.declared.Refusal.{Refusal}
use Rattle.chapter11.specs.Source.{Left, Outcome, gives, refuses, left}

-- the result, and where it stands
pub record Gave (d y : List ℕ) (n : ℕ) (o : Outcome) : Type 0 where
  pub result : List ℕ
  pub is : o ≡ gives result
  pub count : n ≡ length result
  pub buffer : y ≡ result ++ drop (length result) d

pub done : (d y : List ℕ) (n : ℕ) (a : Result ℕ Refusal) (o : Outcome) → ◌≡◌ {A = Left} (record { answer = a; buffer = y }) (left d o) → a ≡ Ok n → Gave d y n o
done d y n a (gives s) e k =
    let same : Ok n ≡ Ok (length s) = sym k ∙ ap (λ (l : Left). l.answer) e in
    record { result = s; is = refl; count = cc; buffer = ap (λ (l : Left). l.buffer) e }
done d y n a (refuses m) e k =
    let other : Ok n ≡ Err m = sym k ∙ ap (λ (l : Left). l.answer) e in
    let z : ◌≡◌ {A = ℕ} 0 1 = cc in
    absurd (omega arith)

pub at_front : {d y : List ℕ} {n : ℕ} {o : Outcome} (g : Gave d y n o) → take n y ≡ g.result
at_front {d} {y} {n} g = ap (take n) g.buffer ∙ take_at g.result (drop (length g.result) d) n (sym g.count)

pub front_fits : {d y : List ℕ} {n : ℕ} {o : Outcome} → Gave d y n o → n ≤ length y
front_fits {d} g =
    omega (arith, g.count, ap length g.buffer, length-append g.result (drop (length g.result) d))

pub refused : (d y : List ℕ) (n : Refusal) (a : Result ℕ Refusal) (o : Outcome) → ◌≡◌ {A = Left} (record { answer = a; buffer = y }) (left d o) → a ≡ Err n
    → (o ≡ refuses n) × (y ≡ d)
refused d y n a (gives s) e k =
    let other : Err n ≡ Ok (length s) = sym k ∙ ap (λ (l : Left). l.answer) e in
    let z : ◌≡◌ {A = ℕ} 0 1 = cc in
    absurd (omega arith)
refused d y n a (refuses m) e k =
    let same : Err n ≡ Err m = sym k ∙ ap (λ (l : Left). l.answer) e in
    (cc, ap (λ (l : Left). l.buffer) e)
