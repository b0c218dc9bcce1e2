-- What a call gives back names one answer, so each contract of the sender allows one result. Assumes nothing.
use Rattle.std.specs.Prelude.{Result, Ok, Err}
use mathlib.Core.Path.{◌≡◌, refl, sym, ap, ◌∙◌}
use mathlib.Core.Bool.{cond}
use mathlib.Core.List.{List}
use Prim.Native.Nat.{ℕ}
use lib.Dec.{eqb}
use Rattle.sender.specs.declared.Refusal.{Refusal}
use Rattle.sender.specs.declared.Refusal.TheVariants.{Limits, Content, Long, Full, Buffer}
use Rattle.sender.specs.declared.Sender.{Sender}
use Rattle.sender.specs.Answers.{number, Given, done, refusal, given_by, Left}

-- the refusal of each number
named : ℕ → Refusal
named n = cond (eqb n 1) Limits (cond (eqb n 2) Content (cond (eqb n 3) Long (cond (eqb n 4) Full Buffer)))

back : (k : Refusal) → named (number k) ≡ k
unfolding named
back Limits = refl
back Content = refl
back Long = refl
back Full = refl
back Buffer = refl

number_in : Given → ℕ
number_in (done s) = 0
number_in (refusal n) = n

pub one_answer : (a b : Result Sender Refusal) → given_by a ≡ given_by b → a ≡ b
unfolding number_in
one_answer (Ok s) (Ok t) e = cc
one_answer (Ok s) (Err k) e = cc
one_answer (Err k) (Ok t) e = cc
one_answer (Err k) (Err l) e = ap Err (sym (back k) ∙ ap (λ (g : Given). named (number_in g)) e ∙ back l)

-- two answers and buffers that a contract allows are equal
pub pinned : (x : Left) (a b : Result Sender Refusal) (u v : List ℕ) → record { given = given_by a; buffer = u } ≡ x → record { given = given_by b; buffer = v } ≡ x
    → (a ≡ b) × (u ≡ v)
pinned x a b u v e f = (one_answer a b (ap (λ (l : Left). l.given) (e ∙ sym f)), ap (λ (l : Left). l.buffer) (e ∙ sym f))
