-- `checks::is_known` meets its contract: content 1 to 6 is what is sorted as known. Assumes nothing.
use mathlib.Core.Path.{◌≡◌, refl, sym, ap, ◌∙◌}
use mathlib.Core.Bool.{Bool, true, false, cond}
use Prim.Native.Nat.{ℕ, zero, suc}
use native.Mathlib.Omega.{arith}
use lib.Dec.{leb}
use borrow.Author.Tests.{le-leb, ne_eqb}
use Rattle.wire.specs.declared.Sort.{Sort}
use Rattle.wire.specs.declared.Sort.TheVariants.{Fill, Known, Reserved}
use Rattle.wire.specs.Reading.{sort_of}
use Rattle.sender.specs.Offering.{known}
use Rattle.sender.proofs.checks.is_known.Goals as goal

says : Sort → Bool
says Fill = false
says Known = true
says Reserved = false

sorted : (n : ℕ) → says (sort_of n) ≡ known n
unfolding sort_of known says
sorted zero = refl
sorted (suc m) = rw (ne_eqb (suc m) 0 (λ e. omega arith), le-leb 1 (suc m) (omega arith)) (by (leb (suc m) 6))
  where
    by : (t : Bool) → says (cond t Known Reserved) ≡ t
    by true = refl
    by false = refl

pub returns-in-Known : goal.returns-in-Known
unfolding says
returns-in-Known c = ap says (sym c.in-Known.is ∙ c.sort_of.ensures) ∙ sorted c.args.content

not_known : (s : Sort) → (s ≡ Known → ⊥) → false ≡ says s
unfolding says
not_known Fill n = refl
not_known Known n = absurd (n refl)
not_known Reserved n = refl

pub returns-in_default : goal.returns-in_default
unfolding says
returns-in_default c = not_known (sort_of c.args.content) (λ e. c.in_default.not-Known (c.sort_of.ensures ∙ e)) ∙ sorted c.args.content
