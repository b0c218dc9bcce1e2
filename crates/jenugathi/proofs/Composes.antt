-- What Chapter 11's calls promise, told in numbers. Assumes nothing.
use Prim.Native.Nat.{ℕ}
use mathlib.Core.List.{List}
use mathlib.Core.Path.{◌≡◌, sym, ap, ◌∙◌}
use Rattle.std.specs.Prelude.{Result, Ok, Err}
use Rattle.chapter11.specs.declared.Refusal.{Refusal}
use Rattle.chapter11.specs.Source.{Left, refusal_number}
use Rattle.jenugathi.specs.Composing.{Counted, counted, made}

pub counts : (w : ℕ) (a : Result ℕ Refusal) (n : ℕ) → a ≡ Ok n → record { number = 0; written = n } ≡ counted w a
counts w a n e = ap (counted w) (sym e)

pub counts_not : (w : ℕ) (a : Result ℕ Refusal) (k : Refusal) (n : ℕ) → a ≡ Err k → n ≡ refusal_number k → record { number = n; written = w } ≡ counted w a
counts_not w a k n e d = ap (λ (m : ℕ). record { number = m; written = w }) d ∙ ap (counted w) (sym e)

pub makes : (w : ℕ) (x : Left) (a : Result ℕ Refusal) (b : List ℕ) (n v : ℕ) → record { answer = a; buffer = b } ≡ x → record { number = n; written = v } ≡ counted w a
    → record { number = n; written = v; buffer = b } ≡ made w x
makes w x a b n v e c = ap (λ (q : Counted). record { number = q.number; written = q.written; buffer = b }) c ∙ ap (made w) e
