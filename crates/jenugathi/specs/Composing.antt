-- What Chapter 11's calls give to a program in C (R-1 of document 02), over the definitions of crate `chapter11`. Assumes nothing.
use Rattle.std.specs.Prelude.{List, ℕ, Result, Ok, Err}
use Rattle.chapter11.specs.declared.Refusal.{Refusal}
use Rattle.chapter11.specs.Source.{Left, refusal_number}

-- 0, or the number of the refusal; how many bytes were written, which a refusal leaves as it was
pub record Counted : Type 0 where
  pub number : ℕ
  pub written : ℕ

abbrev pub counted : ℕ → Result ℕ Refusal → Counted
counted w (Ok n) = record { number = 0; written = n }
counted w (Err k) = record { number = refusal_number k; written = w }

-- and the buffer
pub record Made : Type 0 where
  pub number : ℕ
  pub written : ℕ
  pub buffer : List ℕ

abbrev pub made : ℕ → Left → Made
made w x = let c = counted w x.answer in record { number = c.number; written = c.written; buffer = x.buffer }
