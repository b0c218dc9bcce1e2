-- A record written into the block is put there, whole or not at all. Assumes nothing.
use Prim.Native.Nat.{ℕ, ◌+◌}
use mathlib.Core.Path.{◌≡◌, refl, ap, sym, ◌∙◌}
use mathlib.Core.Bool.{Bool, true, false, cond}
use mathlib.Core.Logic.{◌⊎◌, inl, inr}
use mathlib.Core.List.{List, []}
use native.Mathlib.Omega.{arith}
use borrow.Author.Tests.{eq-eqb, leb-true, leb-false}
use lib.Dec.{leb}
use lib.ListN.{length, length-append}
use Rattle.std.specs.Prelude.{Result, Ok, Err}
use Rattle.std.specs.Result.{result_unwrap_or}
use Rattle.block.specs.Block.{Block, placed, put}
use Rattle.block.proofs.Laws.{fits, misfits, nothing, block_of}
use Rattle.house.specs.Records.{length_of, head_of, record_bytes}
use Rattle.house.specs.Slices as W
use Rattle.house.specs.declared.Record.{Record}
use Rattle.house.specs.declared.Unwritten.{Unwritten}
use Rattle.house.specs.declared.Unwritten.TheVariants.{NoRoom}
use Rattle.receiver.specs.declared.Find.{Find}
use Rattle.receiver.specs.declared.Find.TheVariants.{Nothing, Refused, Notice}
use Rattle.reading.specs.Packets.{packet_of}

abbrev block_by : ℕ → W.Left → Block
block_by at l = block_of l.bytes (result_unwrap_or l.answer at)

module _ (r : Record) (d out : List ℕ) (at : ℕ) (same : length d ≡ length_of r) where
  long : length (record_bytes r d) ≡ 8 + length d
  long = length-append (head_of r) d

  all_or_none : block_by at (W.written_in r d out at) ≡ put out at (record_bytes r d)
  unfolding W.written_in
  all_or_none = rw (eq-eqb (length d) (length_of r) same) (go (leb (at + 8 + length d) (length out)) refl)
    where
      go : (t : Bool) → leb (at + 8 + length d) (length out) ≡ t
          → block_by at (cond t (record { answer = Ok (at + 8 + length d); bytes = placed out at (record_bytes r d) }) (record { answer = Err NoRoom; bytes = out }))
          ≡ put out at (record_bytes r d)
      go true e =
          let end : at + 8 + length d ≡ at + length (record_bytes r d) = omega (arith, long) in
          ap (block_of (placed out at (record_bytes r d))) end
          ∙ sym (fits out at (record_bytes r d) (omega (arith, long, leb-true (at + 8 + length d) (length out) e)))
      go false e = sym (misfits out at (record_bytes r d) (omega (arith, long, leb-false (at + 8 + length d) (length out) e)))

-- a find with a record
module _ (f : Find) (said r : Record) (d out : List ℕ) (at : ℕ) (y : List ℕ) (a : Result ℕ Unwritten) (n : ℕ) where
  pub a_record : said ≡ r → length d ≡ length_of r → packet_of f d ≡ record_bytes r d → record { answer = a; bytes = y } ≡ W.written_in said d out at
      → n ≡ result_unwrap_or a at → block_of y n ≡ put out at (packet_of f d)
  a_record e same one w is =
      ap (block_of y) is ∙ ap (block_by at) w ∙ ap (λ (s : Record). block_by at (W.written_in s d out at)) e ∙ all_or_none r d out at same ∙ ap (put out at) (sym one)

-- a find with none
module _ (f : Find) (d out : List ℕ) (at : ℕ) where
  no_packet : (f ≡ Nothing) ⊎ ((f ≡ Refused) ⊎ ((k : ℕ) × (f ≡ Notice k))) → [] ≡ packet_of f d
  no_packet (inl e) = sym (ap (λ (x : Find). packet_of x d) e)
  no_packet (inr (inl e)) = sym (ap (λ (x : Find). packet_of x d) e)
  no_packet (inr (inr (k, e))) = sym (ap (λ (x : Find). packet_of x d) e)

  pub no_record : (f ≡ Nothing) ⊎ ((f ≡ Refused) ⊎ ((k : ℕ) × (f ≡ Notice k))) → block_of out at ≡ put out at (packet_of f d)
  no_record e = nothing out at ∙ ap (put out at) (no_packet e)
