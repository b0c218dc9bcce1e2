-- Reading what was written gives it back, and only what was written is read as it.
-- The four bytes of a length make the length again; then each kind follows its own rules by computing. Assumes nothing.
use Prim.Native.Nat.{ℕ, ◌+◌, ◌-◌, ◌≤◌, ◌<◌}
use mathlib.Core.Path.{◌≡◌, refl, ap, sym, ◌∙◌}
use mathlib.Core.Bool.{true}
use mathlib.Core.List.{List, ◌++◌, append_assoc}
use native.Mathlib.Omega.{arith}
use borrow.Author.Tests.{le-leb, eq-eqb}
use lib.ListN.{length, take, drop, length-append}
use lib.Seq.{length-take-le, take_at, drop_at}
use Rattle.block.specs.Block.{placed}
use Rattle.digits.specs.Digits.{digits, number}
use Rattle.wire.specs.Limits.{link_allowed, allowed}
use Rattle.house.specs.declared.Record.{Record}
use Rattle.house.specs.declared.Record.TheVariants.{Setup, Ordinary, Low, Draw, Packet, Gap}
use Rattle.house.specs.declared.Place.{Place}
use Rattle.std.specs.Prelude.{Some, Ok}
use Rattle.house.specs.declared.Setup as S
use Rattle.house.specs.Records.{kind_of, length_of, head_of, record_bytes, is_read, ruled, judged_of}
use Rattle.house.specs.Slices.{at_hand, data_in, written_in}
use Rattle.house.proofs.Slicing.{is_whole_lem}
use Rattle.house.specs.Setups.{settings_of, setup_bytes}

four : (n : ℕ) → n ≤ 32768 → number 0 (digits 4 n) ≡ n
four n h = omega arith

two : (n : ℕ) → n < 65536 → number 0 (digits 2 n) ≡ n
two n h = omega arith

-- a written head is read as what it was written for, wherever its kind is read and whatever follows it
pub again : (p : Place) (r : Record) (rest : List ℕ) → is_read p (kind_of r) ≡ true → length_of r ≤ 32768 → judged_of p (head_of r ++ rest) ≡ Ok r
unfolding judged_of ruled
again p Setup rest h f = rw h
again p (Ordinary c n) rest h f = rw (four n f, h, le-leb n 32768 f)
again p (Low c n) rest h f = rw (four n f, h, le-leb n 32768 f)
again p Draw rest h f = rw h
again p (Packet n) rest h f = rw (four n f, h, le-leb n 32768 f)
again p Gap rest h f = rw h

module _ (p : Place) (r : Record) (d rest : List ℕ) (same : length d ≡ length_of r) where
  -- its data are those that it was written with
  pub data_again : data_in r (record_bytes r d ++ rest) ≡ d
  data_again = take_at d rest (length_of r) same

  -- a written record is read whole
  pub whole_again : is_read p (kind_of r) ≡ true → length_of r ≤ 32768 → at_hand p (record_bytes r d ++ rest) ≡ Ok (Some r)
  whole_again h f =
      let long : length (record_bytes r d ++ rest) ≡ 8 + length d + length rest = length-append (record_bytes r d) rest ∙ ap (λ (n : ℕ). n + length rest) (length-append (head_of r) d) in
      let enough : length_of r ≤ length (record_bytes r d ++ rest) - 8 = omega arith in
      sym (is_whole_lem p (record_bytes r d ++ rest) r (omega arith) (sym (again p r (d ++ rest) h f)) refl refl enough)

-- a record written into a buffer is read back from where it was written, with its data
pub written_again : (p : Place) (r : Record) (d out : List ℕ) (at : ℕ) → is_read p (kind_of r) ≡ true → length_of r ≤ 32768 → length d ≡ length_of r → at + 8 + length d ≤ length out
    → (at_hand p (drop at (written_in r d out at).bytes) ≡ Ok (Some r)) × (data_in r (drop at (written_in r d out at).bytes) ≡ d)
unfolding written_in
written_again p r d out at h f same room =
    let b = record_bytes r d in
    let after = drop (at + length b) out in
    let there : drop at (placed out at b) ≡ b ++ after =
    ap (drop at) (append_assoc (take at out) b after) ∙ drop_at (take at out) (b ++ after) at (length-take-le at out (omega arith)) in
    rw (eq-eqb (length d) (length_of r) same, le-leb (at + 8 + length d) (length out) room, there)
    (whole_again p r d after same h f, data_again p r d after same)

-- written settings within the limits are read as they were
pub settings_again : (s : S.Setup) → 16 ≤ s.tp → s.tp ≤ 2051 → s.stream ≤ 15 → 1 ≤ s.piece → s.piece < 65536 → settings_of (setup_bytes s) ≡ Some s
unfolding settings_of link_allowed allowed
settings_again s a b c d e =
    let t : number 0 (digits 2 s.tp) ≡ s.tp = two s.tp (omega arith) in
    let f : s.piece ≤ 65535 = omega arith in
    rw (t, two s.piece e, le-leb 16 s.tp a, le-leb s.tp 2051 b, le-leb s.stream 15 c, le-leb 1 s.piece d, le-leb s.piece 65535 f)
