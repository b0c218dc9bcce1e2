-- Facts about lengths, once over P and for any queues, also overwritten ones. Assumes nothing.
use mathlib.Core.Path.{◌≡◌, refl, sym, ap, ◌∙◌}
use mathlib.Core.Bool.{cond}
use mathlib.Core.Logic.{◌⊎◌, inl, inr, ⊎_elim}
use mathlib.Core.List.{List, ◌∷◌, ◌++◌}
use Prim.Native.Nat.{ℕ, zero, suc, ◌+◌, ◌-◌, ◌≤◌, ◌<◌}
use native.Mathlib.Omega.{arith}
use lib.ListN.{length, take, drop, replicate, length-append, length-replicate}
use lib.Seq.{length-take-le}
use Rattle.wire.specs.Wire.{tp_header}
use Rattle.wire.proofs.Laws.{tp_header_length}
use Rattle.sender.specs.Drawing.{next, leave, none_leaves, one_leaves, present, part, fill, lacking, stream, offset, draw_with, draw_of}
use Rattle.sender.proofs.Bools.{split}
use Rattle.sender.proofs.Heads.{next_within}
use Rattle.sender.proofs.Stream.{fill_enough}
use Rattle.sender.proofs.Drawn.{offset_within, offset_none}

part_cons : (e : List ℕ) (es : List (List ℕ)) → length (part (e ∷ es)) ≡ length e + (1 + length (part es))
unfolding part
part_cons e es = length-append e (cond (present es) 0xFF 0x00 ∷ part es) ∙ omega arith

-- the bound on the number of LLEPs says nothing, once it is above what is left
pub leave_any : (k j P : ℕ) (q : List ℕ) (left : ℕ) → left < k → left < j → leave k P q left ≡ leave j P q left
leave_any zero j P q left h g = absurd (omega arith)
leave_any (suc k) zero P q left h g = absurd (omega arith)
leave_any (suc k) (suc j) P q left h g =
    let n : ℕ = next P q left in
    ⊎_elim
    (λ z. let e : next P q left ≡ 0 = omega arith in none_leaves k P q left e ∙ sym (none_leaves j P q left e))
    (λ z. let f = (next_within P q left).1 z in
    let a : left - (n + 1) < k = omega arith in
    let b : left - (n + 1) < j = omega arith in
    one_leaves k P q left n refl z ∙ ap (λ (l : List (List ℕ)). take n q ∷ l) (leave_any k j P (drop n q) (left - (n + 1)) a b) ∙ sym (one_leaves j P q left n refl z))
    (split n 0)

-- the low-latency part fits
pub part_fits : (k P : ℕ) (q : List ℕ) (left : ℕ) → length (part (leave k P q left)) ≤ left
unfolding leave part
part_fits zero P q left = omega arith
part_fits (suc k) P q left =
    let n : ℕ = next P q left in
    let w = next_within P q left in
    ⊎_elim
    (λ z. let e = ap part (none_leaves k P q left (omega arith)) in rw e (omega arith))
    (λ z. let e = one_leaves k P q left n refl z in
    let i = part_fits k P (drop n q) (left - (n + 1)) in
    let l = length-take-le n q w.0 in
    let c = part_cons (take n q) (leave k P (drop n q) (left - (n + 1))) in
    let f = w.1 z in
    rw e (omega arith))
    (split n 0)

-- there are as many ordinary bytes as are asked for
pub stream_enough : (r owed : ℕ) (q : List ℕ) → r ≤ length (stream r owed q)
unfolding stream lacking
stream_enough r owed q =
    let m : ℕ = r - owed - length q in
    omega (arith, length-append (replicate {A = ℕ} owed 0) (q ++ fill m), length-append q (fill m), length-replicate {A = ℕ} owed 0, fill_enough m)

-- a TP is exactly the TP length
pub tp_length : (P str : ℕ) (low q : List ℕ) (owed rest : ℕ) → length (draw_of P str low q owed rest).tp ≡ P + 4
unfolding draw_of draw_with
tp_length P str low q owed rest =
    let es : List (List ℕ) = leave (suc P) P low P in
    let r : ℕ = P - length (part es) in
    let o : ℕ = offset (length (part es)) (owed + rest) r in
    omega (
      arith,
      part_fits (suc P) P low P,
      length-append (tp_header str (present es) o) (part es ++ take r (stream r owed q)),
      tp_header_length str (present es) o,
      length-append (part es) (take r (stream r owed q)),
      length-take-le r (stream r owed q) (stream_enough r owed q),
    )

-- an offset is that of a payload byte behind the low-latency part, or 2047
pub offset_is : (low first r : ℕ) → ((first < r) × (offset low first r ≡ low + first)) ⊎ ((r ≤ first) × (offset low first r ≡ 2047))
offset_is low first r =
    ⊎_elim
    (λ z. inr (z, sym (offset_none low first r z)))
    (λ z. inl (z, sym (offset_within low first r z)))
    (split r first)
