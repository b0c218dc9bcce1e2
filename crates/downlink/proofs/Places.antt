-- A packet's own places are where its data were sent: of the bytes as they were drawn, those there are what was offered.
-- Assumes nothing.
use Prim.Native.Nat.{ℕ, zero, suc, ◌+◌, ◌-◌, ◌≤◌}
use mathlib.Core.Path.{◌≡◌, refl, sym, ap, ap₂, ◌∙◌}
use mathlib.Core.Bool.{Bool, true, false, cond}
use mathlib.Core.List.{List, [], ◌∷◌, ◌++◌, append_assoc, append-nil, flatten}
use native.Mathlib.Omega.{arith}
use lib.Dec.{leb}
use lib.ListN.{length, take, drop, take-append-drop, length-append, length-take}
use lib.Seq.{take_at, drop_at}
use Rattle.wire.specs.Wire.{header, ep}
use Rattle.wire.proofs.Laws.{header_length, ep_length}
use Rattle.sender.specs.Offering.{later, pieces, sp_bytes}
use Rattle.sender.specs.Drawing.{present, part}
use Rattle.downlink.specs.Hearing.{Packet}
use Rattle.downlink.specs.Due.{bodies}
use Rattle.downlink.proofs.Lows.{llep, lleps}

behind_header : (c f : ℕ) (d z : List ℕ) → drop 6 (ep c f d ++ z) ≡ d ++ z
unfolding ep
behind_header c f d z =
    ap (drop 6) (append_assoc (header c f (length d)) d z) ∙ drop_at (header c f (length d)) (d ++ z) 6 (header_length c f (length d))

body_back : (c f : ℕ) (d z : List ℕ) → take (length (ep c f d) - 6) (drop 6 (ep c f d ++ z)) ≡ d
body_back c f d z =
    let l = ep_length c f d in
    let n : length d ≡ length (ep c f d) - 6 = omega arith in
    ap (take (length (ep c f d) - 6)) (behind_header c f d z) ∙ take_at d z (length (ep c f d) - 6) n

one_back : (c f : ℕ) (d z : List ℕ) → bodies (ep c f d ∷ []) (flatten (ep c f d ∷ []) ++ z) ≡ d
unfolding flatten
one_back c f d z = append-nil _ ∙ ap (λ l. take (length (ep c f d) - 6) (drop 6 l)) (append_assoc (ep c f d) [] z) ∙ body_back c f d z

more_back : (c f : ℕ) (d : List ℕ) (es : List (List ℕ)) (ds z : List ℕ) → bodies es (flatten es ++ z) ≡ ds
    → bodies (ep c f d ∷ es) (flatten (ep c f d ∷ es) ++ z) ≡ d ++ ds
unfolding flatten
more_back c f d es ds z ih =
    let e : List ℕ = ep c f d in
    let a : (e ++ flatten es) ++ z ≡ e ++ (flatten es ++ z) = append_assoc e (flatten es) z in
    ap₂ (λ (x y : List ℕ). x ++ y)
    (ap (λ l. take (length e - 6) (drop 6 l)) a ∙ body_back c f d (flatten es ++ z))
    (ap (λ l. bodies es (drop (length e) l)) a ∙ ap (bodies es) (drop_at e (flatten es ++ z) (length e) refl) ∙ ih)

later_back : (k F c : ℕ) (d z : List ℕ) → bodies (later k F c d) (flatten (later k F c d) ++ z) ≡ d
unfolding later
later_back zero F c d z = one_back c 3 d z
later_back (suc k) F c d z = go (leb (length d) F) (later_back k F c (drop F d) z)
  where
    two : Bool → List (List ℕ)
    two t = cond t (ep c 3 d ∷ []) (ep c 2 (take F d) ∷ later k F c (drop F d))

    go : (t : Bool) → bodies (later k F c (drop F d)) (flatten (later k F c (drop F d)) ++ z) ≡ drop F d → bodies (two t) (flatten (two t) ++ z) ≡ d
    go true ih = one_back c 3 d z
    go false ih = more_back c 2 (take F d) (later k F c (drop F d)) (drop F d) z ih ∙ take-append-drop F d

-- an ordinary packet, whatever comes behind it
pub ordinary_back : (F c : ℕ) (d z : List ℕ) → bodies (pieces F c d) (flatten (pieces F c d) ++ z) ≡ d
unfolding pieces
ordinary_back F c d z = go (leb (length d) F)
  where
    two : Bool → List (List ℕ)
    two t = cond t (ep c 0 d ∷ []) (ep c 1 (take F d) ∷ later (length d) F c (drop F d))

    go : (t : Bool) → bodies (two t) (flatten (two t) ++ z) ≡ d
    go true = one_back c 0 d z
    go false = more_back c 1 (take F d) (later (length d) F c (drop F d)) (drop F d) z (later_back (length d) F c (drop F d) z) ∙ take-append-drop F d

-- low-latency packets laid end to end with their headers and end bytes: each with the bytes at its own places
abbrev pub lows_by : List Packet → List ℕ → List Packet
lows_by [] bs = []
lows_by (p ∷ ps) bs = (p.0, take (length p.1) (drop 6 bs)) ∷ lows_by ps (drop (7 + length p.1) bs)

pub lows_back : (ps : List Packet) (z : List ℕ) → lows_by ps (part (lleps ps) ++ z) ≡ ps
unfolding part
lows_back [] z = refl
lows_back (p ∷ ps) z =
    let e : List ℕ = llep p in
    let n : ℕ = length p.1 in
    let b : ℕ = cond (present (lleps ps)) 0xFF 0x00 in
    let rest : List ℕ = part (lleps ps) ++ z in
    let l : length (e ++ b ∷ []) ≡ 7 + n = omega (arith, length-append e (b ∷ []), ep_length p.0 0 p.1) in
    let a : (e ++ b ∷ part (lleps ps)) ++ z ≡ e ++ (b ∷ rest) = append_assoc e (b ∷ part (lleps ps)) z in
    ap₂ (λ (x : List ℕ) (y : List Packet). (p.0, x) ∷ y)
    (ap (λ l. take n (drop 6 l)) a ∙ ap (take n) (behind_header p.0 0 p.1 (b ∷ rest)) ∙ take_at p.1 (b ∷ rest) n refl)
    (ap (λ l. lows_by ps (drop (7 + n) l)) (a ∙ sym (append_assoc e (b ∷ []) rest)) ∙ ap (lows_by ps) (drop_at (e ++ b ∷ []) rest (7 + n) l) ∙ lows_back ps z)

-- ---- an ordinary packet is no longer than its EPs

-- how many data bytes EPs have
abbrev loads : List (List ℕ) → ℕ
loads [] = 0
loads (e ∷ es) = length e - 6 + loads es

loads_few : (es : List (List ℕ)) → loads es ≤ length (flatten es)
unfolding flatten
loads_few [] = omega arith
loads_few (e ∷ es) = omega (arith, loads_few es, length-append e (flatten es))

bodies_length : (es : List (List ℕ)) (bs : List ℕ) → length (bodies es bs) ≤ loads es
bodies_length [] bs = omega arith
bodies_length (e ∷ es) bs =
    let n : ℕ = length e - 6 in
    omega (arith, length-append (take n (drop 6 bs)) (bodies es (drop (length e) bs)), length-take n (drop 6 bs), bodies_length es (drop (length e) bs))

pub data_length_lem : (F c : ℕ) (d : List ℕ) → length d ≤ length (sp_bytes F c d)
unfolding sp_bytes
data_length_lem F c d =
    let es : List (List ℕ) = pieces F c d in
    omega (arith, ap length (ordinary_back F c d []), bodies_length es (flatten es ++ []), loads_few es)
