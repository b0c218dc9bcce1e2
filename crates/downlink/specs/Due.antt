-- What is due: accepted packets, each with the places in the TPs at which its bytes were drawn; and what is handed out for them: the bytes
-- that arrived there. Assumes nothing.
use Rattle.std.specs.Prelude.{◌≡◌, ◌⊎◌, Bool, cond, ℕ, suc, ◌+◌, ◌-◌, ◌<◌, length, take, drop, get_or}
use mathlib.Core.List.{List, [], ◌∷◌, ◌++◌, flatten, map}
use Rattle.sender.specs.Run.{Tp, Deed, refused, took, took_low, drew, tps}
use Rattle.downlink.specs.Hearing.{Packet}
use Rattle.downlink.specs.Damage.{Item, filler, packet, items, eps, drawn, ordinary_of}

-- ---- an accepted packet, and where it was drawn

-- byte i of TP n, both counted from 0
abbrev pub Place : Type 0
Place = ℕ × ℕ

abbrev pub places_in : ℕ → ℕ → List ℕ → List Place
places_in n i [] = []
places_in n i (b ∷ bs) = (n, i) ∷ places_in n (suc i) bs

-- the places of TPs, of which the first has the number n
abbrev pub places : ℕ → List Tp → List (List Place)
places n [] = []
places n (t ∷ ts) = places_in n 0 t.bytes ∷ places (suc n) ts

abbrev pub byte_at : List (List ℕ) → Place → ℕ
byte_at tps p = get_or (get_or tps p.0 []) p.1 0

-- its content and its data, as offered; the place at which each byte of them was drawn
pub record Due : Type 0 where
  pub content : ℕ
  pub offered : List ℕ
  pub own : List Place

abbrev pub as_offered : Due → Packet
as_offered p = (p.content, p.offered)

-- "Their data differ from what was sent only at the changed bytes": q is handed out for p, where these TPs were drawn and those got
pub record Stands (sent got : List (List ℕ)) (p : Due) (q : Packet) : Type 0 where
  pub content : q.0 ≡ p.content
  pub long : length q.1 ≡ length p.offered
  -- each byte is the one offered, or its place is one where the byte that arrived differs from the byte that was drawn
  pub same : (i : ℕ) → i < length p.offered
      → (get_or q.1 i 0 ≡ get_or p.offered i 0) ⊎ (byte_at got (get_or p.own i (0, 0)) ≡ byte_at sent (get_or p.own i (0, 0)) → ⊥)
  -- and that is its place: the data were drawn there as offered, and are handed out as they arrived there
  pub there : map (byte_at sent) p.own ≡ p.offered
  pub here : map (byte_at got) p.own ≡ q.1

-- "exactly .., in order"
abbrev pub Exactly : List (List ℕ) → List (List ℕ) → List Due → List Packet → Type 0
Exactly sent got [] [] = Unit {0}
Exactly sent got [] (q ∷ qs) = ⊥
Exactly sent got (p ∷ ps) [] = ⊥
Exactly sent got (p ∷ ps) (q ∷ qs) = Stands sent got p q × Exactly sent got ps qs

-- ---- what is due of the low-latency packets: those whose TP is heard

abbrev pub lows_taken : List Deed → List Packet
lows_taken [] = []
lows_taken (refused ∷ ds) = lows_taken ds
lows_taken (took c d ∷ ds) = lows_taken ds
lows_taken (took_low c d ∷ ds) = (c, d) ∷ lows_taken ds
lows_taken (drew t ∷ ds) = lows_taken ds

-- these packets, laid end to end with their headers and end bytes from the first of these places on
abbrev pub lows_in : List Packet → List Place → List Due
lows_in [] xs = []
lows_in (p ∷ ps) xs =
    record { content = p.0; offered = p.1; own = take (length p.1) (drop 6 xs) } ∷ lows_in ps (drop (7 + length p.1) xs)

-- these packets, in the TPs that carry them, of which the first has the number n
abbrev pub lows_due : (ℕ → Bool) → ℕ → List Packet → List Tp → List Due
lows_due heard n ps [] = []
lows_due heard n ps (t ∷ ts) =
    cond (heard n) (lows_in (take (length t.lleps) ps) (drop 4 (places_in n 0 t.bytes))) []
    ++ lows_due heard (suc n) (drop (length t.lleps) ps) ts

-- ---- what is due of the ordinary packets: ordinary bytes are numbered from 0 in the order of drawing

-- of what stands at the bytes of EPs laid end to end, that of their data
abbrev pub bodies : {A : Type 0} → List (List ℕ) → List A → List A
bodies [] xs = []
bodies (e ∷ es) xs = take (length e - 6) (drop 6 xs) ++ bodies es (drop (length e) xs)

abbrev pub due_of : Item → List Place → List Due
due_of (filler e) xs = []
due_of (packet c d es) xs = record { content = c; offered = d; own = bodies es xs } ∷ []

abbrev pub size : Item → ℕ
size i = length (flatten (eps i))

-- of items laid end to end from the number `at` on, at these places: those of which the number of the first byte, and that behind the last,
-- headers counted, say so
abbrev pub ordinary_due : (ℕ → ℕ → Bool) → ℕ → List Item → List Place → List Due
ordinary_due whole at [] xs = []
ordinary_due whole at (i ∷ is) xs =
    cond (whole at (at + size i)) (due_of i xs) [] ++ ordinary_due whole (at + size i) is (drop (size i) xs)

-- ---- both sorts

abbrev pub lows_of : List Deed → (ℕ → Bool) → List Due
lows_of ds heard = lows_due heard 0 (lows_taken ds) (tps ds)

abbrev pub ordinaries_of : ℕ → List Deed → (ℕ → ℕ → Bool) → List Due
ordinaries_of F ds whole = ordinary_due whole 0 (items F ds) (ordinary_of (tps ds) (places 0 (tps ds)))

-- a sender did ds, and got arrived of its TPs; these packets are handed out for those that are due
pub record Right (F : ℕ) (ds : List Deed) (got : List (List ℕ)) (heard : ℕ → Bool) (whole : ℕ → ℕ → Bool) (lows ordinaries : List Packet) : Type 0 where
  pub low : Exactly (drawn (tps ds)) got (lows_of ds heard) lows
  pub ordinary : Exactly (drawn (tps ds)) got (ordinaries_of F ds whole) ordinaries
