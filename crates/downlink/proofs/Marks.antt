-- Bytes with their marks: which of the ordinary bytes begin an EP. Marks that fit the lengths in the headers say where the
-- next EP begins, which is how the sender counts. Assumes nothing.
use Prim.Native.Nat.{ℕ, zero, suc, ◌+◌, ◌-◌, ◌≤◌, ◌<◌, min}
use mathlib.Core.Path.{◌≡◌, refl, sym, ap, ◌∙◌, subst⁻¹}
use mathlib.Core.Bool.{Bool, true, false}
use mathlib.Core.List.{List, [], ◌∷◌, ◌++◌, append-nil, flatten}
use native.Mathlib.Nat.{suc-add, zero-add, zero-min, min-zero, suc-min-suc}
use native.Mathlib.Omega.{arith}
use lib.ListN.{length, take, drop}
use lib.Seq.{take-append-le, drop-nil}
use Rattle.wire.specs.Wire.{ep}
use Rattle.wire.proofs.Laws.{ep_length}
use Rattle.sender.specs.Drawing.{head_at, size_in, span, rest_after}
use Rattle.downlink.proofs.plain.Low.{wire}
use Rattle.downlink.proofs.Window.{bytes, before, bytes_append}
use Rattle.downlink.proofs.Trains.{plain, bytes_plain}
use Rattle.downlink.proofs.Heads.{size_in_lem, head_at_lem}

abbrev pub Cells : Type 0
Cells = List (Bool × ℕ)

-- ---- the bytes

pub bytes_length : (x : Cells) → length (bytes wire x) ≡ length x
bytes_length [] = refl
bytes_length (c ∷ x) = ap suc (bytes_length x)

pub bytes_take : (n : ℕ) (x : Cells) → bytes wire (take n x) ≡ take n (bytes wire x)
bytes_take zero x = refl
bytes_take (suc n) [] = refl
bytes_take (suc n) (c ∷ x) = ap (λ l. c.1 ∷ l) (bytes_take n x)

pub bytes_drop : (n : ℕ) (x : Cells) → bytes wire (drop n x) ≡ drop n (bytes wire x)
bytes_drop zero x = refl
bytes_drop (suc n) [] = refl
bytes_drop (suc n) (c ∷ x) = bytes_drop n x

pub before_take : (n : ℕ) (x : Cells) → before wire (take n x) ≡ min n (before wire x)
before_take zero x = rw zero-min
before_take (suc n) [] = rw min-zero
before_take (suc n) ((true, b) ∷ x) = rw min-zero
before_take (suc n) ((false, b) ∷ x) = rw suc-min-suc (ap suc (before_take n x))

pub drop_min : (n : ℕ) (x : Cells) → drop (min n (length x)) x ≡ drop n x
drop_min n [] = drop-nil (min n 0) ∙ sym (drop-nil n)
drop_min zero (a ∷ x) = rw zero-min
drop_min (suc n) (a ∷ x) = rw suc-min-suc (drop_min n x)

-- ---- the cells of EPs: the first byte of each is marked

abbrev pub ep_cells : List ℕ → Cells
ep_cells [] = []
ep_cells (b ∷ bs) = (true, b) ∷ plain wire bs

abbrev pub eps_cells : List (List ℕ) → Cells
eps_cells [] = []
eps_cells (e ∷ es) = ep_cells e ++ eps_cells es

pub ep_bytes : (e : List ℕ) → bytes wire (ep_cells e) ≡ e
ep_bytes [] = refl
ep_bytes (b ∷ e) = ap (λ l. b ∷ l) (bytes_plain wire e)

pub eps_bytes : (es : List (List ℕ)) → bytes wire (eps_cells es) ≡ flatten es
unfolding flatten
eps_bytes [] = refl
eps_bytes (e ∷ es) = bytes_append wire (ep_cells e) (eps_cells es) ∙ rw (ep_bytes e, eps_bytes es)

-- ---- none is marked

unfoldable pub Plain : Cells → Type 0
Plain [] = Unit {0}
Plain (c ∷ cs) = (c.0 ≡ false) × Plain cs

pub plain_before : (x y : Cells) → Plain x → before wire (x ++ y) ≡ length x + before wire y
unfolding Plain
plain_before [] y p = sym (zero-add (before wire y))
plain_before (c ∷ x) y p = rw p.0 (ap suc (plain_before x y p.1) ∙ sym (suc-add (length x) (before wire y)))

pub plain_drop : (n : ℕ) (x : Cells) → Plain x → Plain (drop n x)
unfolding Plain
plain_drop zero x p = p
plain_drop (suc n) [] p = tt
plain_drop (suc n) (c ∷ x) p = plain_drop n x p.1

pub plain_append : (x y : Cells) → Plain x → Plain y → Plain (x ++ y)
unfolding Plain
plain_append [] y p q = q
plain_append (c ∷ x) y p q = (p.0, plain_append x y p.1 q)

plain_plain : (bs : List ℕ) → Plain (plain wire bs)
unfolding Plain
plain_plain [] = tt
plain_plain (b ∷ bs) = (refl, plain_plain bs)

-- an EP behind its first byte
pub plain_behind : (m : ℕ) (e : List ℕ) → Plain (drop (suc m) (ep_cells e))
unfolding Plain
plain_behind m [] = tt
plain_behind m (b ∷ bs) = plain_drop m (plain wire bs) (plain_plain bs)

-- ---- marks that fit: r bytes are left of the EP under way

unfoldable pub Good : ℕ → Cells → Type 0
Good zero [] = Unit {0}
Good (suc r) [] = ⊥
Good zero (c ∷ cs) = (c.0 ≡ true) × Good (5 + size_in (head_at (c.1 ∷ bytes wire cs))) cs
Good (suc r) (c ∷ cs) = (c.0 ≡ false) × Good r cs

pub good_length : (r : ℕ) (cs : Cells) → Good r cs → r ≤ length cs
unfolding Good
good_length zero cs g = omega arith
good_length (suc r) [] g = absurd g
good_length (suc r) (c ∷ cs) g = omega (arith, good_length r cs g.1)

pub good_before : (r : ℕ) (cs : Cells) → Good r cs → before wire cs ≡ r
unfolding Good
good_before zero [] g = refl
good_before (suc r) [] g = absurd g
good_before zero (c ∷ cs) g = rw g.0
good_before (suc r) (c ∷ cs) g = rw g.0 (ap suc (good_before r cs g.1))

plain_good : (x : Cells) → Plain x → Good (length x) x
unfolding Plain Good
plain_good [] p = tt
plain_good (c ∷ x) p = (p.0, plain_good x p.1)

-- the header lies in the first six bytes
head_append : (x y : List ℕ) → 6 ≤ length x → head_at (x ++ y) ≡ head_at x
unfolding head_at
head_append x y h = rw (take-append-le 6 x y h)

pub good_append : (r : ℕ) (x y : Cells) → Good r x → Good 0 y → Good r (x ++ y)
unfolding Good
good_append zero [] y g h = h
good_append (suc r) [] y g h = absurd g
good_append zero (c ∷ x) y g h =
    let n : ℕ = 5 + size_in (head_at (c.1 ∷ bytes wire x)) in
    let l = good_length n x g.1 in
    let e : head_at (c.1 ∷ bytes wire (x ++ y)) ≡ head_at (c.1 ∷ bytes wire x) =
    ap (λ z. head_at (c.1 ∷ z)) (bytes_append wire x y) ∙ head_append (c.1 ∷ bytes wire x) (bytes wire y) (omega (arith, bytes_length x)) in
    (g.0, rw e (good_append n x y g.1 h))
good_append (suc r) (c ∷ x) y g h = (g.0, good_append r x y g.1 h)

span_whole : (q : List ℕ) → 6 + size_in (head_at q) ≤ length q → span q - 1 ≡ 5 + size_in (head_at q)
unfolding span
span_whole q h = omega arith

pub good_drop : (n r : ℕ) (x : Cells) → Good r x → n ≤ length x → Good (rest_after n (bytes wire x) r) (drop n x)
unfolding Good rest_after
good_drop zero r x g h = g
good_drop (suc n) r [] g h = absurd (omega arith)
good_drop (suc n) zero (c ∷ x) g h =
    let m : ℕ = 5 + size_in (head_at (c.1 ∷ bytes wire x)) in
    let l = good_length m x g.1 in
    let e = span_whole (c.1 ∷ bytes wire x) (omega (arith, bytes_length x)) in
    rw e (good_drop n m x g.1 (omega arith))
good_drop (suc n) (suc r) (c ∷ x) g h = good_drop n r x g.1 (omega arith)

-- ---- EPs as they are sent are marked so

-- an EP string: its header says its length
pub record Sent (e : List ℕ) : Type 0 where
  pub content : ℕ
  pub flag : ℕ
  pub load : List ℕ
  pub is : e ≡ ep content flag load
  pub known : content < 16
  pub flagged : flag < 4
  pub short : length load < 65536

unfoldable pub AllSent : List (List ℕ) → Type 0
AllSent [] = Unit {0}
AllSent (e ∷ es) = Sent e × AllSent es

good_cells : (e : List ℕ) → 6 + size_in (head_at e) ≡ length e → Good 0 (ep_cells e)
unfolding Good
good_cells [] h = absurd (omega arith)
good_cells (b ∷ bs) h =
    let n : 5 + size_in (head_at (b ∷ bytes wire (plain wire bs))) ≡ length (plain wire bs) =
    rw (bytes_plain wire bs) (omega (arith, sym (bytes_length (plain wire bs)) ∙ ap length (bytes_plain wire bs))) in
    (refl, rw n (plain_good (plain wire bs) (plain_plain bs)))

good_ep : (c f : ℕ) (d : List ℕ) → length d < 65536 → Good 0 (ep_cells (ep c f d))
good_ep c f d s =
    let e : head_at (ep c f d) ≡ _ = ap head_at (sym (append-nil (ep c f d))) ∙ head_at_lem c f d [] in
    good_cells (ep c f d) (rw (e, size_in_lem c f (length d) s) (sym (ep_length c f d)))

pub good_eps : (es : List (List ℕ)) → AllSent es → Good 0 (eps_cells es)
unfolding AllSent Good
good_eps [] s = tt
good_eps (e ∷ es) s =
    good_append 0 (ep_cells e) (eps_cells es)
    (subst⁻¹ (λ l. Good 0 (ep_cells l)) s.0.is (good_ep s.0.content s.0.flag s.0.load s.0.short)) (good_eps es s.1)
