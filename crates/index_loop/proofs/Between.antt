-- From TP to TP in lanes: between two of them the receiver is its lane's, and the records before are taken by their calls. Assumes nothing.
use Prim.Native.Nat.{ℕ, ◌+◌, ◌≤◌}
use mathlib.Core.Path.{◌≡◌, refl, ap, sym, subst, subst⁻¹, ◌∙◌}
use mathlib.Core.List.{List}
use native.Mathlib.Omega.{arith}
use lib.ListN.{length}
use Rattle.block.specs.Block.{Block}
use Rattle.house.specs.Series.{unread_in}
use Rattle.house.specs.Slices.{at_hand, data_in}
use Rattle.std.specs.Prelude.{Some, Ok}
use Rattle.house.specs.declared.Place.TheVariants.{Listing}
use Rattle.house.specs.declared.Record.{Record}
use Rattle.house.specs.declared.Record.TheVariants.{Packet}
use Rattle.house.proofs.Slicing.{whole_data}
use Rattle.receiver.specs.Lanes.{LanedAs, in_lane}
use Rattle.receiver.specs.Place.{count_of}
use Rattle.receiver.specs.declared.Receiver.{Receiver}
use Rattle.receiver.specs.declared.Stage.{Stage}
use Rattle.receiver.specs.declared.Stage.TheVariants.{Fresh}
use Rattle.receiver.specs.declared.lane.Lane.{Lane}
use Rattle.receiver.specs.declared.lane.Lane.TheVariants as L
use Rattle.index_loop.specs.declared.Run.{Run}
use Rattle.index_loop.specs.declared.Task.{Task}
use Rattle.index_loop.specs.declared.Task.TheVariants.{Index}
use Rattle.index_loop.specs.declared.lanes.Left.{Left}
use Rattle.index_loop.specs.declared.lanes.Left.TheVariants.{Nothing, All, From}
use Rattle.index_loop.specs.declared.lanes.Passed.{Passed}
use Rattle.index_loop.specs.Lanes.{BegunBy, PassedBy, RunIn}
use Rattle.index_loop.specs.Walking.{Standing, standing, Takes, stays, pauses, ends, block_of, stamp_of, sum_of}
use Rattle.index_loop.proofs.Hearing.{stands}

-- a receiver's lane is that receiver
laned_is : (l : Lane) (r : Receiver) → LanedAs l r → (l ≡ L.Other → 1 ≤ 0) → r ≡ in_lane r r.count l Fresh 0
laned_is L.Other r a n = absurd (omega (arith, n refl))
laned_is L.Lost r a n = a.0
laned_is L.Idle r a n = a.0
laned_is (L.Cut p i w) r a n = a.0
laned_is (L.Busy p i w c e) r a n = a.0

pub for_index : (task : Task) (covered gone till : ℕ) (block : List ℕ) (a s : Standing) → task ≡ Index covered → Takes (Index covered) gone till block a s → Takes task gone till block a s
for_index task covered gone till block a s e k = subst⁻¹ (λ (x : Task). Takes x gone till block a s) e k

module _ (covered gone till : ℕ) (block : List ℕ) (a : Standing) (b : Receiver) where
  -- before the record n, which begins at this byte
  abbrev pub Between : ℕ → Lane → ℕ → ℕ → ℕ → List ℕ → List ℕ → Type 0
  Between k l n at from m out = Takes (Index covered) gone till block a (record { from = from; number = n; receiver = in_lane b k l Fresh 0; room = m; out = block_of out at })

  module _ (k : ℕ) (l : Lane) (n at from : ℕ) (m out : List ℕ) (so : Between k l n at from m out) where
    pub between_run : (z : Run) → RunIn b k l Fresh 0 n at from z → Takes (Index covered) gone till block a (standing z m out)
    between_run z r =
        stands (Index covered) gone till block a from n (in_lane b k l Fresh 0) m (block_of out at) z m out r.from r.number r.receiver refl (ap (block_of out) r.at) so

    module _ (said : Record) (size : ℕ) (x : List ℕ) (byte : ℕ) (z : Passed) (m' out' : List ℕ) (whole : at_hand Listing (unread_in block from till) ≡ Ok (Some said)) (is : said ≡ Packet size)
        (tp : x ≡ data_in said (unread_in block from till)) (stamp : byte ≡ sum_of gone from) (p : PassedBy covered (record { number = n; byte = byte }) l b x m out at z m' out') where
      abbrev u : List ℕ
      u = unread_in block from till

      packet : at_hand Listing u ≡ Ok (Some (Packet size))
      packet = whole ∙ ap (λ (r : Record). Ok (Some r)) is

      bytes : x ≡ data_in (Packet size) u
      bytes = tp ∙ ap (λ (r : Record). data_in r u) is

      left_by_lem : (y : Left) → z.left ≡ y → BegunBy covered (stamp_of gone n from) (data_in (Packet size) u) b (count_of k) (in_lane b k l Fresh 0) m (block_of out at) y m' (block_of out' z.at)
      left_by_lem y e =
          subst (λ (v : List ℕ). BegunBy covered (stamp_of gone n from) v b (count_of k) (in_lane b k l Fresh 0) m (block_of out at) y m' (block_of out' z.at)) bytes
          (subst (λ (i : ℕ). BegunBy covered (record { number = n; byte = i }) x b (count_of k) (in_lane b k l Fresh 0) m (block_of out at) y m' (block_of out' z.at)) stamp
          (subst (λ (v : Left). BegunBy covered (record { number = n; byte = byte }) x b (count_of k) (in_lane b k l Fresh 0) m (block_of out at) v m' (block_of out' z.at)) e (p k)))

      -- not begun
      pub between_all : z.left ≡ All → Between k l n z.at from m' out'
      between_all e =
          let h = left_by_lem All e in
          subst⁻¹ (λ (v : List ℕ). Takes (Index covered) gone till block a (record { from = from; number = n; receiver = in_lane b k l Fresh 0; room = v; out = block_of out' z.at })) h.0
          (subst⁻¹ (λ (v : Block). Takes (Index covered) gone till block a (record { from = from; number = n; receiver = in_lane b k l Fresh 0; room = m; out = v })) h.1 so)

      -- it ended
      pub between_on : (l' : Lane) (k' n' from' : ℕ) → z.left ≡ Nothing l' → k' ≡ count_of k → n' ≡ sum_of n 1 → from' ≡ from + 8 + length x → Between k' l' n' z.at from' m' out'
      between_on l' k' n' from' e ek en ef =
          let size_is : from' ≡ from + 8 + size = ef ∙ ap (λ (v : List ℕ). from + 8 + length v) bytes ∙ ap (λ (i : ℕ). from + 8 + i) (whole_data Listing u (Packet size) packet) in
          subst⁻¹ (λ (i : ℕ). Between i l' n' z.at from' m' out') ek
          (subst⁻¹ (λ (i : ℕ). Between (count_of k) l' i z.at from' m' out') en
          (subst⁻¹ (λ (i : ℕ). Between (count_of k) l' (sum_of n 1) z.at i m' out') size_is (ends so packet (left_by_lem (Nothing l') e))))

      -- it has more to give
      pub between_pause : (l' : Lane) (s : Stage) (i k' : ℕ) (y : Run) → z.left ≡ From l' s i → k' ≡ count_of k → RunIn b k' l' s i n z.at from y
          → Takes (Index covered) gone till block a (standing y m' out')
      between_pause l' s i k' y e ek r =
          stands (Index covered) gone till block a from n (in_lane b (count_of k) l' s i) m' (block_of out' z.at) y m' out' r.from r.number
          (r.receiver ∙ ap (λ (j : ℕ). in_lane b j l' s i) ek) refl (ap (block_of out') r.at) (pauses so packet (left_by_lem (From l' s i) e))

-- the loop begins
pub between_first : (covered gone till : ℕ) (block : List ℕ) (b : Receiver) (k : ℕ) (l : Lane) (n at from : ℕ) (m out : List ℕ) → LanedAs l b → (l ≡ L.Other → 1 ≤ 0) → k ≡ b.count
    → Between covered gone till block (record { from = from; number = n; receiver = b; room = m; out = block_of out at }) b k l n at from m out
between_first covered gone till block b k l n at from m out a other e =
    subst (λ (x : Receiver). Takes (Index covered) gone till block (record { from = from; number = n; receiver = b; room = m; out = block_of out at }) (record { from = from; number = n; receiver = x; room = m; out = block_of out at }))
    (laned_is l b a other ∙ ap (λ (i : ℕ). in_lane b i l Fresh 0) (sym e)) stays
