-- EP bytes put behind what a ring holds, one after another. Assumes nothing.
use mathlib.Core.Path.{◌≡◌, refl, ap, ◌∙◌}
use mathlib.Core.List.{List, [], ◌++◌}
use Prim.Native.Nat.{ℕ, ◌+◌, ◌≤◌}
use lib.ListN.{length, length-append}
use Rattle.queue.specs.declared.Ring.{Ring}
use Rattle.queue.specs.Ring.{Left, Kept, longer, written, pushed}
use Rattle.queue.proofs.Puts.{push_fits, length_written, kept_written, written_two, longer_two, put_none}
use Rattle.wire.specs.Wire.{header, ep}
use Rattle.sender.specs.Steps.{Put}

module _ (b : List ℕ) (q : Ring) (w : Kept b q) where
  pub is_put : (s : List ℕ) (x : Left) → q.len + length s ≤ length b → x ≡ pushed b q s → x ≡ Put b q s
  is_put s x p e = e ∙ push_fits b s q w p

  pub nothing : record { ring = q; bytes = b } ≡ Put b q []
  nothing = put_none b q w

  module _ (e b' : List ℕ) (t : Ring) (p : q.len + length e ≤ length b) (u : record { ring = t; bytes = b' } ≡ Put b q e) where
    bytes_is : b' ≡ written b q e
    bytes_is = ap (λ (x : Left). x.bytes) u

    ring_is : t ≡ longer q (length e)
    ring_is = ap (λ (x : Left). x.ring) u

    pub same : length b' ≡ length b
    same = ap length bytes_is ∙ length_written b e q w p

    pub kept : Kept b' t
    kept = rw (bytes_is, ring_is) (kept_written b e q w p)

    pub longer_by : t.len ≡ q.len + length e
    unfolding longer
    longer_by = ap (λ (x : Ring). x.len) ring_is

    pub then : (f b'' : List ℕ) (t' : Ring) → q.len + length e + length f ≤ length b → record { ring = t'; bytes = b'' } ≡ Put b' t f
        → record { ring = t'; bytes = b'' } ≡ Put b q (e ++ f)
    then f b'' t' r v =
        v ∙ rw (bytes_is, ring_is, longer_two q (length e) (length f), written_two b e f q w r, ← length-append e f)

-- a header and data put, as an EP
pub put_as : (b : List ℕ) (q : Ring) (c f n : ℕ) (h d : List ℕ) (x : Left) → h ≡ header c f n → length d ≡ n → x ≡ Put b q (h ++ d) → x ≡ Put b q (ep c f d)
unfolding ep
put_as b q c f n h d x e l u = u ∙ rw (e, ← l) refl
