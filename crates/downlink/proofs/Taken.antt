-- The ordinary bytes of a draw: r of the owed ones, the queued ones and fill are taken, and what is left is owed or queued again.
-- The first marked one stands where the sender's count says. Assumes nothing.
use Prim.Native.Nat.{ℕ, ◌+◌, ◌-◌, ◌≤◌, ◌<◌, min}
use mathlib.Core.Path.{◌≡◌, refl, sym, ap, ap₂, ◌∙◌, subst}
use mathlib.Core.Logic.{⊎_elim}
use mathlib.Core.List.{List, [], ◌++◌, append_assoc, append-nil}
use native.Mathlib.Omega.{arith}
use lib.ListN.{length, take, drop, replicate, length-append, length-replicate, replicate-append-replicate, drop_of_length-le, take-append-drop}
use lib.Seq.{length-take-le}
use Rattle.sender.specs.Drawing.{fill, lacking, stream, owed_after, rest_after, offset}
use Rattle.downlink.proofs.plain.Low.{wire}
use Rattle.downlink.proofs.Window.{bytes, bytes_append, before}
use Rattle.downlink.proofs.Marks.{Cells, bytes_length, bytes_take, bytes_drop, before_take, drop_min, ep_cells, ep_bytes, Plain, plain_before, plain_drop, plain_append, Good, good_before, good_append, good_drop}
use Rattle.downlink.proofs.Lows.{split}
use Rattle.downlink.proofs.Fills.{drop_both, drop_replicate, fill_much, fill_rest, fill_plain, fill_good, same_offset}

-- owed cells and queued ones, a draw of r, the queued bytes
pub record Taken (oc qc : Cells) (ow re r : ℕ) (Q : List ℕ) : Type 0 where
  pub own : Cells
  pub oc' : Cells
  pub qc' : Cells
  pub long : length own ≡ r
  pub bytes_are : bytes wire own ≡ take r (stream r ow Q)
  pub first : (g : ℕ) → offset g (before wire own) (length own) ≡ offset g (ow + re) r
  pub plain : Plain oc'
  pub zeros : bytes wire oc' ≡ replicate (owed_after r ow Q) 0
  pub queued : bytes wire qc' ≡ drop (min (r - ow) (length Q)) Q
  pub good : Good (rest_after (min (r - ow) (length Q)) Q re) qc'
  pub flows : own ++ (oc' ++ qc') ≡ (oc ++ qc) ++ ep_cells (fill (lacking r ow Q))

module _ (oc qc : Cells) (ow re r : ℕ) (Q : List ℕ) (plain : Plain oc) (zeros : bytes wire oc ≡ replicate ow 0) (queued : bytes wire qc ≡ Q)
    (good : Good re qc) (small : r ≤ 2047) where
  owed_length : length oc ≡ ow
  owed_length = sym (bytes_length oc) ∙ ap length zeros ∙ length-replicate ow 0

  queue_length : length qc ≡ length Q
  queue_length = sym (bytes_length qc) ∙ ap length queued

  -- ---- fill

  m : ℕ
  m = lacking r ow Q

  m_is : m ≡ r - ow - length Q
  unfolding m lacking
  m_is = refl

  fc : Cells
  fc = ep_cells (fill m)

  fc_bytes : bytes wire fc ≡ fill m
  unfolding fc
  fc_bytes = ep_bytes (fill m)

  fc_length : length fc ≡ length (fill m)
  fc_length = sym (bytes_length fc) ∙ ap length fc_bytes

  fc_good : Good 0 fc
  unfolding fc
  fc_good = fill_good m (omega (arith, m_is))

  fc_none : m ≡ 0 → fc ≡ []
  unfolding fc fill
  fc_none e = ap (λ (z : ℕ). ep_cells (fill z)) e

  -- ---- what is taken

  all : Cells
  all = oc ++ (qc ++ fc)

  all_bytes : bytes wire all ≡ stream r ow Q
  unfolding all stream m
  all_bytes =
      bytes_append wire oc (qc ++ fc)
      ∙ ap₂ (λ (a b : List ℕ). a ++ b) zeros (bytes_append wire qc fc ∙ ap₂ (λ (a b : List ℕ). a ++ b) queued fc_bytes)

  all_before : before wire all ≡ ow + re
  unfolding all
  all_before =
      plain_before oc (qc ++ fc) plain
      ∙ ap₂ (λ (a b : ℕ). a + b) owed_length (good_before re (qc ++ fc) (good_append re qc fc good fc_good))

  own_length : length (take r all) ≡ r
  unfolding all
  own_length =
      length-take-le r (oc ++ (qc ++ fc))
      (omega (arith, length-append oc (qc ++ fc), length-append qc fc, fc_length, fill_much m, owed_length, queue_length, m_is))

  first_is : (g : ℕ) → offset g (before wire (take r all)) (length (take r all)) ≡ offset g (ow + re) r
  first_is g = ap₂ (λ (a b : ℕ). offset g a b) (before_take r all ∙ ap (min r) all_before) own_length ∙ same_offset g (ow + re) r

  -- ---- what is left

  n : ℕ
  n = min (r - ow) (length Q)

  parted : drop r all ≡ drop r oc ++ (drop n qc ++ drop m fc)
  unfolding all n
  parted =
      let a : drop (r - ow) qc ≡ drop (min (r - ow) (length Q)) qc = sym (drop_min (r - ow) qc) ∙ ap (λ (z : ℕ). drop (min (r - ow) z) qc) queue_length in
      let b : r - ow - length qc ≡ m = ap (λ (z : ℕ). r - ow - z) queue_length ∙ sym m_is in
      drop_both r oc (qc ++ fc) ∙ rw (owed_length, drop_both (r - ow) qc fc, b, a)

  all_gone : ow + length Q < r → length qc ≤ n
  unfolding n
  all_gone s = omega (arith, queue_length)

  left_is : drop r all ≡ (drop r oc ++ drop m fc) ++ drop n qc
  left_is =
      ⊎_elim
      (λ s. let z : m ≡ 0 = omega (arith, m_is) in
      parted ∙ rw (z, fc_none z) (rw (append-nil (drop n qc), append-nil (drop r oc)) refl))
      (λ s. let g : length qc ≤ n = all_gone s in
      let e : drop n qc ≡ [] = drop_of_length-le qc g in
      parted ∙ rw e (sym (append-nil (drop r oc ++ drop m fc))))
      (split r (ow + length Q))

  owed_is : owed_after r ow Q ≡ ow - r + (length (fill m) - m)
  unfolding owed_after m
  owed_is = refl

  zeros_left : bytes wire (drop r oc ++ drop m fc) ≡ replicate (owed_after r ow Q) 0
  zeros_left =
      bytes_append wire (drop r oc) (drop m fc)
      ∙ ap₂ (λ (a b : List ℕ). a ++ b) (bytes_drop r oc ∙ ap (drop r) zeros ∙ drop_replicate r ow 0) (bytes_drop m fc ∙ ap (drop m) fc_bytes ∙ fill_rest m)
      ∙ replicate-append-replicate (ow - r) (length (fill m) - m) 0
      ∙ ap (λ (z : ℕ). replicate z 0) (sym owed_is)

  plain_left : Plain (drop r oc ++ drop m fc)
  unfolding fc
  plain_left = plain_append (drop r oc) (drop m (ep_cells (fill m))) (plain_drop r oc plain) (fill_plain m)

  pub taken : Taken oc qc ow re r Q
  unfolding all fc m n
  taken =
      record {
        own = take r all;
        oc' = drop r oc ++ drop m fc;
        qc' = drop n qc;
        long = own_length;
        bytes_are = bytes_take r all ∙ ap (take r) all_bytes;
        first = first_is;
        plain = plain_left;
        zeros = zeros_left;
        queued = bytes_drop n qc ∙ ap (drop n) queued;
        good = subst (λ (z : List ℕ). Good (rest_after n z re) (drop n qc)) queued (good_drop n re qc good (omega (arith, queue_length)));
        flows = ap (λ z. take r all ++ z) (sym left_is) ∙ take-append-drop r all ∙ sym (append_assoc oc qc fc);
      }
