-- WHAT A TURN'S BYTES BRING TO LIGHT, part by part: its events but for those that it leaves to be taken in; they leave what is
-- kept, and give its find. Assumes nothing.
use mathlib.Core.Path.{ap, refl, sym, ◌∙◌, ◌≡◌}
use mathlib.Core.Bool.{Bool, cond, false, true}
use mathlib.Core.List.{List, [], append-nil, ◌++◌, ◌∷◌}
use Prim.Native.Nat.{ℕ, ◌+◌, ◌-◌, ◌≤◌}
use native.Mathlib.Omega.{arith}
use lib.Dec.{leb}
use lib.ListN.{length, take}
use lib.Seq.{length-take-le}
use borrow.Author.Tests.{le-leb, leb-false, leb-true, lt-leb}
use Rattle.std.specs.Prelude.{None, Option, Some}
use Rattle.digits.specs.Digits.{digits}
use Rattle.wire.specs.declared.Header.{Header}
use Rattle.receiver.specs.declared.Place.{Place}
use Rattle.receiver.specs.declared.kind.Kind.{Kind}
use Rattle.receiver.specs.declared.kind.Kind.TheVariants.{Complete, Fill, First, Last, Middle, Reserved}
use Rattle.receiver.specs.declared.walk.Gain.TheVariants.{Nothing, Notice}
use Rattle.receiver.specs.declared.walk.Kept.{Kept}
use Rattle.receiver.specs.declared.walk.Phase.{Phase}
use Rattle.receiver.specs.declared.walk.Phase.TheVariants.{Body, Head, Judged}
use Rattle.receiver.specs.declared.walk.Turn.{Turn}
use Rattle.receiver.specs.declared.walk.Turn.TheVariants.{More, Stop}
use Rattle.receiver.specs.Frame.{Event, Frame, Out, after, closed, ending, entered, events, lose, opened, whole}
use Rattle.receiver.specs.Join.{Finding, Held, Took, admit, finds, finish, fits, free, grown, held, holding, listed, meets, notice}
use Rattle.receiver.specs.Kind.{kind_of}
use Rattle.receiver.specs.Low.{Ep, Tag, begin_of, ep_at, ep_if, join_of, tag_of, wire}
use Rattle.receiver.specs.State.{Roomy, frame_of, headed, held_of, todo_of}
use Rattle.receiver.specs.Turns.{admit_of, finish_of, fits_of, goes, kept_as, meets_of, opened_of, stops, whole_of}
use Rattle.receiver.specs.InWalk.{find_of}
use Rattle.receiver.proofs.Advancing.{walk_of}
use Rattle.receiver.proofs.Placing.{plain}
use Rattle.receiver.proofs.Run.{grows}
use Rattle.receiver.proofs.Turning.{meets_law}
use Rattle.receiver.proofs.Seeing.{data_after, data_events, feeds, saw}

-- what a turn tells
abbrev pub gained : List ℕ → Turn → Option (Finding wire)
gained m (More x) = None
gained m (Stop a) = find_of a.gain a.walk.began m

abbrev came : List ℕ → Turn → Took wire
came m t = (held_of (walk_of t).kept m, gained m t)

module _ (cap : ℕ) (m : List ℕ) (full : length m ≡ cap) where
  fits_came : (at : ℕ) (h : Header) (g : Place) (c : Tag) (n : ℕ) (d : List ℕ) → d ≡ take n m → n ≤ cap → fits wire cap (ep_at g h) c d ≡ came m (fits_of at h g c n cap)
  unfolding fits_of
  fits_came at h g c n d x r = by (leb h.size (cap - n)) refl
    where
      y : length d ≡ n
      y = ap length x ∙ length-take-le n m (omega arith)

      by : (b : Bool) → leb h.size (cap - n) ≡ b
          → fits wire cap (ep_at g h) c d ≡ came m (cond b (goes at (Body h h.size) g (kept_as c n)) (stops at (Body h h.size) g None (Notice 15)))
      by true q =
          let z : leb (length d + h.size) cap ≡ true = le-leb (length d + h.size) cap (omega (arith, y, leb-true h.size (cap - n) q)) in
          rw z (ap (λ (d : List ℕ). (held c d, None)) x)
      by false q =
          let z : leb (length d + h.size) cap ≡ false = lt-leb (length d + h.size) cap (omega (arith, y, leb-false h.size (cap - n) q)) in
          rw z

  admit_came : (d : Kind) (at : ℕ) (h : Header) (g : Place) (k : Option Kept) → Roomy cap k 0 → admit wire cap d (ep_at g h) (held_of k m) ≡ came m (admit_of d at h g k cap)
  admit_came Fill at h g k r = refl
  admit_came Reserved at h g k r = refl
  admit_came Complete at h g k r = fits_came at h g (begin_of (ep_at g h)) 0 [] refl (omega arith)
  admit_came First at h g k r = fits_came at h g (begin_of (ep_at g h)) 0 [] refl (omega arith)
  admit_came Middle at h g None r = refl
  admit_came Middle at h g (Some k) r = fits_came at h g (join_of (tag_of k.content k.repaired k.began) (ep_at g h)) k.len (take k.len m) refl (omega arith)
  admit_came Last at h g None r = refl
  admit_came Last at h g (Some k) r = fits_came at h g (join_of (tag_of k.content k.repaired k.began) (ep_at g h)) k.len (take k.len m) refl (omega arith)

finish_came : (cap : ℕ) (m : List ℕ) (d : Kind) (at : ℕ) (g : Place) (k : Option Kept) → finish wire d (held_of k m) ≡ came m (finish_of d at g k)
finish_came cap m Fill at g k = refl
finish_came cap m Reserved at g k = refl
finish_came cap m Complete at g None = refl
finish_came cap m Complete at g (Some k) = refl
finish_came cap m First at g k = refl
finish_came cap m Middle at g k = refl
finish_came cap m Last at g None = refl
finish_came cap m Last at g (Some k) = refl

-- a turn from this phase, of what began there, with this kept, over these bytes
pub record Brings (cap : ℕ) (g : Place) (p : Phase) (k : Option Kept) (m : List ℕ) (bs : List (Place × ℕ)) (t : Turn) (m' : List ℕ) : Type 0 where
  pub taken : List (Event wire)
  pub frame : after wire (frame_of g p) bs ≡ frame_of (walk_of t).began (walk_of t).phase
  pub told : todo_of g p ++ events wire (frame_of g p) bs ≡ taken ++ todo_of (walk_of t).began (walk_of t).phase
  pub held : holding wire cap (held_of k m) taken ≡ held_of (walk_of t).kept m'
  pub finds : finds wire cap (held_of k m) taken ≡ listed wire (gained m' t)

-- where a turn leaves reading, whatever is made of it
module _ (A : Type 0) (f : Place → Phase → A) where
  abbrev left : Turn → A
  left t = f (walk_of t).began (walk_of t).phase

  fits_left : (at : ℕ) (h : Header) (g : Place) (c : Tag) (n cap : ℕ) → left (fits_of at h g c n cap) ≡ f g (Body h h.size)
  unfolding fits_of
  fits_left at h g c n cap = by (leb h.size (cap - n))
    where
      by : (b : Bool) → left (cond b (goes at (Body h h.size) g (kept_as c n)) (stops at (Body h h.size) g None (Notice 15))) ≡ f g (Body h h.size)
      by true = refl
      by false = refl

  admit_left : (d : Kind) (at : ℕ) (h : Header) (g : Place) (k : Option Kept) (cap : ℕ) → left (admit_of d at h g k cap) ≡ f g (Body h h.size)
  admit_left Fill at h g k cap = refl
  admit_left Reserved at h g k cap = refl
  admit_left Complete at h g k cap = fits_left at h g (begin_of (ep_at g h)) 0 cap
  admit_left First at h g k cap = fits_left at h g (begin_of (ep_at g h)) 0 cap
  admit_left Middle at h g None cap = refl
  admit_left Middle at h g (Some k) cap = fits_left at h g (join_of (tag_of k.content k.repaired k.began) (ep_at g h)) k.len cap
  admit_left Last at h g None cap = refl
  admit_left Last at h g (Some k) cap = fits_left at h g (join_of (tag_of k.content k.repaired k.began) (ep_at g h)) k.len cap

  finish_left : (d : Kind) (at : ℕ) (g : Place) (k : Option Kept) → left (finish_of d at g k) ≡ f g (Head 0 0)
  finish_left Fill at g k = refl
  finish_left Reserved at g k = refl
  finish_left Complete at g None = refl
  finish_left Complete at g (Some k) = refl
  finish_left First at g k = refl
  finish_left Middle at g k = refl
  finish_left Last at g None = refl
  finish_left Last at g (Some k) = refl

module _ (cap : ℕ) (m : List ℕ) (full : length m ≡ cap) where
  pub judged_brings : (h : Header) (g : Place) (k : Option Kept) (at : ℕ) → Roomy cap k 0 → Brings cap g (Judged h) k m [] (admit_of (kind_of h) at h g k cap) m
  judged_brings h g k at r =
      let e = ep_at g h in
      let c = admit_came cap m full (kind_of h) at h g k r in
      record {
        taken = entered e ∷ [];
        frame = sym (admit_left (Frame wire) frame_of (kind_of h) at h g k cap);
        told = append-nil (entered e ∷ ending wire e h.size)
            ∙ ap (λ (es : List (Event wire)). entered e ∷ es) (sym (admit_left (List (Event wire)) todo_of (kind_of h) at h g k cap));
        held = ap (λ (T : Took wire). T.0) c;
        finds = append-nil (listed wire (admit wire cap (kind_of h) e (held_of k m)).1) ∙ ap (λ (T : Took wire). listed wire T.1) c;
      }

  -- a header, of which n bytes were read before, is whole; it began at b
  pub whole_brings : (n v : ℕ) (g : Place) (bs : List (Place × ℕ)) (o : Option Header) (b : Place) (k : Option Kept) (at : ℕ) → Roomy cap k 0
      → saw (headed g (digits n v)) bs ≡ whole wire b (ep_if b o) → Brings cap g (Head n v) k m bs (whole_of at o b k cap) m
  unfolding opened_of
  whole_brings n v g bs None b k at r e =
      record { taken = lose 12 b ∷ []; frame = ap (λ (o : Out wire). o.0) e; told = ap (λ (o : Out wire). o.1) e; held = refl; finds = refl }
  whole_brings n v g bs (Some h) b k at r e = by (meets_of (kind_of h) k h.content) (meets_law m (kind_of h) (ep_at b h) k)
    where
      E : Ep
      E = ep_at b h

      T₀ : Took wire
      T₀ = meets wire (kind_of h) E (held_of k m)

      by : (x : Bool) → T₀ ≡ cond x (held_of k m, None) (free, Some (notice 14 b))
          → Brings cap g (Head n v) k m bs (cond x (admit_of (kind_of h) at h b k cap) (stops at (Judged h) b None (Notice 14))) m
      by false q = record {
        taken = opened E ∷ [];
        frame = ap (λ (o : Out wire). o.0) e;
        told = ap (λ (o : Out wire). o.1) e;
        held = ap (λ (T : Took wire). T.0) q;
        finds = ap (λ (T : Took wire). listed wire T.1 ++ []) q;
      }
      by true q =
          let c = admit_came cap m full (kind_of h) at h b k r in
          record {
            taken = opened E ∷ entered E ∷ [];
            frame = ap (λ (o : Out wire). o.0) e ∙ sym (admit_left (Frame wire) frame_of (kind_of h) at h b k cap);
            told = ap (λ (o : Out wire). o.1) e
                ∙ ap (λ (es : List (Event wire)). opened E ∷ entered E ∷ es) (sym (admit_left (List (Event wire)) todo_of (kind_of h) at h b k cap));
            held = ap (λ (T : Took wire). (admit wire cap (kind_of h) E T.0).0) q ∙ ap (λ (T : Took wire). T.0) c;
            finds = ap (λ (T : Took wire). listed wire T.1 ++ (listed wire (admit wire cap (kind_of h) E T.0).1 ++ [])) q
                ∙ append-nil (listed wire (admit wire cap (kind_of h) E (held_of k m)).1) ∙ ap (λ (T : Took wire). listed wire T.1) c;
          }

-- data bytes are taken in one by one

fed_held : (cap : ℕ) (s : Held wire) (ds : List ℕ) (es : List (Event wire)) → holding wire cap s (feeds ds ++ es) ≡ holding wire cap (grows wire cap s ds) es
fed_held cap s [] es = refl
fed_held cap s (d ∷ ds) es = fed_held cap (grown wire s d) ds es

fed_finds : (cap : ℕ) (s : Held wire) (ds : List ℕ) (es : List (Event wire)) → finds wire cap s (feeds ds ++ es) ≡ finds wire cap (grows wire cap s ds) es
fed_finds cap s [] es = refl
fed_finds cap s (d ∷ ds) es = fed_finds cap (grown wire s d) ds es

module _ (cap : ℕ) (m m' : List ℕ) (h : Header) (g : Place) (k k' : Option Kept) (bs : List (Place × ℕ)) (kept : held_of k' m' ≡ grows wire cap (held_of k m) (plain wire bs)) where
  abbrev ds : List ℕ
  ds = plain wire bs

  abbrev E : Ep
  E = ep_at g h

  pub cut_brings : (left i at : ℕ) → left ≡ i + length bs → Brings cap g (Body h left) k m bs (stops at (Body h i) g k' Nothing) m'
  cut_brings left i at e = record {
    taken = feeds ds;
    frame = data_after E i left bs e;
    told = data_events E i left bs e;
    held = ap (holding wire cap (held_of k m)) (sym (append-nil (feeds ds))) ∙ fed_held cap (held_of k m) ds [] ∙ sym kept;
    finds = ap (finds wire cap (held_of k m)) (sym (append-nil (feeds ds))) ∙ fed_finds cap (held_of k m) ds [];
  }

  pub read_brings : (left at : ℕ) → left ≡ length bs → Brings cap g (Body h left) k m bs (finish_of (kind_of h) at g k') m'
  read_brings left at e =
      let c = finish_came cap m' (kind_of h) at g k' in
      record {
        taken = feeds ds ++ closed E ∷ [];
        frame = data_after E 0 left bs (omega arith) ∙ sym (finish_left (Frame wire) frame_of (kind_of h) at g k');
        told = data_events E 0 left bs (omega arith) ∙ sym (append-nil (feeds ds ++ closed E ∷ []))
            ∙ ap (λ (es : List (Event wire)). (feeds ds ++ closed E ∷ []) ++ es) (sym (finish_left (List (Event wire)) todo_of (kind_of h) at g k'));
        held = fed_held cap (held_of k m) ds (closed E ∷ []) ∙ ap (λ (s : Held wire). (finish wire (kind_of h) s).0) (sym kept) ∙ ap (λ (T : Took wire). T.0) c;
        finds = fed_finds cap (held_of k m) ds (closed E ∷ []) ∙ ap (λ (s : Held wire). listed wire (finish wire (kind_of h) s).1 ++ []) (sym kept)
            ∙ append-nil (listed wire (finish wire (kind_of h) (held_of k' m')).1) ∙ ap (λ (T : Took wire). listed wire T.1) c;
      }
