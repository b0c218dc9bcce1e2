-- WHAT THE LOOP PUTS ARE THE INDEX'S LINES, from record to record, block to block and one emptying of the output block to the next.
-- Assumes nothing; `Of` says what is assumed of the operating system.
use Prim.Native.Nat.{ℕ, suc, ◌+◌, ◌-◌, ◌≤◌, ◌<◌, min}
use mathlib.Core.Path.{◌≡◌, refl, ap, ap₂, sym, subst, subst⁻¹, ◌∙◌}
use mathlib.Core.Bool.{Bool, true, false}
use mathlib.Core.Logic.{◌⊎◌, inl, inr, ⊎_elim}
use mathlib.Core.List.{List, [], ◌∷◌, ◌++◌, append_assoc, append-nil}
use native.Mathlib.Omega.{arith}
use lib.Dec.{leb}
use lib.ListN.{length, take, drop, length-take, length-drop}
use lib.Seq.{take_all}
use borrow.Author.Tests.{leb-true, leb-false}
use Rattle.std.specs.Prelude.{Ok, Some, None}
use Rattle.block.specs.Block.{Block}
use Rattle.console.specs.Taking.{begin_of, stretch}
use Rattle.console.specs.declared.Unread.{Unread}
use Rattle.house.specs.Series.{unread_in}
use Rattle.house.specs.Slices.{at_hand, data_in}
use Rattle.house.specs.declared.Place.TheVariants.{Listing}
use Rattle.house.specs.declared.Record.TheVariants.{Packet, Gap}
use Rattle.house.proofs.Slicing.{whole_data, whole_fits}
use Rattle.receiver.specs.Call.{gap_of}
use Rattle.receiver.specs.Tp.{Setting, Input, tp_in, gap_told}
use Rattle.receiver.specs.declared.Receiver.{Receiver}
use Rattle.receiver.specs.declared.Stamp.{Stamp}
use Rattle.receiver.proofs.Whole.{setting_of, stand_of}
use Rattle.index_loop.specs.Advancing.{GoesOn, whole as whole-one, read as read_anew, Reached, stands_at, Advances, begun, takes, reads}
use Rattle.index_loop.specs.Walking.{Ends, Pauses, Standing, Takes, stays, pauses, ends, gap, sum_of, stamp_of}
use Rattle.index_loop.specs.declared.Stop.TheVariants.{More}
use Rattle.index_loop.specs.declared.Task.TheVariants.{Index}
use Rattle.indexed.specs.Index.{behind, behind_all, since_of}
use Rattle.indexed.specs.Loop.{Records, Shows, Of, held_in, emptied, Begins, Writes, starts, onward, Counted, Written, Within, Ended, Lists, ListsAll}
use Rattle.indexed.proofs.Adding.{Adds, adds_none, adds_then}
use Rattle.indexed.proofs.Between.{whole_there, data_there, shows_behind, Between, Amid, begin, goes, done, others, told}
use Rattle.indexed.proofs.Calls.{pending_since}
use Rattle.indexed.proofs.Finds.{text_in}
use Rattle.indexed.proofs.Recorded.{records_append, records_tp, packet_size, no_gap}
use Rattle.indexed.proofs.Records.{behind_append}

-- no number of 64 bits was too small
abbrev Counts : ℕ → Standing → Type 0
Counts gone b = (b.number < 0xFFFFFFFFFFFFFFFF) × (gone + b.from < 0xFFFFFFFFFFFFFFFF)

no_part : (u : List ℕ) (k : ℕ) → at_hand Listing u ≡ Ok (Some (Packet k)) → at_hand Listing u ≡ Ok None → ⊥
no_part u k d e = let other : Ok (Some (Packet k)) ≡ Ok None = sym d ∙ e in let z : ◌≡◌ {A = ℕ} 0 1 = cc in omega arith

-- where a whole record is at hand, the stretch lies within its block
stretch_is : (d : List ℕ) (u : Unread) → 8 ≤ length (unread_in d u.from u.till) → stretch d u ≡ unread_in d u.from u.till
stretch_is d u some =
    let n = length d in
    let long : length (unread_in d u.from u.till) ≡ min (u.till - u.from) (n - u.from) = length-take (u.till - u.from) (drop u.from d) ∙ ap (min (u.till - u.from)) (length-drop u.from d) in
    let begins : min u.from (min u.till n) ≡ u.from = omega arith in
    ap (λ (i : ℕ). take (min u.till n - i) (drop i d)) begins ∙ go (leb u.till n) refl
  where
    go : (b : Bool) → leb u.till (length d) ≡ b → take (min u.till (length d) - u.from) (drop u.from d) ≡ take (u.till - u.from) (drop u.from d)
    go true e =
        let k = leb-true u.till (length d) e in
        let same : min u.till (length d) ≡ u.till = omega arith in
        ap (λ (i : ℕ). take (i - u.from) (drop u.from d)) same
    go false e =
        let k = leb-false u.till (length d) e in
        let size = length-drop u.from d in
        take_all (min u.till (length d) - u.from) (drop u.from d) (omega arith) ∙ sym (take_all (u.till - u.from) (drop u.from d) (omega arith))

module _ (covered : ℕ) (s : Setting) (recording : List ℕ) (p : Stamp) where
  -- ---- where it stands in a block, so many bytes of the recording before it

  module _ (gone till : ℕ) (block : List ℕ) where
    -- the stamp of the record at hand
    abbrev here : Standing → Stamp
    here b = record { number = b.number; byte = gone + b.from }

    -- within the TP at hand
    record Mid (xs : List Input) (put : List ℕ) (b : Standing) : Type 0 where
      size : ℕ
      tp_at_hand : at_hand Listing (unread_in block b.from till) ≡ Ok (Some (Packet size))
      amid : Amid covered s p xs put (here b) (data_in (Packet size) (drop (gone + b.from) recording)) b.receiver b.room

    record Stood (put : List ℕ) (b : Standing) : Type 0 where
      inputs : List Input
      records : Records recording p.byte inputs (gone + b.from)
      next : behind_all p inputs ≡ here b
      shows : unread_in block b.from till ≡ unread_in (drop gone recording) b.from till
      now : Between covered s p inputs put b.receiver b.room ⊎ Mid inputs put b

    record Moved (put : List ℕ) (o : Block) (c : Standing) : Type 0 where
      text : List ℕ
      stood : Stood (put ++ text) c
      adds : Adds o text c.out

    -- ---- one record

    module _ (put : List ℕ) (b : Standing) (t : Stood put b) where
      abbrev u : List ℕ
      u = unread_in block b.from till

      abbrev bytes : ℕ → List ℕ
      bytes n = data_in (Packet n) (drop (gone + b.from) recording)

      amid_at : (n : ℕ) → at_hand Listing u ≡ Ok (Some (Packet n)) → Amid covered s p t.inputs put (here b) (bytes n) b.receiver b.room
      amid_at n whole =
          ⊎_elim (λ k. begin covered s p (here b) (bytes n) k)
          (λ k. subst (λ (i : ℕ). Amid covered s p t.inputs put (here b) (bytes i) b.receiver b.room) (packet_size u k.size n k.tp_at_hand whole) k.amid)
          t.now

      between_at_lem : at_hand Listing u ≡ Ok (Some Gap) → Between covered s p t.inputs put b.receiver b.room
      between_at_lem whole = ⊎_elim (λ k. k) (λ k. absurd (no_gap u k.size k.tp_at_hand whole)) t.now

      -- one input more
      next_on : (x : Input) (n to : ℕ) → n ≡ suc b.number → gone + to ≡ (behind (here b) x).byte → behind_all p (t.inputs ++ x ∷ []) ≡ record { number = n; byte = gone + to }
      next_on x n to en eb =
          behind_append t.inputs (x ∷ []) p ∙ ap (λ (q : Stamp). behind q x) t.next ∙ ap₂ (λ (i j : ℕ). record { number = i; byte = j }) (sym en) (sym eb)

      module _ (n : ℕ) (whole : at_hand Listing u ≡ Ok (Some (Packet n))) (r : Receiver) (m : List ℕ) (o : Block) where
        abbrev Pausing : Stamp → List ℕ → Type 0
        Pausing q d = Pauses (Index covered) q d b.receiver b.room b.out r m o

        -- the stamp, and the TP
        stamp_is : gone + b.from < 0xFFFFFFFFFFFFFFFF → stamp_of gone b.number b.from ≡ here b
        stamp_is k = let e : sum_of gone b.from ≡ gone + b.from = omega arith in ap (λ (i : ℕ). record { number = b.number; byte = i }) e

        pause_record : gone + b.from < 0xFFFFFFFFFFFFFFFF → Pauses (Index covered) (stamp_of gone b.number b.from) (data_in (Packet n) u) b.receiver b.room b.out r m o
            → Moved put b.out (record { from = b.from; number = b.number; receiver = r; room = m; out = o })
        pause_record k h =
            let same =
            subst (λ (d : List ℕ). Pausing (here b) d) (data_there recording block gone b.from till t.shows (Packet n) whole)
            (subst (λ (q : Stamp). Pausing q (data_in (Packet n) u)) (stamp_is k) h) in
            let g = goes covered s p (amid_at n whole) same in
            record {
              text = g.text;
              stood = record { inputs = t.inputs; records = t.records; next = t.next; shows = t.shows; now = inr (record { size = n; tp_at_hand = whole; amid = g.amid }) };
              adds = g.adds;
            }

        end_record : gone + b.from < 0xFFFFFFFFFFFFFFFF → sum_of b.number 1 < 0xFFFFFFFFFFFFFFFF
            → Ends (Index covered) (stamp_of gone b.number b.from) (data_in (Packet n) u) b.receiver b.room b.out r m o
            → Moved put b.out (record { from = b.from + 8 + n; number = sum_of b.number 1; receiver = r; room = m; out = o })
        end_record k l h =
            let data_is = data_there recording block gone b.from till t.shows (Packet n) whole in
            let whole_is = whole_there recording block gone b.from till t.shows (Packet n) whole in
            let same =
            subst (λ (d : List ℕ). Ends (Index covered) (here b) d b.receiver b.room b.out r m o) data_is
            (subst (λ (q : Stamp). Ends (Index covered) q (data_in (Packet n) u) b.receiver b.room b.out r m o) (stamp_is k) h) in
            let g = done covered s p (amid_at n whole) t.next same in
            let long : length (bytes n) ≡ n = whole_data Listing (drop (gone + b.from) recording) (Packet n) whole_is in
            let place : gone + b.from + 8 + n ≡ gone + (b.from + 8 + n) = omega arith in
            record {
              text = g.text;
              stood = record {
                inputs = t.inputs ++ tp_in (bytes n) ∷ [];
                records = records_append recording t.inputs (tp_in (bytes n) ∷ []) p.byte (gone + b.from) (gone + (b.from + 8 + n)) t.records (records_tp recording (gone + b.from) n (gone + (b.from + 8 + n)) whole_is place);
                next = next_on (tp_in (bytes n)) (sum_of b.number 1) (b.from + 8 + n) (omega arith) (omega arith);
                shows = shows_behind recording block gone b.from till t.shows (Packet n) whole (b.from + 8 + n) refl;
                now = inl g.between;
              };
              adds = g.adds;
            }

      gap_record : sum_of b.number 1 < 0xFFFFFFFFFFFFFFFF → at_hand Listing u ≡ Ok (Some Gap)
          → Moved put b.out (record { from = b.from + 8; number = sum_of b.number 1; receiver = gap_of b.receiver; room = b.room; out = b.out })
      gap_record l whole =
          let whole_is = whole_there recording block gone b.from till t.shows Gap whole in
          let place : gone + b.from + 8 ≡ gone + (b.from + 8) = omega arith in
          record {
            text = [];
            stood = record {
              inputs = t.inputs ++ gap_told ∷ [];
              records = records_append recording t.inputs (gap_told ∷ []) p.byte (gone + b.from) (gone + (b.from + 8)) t.records (whole_is, place);
              next = next_on gap_told (sum_of b.number 1) (b.from + 8) (omega arith) (omega arith);
              shows = shows_behind recording block gone b.from till t.shows Gap whole (b.from + 8) (omega arith);
              now = inl (subst⁻¹ (λ (l : List ℕ). Between covered s p (t.inputs ++ gap_told ∷ []) l (gap_of b.receiver) b.room) (append-nil put) (told covered s p (between_at_lem whole)));
            };
            adds = adds_none b.out;
          }

    -- ---- the records of a block

    counts_before : {a b : Standing} → Takes (Index covered) gone till block a b → Counts gone b → Counts gone a
    counts_before stays k = k
    counts_before (pauses l whole h) k = counts_before l (k.0, k.1)
    counts_before (ends l whole h) k = let i = k.0 in let j = k.1 in counts_before l (omega arith, omega arith)
    counts_before (gap l whole) k = let i = k.0 in let j = k.1 in counts_before l (omega arith, omega arith)

    moved_on : {put : List ℕ} {o : Block} {b c : Standing} → (k : Moved put o b) → Moved (put ++ k.text) b.out c → Moved put o c
    moved_on {put} {c = c} k l = record { text = k.text ++ l.text; stood = subst (λ (z : List ℕ). Stood z c) (append_assoc put k.text l.text) l.stood; adds = adds_then k.adds l.adds }

    takes_on : {put : List ℕ} {a b : Standing} → Stood put a → Takes (Index covered) gone till block a b → Counts gone b → Moved put a.out b
    takes_on {put} {a} t stays k = record { text = []; stood = subst⁻¹ (λ (z : List ℕ). Stood z a) (append-nil put) t; adds = adds_none a.out }
    takes_on {put} t (pauses {b = b} {n = n} {r = r} {m = m} {o = o} l whole h) k =
        let g = takes_on t l (k.0, k.1) in
        moved_on g (pause_record (put ++ g.text) b g.stood n whole r m o k.1 h)
    takes_on {put} t (ends {b = b} {n = n} {r = r} {m = m} {o = o} l whole h) k =
        let i = k.0 in
        let j = k.1 in
        let g = takes_on t l (omega arith, omega arith) in
        moved_on g (end_record (put ++ g.text) b g.stood n whole r m o (omega arith) i h)
    takes_on {put} t (gap {b = b} l whole) k =
        let i = k.0 in
        let j = k.1 in
        let g = takes_on t l (omega arith, omega arith) in
        moved_on g (gap_record (put ++ g.text) b g.stood i whole)

  -- ---- from block to block

  abbrev Stands : List ℕ → Reached → Type 0
  Stands put b = Stood b.unread.gone b.unread.till b.block put (stands_at b)

  record Goes_on (put : List ℕ) (o : Block) (c : Reached) : Type 0 where
    text : List ℕ
    stands : Stands (put ++ text) c
    adds : Adds o text c.out

  read_before : {d : List ℕ} {u v : Unread} {d' : List ℕ} → GoesOn d u More v d' → v.gone + v.from < 0xFFFFFFFFFFFFFFFF → u.gone + u.from < 0xFFFFFFFFFFFFFFFF
  read_before (whole-one e) k = k
  read_before (read_anew e) k = omega arith

  counted_before : {a b : Reached} → Advances (Index covered) a b → Counted b → Counted a
  counted_before begun k = k
  counted_before (takes {b = b} l t) k = counted_before l (counts_before b.unread.gone b.unread.till b.block t k)
  counted_before (reads l g) k = counted_before l (k.0, read_before g k.1)

  -- the next block
  read_on_lem : {d : List ℕ} {u v : Unread} {d' : List ℕ} (put : List ℕ) (n : ℕ) (r : Receiver) (m : List ℕ) (o : Block) → GoesOn d u More v d' → Shows recording d' v
      → v.gone + v.from < 0xFFFFFFFFFFFFFFFF → Stands put (record { block = d; unread = u; number = n; receiver = r; room = m; out = o })
      → Stands put (record { block = d'; unread = v; number = n; receiver = r; room = m; out = o })
  read_on_lem put n r m o (whole-one e) shows k t = t
  read_on_lem {d = d} {u = u} put n r m o (read_anew e) shows k t =
      let place : u.gone + u.from ≡ begin_of u + 0 = omega arith in
      record {
        inputs = t.inputs;
        records = subst (λ (i : ℕ). Records recording p.byte t.inputs i) place t.records;
        next = t.next ∙ ap (λ (i : ℕ). record { number = n; byte = i }) place;
        shows = shows;
        now =
            inl (⊎_elim (λ b. b)
            (λ b.
            let some = whole_fits Listing (unread_in d u.from u.till) (Packet b.size) b.tp_at_hand in
            absurd (no_part (unread_in d u.from u.till) b.size b.tp_at_hand (ap (at_hand Listing) (sym (stretch_is d u (omega (arith, some)))) ∙ e)))
            t.now);
      }

  advances_on : {put : List ℕ} {a b : Reached} → Stands put a → (k : Advances (Index covered) a b) → Of recording k → Counted b → Goes_on put a.out b
  advances_on {put} {a} t begun of k = record { text = []; stands = subst⁻¹ (λ (z : List ℕ). Stands z a) (append-nil put) t; adds = adds_none a.out }
  advances_on {put} t (takes {b = b} {s = c} l z) of k =
      let g = advances_on t l of (counts_before b.unread.gone b.unread.till b.block z k) in
      let h = takes_on b.unread.gone b.unread.till b.block g.stands z k in
      record {
        text = g.text ++ h.text;
        stands = subst (λ (z : List ℕ). Stood b.unread.gone b.unread.till b.block z c) (append_assoc put g.text h.text) h.stood;
        adds = adds_then g.adds h.adds;
      }
  advances_on {put} t (reads {b = b} {v = v} {d = d} l z) of k =
      let g = advances_on t l of.0 (k.0, read_before z k.1) in
      record { text = g.text; stands = read_on_lem (put ++ g.text) b.number b.receiver b.room b.out z of.1 k.1 g.stands; adds = g.adds }

  -- ---- the whole loop

  empty : (a : Reached) → Begins s p a → Stands [] a
  empty a b =
      let e = b.receiver in
      let place : p.byte ≡ a.unread.gone + a.unread.from = plus ∙ ap (λ (u : Unread). u.gone + u.from) (sym b.unread) in
      record {
        inputs = [];
        records = place;
        next = ap₂ (λ (i j : ℕ). record { number = i; byte = j }) (sym b.number) place;
        shows = subst⁻¹ (λ (u : Unread). unread_in a.block u.from u.till ≡ unread_in (drop u.gone recording) u.from u.till) b.unread nothing_read;
        now = inl (record {
          ready = record {
            able = b.able;
            stage = ap (λ (r : Receiver). r.stage) e;
            room = b.room ∙ sym (ap (λ (r : Receiver). r.limit) e);
            setting = ap setting_of e;
          };
          stands = ap (λ (r : Receiver). stand_of r a.room) e;
          lines = refl;
        });
      }
    where
      plus : p.byte ≡ p.byte + 0
      plus = omega arith

      nothing_read : unread_in a.block 0 0 ≡ unread_in (drop p.byte recording) 0 0
      nothing_read = let none : 0 - 0 ≡ 0 = omega arith in ap (λ (n : ℕ). take n (drop 0 a.block)) none ∙ sym (ap (λ (n : ℕ). take n (drop 0 (drop p.byte recording))) none)

  record Wrote (w : List ℕ) (b : Reached) : Type 0 where
    stands : Stands w b
    none_held : b.out.at ≡ 0

  writes_on : {a b : Reached} {w : List ℕ} → Begins s p a → Writes covered recording a w b → Counted b → Wrote w b
  writes_on {a} b starts k = record { stands = empty a b; none_held = b.out }
  writes_on b (onward {w = w} {b = c} {c = d} l z of room) k =
      let g = writes_on b l (counted_before z k) in
      let h = advances_on g.stands z of k in
      let t = h.stands in
      let held : held_in d.out ≡ h.text = h.adds.held room ∙ ap (λ (n : ℕ). take n c.out.bytes ++ h.text) g.none_held in
      record {
        stands = subst⁻¹ (λ (l : List ℕ). Stands (w ++ l) (emptied d)) held (record { inputs = t.inputs; records = t.records; next = t.next; shows = t.shows; now = ⊎_elim (λ x. inl x) (λ x. inr (record { size = x.size; tp_at_hand = x.tp_at_hand; amid = x.amid })) t.now });
        none_held = refl;
      }

  module _ {w : List ℕ} {b : Reached} (t : Stands w b) where
    listed : Between covered s p t.inputs w b.receiver b.room → Written covered s recording p w b
    listed x = record {
      inputs = t.inputs;
      records = t.records;
      next = t.next;
      since = pending_since s b.receiver b.room x.ready ∙ ap since_of x.stands;
      lines = x.lines;
    }

    within : Mid b.unread.gone b.unread.till b.block t.inputs w (stands_at b) → Within covered s recording p w b
    within x =
        let o = others covered s p x.amid t.next in
        record {
          inputs = t.inputs;
          records = t.records;
          next = t.next;
          size = x.size;
          tp_at_hand = whole_there recording b.block b.unread.gone b.unread.from b.unread.till t.shows (Packet x.size) x.tp_at_hand;
          first = text_in covered b.number x.amid.finds;
          others = o.0;
          begun = x.amid.begun ∙ ap (λ (l : List ℕ). l ++ text_in covered b.number x.amid.finds) x.amid.between.lines;
          whole = o.1;
        }

    all_listed : Ended b → Written covered s recording p w b
    all_listed none =
        let u = unread_in b.block b.unread.from b.unread.till in
        ⊎_elim listed
        (λ x.
        let some = whole_fits Listing u (Packet x.size) x.tp_at_hand in
        absurd (none (Packet x.size) (ap (at_hand Listing) (stretch_is b.block b.unread (omega (arith, some))) ∙ x.tp_at_hand)))
        t.now

-- WHAT WAS WRITTEN, wherever it stops
pub lists : Lists
lists covered s recording p a b w begins l k =
    let t = (writes_on covered s recording p begins l k).stands in
    ⊎_elim (λ x. inl (listed covered s recording p t x)) (λ x. inr (within covered s recording p t x)) t.now

-- where no whole record is at hand
pub lists_all : ListsAll
lists_all covered s recording p a b w begins l k none = all_listed covered s recording p (writes_on covered s recording p begins l k).stands none
