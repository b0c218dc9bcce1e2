-- WHAT c7index WRITES MAKES THE INDEX: behind the lines of the records that were covered, those of the new ones; from none it is made afresh.
-- Assumes nothing; `Of` says what is assumed of the operating system.
use Prim.Native.Nat.{ℕ, ◌+◌, ◌-◌, ◌≤◌}
use mathlib.Core.Path.{◌≡◌, refl, ap, ap₂, sym, subst, subst⁻¹, ◌∙◌}
use mathlib.Core.Bool.{Bool, cond}
use mathlib.Core.List.{List, [], ◌∷◌, ◌++◌, append_assoc}
use native.Mathlib.Omega.{arith}
use borrow.Author.Tests.{lt-ltb, le-ltb}
use lib.ListN.{length, take, drop, take-append-drop}
use Rattle.std.specs.Prelude.{Option, None, Some}
use Rattle.receiver.specs.Call.{pending_of}
use Rattle.receiver.specs.Tp.{Setting, Stand, Input}
use Rattle.receiver.specs.declared.Stamp.{Stamp}
use Rattle.indexing.specs.Lines.{Line}
use Rattle.index_loop.specs.Advancing.{Reached}
use Rattle.indexed.specs.Index.{start_stamp, behind, behind_all, fresh, packets, record_of, lines_of, stand_at, since_of, Index, index_of, new_lines, new_since, grow_of}
use Rattle.indexed.specs.File.{lines_text}
use Rattle.indexed.specs.Loop.{lines_since, Records, byte_at, stamp_by, Written, reads_from, Grew, Grows}
use Rattle.indexed.proofs.Between.{since_append}
use Rattle.indexed.proofs.Grown.{grown, since_own}
use Rattle.indexed.proofs.KillSafe.{lines_append, number_behind, more, lines_there}
use Rattle.indexed.proofs.Loop.{lists_all}
use Rattle.indexed.proofs.Recorded.{records_append, records_split, records_byte, records_longer}
use Rattle.indexed.proofs.Records.{stand_append, behind_append}

-- ---- covered records, and new ones

module _ (covered : ℕ) (s : Setting) where
  since_old : (xs : List Input) (p : Stamp) (t : Stand) → p.number + length xs ≤ covered → lines_since covered s p t xs ≡ []
  since_old [] p t l = refl
  since_old (x ∷ xs) p t l =
      ap (λ (b : Bool). cond b [] (packets (record_of s p t x).0) ++ lines_since covered s (behind p x) (record_of s p t x).1 xs) (lt-ltb p.number covered (omega arith))
      ∙ since_old xs (behind p x) (record_of s p t x).1 (omega arith)

  since_new : (xs : List Input) (p : Stamp) (t : Stand) → covered ≤ p.number → lines_since covered s p t xs ≡ lines_of s p t xs
  since_new [] p t l = refl
  since_new (x ∷ xs) p t l =
      ap (λ (b : Bool). cond b [] (packets (record_of s p t x).0) ++ lines_since covered s (behind p x) (record_of s p t x).1 xs) (le-ltb p.number covered l)
      ∙ ap (λ (ls : List Line). packets (record_of s p t x).0 ++ ls) (since_new xs (behind p x) (record_of s p t x).1 (omega arith))

module _ (s : Setting) (recording : List ℕ) (xs : List Input) where
  abbrev next : Stamp
  next = behind_all start_stamp xs

  abbrev covered : ℕ
  covered = next.number

  -- what a loop from there has read
  record Splits (since : Option Stamp) (w : List ℕ) (b : Reached) : Type 0 where
    new : List Input
    records : Records recording start_stamp.byte (xs ++ new) (byte_at b)
    here : behind_all start_stamp (xs ++ new) ≡ record { number = b.number; byte = byte_at b }
    pending : stamp_by (pending_of b.receiver.walk) ≡ new_since s next since xs new
    lines : w ≡ lines_text (new_lines s next since xs new)

  module _ (w : List ℕ) (b : Reached) (read : Records recording start_stamp.byte xs next.byte) where
    from_new : Written covered s recording next w b → Splits None w b
    from_new l = record {
      new = l.inputs;
      records = records_append recording xs l.inputs start_stamp.byte next.byte (byte_at b) read l.records;
      here = behind_append xs l.inputs start_stamp ∙ l.next;
      pending = l.since;
      lines = l.lines ∙ ap lines_text (since_new covered s l.inputs next fresh (omega arith));
    }

    module _ (q : Stamp) (n : ℕ) (stamp_is : q ≡ behind_all start_stamp (take n xs)) (number_is : q.number ≡ 1 + n) (some-new : covered ≤ b.number) where
      abbrev again : List Input
      again = drop n xs

      both : take n xs ++ again ≡ xs
      both = take-append-drop n xs

      behind_again : behind_all q again ≡ next
      behind_again = ap (λ (p : Stamp). behind_all p again) stamp_is ∙ sym (behind_append (take n xs) again start_stamp) ∙ ap (behind_all start_stamp) both

      from_since : Written covered s recording q w b → Splits (Some q) w b
      from_since l =
          let parts = records_split recording (take n xs) again start_stamp.byte next.byte (subst⁻¹ (λ (zs : List Input). Records recording start_stamp.byte zs next.byte) both read) in
          let byte_is : parts.0 ≡ q.byte = sym (records_byte recording (take n xs) start_stamp.byte parts.0 start_stamp refl parts.1.0) ∙ ap (λ (p : Stamp). p.byte) (sym stamp_is) in
          let before : Records recording start_stamp.byte (take n xs) q.byte = subst (Records recording start_stamp.byte (take n xs)) byte_is parts.1.0 in
          let known : Records recording q.byte again next.byte = subst (λ (i : ℕ). Records recording i again next.byte) byte_is parts.1.1 in
          let end : q.number + length again ≡ covered = sym (number_behind again q) ∙ ap (λ (p : Stamp). p.number) behind_again in
          let far : q.number + length l.inputs ≡ b.number = sym (number_behind l.inputs q) ∙ ap (λ (p : Stamp). p.number) l.next in
          let z = records_longer recording again l.inputs q.byte next.byte (byte_at b) known l.records (omega arith) in
          let ys = z.0 in
          let all : take n xs ++ (again ++ ys) ≡ xs ++ ys = sym (append_assoc (take n xs) again ys) ∙ ap (λ (zs : List Input). zs ++ ys) both in
          let less : q.number - 1 ≡ n = omega arith in
          let u : Stand = stand_at s q fresh again in
          let stand_is : u ≡ stand_at s q fresh (drop (q.number - 1) xs) = ap (λ (i : ℕ). stand_at s q fresh (drop i xs)) (sym less) in
          record {
            new = ys;
            records =
                subst (λ (zs : List Input). Records recording start_stamp.byte zs (byte_at b)) all
                (records_append recording (take n xs) (again ++ ys) start_stamp.byte q.byte (byte_at b) before (subst (λ (zs : List Input). Records recording q.byte zs (byte_at b)) z.1 l.records));
            here = ap (behind_all start_stamp) (sym all) ∙ behind_append (take n xs) (again ++ ys) start_stamp ∙ ap₂ (λ (p : Stamp) (zs : List Input). behind_all p zs) (sym stamp_is) (sym z.1) ∙ l.next;
            pending =
                l.since
                ∙ ap (λ (zs : List Input). since_of (stand_at s q fresh zs)) z.1
                ∙ ap since_of (stand_append s again ys q fresh)
                ∙ ap₂ (λ (p : Stamp) (t : Stand). since_of (stand_at s p t ys)) behind_again stand_is;
            lines =
                l.lines
                ∙ ap (λ (zs : List Input). lines_text (lines_since covered s q fresh zs)) z.1
                ∙ ap lines_text (
                since_append covered s q again ys q fresh
                ∙ ap (λ (ls : List Line). ls ++ lines_since covered s (behind_all q again) u ys) (since_old covered s again q fresh (omega arith))
                ∙ ap₂ (λ (p : Stamp) (t : Stand). lines_since covered s p t ys) behind_again stand_is
                ∙ since_new covered s ys next (stand_at s q fresh (drop (q.number - 1) xs)) (omega arith)
                );
          }

-- the index of all records
grew : (s : Setting) (recording : List ℕ) (xs : List Input) (w : List ℕ) (b : Reached) → Splits s recording xs (index_of s xs).since w b → Grew s recording xs w b
unfolding index_of grow_of more
grew s recording xs w b z =
    let e = grown s xs z.new in
    record {
      new = z.new;
      records = z.records;
      next = z.here;
      since = sym (z.pending ∙ ap (λ (i : Index). i.since) e);
      added = z.lines ∙ ap lines_text (sym (lines_there s xs z.new));
      lines =
          ap (λ (i : Index). lines_text i.lines) (sym e)
          ∙ lines_append (index_of s xs).lines (new_lines s (behind_all start_stamp xs) (index_of s xs).since xs z.new)
          ∙ ap (λ (l : List ℕ). lines_text (index_of s xs).lines ++ l) (sym z.lines);
    }

splits : (s : Setting) (recording : List ℕ) (xs : List Input) (w : List ℕ) (b : Reached) (o : Option Stamp) → (index_of s xs).since ≡ o
    → Records recording start_stamp.byte xs (behind_all start_stamp xs).byte → (behind_all start_stamp xs).number ≤ b.number
    → Written (behind_all start_stamp xs).number s recording (reads_from o (behind_all start_stamp xs)) w b → Splits s recording xs o w b
splits s recording xs w b None e read far l = from_new s recording xs w b read l
splits s recording xs w b (Some q) e read far l = let o = since_own s xs q e in from_since s recording xs w b read q o.n o.stamp_is o.number_is far l

-- MADE AND GROWN
pub grows : Grows
unfolding index_of
grows s recording xs a b w read begins l k ended far =
    grew s recording xs w b
    (splits s recording xs w b (index_of s xs).since refl read far
    (lists_all (behind_all start_stamp xs).number s recording (reads_from (index_of s xs).since (behind_all start_stamp xs)) a b w begins l k ended))
