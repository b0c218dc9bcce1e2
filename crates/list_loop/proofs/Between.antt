-- FROM TP TO TP: between two of them what is held is the listing of the records so far, and whatever follows lists as the definition says.
-- Assumes nothing.
use Prim.Native.Nat.{ℕ, suc, ◌+◌}
use mathlib.Core.Path.{◌≡◌, refl, ap, sym, ◌∙◌}
use mathlib.Core.List.{List, [], ◌∷◌, ◌++◌, append_assoc, append-nil}
use native.Mathlib.Omega.{arith}
use lib.ListN.{length}
use Rattle.listing.specs.Hearing.{Hears, Ends}
use Rattle.listing.specs.Lines.{header_line}
use Rattle.listing.specs.Recordings.{tp_lines, lines_behind, listed}
use Rattle.listing.proofs.Heard.{first_lines, all_lines}
use Rattle.receiver.specs.declared.Receiver.{Receiver}
use Rattle.receiver.specs.declared.Stage.TheVariants as S
use Rattle.receiver.specs.Call.{gap_of}
use Rattle.receiver.specs.Frame.{lost}
use Rattle.receiver.specs.Join.{free}
use Rattle.receiver.specs.State.{Able}
use Rattle.receiver.specs.Tp.{Setting, Stand, Input, Listing, tp_in, gap_told, listing_of, stamping_of, count_after}
use Rattle.receiver.proofs.Whole.{setting_of, stand_of}
use Rattle.list_loop.specs.Whole.{Begins}
use Rattle.list_loop.specs.declared.Run.{Run}

-- behind the inputs xs, with so many TPs done
pub record Between (s : Setting) (xs : List Input) (held : List ℕ) (r : Receiver) (done : ℕ) (m : List ℕ) : Type 0 where
  pub able : Able r
  pub fresh : r.stage ≡ S.Fresh
  pub setting : setting_of r ≡ s
  pub full : length m ≡ s.room
  pub rest : (ys : List Input) → listed s (xs ++ ys) ≡ held ++ lines_behind s done r.count (stand_of r m) ys

pub begun : (s : Setting) (a : Run) (m out : List ℕ) → Begins s a m out → Between s [] header_line a.receiver a.done m
begun s a m out b =
    let e = b.receiver in
    record {
      able = b.able;
      fresh = ap (λ (q : Receiver). q.stage) e;
      setting = ap setting_of e;
      full = b.room;
      rest =
          λ ys.
          ap (λ (k : ℕ). header_line ++ lines_behind s k 0 (record { frame = lost; held = free }) ys) (sym b.done)
          ∙ ap (λ (q : Receiver). header_line ++ lines_behind s a.done q.count (stand_of q m) ys) (sym e);
    }

module _ (s : Setting) (xs : List Input) (held : List ℕ) (r : Receiver) (done : ℕ) (m : List ℕ) (b : Between s xs held r done m) where
  pub held_is : held ≡ listed s xs
  held_is = sym (append-nil held) ∙ sym (b.rest []) ∙ ap (listed s) (append-nil xs)

  -- one more input
  on : (x : Input) (ys : List Input) → listed s ((xs ++ x ∷ []) ++ ys) ≡ held ++ lines_behind s done r.count (stand_of r m) (x ∷ ys)
  on x ys = ap (listed s) (append_assoc xs (x ∷ []) ys) ∙ b.rest (x ∷ ys)

  pub gap_told_lem : Between s (xs ++ gap_told ∷ []) held (gap_of r) done m
  gap_told_lem = record {
    able = record { size = b.able.size; walk = record { at = omega arith; phase = omega arith }; stage = omega arith };
    fresh = refl;
    setting = b.setting;
    full = b.full;
    rest = λ ys. on gap_told ys;
  }

  module _ (tp : List ℕ) where
    full_limit : length m ≡ r.limit
    full_limit = b.full ∙ sym (ap (λ (z : Setting). z.room) b.setting)

    -- what the definition reads in this TP
    abbrev read : Setting → Listing
    read z = listing_of z (stamping_of r.count) (stand_of r m) (tp_in tp)

    plus : suc done ≡ done + 1
    plus = omega arith

    -- its first lines, and the others
    pub tp_begun : {ls : List ℕ} {r' : Receiver} {m' : List ℕ} → Hears tp (done + 1) r m ls r' m' → (others : List ℕ) × ((held ++ ls) ++ others ≡ listed s (xs ++ tp_in tp ∷ []))
    tp_begun {ls} h =
        let f = first_lines tp (done + 1) r m b.able b.fresh full_limit h in (
          f.others,
          append_assoc held ls f.others
              ∙ ap (λ (z : List ℕ). held ++ z) f.lines
              ∙ ap (λ (z : Setting). held ++ tp_lines (done + 1) (read z).0) b.setting
              ∙ ap (λ (k : ℕ). held ++ tp_lines k (read s).0) (sym plus)
              ∙ ap (λ (z : List ℕ). held ++ z) (sym (append-nil (tp_lines (suc done) (read s).0)))
              ∙ sym (b.rest (tp_in tp ∷ [])),
        )

    -- all its lines
    pub tp_done : {ls : List ℕ} {r' : Receiver} {m' : List ℕ} → Ends tp (done + 1) r m ls r' m' → Between s (xs ++ tp_in tp ∷ []) (held ++ ls) r' (done + 1) m'
    tp_done {ls} {r'} {m'} h =
        let d = all_lines tp (done + 1) r m b.able b.fresh full_limit h in
        let z = setting_of r in
        record {
          able = d.leaves.able;
          fresh = d.leaves.fresh;
          setting = d.leaves.setting ∙ b.setting;
          full = d.leaves.room ∙ b.full;
          rest =
              λ ys.
              on (tp_in tp) ys
              ∙ ap (λ (z : Setting). held ++ (tp_lines (suc done) (read z).0 ++ lines_behind z (suc done) (count_after z r.count (tp_in tp)) (read z).1 ys)) (sym b.setting)
              ∙ ap (λ (k : ℕ). held ++ (tp_lines k (read z).0 ++ lines_behind z k (count_after z r.count (tp_in tp)) (read z).1 ys)) plus
              ∙ ap (λ (l : List ℕ). held ++ (l ++ lines_behind z (done + 1) (count_after z r.count (tp_in tp)) (read z).1 ys)) d.lines
              ∙ ap (λ (c : ℕ). held ++ (ls ++ lines_behind z (done + 1) c (read z).1 ys)) (sym d.count)
              ∙ ap (λ (t : Stand). held ++ (ls ++ lines_behind z (done + 1) r'.count t ys)) d.stand
              ∙ ap (λ (z : Setting). held ++ (ls ++ lines_behind z (done + 1) r'.count (stand_of r' m') ys)) b.setting
              ∙ sym (append_assoc held ls (lines_behind s (done + 1) r'.count (stand_of r' m') ys));
        }
