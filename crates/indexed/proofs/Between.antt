-- FROM TP TO TP of the loop: between two of them what was put are the lines of the records so far; within one, its first lines too.
-- Assumes nothing.
use Prim.Native.Nat.{ℕ, ◌+◌, ◌-◌, ◌≤◌}
use mathlib.Core.Path.{◌≡◌, refl, ap, ap₂, sym, ◌∙◌}
use mathlib.Core.List.{List, [], ◌∷◌, ◌++◌, append_assoc, append-nil}
use native.Mathlib.Omega.{arith}
use lib.ListN.{length, take, drop, length-take, take-append-drop}
use lib.Seq.{drop-drop}
use Rattle.std.specs.Prelude.{Ok, Some}
use Rattle.block.specs.Block.{Block}
use Rattle.console.proofs.Onward.{unread_behind}
use Rattle.house.specs.Records.{length_of}
use Rattle.house.specs.Series.{unread_in}
use Rattle.house.specs.Slices.{at_hand, data_in}
use Rattle.house.specs.declared.Place.TheVariants.{Listing}
use Rattle.house.specs.declared.Record.{Record}
use Rattle.house.proofs.Slicing.{whole_fits, more_whole, more_data}
use Rattle.receiver.specs.Call.{gap_of}
use Rattle.receiver.specs.Join.{Finding}
use Rattle.receiver.specs.Low.{wire}
use Rattle.receiver.specs.State.{Able}
use Rattle.receiver.specs.Tp.{Setting, Stand, Input, Listing as Brought, tp_in, gap_told}
use Rattle.receiver.specs.declared.Receiver.{Receiver}
use Rattle.receiver.specs.declared.Stamp.{Stamp}
use Rattle.receiver.proofs.Whole.{stand_of}
use Rattle.indexing.specs.Lines.{Line}
use Rattle.index_loop.specs.Walking.{Ends, Pauses}
use Rattle.index_loop.specs.declared.Task.TheVariants.{Index}
use Rattle.indexed.specs.Index.{behind, behind_all, fresh, record_of, stand_at}
use Rattle.indexed.specs.File.{lines_text}
use Rattle.indexed.specs.Loop.{lines_since}
use Rattle.indexed.proofs.Adding.{Adds}
use Rattle.indexed.proofs.Calls.{ReadyFor, after_tp, after_gap}
use Rattle.indexed.proofs.Finds.{new_in, new_none, text_in, text_in_append, Paused, paused_none, paused_rest, pauses_on, ends_on}
use Rattle.indexed.proofs.KillSafe.{lines_append}
use Rattle.indexed.proofs.Records.{stand_append}

-- ---- the recording's bytes

module _ (recording block : List ℕ) (gone from till : ℕ) (shows : unread_in block from till ≡ unread_in (drop gone recording) from till) where
  -- from there on
  abbrev pub there : List ℕ
  there = drop (gone + from) recording

  front : unread_in block from till ≡ take (till - from) there
  front = shows ∙ ap (take (till - from)) (drop-drop from gone recording)

  parts : unread_in block from till ++ drop (till - from) there ≡ there
  parts = ap (λ (l : List ℕ). l ++ drop (till - from) there) front ∙ take-append-drop (till - from) there

  module _ (said : Record) (whole : at_hand Listing (unread_in block from till) ≡ Ok (Some said)) where
    pub whole_there : at_hand Listing there ≡ Ok (Some said)
    whole_there = ap (at_hand Listing) (sym parts) ∙ more_whole Listing (unread_in block from till) (drop (till - from) there) said whole

    pub data_there : data_in said (unread_in block from till) ≡ data_in said there
    data_there = sym (more_data Listing (unread_in block from till) (drop (till - from) there) said whole) ∙ ap (data_in said) parts

    -- behind the record
    pub shows_behind : (to : ℕ) → to ≡ from + 8 + length_of said → unread_in block to till ≡ unread_in (drop gone recording) to till
    shows_behind to e =
        let fits = whole_fits Listing (unread_in block from till) said whole in
        let long : length (unread_in block from till) ≤ till - from = rw length-take (omega arith) in
        let k = 8 + length_of said in
        sym (unread_behind block from till k to (omega arith) (omega arith)) ∙ ap (drop k) shows ∙ unread_behind (drop gone recording) from till k to (omega arith) (omega arith)

-- ---- where the loop stands: between two TPs, or within one

module _ (covered : ℕ) (s : Setting) (p : Stamp) where
  pub since_append : (xs ys : List Input) (q : Stamp) (t : Stand)
      → lines_since covered s q t (xs ++ ys) ≡ lines_since covered s q t xs ++ lines_since covered s (behind_all q xs) (stand_at s q t xs) ys
  since_append [] ys q t = refl
  since_append (x ∷ xs) ys q t =
      let u : Stand = (record_of s q t x).1 in
      let now : List Line = new_in covered q.number (record_of s q t x).0 in
      ap (λ (l : List Line). now ++ l) (since_append xs ys (behind q x) u)
      ∙ sym (append_assoc now (lines_since covered s (behind q x) u xs) (lines_since covered s (behind_all (behind q x) xs) (stand_at s (behind q x) u xs) ys))

  -- the text so far
  abbrev pub written : List Input → List ℕ
  written xs = lines_text (lines_since covered s p fresh xs)

  -- one record more
  module _ (xs : List Input) (x : Input) (now : Stamp) (stamp : behind_all p xs ≡ now) (t : Stand) (stands : t ≡ stand_at s p fresh xs) where
    brought : record_of s (behind_all p xs) (stand_at s p fresh xs) x ≡ record_of s now t x
    brought = ap₂ (λ (q : Stamp) (u : Stand). record_of s q u x) stamp (sym stands)

    stand_one : stand_at s p fresh (xs ++ x ∷ []) ≡ (record_of s now t x).1
    stand_one = stand_append s xs (x ∷ []) p fresh ∙ ap (λ (l : Brought). l.1) brought

    written_one : written (xs ++ x ∷ []) ≡ written xs ++ text_in covered now.number (record_of s now t x).0
    written_one =
        ap lines_text (since_append xs (x ∷ []) p fresh)
        ∙ lines_append (lines_since covered s p fresh xs) (new_in covered (behind_all p xs).number (record_of s (behind_all p xs) (stand_at s p fresh xs) x).0 ++ [])
        ∙ ap (λ (l : List Line). written xs ++ lines_text l) (append-nil (new_in covered (behind_all p xs).number (record_of s (behind_all p xs) (stand_at s p fresh xs) x).0))
        ∙ ap₂ (λ (q : Stamp) (l : Brought). written xs ++ text_in covered q.number l.0) stamp brought

  pub record Between (xs : List Input) (put : List ℕ) (r : Receiver) (m : List ℕ) : Type 0 where
    pub ready : ReadyFor s r m
    pub stands : stand_of r m ≡ stand_at s p fresh xs
    pub lines : put ≡ written xs

  pub record Amid (xs : List Input) (put : List ℕ) (now : Stamp) (bytes : List ℕ) (r : Receiver) (m : List ℕ) : Type 0 where
    pub start : List ℕ
    pub receiver : Receiver
    pub room : List ℕ
    pub between : Between xs start receiver room
    pub finds : List (Finding wire)
    pub paused : Paused now bytes receiver room finds r m
    pub begun : put ≡ start ++ text_in covered now.number finds

  pub begin : {xs : List Input} {put : List ℕ} {r : Receiver} {m : List ℕ} (now : Stamp) (bytes : List ℕ) → Between xs put r m → Amid xs put now bytes r m
  begin {put = put} {r = r} {m = m} now bytes b = record {
    start = put;
    receiver = r;
    room = m;
    between = b;
    finds = [];
    paused = paused_none;
    begun = sym (append-nil put) ∙ ap (λ (l : List Line). put ++ lines_text l) (sym (new_none covered now.number));
  }

  module _ {xs : List Input} {put : List ℕ} {now : Stamp} {bytes : List ℕ} {r : Receiver} {m : List ℕ} (a : Amid xs put now bytes r m) where
    abbrev y : ReadyFor s a.receiver a.room
    y = a.between.ready

    more_put : (fs : List (Finding wire)) → put ++ text_in covered now.number fs ≡ a.start ++ text_in covered now.number (a.finds ++ fs)
    more_put fs =
        ap (λ (l : List ℕ). l ++ text_in covered now.number fs) a.begun
        ∙ append_assoc a.start (text_in covered now.number a.finds) (text_in covered now.number fs)
        ∙ ap (λ (l : List ℕ). a.start ++ l) (sym (text_in_append covered now.number a.finds fs))

    pub record Goes (o : Block) (r' : Receiver) (m' : List ℕ) (o' : Block) : Type 0 where
      pub text : List ℕ
      pub amid : Amid xs (put ++ text) now bytes r' m'
      pub adds : Adds o text o'

    pub record Done (o : Block) (r' : Receiver) (m' : List ℕ) (o' : Block) : Type 0 where
      pub text : List ℕ
      pub between : Between (xs ++ tp_in bytes ∷ []) (put ++ text) r' m'
      pub adds : Adds o text o'

    pub goes : {o : Block} {r' : Receiver} {m' : List ℕ} {o' : Block} → Pauses (Index covered) now bytes r m o r' m' o' → Goes o r' m' o'
    goes h =
        let k = pauses_on now bytes a.receiver a.room y.able y.stage y.room covered a.paused h in
        record {
          text = text_in covered now.number k.finds;
          amid = record { start = a.start; receiver = a.receiver; room = a.room; between = a.between; finds = a.finds ++ k.finds; paused = k.paused; begun = more_put k.finds };
          adds = k.adds;
        }

    module _ (stamp : behind_all p xs ≡ now) where
      abbrev old : Stand
      old = stand_of a.receiver a.room

      pub done : {o : Block} {r' : Receiver} {m' : List ℕ} {o' : Block} → Ends (Index covered) now bytes r m o r' m' o' → Done o r' m' o'
      done {r' = r'} {m' = m'} h =
          let b = a.between in
          let k = ends_on now bytes a.receiver a.room y.able y.stage y.room covered a.paused h in
          let z = after_tp s now bytes y k.calls in
          record {
            text = text_in covered now.number k.finds;
            between = record {
              ready = z.0;
              stands = sym (stand_one xs (tp_in bytes) now stamp old b.stands ∙ ap (λ (l : Brought). l.1) z.1);
              lines =
                  more_put k.finds
                  ∙ ap (λ (l : List ℕ). l ++ text_in covered now.number (a.finds ++ k.finds)) b.lines
                  ∙ ap (λ (l : Brought). written xs ++ text_in covered now.number l.0) (sym z.1)
                  ∙ sym (written_one xs (tp_in bytes) now stamp old b.stands);
            };
            adds = k.adds;
          }

      -- the others of its lines
      pub others : (l : List ℕ) × (put ++ l ≡ written (xs ++ tp_in bytes ∷ []))
      others =
          let b = a.between in
          let k = paused_rest now bytes a.receiver a.room y.able y.stage y.room a.paused in (
            text_in covered now.number k.0,
            more_put k.0
                ∙ ap (λ (l : List ℕ). l ++ text_in covered now.number (a.finds ++ k.0)) b.lines
                ∙ ap (λ (l : List (Finding wire)). written xs ++ text_in covered now.number l) (sym k.1)
                ∙ ap (λ (z : Setting). written xs ++ text_in covered now.number (record_of z now old (tp_in bytes)).0) y.setting
                ∙ sym (written_one xs (tp_in bytes) now stamp old b.stands),
          )

  pub told : {xs : List Input} {put : List ℕ} {r : Receiver} {m : List ℕ} → Between xs put r m → Between (xs ++ gap_told ∷ []) put (gap_of r) m
  told {xs} {put} {r} {m} b =
      let able : Able (gap_of r) = record { size = b.ready.able.size; walk = record { at = omega arith; phase = omega arith }; stage = omega arith } in
      let z = after_gap s r (gap_of r) m b.ready refl able in
      let now = behind_all p xs in
      record {
        ready = z.0;
        stands = sym (stand_one xs gap_told now refl (stand_of r m) b.stands);
        lines = b.lines ∙ sym (append-nil (written xs)) ∙ ap (λ (l : List Line). written xs ++ lines_text l) (sym (new_none covered now.number)) ∙ sym (written_one xs gap_told now refl (stand_of r m) b.stands);
      }
