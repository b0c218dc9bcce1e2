-- WHAT IS HELD IS THE LISTING of the records taken, from block to block; where the output block is full within a TP, its first lines are
-- held, and the others are still to come. Assumes nothing.
use Prim.Native.Nat.{ℕ, ◌+◌, ◌-◌, ◌≤◌}
use mathlib.Core.Path.{◌≡◌, refl, ap, sym, subst, subst⁻¹, ◌∙◌}
use mathlib.Core.Logic.{◌⊎◌, inl, inr, ⊎_elim}
use mathlib.Core.List.{List, [], ◌∷◌, ◌++◌, append_assoc, append-nil}
use native.Mathlib.Omega.{arith}
use lib.ListN.{length, length-take}
use Rattle.console.proofs.Onward.{unread_behind}
use Rattle.house.specs.Records.{length_of}
use Rattle.house.specs.Series.{unread_in, Item, Taken}
use Rattle.house.specs.Series as T
use Rattle.house.specs.Slices.{at_hand, data_in}
use Rattle.std.specs.Prelude.{Some, Ok}
use Rattle.house.specs.declared.Place.TheVariants.{Listing}
use Rattle.house.specs.declared.Record.{Record}
use Rattle.house.specs.declared.Record.TheVariants.{Packet, Gap}
use Rattle.house.proofs.Slicing.{whole_fits, more_whole, more_data}
use Rattle.house.proofs.Taking.{taken_more}
use Rattle.listing.specs.Hearing.{Hears, Ends}
use Rattle.listing.proofs.Heard.{hears_on, ends_on}
use Rattle.receiver.specs.declared.Receiver.{Receiver}
use Rattle.receiver.specs.Call.{gap_of}
use Rattle.receiver.specs.Tp.{Setting, Input, tp_in}
use Rattle.list_loop.specs.Running.{Standing, standing, Lists, nothing, hears, ends, gap}
use Rattle.list_loop.specs.Whole.{input_in, inputs_in, Goes, first, next, Within, Held}
use Rattle.list_loop.specs.declared.Run.{Run}
use Rattle.list_loop.proofs.Between.{Between, begun, held_is, gap_told_lem, tp_begun, tp_done}

-- ---- where the loop stands: between two TPs, or within the one at hand, which was begun between two

record Amid (s : Setting) (xs : List Input) (unread held : List ℕ) (r : Receiver) (done : ℕ) (m : List ℕ) : Type 0 where
  size : ℕ
  tp_at_hand : at_hand Listing unread ≡ Ok (Some (Packet size))
  start : List ℕ
  receiver : Receiver
  room : List ℕ
  between : Between s xs start receiver done room
  lines : List ℕ
  heard : Hears (data_in (Packet size) unread) (done + 1) receiver room lines r m
  held_so : held ≡ start ++ lines

record Stands (s : Setting) (input unread held : List ℕ) (r : Receiver) (done : ℕ) (m : List ℕ) : Type 0 where
  records : List Item
  taken : Taken Listing input records unread
  now : Between s (inputs_in records) held r done m ⊎ Amid s (inputs_in records) unread held r done m

inputs_more : (xs : List Item) (x : Item) → inputs_in (xs ++ x ∷ []) ≡ inputs_in xs ++ input_in x.said x.bytes ∷ []
inputs_more [] x = refl
inputs_more (y ∷ ys) x = ap (λ (zs : List Input). input_in y.said y.bytes ∷ zs) (inputs_more ys x)

-- ---- one record, or a part of its calls

module _ (s : Setting) (xs : List Input) (unread held : List ℕ) (r : Receiver) (done : ℕ) (m : List ℕ) (n : ℕ)
    (whole : at_hand Listing unread ≡ Ok (Some (Packet n))) where
  abbrev tp : List ℕ
  tp = data_in (Packet n) unread

  same_tp : (k : ℕ) → at_hand Listing unread ≡ Ok (Some (Packet k)) → data_in (Packet k) unread ≡ tp
  same_tp k tp_at_hand =
      let both : Ok (Some (Packet k)) ≡ Ok (Some (Packet n)) = sym tp_at_hand ∙ whole in
      let e : k ≡ n = cc in
      ap (λ (z : ℕ). data_in (Packet z) unread) e

  -- as the TP at hand was heard so far
  heard_so : (a : Amid s xs unread held r done m) → Hears tp (done + 1) a.receiver a.room a.lines r m
  heard_so a = subst (λ (d : List ℕ). Hears d (done + 1) a.receiver a.room a.lines r m) (same_tp a.size a.tp_at_hand) a.heard

  module _ (ms : List ℕ) (r' : Receiver) (m' : List ℕ) where
    more_lines : (a : Amid s xs unread held r done m) → held ++ ms ≡ a.start ++ (a.lines ++ ms)
    more_lines a = ap (λ (z : List ℕ). z ++ ms) a.held_so ∙ append_assoc a.start a.lines ms

    go_amid : Hears tp (done + 1) r m ms r' m' → Between s xs held r done m ⊎ Amid s xs unread held r done m → Amid s xs unread (held ++ ms) r' done m'
    go_amid h (inl b) = record { size = n; tp_at_hand = whole; start = held; receiver = r; room = m; between = b; lines = ms; heard = h; held_so = refl }
    go_amid h (inr a) = record {
      size = n;
      tp_at_hand = whole;
      start = a.start;
      receiver = a.receiver;
      room = a.room;
      between = a.between;
      lines = a.lines ++ ms;
      heard = hears_on (heard_so a) h;
      held_so = more_lines a;
    }

    go_done : Ends tp (done + 1) r m ms r' m' → Between s xs held r done m ⊎ Amid s xs unread held r done m → Between s (xs ++ tp_in tp ∷ []) (held ++ ms) r' (done + 1) m'
    go_done e (inl b) = tp_done s xs held r done m b tp e
    go_done e (inr a) =
        subst⁻¹ (λ (z : List ℕ). Between s (xs ++ tp_in tp ∷ []) z r' (done + 1) m') (more_lines a)
        (tp_done s xs a.start a.receiver done a.room a.between tp (ends_on (heard_so a) e))

-- a gap's record comes between two TPs
go_told : (s : Setting) (xs : List Input) (unread held : List ℕ) (r : Receiver) (done : ℕ) (m : List ℕ) → at_hand Listing unread ≡ Ok (Some Gap)
    → Between s xs held r done m ⊎ Amid s xs unread held r done m → Between s xs held r done m
go_told s xs unread held r done m whole (inl b) = b
go_told s xs unread held r done m whole (inr a) = let other : Ok (Some (Packet a.size)) ≡ Ok (Some Gap) = sym a.tp_at_hand ∙ whole in let z : ◌≡◌ {A = ℕ} 0 1 = cc in absurd (omega arith)

-- ---- the records of a block

module _ (s : Setting) (input held : List ℕ) (block : List ℕ) (till : ℕ) (a : Standing)
    (start : Stands s input (unread_in block a.from till) held a.receiver a.done a.room) where
  -- a record more
  record_on : (xs : List Item) (from n : ℕ) (said : Record) → Taken Listing input xs (unread_in block from till) → at_hand Listing (unread_in block from till) ≡ Ok (Some said)
      → length_of said ≡ n → Taken Listing input (xs ++ record { said = said; bytes = data_in said (unread_in block from till) } ∷ []) (unread_in block (from + 8 + n) till)
  record_on xs from n said t whole e =
      let u = unread_in block from till in
      let fits = whole_fits Listing u said whole in
      let long : length u ≤ till - from = rw length-take (omega arith) in
      subst (Taken Listing input (xs ++ record { said = said; bytes = data_in said u } ∷ [])) (unread_behind block from till (8 + length_of said) (from + 8 + n) (omega arith) (omega arith)) (T.then t whole)

  lists_on : {ls : List ℕ} {b : Standing} → Lists block till a ls b → Stands s input (unread_in block b.from till) (held ++ ls) b.receiver b.done b.room
  lists_on nothing = subst (λ (z : List ℕ). Stands s input (unread_in block a.from till) z a.receiver a.done a.room) (sym (append-nil held)) start
  lists_on (hears {ls = ls} {ms = ms} {b = b} {n = n} {r = r} {m = m} l whole h) =
      let t = lists_on l in
      let u = unread_in block b.from till in
      subst (λ (z : List ℕ). Stands s input u z r b.done m) (append_assoc held ls ms)
      (record { records = t.records; taken = t.taken; now = inr (go_amid s (inputs_in t.records) u (held ++ ls) b.receiver b.done b.room n whole ms r m h t.now) })
  lists_on (ends {ls = ls} {ms = ms} {b = b} {n = n} {r = r} {m = m} l whole e) =
      let t = lists_on l in
      let u = unread_in block b.from till in
      let x : Item = record { said = Packet n; bytes = data_in (Packet n) u } in
      subst (λ (z : List ℕ). Stands s input (unread_in block (b.from + 8 + n) till) z r (b.done + 1) m) (append_assoc held ls ms)
      (record {
        records = t.records ++ x ∷ [];
        taken = record_on t.records b.from n (Packet n) t.taken whole refl;
        now =
            inl (subst⁻¹ (λ (zs : List Input). Between s zs ((held ++ ls) ++ ms) r (b.done + 1) m) (inputs_more t.records x)
            (go_done s (inputs_in t.records) u (held ++ ls) b.receiver b.done b.room n whole ms r m e t.now));
      })
  lists_on (gap {ls = ls} {b = b} l whole) =
      let t = lists_on l in
      let u = unread_in block b.from till in
      let x : Item = record { said = Gap; bytes = data_in Gap u } in
      let e : b.from + 8 + 0 ≡ b.from + 8 = omega arith in
      record {
        records = t.records ++ x ∷ [];
        taken = subst (λ (i : ℕ). Taken Listing input (t.records ++ x ∷ []) (unread_in block i till)) e (record_on t.records b.from 0 Gap t.taken whole refl);
        now =
            inl (subst⁻¹ (λ (zs : List Input). Between s zs (held ++ ls) (gap_of b.receiver) b.done b.room) (inputs_more t.records x)
            (gap_told_lem s (inputs_in t.records) (held ++ ls) b.receiver b.done b.room (go_told s (inputs_in t.records) u (held ++ ls) b.receiver b.done b.room whole t.now)));
      }

-- ---- from block to block

-- with more bytes of the input
read_on_lem : {s : Setting} {input unread held : List ℕ} {r : Receiver} {done : ℕ} {m : List ℕ} → Stands s input unread held r done m → (more : List ℕ)
    → Stands s (input ++ more) (unread ++ more) held r done m
read_on_lem {s} {input} {unread} {held} {r} {done} {m} t more =
    record { records = t.records; taken = taken_more t.taken more; now = ⊎_elim (λ b. inl b) (λ a. inr (amid a)) t.now }
  where
    amid : Amid s (inputs_in t.records) unread held r done m → Amid s (inputs_in t.records) (unread ++ more) held r done m
    amid a = record {
      size = a.size;
      tp_at_hand = more_whole Listing unread more (Packet a.size) a.tp_at_hand;
      start = a.start;
      receiver = a.receiver;
      room = a.room;
      between = a.between;
      lines = a.lines;
      heard = subst⁻¹ (λ (d : List ℕ). Hears d (done + 1) a.receiver a.room a.lines r m) (more_data Listing unread more (Packet a.size) a.tp_at_hand) a.heard;
      held_so = a.held_so;
    }

stands : {s : Setting} {input unread held : List ℕ} {r : Run} {m : List ℕ} → Goes s input unread held r m → Stands s input unread held r.receiver r.done m
stands {s} (first {till = till} {block = block} {m = m} {out = out} {m' = m'} {a = a} {r = r} b l) =
    let input = unread_in block a.from till in
    subst⁻¹ (λ (z : List ℕ). Stands s input (unread_in block r.from till) z r.receiver r.done m') (l.held ∙ ap (λ (z : List ℕ). z ++ l.lines) b.held)
    (lists_on s input _ block till (standing a m) (record { records = []; taken = T.nothing; now = inl (begun s a m out b) }) l.taken)
stands {s} (next {input = input} {unread = unread} {held = held} {till = till} {from = from} {block = block} {m = m} {m' = m'} {b = b} {r = r} g more e l) =
    let t = stands g in
    let here = standing (record { receiver = b.receiver; done = b.done; ten = b.ten; at = 0; from = from }) m in
    subst⁻¹ (λ (z : List ℕ). Stands s (input ++ more) (unread_in block r.from till) (held ++ z) r.receiver r.done m') l.held
    (lists_on s (input ++ more) held block till here (subst⁻¹ (λ (u : List ℕ). Stands s (input ++ more) u held b.receiver b.done m) e (read_on_lem t more)) l.taken)

-- WHAT IS HELD
pub whole_listing : {s : Setting} {input unread held : List ℕ} {r : Run} {m : List ℕ} → Goes s input unread held r m → Held s input unread held
whole_listing {s} {input} {unread} {held} {r} {m} g =
    let t = stands g in
    let xs = inputs_in t.records in
    record { records = t.records; taken = t.taken; listing = ⊎_elim (λ b. inl (held_is s xs held r.receiver r.done m b)) (λ a. inr (amid t.records a)) t.now }
  where
    amid : (records : List Item) → Amid s (inputs_in records) unread held r.receiver r.done m → Within s records unread held
    amid records a =
        let xs = inputs_in records in
        let b = tp_begun s xs a.start a.receiver r.done a.room a.between (data_in (Packet a.size) unread) a.heard in
        record {
          size = a.size;
          tp_at_hand = a.tp_at_hand;
          first = a.lines;
          others = b.0;
          begun = a.held_so ∙ ap (λ (z : List ℕ). z ++ a.lines) (held_is s xs a.start a.receiver r.done a.room a.between);
          whole = ap (λ (z : List ℕ). z ++ b.0) a.held_so ∙ b.1;
        }
