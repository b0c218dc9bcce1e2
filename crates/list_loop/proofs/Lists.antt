-- One find more, and one record more: from what a call or a record's turn ensures to what the loops promise. Assumes nothing.
use Prim.Native.Nat.{ℕ, ◌+◌, ◌≤◌, min}
use mathlib.Core.Path.{◌≡◌, refl, ap, sym, subst, subst⁻¹, ◌∙◌}
use mathlib.Core.Bool.{true, false}
use mathlib.Core.Logic.{inl, inr, ⊎_elim}
use mathlib.Core.List.{List, [], ◌++◌, append_assoc, append-nil}
use native.Mathlib.Omega.{arith}
use lib.ListN.{length, take, length-take, length-append}
use Rattle.house.specs.Series.{unread_in}
use Rattle.house.specs.Slices.{at_hand, data_in}
use Rattle.std.specs.Prelude.{Some, Ok}
use Rattle.house.specs.declared.Place.TheVariants.{Listing}
use Rattle.house.specs.declared.Record.{Record}
use Rattle.house.specs.declared.Record.TheVariants.{Setup, Ordinary, Low, Draw, Packet, Gap}
use Rattle.house.proofs.Slicing.{whole_data, Read, listing_reads}
use Rattle.listing.specs.Hearing.{Hears, nothing, then, Ends, last}
use Rattle.listing.specs.Lines.{line_of}
use Rattle.listing.specs.declared.Ten.{Ten}
use Rattle.receiver.specs.Call.{Gives, call_of, gap_of, lasts}
use Rattle.receiver.specs.Lanes.{ends_in}
use Rattle.receiver.specs.State.{Able}
use Rattle.receiver.specs.Tracks.{Placed}
use Rattle.receiver.specs.declared.Receiver.{Receiver}
use Rattle.receiver.specs.declared.Stamp.{Stamp}
use Rattle.receiver.specs.declared.Step.{Step}
use Rattle.receiver.proofs.Owning.{placed_next}
use Rattle.list_loop.specs.Running.{Ahead, Found, Told, Does, Standing, standing, Lists, hears, ends, gap, Listed}
use Rattle.list_loop.specs.Running as L
use Rattle.list_loop.specs.declared.Run.{Run}

-- ---- one find more

-- the TP at hand has more to give
pub record Heard (tp : List ℕ) (first : Run) (m out : List ℕ) (r : Receiver) (at : ℕ) (m' out' : List ℕ) : Type 0 where
  pub lines : List ℕ
  pub hears : Hears tp (first.done + 1) first.receiver m lines r m'
  pub held : take at out' ≡ take first.at out ++ lines

pub heard_none : (tp : List ℕ) (first : Run) (m out : List ℕ) → Heard tp first m out first.receiver first.at m out
heard_none tp first m out = record { lines = []; hears = nothing; held = sym (append-nil (take first.at out)) }

module _ (tp : List ℕ) (first : Run) (m out : List ℕ) (r : Receiver) (at : ℕ) (m₁ out₁ : List ℕ) (h : Heard tp first m out r at m₁ out₁)
    (q : Step) (at' : ℕ) (m₂ out₂ : List ℕ) (g : Gives (call_of r tp m₁) q tp m₂)
    (e : take at' out₂ ≡ take at out₁ ++ line_of (first.done + 1) q.find) where
  held_more : take at' out₂ ≡ take first.at out ++ (h.lines ++ line_of (first.done + 1) q.find)
  held_more =
      e
      ∙ ap (λ (z : List ℕ). z ++ line_of (first.done + 1) q.find) h.held
      ∙ append_assoc (take first.at out) h.lines (line_of (first.done + 1) q.find)

  pub heard_then : lasts q.find ≡ true → Heard tp first m out q.receiver at' m₂ out₂
  heard_then on = record { lines = h.lines ++ line_of (first.done + 1) q.find; hears = then h.hears g on; held = held_more }

  pub found_done : (z : Run) → lasts q.find ≡ false → z.receiver ≡ q.receiver → z.at ≡ at' → z.from ≡ first.from + 8 + length tp → z.done ≡ first.done + 1
      → Found tp first m out z m₂ out₂
  found_done z off er ea ef ed =
      record {
        lines = h.lines ++ line_of (first.done + 1) q.find;
        held = ap (λ (n : ℕ). take n out₂) ea ∙ held_more;
        heard = inr (subst⁻¹ (λ (x : Receiver). Ends tp (first.done + 1) first.receiver m (h.lines ++ line_of (first.done + 1) q.find) x m₂) er (last h.hears g off), (ef, ed));
      }

-- a TP that one call is done with has given no line
module _ (tp : List ℕ) (first : Run) (m out : List ℕ) (q : Receiver) (t : Stamp) (m' : List ℕ) (g : Gives (call_of first.receiver tp m) (ends_in q t) tp m') where
  pub able_ended : (r : Receiver) → r ≡ q → Able r
  able_ended r e = subst⁻¹ Able e g.able

  pub placed_ended : Able first.receiver → Placed first.receiver → (r : Receiver) → r ≡ q → Placed r
  placed_ended able placed r e = subst⁻¹ Placed e (placed_next m able placed g)

  pub found_ended : (z : Run) (m₁ : List ℕ) → z.receiver ≡ q → m₁ ≡ m' → z.at ≡ first.at → z.from ≡ first.from + 8 + length tp → z.done ≡ first.done + 1
      → Found tp first m out z m₁ out
  found_ended z m₁ er em ea ef ed =
      subst⁻¹ (λ (x : List ℕ). Found tp first m out z x out) em
      (found_done tp first m out first.receiver first.at m out (heard_none tp first m out) (ends_in q t) first.at m' out g (sym (append-nil (take first.at out))) z refl er ea ef ed)

pub found_on : (tp : List ℕ) (first : Run) (m out : List ℕ) (r : Receiver) (at : ℕ) (m₁ out₁ : List ℕ) → Heard tp first m out r at m₁ out₁
    → (z : Run) → z.receiver ≡ r → z.at ≡ at → z.from ≡ first.from → z.done ≡ first.done → Found tp first m out z m₁ out₁
found_on tp first m out r at m₁ out₁ h z er ea ef ed =
    record {
      lines = h.lines;
      held = ap (λ (n : ℕ). take n out₁) ea ∙ h.held;
      heard = inl (subst⁻¹ (λ (x : Receiver). Hears tp (first.done + 1) first.receiver m h.lines x m₁) er h.hears, (ef, ed));
    }

-- ---- a TP's record, and another

pub does_found : (said : Record) (n : ℕ) (d : List ℕ) (first : Run) (m out : List ℕ) (r : Run) (m' out' : List ℕ) → said ≡ Packet n
    → Found d first m out r m' out' → Does said d first m out r m' out'
does_found said n d first m out r m' out' e f = subst⁻¹ (λ (x : Record). Does x d first m out r m' out') e f

pub does_told : (said : Record) (d : List ℕ) (first : Run) (m out : List ℕ) (r : Run) (m' out' : List ℕ) → ((n : ℕ) → said ≡ Packet n → ⊥)
    → Told first m out r m' out' → Does said d first m out r m' out'
does_told Setup d first m out r m' out' other t = t
does_told (Ordinary c n) d first m out r m' out' other t = t
does_told (Low c n) d first m out r m' out' other t = t
does_told Draw d first m out r m' out' other t = t
does_told (Packet n) d first m out r m' out' other t = absurd (other n refl)
does_told Gap d first m out r m' out' other t = t

-- ---- one record more

pub listed_none : (till : ℕ) (block : List ℕ) (r : Run) (m out : List ℕ) → Listed till block r m out r m out
listed_none till block r m out = record { lines = []; taken = L.nothing; held = sym (append-nil (take r.at out)) }

stands : (r : Run) (m : List ℕ) (from done : ℕ) → r.from ≡ from → r.done ≡ done
    → ◌≡◌ {A = Standing} (record { from = from; done = done; receiver = r.receiver; room = m }) (standing r m)
stands r m from done ef ed =
    ap (λ (n : ℕ). record { from = n; done = done; receiver = r.receiver; room = m }) (sym ef)
    ∙ ap (λ (n : ℕ). record { from = r.from; done = n; receiver = r.receiver; room = m }) (sym ed)

module _ (till : ℕ) (block : List ℕ) (first : Run) (m₀ out₀ : List ℕ) (run : Run) (m out : List ℕ) (l : Listed till block first m₀ out₀ run m out)
    (r : Run) (m' out' : List ℕ) where
  abbrev u : List ℕ
  u = unread_in block run.from till

  held_on : (ls : List ℕ) → take r.at out' ≡ take run.at out ++ ls → take r.at out' ≡ take first.at out₀ ++ (l.lines ++ ls)
  held_on ls e = e ∙ ap (λ (z : List ℕ). z ++ ls) l.held ∙ append_assoc (take first.at out₀) l.lines ls

  by_tp : (n : ℕ) → at_hand Listing u ≡ Ok (Some (Packet n)) → Found (data_in (Packet n) u) run m out r m' out' → Listed till block first m₀ out₀ r m' out'
  by_tp n whole f =
      record {
        lines = l.lines ++ f.lines;
        taken =
            ⊎_elim
            (λ o. subst (Lists block till (standing first m₀) (l.lines ++ f.lines)) (stands r m' run.from run.done o.1.0 o.1.1) (hears l.taken whole o.0))
            (λ o. subst (Lists block till (standing first m₀) (l.lines ++ f.lines)) (stands r m' (run.from + 8 + n) (run.done + 1) (o.1.0 ∙ ap (λ (k : ℕ). run.from + 8 + k) (whole_data Listing u (Packet n) whole)) o.1.1) (ends l.taken whole o.0))
            f.heard;
        held = held_on f.lines f.held;
      }

  by_gap : at_hand Listing u ≡ Ok (Some Gap) → Told run m out r m' out' → Listed till block first m₀ out₀ r m' out'
  by_gap whole t =
      let same : record { from = run.from + 8; done = run.done; receiver = gap_of run.receiver; room = m } ≡ standing r m' =
      ap (λ (x : Receiver). record { from = run.from + 8; done = run.done; receiver = x; room = m }) (sym t.receiver)
      ∙ ap (λ (x : List ℕ). record { from = run.from + 8; done = run.done; receiver = r.receiver; room = x }) (sym t.room)
      ∙ stands r m' (run.from + 8) run.done t.from t.done in
      record {
        lines = l.lines;
        taken = subst (Lists block till (standing first m₀) l.lines) same (gap l.taken whole);
        held = ap (λ (x : List ℕ). take r.at x) t.out ∙ ap (λ (n : ℕ). take n out) t.at ∙ l.held;
      }

  by_record : (said : Record) → Read said → at_hand Listing u ≡ Ok (Some said) → Does said (data_in said u) run m out r m' out' → Listed till block first m₀ out₀ r m' out'
  by_record Setup k whole d = absurd k
  by_record (Ordinary c n) k whole d = absurd k
  by_record (Low c n) k whole d = absurd k
  by_record Draw k whole d = absurd k
  by_record (Packet n) k whole d = by_tp n whole d
  by_record Gap k whole d = by_gap whole d

  pub listed_then : (said : Record) (x : List ℕ) → at_hand Listing u ≡ Ok (Some said) → x ≡ data_in said u → Does said x run m out r m' out'
      → Listed till block first m₀ out₀ r m' out'
  listed_then said x whole is d =
      by_record said (listing_reads u said whole) whole (subst (λ (y : List ℕ). Does said y run m out r m' out') is d)

-- ---- in two goes as in one

lists_on : {block : List ℕ} {till : ℕ} {a b c : Standing} {ls ms : List ℕ} → Lists block till a ls b → Lists block till b ms c → Lists block till a (ls ++ ms) c
lists_on {block} {till} {a} {b} {ls = ls} h L.nothing = subst⁻¹ (λ (x : List ℕ). Lists block till a x b) (append-nil ls) h
lists_on {block} {till} {a} {ls = ls} h (hears {ls = ns} {ms = os} {b = d} {r = r} {m = m} g w x) =
    subst (λ (y : List ℕ). Lists block till a y (record { from = d.from; done = d.done; receiver = r; room = m })) (append_assoc ls ns os) (hears (lists_on h g) w x)
lists_on {block} {till} {a} {ls = ls} h (ends {ls = ns} {ms = os} {b = d} {n = n} {r = r} {m = m} g w x) =
    subst (λ (y : List ℕ). Lists block till a y (record { from = d.from + 8 + n; done = d.done + 1; receiver = r; room = m })) (append_assoc ls ns os) (ends (lists_on h g) w x)
lists_on h (gap g w) = gap (lists_on h g) w

module _ (till : ℕ) (block : List ℕ) (first : Run) (m₀ out₀ : List ℕ) (run : Run) (m out : List ℕ) (l : Listed till block first m₀ out₀ run m out) where
  pub listed_on : (r : Run) (m' out' : List ℕ) → Listed till block run m out r m' out' → Listed till block first m₀ out₀ r m' out'
  listed_on r m' out' g =
      record {
        lines = l.lines ++ g.lines;
        taken = lists_on l.taken g.taken;
        held = g.held ∙ ap (λ (x : List ℕ). x ++ g.lines) l.held ∙ append_assoc (take first.at out₀) l.lines g.lines;
      }

  -- by an equal receiver, whatever the ten
  pub listed_as : (x : Receiver) (ten : Ten) → x ≡ run.receiver
      → Listed till block first m₀ out₀ (record { receiver = x; done = run.done; ten = ten; at = run.at; from = run.from }) m out
  listed_as x ten e =
      record {
        lines = l.lines;
        taken = subst⁻¹ (λ (y : Receiver). Lists block till (standing first m₀) l.lines (record { from = run.from; done = run.done; receiver = y; room = m })) e l.taken;
        held = l.held;
      }

  -- no less is held than before
  pub listed_more : first.at ≤ length out₀ → first.at ≤ run.at
  listed_more inside =
      let n : min run.at (length out) ≡ min first.at (length out₀) + length l.lines =
      sym (length-take run.at out) ∙ ap length l.held ∙ length-append (take first.at out₀) l.lines ∙ ap (λ (i : ℕ). i + length l.lines) (length-take first.at out₀) in
      omega (arith, n, inside)

pub ahead_on : {till : ℕ} {first run r : Run} → Ahead first till run → Ahead run till r → Ahead first till r
ahead_on a b =
    record { able = b.able; placed = b.placed; ten = b.ten; from = omega (arith, a.from, b.from); end = b.end; count = omega (arith, a.count, b.count) }
