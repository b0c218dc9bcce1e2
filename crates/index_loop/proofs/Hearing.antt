-- One find more, and one record more: from what a call or a record's turn ensures to what the loops promise. Assumes nothing.
use Prim.Native.Nat.{ℕ, ◌+◌}
use mathlib.Core.Path.{◌≡◌, refl, ap, sym, subst, subst⁻¹, ◌∙◌}
use mathlib.Core.Bool.{true, false}
use mathlib.Core.Logic.{inr, ⊎_elim}
use mathlib.Core.List.{List}
use lib.ListN.{length}
use Rattle.block.specs.Block.{Block}
use Rattle.house.specs.Series.{unread_in}
use Rattle.house.specs.Slices.{at_hand, data_in}
use Rattle.std.specs.Prelude.{Some, Ok}
use Rattle.house.specs.declared.Place.TheVariants.{Listing}
use Rattle.house.specs.declared.Record.{Record}
use Rattle.house.specs.declared.Record.TheVariants as R
use Rattle.house.proofs.Slicing.{whole_data, Read, listing_reads}
use Rattle.receiver.specs.Call.{Gave, Gives, gap_of, lasts}
use Rattle.receiver.specs.Lanes.{call_by}
use Rattle.receiver.specs.declared.Receiver.{Receiver}
use Rattle.receiver.specs.declared.Stamp.{Stamp}
use Rattle.receiver.specs.declared.Step.{Step}
use Rattle.index_loop.specs.declared.Run.{Run}
use Rattle.index_loop.specs.declared.Task.{Task}
use Rattle.index_loop.specs.declared.Went.{Went}
use Rattle.index_loop.specs.Walking.{Found, Hears, nothing, then, Ends, last, Pauses, Heard, Told, Does, Standing, standing, Takes, stays, pauses, ends, gap, Taken, block_of, puts, sum_of}

-- ---- one find more

module _ {task : Task} {t : Stamp} {tp : List ℕ} {r : Receiver} {m : List ℕ} {o : Block} {r' : Receiver} {m' : List ℕ} where
  pub hears_found : {out : List ℕ} {at : ℕ} {w : Went} {m'' out'' : List ℕ} → Hears task t tp r m o r' m' (block_of out at)
      → Found task r' t tp m' out at w m'' out'' → w.lasts ≡ true → Hears task t tp r m o w.receiver m'' (block_of out'' w.at)
  hears_found {out} {at} {w} {m''} {out''} h f on =
      subst⁻¹ (λ (x : Block). Hears task t tp r m o w.receiver m'' x) f.text
      (subst⁻¹ (λ (x : Receiver). Hears task t tp r m o x m'' (puts task t tp f.step m'' (block_of out at))) f.receiver (then h f.gives (sym f.lasts ∙ on)))

  pub ends_found : {out : List ℕ} {at : ℕ} {w : Went} {m'' out'' : List ℕ} → Hears task t tp r m o r' m' (block_of out at)
      → Found task r' t tp m' out at w m'' out'' → w.lasts ≡ false → Ends task t tp r m o w.receiver m'' (block_of out'' w.at)
  ends_found {out} {at} {w} {m''} {out''} h f off =
      subst⁻¹ (λ (x : Block). Ends task t tp r m o w.receiver m'' x) f.text
      (subst⁻¹ (λ (x : Receiver). Ends task t tp r m o x m'' (puts task t tp f.step m'' (block_of out at))) f.receiver (last h f.gives (sym f.lasts ∙ off)))

-- a TP's record, by the stamp that its number and place make
module _ (task : Task) (gone : ℕ) (tp : List ℕ) (first : Run) (m out : List ℕ) (byte : ℕ) (r : Run) (m' out' : List ℕ) (is : byte ≡ sum_of gone first.from) where
  pub heard_done : Ends task (record { number = first.record; byte = byte }) tp first.receiver m (block_of out first.at) r.receiver m' (block_of out' r.at)
      → r.from ≡ first.from + 8 + length tp → r.record ≡ sum_of first.record 1 → Heard task gone tp first m out r m' out'
  heard_done h ef en =
      inr (subst (λ (n : ℕ). Ends task (record { number = first.record; byte = n }) tp first.receiver m (block_of out first.at) r.receiver m' (block_of out' r.at)) is h, (ef, en))

-- ---- with more to give

module _ {task : Task} {t : Stamp} {tp : List ℕ} {r : Receiver} {m : List ℕ} {o : Block} where
  pub pauses_none : Pauses task t tp r m o r m o
  pauses_none = record { left = r; hears = nothing; alike = refl }

  module _ {r' : Receiver} {m' : List ℕ} {o' : Block} where
    pub pauses_as : {r'' : Receiver} → Pauses task t tp r m o r' m' o' → call_by t r'' tp m' ≡ call_by t r' tp m' → Pauses task t tp r m o r'' m' o'
    pauses_as p e = record { left = p.left; hears = p.hears; alike = e ∙ p.alike }

    pub pauses_then : {q : Step} {m'' : List ℕ} → Pauses task t tp r m o r' m' o' → Gives (call_by t r' tp m') q tp m'' → lasts q.find ≡ true
        → Pauses task t tp r m o q.receiver m'' (puts task t tp q m'' o')
    pauses_then {q} {m''} p g on = record { left = q.receiver; hears = then p.hears (subst (λ (x : Gave). Gives x q tp m'') p.alike g) on; alike = refl }

    pub pauses_last : {q : Step} {m'' : List ℕ} → Pauses task t tp r m o r' m' o' → Gives (call_by t r' tp m') q tp m'' → lasts q.find ≡ false
        → Ends task t tp r m o q.receiver m'' (puts task t tp q m'' o')
    pauses_last {q} {m''} p g off = last p.hears (subst (λ (x : Gave). Gives x q tp m'') p.alike g) off

-- a TP that is taken in two goes is taken in one
module _ {task : Task} {t : Stamp} {tp : List ℕ} {r : Receiver} {m : List ℕ} {o : Block} {r' : Receiver} {m' : List ℕ} {o' : Block} (p : Pauses task t tp r m o r' m' o') where
  pub pauses_hears : {r'' : Receiver} {m'' : List ℕ} {o'' : Block} → Hears task t tp r' m' o' r'' m'' o'' → Pauses task t tp r m o r'' m'' o''
  pauses_hears nothing = p
  pauses_hears (then h g on) = pauses_then (pauses_hears h) g on

  pub pauses_on : {r'' : Receiver} {m'' : List ℕ} {o'' : Block} → Pauses task t tp r' m' o' r'' m'' o'' → Pauses task t tp r m o r'' m'' o''
  pauses_on q = pauses_as (pauses_hears q.hears) q.alike

  pub pauses_ends : {r'' : Receiver} {m'' : List ℕ} {o'' : Block} → Ends task t tp r' m' o' r'' m'' o'' → Ends task t tp r m o r'' m'' o''
  pauses_ends (last h g off) = pauses_last (pauses_hears h) g off

-- ---- a TP's record, and another

pub does_told : (said : Record) (task : Task) (gone : ℕ) (d : List ℕ) (first : Run) (m out : List ℕ) (r : Run) (m' out' : List ℕ) → ((n : ℕ) → said ≡ R.Packet n → ⊥)
    → Told first m out r m' out' → Does said task gone d first m out r m' out'
does_told R.Setup task gone d first m out r m' out' other t = t
does_told (R.Ordinary c n) task gone d first m out r m' out' other t = t
does_told (R.Low c n) task gone d first m out r m' out' other t = t
does_told R.Draw task gone d first m out r m' out' other t = t
does_told (R.Packet n) task gone d first m out r m' out' other t = absurd (other n refl)
does_told R.Gap task gone d first m out r m' out' other t = t

-- ---- one record more

module _ (task : Task) (gone till : ℕ) (block : List ℕ) where
  -- from standing to standing, by what is equal
  pub stands : (a : Standing) (from number : ℕ) (receiver : Receiver) (m : List ℕ) (o : Block) (r : Run) (m' out' : List ℕ)
      → r.from ≡ from → r.record ≡ number → r.receiver ≡ receiver → m' ≡ m → block_of out' r.at ≡ o
      → Takes task gone till block a (record { from = from; number = number; receiver = receiver; room = m; out = o })
      → Takes task gone till block a (standing r m' out')
  stands a from number receiver m o r m' out' ef en er em eo k =
      subst⁻¹ (λ (i : ℕ). Takes task gone till block a (record { from = i; number = r.record; receiver = r.receiver; room = m'; out = block_of out' r.at })) ef
      (subst⁻¹ (λ (i : ℕ). Takes task gone till block a (record { from = from; number = i; receiver = r.receiver; room = m'; out = block_of out' r.at })) en
      (subst⁻¹ (λ (x : Receiver). Takes task gone till block a (record { from = from; number = number; receiver = x; room = m'; out = block_of out' r.at })) er
      (subst⁻¹ (λ (x : List ℕ). Takes task gone till block a (record { from = from; number = number; receiver = receiver; room = x; out = block_of out' r.at })) em
      (subst⁻¹ (λ (x : Block). Takes task gone till block a (record { from = from; number = number; receiver = receiver; room = m; out = x })) eo k))))

  module _ (first : Run) (m₀ out₀ : List ℕ) (run : Run) (m out : List ℕ) (l : Taken task gone till block first m₀ out₀ run m out)
      (r : Run) (m' out' : List ℕ) where
    abbrev u : List ℕ
    u = unread_in block run.from till

    by_tp : (n : ℕ) → at_hand Listing u ≡ Ok (Some (R.Packet n)) → Heard task gone (data_in (R.Packet n) u) run m out r m' out' → Taken task gone till block first m₀ out₀ r m' out'
    by_tp n whole f =
        ⊎_elim
        (λ h. stands (standing first m₀ out₀) run.from run.record r.receiver m' (block_of out' r.at) r m' out' h.1.0 h.1.1 refl refl refl (pauses l whole (record { left = r.receiver; hears = h.0; alike = refl })))
        (λ h. stands (standing first m₀ out₀) (run.from + 8 + n) (sum_of run.record 1) r.receiver m' (block_of out' r.at) r m' out' (h.1.0 ∙ ap (λ (k : ℕ). run.from + 8 + k) (whole_data Listing u (R.Packet n) whole)) h.1.1 refl refl refl (ends l whole h.0))
        f

    by_gap : at_hand Listing u ≡ Ok (Some R.Gap) → Told run m out r m' out' → Taken task gone till block first m₀ out₀ r m' out'
    by_gap whole t =
        stands (standing first m₀ out₀) (run.from + 8) (sum_of run.record 1) (gap_of run.receiver) m (block_of out run.at) r m' out' t.from t.number t.receiver t.room t.out (gap l whole)

    by_record : (said : Record) → Read said → at_hand Listing u ≡ Ok (Some said) → Does said task gone (data_in said u) run m out r m' out' → Taken task gone till block first m₀ out₀ r m' out'
    by_record R.Setup k whole d = absurd k
    by_record (R.Ordinary c n) k whole d = absurd k
    by_record (R.Low c n) k whole d = absurd k
    by_record R.Draw k whole d = absurd k
    by_record (R.Packet n) k whole d = by_tp n whole d
    by_record R.Gap k whole d = by_gap whole d

    pub taken_then : (said : Record) (x : List ℕ) → at_hand Listing u ≡ Ok (Some said) → x ≡ data_in said u → Does said task gone x run m out r m' out'
        → Taken task gone till block first m₀ out₀ r m' out'
    taken_then said x whole is d =
        by_record said (listing_reads u said whole) whole (subst (λ (y : List ℕ). Does said task gone y run m out r m' out') is d)

  -- the records of two stretches, one behind the other
  pub takes_on : {a b c : Standing} → Takes task gone till block a b → Takes task gone till block b c → Takes task gone till block a c
  takes_on k stays = k
  takes_on k (pauses l whole h) = pauses (takes_on k l) whole h
  takes_on k (ends l whole h) = ends (takes_on k l) whole h
  takes_on k (gap l whole) = gap (takes_on k l) whole
