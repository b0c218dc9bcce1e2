-- FROM ROUND TO ROUND of the loop over input blocks: what is held behind the records taken is, once it is written, what the theorem on the
-- whole listing asks for before the next ones. Assumes nothing.
use Prim.Native.Nat.{ℕ, ◌≤◌}
use mathlib.Core.Path.{◌≡◌, refl, ap, sym, subst, ◌∙◌}
use mathlib.Core.List.{List, ◌++◌}
use lib.ListN.{length, drop}
use Rattle.console.specs.Taking.{Whole, Onward}
use Rattle.console.specs.declared.Unread.{Unread}
use Rattle.console.proofs.Rounds.{stretch_is, read_behind, goes_behind}
use Rattle.house.specs.Series.{unread_in}
use Rattle.console.proofs.Records.{none_taken, rest_is, data_long, one_more}
use Rattle.house.specs.declared.Place.TheVariants as P
use native.Mathlib.Omega.{arith}
use Rattle.list_loop.specs.Running.{Standing, Lists, nothing, hears, ends, gap, Listed}
use Rattle.list_loop.specs.Rounds.{Comes, begins, goes, Went}
use Rattle.list_loop.specs.Whole.{Goes, first, next}
use Rattle.receiver.specs.Tp.{Setting}
use Rattle.list_loop.specs.declared.Run.{Run}

-- at the start of a stretch
abbrev pub at_start : Run → Run
at_start r = record { receiver = r.receiver; done = r.done; ten = r.ten; at = r.at; from = 0 }

went_as : {s : Setting} {input t held : List ℕ} {r : Run} {m u : List ℕ} → Goes s input t held r m → t ≡ u → Went s u r m
went_as {s} {input} {held = held} {r = r} {m = m} g e =
    record { input = input; held = held; goes_so = subst (λ (z : List ℕ). Goes s input z held r m) e g }

pub went : {s : Setting} {u : List ℕ} {run : Run} {m out : List ℕ} {r : Run} {m' out' : List ℕ} → Comes s u run m out
    → Listed (length u) u (at_start run) m out r m' out' → Went s (drop r.from u) r m'
went {u = u} {r = r} (begins b) l =
    went_as (first (record { receiver = b.receiver; able = b.able; room = b.room; done = b.done; held = b.held }) l) (rest_is u r.from)
went {u = u} {m = m} {out = out} {r = r} {m' = m'} {out' = out'} (goes g more e is) l =
    went_as (next g more (rest_is u 0 ∙ e) (subst (λ (x : Run). Listed (length u) u x m out r m' out') (ap at_start is) l)) (rest_is u r.from)

-- emptied, it goes on with what was read behind
pub comes : {s : Setting} (run : Run) (m out rest more : List ℕ) → Went s rest run m
    → Comes s (rest ++ more) (record { receiver = run.receiver; done = run.done; ten = run.ten; at = 0; from = run.from }) m out
comes run m out rest more w = goes w.goes_so more refl refl

-- ---- a round within its blocks: by what `Console::go_on` promises, what follows is again what the theorem on the whole listing asks for

went_in : {s : Setting} {till : ℕ} {block : List ℕ} {run : Run} {m out : List ℕ} {r : Run} {m' out' : List ℕ} → Comes s (unread_in block run.from till) run m out
    → Listed till block run m out r m' out' → Went s (unread_in block r.from till) r m'
went_in (begins b) l = record { input = _; held = _; goes_so = first b l }
went_in {till = till} {block = block} {m = m} {out = out} {r = r} {m' = m'} {out' = out'} (goes g more e is) l =
    record { input = _; held = _; goes_so = next g more e (subst (λ (x : Run). Listed till block x m out r m' out') is l) }

-- A ROUND
pub round : {s : Setting} {till : ℕ} {block : List ℕ} {run : Run} {m out : List ℕ} {r : Run} {m' out' : List ℕ} {gone : ℕ} {block' : List ℕ} {v : Unread}
    → Comes s (unread_in block run.from till) run m out → Listed till block run m out r m' out' → r.from ≤ till → till ≤ length block
    → Onward block (record { gone = gone; from = r.from; till = till }) block' v
    → Comes s (unread_in block' v.from v.till) (record { receiver = r.receiver; done = r.done; ten = r.ten; at = 0; from = v.from }) m' out'
round {till = till} {block = block} {r = r} {gone = gone} {block' = block'} {v = v} c l f t o =
    let u : Unread = record { gone = gone; from = r.from; till = till } in
    let more = read_behind block u block' v in
    goes (went_in c l).goes_so more
    (sym (stretch_is block' v o.from o.end) ∙ sym (goes_behind block u block' v o) ∙ ap (λ (z : List ℕ). z ++ more) (stretch_is block u f t)) refl

-- ---- what the lines are of are whole records

whole_of : {u : List ℕ} {a : Standing} {ls : List ℕ} {b : Standing} → a.from ≡ 0 → Lists u (length u) a ls b → Whole P.Listing u b.from
whole_of {u} z nothing = subst (Whole P.Listing u) (sym z) (none_taken P.Listing u)
whole_of z (hears l whole h) = whole_of z l
whole_of {u} z (ends {b = b} {n = n} l whole e) =
    let w = whole_of z l in
    let long = data_long w refl whole refl refl in
    subst (Whole P.Listing u) (omega (arith, long)) (one_more w refl whole refl refl)
whole_of {u} z (gap {b = b} l whole) =
    let w = whole_of z l in
    let long = data_long w refl whole refl refl in
    subst (Whole P.Listing u) (omega (arith, long)) (one_more w refl whole refl refl)

pub listed_whole : {u : List ℕ} {first : Run} {m out : List ℕ} {r : Run} {m' out' : List ℕ} → first.from ≡ 0 → Listed (length u) u first m out r m' out'
    → Whole P.Listing u r.from
listed_whole z l = whole_of z l.taken
