-- Demand 3 holds, whichever TPs arrive: `right`. The bytes that arrive are the items' stream, marked as it was sent; each stretch of TPs that arrived carries a
-- stretch of it, and the window lemma says what reading that from out of step hands out. Assumes nothing.
use Prim.Native.Nat.{ℕ, zero, suc, ◌+◌, ◌-◌, ◌≤◌, ◌<◌}
use mathlib.Core.Path.{◌≡◌, refl, sym, ap, ◌∙◌, subst, subst⁻¹}
use mathlib.Core.Bool.{Bool, true, false, cond, ◌&&◌}
use mathlib.Core.List.{List, [], ◌∷◌, ◌++◌, append-nil, flatten, map}
use native.Mathlib.Omega.{arith}
use lib.Dec.{leb}
use lib.ListN.{length, take, drop}
use borrow.Author.Tests.{le-leb, lt-leb, leb-true}
use Rattle.downlink.proofs.plain.Frame.{lost}
use Rattle.downlink.proofs.plain.Join.{free}
use Rattle.downlink.proofs.plain.Low.{wire}
use Rattle.downlink.proofs.Strip.{finding}
use Rattle.downlink.proofs.Stripped.{all_listed}
use Rattle.receiver.specs.Frame as R
use Rattle.receiver.specs.Join as J
use Rattle.receiver.specs.Tp.{Input, tp_in, gap_told}
use Rattle.downlink.proofs.plain.Tp.{listing_all}
use Rattle.receiver.proofs.Listening.{from_opening}
use Rattle.sender.specs.Run.{Tp, Deed, refused, took, took_low, drew, tps, left, undrawn}
use Rattle.downlink.specs.Hearing.{Called, Hears, tps_in, handed_out}
use Rattle.downlink.specs.Hearing as H
use Rattle.downlink.specs.Damage.{Item, fillers, items, all_eps, EpsNear, drawn, ordinary_of}
use Rattle.downlink.specs.Due.{places, byte_at, Due, as_offered, Exactly, lows_taken, lows_due, ordinary_due, lows_of, ordinaries_of}
use Rattle.downlink.specs.Demand.{carries, total, whole_from, Link, did, Fit, Roomy, RightOf, FromAny, Demand3, Longest, AsQueue, Unchanged, Themselves}
use Rattle.downlink.specs.Gaps.{heard_of, through}
use Rattle.downlink.proofs.Window.{bytes}
use Rattle.downlink.proofs.Joins.{packets}
use Rattle.downlink.proofs.Loads.{Load}
use Rattle.downlink.proofs.Runs.{Ran, run, left_bytes, limits, start}
use Rattle.downlink.proofs.Laws.{ordinary_law}
use Rattle.downlink.proofs.Streams.{handed_by, AllFit}
use Rattle.downlink.proofs.Listen as L
use Rattle.downlink.proofs.Listen.{lows_heard, got_lows, got_ordinary}
use Rattle.downlink.proofs.Calling.{all_findings, lows_out, ordinaries_out, lives}
use Rattle.downlink.proofs.Through.{from_k}
use Rattle.downlink.proofs.Own.{read, exactly, unchanged, SameLengths, near_lengths, drawn_lengths, ordinary_read, ordinary_offered_lem, ordinary_at, carries_total}
use Rattle.downlink.proofs.Stretch.{lows_got, lows_sent, ordinary_right}

-- ---- the room

fills_fit : (n : ℕ) (e : List ℕ) (is : List Item) → AllFit n is → AllFit n (fillers e ++ is)
fills_fit n [] is fit = fit
fills_fit n (b ∷ e) is fit = (tt, fit)

all_fit : (n F : ℕ) (ds : List Deed) → Fit n ds → AllFit n (items F ds)
all_fit n F [] fit = tt
all_fit n F (refused ∷ ds) fit = all_fit n F ds fit
all_fit n F (took c d ∷ ds) fit = (omega (arith, fit.0), all_fit n F ds fit.1)
all_fit n F (took_low c d ∷ ds) fit = all_fit n F ds fit
all_fit n F (drew t ∷ ds) fit = fills_fit n t.fill (items F ds) (all_fit n F ds fit)

more_fit : (n m : ℕ) (ds : List Deed) → n ≤ m → Fit n ds → Fit m ds
more_fit n m [] h fit = tt
more_fit n m (refused ∷ ds) h fit = more_fit n m ds h fit
more_fit n m (took c d ∷ ds) h fit = (omega (arith, fit.0), more_fit n m ds h fit.1)
more_fit n m (took_low c d ∷ ds) h fit = more_fit n m ds h fit
more_fit n m (drew t ∷ ds) h fit = more_fit n m ds h fit

-- ---- a link

module _ (l : Link) where
  abbrev size : ℕ
  size = l.size

  lim : (16 ≤ size) × (size ≤ 2051) × (l.stream ≤ 15) × (1 ≤ l.piece) × (l.piece ≤ 65535)
  lim = limits size l.stream l.piece l.world.low l.world.ordinary l.world.sender l.sends

  abbrev P : ℕ
  P = size - 4

  top : P ≤ 2047
  top = let most : size ≤ 2051 = lim.1 in omega arith

  size_is : size ≡ 4 + P
  size_is = let least : 16 ≤ size = lim.0 in omega arith

  abbrev lowspace : ℕ
  lowspace = length l.world.low

  abbrev space : ℕ
  space = length l.world.ordinary

  ran : Ran P l.stream l.piece lowspace space top lim.3 lim.4 l.world l.calls [] []
  ran =
      run P l.stream l.piece lowspace space top lim.3 lim.4 l.world l.calls [] []
      (start size l.stream l.piece l.world.low l.world.ordinary l.world.sender l.sends top lim.3 lim.4)

  -- a room for the longest packet that is allowed; or as long as the queue
  pub longest_is_roomy : Longest l → Roomy l
  longest_is_roomy e = more_fit 131072 (length l.listener.room) (did l) (omega arith) ran.short

  pub as_queue_is_roomy : AsQueue l → Roomy l
  as_queue_is_roomy h = more_fit space (length l.listener.room) (did l) h ran.queued

  abbrev ts : List Tp
  ts = tps (did l)

  abbrev ls : List Load
  ls = ran.flows.loads

  abbrev is : List Item
  is = items l.piece (did l)

  abbrev rs : List (List ℕ)
  rs = l.got

  abbrev room : ℕ
  room = length l.listener.room

  pend_is : bytes wire ran.pend' ≡ undrawn (left l.world l.calls)
  pend_is = left_bytes P l.stream l.piece lowspace space top lim.3 lim.4 (left l.world l.calls) ran.lows' ran.pend' ran.holds

  module _ (roomy : Roomy l) (arrived : ℕ → Bool) (told : Bool) (calls : List (List Called))
      (hears : Hears l.listener (heard_of arrived told 0 rs) calls) where
    abbrev xs : List Input
    xs = heard_of arrived told 0 rs

    found_is : map finding (all_findings xs calls) ≡ (listing_all (record { size = size; stream = l.stream; room = room }) (record { frame = lost; held = free }) xs).0
    found_is =
        ap (map finding)
        (sym (from_opening size l.stream l.listener.room l.listener.receiver l.listens
        (lives xs calls l.listener l.listens.able hears).1))
        ∙ sym (ap (λ y. y.0) (all_listed (record { size = size; stream = l.stream; room = room }) 0 (record { frame = R.lost; held = J.free }) xs))

    -- whichever TPs arrived; the test may be said in other words
    pub right : (t : ℕ → ℕ → Bool) → ((a b : ℕ) → a < b → through arrived 0 (carries ts) a b ≡ t a b) → ((a b : ℕ) → t a b ≡ true → b ≤ total (carries ts))
        → RightOf l arrived t xs calls
    right t agrees was-drawn =
        record {
          low = exactly (drawn ts) rs lows (handed_out H.low xs calls)
              (lows_at (drawn ts) (drawn_lengths ts)
              ∙ lows_sent size l.stream l.piece P room top size_is lim.2 arrived 0 ts ls ran.lows' ran.flows.tps_are
              ∙ ap (λ z. map as_offered (lows_due arrived 0 z ts)) ran.flows.low_flow)
              (lows_out xs calls ∙ ap L.lows_of found_is
              ∙ got_lows size l.stream l.piece P room top size_is lim.2 arrived told 0 (record { frame = lost; held = free }) ts ls rs ran.flows.tps_are l.damaged.tps
              ∙ sym (lows_at rs (near_lengths ts rs l.damaged.tps)));
          ordinary = exactly (drawn ts) rs ordinaries (handed_out H.ordinary xs calls)
              (ordinary_by_lem (drawn ts) (drawn_lengths ts) (undrawn (left l.world l.calls))
              ∙ ap (handed_by t 0 is) (ordinary_law size l.stream l.piece l.world l.sends l.calls ∙ sym (append-nil (flatten (all_eps is))))
              ∙ ordinary_offered_lem P l.stream l.piece top t 0 is ran.flows.items_ok (ordinary_of ts (places 0 ts)) [])
              (ordinaries_out xs calls ∙ ap (packets wire) found_is
              ∙ got_ordinary size l.stream l.piece P room top size_is lim.2 arrived told 0 (record { frame = lost; held = free }) ts ls rs ran.flows.tps_are l.damaged.tps
              ∙ ordinary_right size l.stream l.piece P room top size_is lim.2 lim.3 lim.4 arrived told ts ls rs is ran.pend' t agrees
              ran.flows.tps_are l.damaged.tps ran.flows.items_ok (all_fit room l.piece (did l) roomy) ran.flows.flow
              (subst⁻¹ (λ z. EpsNear (all_eps is) (ordinary_of ts rs ++ z)) pend_is l.damaged.eps)
              ∙ sym (ordinary_by_lem rs (near_lengths ts rs l.damaged.tps) (bytes wire ran.pend')));
        }
      where
        lows : List Due
        lows = lows_due arrived 0 (lows_taken (did l)) ts

        ordinaries : List Due
        ordinaries = ordinary_due t 0 is (ordinary_of ts (places 0 ts))

        -- with the bytes that these TPs have at their places
        lows_at : (tps : List (List ℕ)) → SameLengths ts tps → map (read (byte_at tps)) lows ≡ lows_heard arrived 0 ls tps
        lows_at tps same =
            ap (λ z. map (read (byte_at tps)) (lows_due arrived 0 z ts)) (sym ran.flows.low_flow)
            ∙ lows_got size l.stream l.piece P room top size_is lim.2 arrived [] 0 ts ls tps ran.lows' refl same ran.flows.tps_are

        ordinary_by_lem : (tps : List (List ℕ)) → SameLengths ts tps → (z : List ℕ) → map (read (byte_at tps)) ordinaries ≡ handed_by t 0 is (ordinary_of ts tps ++ z)
        ordinary_by_lem tps same z =
            ordinary_read t (total (carries ts)) was-drawn (byte_at tps) 0 is (ordinary_of ts (places 0 ts)) z (omega (arith, carries_total 0 ts))
            ∙ ap (λ bs. handed_by t 0 is (bs ++ z)) (ordinary_at [] 0 ts tps refl same)

-- ---- demand 3: the TPs before the k-th are missing, and nobody tells

all_heard : (k n : ℕ) (told : Bool) (rs : List (List ℕ)) → k ≤ n → heard_of (leb k) told n rs ≡ tps_in rs
all_heard k n told [] h = refl
all_heard k n told (r ∷ rs) h =
    ap (λ b. cond b (tp_in r ∷ heard_of (leb k) false (suc n) rs) (cond told (heard_of (leb k) true (suc n) rs) (gap_told ∷ heard_of (leb k) true (suc n) rs))) (le-leb k n h)
    ∙ ap (λ l. tp_in r ∷ l) (all_heard k (suc n) false rs (omega arith))

heard_from_lem : (k n j : ℕ) (rs : List (List ℕ)) → k ≡ n + j → heard_of (leb k) true n rs ≡ tps_in (drop j rs)
heard_from_lem k n zero rs e = all_heard k n true rs (omega arith)
heard_from_lem k n (suc j) [] e = refl
heard_from_lem k n (suc j) (r ∷ rs) e =
    ap (λ b. cond b (tp_in r ∷ heard_of (leb k) false (suc n) rs) (heard_of (leb k) true (suc n) rs)) (lt-leb k n (omega arith))
    ∙ heard_from_lem k (suc n) j rs (omega arith)

both_true : (a b : Bool) → a && b ≡ true → b ≡ true
both_true true b e = e
both_true false b e = absurd (let z : ◌≡◌ {A = ℕ} 0 1 = cc in omega arith)

pub demand3 : Demand3
demand3 l roomy k calls hears =
    let e : heard_of (leb k) true 0 l.got ≡ tps_in (drop k l.got) = heard_from_lem k 0 k l.got (omega arith) in
    let ms : List ℕ = carries (tps (did l)) in
    subst (λ (xs : List Input). RightOf l (leb k) (whole_from k (tps (did l))) xs calls) e
    (right l roomy (leb k) true calls (subst⁻¹ (λ (xs : List Input). Hears l.listener xs calls) e hears) (whole_from k (tps (did l)))
    (λ a b h. from_k k 0 k ms a b (omega arith) h)
    (λ a b h. leb-true b (total ms) (both_true (leb (total (take k ms)) a) (leb b (total ms)) h)))

-- ---- beside it

pub demand3_longest : FromAny Longest RightOf
demand3_longest l e = demand3 l (longest_is_roomy l e)

pub demand3_as_queue : FromAny AsQueue RightOf
demand3_as_queue l h = demand3 l (as_queue_is_roomy l h)

pub themselves : (l : Link) → l.got ≡ drawn (tps (did l)) → (heard : ℕ → Bool) (whole : ℕ → ℕ → Bool) (xs : List Input) (calls : List (List Called))
    → RightOf l heard whole xs calls → Themselves l heard whole xs calls
themselves l same heard whole xs calls r =
    let s : List (List ℕ) = drawn (tps (did l)) in (
      unchanged s (lows_of (did l) heard) (handed_out H.low xs calls) (subst (λ g. Exactly s g (lows_of (did l) heard) (handed_out H.low xs calls)) same r.low),
      unchanged s (ordinaries_of l.piece (did l) whole) (handed_out H.ordinary xs calls)
          (subst (λ g. Exactly s g (ordinaries_of l.piece (did l) whole) (handed_out H.ordinary xs calls)) same r.ordinary),
    )

pub demand3_unchanged : FromAny Unchanged Themselves
demand3_unchanged l (roomy, same) k calls hears =
    themselves l same (leb k) (whole_from k (tps (did l))) (tps_in (drop k l.got)) calls (demand3 l roomy k calls hears)
