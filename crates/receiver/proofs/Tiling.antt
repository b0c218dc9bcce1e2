-- THE PIECES TILE THE PAYLOAD: each begins where reading stood and ends where it then stands; the last ends with the T
-- Assumes nothing.
use mathlib.Core.Path.{refl, ◌≡◌}
use mathlib.Core.Bool.{Bool, cond, false, true}
use mathlib.Core.List.{List}
use Prim.Native.Nat.{ℕ, ◌+◌, ◌-◌, ◌≤◌}
use native.Mathlib.Omega.{arith}
use lib.Dec.{eqb, leb, ltb}
use lib.ListN.{drop, length, take}
use borrow.Author.Tests.{eqb-true}
use Rattle.std.specs.Prelude.{Some, Err, Ok, Result, None, Option}
use Rattle.digits.specs.Digits.{number}
use Rattle.wire.specs.Reading.{header_in}
use Rattle.wire.specs.declared.Header.{Header}
use Rattle.receiver.specs.declared.Receiver.{Receiver}
use Rattle.receiver.specs.declared.Stage.{Stage}
use Rattle.receiver.specs.declared.Stage.TheVariants.{Due, Fresh, Low, Plain}
use Rattle.receiver.specs.declared.entry.Top.{Top}
use Rattle.receiver.specs.declared.entry.Top.TheVariants.{Dropped, Elsewhere, Says}
use Rattle.receiver.specs.declared.kind.Kind.{Kind}
use Rattle.receiver.specs.declared.kind.Kind.TheVariants.{Complete, Fill, First, Last, Middle, Reserved}
use Rattle.receiver.specs.declared.walk.Gain.{Gain}
use Rattle.receiver.specs.declared.walk.Gain.TheVariants.{Nothing, Notice, Packet}
use Rattle.receiver.specs.declared.walk.Kept.{Kept}
use Rattle.receiver.specs.declared.walk.Phase.{Phase}
use Rattle.receiver.specs.declared.walk.Phase.TheVariants.{Body, Head, Judged, Lost}
use Rattle.receiver.specs.declared.walk.Turn.{Turn}
use Rattle.receiver.specs.declared.walk.Turn.TheVariants.{More, Stop}
use Rattle.receiver.specs.declared.walk.Walk.{Walk}
use Rattle.receiver.specs.Kind.{kind_of}
use Rattle.receiver.specs.Low.{begin_of, ep_at, join_of, llep, Tag, tag_of}
use Rattle.receiver.specs.declared.Place.{Place}
use Rattle.receiver.specs.declared.Stamp.{Stamp}
use Rattle.receiver.specs.Turns.{admit_of, advance_by, advance_of, begun_at, body_turn, finish_of, fits_of, further_of, goes, grown_by, handed_of, header_turn, kept_as, meets_of, opened_of, stops, whole_of}
use Rattle.receiver.specs.Outset.{place_of, set_out_of}
use Rattle.receiver.specs.Pieces.{due_turn, llep_turn, out_turn, ordinary_turn, read_of, same_turn, stage_turn, stamp_of, top_turn, turn_of, tell_of, top_of}
use Rattle.receiver.specs.Turn.{Tiles, refused, on_to, ends, stands_by}
use Rattle.receiver.specs.State.{Able}

-- none is told only at the TP's end

abbrev NoneAt : ℕ → Gain → ℕ → Type 0
NoneAt len Nothing i = i ≡ len
NoneAt len (Notice n) i = 0 ≤ 0
NoneAt len (Packet c sum g n) i = 0 ≤ 0

abbrev Late : ℕ → Turn → Type 0
Late len (More x) = 0 ≤ 0
Late len (Stop a) = NoneAt len a.gain a.walk.at

module _ (len : ℕ) where
  fits_late : (at : ℕ) (h : Header) (b : Place) (c : Tag) (n cap : ℕ) → Late len (fits_of at h b c n cap)
  unfolding fits_of
  fits_late at h b c n cap = by (leb h.size (cap - n))
    where
      by : (x : Bool) → Late len (cond x (goes at (Body h h.size) b (kept_as c n)) (stops at (Body h h.size) b None (Notice 15)))
      by true = omega arith
      by false = omega arith

  further_late : (at : ℕ) (h : Header) (b : Place) (k : Option Kept) (cap : ℕ) → Late len (further_of at h b k cap)
  further_late at h b None cap = omega arith
  further_late at h b (Some k) cap = fits_late at h b (join_of (tag_of k.content k.repaired k.began) (ep_at b h)) k.len cap

  admit_late : (d : Kind) (at : ℕ) (h : Header) (b : Place) (k : Option Kept) (cap : ℕ) → Late len (admit_of d at h b k cap)
  admit_late Fill at h b k cap = omega arith
  admit_late Reserved at h b k cap = omega arith
  admit_late Complete at h b k cap = fits_late at h b (begin_of (ep_at b h)) 0 cap
  admit_late First at h b k cap = fits_late at h b (begin_of (ep_at b h)) 0 cap
  admit_late Middle at h b k cap = further_late at h b k cap
  admit_late Last at h b k cap = further_late at h b k cap

  whole_late : (at : ℕ) (o : Option Header) (b : Place) (k : Option Kept) (cap : ℕ) → Late len (whole_of at o b k cap)
  unfolding opened_of
  whole_late at None b k cap = omega arith
  whole_late at (Some h) b k cap = by (meets_of (kind_of h) k h.content)
    where
      by : (x : Bool) → Late len (cond x (admit_of (kind_of h) at h b k cap) (stops at (Judged h) b None (Notice 14)))
      by true = admit_late (kind_of h) at h b k cap
      by false = omega arith

  handed_late : (at : ℕ) (b : Place) (k : Option Kept) → Late len (handed_of at b k)
  handed_late at b None = omega arith
  handed_late at b (Some k) = omega arith

  finish_late : (d : Kind) (at : ℕ) (b : Place) (k : Option Kept) → Late len (finish_of d at b k)
  finish_late Fill at b k = omega arith
  finish_late Reserved at b k = omega arith
  finish_late Complete at b k = handed_late at b k
  finish_late First at b k = omega arith
  finish_late Middle at b k = omega arith
  finish_late Last at b k = handed_late at b k

module _ (t : Stamp) (tp : List ℕ) (at : ℕ) (g : Place) (k : Option Kept) (cap : ℕ) (l : at ≤ length tp) where
  late_by : (p : Phase) → Late (length tp) (advance_by p t at g k cap tp)
  unfolding header_turn body_turn
  late_by Lost = refl
  late_by (Head n w) = by (ltb (length tp - at) (6 - n))
    where
      o : Option Header
      o = header_in (number w (take (6 - n) (drop at tp)))

      by : (x : Bool)
          → Late (length tp) (cond x (stops (at + (length tp - at)) (Head (n + (length tp - at)) (number w (take (length tp - at) (drop at tp)))) (begun_at t at n g) k Nothing) (whole_of (at + (6 - n)) o (begun_at t at n g) k cap))
      by true = omega arith
      by false = whole_late (length tp) (at + (6 - n)) o (begun_at t at n g) k cap
  late_by (Judged h) = admit_late (length tp) (kind_of h) at h g k cap
  late_by (Body h left) = by (ltb (length tp - at) left)
    where
      by : (x : Bool)
          → Late (length tp) (cond x (stops (at + (length tp - at)) (Body h (left - (length tp - at))) g (grown_by (length tp - at) k) Nothing) (finish_of (kind_of h) (at + left) g (grown_by left k)))
      by true = omega arith
      by false = finish_late (length tp) (kind_of h) (at + left) g (grown_by left k)

advance_late : (cap : ℕ) (t : Stamp) (w : Walk) (tp : List ℕ) → w.at ≤ length tp → Late (length tp) (advance_of cap t w tp)
unfolding advance_of
advance_late cap t w tp l = late_by t tp w.at w.began w.kept cap l w.phase

not_low : (o : ℕ) → Low o ≡ Fresh → ⊥
not_low o e = let z : ◌≡◌ {A = ℕ} 0 1 = cc in omega arith

not_due : (o : ℕ) → Due o ≡ Fresh → ⊥
not_due o e = let z : ◌≡◌ {A = ℕ} 0 1 = cc in omega arith

not_plain : Plain ≡ Fresh → ⊥
not_plain e = let z : ◌≡◌ {A = ℕ} 0 1 = cc in omega arith

module _ (r : Receiver) (len : ℕ) where
  top_tiles : (t : Top) → Tiles (stands_by Fresh r.walk) len r (top_turn t r len)
  top_tiles Elsewhere = refused refl refl
  top_tiles (Dropped n) = ends refl refl refl
  top_tiles (Says true o) = on_to refl (not_low o) refl
  top_tiles (Says false o) = on_to refl (not_due o) refl

  llep_tiles : (o : ℕ) (l : Option (Header × Bool)) → Tiles (stands_by (Low o) r.walk) len r (llep_turn l r o len)
  llep_tiles o None = on_to refl not_plain refl
  llep_tiles o (Some (h, true)) = on_to refl (not_low o) refl
  llep_tiles o (Some (h, false)) = on_to refl (not_due o) refl

  out_tiles : (s : Result Walk ℕ) (n : ℕ) → Tiles r.walk.at len r (out_turn s r n len)
  out_tiles (Ok x) n = on_to refl not_plain refl
  out_tiles (Err i) n = on_to refl not_plain refl

  plain_tiles : (t : Turn) → Late len t → Tiles r.walk.at len r (ordinary_turn t r)
  plain_tiles (More x) l = on_to refl not_plain refl
  plain_tiles (Stop a) l = by a.gain l
    where
      by : (g : Gain) → NoneAt len g a.walk.at
          → Tiles r.walk.at len r (record { receiver = (tell_of g r (stamp_of r) a.walk).receiver; piece = read_of r.walk a.walk; told = Some (tell_of g r (stamp_of r) a.walk).find; about = (tell_of g r (stamp_of r) a.walk).about })
      by Nothing l = ends refl refl l
      by (Notice n) l = on_to refl not_plain refl
      by (Packet c sum b n) l = on_to refl not_plain refl

due_tiles : (r : Receiver) (tp : List ℕ) (p : Result ℕ ℕ) → Tiles r.walk.at (length tp) r (due_turn p r tp)
due_tiles r tp (Err n) = on_to refl not_plain refl
due_tiles r tp (Ok n) = out_tiles r (length tp) (set_out_of r.walk n tp) n

stage_tiles : (r : Receiver) (tp : List ℕ) (g : Stage) → r.walk.at ≤ length tp → Tiles (stands_by g r.walk) (length tp) r (stage_turn g r tp)
stage_tiles r tp Fresh l = top_tiles r (length tp) (top_of r.stream tp)
stage_tiles r tp (Low o) l = llep_tiles r (length tp) o (llep (drop r.walk.at tp))
stage_tiles r tp (Due o) l = due_tiles r tp (place_of o r.walk.at (length tp))
stage_tiles r tp Plain l = plain_tiles r (length tp) (advance_of r.limit (stamp_of r) r.walk tp) (advance_late r.limit (stamp_of r) r.walk tp l)

-- THE PIECES TILE THE PAYLOAD
pub turn_tiles : (r : Receiver) (tp : List ℕ) → Able r → Tiles (stands_by r.stage r.walk) (length tp) r (turn_of r tp)
unfolding turn_of
turn_tiles r tp a = by (eqb (length tp) r.size) refl
  where
    by : (x : Bool) → eqb (length tp) r.size ≡ x → Tiles (stands_by r.stage r.walk) (length tp) r (cond x (stage_turn r.stage r tp) (same_turn r 6))
    by true e = let w = eqb-true (length tp) r.size e in let b = a.walk.at in stage_tiles r tp r.stage (omega arith)
    by false e = refused refl refl
