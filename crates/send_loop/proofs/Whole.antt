-- WHAT IS HELD IS THE RECORDING of the records taken, from block to block. Assumes nothing.
use Prim.Native.Nat.{ℕ}
use mathlib.Core.Path.{◌≡◌, refl, ap, sym, subst, ◌∙◌}
use mathlib.Core.List.{List, ◌++◌, append_assoc}
use lib.ListN.{take}
use Rattle.house.specs.Records.{record_bytes}
use Rattle.house.specs.declared.Record.TheVariants.{Setup}
use Rattle.house.proofs.Taking.{taken_then, taken_more}
use Rattle.sender.specs.Run.{World}
use Rattle.sending.specs.Scripts.{sent_by, left_by}
use Rattle.sending.proofs.Scripted.{sent_append, left_append}
use Rattle.send_loop.specs.Running.{world_of, Sent}
use Rattle.send_loop.specs.Whole.{Goes, first, next, Comes, begins, goes, Went, Held}
use Rattle.send_loop.specs.declared.Buffers.{Buffers}
use Rattle.send_loop.specs.declared.Sending.{Sending}

pub whole_recording : {tp : ℕ} {setup : List ℕ} {w : World} {input unread held : List ℕ} {v : World} → Goes tp setup w input unread held v
    → Held tp setup w input unread held v
whole_recording {tp} {setup} (first {a = a} {d = d} l e h s) =
    record {
      records = s.records;
      taken = s.taken;
      recorded =
          s.held
          ∙ ap (λ (n : ℕ). take a.at d.out ++ sent_by n (world_of a d) s.records) l
          ∙ ap (λ (z : List ℕ). z ++ sent_by tp (world_of a d) s.records) h
          ∙ ap (λ (x : World). record_bytes Setup setup ++ sent_by tp x s.records) e;
      left = s.world ∙ ap (λ (n : ℕ). left_by n (world_of a d) s.records) l ∙ ap (λ (x : World). left_by tp x s.records) e;
    }
whole_recording {tp} {setup} {w} (next {held = held} {a = a} {d = d} g more l z s) =
    let t = whole_recording g in
    let xs = t.records in
    let ys = s.records in
    let u : World = world_of a d in
    record {
      records = xs ++ ys;
      taken = taken_then (taken_more t.taken more) s.taken;
      recorded =
          ap (λ (x : List ℕ). held ++ x) (s.held ∙ ap (λ (n : ℕ). take n d.out ++ sent_by a.tp u ys) z ∙ ap (λ (n : ℕ). sent_by n u ys) l)
          ∙ ap (λ (x : List ℕ). x ++ sent_by tp u ys) t.recorded
          ∙ append_assoc (record_bytes Setup setup) (sent_by tp w xs) (sent_by tp u ys)
          ∙ ap (λ (x : World). record_bytes Setup setup ++ (sent_by tp w xs ++ sent_by tp x ys)) t.left
          ∙ ap (λ (x : List ℕ). record_bytes Setup setup ++ x) (sym (sent_append tp w xs ys));
      left = s.world ∙ ap (λ (n : ℕ). left_by n u ys) l ∙ ap (λ (x : World). left_by tp x ys) t.left ∙ sym (left_append tp w xs ys);
    }

-- ---- a round

pub went : {a p : Sending} {d b : Buffers} {s t : List ℕ} → Comes a d s → Sent a d s p b t → Went p b t
went {a} {p} {d} (begins setup h) sent =
    record { setup = setup; world = world_of a d; input = _; held = _; goes_so = first (sym sent.tp) refl h sent }
went {a} {p} {d} {b} {t = t} (goes {setup = setup} {input = input} {unread = unread} {held = held} {w = w} g more e z) sent =
    record {
      setup = setup;
      world = w;
      input = _;
      held = _;
      goes_so = next (subst (λ (n : ℕ). Goes n setup w input unread held (world_of a d)) (sym sent.tp) g) more (sym sent.tp) z (subst (λ (x : List ℕ). Sent a d x p b t) e sent);
    }

-- emptied, the program goes on with what was read behind
pub comes : (p q : Sending) (b d : Buffers) (rest more : List ℕ) → Went p b rest → q.tp ≡ p.tp → world_of q d ≡ world_of p b → q.at ≡ 0
    → Comes q d (rest ++ more)
comes p q b d rest more g tp w z =
    goes (subst (λ (n : ℕ). Goes n g.setup g.world g.input rest g.held (world_of q d)) (sym tp) (subst (Goes p.tp g.setup g.world g.input rest g.held) (sym w) g.goes_so)) more refl z
