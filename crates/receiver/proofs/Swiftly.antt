-- A call on words does what the call by value does: it reads on where that would, and what it meets there ends the call. Assumes
-- nothing.
use mathlib.Core.Path.{◌≡◌, refl, sym, subst, ap, ◌∙◌}
use mathlib.Core.Bool.{Bool, true, false, cond}
use mathlib.Core.List.{List}
use Prim.Native.Nat.{ℕ, ◌+◌, ◌-◌, ◌≤◌, ◌<◌, min}
use native.Mathlib.Omega.{arith}
use lib.ListN.{drop, length, length-drop, take}
use Rattle.std.specs.Prelude.{Err, IfSome, Ok, Option, Result, Some, None}
use Rattle.std.specs.Result.{result_ok}
use Rattle.queue.specs.Ring.{copied}
use Rattle.wire.specs.declared.Header.{Header}
use Rattle.receiver.specs.declared.Find.TheVariants as G
use Rattle.receiver.specs.declared.Place.{Place}
use Rattle.receiver.specs.declared.Receiver.{Receiver}
use Rattle.receiver.specs.declared.Stage.{Stage}
use Rattle.receiver.specs.declared.Stage.TheVariants.{Fresh, Plain}
use Rattle.receiver.specs.declared.Stamp.{Stamp}
use Rattle.receiver.specs.declared.entry.Top.TheVariants.{Says}
use Rattle.receiver.specs.declared.kind.Kind.{Kind}
use Rattle.receiver.specs.declared.kind.Kind.TheVariants.{Complete, Fill, First, Last, Middle, Reserved}
use Rattle.receiver.specs.declared.outset.Fore.TheVariants.{At}
use Rattle.receiver.specs.declared.stages.Course.TheVariants as C
use Rattle.receiver.specs.declared.entry.Begun.TheVariants as B
use Rattle.receiver.specs.declared.walk.Answer.{Answer}
use Rattle.receiver.specs.declared.walk.Gain.TheVariants.{Nothing, Packet}
use Rattle.receiver.specs.declared.walk.Phase.{Phase}
use Rattle.receiver.specs.declared.walk.Phase.TheVariants.{Body, Head}
use Rattle.receiver.specs.declared.walk.Walk.{Walk}
use Rattle.receiver.specs.Call.{Gives, call_of, count_in, counted_of, stage_call, stamps_of, walk_to}
use Rattle.receiver.specs.InStages.{Leads}
use Rattle.receiver.specs.InSwift as I
use Rattle.receiver.specs.InSwift.{Busy, Done, Lent, between_at, hands_by, hands_of, made_of}
use Rattle.receiver.specs.InWalk.{Carries, Ends, room_of}
use Rattle.receiver.specs.Kind.{kind_of}
use Rattle.receiver.specs.Outset.{fore_of, place_of, set_out_of}
use Rattle.receiver.specs.Pieces.{none_of, tell_of, top_of}
use Rattle.receiver.specs.Place.{own_of, start_of}
use Rattle.receiver.specs.State.{Sound, kept_by}
use Rattle.receiver.specs.Turns.{advance_of, body_turn, finish_of, grown_by, stops, walk_at}
use Rattle.receiver.specs.Words.{Bytes, head_words, words_of}
use Rattle.receiver.proofs.Advancing.{body_cut, body_read}
use Rattle.receiver.proofs.Answering.{call_reads}
use Rattle.receiver.proofs.Bodies.{advance_carries}
use Rattle.receiver.proofs.Foretelling.{body_fore}
use Rattle.receiver.proofs.Gather.{put_is}
use Rattle.receiver.proofs.Heading as H
use Rattle.receiver.proofs.Parting.{behind_in, due_behind, set_reads}
use Rattle.receiver.proofs.SettingOut.{set_agree}
use Rattle.receiver.proofs.TakingUp.{counted_lent, first_begins, first_lent, part_leads, top_begins}

no : false ≡ true → ⊥
no e = subst (λ (t : Bool). cond t ⊥ ℕ) e 0

-- ---- in data that are kept

pub behind_of_lem : (x : Option ℕ) (stream : ℕ) (tp : List ℕ) (n : ℕ) → IfSome x (I.Behind stream tp) → x ≡ Some n → I.Behind stream tp n
behind_of_lem x stream tp n b e = subst (λ (z : Option ℕ). IfSome z (I.Behind stream tp)) e b

pub begins_by : (stream offset : ℕ) (tp : List ℕ) (p : Result ℕ ℕ) → top_of stream tp ≡ Says false offset → place_of offset 4 (length tp) ≡ p
    → IfSome (result_ok p) (I.Behind stream tp)
begins_by stream offset tp (Ok n) e q = record { offset = offset; top = e; place = q }
begins_by stream offset tp (Err n) e q = tt

module _ (r : Receiver) (tp : List ℕ) (l : Lent r tp) where
  abbrev c : Receiver
  c = counted_of r

  abbrev t : Stamp
  t = (stamps_of r).now

  -- what the forecast decides, in a TP without low-latency part
  pub fresh_by_lem : (n o : ℕ) (x : Walk) → r.stage ≡ Fresh → top_of r.stream tp ≡ Says false o → place_of o 4 (length tp) ≡ Ok n → Ok x ≡ set_out_of (walk_to c 4) n tp
      → Leads (stage_call r.stage r c (stamps_of r) tp) c t tp (C.Reads x)
  fresh_by_lem n o x e top place s =
      let size = l.able.size in
      let whole = l.whole in
      let lent = first_lent r (stamps_of r) tp l.able whole e in
      let more = counted_lent r 4 tp lent in
      let begins = first_begins r (stamps_of r) tp (B.Part false o 4) e (top_begins r (stamps_of r) tp (Says false o) top l.able lent) in
      let within = behind_in o 4 (length tp) n (omega arith) place in
      part_leads (stage_call r.stage r c (stamps_of r) tp) c t tp (B.Part false o 4) begins false o 4 (C.Reads x) refl
      (due_behind c t o 4 tp more (C.Reads x) n place (set_reads c t 4 n tp (Ok x) more x within s refl))

  pub fresh_leads : (n : ℕ) → r.stage ≡ Fresh → I.Behind r.stream tp n → fore_of r.walk.phase (drop 4 tp) ≡ At n
      → Leads (stage_call r.stage r c (stamps_of r) tp) c t tp (C.Reads (walk_to c 4))
  fresh_leads n e b f = fresh_by_lem n b.offset (walk_to c 4) e b.top b.place (set_agree (walk_to c 4) n tp n f refl)

  -- ---- what ends the call

  module _ (m₀ m w : List ℕ) (full : length m₀ ≡ r.limit) (same : length m ≡ length m₀) where
    pub reads_gives : (x : Walk) (a : Answer) → Leads (stage_call r.stage r c (stamps_of r) tp) c t tp (C.Reads x) → Ends (length m₀) t x tp m₀ a m
        → Gives (call_of r tp m₀) (tell_of a.gain c t a.walk) tp m
    unfolding call_of
    reads_gives x a g e = call_reads r (stamps_of r) tp m m₀ (C.Reads x) x a l.able.size full l.whole g refl e same

    pub kept_in_lem : (h : Header) (left cc e : ℕ) (g : Place) (len : ℕ) → Busy r h left cc e g len → len + left ≤ length m₀
    kept_in_lem h left cc e g len b = let f = rw (b.phase, b.kept) at l.able.walk.phase in omega (arith, f, full)

    module _ (h : Header) (left cc e : ℕ) (g : Place) (len n count : ℕ) (b : Busy r h left cc e g len) (bytes : H.Bytes tp) (d : I.Behind r.stream tp n) (least : min left (length tp - 4) ≡ n)
        (k : count ≡ count_in Fresh r.count) (put : m ≡ copied m₀ len (take (4 + n - 4) (drop 4 tp))) where
      abbrev x : Walk
      x = walk_at 4 (Body h left) r.walk.began (kept_by cc e g len)

      there : walk_to c 4 ≡ x
      there = ap (λ (p : Phase). walk_at 4 p r.walk.began r.walk.kept) b.phase ∙ ap (walk_at 4 (Body h left) r.walk.began) b.kept

      counted : count ≡ c.count
      counted = k ∙ ap (λ (s : Stage). count_in s r.count) (sym b.stage)

      pub leads : Leads (stage_call r.stage r c (stamps_of r) tp) c t tp (C.Reads x)
      leads =
          let f = body_fore h left (length tp - 4) (drop 4 tp) (length-drop 4 tp) in
          let q : fore_of r.walk.phase (drop 4 tp) ≡ At n = ap (λ (p : Phase). fore_of p (drop 4 tp)) b.phase ∙ sym f ∙ ap At least in
          subst (λ (w : Walk). Leads (stage_call r.stage r c (stamps_of r) tp) c t tp (C.Reads w)) there (fresh_leads n b.stage d q)

      sound : Sound (length m₀) (length tp) x
      sound =
          let size = l.able.size in
          let whole = l.whole in
          let f = rw (b.phase, b.kept) at l.able.walk.phase in
          record { at = omega arith; phase = rw full f }

      pub kept_fits : len + n ≤ length m₀
      kept_fits = let f = sound.phase in omega (arith, f, least)

      pub carries : Carries (length m₀) t x tp m₀ (body_turn tp 4 h left r.walk.began (kept_by cc e g len)) m
      unfolding advance_of room_of
      carries =
          let size = l.able.size in
          let whole = l.whole in
          let p = put_is tp 4 n cc e g len (kept_by cc e g len) m₀ m refl (omega (arith, least)) kept_fits put in
          rw (p, sym least) (advance_carries (length m₀) t tp m₀ refl bytes x sound)

      pub kept_cut : length tp - 4 < left → (v : Walk) → v ≡ walk_at 0 (Body h (left - (length tp - 4))) r.walk.began (kept_by cc e g (len + (length tp - 4)))
          → (w ≡ words_of (made_of r count Fresh v)) × Bytes (made_of r count Fresh v) → Done r tp m₀ G.Nothing (none_of (start_of (own_of count))) w m
      unfolding Carries
      kept_cut f v q s =
          let a : Answer = record { walk = walk_at (4 + (length tp - 4)) (Body h (left - (length tp - 4))) r.walk.began (kept_by cc e g (len + (length tp - 4))); gain = Nothing } in
          let u : Ends (length m₀) t x tp m₀ a m = rw (sym (body_cut tp 4 left h r.walk.began (kept_by cc e g len) f)) at carries in
          let p = rw (q, counted) at s in
          rw counted (record {
            step = tell_of Nothing c t a.walk;
            gives = reads_gives x a leads u;
            bytes = p.1;
            state = p.0;
            find = refl;
            about = refl;
          })

      pub kept_whole : left ≤ length tp - 4 → hands_of h ≡ true → w ≡ words_of (made_of r count Plain (between_at (4 + n)))
          → Done r tp m₀ (G.Ordinary cc (len + left)) (record { repaired = e; at = g }) w m
      unfolding Carries words_of head_words
      kept_whole f u s =
          let a : Answer = record { walk = walk_at (4 + left) (Head 0 0) r.walk.began None; gain = Packet cc e g (len + left) } in
          let v : Ends (length m₀) t x tp m₀ a m = rw (sym (body_read tp 4 left h r.walk.began (kept_by cc e g len) f) ∙ handed (kind_of h) u) at carries in
          let z : n ≡ left = omega (arith, least) in
          record {
            step = tell_of (Packet cc e g (len + left)) c t a.walk;
            gives = reads_gives x a leads v;
            bytes = record { phase = omega arith; kept = omega arith };
            state = rw (counted, z) at s;
            find = refl;
            about = refl;
          }
        where
          handed : (y : Kind) → hands_by y ≡ true → finish_of y (4 + left) r.walk.began (grown_by left (kept_by cc e g len)) ≡ stops (4 + left) (Head 0 0) r.walk.began None (Packet cc e g (len + left))
          handed Fill q = absurd (no q)
          handed Reserved q = absurd (no q)
          handed Complete q = refl
          handed First q = absurd (no q)
          handed Middle q = absurd (no q)
          handed Last q = refl
