-- A turn does what its record asks for: what the block then holds is what the definition of a script writes, and the sender and its
-- queues are those that it leaves. A draw goes by its buffer's length alone. Assumes nothing.
use Prim.Native.Nat.{ℕ, ◌+◌, ◌-◌, ◌≤◌}
use mathlib.Core.Path.{◌≡◌, refl, ap, sym, ◌∙◌}
use mathlib.Core.Bool.{Bool, true, false, cond, not}
use mathlib.Core.List.{List, [], ◌∷◌, ◌++◌, append_assoc, append-nil}
use native.Mathlib.Omega.{arith}
use borrow.Author.Tests.{le-leb, eqb-true}
use lib.Dec.{eqb}
use lib.ListN.{length, take, drop, replicate, length-append, length-drop, length-replicate}
use lib.Seq.{length-take-le, take-append-le, take-take}
use Rattle.block.specs.Block.{Block, placed, put}
use Rattle.block.proofs.Laws.{fits, held_placed, block_of}
use Rattle.house.specs.Records.{record_bytes}
use Rattle.house.specs.Series.{Item}
use Rattle.house.specs.declared.Record.{Record}
use Rattle.house.specs.declared.Record.TheVariants.{Setup, Ordinary, Low, Draw, Packet, Gap}
use Rattle.queue.specs.Ring.{held}
use Rattle.sender.specs.Answers.{Given, done, refusal, Left, refused, lent}
use Rattle.sender.specs.Offering.{ordinary_offered, low_offered}
use Rattle.sender.specs.Drawing.{overwritten, draw_of, draw_by, took}
use Rattle.sender.specs.Drawing as D
use Rattle.sender.specs.Run.{World, Deed, kept, unless, leaving, filling}
use Rattle.sender.specs.Run as N
use Rattle.sender.specs.declared.Sender.{Sender}
use Rattle.sender.proofs.Lengths.{tp_length}
use Rattle.sending.specs.Turn.{wrote, drawn_by, drawn_of, turn_of}
use Rattle.sending.specs.Scripts.{asked, record_of, writes, leaves, sent_by, left_by}

-- ---- what a block holds

held_put : (d : List ℕ) (n : ℕ) (s : List ℕ) → n + length s ≤ length d → take (put d n s).at (put d n s).bytes ≡ take n d ++ s
held_put d n s h = ap (λ (b : Block). take b.at b.bytes) (fits d n s h) ∙ held_placed d n s h

-- what is written behind it is not held
held_before : (d b : List ℕ) (at : ℕ) → at + 8 ≤ length d → take at (placed d (at + 8) b) ≡ take at d
held_before d b at h =
    ap (take at) (append_assoc (take (at + 8) d) b (drop (at + 8 + length b) d))
    ∙ take-append-le at (take (at + 8) d) (b ++ drop (at + 8 + length b) d) (omega (arith, length-take-le (at + 8) d h))
    ∙ take-take at (at + 8) d (omega arith)

-- ---- a draw

module _ (s : Sender) (low ordinary d : List ℕ) (at tp : ℕ) (room : at + 8 + tp ≤ length d) where
  abbrev w : World
  w = record { sender = s; low = low; ordinary = ordinary }

  -- the deed of what a draw gave
  abbrev deed_by : Left → Deed
  deed_by l = unless l.given (N.drew (record { bytes = l.buffer; lleps = leaving w; fill = filling w }))

  -- a draw lent b does as one lent z
  abbrev Alike : Left → Left → Type 0
  Alike l m =
      (kept s l.given ≡ kept s m.given)
      × (take (wrote l.given l.buffer tp d at).at (wrote l.given l.buffer tp d at).bytes ≡ take at d ++ record_of tp (deed_by m))

  refused_alike : (n : ℕ) (b z : List ℕ) → Alike (refused n b) (refused n z)
  refused_alike n b z = (refl, held_before d b at (omega arith) ∙ sym (append-nil (take at d)))

  drawn_length : length (draw_by s low ordinary).tp ≡ s.setting.payload + 4
  unfolding draw_by
  drawn_length = tp_length s.setting.payload s.setting.stream (held low s.low) (held ordinary s.ordinary) s.owed s.rest

  took_alike : tp ≡ s.setting.payload + 4 → Alike (took s (draw_by s low ordinary)) (took s (draw_by s low ordinary))
  took_alike e =
      let x = (draw_by s low ordinary).tp in
      (refl, held_put d at (record_bytes (Packet tp) x) (omega (arith, drawn_length, length-append (record_bytes (Packet tp) []) x)))

  alike : (b z : List ℕ) → length b ≡ tp → length z ≡ tp → Alike (D.drew s low ordinary b) (D.drew s low ordinary z)
  unfolding D.drew
  alike b z eb ez =
      rw (eb, ez)
      (go (not (lent s.setting (length low) (length ordinary))) (overwritten s.setting.payload (held low s.low)) (eqb tp (s.setting.payload + 4)) refl)
    where
      go : (t₁ t₂ t₃ : Bool) → eqb tp (s.setting.payload + 4) ≡ t₃
          → Alike (cond t₁ (refused 1 b) (cond t₂ (refused 1 b) (cond (not t₃) (refused 5 b) (took s (draw_by s low ordinary)))))
          (cond t₁ (refused 1 z) (cond t₂ (refused 1 z) (cond (not t₃) (refused 5 z) (took s (draw_by s low ordinary)))))
      go true t₂ t₃ e = refused_alike 1 b z
      go false true t₃ e = refused_alike 1 b z
      go false false false e = refused_alike 5 b z
      go false false true e = took_alike (eqb-true tp (s.setting.payload + 4) e)

  lent_length : length (take tp (drop (at + 8) d)) ≡ tp
  lent_length = length-take-le tp (drop (at + 8) d) (rw length-drop (omega arith))

  abbrev Draws : Left → Type 0
  Draws m =
      ((drawn_of s low ordinary tp d at).sender ≡ kept s m.given)
      × (take (drawn_of s low ordinary tp d at).block.at (drawn_of s low ordinary tp d at).block.bytes ≡ take at d ++ record_of tp (deed_by m))

  draws : Draws (D.drew s low ordinary (replicate tp 0))
  unfolding drawn_of
  draws = rw (le-leb (at + 8 + tp) (length d) room) (alike (take tp (drop (at + 8) d)) (replicate tp 0) lent_length (length-replicate {A = ℕ} tp 0))

-- ---- an offer writes nothing

offered : (tp c : ℕ) (x : List ℕ) (g : Given) → record_of tp (unless g (N.took c x)) ≡ []
offered tp c x (done s) = refl
offered tp c x (refusal n) = refl

offered_low : (tp c : ℕ) (x : List ℕ) (g : Given) → record_of tp (unless g (N.took_low c x)) ≡ []
offered_low tp c x (done s) = refl
offered_low tp c x (refusal n) = refl

-- ---- the turn

module _ (s : Sender) (x low ordinary : List ℕ) (tp : ℕ) (d : List ℕ) (at : ℕ) (room : at + 8 + tp ≤ length d) where
  abbrev world : World
  world = record { sender = s; low = low; ordinary = ordinary }

  pub turned_world : (said : Record) → (let a = turn_of said s x low ordinary tp (block_of d at) in record { sender = a.sender; low = a.low; ordinary = a.ordinary }) ≡ leaves world (asked tp said x)
  turned_world Setup = refl
  turned_world (Ordinary c n) = refl
  turned_world (Low c n) = refl
  turned_world Draw = ap (λ (t : Sender). record { sender = t; low = low; ordinary = ordinary }) (draws s low ordinary d at tp room).0
  turned_world (Packet n) = refl
  turned_world Gap = refl

  stays : (r : List ℕ) → r ≡ [] → take at d ≡ take at d ++ r
  stays r e = sym (append-nil (take at d)) ∙ ap (λ (z : List ℕ). take at d ++ z) (sym e)

  pub turned_held : (said : Record) → (let a = turn_of said s x low ordinary tp (block_of d at) in take a.block.at a.block.bytes) ≡ take at d ++ writes tp world (asked tp said x)
  turned_held Setup = stays [] refl
  turned_held (Ordinary c n) = stays _ (offered tp c x (ordinary_offered s low ordinary c x).given)
  turned_held (Low c n) = stays _ (offered_low tp c x (low_offered s low ordinary c x).given)
  turned_held Draw = (draws s low ordinary d at tp room).1
  turned_held (Packet n) = stays [] refl
  turned_held Gap = stays [] refl

-- ---- records behind records

pub sent_append : (tp : ℕ) (v : World) (xs ys : List Item) → sent_by tp v (xs ++ ys) ≡ sent_by tp v xs ++ sent_by tp (left_by tp v xs) ys
sent_append tp v [] ys = refl
sent_append tp v (x ∷ xs) ys =
    let u = leaves v (asked tp x.said x.bytes) in
    let a = writes tp v (asked tp x.said x.bytes) in
    ap (λ (z : List ℕ). a ++ z) (sent_append tp u xs ys) ∙ sym (append_assoc a (sent_by tp u xs) (sent_by tp (left_by tp u xs) ys))

pub left_append : (tp : ℕ) (v : World) (xs ys : List Item) → left_by tp v (xs ++ ys) ≡ left_by tp (left_by tp v xs) ys
left_append tp v [] ys = refl
left_append tp v (x ∷ xs) ys = left_append tp (leaves v (asked tp x.said x.bytes)) xs ys

-- one more
pub sent_more : (tp : ℕ) (v : World) (xs : List Item) (x : Item)
    → sent_by tp v (xs ++ x ∷ []) ≡ sent_by tp v xs ++ writes tp (left_by tp v xs) (asked tp x.said x.bytes)
sent_more tp v xs x =
    sent_append tp v xs (x ∷ []) ∙ ap (λ (z : List ℕ). sent_by tp v xs ++ z) (append-nil (writes tp (left_by tp v xs) (asked tp x.said x.bytes)))

pub left_more : (tp : ℕ) (v : World) (xs : List Item) (x : Item)
    → left_by tp v (xs ++ x ∷ []) ≡ leaves (left_by tp v xs) (asked tp x.said x.bytes)
left_more tp v xs x = left_append tp v xs (x ∷ [])
