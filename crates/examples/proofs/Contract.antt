-- WHAT THE CONTRACT OF A CALL SHUTS OUT, on document 01's example 6: a receiver that gives one fixed find for everything (9, or
-- nothing, among them), and one that reads the first TP and then idles. What the three calls give is computed from the
-- contract's definition, and what they leave is the only thing that it allows. Assumes nothing.
use mathlib.Core.Path.{ap, refl, sym, ◌∙◌, ◌≡◌}
use mathlib.Core.List.{List, [], ◌∷◌}
use Prim.Native.Nat.{ℕ}
use native.Mathlib.Omega.{arith}
use lib.Count.{ones_in}
use Rattle.golay.specs.Answers.{end_flips, end_of}
use Rattle.wire.specs.Reading.{header_of, sort_of}
use Rattle.std.specs.Prelude.{None}
use Rattle.receiver.specs.declared.Find.{Find}
use Rattle.receiver.specs.declared.Find.TheVariants as F
use Rattle.receiver.specs.declared.Place.{Place}
use Rattle.receiver.specs.declared.Receiver.{Receiver}
use Rattle.receiver.specs.declared.Stage.TheVariants.{Due, Fresh}
use Rattle.receiver.specs.declared.Step.{Step}
use Rattle.receiver.specs.declared.walk.Phase.TheVariants.{Head, Lost}
use Rattle.receiver.specs.Call.{Gave, Gives, call_as, call_of, due_call, first_call, fresh_of, stepped}
use Rattle.receiver.specs.Place.{own_of, start_of}
use Rattle.receiver.specs.Forecast.{outset}
use Rattle.receiver.specs.Kind.{kind_of, piece_of}
use Rattle.receiver.specs.Low.{llep, sized}
use Rattle.receiver.specs.Lows.{lows, lows_of}
use Rattle.receiver.specs.State.{Able}
use Rattle.receiver.proofs.Pinned.{pinned}
use Rattle.examples.specs.Examples.{first_tp, second_tp}
use Rattle.examples.proofs.Sixth.{cut_header, first_word, low_header, second_word}

-- a room of one byte, and a receiver opened with it
abbrev room : List ℕ
room = 0x00 ∷ []

abbrev opened : Receiver
opened = fresh_of 16 0 1 0

-- behind the low-latency packet, and behind the first TP, whose last three bytes begin a header
-- a place of TP 1
abbrev first_at : ℕ → Place
first_at n = record { stamp = own_of 1; at = n }

abbrev behind : Step
behind = record {
  receiver = record { size = 16; stream = 0; limit = 1; count = 1; stage = Due 9; walk = record { at = 13; phase = Lost; began = start_of (own_of 0); kept = None } };
  find = F.Low 1 10 2;
  about = record { repaired = 0; at = first_at 0 };
}

abbrev between : Step
between = record {
  receiver = record { size = 16; stream = 0; limit = 1; count = 1; stage = Fresh; walk = record { at = 0; phase = Head 3 0x1007B4; began = first_at 9; kept = None } };
  find = F.Nothing;
  about = record { repaired = 0; at = first_at 0 };
}

can_open : Able opened
can_open = record { size = omega arith; walk = record { at = omega arith; phase = omega arith }; stage = omega arith }

-- the first TP's two calls, and what the second TP's first call finds

first_call_lem : Gives (call_of opened first_tp room) behind first_tp room
unfolding call_of call_as first_call stepped lows_of lows llep sized header_of end_of end_flips kind_of sort_of piece_of ones_in
first_call_lem = record {
  same = simp (first_word, low_header);
  able = record { size = omega arith; walk = record { at = omega arith; phase = omega arith }; stage = (omega arith, omega arith, omega arith) };
}

second_call : Gives (call_of behind.receiver first_tp room) between first_tp room
unfolding call_of call_as stepped due_call outset
second_call = record {
  same = refl;
  able = record { size = omega arith; walk = record { at = omega arith; phase = (omega arith, omega arith, omega arith) }; stage = (omega arith, omega arith) };
}

third_find : (call_of between.receiver second_tp room).said.find ≡ F.Ordinary 4 1
unfolding call_of call_as first_call due_call header_of kind_of sort_of piece_of outset
third_find = simp (second_word, cut_header)

-- any receiver, by what it answers to a call: the step, and the room's bytes then
abbrev pub Answering : Type 0
Answering = Receiver → List ℕ → List ℕ → Step × List ℕ

-- it keeps the contract on a TP, whatever came before
abbrev pub Keeps : Answering → List ℕ → Type 0
Keeps a tp = (r : Receiver) (m : List ℕ) → Able r → Gives (call_of r tp m) (a r tp m).0 tp (a r tp m).1

module _ (a : Answering) where
  -- ONE FIXED FIND for everything
  pub no_fixed : (f : Find) → Keeps a first_tp → ((r : Receiver) (m : List ℕ) → (a r first_tp m).0.find ≡ f) → ⊥
  no_fixed f k e =
      let q = pinned (call_of opened first_tp room) first_tp (a opened first_tp room).0 behind (a opened first_tp room).1 room (k opened room can_open) first_call_lem in
      let b = behind.receiver in
      let p = pinned (call_of b first_tp room) first_tp (a b first_tp room).0 between (a b first_tp room).1 room (k b room first_call_lem.able) second_call in
      let x : f ≡ F.Low 1 10 2 = sym (e opened room) ∙ ap (λ (s : Step). s.find) q.0 in
      let y : f ≡ F.Nothing = sym (e b room) ∙ ap (λ (s : Step). s.find) p.0 in
      let z : ◌≡◌ {A = ℕ} 0 1 = cc in
      omega arith

  -- 9 for everything
  pub no_nine : Keeps a first_tp → ((r : Receiver) (m : List ℕ) → (a r first_tp m).0.find ≡ F.Notice 9) → ⊥
  no_nine = no_fixed (F.Notice 9)

  -- nothing
  pub no_nothing : Keeps a first_tp → ((r : Receiver) (m : List ℕ) → (a r first_tp m).0.find ≡ F.Nothing) → ⊥
  no_nothing = no_fixed F.Nothing

  -- the first TP read, and then nothing
  pub no_idling : Keeps a second_tp → ((r : Receiver) (m : List ℕ) → (a r second_tp m).0.find ≡ F.Nothing) → ⊥
  unfolding stepped
  no_idling k e =
      let b = between.receiver in
      let g = k b room second_call.able in
      let x : F.Nothing ≡ F.Ordinary 4 1 = sym (e b room) ∙ ap (λ (g : Gave). g.said.find) g.same ∙ third_find in
      let z : ◌≡◌ {A = ℕ} 0 1 = cc in
      omega arith
