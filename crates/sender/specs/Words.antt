-- A sender as eleven words that anyone may keep, and the sender that words are, if they are one's: the library's states.
-- Assumes nothing.
use Rattle.std.specs.Prelude.{Bool, cond, ◌&&◌, List, [], ◌∷◌, ◌≡◌, ℕ, leb, get_or, set, Result, Ok, Err}
use Rattle.queue.specs.declared.Ring.{Ring}
use Rattle.sender.specs.declared.Setting.{Setting}
use Rattle.sender.specs.declared.Sender.{Sender}
use Rattle.sender.specs.declared.Refusal.{Refusal}
use Rattle.sender.specs.Answers.{Given, done, refusal}

unfoldable pub words_of : Sender → List ℕ
words_of s =
    s.setting.payload ∷ s.setting.stream ∷ s.setting.piece ∷ s.setting.lowspace ∷ s.setting.space
    ∷ s.low.head ∷ s.low.len ∷ s.ordinary.head ∷ s.ordinary.len ∷ s.owed ∷ s.rest ∷ []

-- w with what a draw changes of it: the words of s behind the setting's
abbrev pub drawn_in : List ℕ → Sender → List ℕ
drawn_in w s =
    set (set (set (set (set (set w 5 s.low.head) 6 s.low.len) 7 s.ordinary.head) 8 s.ordinary.len) 9 s.owed) 10 s.rest

unfoldable pub sender_in : List ℕ → Sender
sender_in w =
    record {
      setting = record { payload = get_or w 0 0; stream = get_or w 1 0; piece = get_or w 2 0; lowspace = get_or w 3 0; space = get_or w 4 0 };
      low = record { head = get_or w 5 0; len = get_or w 6 0 };
      ordinary = record { head = get_or w 7 0; len = get_or w 8 0 };
      owed = get_or w 9 0;
      rest = get_or w 10 0;
    }

-- ---- `Opening.Sound` as a test (theorems `Worded.sound_if` and `Worded.if_sound`)

unfoldable pub sound_setting : Setting → Bool
sound_setting g = leb 12 g.payload && (leb g.payload 2047 && (leb g.stream 15 && (leb 1 g.piece && leb g.piece 65535)))

unfoldable pub sound_ring : Ring → ℕ → Bool
sound_ring q space = leb space 1048576 && (leb q.head space && leb q.len space)

unfoldable pub sound : Sender → Bool
sound s =
    sound_setting s.setting
    && (sound_ring s.low s.setting.lowspace
    && (sound_ring s.ordinary s.setting.space
    && (leb s.owed 5 && leb s.rest s.ordinary.len)))

-- 1 for words that no sound sender has
unfoldable pub of_words : List ℕ → Given
of_words w = cond (sound (sender_in w)) (done (sender_in w)) (refusal 1)

-- the words that a sender was found in are its own: all eleven count
abbrev pub OfItsWords : List ℕ → Result Sender Refusal → Type 0
OfItsWords w (Ok s) = w ≡ words_of s
OfItsWords w (Err k) = Unit {0}
