-- WORDS AND SENDERS UNDO EACH OTHER. Assumes nothing.
use Prim.Native.Nat.{ℕ, zero, suc, ◌≤◌}
use mathlib.Core.Bool.{Bool, true, false, cond, ◌&&◌}
use mathlib.Core.List.{List, [], ◌∷◌}
use mathlib.Core.Path.{◌≡◌, refl, sym, subst, ap, ◌∙◌}
use lib.Dec.{leb}
use lib.ListN.{length, get_or}
use borrow.Author.Tests.{le-leb, leb-true}
use Rattle.queue.specs.declared.Ring.{Ring}
use Rattle.sender.specs.declared.Setting.{Setting}
use Rattle.sender.specs.declared.Sender.{Sender}
use Rattle.sender.specs.Answers.{done, refusal}
use Rattle.sender.specs.Opening.{Sound}
use Rattle.sender.specs.Words.{words_of, sender_in, sound_setting, sound_ring, sound, of_words}
use Rattle.sender.proofs.Bools.{and_left, and_right}

both : (a b : Bool) → a ≡ true → b ≡ true → a && b ≡ true
both true b e f = f
both false b e f = e

-- ---- the test tells whether a sender is sound

record SoundSetting (g : Setting) : Type 0 where
  pub payload_least : 12 ≤ g.payload
  pub payload_most : g.payload ≤ 2047
  pub stream : g.stream ≤ 15
  pub piece_least : 1 ≤ g.piece
  pub piece_most : g.piece ≤ 65535

sound_setting_lem : (g : Setting) → sound_setting g ≡ true → SoundSetting g
unfolding sound_setting
sound_setting_lem g e =
    let a = and_right (leb 12 g.payload) _ e in
    let b = and_right (leb g.payload 2047) _ a in
    let c = and_right (leb g.stream 15) _ b in
    record {
      payload_least = leb-true 12 g.payload (and_left _ _ e);
      payload_most = leb-true g.payload 2047 (and_left _ _ a);
      stream = leb-true g.stream 15 (and_left _ _ b);
      piece_least = leb-true 1 g.piece (and_left _ _ c);
      piece_most = leb-true g.piece 65535 (and_right (leb 1 g.piece) _ c);
    }

record SoundRing (q : Ring) (space : ℕ) : Type 0 where
  pub space_most : space ≤ 1048576
  pub head : q.head ≤ space
  pub len : q.len ≤ space

sound_ring_lem : (q : Ring) (space : ℕ) → sound_ring q space ≡ true → SoundRing q space
unfolding sound_ring
sound_ring_lem q space e =
    let a = and_right (leb space 1048576) _ e in
    record {
      space_most = leb-true space 1048576 (and_left _ _ e);
      head = leb-true q.head space (and_left _ _ a);
      len = leb-true q.len space (and_right (leb q.head space) _ a);
    }

pub sound_if : (s : Sender) → sound s ≡ true → Sound s
unfolding sound
sound_if s e =
    let t = sound_setting s.setting in
    let u = sound_ring s.low s.setting.lowspace in
    let v = sound_ring s.ordinary s.setting.space in
    let a = and_right t _ e in
    let b = and_right u _ a in
    let c = and_right v _ b in
    let g = sound_setting_lem s.setting (and_left t _ e) in
    let l = sound_ring_lem s.low s.setting.lowspace (and_left u _ a) in
    let o = sound_ring_lem s.ordinary s.setting.space (and_left v _ b) in
    record {
      payload_least = g.payload_least;
      payload_most = g.payload_most;
      stream = g.stream;
      piece_least = g.piece_least;
      piece_most = g.piece_most;
      lowspace = l.space_most;
      space = o.space_most;
      head_of_low = l.head;
      low_len = l.len;
      head = o.head;
      len = o.len;
      owed = leb-true s.owed 5 (and_left (leb s.owed 5) _ c);
      rest = leb-true s.rest s.ordinary.len (and_right (leb s.owed 5) _ c);
    }

pub if_sound : (s : Sender) → Sound s → sound s ≡ true
unfolding sound sound_setting sound_ring
if_sound s h =
    both _ _ (both _ _ (le-leb _ _ h.payload_least) (both _ _ (le-leb _ _ h.payload_most) (both _ _ (le-leb _ _ h.stream) (both _ _ (le-leb _ _ h.piece_least) (le-leb _ _ h.piece_most)))))
    (both _ _ (both _ _ (le-leb _ _ h.lowspace) (both _ _ (le-leb _ _ h.head_of_low) (le-leb _ _ h.low_len)))
    (both _ _ (both _ _ (le-leb _ _ h.space) (both _ _ (le-leb _ _ h.head) (le-leb _ _ h.len)))
    (both _ _ (le-leb _ _ h.owed) (le-leb _ _ h.rest))))

-- ---- BACK: a sound sender comes back from its words

pub back : (s : Sender) → Sound s → of_words (words_of s) ≡ done s
unfolding of_words sender_in words_of
back s h = ap (λ (t : Bool). cond t (done s) (refusal 1)) (if_sound s h)

-- ---- ONLY: the words that a sender comes from are its own

-- n words from word i on, each by its place
listed : ℕ → ℕ → List ℕ → List ℕ
listed zero i w = []
listed (suc n) i w = get_or w i 0 ∷ listed n (suc i) w

shifted : (n i x : ℕ) (w : List ℕ) → listed n (suc i) (x ∷ w) ≡ listed n i w
unfolding listed
shifted zero i x w = refl
shifted (suc n) i x w = ap (λ (v : List ℕ). get_or w i 0 ∷ v) (shifted n (suc i) x w)

whole : (w : List ℕ) → listed (length w) 0 w ≡ w
unfolding listed
whole [] = refl
whole (x ∷ w) = ap (λ (v : List ℕ). x ∷ v) (shifted (length w) 0 x w ∙ whole w)

words_back : (w : List ℕ) → length w ≡ 11 → words_of (sender_in w) ≡ w
unfolding words_of sender_in listed
words_back w l = ap (λ (n : ℕ). listed n 0 w) (sym l) ∙ whole w

pub only : (w : List ℕ) (s : Sender) → length w ≡ 11 → of_words w ≡ done s → (w ≡ words_of s) × Sound s
unfolding of_words
only w s l e =
    let o = go (sound (sender_in w)) e in
    (sym (words_back w l) ∙ ap words_of o.1, subst Sound o.1 (sound_if (sender_in w) o.0))
  where
    go : (t : Bool) → cond t (done (sender_in w)) (refusal 1) ≡ done s → (t ≡ true) × (sender_in w ≡ s)
    go true f = (refl, cc)
    go false f = (cc, cc)

-- ---- the two ends of `of_words`

module _ (w : List ℕ) (s : Sender) (e : s ≡ sender_in w) (t : Bool) (a : t ≡ sound s) where
  sound_at : sound (sender_in w) ≡ t
  sound_at = sym (a ∙ ap sound e)

  pub its : length w ≡ 11 → t ≡ true → (done s ≡ of_words w) × (Sound s × (w ≡ words_of s))
  unfolding of_words
  its l h = (rw (sound_at, h, sym e), (sound_if s (sym a ∙ h), sym (words_back w l) ∙ ap words_of (sym e)))

  pub not_its : t ≡ false → refusal 1 ≡ of_words w
  unfolding of_words
  not_its h = rw (sound_at, h)
