-- All items of a run: what arrives is the stream that the window lemma asks for, and what is due of it. Assumes nothing.
use Prim.Native.Nat.{ℕ, ◌+◌, ◌≤◌}
use mathlib.Core.Path.{◌≡◌, refl, sym, ap, ◌∙◌, subst, subst⁻¹}
use mathlib.Core.Bool.{Bool, true, false, cond}
use mathlib.Core.List.{List, [], ◌∷◌, ◌++◌, append_assoc, flatten}
use native.Mathlib.Omega.{arith}
use lib.ListN.{length, drop, length-append, length-drop}
use lib.Seq.{drop-drop}
use Rattle.downlink.proofs.plain.Low.{wire}
use Rattle.downlink.specs.Damage.{Item, filler, packet, eps, all_eps, EpsNear}
use Rattle.downlink.specs.Hearing.{Packet}
use Rattle.downlink.specs.Due.{size}
use Rattle.downlink.proofs.Within.{picked, keep, total}
use Rattle.downlink.proofs.Trains.{Ep, cells, stream}
use Rattle.downlink.proofs.Cut.{ep_size}
use Rattle.downlink.proofs.Items as R
use Rattle.downlink.proofs.Marks.{bytes_length, eps_bytes}
use Rattle.downlink.proofs.Loads.{item_cells, items_cells, ItemOk, ItemsOk}
use Rattle.downlink.proofs.Arrive.{handed, mix, mix_append, mix_length, One, fill_arrives, packet_arrives}

stream_append : (xs ys : List (Ep wire)) → stream wire (xs ++ ys) ≡ stream wire xs ++ stream wire ys
stream_append [] ys = refl
stream_append (x ∷ xs) ys = ap (λ l. cells wire x ++ l) (stream_append xs ys) ∙ sym (append_assoc (cells wire x) (stream wire xs) (stream wire ys))

total_stream : (xs : List (Ep wire)) → total (ep_size wire) xs ≡ length (stream wire xs)
total_stream [] = refl
total_stream (x ∷ xs) = omega (arith, total_stream xs, length-append (cells wire x) (stream wire xs))

near_left : (xs ys : List (List ℕ)) (bs : List ℕ) → EpsNear (xs ++ ys) bs → EpsNear xs bs
near_left [] ys bs h = tt
near_left (x ∷ xs) ys bs h = (h.0, near_left xs ys (drop (length x) bs) h.1)

near_right : (xs ys : List (List ℕ)) (bs : List ℕ) → EpsNear (xs ++ ys) bs → EpsNear ys (drop (length (flatten xs)) bs)
unfolding flatten
near_right [] ys bs h = h
near_right (x ∷ xs) ys bs h =
    subst (EpsNear ys) (drop-drop (length (flatten xs)) (length x) bs ∙ ap (λ (k : ℕ). drop k bs) (sym (length-append x (flatten xs))))
    (near_right xs ys (drop (length x) bs) h.1)

pub item_length : (i : Item) → length (item_cells i) ≡ size i
item_length i = sym (bytes_length (item_cells i)) ∙ ap length (eps_bytes (eps i))

-- what reading hands out of the items that pass the test, laid end to end from the number `at` on, where these bytes arrived
abbrev pub handed_by : (ℕ → ℕ → Bool) → ℕ → List Item → List ℕ → List Packet
handed_by t at [] bs = []
handed_by t at (i ∷ is) bs = cond (t at (at + size i)) (handed i bs) [] ++ handed_by t (at + size i) is (drop (size i) bs)

-- an accepted packet fits the room
abbrev pub Fits : ℕ → Item → Type 0
Fits room (filler e) = Unit {0}
Fits room (packet c d es) = length d ≤ room

abbrev pub AllFit : ℕ → List Item → Type 0
AllFit room [] = Unit {0}
AllFit room (i ∷ is) = Fits room i × AllFit room is

module _ (P str F room : ℕ) (top : P ≤ 2047) (f₁ : 1 ≤ F) (f₂ : F ≤ 65535) where
  one : (i : Item) (bs : List ℕ) → ItemOk P str F top i → Fits room i → size i ≤ length bs → EpsNear (eps i) bs → One F room f₁ f₂ i bs
  one (filler e) bs (n, small, is) fits len near =
      subst⁻¹ (λ (z : List ℕ). One F room f₁ f₂ (filler z) bs) is
      (fill_arrives F room f₁ f₂ n bs small (subst (λ (z : List ℕ). size (filler z) ≤ length bs) is len) (subst (λ (z : List ℕ). EpsNear (z ∷ []) bs) is near))
  one (packet c d es) bs (c₁, c₆, is) fits len near =
      subst⁻¹ (λ (z : List (List ℕ)). One F room f₁ f₂ (packet c d z) bs) is
      (packet_arrives F room f₁ f₂ c d bs c₁ c₆ fits (subst (λ (z : List (List ℕ)). size (packet c d z) ≤ length bs) is len)
      (subst (λ (z : List (List ℕ)). EpsNear z bs) is near))

  pub record Stream (is : List Item) (bs : List ℕ) : Type 0 where
    pub ris : List (R.Item wire room)
    pub mixed : stream wire (R.all_eps_lem wire room ris) ≡ mix (items_cells is) bs
    pub due : (t : ℕ → ℕ → Bool) (at : ℕ) → R.all_given wire room (picked (R.item_size wire room) t at ris) ≡ handed_by t at is bs

  kept_due : (b : Bool) (ri : R.Item wire room) (ws : List (R.Item wire room)) (x y : List Packet) → R.given wire room ri ≡ x → R.all_given wire room ws ≡ y
      → R.all_given wire room (keep b ri ws) ≡ cond b x [] ++ y
  kept_due true ri ws x y g h = ap (λ l. l ++ R.all_given wire room ws) g ∙ ap (λ l. x ++ l) h
  kept_due false ri ws x y g h = h

  pub arrives : (is : List Item) (bs : List ℕ) → ItemsOk P str F top is → AllFit room is → length (items_cells is) ≤ length bs → EpsNear (all_eps is) bs
      → Stream is bs
  arrives [] bs ok fit len near = record { ris = []; mixed = refl; due = λ t at. refl }
  arrives (i ∷ is) bs ok fit len near =
      let n : ℕ = size i in
      let n_is : length (item_cells i) ≡ n = item_length i in
      let both = length-append (item_cells i) (items_cells is) in
      let fits : length (item_cells i) ≤ length bs = omega arith in
      let o = one i bs ok.0 fit.0 (omega arith) (near_left (eps i) (all_eps is) bs near) in
      let r = arrives is (drop n bs) ok.1 fit.1 (omega (arith, length-drop n bs)) (near_right (eps i) (all_eps is) bs near) in
      let size_is : R.item_size wire room o.ri ≡ n =
      total_stream (R.eps wire room o.ri) ∙ ap length o.is_mix ∙ mix_length (item_cells i) bs fits ∙ n_is in
      record {
        ris = o.ri ∷ r.ris;
        mixed = stream_append (R.eps wire room o.ri) (R.all_eps_lem wire room r.ris)
            ∙ ap (λ l. l ++ stream wire (R.all_eps_lem wire room r.ris)) o.is_mix
            ∙ ap (λ l. mix (item_cells i) bs ++ l) (r.mixed ∙ ap (λ (k : ℕ). mix (items_cells is) (drop k bs)) (sym n_is))
            ∙ sym (mix_append (item_cells i) (items_cells is) bs fits);
        due = λ t at.
            ap (λ (m : ℕ). R.all_given wire room (keep (t at (at + m)) o.ri (picked (R.item_size wire room) t (at + m) r.ris))) size_is
            ∙ kept_due (t at (at + n)) o.ri (picked (R.item_size wire room) t (at + n) r.ris) (handed i bs)
            (handed_by t (at + n) is (drop n bs)) o.given_is (r.due t (at + n));
      }
