-- An EP's end: it joins those before it, or hands out; and the invariant along all events. Assumes nothing.
use mathlib.Core.Path.{ap, refl, subst, sym, ◌∙◌, ◌≡◌}
use mathlib.Core.Bool.{Bool, cond, false, true}
use mathlib.Core.List.{List, [], append_assoc, append-nil, ◌++◌, ◌∷◌}
use Prim.Native.Nat.{zero, ℕ, ◌+◌}
use native.Mathlib.Omega.{arith}
use lib.Dec.{eqb, leb}
use lib.ListN.{length}
use Rattle.std.specs.Prelude.{None, Some}
use Rattle.receiver.specs.declared.kind.Kind.{Kind}
use Rattle.receiver.specs.declared.kind.Kind.TheVariants.{Complete, Fill, First, Last, Middle, Reserved}
use Rattle.receiver.specs.Frame.{Event, closed, entered, opened}
use Rattle.receiver.specs.Join.{Held, Took, admit, broken, finish, free, further, goes_on, held, holding, meets, notice, ordinary, take_in}
use Rattle.receiver.specs.Kind.{kind_of}
use Rattle.receiver.specs.Low.{Tag, begin_of, join_of, wire}
use Rattle.receiver.specs.Low as L
use Rattle.receiver.proofs.Flow.{Flow, Follows, Spot, breaks, closes, enters, feeds_on, loses, next_to, opens, still}
use Rattle.receiver.proofs.Packets.{Ends-in, Ep, Is, OnePacket, PacketRead, bytes_of, complete, feeds, first, middle, read_ep, read_eps, series}
use Rattle.receiver.proofs.Tracing.{Ins, Into, Inv, Rests, alone, bytes_of_append, enters_by, feeds_by, lastly, new, onward, opens_by, read_eps_append}

module _ (room : ℕ) where
  abbrev Then : Spot → Held wire → Event wire → List (Event wire) → Type 0
  Then q s e es = Inv q (take_in wire room s e).0 (es ++ e ∷ [])

  -- its end: an EP read whole joins those before it

  module _ (h : L.Ep) (ds : List ℕ) (es₀ es : List (Event wire)) (e : es ≡ es₀ ++ (opened h ∷ entered h ∷ feeds ds)) where
    abbrev This : Ep
    This = record { at = h.at; header = h.header; bytes = ds }

    closed_read : es ++ closed h ∷ [] ≡ es₀ ++ read_eps (This ∷ [])
    closed_read =
        ap (λ (l : List (Event wire)). l ++ closed h ∷ []) e ∙ append_assoc es₀ (opened h ∷ entered h ∷ feeds ds) (closed h ∷ [])
        ∙ ap (λ (l : List (Event wire)). es₀ ++ l) (sym (append-nil (read_ep This)))

    alone_ends : (d : List ℕ) → d ≡ ds → Ends-in (es ++ closed h ∷ []) (This ∷ []) d
    alone_ends d f = record { earlier = es₀; read = closed_read; bytes = f ∙ sym (append-nil ds) }

    joined_ends : (ps : List Ep) (d₀ d : List ℕ) → Ends-in es₀ ps d₀ → d ≡ d₀ ++ ds → Ends-in (es ++ closed h ∷ []) (ps ++ This ∷ []) d
    joined_ends ps d₀ d j f = record {
      earlier = j.earlier;
      read = closed_read ∙ ap (λ (l : List (Event wire)). l ++ read_eps (This ∷ [])) j.read
          ∙ append_assoc j.earlier (read_eps ps) (read_eps (This ∷ [])) ∙ ap (λ (l : List (Event wire)). j.earlier ++ l) (sym (read_eps_append ps (This ∷ [])));
      bytes = f ∙ ap (λ (l : List ℕ). l ++ ds) j.bytes ∙ ap (λ (l : List ℕ). bytes_of ps ++ l) (sym (append-nil ds)) ∙ sym (bytes_of_append ps (This ∷ []));
    }

    abbrev Result : Tag → List ℕ → Type 0
    Result t d = (ps : List Ep) × OnePacket t.content t.at ps × Ends-in (es ++ closed h ∷ []) ps d

    module _ (t : Tag) (d : List ℕ) (whole : length ds ≡ h.header.size) (same : h.header.content ≡ t.content) where
      is : (k : Kind) → kind_of h.header ≡ k → Is k t.content This
      is k x = record { kind = x; content = same; whole = whole }

      closes_held : {k : Kind} {d₀ : List ℕ} → Into t h.at es₀ k d₀ → kind_of h.header ≡ k → d ≡ d₀ ++ ds → Rests (finish wire k (held t d)).0 (es ++ closed h ∷ [])
      closes_held (alone y) x f = omega arith
      closes_held (new y) x f = (This ∷ [], first (is First x) y, alone_ends d f)
      closes_held {d₀ = d₀} (onward {ps = ps} b j) x f = (ps ++ This ∷ [], middle b (is Middle x), joined_ends ps d₀ d j f)
      closes_held (lastly b j) x f = omega arith

      gives_held : {k : Kind} {d₀ : List ℕ} (t' : Tag) (d' : List ℕ) → Into t h.at es₀ k d₀ → kind_of h.header ≡ k → d ≡ d₀ ++ ds
          → (finish wire k (held t d)).1 ≡ Some (ordinary t' d') → Result t' d'
      gives_held t' d' (alone y) x f g =
          let p : t ≡ t' = cc in
          let q : d ≡ d' = cc in
          subst (λ (t : Tag). Result t d') p (subst (λ (d : List ℕ). Result t d) q (This ∷ [], complete (is Complete x) y, alone_ends d f))
      gives_held t' d' (new y) x f g = let z : ◌≡◌ {A = ℕ} 0 1 = cc in absurd (omega arith)
      gives_held t' d' (onward b j) x f g = let z : ◌≡◌ {A = ℕ} 0 1 = cc in absurd (omega arith)
      gives_held {d₀ = d₀} t' d' (lastly {ps = ps} b j) x f g =
          let p : t ≡ t' = cc in
          let q : d ≡ d' = cc in
          subst (λ (t : Tag). Result t d') p (subst (λ (d : List ℕ). Result t d) q (ps ++ This ∷ [], series b (is Last x), joined_ends ps d₀ d j f))

  closes_free : (k : Kind) (h : L.Ep) (es : List (Event wire)) → Rests (finish wire k free).0 es
  closes_free Fill h es = omega arith
  closes_free Reserved h es = omega arith
  closes_free Complete h es = omega arith
  closes_free First h es = omega arith
  closes_free Middle h es = omega arith
  closes_free Last h es = omega arith

  closes_by : (s : Held wire) (h : L.Ep) (es : List (Event wire)) → Ins h zero s es → Rests (finish wire (kind_of h.header) s).0 (es ++ closed h ∷ [])
  closes_by free h es i = closes_free (kind_of h.header) h (es ++ closed h ∷ [])
  closes_by (held c d) h es i =
      let n = i.count in
      closes_held h i.ds i.es₀ es i.read c d (omega arith) i.content i.into refl i.bytes

  -- THE INVARIANT goes on with each event
  follows_inv : {p q : Spot} {e : Event wire} → Follows p e q → (s : Held wire) (es : List (Event wire)) → Inv p s es → Then q s e es
  follows_inv loses s es i = omega arith
  follows_inv breaks s es i = omega arith
  follows_inv (opens {h = h}) s es i = (es, refl, opens_by room (kind_of h.header) s h es i)
  follows_inv (enters {h = h}) s es (es₀, e, m) =
      subst (λ (l : List (Event wire)). Ins h h.header.size (admit wire room (kind_of h.header) h s).0 (l ++ entered h ∷ [])) (sym e) (enters_by room (kind_of h.header) s h es₀ refl m)
  follows_inv (feeds_on {h = h} {k = k} {b = b}) s es i = feeds_by room s h k b es i
  follows_inv (closes {h = h}) s es i = closes_by s h es i

  pub flow_inv : {p q : Spot} {es : List (Event wire)} → Flow p es q → (s : Held wire) (es₀ : List (Event wire)) → Inv p s es₀ → Inv q (holding wire room s es) (es₀ ++ es)
  flow_inv {p} still s es₀ i = subst (λ (l : List (Event wire)). Inv p s l) (sym (append-nil es₀)) i
  flow_inv {q = q} (next_to {e = e} {es = es} x f) s es₀ i =
      subst (λ (l : List (Event wire)). Inv q (holding wire room (take_in wire room s e).0 es) l) (append_assoc es₀ (e ∷ []) es)
      (flow_inv f (take_in wire room s e).0 (es₀ ++ e ∷ []) (follows_inv x s es₀ i))

  -- only an EP's end hands out

  no_fits : (b : Bool) (h : L.Ep) (c : Tag) (d : List ℕ) (c' : Tag) (d' : List ℕ) → (cond {A = Took wire} b (held c d, None) (free, Some (notice 15 h.at))).1 ≡ Some (ordinary c' d') → ⊥
  no_fits true h c d c' d' e = let z : ◌≡◌ {A = ℕ} 0 1 = cc in omega arith
  no_fits false h c d c' d' e = let z : ◌≡◌ {A = ℕ} 0 1 = cc in omega arith

  no_broken : (h : L.Ep) (s : Held wire) (c : Tag) (d : List ℕ) → (broken wire h s).1 ≡ Some (ordinary c d) → ⊥
  no_broken h free c d e = let z : ◌≡◌ {A = ℕ} 0 1 = cc in omega arith
  no_broken h (held x y) c d e = let z : ◌≡◌ {A = ℕ} 0 1 = cc in omega arith

  no_going : (h : L.Ep) (s : Held wire) (c : Tag) (d : List ℕ) → (goes_on wire h s).1 ≡ Some (ordinary c d) → ⊥
  no_going h free c d e = let z : ◌≡◌ {A = ℕ} 0 1 = cc in omega arith
  no_going h (held y t) c d e = by (eqb y.content h.header.content) e
    where
      by : (b : Bool) → (cond {A = Took wire} b (held y t, None) (free, Some (notice 14 h.at))).1 ≡ Some (ordinary c d) → ⊥
      by true e = let z : ◌≡◌ {A = ℕ} 0 1 = cc in omega arith
      by false e = let z : ◌≡◌ {A = ℕ} 0 1 = cc in omega arith

  no_opening : (k : Kind) (h : L.Ep) (s : Held wire) (c : Tag) (d : List ℕ) → (meets wire k h s).1 ≡ Some (ordinary c d) → ⊥
  no_opening Fill h s c d e = no_broken h s c d e
  no_opening Reserved h s c d e = no_broken h s c d e
  no_opening Complete h s c d e = no_broken h s c d e
  no_opening First h s c d e = no_broken h s c d e
  no_opening Middle h s c d e = no_going h s c d e
  no_opening Last h s c d e = no_going h s c d e

  no_further : (h : L.Ep) (s : Held wire) (c : Tag) (d : List ℕ) → (further wire room h s).1 ≡ Some (ordinary c d) → ⊥
  no_further h free c d e = let z : ◌≡◌ {A = ℕ} 0 1 = cc in omega arith
  no_further h (held x t) c d e = no_fits (leb (length t + h.header.size) room) h (join_of x h) t c d e

  no_entering : (k : Kind) (h : L.Ep) (s : Held wire) (c : Tag) (d : List ℕ) → (admit wire room k h s).1 ≡ Some (ordinary c d) → ⊥
  no_entering Fill h s c d e = let z : ◌≡◌ {A = ℕ} 0 1 = cc in omega arith
  no_entering Reserved h s c d e = let z : ◌≡◌ {A = ℕ} 0 1 = cc in omega arith
  no_entering Complete h s c d e = no_fits (leb (0 + h.header.size) room) h (begin_of h) [] c d e
  no_entering First h s c d e = no_fits (leb (0 + h.header.size) room) h (begin_of h) [] c d e
  no_entering Middle h s c d e = no_further h s c d e
  no_entering Last h s c d e = no_further h s c d e

  no_closing : (k : Kind) (c : Tag) (d : List ℕ) → (finish wire k free).1 ≡ Some (ordinary c d) → ⊥
  no_closing Fill c d e = let z : ◌≡◌ {A = ℕ} 0 1 = cc in omega arith
  no_closing Reserved c d e = let z : ◌≡◌ {A = ℕ} 0 1 = cc in omega arith
  no_closing Complete c d e = let z : ◌≡◌ {A = ℕ} 0 1 = cc in omega arith
  no_closing First c d e = let z : ◌≡◌ {A = ℕ} 0 1 = cc in omega arith
  no_closing Middle c d e = let z : ◌≡◌ {A = ℕ} 0 1 = cc in omega arith
  no_closing Last c d e = let z : ◌≡◌ {A = ℕ} 0 1 = cc in omega arith

  pub follows_gives : {p q : Spot} {e : Event wire} → Follows p e q → (s : Held wire) (es : List (Event wire)) → Inv p s es → (c : Tag) (d : List ℕ)
      → (take_in wire room s e).1 ≡ Some (ordinary c d) → PacketRead c.content c.at d (es ++ e ∷ [])
  follows_gives loses s es i c d g = let z : ◌≡◌ {A = ℕ} 0 1 = cc in absurd (omega arith)
  follows_gives breaks s es i c d g = let z : ◌≡◌ {A = ℕ} 0 1 = cc in absurd (omega arith)
  follows_gives (opens {h = h}) s es i c d g = absurd (no_opening (kind_of h.header) h s c d g)
  follows_gives (enters {h = h}) s es i c d g = absurd (no_entering (kind_of h.header) h s c d g)
  follows_gives feeds_on s es i c d g = let z : ◌≡◌ {A = ℕ} 0 1 = cc in absurd (omega arith)
  follows_gives (closes {h = h}) free es i c d g = absurd (no_closing (kind_of h.header) c d g)
  follows_gives (closes {h = h}) (held x t) es i c d g =
      let n = i.count in
      gives_held h i.ds i.es₀ es i.read x t (omega arith) i.content c d i.into refl i.bytes g
