-- What is held is the data of the EPs last read: an invariant along the events, whose order is that of Flow.
-- Assumes nothing.
use mathlib.Core.Path.{ap, refl, subst, sym, ◌∙◌, ◌≡◌}
use mathlib.Core.Bool.{Bool, cond, false, true}
use mathlib.Core.List.{List, [], append_assoc, append-nil, ◌++◌, ◌∷◌}
use Prim.Native.Nat.{suc, ℕ, ◌+◌, ◌≤◌}
use native.Mathlib.Omega.{arith}
use lib.Dec.{eqb, leb}
use lib.ListN.{length, length-append}
use borrow.Author.Tests.{eqb-true}
use Rattle.std.specs.Prelude.{None, Some}
use Rattle.receiver.specs.declared.Place.{Place}
use Rattle.receiver.specs.declared.kind.Kind.{Kind}
use Rattle.receiver.specs.declared.kind.Kind.TheVariants.{Complete, Fill, First, Last, Middle, Reserved}
use Rattle.receiver.specs.Frame.{Event, entered, fed, opened}
use Rattle.receiver.specs.Join.{Held, Took, admit, free, grown, held, meets, notice}
use Rattle.receiver.specs.Kind.{kind_of}
use Rattle.receiver.specs.Low.{Tag, begin_of, join_of, wire}
use Rattle.receiver.specs.Low as L
use Rattle.receiver.proofs.Flow.{Spot, apart, inside_of, met_at}
use Rattle.receiver.proofs.Packets.{Begun, Ends-in, Ep, bytes_of, feeds, read_ep, read_eps}

pub read_eps_append : (ps qs : List Ep) → read_eps (ps ++ qs) ≡ read_eps ps ++ read_eps qs
read_eps_append [] qs = refl
read_eps_append (p ∷ ps) qs = ap (λ (l : List (Event wire)). read_ep p ++ l) (read_eps_append ps qs) ∙ sym (append_assoc (read_ep p) (read_eps ps) (read_eps qs))

pub bytes_of_append : (ps qs : List Ep) → bytes_of (ps ++ qs) ≡ bytes_of ps ++ bytes_of qs
bytes_of_append [] qs = refl
bytes_of_append (p ∷ ps) qs = ap (λ (l : List ℕ). p.bytes ++ l) (bytes_of_append ps qs) ∙ sym (append_assoc p.bytes (bytes_of ps) (bytes_of qs))

pub feeds_append : (xs ys : List ℕ) → feeds (xs ++ ys) ≡ feeds xs ++ feeds ys
feeds_append [] ys = refl
feeds_append (x ∷ xs) ys = ap (λ (l : List (Event wire)). fed x ∷ l) (feeds_append xs ys)

-- what is held on the way into an EP of a kind, which begins at this place, behind these events
pub data Into (t : Tag) (g : Place) (es : List (Event wire)) : Kind → List ℕ → Type 0 where
  alone : g ≡ t.at → Into t g es Complete []
  new : g ≡ t.at → Into t g es First []
  onward : {ps : List Ep} {d : List ℕ} → Begun t.content t.at ps → Ends-in es ps d → Into t g es Middle d
  lastly : {ps : List Ep} {d : List ℕ} → Begun t.content t.at ps → Ends-in es ps d → Into t g es Last d

-- between two EPs
abbrev pub Rests : Held wire → List (Event wire) → Type 0
Rests free es = 0 ≤ 0
Rests (held t d) es = (ps : List Ep) × Begun t.content t.at ps × Ends-in es ps d

-- at a header
abbrev pub Meets : Held wire → L.Ep → List (Event wire) → Type 0
Meets free h es = 0 ≤ 0
Meets (held t d) h es = (t.content ≡ h.header.content) × ((ps : List Ep) × Begun t.content t.at ps × Ends-in es ps d)

-- in an EP's data: behind es₀, its header and the bytes ds
pub record In (h : L.Ep) (n : ℕ) (t : Tag) (d : List ℕ) (es : List (Event wire)) : Type 0 where
  pub es₀ : List (Event wire)
  pub ds : List ℕ
  pub d₀ : List ℕ
  pub read : es ≡ es₀ ++ (opened h ∷ entered h ∷ feeds ds)
  pub count : length ds + n ≡ h.header.size
  pub content : h.header.content ≡ t.content
  pub into : Into t h.at es₀ (kind_of h.header) d₀
  pub bytes : d ≡ d₀ ++ ds

abbrev pub Ins : L.Ep → ℕ → Held wire → List (Event wire) → Type 0
Ins h n free es = 0 ≤ 0
Ins h n (held t d) es = In h n t d es

abbrev pub Inv : Spot → Held wire → List (Event wire) → Type 0
Inv apart s es = Rests s es
Inv (met_at h) s es = (es₀ : List (Event wire)) × (es ≡ es₀ ++ opened h ∷ []) × Meets s h es₀
Inv (inside_of h n) s es = Ins h n s es

module _ (room : ℕ) where
  pub opens_by : (k : Kind) (s : Held wire) (h : L.Ep) (es : List (Event wire)) → Rests s es → Meets (meets wire k h s).0 h es
  opens_by Fill free h es i = i
  opens_by Fill (held c d) h es i = omega arith
  opens_by Reserved free h es i = i
  opens_by Reserved (held c d) h es i = omega arith
  opens_by Complete free h es i = i
  opens_by Complete (held c d) h es i = omega arith
  opens_by First free h es i = i
  opens_by First (held c d) h es i = omega arith
  opens_by Middle free h es i = i
  opens_by Middle (held t d) h es i = goes (eqb t.content h.header.content) refl
    where
      goes : (b : Bool) → eqb t.content h.header.content ≡ b → Meets (cond {A = Took wire} b (held t d, None) (free, Some (notice 14 h.at))).0 h es
      goes true e = (eqb-true t.content h.header.content e, i)
      goes false e = omega arith
  opens_by Last free h es i = i
  opens_by Last (held t d) h es i = goes (eqb t.content h.header.content) refl
    where
      goes : (b : Bool) → eqb t.content h.header.content ≡ b → Meets (cond {A = Took wire} b (held t d, None) (free, Some (notice 14 h.at))).0 h es
      goes true e = (eqb-true t.content h.header.content e, i)
      goes false e = omega arith

  -- into an EP, whose data are kept behind d, or passed over
  fits_by : (b : Bool) (h : L.Ep) (t : Tag) (d : List ℕ) (es : List (Event wire)) → h.header.content ≡ t.content → Into t h.at es (kind_of h.header) d
      → Ins h h.header.size (cond {A = Took wire} b (held t d, None) (free, Some (notice 15 h.at))).0 ((es ++ opened h ∷ []) ++ entered h ∷ [])
  fits_by true h t d es e i = record {
    es₀ = es;
    ds = [];
    d₀ = d;
    read = append_assoc es (opened h ∷ []) (entered h ∷ []);
    count = omega arith;
    content = e;
    into = i;
    bytes = sym (append-nil d);
  }
  fits_by false h t d es e i = omega arith

  pub enters_by : (k : Kind) (s : Held wire) (h : L.Ep) (es : List (Event wire)) → kind_of h.header ≡ k → Meets s h es
      → Ins h h.header.size (admit wire room k h s).0 ((es ++ opened h ∷ []) ++ entered h ∷ [])
  enters_by Fill s h es e i = omega arith
  enters_by Reserved s h es e i = omega arith
  enters_by Complete s h es e i = fits_by (leb (0 + h.header.size) room) h (begin_of h) [] es refl (subst (λ (k : Kind). Into (begin_of h) h.at es k []) (sym e) (alone refl))
  enters_by First s h es e i = fits_by (leb (0 + h.header.size) room) h (begin_of h) [] es refl (subst (λ (k : Kind). Into (begin_of h) h.at es k []) (sym e) (new refl))
  enters_by Middle free h es e i = omega arith
  enters_by Middle (held t d) h es e i =
      fits_by (leb (length d + h.header.size) room) h (join_of t h) d es (sym i.0) (subst (λ (k : Kind). Into (join_of t h) h.at es k d) (sym e) (onward i.1.1 i.1.2))
  enters_by Last free h es e i = omega arith
  enters_by Last (held t d) h es e i =
      fits_by (leb (length d + h.header.size) room) h (join_of t h) d es (sym i.0) (subst (λ (k : Kind). Into (join_of t h) h.at es k d) (sym e) (lastly i.1.1 i.1.2))

  pub feeds_by : (s : Held wire) (h : L.Ep) (k b : ℕ) (es : List (Event wire)) → Ins h (suc k) s es → Ins h k (grown wire s b) (es ++ fed b ∷ [])
  feeds_by free h k b es i = i
  feeds_by (held c d) h k b es i = record {
    es₀ = i.es₀;
    ds = i.ds ++ b ∷ [];
    d₀ = i.d₀;
    read = ap (λ (l : List (Event wire)). l ++ fed b ∷ []) i.read ∙ append_assoc i.es₀ (opened h ∷ entered h ∷ feeds i.ds) (fed b ∷ [])
        ∙ ap (λ (l : List (Event wire)). i.es₀ ++ (opened h ∷ entered h ∷ l)) (sym (feeds_append i.ds (b ∷ [])));
    count = let e = i.count in omega (arith, length-append i.ds (b ∷ []));
    content = i.content;
    into = i.into;
    bytes = ap (λ (l : List ℕ). l ++ b ∷ []) i.bytes ∙ append_assoc i.d₀ i.ds (b ∷ []);
  }
