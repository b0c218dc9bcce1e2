-- A course answers the call, by its find or by reading on. Assumes nothing.
use mathlib.Core.Path.{subst, ◌≡◌}
use mathlib.Core.List.{List}
use Prim.Native.Nat.{ℕ, ◌≤◌}
use lib.ListN.{length}
use borrow.Author.Tests.{eq-eqb, ne_eqb}
use Rattle.receiver.specs.declared.Receiver.{Receiver}
use Rattle.receiver.specs.declared.Stamp.{Stamp}
use Rattle.receiver.specs.declared.stages.Stamps.{Stamps}
use Rattle.receiver.specs.declared.Step.{Step}
use Rattle.receiver.specs.declared.stages.Course.{Course}
use Rattle.receiver.specs.declared.walk.Answer.{Answer}
use Rattle.receiver.specs.declared.walk.Walk.{Walk}
use Rattle.receiver.specs.Call.{Gave, Gives, call_as, counted_of, stage_call, unchanged}
use Rattle.receiver.specs.State.{pull_of}
use Rattle.receiver.specs.Pieces.{tell_of}
use Rattle.receiver.specs.InWalk.{Ends}
use Rattle.receiver.specs.InStages.{Leads, Onward}
use Rattle.receiver.proofs.Calling.{pull_of_none, tell_gives}
use Rattle.receiver.specs.declared.Find.TheVariants as F
use Rattle.receiver.specs.declared.stages.Course.TheVariants as C

gives_of : (g : List ℕ → Gave) (r : Receiver) (t : Stamp) (tp m : List ℕ) (q : Course) (s : Step) → Leads g r t tp q → q ≡ C.Gives s → length m ≡ r.limit
    → Gives (g m) s tp m
unfolding Leads
gives_of g r t tp m q s l e f = subst (λ (q : Course). Leads g r t tp q) e l m f

pub reads_of : (g : List ℕ → Gave) (r : Receiver) (t : Stamp) (tp : List ℕ) (q : Course) (w : Walk) → Leads g r t tp q → q ≡ C.Reads w → Onward g r t tp w
unfolding Leads
reads_of g r t tp q w l e = subst (λ (q : Course). Leads g r t tp q) e l

module _ (r : Receiver) (n : Stamps) (tp m : List ℕ) (q : Step) (m' : List ℕ) where
  call_is : length m ≡ r.limit → length tp ≡ r.size → Gives (stage_call r.stage r (counted_of r) n tp m) q tp m' → Gives (call_as r n tp m) q tp m'
  unfolding call_as
  call_is f w h = rw (eq-eqb (length m) r.limit f, eq-eqb (length tp) r.size w) h

  pub call_refused : (length m ≡ r.limit → ⊥) → Gives (unchanged r n.before F.Refused 1 m) q tp m' → Gives (call_as r n tp m) q tp m'
  unfolding call_as
  call_refused f h = rw (ne_eqb (length m) r.limit f) h

  pub call_six : length m ≡ r.limit → (length tp ≡ r.size → ⊥) → Gives (unchanged r n.before (F.Notice 6) 6 m) q tp m' → Gives (call_as r n tp m) q tp m'
  unfolding call_as
  call_six f w h = rw (eq-eqb (length m) r.limit f, ne_eqb (length tp) r.size w) h

pub call_gives : (r : Receiver) (n : Stamps) (tp m : List ℕ) (q : Course) (s : Step) → length m ≡ r.limit → length tp ≡ r.size
    → Leads (stage_call r.stage r (counted_of r) n tp) (counted_of r) n.now tp q → q ≡ C.Gives s → Gives (call_as r n tp m) s tp m
call_gives r n tp m q s f w l e = call_is r n tp m s m f w (gives_of (stage_call r.stage r (counted_of r) n tp) (counted_of r) n.now tp m q s l e f)

-- with the room of the call's entry, m₀
pub call_reads : (r : Receiver) (n : Stamps) (tp m m₀ : List ℕ) (q : Course) (x : Walk) (a : Answer) → 16 ≤ r.size → length m₀ ≡ r.limit → length tp ≡ r.size
    → Leads (stage_call r.stage r (counted_of r) n tp) (counted_of r) n.now tp q → q ≡ C.Reads x → Ends (length m₀) n.now x tp m₀ a m → length m ≡ length m₀
    → Gives (call_as r n tp m₀) (tell_of a.gain (counted_of r) n.now a.walk) tp m
call_reads r n tp m m₀ q x a size f w l e g same =
    let s = tell_of a.gain (counted_of r) n.now a.walk in
    let o = reads_of (stage_call r.stage r (counted_of r) n tp) (counted_of r) n.now tp q x l e in
    let p = pull_of (length m₀) n.now x tp m₀ in
    call_is r n tp m₀ s m f w
    (subst (λ (z : Gave). Gives z s tp m) (o.same m₀ f)
    (tell_gives (counted_of r) n.now tp m m₀ size w f a p g.same g.sound g.gained (pull_of_none (length m₀) n.now x tp m₀) same))
