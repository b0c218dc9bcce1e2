-- A TP ends: calls of which none ends it are no more than the finds that are still to come. Assumes nothing.
use Prim.Native.Nat.{ℕ, ◌≤◌}
use mathlib.Core.Path.{◌≡◌, refl, sym, ap, ◌∙◌}
use mathlib.Core.Bool.{false}
use mathlib.Core.List.{List, [], ◌∷◌}
use native.Mathlib.Omega.{arith}
use lib.ListN.{length, length-append}
use Rattle.receiver.specs.declared.About.{About}
use Rattle.receiver.specs.declared.Find.{Find}
use Rattle.receiver.specs.declared.Find.TheVariants as F
use Rattle.receiver.specs.declared.Receiver.{Receiver}
use Rattle.receiver.specs.declared.Stage.{Stage}
use Rattle.receiver.specs.declared.Stage.TheVariants as S
use Rattle.receiver.specs.State.{frame_of, todo_of, held_of, Able}
use Rattle.receiver.specs.Tp.{Listing}
use Rattle.receiver.specs.Call.{Gave, data_of, call_of, call_as, count_in, stamps_of, stepped, Gives}
use Rattle.receiver.specs.declared.Stamp.{Stamp}
use Rattle.receiver.proofs.Rest.{before, stage_rest, saying, afterwards}
use Rattle.receiver.proofs.Lasting.{call_lasts, unfinished_count}
use Rattle.receiver.proofs.Ending.{tells_as}
use Rattle.receiver.proofs.Called.{coming_of, call_rest, told_on, own, own_steady}
use Rattle.downlink.specs.Hearing.{Listener, Called, ends}
use Rattle.downlink.proofs.Calling.{not_ended}

-- calls of one TP of which none ends it
abbrev pub Going : List ℕ → Listener → List Called → Type 0
Going tp x [] = Unit {0}
Going tp x (c ∷ cs) =
    Gives (call_of x.receiver tp x.room) c.step tp c.room × (ends c.step.find ≡ false)
    × Going tp (record { receiver = c.step.receiver; room = c.room }) cs

-- the finds still to come
abbrev pub coming : List ℕ → Listener → Listing
coming tp x = coming_of x.receiver.stage x.receiver (stamps_of x.receiver) tp x.room

abbrev staged : ℕ → Stamp → Stage → Receiver → List ℕ → List ℕ → Listing
staged cap t g r tp m =
    stage_rest cap t g r.walk.at (frame_of r.walk.began r.walk.phase) (held_of r.walk.kept m) (todo_of r.walk.began r.walk.phase) tp

stays : (g : Stage) (r : Receiver) (tp m : List ℕ) → (g ≡ S.Fresh → ⊥) → staged r.limit (stamps_of r).now g r tp m ≡ coming_of g r (stamps_of r) tp m
stays S.Fresh r tp m n = absurd (n refl)
stays (S.Low o) r tp m n = refl
stays (S.Due o) r tp m n = refl
stays S.Plain r tp m n = refl

one_find : (cap : ℕ) (f : Find) (t : About) (d : List ℕ) → ends f ≡ false → length (saying cap f t d) ≡ 1
one_find cap F.Nothing t d e = cc
one_find cap F.Refused t d e = cc
one_find cap (F.Notice n) t d e = refl
one_find cap (F.Low c start n) t d e = refl
one_find cap (F.Ordinary c n) t d e = refl

pub ends_soon : (tp : List ℕ) (cs : List Called) (x : Listener) → Able x.receiver → length x.room ≡ x.receiver.limit → length tp ≡ x.receiver.size
    → Going tp x cs → length cs ≤ length (coming tp x).0
unfolding stepped
ends_soon tp [] x able full whole going = omega arith
ends_soon tp (c ∷ cs) x able full whole (gives, on, going) =
    let r : Receiver = x.receiver in
    let m : List ℕ = x.room in
    let r' : Receiver = c.step.receiver in
    let m' : List ℕ = c.room in
    let f : Find = c.step.find in
    let t : About = c.step.about in
    let own_call : Gives (call_as r (stamps_of r) tp m) c.step tp m' = own r tp m c.step m' gives in
    let lasts = call_lasts r tp m in
    let limit : r'.limit ≡ r.limit = ap (λ (g : Gave). g.limit) gives.same ∙ lasts.limit in
    let size : r'.size ≡ r.size = ap (λ (g : Gave). g.size) gives.same ∙ lasts.size in
    let room : length m' ≡ length m = ap (λ (g : Gave). length g.room) gives.same ∙ lasts.room in
    let not_fresh : r'.stage ≡ S.Fresh → ⊥ = λ e. not_ended f on (told_on r (stamps_of r) tp m c.step m' own_call (tells_as r (stamps_of r) tp m full whole) e) in
    let count : r'.count ≡ count_in r.stage r.count =
    ap (λ (g : Gave). g.count) own_call.same ∙ unfinished_count r (stamps_of r) tp m (λ e. not_fresh (ap (λ (g : Gave). g.stage) own_call.same ∙ e)) in
    let stamp : (stamps_of r').now ≡ (stamps_of r).now = own_steady r r' not_fresh count in
    let first : coming tp x ≡ before (saying r.limit f t (data_of f tp m')) (coming tp (record { receiver = r'; room = m' })) =
    call_rest r tp m able full whole ∙ ap (λ (g : Gave). afterwards r.limit (stamps_of r).now g tp) (sym gives.same)
    ∙ ap (before (saying r.limit f t (data_of f tp m'))) (ap (λ (n : ℕ). staged n (stamps_of r).now r'.stage r' tp m') (sym limit) ∙ ap (λ (t : Stamp). staged r'.limit t r'.stage r' tp m') (sym stamp) ∙ stays r'.stage r' tp m' not_fresh) in
    let ih = ends_soon tp cs (record { receiver = r'; room = m' }) gives.able (room ∙ full ∙ sym limit) (whole ∙ sym size) going in
    omega (
      arith,
      ap (λ (l : Listing). length l.0) first,
      length-append (saying r.limit f t (data_of f tp m')) (coming tp (record { receiver = r'; room = m' })).0,
      one_find r.limit f t (data_of f tp m') on,
    )
