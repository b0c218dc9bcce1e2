-- What holds of settings that an opening allows. Assumes nothing.
use mathlib.Core.Path.{◌≡◌, refl}
use mathlib.Core.Bool.{Bool, true, false, ◌&&◌}
use Prim.Native.Nat.{ℕ, ◌≤◌}
use lib.Dec.{leb}
use borrow.Author.Tests.{leb-true}
use Rattle.wire.specs.Limits.{link_allowed, allowed}

pub both : (a b : Bool) → a && b ≡ true → (a ≡ true) × (b ≡ true)
both true true e = (refl, refl)
both true false e = (refl, e)
both false b e = (e, cc)

pub record Allowed (tp stream F : ℕ) : Type 0 where
  pub tp_least : 16 ≤ tp
  pub tp_most : tp ≤ 2051
  pub stream_most : stream ≤ 15
  pub piece_least : 1 ≤ F
  pub piece_most : F ≤ 65535

pub limits : (tp stream F : ℕ) → allowed tp stream F ≡ true → Allowed tp stream F
unfolding link_allowed allowed
limits tp stream F e =
    let a = both (leb 16 tp && (leb tp 2051 && leb stream 15)) (leb 1 F && leb F 65535) e in
    let l = both (leb 16 tp) (leb tp 2051 && leb stream 15) a.0 in
    let m = both (leb tp 2051) (leb stream 15) l.1 in
    let p = both (leb 1 F) (leb F 65535) a.1 in
    record {
      tp_least = leb-true 16 tp l.0;
      tp_most = leb-true tp 2051 m.0;
      stream_most = leb-true stream 15 m.1;
      piece_least = leb-true 1 F p.0;
      piece_most = leb-true F 65535 p.1;
    }
