-- Which clause of a piece's definition a test chooses. Assumes nothing.
use mathlib.Core.Path.{ap, refl, sym, ◌≡◌}
use mathlib.Core.List.{List}
use Prim.Native.Nat.{ℕ}
use mathlib.Core.Bool.{Bool}
use Rattle.std.specs.Prelude.{Result, Option}
use Rattle.wire.specs.declared.Header.{Header}
use Rattle.receiver.specs.declared.walk.Walk.{Walk}
use Rattle.receiver.specs.declared.Receiver.{Receiver}
use Rattle.receiver.specs.declared.entry.Top.{Top}
use Rattle.receiver.specs.declared.walk.Turn.{Turn}
use Rattle.receiver.specs.declared.walk.Turn.TheVariants.{More, Stop}
use Rattle.receiver.specs.Pieces.{due_turn, llep_turn, ordinary_turn, out_turn, read_of, top_turn}
use Rattle.receiver.proofs.Advancing.{walk_of}

module _ (r : Receiver) where
  pub top_turn_lem : (t u : Top) (len : ℕ) → t ≡ u → top_turn u r len ≡ top_turn t r len
  top_turn_lem t u len e = ap (λ (t : Top). top_turn t r len) (sym e)

  pub llep_turn_lem : (t u : Option (Header × Bool)) (o len : ℕ) → t ≡ u → llep_turn u r o len ≡ llep_turn t r o len
  llep_turn_lem t u o len e = ap (λ (t : Option (Header × Bool)). llep_turn t r o len) (sym e)

  pub out_turn_lem : (t u : Result Walk ℕ) (n len : ℕ) → t ≡ u → out_turn u r n len ≡ out_turn t r n len
  out_turn_lem t u n len e = ap (λ (t : Result Walk ℕ). out_turn t r n len) (sym e)

  pub due_turn_lem : (t u : Result ℕ ℕ) (tp : List ℕ) → t ≡ u → due_turn u r tp ≡ due_turn t r tp
  due_turn_lem t u tp e = ap (λ (t : Result ℕ ℕ). due_turn t r tp) (sym e)

  pub plain_turn : (t u : Turn) → t ≡ u → ordinary_turn u r ≡ ordinary_turn t r
  plain_turn t u e = ap (λ (t : Turn). ordinary_turn t r) (sym e)

  -- the piece of a turn among ordinary bytes
  pub piece_of : (t : Turn) → (ordinary_turn t r).piece ≡ read_of r.walk (walk_of t)
  piece_of (More x) = refl
  piece_of (Stop a) = refl
