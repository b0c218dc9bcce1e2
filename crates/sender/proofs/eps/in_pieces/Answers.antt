-- `eps::in_pieces` meets its contract, by the lengths of an SP's pieces. Assumes nothing.
use mathlib.Core.Path.{sym}
use Prim.Native.Nat.{◌-◌}
use native.Mathlib.Omega.{arith}
use native.Mathlib.Nat.{div-le_self}
use lib.ListN.{length}
use Rattle.sender.proofs.Pieces.{sp_length}
use Rattle.sender.proofs.eps.in_pieces.Goals as goal

pub overflow_add-result : goal.overflow_add-result
overflow_add-result c = let a = c.args in omega (arith, div-le_self (length a.sp.now - 1) a.piece)

pub overflow_mul-result : goal.overflow_mul-result
overflow_mul-result c = let a = c.args in omega (arith, div-le_self (length a.sp.now - 1) a.piece)

pub overflow_add-result-2 : goal.overflow_add-result-2
overflow_add-result-2 c = let a = c.args in omega (arith, div-le_self (length a.sp.now - 1) a.piece)

pub returns : goal.returns
returns c = let a = c.args in sym (sp_length a.piece a.content a.sp.now c.requires.0 c.requires.1.0)
