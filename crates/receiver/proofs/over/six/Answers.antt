-- `receiver::over::six` meets its contract.
-- Assumes nothing.
use native.Mathlib.Omega.{arith}
use Rattle.receiver.proofs.over.six.Goals as goal

pub overflow_cast-n : goal.overflow_cast-n
overflow_cast-n c = let byte = c.type_inv.tp in omega (arith, byte 6)

pub overflow_cast-n-2 : goal.overflow_cast-n-2
overflow_cast-n-2 c = let byte = c.type_inv.tp in omega (arith, byte 5, byte 6)

pub overflow_mul-n : goal.overflow_mul-n
overflow_mul-n c = let byte = c.type_inv.tp in omega (arith, byte 5, byte 6)

pub overflow_add-n : goal.overflow_add-n
overflow_add-n c = let byte = c.type_inv.tp in omega (arith, byte 5, byte 6)

pub overflow_cast-n-3 : goal.overflow_cast-n-3
overflow_cast-n-3 c = let byte = c.type_inv.tp in omega (arith, byte 4, byte 5, byte 6)

pub overflow_mul-n-2 : goal.overflow_mul-n-2
overflow_mul-n-2 c = let byte = c.type_inv.tp in omega (arith, byte 4, byte 5, byte 6)

pub overflow_add-n-2 : goal.overflow_add-n-2
overflow_add-n-2 c = let byte = c.type_inv.tp in omega (arith, byte 4, byte 5, byte 6)

pub overflow_cast-n-4 : goal.overflow_cast-n-4
overflow_cast-n-4 c = let byte = c.type_inv.tp in omega (arith, byte 3, byte 4, byte 5, byte 6)

pub overflow_mul-n-3 : goal.overflow_mul-n-3
overflow_mul-n-3 c = let byte = c.type_inv.tp in omega (arith, byte 3, byte 4, byte 5, byte 6)

pub overflow_add-n-3 : goal.overflow_add-n-3
overflow_add-n-3 c = let byte = c.type_inv.tp in omega (arith, byte 3, byte 4, byte 5, byte 6)

pub overflow_cast-n-5 : goal.overflow_cast-n-5
overflow_cast-n-5 c = let byte = c.type_inv.tp in omega (arith, byte 2, byte 3, byte 4, byte 5, byte 6)

pub overflow_mul-n-4 : goal.overflow_mul-n-4
overflow_mul-n-4 c = let byte = c.type_inv.tp in omega (arith, byte 2, byte 3, byte 4, byte 5, byte 6)

pub overflow_add-n-4 : goal.overflow_add-n-4
overflow_add-n-4 c = let byte = c.type_inv.tp in omega (arith, byte 2, byte 3, byte 4, byte 5, byte 6)

pub overflow_cast-result : goal.overflow_cast-result
overflow_cast-result c = let byte = c.type_inv.tp in omega (arith, byte 1, byte 2, byte 3, byte 4, byte 5, byte 6)

pub overflow_mul-result : goal.overflow_mul-result
overflow_mul-result c = let byte = c.type_inv.tp in omega (arith, byte 1, byte 2, byte 3, byte 4, byte 5, byte 6)

pub overflow_add-result : goal.overflow_add-result
overflow_add-result c = let byte = c.type_inv.tp in omega (arith, byte 1, byte 2, byte 3, byte 4, byte 5, byte 6)
