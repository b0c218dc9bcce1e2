-- `complete::short_header` meets its contract, by the law `short_is`. Assumes nothing.
use mathlib.Core.Path.{ap, ◌∙◌}
use mathlib.Core.List.{List, ◌++◌}
use Prim.Native.Nat.{ℕ}
use Rattle.digits.specs.Digits.{digits}
use Rattle.golay.specs.Golay.{code_word}
use Rattle.sender.proofs.Firsts.{short_is}
use Rattle.sender.proofs.complete.short_header.Goals as goal

pub returns : goal.returns
returns c =
    rw (c.digits_of-b.ensures, c.encode.ensures) (ap (λ (l : List ℕ). l ++ digits 3 (code_word c.args.size)) c.first_bytes-a.ensures ∙ short_is c.args.content c.args.size c.requires.0 c.requires.1)
