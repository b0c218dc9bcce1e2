-- What is said of a bad record. Assumes nothing.
use Rattle.std.specs.Prelude.{ℕ, List}
use lib.Chars.{codes}
use Rattle.house.specs.declared.Fault.{Fault}
use Rattle.house.specs.declared.Fault.TheVariants.{Mark, Kind, Content, Length, Short, Limits}

-- the text of a fault
abbrev pub text_of : Fault → List ℕ
text_of Mark = codes "no mark"
text_of Kind = codes "a kind that has no place here"
text_of Content = codes "content not 0"
text_of Length = codes "wrong length"
text_of Short = codes "cut short"
text_of Limits = codes "a setup outside the limits"
