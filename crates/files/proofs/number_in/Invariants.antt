-- `files::number_in` meets its contract: digits are read from the first one on, up to one that does not fit.
-- Assumes nothing.
use Rattle.std.proofs.Common.{◌≡◌, drop}
use Rattle.files.specs.Word.{number_on, word_of}
use Rattle.files.proofs.number_in.Given as goal

abbrev pub invariant-loop-b : goal.invariant-loop-b
invariant-loop-b l = number_on l.n (drop l.b-index l.word) ≡ word_of l.word
