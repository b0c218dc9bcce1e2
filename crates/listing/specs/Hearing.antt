-- The lines of a TP's calls (document 01, 'Listing'; "the same TP and room are lent until one says none"). Assumes nothing.
use Rattle.std.specs.Prelude.{◌≡◌, ℕ, true, false, List, [], ◌++◌}
use Rattle.receiver.specs.Call.{Gives, call_of, lasts}
use Rattle.receiver.specs.declared.Receiver.{Receiver}
use Rattle.receiver.specs.declared.Step.{Step}
use Rattle.listing.specs.Lines.{line_of}

-- calls on the TP with this number, behind each of which it has more to give: from this receiver and room, with these lines, to those
pub data Hears (tp : List ℕ) (n : ℕ) (r : Receiver) (m : List ℕ) : List ℕ → Receiver → List ℕ → Type 0 where
  nothing : Hears tp n r m [] r m
  then : {ls : List ℕ} {r' : Receiver} {m' : List ℕ} {q : Step} {m'' : List ℕ} → Hears tp n r m ls r' m'
      → Gives (call_of r' tp m') q tp m'' → lasts q.find ≡ true → Hears tp n r m (ls ++ line_of n q.find) q.receiver m''

-- and the call that ends it
pub data Ends (tp : List ℕ) (n : ℕ) (r : Receiver) (m : List ℕ) : List ℕ → Receiver → List ℕ → Type 0 where
  last : {ls : List ℕ} {r' : Receiver} {m' : List ℕ} {q : Step} {m'' : List ℕ} → Hears tp n r m ls r' m'
      → Gives (call_of r' tp m') q tp m'' → lasts q.find ≡ false → Ends tp n r m (ls ++ line_of n q.find) q.receiver m''
