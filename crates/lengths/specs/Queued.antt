-- The EP that queued bytes begin with, by its header (document 01, "Layouts"). Assumes nothing.
use Rattle.std.specs.Prelude.{cond, List, ℕ, ◌-◌, eqb, leb, length, take, Option, Some, None}
use Rattle.wire.specs.declared.Header.{Header}
use Rattle.wire.specs.Reading.{header_of}
use Rattle.lengths.specs.declared.queued.Ep.{Ep}

-- "the length counts the data after the header"; content 0 is fill, which is never queued
abbrev pub whole_of : ℕ → Option Header → Option Ep
whole_of n None = None
whole_of n (Some h) = cond (eqb h.content 0) None (cond (leb h.size n) (Some (record { fragment = h.fragment; size = h.size })) None)

unfoldable pub ep_in : List ℕ → Option Ep
ep_in bytes = cond (leb 6 (length bytes)) (whole_of (length bytes - 6) (header_of (take 6 bytes))) None
