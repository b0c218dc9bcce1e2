-- The settings that an opening allows (document 01, "Sender"; "Opened with TP length and stream in the sender's limits"; "a setup
-- outside the sender's limits"). Assumes nothing.
use Rattle.std.specs.Prelude.{Bool, ◌&&◌, ℕ, leb}

-- TP length 16 to 2,051 (so P is 12 to 2,047), stream 0 to 15
unfoldable pub link_allowed : ℕ → ℕ → Bool
link_allowed tp stream = leb 16 tp && (leb tp 2051 && leb stream 15)

-- and fragment size F of 1 to 65,535
unfoldable pub allowed : ℕ → ℕ → ℕ → Bool
allowed tp stream F = link_allowed tp stream && (leb 1 F && leb F 65535)
