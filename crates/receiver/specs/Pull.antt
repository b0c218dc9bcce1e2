-- "Each call gives one find": reading on up to it, and not a byte further. Assumes nothing.
use Rattle.std.specs.Prelude.{ℕ, suc, List, [], ◌∷◌, None, Option, Some}
use Rattle.receiver.specs.Frame.{Code, Frame, Event, step}
use Rattle.receiver.specs.Join.{Held, Finding, take_in, stored}

module _ (C : Code) where
  -- events taken in, in order, until one gives a find: then with those left; and the room's bytes
  pub data Met : Type 0 where
    dry : Held C → List C.K → Met
    found : Finding C → Held C → List C.K → List (Event C) → Met

  abbrev pub met : Option (Finding C) → Held C → List C.K → List (Event C) → Met → Met
  met None s m es on = on
  met (Some f) s m es on = found f s m es

  -- what a call gives, and where it leaves everything
  pub record Pulled : Type 0 where
    pub find : Option (Finding C)
    pub at : ℕ
    pub frame : Frame C
    pub todo : List (Event C)
    pub held : Held C
    pub room : List C.K

  abbrev pub upto : Met → Frame C → ℕ → (Held C → List C.K → Pulled) → Pulled
  upto (dry s m) f at on = on s m
  upto (found x s m es) f at on = record { find = Some x; at = at; frame = f; todo = es; held = s; room = m }

module _ (C : Code) (cap : ℕ) where
  abbrev pub meet : Held C → List C.K → List (Event C) → Met C
  meet s m [] = dry s m
  meet s m (e ∷ es) = met C (take_in C cap s e).1 (take_in C cap s e).0 (stored C s e m) es (meet (take_in C cap s e).0 (stored C s e m) es)

  abbrev pub reads : List C.B → Frame C → ℕ → Held C → List C.K → Pulled C
  reads [] f at s m = record { find = None; at = at; frame = f; todo = []; held = s; room = m }
  reads (b ∷ bs) f at s m =
      upto C (meet s m (step C f b).1) (step C f b).0 (suc at) (λ s' m'. reads bs (step C f b).0 (suc at) s' m')

  -- first what was met, then bytes
  abbrev pub pull : Frame C → ℕ → Met C → List C.B → Pulled C
  pull f at x bs = upto C x f at (λ s m. reads bs f at s m)
