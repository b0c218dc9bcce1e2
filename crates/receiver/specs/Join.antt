-- Reassembly: what the EPs read amount to (document 01, "Receiver", and 14 to 16). Each event gives at most one find.
-- Assumes nothing.
use Rattle.std.specs.Prelude.{ℕ, ◌+◌, cond, List, [], ◌∷◌, ◌++◌, leb, eqb, length, set, None, Option, Some}
use Rattle.receiver.specs.declared.kind.Kind.{Kind}
use Rattle.receiver.specs.declared.kind.Kind.TheVariants.{Fill, Reserved, Complete, First, Middle, Last}
use Rattle.receiver.specs.Frame.{Code, Event, lose, gap, opened, entered, fed, closed}

module _ (C : Code) where
  -- a notice of this number and place; a packet
  pub data Finding : Type 0 where
    notice : ℕ → C.S → Finding
    low ordinary : C.T → List C.K → Finding

  -- what is kept: nothing, or the bytes so far of a packet, and what it is known by
  pub data Held : Type 0 where
    free : Held
    held : C.T → List C.K → Held

  abbrev pub Took : Type 0
  Took = Held × Option Finding

  -- 14: "a complete, first or fill EP while one is held"
  abbrev pub broken : C.H → Held → Took
  broken h free = (free, None)
  broken h (held t d) = (free, Some (notice 14 (C.place h)))

  -- 14: "middle or last, not fill, without a held series of its content"
  abbrev pub goes_on : C.H → Held → Took
  goes_on h free = (free, Some (notice 14 (C.place h)))
  goes_on h (held t d) = cond (eqb (C.sort t) (C.content h)) (held t d, None) (free, Some (notice 14 (C.place h)))

  -- a header is whole
  abbrev pub meets : Kind → C.H → Held → Took
  meets Fill h s = broken h s
  meets Reserved h s = broken h s
  meets Complete h s = broken h s
  meets First h s = broken h s
  meets Middle h s = goes_on h s
  meets Last h s = goes_on h s

  -- a data byte. Inside an EP nothing kept means that it is passed over
  abbrev pub grown : Held → C.K → Held
  grown free b = free
  grown (held t d) b = held t (d ++ b ∷ [])

  abbrev pub handed : Held → Took
  handed free = (free, None)
  handed (held t d) = (free, Some (ordinary t d))

  -- "Complete: handed out when its last byte is read. First: held. Middle and last: joined ..; last then hands out."
  abbrev pub finish : Kind → Held → Took
  finish Fill s = (s, None)
  finish Reserved s = (s, None)
  finish Complete s = handed s
  finish First s = (s, None)
  finish Middle s = (s, None)
  finish Last s = handed s

  abbrev pub listed : Option Finding → List Finding
  listed None = []
  listed (Some f) = f ∷ []

  -- "An ordinary packet's data are copied as they are read, from the room's first byte on; no other room byte changes."
  abbrev pub put : Held → C.K → List C.K → List C.K
  put free b m = m
  put (held t d) b m = set m (length d) b

  abbrev pub stored : Held → Event C → List C.K → List C.K
  stored s (lose n p) m = m
  stored s gap m = m
  stored s (opened h) m = m
  stored s (entered h) m = m
  stored s (fed b) m = put s b m
  stored s (closed h) m = m

-- room: how many bytes it has
module _ (C : Code) (room : ℕ) where
  -- 15: "held bytes + length > room": "SP dropped, EP passed over"
  abbrev pub fits : C.H → C.T → List C.K → Took C
  fits h t d = cond (leb (length d + C.size h) room) (held t d, None) (free, Some (notice 15 (C.place h)))

  abbrev pub further : C.H → Held C → Took C
  further h free = (free, None)
  further h (held t d) = fits h (C.join t h) d

  -- the way into an EP. 16: "content 7 to 15: EP passed over"; fill is passed over; a middle or last that got 14 too
  abbrev pub admit : Kind → C.H → Held C → Took C
  admit Fill h s = (free, None)
  admit Reserved h s = (free, Some (notice 16 (C.place h)))
  admit Complete h s = fits h (C.begin h) []
  admit First h s = fits h (C.begin h) []
  admit Middle h s = further h s
  admit Last h s = further h s

  -- what an event leaves, and what it gives. Out of step "the unfinished EP and the held fragments are dropped"; a told gap
  -- is no notice
  abbrev pub take_in : Held C → Event C → Took C
  take_in s (lose n p) = (free, Some (notice n p))
  take_in s gap = (free, None)
  take_in s (opened h) = meets C (C.kind h) h s
  take_in s (entered h) = admit (C.kind h) h s
  take_in s (fed b) = (grown C s b, None)
  take_in s (closed h) = finish C (C.kind h) s

  abbrev pub holding : Held C → List (Event C) → Held C
  holding s [] = s
  holding s (e ∷ es) = holding (take_in s e).0 es

  abbrev pub finds : Held C → List (Event C) → List (Finding C)
  finds s [] = []
  finds s (e ∷ es) = listed C (take_in s e).1 ++ finds (take_in s e).0 es
