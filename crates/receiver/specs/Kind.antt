-- What an EP is to reassembly (document 01, "Layouts"). Assumes nothing.
use Rattle.std.specs.Prelude.{ℕ, cond, eqb}
use Rattle.wire.specs.declared.Header.{Header}
use Rattle.wire.specs.declared.Sort.{Sort}
use Rattle.wire.specs.declared.Sort.TheVariants as S
use Rattle.wire.specs.Reading.{sort_of}
use Rattle.receiver.specs.declared.kind.Kind.{Kind}
use Rattle.receiver.specs.declared.kind.Kind.TheVariants.{Fill, Reserved, Complete, First, Middle, Last}

-- fragment: 0 complete, 1 first, 2 middle, 3 last
unfoldable pub piece_of : ℕ → Kind → Kind → Kind
piece_of fragment complete first = cond (eqb fragment 0) complete (cond (eqb fragment 1) first (cond (eqb fragment 2) Middle Last))

-- fill, whatever its flag; a middle or last of any other content; a complete or first of content 7 to 15
abbrev pub kind_by : Sort → ℕ → Kind
kind_by S.Fill fragment = Fill
kind_by S.Known fragment = piece_of fragment Complete First
kind_by S.Reserved fragment = piece_of fragment Reserved Reserved

unfoldable pub kind_of : Header → Kind
kind_of h = kind_by (sort_of h.content) h.fragment
