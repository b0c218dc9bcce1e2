-- One law for each kind of record, from what the calls ensure to what the turn promises. Assumes nothing.
use Prim.Native.Nat.{ℕ}
use mathlib.Core.Path.{◌≡◌, ap, sym, ◌∙◌}
use mathlib.Core.List.{List}
use Rattle.block.specs.Block.{Block}
use Rattle.block.proofs.Laws.{block_of}
use Rattle.house.specs.declared.Record.{Record}
use Rattle.house.specs.declared.Record.TheVariants.{Ordinary, Low, Draw}
use Rattle.sender.specs.Answers.{Given, given_by, Left}
use Rattle.sender.specs.Offering.{ordinary_offered, low_offered}
use Rattle.sender.specs.Run.{kept}
use Rattle.sender.specs.declared.Sender.{Sender}
use Rattle.sender.specs.declared.Refusal.{Refusal}
use Rattle.std.specs.Prelude.{Option, Result}
use Rattle.sending.specs.Turn.{refused_by, Drawn, drawn_of, After, turn_of}

abbrev after : Sender → List ℕ → List ℕ → Block → Option ℕ → After
after s low ordinary o n = record { sender = s; low = low; ordinary = ordinary; block = o; refused = n }

abbrev left : Result Sender Refusal → List ℕ → Left
left a b = record { given = given_by a; buffer = b }

module _ (said : Record) (s : Sender) (d low ordinary : List ℕ) (tp : ℕ) (o : Block) where
  abbrev Turns : After → Type 0
  Turns x = x ≡ turn_of said s d low ordinary tp o

  pub to_ordinary : (c n : ℕ) (b : List ℕ) (a : Result Sender Refusal) (t : Sender) (at : ℕ) (k : Option ℕ)
      → said ≡ Ordinary c n → left a b ≡ ordinary_offered s low ordinary c d → t ≡ kept s (given_by a) → at ≡ o.at → k ≡ refused_by (given_by a) → Turns (after t low b (block_of o.bytes at) k)
  to_ordinary c n b a t at k is g taken stays told =
      ap (λ (x : Sender). after x low b (block_of o.bytes at) k) taken
      ∙ ap (λ (n : ℕ). after (kept s (given_by a)) low b (block_of o.bytes n) k) stays
      ∙ ap (λ (m : Option ℕ). after (kept s (given_by a)) low b o m) told
      ∙ ap (λ (l : Left). after (kept s l.given) low l.buffer o (refused_by l.given)) g
      ∙ ap (λ (x : Record). turn_of x s d low ordinary tp o) (sym is)

  pub to_low : (c n : ℕ) (b : List ℕ) (a : Result Sender Refusal) (t : Sender) (at : ℕ) (k : Option ℕ)
      → said ≡ Low c n → left a b ≡ low_offered s low ordinary c d → t ≡ kept s (given_by a) → at ≡ o.at → k ≡ refused_by (given_by a) → Turns (after t b ordinary (block_of o.bytes at) k)
  to_low c n b a t at k is g taken stays told =
      ap (λ (x : Sender). after x b ordinary (block_of o.bytes at) k) taken
      ∙ ap (λ (n : ℕ). after (kept s (given_by a)) b ordinary (block_of o.bytes n) k) stays
      ∙ ap (λ (m : Option ℕ). after (kept s (given_by a)) b ordinary o m) told
      ∙ ap (λ (l : Left). after (kept s l.given) l.buffer ordinary o (refused_by l.given)) g
      ∙ ap (λ (x : Record). turn_of x s d low ordinary tp o) (sym is)

  pub to_draw : (x : Drawn) → said ≡ Draw → x ≡ drawn_of s low ordinary tp o.bytes o.at → Turns (after x.sender low ordinary x.block x.refused)
  to_draw x is g =
      ap (λ (y : Drawn). after y.sender low ordinary y.block y.refused) g
      ∙ ap (λ (y : Record). turn_of y s d low ordinary tp o) (sym is)
