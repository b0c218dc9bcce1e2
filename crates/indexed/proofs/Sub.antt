-- SUBLISTS: the elements of one list among another's, in order. What holds of all, or rises, does so in a sublist. Assumes nothing.
use mathlib.Core.Path.{sym, subst}
use mathlib.Core.List.{List, [], ◌∷◌, ◌++◌, append-nil, append_assoc}
use Rattle.indexed.specs.Packets.{All, Rising}

module _ {A : Type 0} where
  pub data Sub : List A → List A → Type 0 where
    end : Sub [] []
    skip : {x : A} {xs ys : List A} → Sub xs ys → Sub xs (x ∷ ys)
    both : {x : A} {xs ys : List A} → Sub xs ys → Sub (x ∷ xs) (x ∷ ys)

  pub all_sub : (Q : A → Type 0) {xs ys : List A} → Sub xs ys → All Q ys → All Q xs
  all_sub Q end a = tt
  all_sub Q (skip s) a = all_sub Q s a.1
  all_sub Q (both s) a = (a.0, all_sub Q s a.1)

  pub rising_sub : (Before : A → A → Type 0) {xs ys : List A} → Sub xs ys → Rising Before ys → Rising Before xs
  rising_sub Before end a = tt
  rising_sub Before (skip s) a = rising_sub Before s a.1
  rising_sub Before (both {x = x} s) a = (all_sub (Before x) s a.0, rising_sub Before s a.1)

  pub sub_refl : (xs : List A) → Sub xs xs
  sub_refl [] = end
  sub_refl (x ∷ xs) = both (sub_refl xs)

  pub sub_none : (xs : List A) → Sub [] xs
  sub_none [] = end
  sub_none (x ∷ xs) = skip (sub_none xs)

  pub sub_append : {a b c d : List A} → Sub a b → Sub c d → Sub (a ++ c) (b ++ d)
  sub_append end t = t
  sub_append (skip s) t = skip (sub_append s t)
  sub_append (both s) t = both (sub_append s t)

  pub sub_trans : {a b c : List A} → Sub a b → Sub b c → Sub a c
  sub_trans s end = s
  sub_trans s (skip t) = skip (sub_trans s t)
  sub_trans (skip s) (both t) = skip (sub_trans s t)
  sub_trans (both {x = x} {xs = xs} s) (both {xs = xs'} {ys = ys} t) = both (sub_trans {a = xs} s t)

  -- a: given now; b: given later; c: known at the end; d: known between; e: comes later; f: known first; g: comes now
  pub chain : (a b c d e f g : List A) → Sub (a ++ d) (f ++ g) → Sub (b ++ c) (d ++ e) → Sub ((a ++ b) ++ c) (f ++ (g ++ e))
  chain a b c d e f g s t =
      subst (λ (l : List A). Sub l (f ++ (g ++ e))) (sym (append_assoc a b c))
      (subst (λ (l : List A). Sub (a ++ (b ++ c)) l) (append_assoc f g e)
      (sub_trans (sub_append (sub_refl a) t) (subst (λ (l : List A). Sub l ((f ++ g) ++ e)) (append_assoc a d e) (sub_append s (sub_refl e)))))

  pub front : (a b c : List A) → Sub (a ++ b) c → Sub a c
  front a b c s = sub_trans (subst (λ (l : List A). Sub l (a ++ b)) (append-nil a) (sub_append (sub_refl a) (sub_none b))) s

  pub none_after : (xs : List A) → Sub xs (xs ++ [])
  none_after xs = subst (λ (l : List A). Sub xs l) (sym (append-nil xs)) (sub_refl xs)
