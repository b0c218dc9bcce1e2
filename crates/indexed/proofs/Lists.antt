-- Laws of lists that no library has: what is chosen, what holds of all, what rises. Assumes nothing.
use mathlib.Core.Path.{◌≡◌, refl, sym, ap, ap₂, ◌∙◌}
use mathlib.Core.Bool.{Bool, true, false, cond, ◌&&◌}
use mathlib.Core.List.{List, [], ◌∷◌, ◌++◌, map}
use Rattle.indexed.specs.Packets.{chosen, All, Rising}

module _ {A : Type 0} where
  pub chosen_append : (test : A → Bool) (xs ys : List A) → chosen test (xs ++ ys) ≡ chosen test xs ++ chosen test ys
  chosen_append test [] ys = refl
  chosen_append test (x ∷ xs) ys = go (test x) (chosen_append test xs ys)
    where
      go : (b : Bool) → chosen test (xs ++ ys) ≡ chosen test xs ++ chosen test ys
          → cond b (x ∷ chosen test (xs ++ ys)) (chosen test (xs ++ ys)) ≡ cond b (x ∷ chosen test xs) (chosen test xs) ++ chosen test ys
      go true ih = ap (λ l. x ∷ l) ih
      go false ih = ih

  pub none_chosen : (test : A → Bool) (xs : List A) → All (λ x. test x ≡ false) xs → chosen test xs ≡ []
  none_chosen test [] a = refl
  none_chosen test (x ∷ xs) a = ap (λ (b : Bool). cond b (x ∷ chosen test xs) (chosen test xs)) a.0 ∙ none_chosen test xs a.1

  pub all_chosen : (test : A → Bool) (xs : List A) → All (λ x. test x ≡ true) xs → chosen test xs ≡ xs
  all_chosen test [] a = refl
  all_chosen test (x ∷ xs) a = ap (λ (b : Bool). cond b (x ∷ chosen test xs) (chosen test xs)) a.0 ∙ ap (λ l. x ∷ l) (all_chosen test xs a.1)

  pub all_append : (Q : A → Type 0) (xs ys : List A) → All Q xs → All Q ys → All Q (xs ++ ys)
  all_append Q [] ys a b = b
  all_append Q (x ∷ xs) ys a b = (a.0, all_append Q xs ys a.1 b)

  pub all_map : (Q R : A → Type 0) → ((x : A) → Q x → R x) → (xs : List A) → All Q xs → All R xs
  all_map Q R f [] a = tt
  all_map Q R f (x ∷ xs) a = (f x a.0, all_map Q R f xs a.1)

module _ {A B : Type 0} where
  pub chosen_map : (f : A → B) (test : B → Bool) (xs : List A) → chosen test (map f xs) ≡ map f (chosen (λ x. test (f x)) xs)
  chosen_map f test [] = refl
  chosen_map f test (x ∷ xs) = go (test (f x)) (chosen_map f test xs)
    where
      go : (b : Bool) → chosen test (map f xs) ≡ map f (chosen (λ y. test (f y)) xs)
          → cond b (f x ∷ chosen test (map f xs)) (chosen test (map f xs)) ≡ map f (cond b (x ∷ chosen (λ y. test (f y)) xs) (chosen (λ y. test (f y)) xs))
      go true ih = ap (λ l. f x ∷ l) ih
      go false ih = ih

  pub all_of_map : (Q : B → Type 0) (f : A → B) (xs : List A) → All Q (map f xs) → All (λ x. Q (f x)) xs
  all_of_map Q f [] a = tt
  all_of_map Q f (x ∷ xs) a = (a.0, all_of_map Q f xs a.1)

  pub all_to_map : (Q : B → Type 0) (f : A → B) (xs : List A) → All (λ x. Q (f x)) xs → All Q (map f xs)
  all_to_map Q f [] a = tt
  all_to_map Q f (x ∷ xs) a = (a.0, all_to_map Q f xs a.1)

  pub rising_of_map : (R : B → B → Type 0) (f : A → B) (xs : List A) → Rising R (map f xs) → Rising (λ x y. R (f x) (f y)) xs
  rising_of_map R f [] r = tt
  rising_of_map R f (x ∷ xs) r = (all_of_map (R (f x)) f xs r.0, rising_of_map R f xs r.1)

  pub rising_to_map : (R : B → B → Type 0) (f : A → B) (xs : List A) → Rising (λ x y. R (f x) (f y)) xs → Rising R (map f xs)
  rising_to_map R f [] r = tt
  rising_to_map R f (x ∷ xs) r = (all_to_map (R (f x)) f xs r.0, rising_to_map R f xs r.1)

module _ {A : Type 0} where
  pub all_left : (Q : A → Type 0) (xs ys : List A) → All Q (xs ++ ys) → All Q xs
  all_left Q [] ys a = tt
  all_left Q (x ∷ xs) ys a = (a.0, all_left Q xs ys a.1)

  pub all_right : (Q : A → Type 0) (xs ys : List A) → All Q (xs ++ ys) → All Q ys
  all_right Q [] ys a = a
  all_right Q (x ∷ xs) ys a = all_right Q xs ys a.1

  pub rising_append : (R : A → A → Type 0) (xs ys : List A) → Rising R xs → Rising R ys → All (λ x. All (R x) ys) xs → Rising R (xs ++ ys)
  rising_append R [] ys r s a = s
  rising_append R (x ∷ xs) ys r s a = (all_append (R x) xs ys r.0 a.0, rising_append R xs ys r.1 s a.1)

  pub rising_right : (R : A → A → Type 0) (xs ys : List A) → Rising R (xs ++ ys) → Rising R ys
  rising_right R [] ys r = r
  rising_right R (x ∷ xs) ys r = rising_right R xs ys r.1

  -- in a list that rises, all before an element stand before it
  pub rising_before : (R : A → A → Type 0) (xs ys : List A) (y : A) → Rising R (xs ++ y ∷ ys) → All (λ x. R x y) xs
  rising_before R [] ys y r = tt
  rising_before R (x ∷ xs) ys y r = ((all_right (R x) xs (y ∷ ys) r.0).0, rising_before R xs ys y r.1)

  -- one choice behind the other
  pub chosen_twice : (a b : A → Bool) (xs : List A) → chosen (λ x. a x && b x) xs ≡ chosen b (chosen a xs)
  chosen_twice a b [] = refl
  chosen_twice a b (x ∷ xs) = go (a x) (b x) refl (chosen_twice a b xs)
    where
      go : (u v : Bool) → b x ≡ v → chosen (λ y. a y && b y) xs ≡ chosen b (chosen a xs)
          → cond (u && v) (x ∷ chosen (λ y. a y && b y) xs) (chosen (λ y. a y && b y) xs) ≡ chosen b (cond u (x ∷ chosen a xs) (chosen a xs))
      go true true e ih = ap (λ l. x ∷ l) ih ∙ sym (ap (λ (w : Bool). cond w (x ∷ chosen b (chosen a xs)) (chosen b (chosen a xs))) e)
      go true false e ih = ih ∙ sym (ap (λ (w : Bool). cond w (x ∷ chosen b (chosen a xs)) (chosen b (chosen a xs))) e)
      go false true e ih = ih
      go false false e ih = ih

  pub chosen_swap : (a b : A → Bool) (xs : List A) → chosen (λ x. a x && b x) xs ≡ chosen a (chosen b xs)
  chosen_swap a b xs = swap xs ∙ chosen_twice b a xs
    where
      go : (u v : Bool) → u && v ≡ v && u
      go true true = refl
      go true false = refl
      go false true = refl
      go false false = refl

      swap : (ys : List A) → chosen (λ x. a x && b x) ys ≡ chosen (λ x. b x && a x) ys
      swap [] = refl
      swap (y ∷ ys) = ap₂ (λ (w : Bool) (l : List A). cond w (y ∷ l) l) (go (a y) (b y)) (swap ys)
