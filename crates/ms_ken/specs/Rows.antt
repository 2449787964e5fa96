-- Views: the lists of all owners at once.
use Rattle.std.proofs.Common.{◌≡◌, ◌≢◌, ℕ, zero, suc, ◌<◌, ◌≤◌, List, [], ◌∷◌, ◌++◌, ◌⊎◌, length, refl, sym, ap, ◌∙◌, subst, inl, inr, ⊎_elim, arith, get_or-set_same, length-set}
use Rattle.std.proofs.lemmas.List.{get_or-set_other}
use Rattle.std.specs.Prelude.{replicate, Option, Some, None, slice_get}
use mathlib.Core.List.{IsPrefix}
use mathlib.Core.Logic.{dite}
use native.Mathlib.Decide.{dec_le, ℕ_discrete}
use Rattle.ms_ken.specs.Lists.{list_at, Begins, Agree, longer, longer_lists, with_item, with_told, MayFollow}
use Rattle.ms_ken.specs.Prefixes.{prefix_self, prefix_trans, prefix_item, prefix_is, prefix_length, prefix_whole, prefix_shorter, prefix_both, prefix_get, get_last, longer_first, longer_by, longer_of_prefix, longer_to_prefix}

module _ {E : Type 0} where
  -- views of as many owners whose lists are the same are one
  pub same_lists : (xs ys : List (List E)) → length xs ≡ length ys → ((k : ℕ) → list_at xs k ≡ list_at ys k) → xs ≡ ys
  same_lists [] [] wide same = refl
  same_lists [] (y ∷ ys) wide same = absurd (omega arith)
  same_lists (x ∷ xs) [] wide same = absurd (omega arith)
  same_lists (x ∷ xs) (y ∷ ys) wide same =
      let head : x ≡ y = same zero in
      let rest = same_lists xs ys (omega arith) (λ k. same (suc k)) in
      cc (head, rest)

  pub list_at-replicate : (n k : ℕ) → list_at {E = E} (replicate n []) k ≡ []
  list_at-replicate zero k = refl
  list_at-replicate (suc n) zero = refl
  list_at-replicate (suc n) (suc k) = list_at-replicate n k

  pub list_at-longer_lists : (xs ys : List (List E)) (k : ℕ) → list_at (longer_lists xs ys) k ≡ longer (list_at xs k) (list_at ys k)
  list_at-longer_lists [] ys k = longer_by (λ l. list_at ys k ≡ l) [] (list_at ys k) (λ le. none_longer (list_at ys k) le) (λ lt. refl)
    where
      none_longer : (l : List E) → length l ≤ 0 → l ≡ []
      none_longer [] le = refl
      none_longer (x ∷ l) le = absurd (omega arith)
  list_at-longer_lists (x ∷ xs) [] k = sym (longer_first (list_at (x ∷ xs) k) [] (omega arith))
  list_at-longer_lists (x ∷ xs) (y ∷ ys) zero = refl
  list_at-longer_lists (x ∷ xs) (y ∷ ys) (suc k) = list_at-longer_lists xs ys k

  pub length-longer_lists : (xs ys : List (List E)) → length xs ≡ length ys → length (longer_lists xs ys) ≡ length xs
  length-longer_lists [] [] e = refl
  length-longer_lists [] (y ∷ ys) e = absurd (omega arith)
  length-longer_lists (x ∷ xs) [] e = refl
  length-longer_lists (x ∷ xs) (y ∷ ys) e = ap suc (length-longer_lists xs ys (omega arith))

  pub begins_self : (xs : List (List E)) → Begins xs xs
  begins_self xs k = prefix_self (list_at xs k)

  pub begins_trans : (xs ys zs : List (List E)) → Begins xs ys → Begins ys zs → Begins xs zs
  begins_trans xs ys zs p q k = prefix_trans (list_at xs k) (list_at ys k) (list_at zs k) (p k) (q k)

  -- two views that begin each other are one
  pub begins_both : (xs ys : List (List E)) → length xs ≡ length ys → Begins xs ys → Begins ys xs → xs ≡ ys
  begins_both xs ys wide p q = same_lists xs ys wide (λ k. prefix_both (list_at xs k) (list_at ys k) (p k) (q k))

  -- both begin the lists, so they agree
  pub agree_within : (xs ys zs : List (List E)) → Begins xs zs → Begins ys zs → Agree xs ys
  agree_within xs ys zs p q k =
      dite (dec_le (length (list_at xs k)) (length (list_at ys k)))
      (λ le. inl (prefix_shorter (list_at xs k) (list_at ys k) (list_at zs k) (p k) (q k) le))
      (λ no. inr (prefix_shorter (list_at ys k) (list_at xs k) (list_at zs k) (q k) (p k) (omega arith)))

  -- of two that agree, both begin the longer lists
  pub agree_first : (xs ys : List (List E)) → Agree xs ys → Begins xs (longer_lists xs ys)
  agree_first xs ys agree k =
      let a = list_at xs k in let b = list_at ys k in
      subst (IsPrefix a) (sym (list_at-longer_lists xs ys k))
      (⊎_elim
      (λ p. longer_by (IsPrefix a) a b (λ _. prefix_self a) (λ _. p))
      (λ p. longer_by (IsPrefix a) a b (λ _. prefix_self a) (λ lt. absurd (omega (arith, prefix_length b a p))))
      (agree k))

  pub agree_second : (xs ys : List (List E)) → Agree xs ys → Begins ys (longer_lists xs ys)
  agree_second xs ys agree k =
      let a = list_at xs k in let b = list_at ys k in
      subst (IsPrefix b) (sym (list_at-longer_lists xs ys k))
      (⊎_elim
      (λ p. longer_by (IsPrefix b) a b (λ le. prefix_is b a (sym (prefix_whole a b p le))) (λ _. prefix_self b))
      (λ p. longer_by (IsPrefix b) a b (λ _. p) (λ _. prefix_self b))
      (agree k))

  -- the longer lists of a beginning and the whole are the whole
  pub longer_of_begins : (xs ys : List (List E)) → length xs ≡ length ys → Begins xs ys → longer_lists xs ys ≡ ys
  longer_of_begins xs ys wide p =
      same_lists (longer_lists xs ys) ys (length-longer_lists xs ys wide ∙ wide) (λ k. list_at-longer_lists xs ys k ∙ longer_of_prefix (list_at xs k) (list_at ys k) (p k))

  pub longer_to_begins : (xs ys : List (List E)) → length xs ≡ length ys → Begins ys xs → longer_lists xs ys ≡ xs
  longer_to_begins xs ys wide p =
      same_lists (longer_lists xs ys) xs (length-longer_lists xs ys wide) (λ k. list_at-longer_lists xs ys k ∙ longer_to_prefix (list_at xs k) (list_at ys k) (p k))

  -- of two that agree, it is one whose lists come first
  pub longer_lists-swap : (xs ys : List (List E)) → length xs ≡ length ys → Agree xs ys → longer_lists xs ys ≡ longer_lists ys xs
  longer_lists-swap xs ys wide agree =
      same_lists (longer_lists xs ys) (longer_lists ys xs) (length-longer_lists xs ys wide ∙ (wide ∙ sym (length-longer_lists ys xs (sym wide))))
      (λ k. list_at-longer_lists xs ys k ∙ (swapped (list_at xs k) (list_at ys k) (agree k) ∙ sym (list_at-longer_lists ys xs k)))
    where
      swapped : (a b : List E) → IsPrefix a b ⊎ IsPrefix b a → longer a b ≡ longer b a
      swapped a b either = ⊎_elim (λ p. longer_of_prefix a b p ∙ sym (longer_to_prefix b a p)) (λ p. longer_to_prefix a b p ∙ sym (longer_of_prefix b a p)) either

  -- lists begin those with one item more
  pub begins_item : (lists : List (List E)) (k : ℕ) (x : E) → Begins lists (with_item lists k x)
  begins_item [] k x j = prefix_self []
  begins_item (l ∷ ls) zero x zero = prefix_item l x
  begins_item (l ∷ ls) zero x (suc j) = prefix_self (list_at ls j)
  begins_item (l ∷ ls) (suc k) x zero = prefix_self l
  begins_item (l ∷ ls) (suc k) x (suc j) = begins_item ls k x j

  pub begins_told : (lists : List (List E)) (word : Option ℕ) (x : E) → Begins lists (with_told lists word x)
  begins_told lists None x = begins_self lists
  begins_told lists (Some k) x = begins_item lists k x

  pub length-with_item : (lists : List (List E)) (k : ℕ) (x : E) → length (with_item lists k x) ≡ length lists
  length-with_item lists k x = length-set lists k (list_at lists k ++ x ∷ [])

  pub item_here : (lists : List (List E)) (k : ℕ) (x : E) → k < length lists → list_at (with_item lists k x) k ≡ list_at lists k ++ x ∷ []
  item_here lists k x lt = get_or-set_same lists k (list_at lists k ++ x ∷ []) [] lt

  pub item_else : (lists : List (List E)) (k : ℕ) (x : E) (j : ℕ) → j ≢ k → list_at (with_item lists k x) j ≡ list_at lists j
  item_else lists k x j ne = get_or-set_other lists k j (list_at lists k ++ x ∷ []) [] ne

  -- what was told stands, at the number that it had then, in whatever goes on from there
  pub told_stands : (lists more : List (List E)) (k : ℕ) (x : E) → k < length lists → Begins (with_item lists k x) more → slice_get (list_at more k) (length (list_at lists k)) ≡ Some x
  told_stands lists more k x lt begins =
      prefix_get (list_at (with_item lists k x) k) (list_at more k) (length (list_at lists k)) x (begins k)
      (subst (λ l. slice_get l (length (list_at lists k)) ≡ Some x) (sym (item_here lists k x lt)) (get_last (list_at lists k) x))

  -- two views that have one list of k, and of j, do so after one item more
  pub item_same : (xs ys : List (List E)) (k : ℕ) (x : E) (j : ℕ) → k < length xs → k < length ys → list_at xs k ≡ list_at ys k → list_at xs j ≡ list_at ys j → list_at (with_item xs k x) j ≡ list_at (with_item ys k x) j
  item_same xs ys k x j lx ly ek ej =
      dite (ℕ_discrete j k)
      (λ e. subst (λ i. list_at (with_item xs k x) i ≡ list_at (with_item ys k x) i) (sym e) (item_here xs k x lx ∙ (ap (λ l. l ++ x ∷ []) ek ∙ sym (item_here ys k x ly))))
      (λ ne. item_else xs k x j ne ∙ (ej ∙ sym (item_else ys k x j ne)))

  -- beginnings stay beginnings where both have one item more
  pub begins_same : (xs ys : List (List E)) (k : ℕ) (x : E) → k < length xs → k < length ys → list_at xs k ≡ list_at ys k → Begins xs ys → Begins (with_item xs k x) (with_item ys k x)
  begins_same xs ys k x lx ly ek b j =
      dite (ℕ_discrete j k)
      (λ e. prefix_is _ _ (item_same xs ys k x j lx ly ek (subst (λ i. list_at xs i ≡ list_at ys i) (sym e) ek)))
      (λ ne. subst (λ l. IsPrefix l (list_at (with_item ys k x) j)) (sym (item_else xs k x j ne)) (subst (λ l. IsPrefix (list_at xs j) l) (sym (item_else ys k x j ne)) (b j)))

  -- what may follow what is known may follow what is known later
  pub may_follow_later : (closed : List (List E) → Type 0) (n : ℕ) (lists later : List (List E)) (k : ℕ) (x : E) → Begins lists later → MayFollow closed n lists k x → MayFollow closed n later k x
  may_follow_later closed n lists later k x begins follows more wide all later_begins = follows more wide all (begins_trans lists later more begins later_begins)
