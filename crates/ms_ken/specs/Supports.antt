-- Views each of whose items is supported by the view, for a support that stays when lists grow: an instance of `Closed`.
use Rattle.std.specs.Prelude.{◌≡◌, ℕ, ◌<◌, ◌⊎◌, List, [], ◌∷◌, ◌++◌, length, replicate, Some, slice_get}
use Rattle.std.proofs.Common.{refl, sym, ap, ◌∙◌, subst, inl, inr, ⊎_elim}
use mathlib.Core.Logic.{dite}
use native.Mathlib.Decide.{ℕ_discrete}
use Rattle.ms_ken.specs.Lists.{list_at, Begins, Agree, longer_lists, with_item, MayFollow}
use Rattle.ms_ken.specs.Prefixes.{get_splits, longer_by}
use Rattle.ms_ken.specs.Rows.{list_at-replicate, list_at-longer_lists, agree_first, agree_second, begins_item, item_here, item_else}

module _ {E : Type 0} where
  -- an item of a list with one more stands in the list, or is the last
  pub snoc_cases : (before after l : List E) (y x : E) → before ++ y ∷ after ≡ l ++ x ∷ [] → ((rest : List E) × (before ++ y ∷ rest ≡ l)) ⊎ ((before ≡ l) × (y ≡ x))
  snoc_cases [] after [] y x e = inr (refl, cc e)
  snoc_cases [] after (l ∷ ls) y x e = inl (ls, cc e)
  snoc_cases (b ∷ []) after [] y x e = absurd (cc e)
  snoc_cases (b ∷ c ∷ bs) after [] y x e = absurd (cc e)
  snoc_cases (b ∷ bs) after (l ∷ ls) y x e =
      let heads : b ≡ l = cc e in
      ⊎_elim
      (λ (h : (rest : List E) × (bs ++ y ∷ rest ≡ ls)). inl (h.0, cc (heads, h.1)))
      (λ (h : (bs ≡ ls) × (y ≡ x)). inr (cc (heads, h.0), h.1))
      (snoc_cases bs after ls y x (cc e))

module _ {E : Type 0} (Supported : List (List E) → ℕ → List E → E → Type 0) where
  -- each item of each owner's list is supported, where some items stand before it
  abbrev pub AllSupported : List (List E) → Type 0
  AllSupported lists = (k : ℕ) (before : List E) (x : E) (after : List E) → before ++ x ∷ after ≡ list_at lists k → Supported lists k before x

  abbrev pub Stays : Type 0
  Stays = (xs ys : List (List E)) → Begins xs ys → (k : ℕ) (before : List E) (x : E) → Supported xs k before x → Supported ys k before x

  pub supported_of_nothing : (n : ℕ) → AllSupported (replicate n [])
  supported_of_nothing n k before x after is = absurd (nothing_there before x after (is ∙ list_at-replicate n k))
    where
      nothing_there : (before : List E) (x : E) (after : List E) → before ++ x ∷ after ≡ [] → ⊥
      nothing_there [] x after e = cc e
      nothing_there (b ∷ bs) x after e = cc e

  pub supported_of_longer : Stays → (xs ys : List (List E)) → length xs ≡ length ys → AllSupported xs → AllSupported ys → Agree xs ys → AllSupported (longer_lists xs ys)
  supported_of_longer stays xs ys _ p q agree k before x after is =
      longer_by (λ l. before ++ x ∷ after ≡ l → Supported (longer_lists xs ys) k before x) (list_at xs k) (list_at ys k)
      (λ _ e. stays xs (longer_lists xs ys) (agree_first xs ys agree) k before x (p k before x after e))
      (λ _ e. stays ys (longer_lists xs ys) (agree_second xs ys agree) k before x (q k before x after e))
      (is ∙ list_at-longer_lists xs ys k)

  -- the item at a place is supported, where those before it stand before it
  pub supported_at : (lists : List (List E)) (k i : ℕ) (x : E) → AllSupported lists → slice_get (list_at lists k) i ≡ Some x → (before : List E) × (length before ≡ i) × Supported lists k before x
  supported_at lists k i x all h = let p = get_splits (list_at lists k) i x h in (p.0, p.2, all k p.0 x p.1 p.3)

  -- one item more, which is supported
  pub supported_item : Stays → (lists : List (List E)) (k : ℕ) (x : E) → k < length lists → AllSupported lists → Supported (with_item lists k x) k (list_at lists k) x → AllSupported (with_item lists k x)
  supported_item stays lists k x lt all new j before y after is =
      let more = with_item lists k x in
      let old : (i : ℕ) (rest : List E) → before ++ y ∷ rest ≡ list_at lists i → Supported more i before y = λ i rest e. stays lists more (begins_item lists k x) i before y (all i before y rest e) in
      dite (ℕ_discrete j k)
      (λ same. subst (λ i. Supported more i before y) (sym same)
      (⊎_elim
      (λ (h : (rest : List E) × (before ++ y ∷ rest ≡ list_at lists k)). old k h.0 h.1)
      (λ (h : (before ≡ list_at lists k) × (y ≡ x)). subst (λ (p : List E × E). Supported more k p.0 p.1) (λ i. (sym h.0 i, sym h.1 i)) new)
      (snoc_cases before after (list_at lists k) y x (is ∙ (ap (list_at more) same ∙ item_here lists k x lt)))))
      (λ other. old j after (is ∙ item_else lists k x j other))

  -- an event that is supported at the end of whatever goes on from here may follow
  pub supported_may_follow : Stays → (n : ℕ) (lists : List (List E)) (k : ℕ) (x : E) → k < n → ((more : List (List E)) → Begins lists more → Supported more k (list_at more k) x) → MayFollow AllSupported n lists k x
  supported_may_follow stays n lists k x lt follows more wide all begins =
      let new = stays more (with_item more k x) (begins_item more k x) k (list_at more k) x (follows more begins) in
      supported_item stays more k x (subst (λ m. k < m) (sym wide) lt) all new
