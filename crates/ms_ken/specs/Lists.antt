-- A view's lists, one for each owner, and what it is for one view to begin another.
use Rattle.std.specs.Prelude.{◌≡◌, ℕ, ◌⊎◌, List, [], ◌∷◌, ◌++◌, length, slice_index_or, slice_set, nat_lt, if◌then◌else◌, Option, Some, None}
use mathlib.Core.List.{IsPrefix}

module _ {E : Type 0} where
  -- the list of the owner k
  abbrev pub list_at : List (List E) → ℕ → List E
  list_at lists k = slice_index_or lists k []

  -- each owner's list begins the owner's other list
  abbrev pub Begins : List (List E) → List (List E) → Type 0
  Begins xs ys = (k : ℕ) → IsPrefix (list_at xs k) (list_at ys k)

  -- of each owner's two lists one begins the other
  abbrev pub Agree : List (List E) → List (List E) → Type 0
  Agree xs ys = (k : ℕ) → IsPrefix (list_at xs k) (list_at ys k) ⊎ IsPrefix (list_at ys k) (list_at xs k)

  abbrev pub longer : List E → List E → List E
  longer xs ys = if nat_lt (length xs) (length ys) then ys else xs

  -- each owner's longer list
  abbrev pub longer_lists : List (List E) → List (List E) → List (List E)
  longer_lists [] ys = ys
  longer_lists (x ∷ xs) [] = x ∷ xs
  longer_lists (x ∷ xs) (y ∷ ys) = longer x y ∷ longer_lists xs ys

  -- the item at the end of the list of the owner k
  abbrev pub with_item : List (List E) → ℕ → E → List (List E)
  with_item lists k x = slice_set lists k (list_at lists k ++ x ∷ [])

  -- the same for the owner, if there is one
  abbrev pub with_told : List (List E) → Option ℕ → E → List (List E)
  with_told lists None x = lists
  with_told lists (Some k) x = with_item lists k x

  -- whatever else is known of n owners by then, the event may stand at the end of the list of the owner k
  abbrev pub MayFollow : (List (List E) → Type 0) → ℕ → List (List E) → ℕ → E → Type 0
  MayFollow closed n lists k event = (more : List (List E)) → length more ≡ n → closed more → Begins lists more → closed (with_item more k event)
