-- The rule of the board, and what each kind of step does to views.
use Rattle.std.specs.Prelude.{◌≡◌, ℕ, ◌+◌, ◌<◌, ◌≤◌, ◌%◌, ◌^◌, List, [], length, slice_index, replicate, Option, Some, None, IfSome}
use mathlib.Core.Option.{some}
use mathlib.Core.List.{IsPrefix}
use lib.ListN.{get_elem?}
use Rattle.atomic_table.specs.Table.{State, Me, Step}
use Rattle.ms_ken.specs.declared.view.View.{View}
use Rattle.ms_ken.specs.declared.view.OldViews.{OldViews}
use Rattle.ms_ken.specs.Lists.{list_at, Begins, Agree, longer_lists, with_item}

module _ {E : Type 0} where
  -- it owns the words from `from` up to `to`, and keeps no old views
  abbrev pub view : List (List E) → ℕ → ℕ → View E
  view lists from to = record { lists = lists; from = from; to = to; old = None }

  -- the view owns the word k
  abbrev pub Owns : View E → ℕ → Type 0
  Owns v k = (v.from ≤ k) × (k < v.to)

  -- it owns all words, and no list has an item
  abbrev pub fresh : ℕ → View E
  fresh n = view (replicate n []) 0 n

  -- what is left of a note that was taken
  abbrev pub spent : View E
  spent = view [] 0 0

  abbrev pub note_of : View E → View E
  note_of v = view v.lists 0 0

  -- what is left where the first owned word is handed over
  abbrev pub others_of : View E → View E
  others_of v = view v.lists (v.from + 1) v.to

  abbrev pub first_of : View E → View E
  first_of v = view v.lists v.from (v.from + 1)

  -- the same words with these lists, and no old views
  abbrev pub settled : View E → List (List E) → View E
  settled v lists = view lists v.from v.to

  abbrev pub old_views : List (List E) → List (List E) → OldViews E
  old_views mine theirs = record { mine = mine; theirs = theirs }

  -- the longer lists, with both old views kept
  abbrev pub taken : View E → View E → View E
  taken v w = record { lists = longer_lists v.lists w.lists; from = v.from; to = v.to; old = Some (old_views v.lists w.lists) }

  -- both old views begin the lists, and the list of an owned word is the same in the view's own
  pub record Spans (v : View E) (old : OldViews E) : Type 0 where
    pub mine : Begins old.mine v.lists
    pub theirs : Begins old.theirs v.lists
    pub own : (k : ℕ) → Owns v k → list_at old.mine k ≡ list_at v.lists k

  -- what the rule says of the view of the seat `id`
  pub record Fits (n : ℕ) (top : List (List E)) (seats : List ℕ) (id : ℕ) (v : View E) : Type 0 where
    pub begins : Begins v.lists top
    pub owner : (k : ℕ) → Owns v k → (k < n) × (id ≡ slice_index seats k) × (list_at v.lists k ≡ list_at top k)
    pub kept : IfSome v.old (Spans v)

  -- Each owner has one list, of which each view has a beginning. The word has its length. One seat at most owns the word, and has the whole list
  pub record Keeps (n : ℕ) (s : State ℕ (View E)) : Type 0 where
    pub top : List (List E)
    pub seats : List ℕ
    pub words : length s.words ≡ n
    pub lists : length top ≡ n
    pub seated : length seats ≡ n
    pub counts : (k : ℕ) → k < n → slice_index s.words k ≡ length (list_at top k) % 2 ^ 64
    pub views : (id : ℕ) (v : View E) → get_elem? s.views id ≡ some v → Fits n top seats id v

  -- the item was added to the list of the word
  abbrev pub Tells : Option E → Step ℕ → Me ℕ (View E) → ℕ → Me ℕ (View E) → Type 0
  Tells item st m r m' = (x : E) → item ≡ Some x → m' ≡ (settled m.0 (with_item m.0.lists st.word x), m.1)

  -- the old views are given up, and were beginnings
  abbrev pub Settles : Step ℕ → Me ℕ (View E) → ℕ → Me ℕ (View E) → Type 0
  Settles st m r m' = (m' ≡ (settled m.0 m.0.lists, m.1)) × IfSome m.0.old (Spans m.0)

  abbrev pub IsView : State ℕ (View E) → ℕ → View E → Type 0
  IsView s id v = get_elem? s.views id ≡ some v

  -- The same of n owners, said of the views alone. Of any two views' lists of one owner one begins the other. One view at most owns a word of the n, its list there is the longest, and the word has its length
  pub record IsRuled (n : ℕ) (s : State ℕ (View E)) : Type 0 where
    pub agree : (i j : ℕ) (v w : View E) → IsView s i v → IsView s j w → Agree v.lists w.lists
    pub within : (i : ℕ) (v : View E) (k : ℕ) → IsView s i v → Owns v k → k < n
    pub one_owner : (i j : ℕ) (v w : View E) (k : ℕ) → IsView s i v → IsView s j w → Owns v k → Owns w k → i ≡ j
    pub longest : (i j : ℕ) (v w : View E) (k : ℕ) → IsView s i v → IsView s j w → Owns v k → IsPrefix (list_at w.lists k) (list_at v.lists k)
    pub count : (i : ℕ) (v : View E) (k : ℕ) → IsView s i v → Owns v k → slice_index s.words k ≡ length (list_at v.lists k) % 2 ^ 64
    pub kept : (i : ℕ) (v : View E) → IsView s i v → IfSome v.old (Spans v)
