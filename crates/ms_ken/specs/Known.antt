-- What contracts see of a board and its passes.
use Rattle.std.specs.Prelude.{◌≡◌, ℕ, ◌<◌, List, [], length, replicate, Option, Some, slice_get}
pub use Rattle.atomic_table.specs.Seated.{TableId, table_id_coded}

-- the board, the word that the pass owns, if any, and the lists that it knows
pub record Known (E : Type 0) : Type 0 where
  pub board : TableId
  pub word : Option ℕ
  pub lists : List (List E)

abbrev pub known : {E : Type 0} → TableId → Option ℕ → List (List E) → Known E
known board word lists = record { board = board; word = word; lists = lists }

-- one pass for each of n owners, in order; it owns the owner's word, and all lists are empty
pub record ArePasses {E : Type 0} (board : TableId) (n : ℕ) (passes : List (Known E)) : Type 0 where
  pub count : length passes ≡ n
  pub each : (k : ℕ) → k < n → slice_get passes k ≡ Some (known board (Some k) (replicate n []))

-- the name of no board
abbrev pub no_board : TableId
no_board = record { words = 0; slots = 0; views_name = 0; atom = 0; block = 0; offset = 0; slot_names = [] }
