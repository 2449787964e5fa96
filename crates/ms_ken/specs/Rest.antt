-- A pass between calls.
use Rattle.std.specs.Prelude.{◌≡◌, ℕ, ◌+◌, ◌<◌, [], length, Option, Some, None}
use Rattle.atomic_table.specs.Table.{Me}
use Rattle.ms_ken.specs.declared.view.View.{View}

-- the words from `from` up to `to`, of n, are this word, or none
abbrev pub OwnsJust : Option ℕ → ℕ → ℕ → ℕ → Type 0
OwnsJust None n from to = to ≡ 0
OwnsJust (Some k) n from to = (from ≡ k) × (to ≡ k + 1) × (k < n)

-- it keeps no old views and holds no slot, and has a list for each of the n owners
pub record IsAtRest {E : Type 0} (word : Option ℕ) (n : ℕ) (me : Me ℕ (View E)) : Type 0 where
  pub settled : me.0.old ≡ None
  pub no_slot : me.1 ≡ []
  pub wide : length me.0.lists ≡ n
  pub owns : OwnsJust word n me.0.from me.0.to
