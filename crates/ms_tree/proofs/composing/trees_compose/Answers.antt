use Rattle.std.proofs.Common.{refl, ◌∷◌, ◌++◌, [], append_assoc}
use Rattle.ms_tree.proofs.Composed.{tree_below, rows_give, given_by_row, by_its_row, gives_below, below_gives, gives_file, file_gives}
use Rattle.ms_tree.proofs.composing.trees_compose.Goals as goal

pub returns-clause-rows : goal.returns-clause-rows
returns-clause-rows c = λ store root format rows path bytes is whole. (
  rows_give store root format rows path bytes is whole,
  λ given. given_by_row store root format rows given.0 path bytes is whole given.1 given.2,
)

pub returns-clause-trees : goal.returns-clause-trees
returns-clause-trees c = λ store root format rows row is whole here kind. tree_below store root format rows row is whole here kind

pub returns-clause-below : goal.returns-clause-below
returns-clause-below c = λ store root format rows row path bytes is dir whole here kind. (
  λ has. gives_below format store row path bytes kind (by_its_row store root format rows row (row.label ++ 47 ∷ path) bytes (path ++ 47 ∷ []) is dir whole here (append_assoc row.label (47 ∷ path) (47 ∷ [])) has),
  λ has. given_by_row store root format rows row (row.label ++ 47 ∷ path) bytes is whole here (below_gives format store row path bytes kind has),
)

pub returns-clause-file : goal.returns-clause-file
returns-clause-file c = λ store root format rows row bytes is dir whole here kind. (
  λ has. gives_file format store row bytes kind (by_its_row store root format rows row row.label bytes [] is dir whole here refl has),
  λ file. given_by_row store root format rows row row.label bytes is whole here (file_gives format store row bytes kind file),
)
