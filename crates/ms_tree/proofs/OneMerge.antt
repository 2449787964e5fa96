-- There is one merge, and it gives the same names in turn.
use Rattle.std.proofs.Common.{◌≡◌, ℕ, List, [], ◌++◌, None, is_some, if◌then◌else◌, sym, ◌∙◌, ap, subst}
use Rattle.std.specs.Map.{keys_of}
use Rattle.std.specs.Option.{option_or}
use Rattle.ms_tree.specs.Files.{FileList, text_at}
use Rattle.ms_tree.specs.Merging.{standing, conflicts, directories, AreTagged, IsMerge, names_of}
use Rattle.ms_tree.proofs.MergeNames.{one_naming}
use Rattle.ms_tree.proofs.MergeLaws.{same_texts}

module _ (base ours theirs : FileList) (tag : List ℕ) (files others : FileList) (a : IsMerge base ours theirs tag files) (b : IsMerge base ours theirs tag others) where
  one_doubled : a.doubled ≡ b.doubled
  one_doubled = one_naming base ours theirs tag (conflicts base ours theirs) a.doubled b.doubled [] a.are_doubled b.are_doubled

  one_settled : a.settled ≡ b.settled
  one_settled =
      same_texts a.settled b.settled a.settled_rise b.settled_rise
      (λ path. a.are_settled path ∙ ap (λ (l : FileList). option_or (text_at l path) (standing (text_at base path) (text_at ours path) (text_at theirs path))) one_doubled ∙ sym (b.are_settled path))

  one_moved : a.moved ≡ b.moved
  one_moved =
      one_naming base ours theirs tag (directories a.settled) a.moved b.moved (keys_of a.doubled) a.are_moved
      (subst (λ (l : FileList). AreTagged base ours theirs tag (keys_of l) (directories a.settled) b.moved) (sym one_doubled)
      (subst (λ (l : FileList). AreTagged base ours theirs tag (keys_of b.doubled) (directories l) b.moved) (sym one_settled) b.are_moved))

  pub one_merge : files ≡ others
  one_merge =
      same_texts files others a.rise b.rise
      (λ path. a.are_files path
      ∙ ap (λ (l : FileList). option_or (text_at l path) (if is_some (text_at (directories a.settled) path) then None else text_at a.settled path)) one_moved
      ∙ ap (λ (l : FileList). option_or (text_at b.moved path) (if is_some (text_at (directories l) path) then None else text_at l path)) one_settled
      ∙ sym (b.are_files path))

  pub one_names : names_of a ≡ names_of b
  one_names = ap (λ (l : FileList). keys_of l ++ keys_of a.moved) one_doubled ∙ ap (λ (l : FileList). keys_of b.doubled ++ keys_of l) one_moved
