use Rattle.ms_tree.proofs.MergeLaws.{keeps_ours, keeps_theirs, merge_short, merge_whole, merge_exact}
use Rattle.ms_tree.proofs.OneMerge.{one_merge, one_names}
use Rattle.ms_tree.proofs.merger.merge_laws.Goals as goal

pub returns : goal.returns
returns c = record {
  one = one_merge;
  names = one_names;
  ours = λ base ours theirs tag files may merge. keeps_ours may merge;
  theirs = λ base ours theirs tag files may merge. keeps_theirs may merge;
  short = λ base ours theirs tag files may merge. merge_short may merge;
  whole = λ base ours theirs tag files may merge. merge_whole may merge;
  exact = λ base ours theirs tag files what value may merge passed whole. merge_exact may merge whole what value passed;
}
