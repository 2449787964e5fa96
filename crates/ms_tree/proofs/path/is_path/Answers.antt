use Rattle.std.proofs.Common.{rules, tests, ◌≡◌, true, eqb}
use Rattle.std.specs.List.{list_all}
use Rattle.std.specs.Str.{is_utf8}
use Rattle.std.proofs.lemmas.Str.{is_utf8-from_IsUtf8}
use Rattle.std.proofs.lemmas.Iterator.Splits.{YieldsList-from_slice_split}
use Rattle.std.proofs.lemmas.Iterator.Search.{all_from_yields_List}
use Rattle.ms_tree.specs.Paths.{parts_of, is_part}
use Rattle.ms_tree.proofs.path.is_path.Goals as goal

pub returns : goal.returns
returns c =
    let each : c.all.result ≡ list_all is_part (parts_of c.args.path.now) =
    all_from_yields_List is_part _ _ _ c.all.ensures.ran
    (YieldsList-from_slice_split _ (λ b. eqb b 47) c.args.path.now (cc) c.split.ensures.done c.split.ensures.closure (λ x b q k. search (rules, tests)))
    (λ x b q k. search (rules, tests)) in
    let utf8 : is_utf8 c.args.path.now ≡ true = is_utf8-from_IsUtf8 _ c.utf8.path in
    rw utf8 each
