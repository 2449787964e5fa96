use Rattle.std.proofs.Common.{◌≡◌, List, ap, ◌∙◌, sym, subst}
use Rattle.ms_object.specs.Stores.{StoreView, text_of}
use Rattle.ms_object.specs.Trees.{FileText}
use Rattle.ms_tree.specs.Folders.{IsFolder, shown_from}
use Rattle.ms_tree.specs.Planting.{AddsTexts, directory_text, named, object_texts}
use Rattle.ms_tree.proofs.Counting.{count_is}
use Rattle.ms_tree.proofs.Whole.{planted_whole}
use Rattle.ms_tree.proofs.WholeFolder.{whole_folder}
use Rattle.ms_tree.proofs.planting.plant_small.Goals as goal

pub plant_dir-requires-clause-folder : goal.plant_dir-requires-clause-folder
plant_dir-requires-clause-folder c =
    let shown : shown_from 0 c.as_slice.result.now ≡ c.args.files.now = ap (shown_from 0) c.as_slice.ensures.value ∙ c.in-Ok.ensures.rows in
    subst (IsFolder c.args.format 64) (sym shown) (whole_folder c.args.format c.args.files.now c.in-Ok.ensures.kept c.requires)

pub returns-in_ok-root-in-Ok-clause-planted : goal.returns-in_ok-root-in-Ok-clause-planted
returns-in_ok-root-in-Ok-clause-planted c =
    let shown : shown_from 0 c.as_slice.result.now ≡ c.args.files.now = ap (shown_from 0) c.as_slice.ensures.value ∙ c.in-Ok.ensures.rows in
    let texts = subst (λ (files : List FileText). AddsTexts (text_of c.new-objects.result) (text_of c.plant_dir.new.store) (object_texts c.args.format 64 files)) shown c.in_ok-root-in-Ok.ensures.texts in
    let root = c.in_ok-root-in-Ok.ensures.name ∙ ap (λ (files : List FileText). named (directory_text c.args.format 64 files)) shown in
    planted_whole c.args.format c.args.files.now (text_of c.new-objects.result) (text_of c.plant_dir.new.store) c.in_ok-root-in-Ok.root c.one_spelling.ensures.again c.in-Ok.ensures.kept c.requires
    (λ name. ap (λ (store : StoreView). text_of store name) c.new-objects.ensures) texts root

pub returns-in_ok-root-in-Ok-clause-count : goal.returns-in_ok-root-in-Ok-clause-count
returns-in_ok-root-in-Ok-clause-count c =
    count_is c.plant_dir.new.store (object_texts c.args.format 64 c.args.files.now) c.shows.ensures.rising c.shows.ensures.there (returns-in_ok-root-in-Ok-clause-planted c).objects
