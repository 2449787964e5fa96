use Rattle.std.proofs.Common.{◌≡◌, List, map, sym, ap, ◌∙◌, subst}
use Rattle.ms_tree.specs.declared.files.FileRef.{FileRef}
use Rattle.ms_tree.specs.declared.draft.DraftFile.{DraftFile}
use Rattle.ms_tree.specs.DraftFiles.{drafted}
use Rattle.ms_tree.specs.Files.{FileList, IsFiles}
use Rattle.ms_tree.specs.Merging.{MayMerge, KeepsChanges}
use Rattle.ms_merge.specs.Settling.{HasMerged}
use Rattle.ms_merge.proofs.Steps.{shown}
use Rattle.ms_merge.proofs.LimitLaws.{short_rows}
use Rattle.ms_merge.proofs.Merged.{judged_fit, refused}
use Rattle.ms_merge.proofs.merging.merge.Goals as goal

pub check-requires : goal.check-requires
check-requires c =
    let base = c.args.base.now in
    let ours = c.args.ours.now in
    let theirs = c.args.theirs.now in
    let tag = c.args.tag.now in
    let has : HasMerged base ours theirs tag c.in_ok-draft.field-0.draft (map drafted c.in_ok-draft.field-0.names.items) = c.in_ok-draft.ensures in
    let may : MayMerge base ours theirs tag = record { base_whole = c.shows.ensures; ours_whole = c.shows-2.ensures; theirs_whole = c.shows-3.ensures; is_tag = c.requires } in
    let rows : map shown c.deref.result.now ≡ c.in_ok-draft.field-0.draft = ap (λ (l : List FileRef). map shown l) c.deref.ensures.value ∙ c.in_ok-rows.ensures.rows in
    short_rows c.deref.result.now c.in_ok-draft.field-0.draft rows (c.merge_laws.ensures.short base ours theirs tag c.in_ok-draft.field-0.draft may has.merge)

pub from_rows-requires : goal.from_rows-requires
from_rows-requires c =
    let base = c.args.base.now in
    let ours = c.args.ours.now in
    let theirs = c.args.theirs.now in
    let tag = c.args.tag.now in
    let has : HasMerged base ours theirs tag c.in_ok-draft.field-0.draft (map drafted c.in_ok-draft.field-0.names.items) = c.in_ok-draft.ensures in
    let may : MayMerge base ours theirs tag = record { base_whole = c.shows.ensures; ours_whole = c.shows-2.ensures; theirs_whole = c.shows-3.ensures; is_tag = c.requires } in
    let rows : map shown c.deref.result.now ≡ c.in_ok-draft.field-0.draft = ap (λ (l : List FileRef). map shown l) c.deref.ensures.value ∙ c.in_ok-rows.ensures.rows in
    let names : map drafted c.deref-2.result.now ≡ map drafted c.in_ok-draft.field-0.names.items = ap (λ (l : List DraftFile). map drafted l) c.deref-2.ensures.value in
    let again : map shown c.deref-in-Ok.result.now ≡ c.in_ok-draft.field-0.draft = ap (λ (l : List FileRef). map shown l) c.deref-in-Ok.ensures.value ∙ c.in_ok-rows.ensures.rows in
    let whole : IsFiles c.in_ok-draft.field-0.draft =
    c.merge_laws.ensures.whole base ours theirs tag c.in_ok-draft.field-0.draft may has.merge (judged_fit base ours theirs tag c.in_ok-draft.field-0.draft _ (map shown c.deref.result.now) (map drafted c.deref-2.result.now) has rows names c.in-Ok.ensures) in
    subst (λ (l : FileList). IsFiles l) (sym again) whole

pub returns-clause-merges : goal.returns-clause-merges
returns-clause-merges c =
    let base = c.args.base.now in
    let ours = c.args.ours.now in
    let theirs = c.args.theirs.now in
    let tag = c.args.tag.now in
    let has : HasMerged base ours theirs tag c.in_ok-draft.field-0.draft (map drafted c.in_ok-draft.field-0.names.items) = c.in_ok-draft.ensures in
    let rows : map shown c.deref.result.now ≡ c.in_ok-draft.field-0.draft = ap (λ (l : List FileRef). map shown l) c.deref.ensures.value ∙ c.in_ok-rows.ensures.rows in
    let names : map drafted c.deref-2.result.now ≡ map drafted c.in_ok-draft.field-0.names.items = ap (λ (l : List DraftFile). map drafted l) c.deref-2.ensures.value in
    refused base ours theirs tag c.in_ok-draft.field-0.draft _ (map shown c.deref.result.now) (map drafted c.deref-2.result.now) has rows names _ c.in-Err.ensures

pub returns-in-Ok-clause-keeps_ours : goal.returns-in-Ok-clause-keeps_ours
returns-in-Ok-clause-keeps_ours c =
    let base = c.args.base.now in
    let ours = c.args.ours.now in
    let theirs = c.args.theirs.now in
    let tag = c.args.tag.now in
    let has : HasMerged base ours theirs tag c.in_ok-draft.field-0.draft (map drafted c.in_ok-draft.field-0.names.items) = c.in_ok-draft.ensures in
    let may : MayMerge base ours theirs tag = record { base_whole = c.shows.ensures; ours_whole = c.shows-2.ensures; theirs_whole = c.shows-3.ensures; is_tag = c.requires } in
    let rows : map shown c.deref-in-Ok.result.now ≡ c.in_ok-draft.field-0.draft = ap (λ (l : List FileRef). map shown l) c.deref-in-Ok.ensures.value ∙ c.in_ok-rows.ensures.rows in
    let files : c.in_ok-from_rows-in-Ok.field-0 ≡ c.in_ok-draft.field-0.draft = c.in_ok-from_rows-in-Ok.ensures ∙ rows in
    subst (λ (l : FileList). KeepsChanges base ours tag l) (sym files) (c.merge_laws.ensures.ours base ours theirs tag c.in_ok-draft.field-0.draft may has.merge)

pub returns-in-Ok-clause-keeps_theirs : goal.returns-in-Ok-clause-keeps_theirs
returns-in-Ok-clause-keeps_theirs c =
    let base = c.args.base.now in
    let ours = c.args.ours.now in
    let theirs = c.args.theirs.now in
    let tag = c.args.tag.now in
    let has : HasMerged base ours theirs tag c.in_ok-draft.field-0.draft (map drafted c.in_ok-draft.field-0.names.items) = c.in_ok-draft.ensures in
    let may : MayMerge base ours theirs tag = record { base_whole = c.shows.ensures; ours_whole = c.shows-2.ensures; theirs_whole = c.shows-3.ensures; is_tag = c.requires } in
    let rows : map shown c.deref-in-Ok.result.now ≡ c.in_ok-draft.field-0.draft = ap (λ (l : List FileRef). map shown l) c.deref-in-Ok.ensures.value ∙ c.in_ok-rows.ensures.rows in
    let files : c.in_ok-from_rows-in-Ok.field-0 ≡ c.in_ok-draft.field-0.draft = c.in_ok-from_rows-in-Ok.ensures ∙ rows in
    subst (λ (l : FileList). KeepsChanges base theirs tag l) (sym files) (c.merge_laws.ensures.theirs base ours theirs tag c.in_ok-draft.field-0.draft may has.merge)
