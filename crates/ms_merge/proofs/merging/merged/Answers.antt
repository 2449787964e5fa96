use Rattle.std.proofs.Common.{List, map, ap, ◌∙◌}
use Rattle.ms_tree.specs.declared.draft.DraftFile.{DraftFile}
use Rattle.ms_tree.specs.DraftFiles.{drafted}
use Rattle.ms_merge.proofs.Merged.{has_merged, room_for_doubled, room_for_moved}
use Rattle.ms_merge.proofs.merging.merged.Goals as goal

pub returns : goal.returns
returns c =
    has_merged c.args.sides.now.base.now c.args.sides.now.ours.now c.args.sides.now.theirs.now c.args.tag.now (map drafted c.deref.result.now) (map drafted c.deref-2.result.now) (map drafted c.deref-3.result.now)
    (map drafted c.new.result.items) (map drafted c.give_names.new.given.order.items) (map drafted c.give_names-2.new.given.order.items) c.in_ok-draft.draft c.give_names.new.draft c.remove.new.draft c.give_names-2.new.draft
    c.in_ok-draft.ensures
    (ap (λ (files : List DraftFile). map drafted files) c.deref.ensures.value ∙ c.in_ok-doubled.ensures)
    (ap (λ (files : List DraftFile). map drafted files) c.new.ensures.items)
    c.in_ok-give_names.ensures.named
    c.shows.ensures
    (ap (λ (files : List DraftFile). map drafted files) c.deref-2.ensures.value ∙ c.in_ok-moved.ensures)
    c.remove.ensures
    (ap (λ (files : List DraftFile). map drafted files) c.deref-3.ensures.value ∙ c.in_ok-moved.ensures)
    c.in_ok-give_names-2.ensures.named
    c.shows-2.ensures

pub give_names-requires-clause-may : goal.give_names-requires-clause-may
give_names-requires-clause-may c = c.requires

pub give_names-requires-clause-few : goal.give_names-requires-clause-few
give_names-requires-clause-few c =
    room_for_doubled c.requires c.new.result.items c.deref.result.now c.new.ensures.items (ap (λ (files : List DraftFile). map drafted files) c.deref.ensures.value ∙ c.in_ok-doubled.ensures)

pub give_names-requires-2-clause-may : goal.give_names-requires-2-clause-may
give_names-requires-2-clause-may c = c.requires

pub give_names-requires-2-clause-few : goal.give_names-requires-2-clause-few
give_names-requires-2-clause-few c =
    room_for_moved c.requires (map drafted c.deref.result.now) (map drafted c.new.result.items) c.give_names.new.given.order.items c.deref-3.result.now c.in_ok-draft.draft c.give_names.new.draft c.in_ok-draft.ensures
    (ap (λ (files : List DraftFile). map drafted files) c.deref.ensures.value ∙ c.in_ok-doubled.ensures)
    (ap (λ (files : List DraftFile). map drafted files) c.new.ensures.items)
    c.in_ok-give_names.ensures.named
    c.shows.ensures
    (ap (λ (files : List DraftFile). map drafted files) c.deref-3.ensures.value ∙ c.in_ok-moved.ensures)
