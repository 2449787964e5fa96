use Rattle.std.proofs.Common.{◌+◌, map, take, drop, sym, ap, ◌∙◌, subst, is_lt, nat_cmp, rules, arith}
use Rattle.std.specs.Cmp.Lexicographic.{slice_cmp}
use Rattle.std.proofs.lemmas.Cmp.{nat_list_cmp_total}
use Rattle.std.proofs.lemmas.List.{map_push}
use Rattle.std.proofs.lemmas.List.Sorted.{ranks_by, answers_always}
use Rattle.ms_tree.specs.declared.parts.Part.{Part}
use Rattle.ms_tree.specs.Folders.{shown_from, shown_part}
use Rattle.ms_tree.proofs.Runs.{AreGroups}
use Rattle.ms_tree.proofs.Shown.{counted, counted_within, front_bounds, counted_some, more_shown, none_shown, parts_sorted}
use Rattle.ms_tree.proofs.parts.split_parts.Goals as goal

pub loop-start-init : goal.loop-start-init
loop-start-init c = record { within = omega arith; groups = λ format left w. none_shown c.args.skip c.args.files.now _ (ap (map (shown_part c.args.skip)) c.new-parts.ensures.items) }

pub slice_bounds-push-end : goal.slice_bounds-push-end
slice_bounds-push-end c =
    let count = counted c.part_at-label.result.now c.args.skip c.loop-start.start c.run_length-count.result c.args.files.now c.run_length-count.ensures in
    front_bounds c.loop-start.start c.run_length-count.result c.args.files.now (counted_within _ c.args.skip c.loop-start.start c.run_length-count.result c.args.files.now c.loop-start.invariant.within count)

pub overflow_add-start : goal.overflow_add-start
overflow_add-start c =
    let count = counted c.part_at-label.result.now c.args.skip c.loop-start.start c.run_length-count.result c.args.files.now c.run_length-count.ensures in
    let fits = counted_within _ c.args.skip c.loop-start.start c.run_length-count.result c.args.files.now c.loop-start.invariant.within count in
    omega (arith, fits)

pub loop-start-smaller : goal.loop-start-smaller
loop-start-smaller c =
    let count = counted c.part_at-label.result.now c.args.skip c.loop-start.start c.run_length-count.result c.args.files.now c.run_length-count.ensures in
    let fits = counted_within c.part_at-label.result.now c.args.skip c.loop-start.start c.run_length-count.result c.args.files.now c.loop-start.invariant.within count in
    let some = counted_some c.args.skip c.loop-start.start c.run_length-count.result c.part_at-label.result.now c.args.files.now _ c.loop-start-test.true c.part_at-label.ensures count in
    omega (arith, fits, some)

pub loop-start-preserved : goal.loop-start-preserved
loop-start-preserved c =
    let count = counted c.part_at-label.result.now c.args.skip c.loop-start.start c.run_length-count.result c.args.files.now c.run_length-count.ensures in
    record {
      within = counted_within c.part_at-label.result.now c.args.skip c.loop-start.start c.run_length-count.result c.args.files.now c.loop-start.invariant.within count;
      groups = λ format left w.
          let more = more_shown format left c.args.skip c.loop-start.start c.run_length-count.result c.part_at-label.result.now c.args.files.now (map (shown_part c.args.skip) c.loop-start.parts.items) _ w c.loop-start-test.true (c.loop-start.invariant.groups format left w) c.part_at-label.ensures count in
          subst (λ gs. AreGroups (shown_from c.args.skip c.args.files.now) (take (c.loop-start.start + c.run_length-count.result) (shown_from c.args.skip c.args.files.now)) (drop (c.loop-start.start + c.run_length-count.result) (shown_from c.args.skip c.args.files.now)) gs)
          (sym (ap (map (shown_part c.args.skip)) c.in_ok-push.ensures.items ∙ map_push (shown_part c.args.skip) c.loop-start.parts.items _)) more;
    }

pub returns : goal.returns
returns c = λ format left w. parts_sorted format c.args.skip c.loop-start.start left c.args.files.now c.loop-start.parts.items c.sort_unstable_by.new.self.items w c.loop-start-test.false (c.loop-start.invariant.groups format left w) c.sort_unstable_by.ensures.permutation
    (c.sort_unstable_by.ensures.sorted (λ one other. is_lt (slice_cmp nat_cmp one.label.now other.label.now)) (ranks_by nat_list_cmp_total (λ (part : Part). part.label.now)) (answers_always _ _ _ (λ f a r g h. search rules)))
