use Rattle.std.proofs.Common.{◌≡◌, ◌+◌, ◌<◌, ◌≤◌, ℕ, List, [], ◌∷◌, ◌++◌, length, map, ap, ◌∙◌, sym, subst, IfOk, OnOk, get_or, arith}
use Rattle.ms_object.specs.declared.object.Kind.TheVariants as kinds
use Rattle.ms_object.specs.Stores.{text_of}
use Rattle.ms_tree.specs.declared.files.FileRef.{FileRef}
use Rattle.ms_tree.specs.declared.parts.Part.{Part}
use Rattle.ms_tree.specs.Planting.{AddsTexts, directory_text, first_parts, named, object_texts, size_said}
use Rattle.ms_tree.specs.Files.{total_of}
use Rattle.ms_tree.specs.Folders.{IsFolder, Reach, shown_from, shown_part, split_files}
use Rattle.ms_tree.proofs.Below.{dir_fits, dir_text, part_here, parts_count, planted_more, planted_all}
use Rattle.ms_tree.proofs.OnePart.{IsPart, part_small, label_within, one_file, one_dir, row_same}
use Rattle.ms_tree.proofs.Stored.{kept_more}
use Rattle.ms_tree.proofs.planting.+planting.Goals as goal

abbrev no_file : FileRef
no_file = record { path = record { ref_ptr = (0, 0); now = [] }; text = record { ref_ptr = (0, 0); now = [] } }

abbrev no_part : Part
no_part = record { label = record { ref_ptr = (0, 0); now = [] }; files = record { ref_ptr = (0, 0); now = [] } }

pub plant_dir-overflow_sub-left : goal.plant_dir-overflow_sub-left
plant_dir-overflow_sub-left t c =
    let split : map (shown_part c.args.skip) c.deref-part-items.result.now ≡ split_files (shown_from c.args.skip c.args.files.now) =
    ap (map (shown_part c.args.skip)) c.deref-part-items.ensures.value ∙ c.in_ok-parts.ensures c.args.format c.args.left c.requires.folder in
    let here = part_here c.args.format c.args.left c.args.skip c.args.files.now c.deref-part-items.result.now c.loop-part.part-index no_part c.requires.folder split c.loop-part-test.true in
    here.levels

pub plant_dir-plant_part-requires : goal.plant_dir-plant_part-requires
plant_dir-plant_part-requires t c =
    let split : map (shown_part c.args.skip) c.deref-part-items.result.now ≡ split_files (shown_from c.args.skip c.args.files.now) =
    ap (map (shown_part c.args.skip)) c.deref-part-items.ensures.value ∙ c.in_ok-parts.ensures c.args.format c.args.left c.requires.folder in
    let here = part_here c.args.format c.args.left c.args.skip c.args.files.now c.deref-part-items.result.now c.loop-part.part-index no_part c.requires.folder split c.loop-part-test.true in
    let down = here.levels in
    (omega (arith, down), (here.reach, (here.folder, (here.same, here.some))))

pub plant_dir-loop-part-preserved : goal.plant_dir-loop-part-preserved
plant_dir-loop-part-preserved t c =
    let split : map (shown_part c.args.skip) c.deref-part-items.result.now ≡ split_files (shown_from c.args.skip c.args.files.now) =
    ap (map (shown_part c.args.skip)) c.deref-part-items.ensures.value ∙ c.in_ok-parts.ensures c.args.format c.args.left c.requires.folder in
    let here = part_here c.args.format c.args.left c.args.skip c.args.files.now c.deref-part-items.result.now c.loop-part.part-index no_part c.requires.folder split c.loop-part-test.true in
    let labels : List (List ℕ) = first_parts (shown_from c.args.skip c.args.files.now) in
    let below : c.loop-part.part-index < length labels = omega (arith, parts_count c.args.skip (shown_from c.args.skip c.args.files.now) c.deref-part-items.result.now split, c.loop-part-test.true) in
    planted_more c.args.format c.args.left c.args.skip c.loop-part.part-index (shown_from c.args.skip c.args.files.now) (get_or c.deref-part-items.result.now c.loop-part.part-index no_part) c.loop-part.rows c.push.new.self c.in_ok-plant_part.field-0
    (text_of c.args.store.now) (text_of c.loop-part.store) (text_of c.plant_part.new.store) c.loop-part.invariant below here c.in_ok-plant_part.ensures.row c.in_ok-push.ensures.ok c.in_ok-plant_part.ensures.texts

pub plant_dir-write_rows-requires : goal.plant_dir-write_rows-requires
plant_dir-write_rows-requires t c =
    let split : map (shown_part c.args.skip) c.deref-part-items.result.now ≡ split_files (shown_from c.args.skip c.args.files.now) =
    ap (map (shown_part c.args.skip)) c.deref-part-items.ensures.value ∙ c.in_ok-parts.ensures c.args.format c.args.left c.requires.folder in
    let all : length (first_parts (shown_from c.args.skip c.args.files.now)) ≤ c.loop-part.part-index =
    omega (arith, parts_count c.args.skip (shown_from c.args.skip c.args.files.now) c.deref-part-items.result.now split, c.loop-part-test.false) in
    let done = planted_all c.args.format c.args.left c.loop-part.part-index (shown_from c.args.skip c.args.files.now) c.loop-part.rows (text_of c.args.store.now) (text_of c.loop-part.store) c.requires.folder c.loop-part.invariant all in
    dir_fits c.args.format c.args.left (shown_from c.args.skip c.args.files.now) c.loop-part.rows c.requires.folder done.rows_are_all

pub plant_dir-returns-clause-name : goal.plant_dir-returns-clause-name
plant_dir-returns-clause-name t c =
    let split : map (shown_part c.args.skip) c.deref-part-items.result.now ≡ split_files (shown_from c.args.skip c.args.files.now) =
    ap (map (shown_part c.args.skip)) c.deref-part-items.ensures.value ∙ c.in_ok-parts.ensures c.args.format c.args.left c.requires.folder in
    let all : length (first_parts (shown_from c.args.skip c.args.files.now)) ≤ c.loop-part.part-index =
    omega (arith, parts_count c.args.skip (shown_from c.args.skip c.args.files.now) c.deref-part-items.result.now split, c.loop-part-test.false) in
    let done = planted_all c.args.format c.args.left c.loop-part.part-index (shown_from c.args.skip c.args.files.now) c.loop-part.rows (text_of c.args.store.now) (text_of c.loop-part.store) c.requires.folder c.loop-part.invariant all in
    let text = dir_text c.args.format c.args.left (shown_from c.args.skip c.args.files.now) c.loop-part.rows c.new-text.result.items c.write_rows.new.out.items done.rows_are_all c.new-text.ensures.items c.in_ok-write_rows.ensures.ok in
    subst (λ (l : List ℕ). IfOk c.keep.result (λ name. name ≡ named l)) text c.keep.ensures.name

pub plant_dir-returns-clause-texts : goal.plant_dir-returns-clause-texts
plant_dir-returns-clause-texts t c =
    let split : map (shown_part c.args.skip) c.deref-part-items.result.now ≡ split_files (shown_from c.args.skip c.args.files.now) =
    ap (map (shown_part c.args.skip)) c.deref-part-items.ensures.value ∙ c.in_ok-parts.ensures c.args.format c.args.left c.requires.folder in
    let all : length (first_parts (shown_from c.args.skip c.args.files.now)) ≤ c.loop-part.part-index =
    omega (arith, parts_count c.args.skip (shown_from c.args.skip c.args.files.now) c.deref-part-items.result.now split, c.loop-part-test.false) in
    let done = planted_all c.args.format c.args.left c.loop-part.part-index (shown_from c.args.skip c.args.files.now) c.loop-part.rows (text_of c.args.store.now) (text_of c.loop-part.store) c.requires.folder c.loop-part.invariant all in
    let text = dir_text c.args.format c.args.left (shown_from c.args.skip c.args.files.now) c.loop-part.rows c.new-text.result.items c.write_rows.new.out.items done.rows_are_all c.new-text.ensures.items c.in_ok-write_rows.ensures.ok in
    let kept = kept_more c.keep.result (text_of c.args.store.now) (text_of c.loop-part.store) (text_of c.keep.new.store) done.texts (c.write_rows.new.out.items ∷ []) done.stored c.keep.ensures.texts in
    subst (λ (l : List (List ℕ)). OnOk c.keep.result (AddsTexts (text_of c.args.store.now) (text_of c.keep.new.store) l)) (ap (λ (l : List ℕ). done.texts ++ l ∷ []) text ∙ sym done.texts_are_all) kept

pub plant_part-start_behind-requires : goal.plant_part-start_behind-requires
plant_part-start_behind-requires t c =
    let is : IsPart c.args.format c.args.left c.args.skip c.args.part.now.files.now c.args.part.now.label.now = record { reach = c.requires.reach; folder = c.requires.folder; same = c.requires.same; some = c.requires.some } in
    label_within c.args.format c.args.left c.args.skip c.args.part.now.files.now c.args.part.now.label.now no_file is

pub plant_part-plant_file-requires : goal.plant_part-plant_file-requires
plant_part-plant_file-requires t c =
    let is : IsPart c.args.format c.args.left c.args.skip c.args.part.now.files.now c.args.part.now.label.now = record { reach = c.requires.reach; folder = c.requires.folder; same = c.requires.same; some = c.requires.some } in
    let one = one_file c.args.format c.args.left c.args.skip c.args.part.now.files.now c.args.part.now.label.now no_file is c.in-None.ensures in
    one.fits

pub plant_part-returns-in_ok-name-in-None-clause-row : goal.plant_part-returns-in_ok-name-in-None-clause-row
plant_part-returns-in_ok-name-in-None-clause-row t c =
    let is : IsPart c.args.format c.args.left c.args.skip c.args.part.now.files.now c.args.part.now.label.now = record { reach = c.requires.reach; folder = c.requires.folder; same = c.requires.same; some = c.requires.some } in
    let one = one_file c.args.format c.args.left c.args.skip c.args.part.now.files.now c.args.part.now.label.now no_file is c.in-None.ensures in
    row_same kinds.File c.in_ok-label.label c.args.part.now.label.now c.size_said.result _ c.in_ok-name-in-None.name _ c.in_ok-label.ensures c.size_said.ensures c.in_ok-name-in-None.ensures.name ∙ sym one.row

pub plant_part-returns-in_ok-name-in-None-clause-texts : goal.plant_part-returns-in_ok-name-in-None-clause-texts
plant_part-returns-in_ok-name-in-None-clause-texts t c =
    let is : IsPart c.args.format c.args.left c.args.skip c.args.part.now.files.now c.args.part.now.label.now = record { reach = c.requires.reach; folder = c.requires.folder; same = c.requires.same; some = c.requires.some } in
    let one = one_file c.args.format c.args.left c.args.skip c.args.part.now.files.now c.args.part.now.label.now no_file is c.in-None.ensures in
    subst (λ (l : List (List ℕ)). AddsTexts (text_of c.args.store.now) (text_of c.plant_file.new.store) l) (sym one.texts) c.in_ok-name-in-None.ensures.texts

pub plant_part-plant_dir-requires : goal.plant_part-plant_dir-requires
plant_part-plant_dir-requires t c =
    let is : IsPart c.args.format c.args.left c.args.skip c.args.part.now.files.now c.args.part.now.label.now = record { reach = c.requires.reach; folder = c.requires.folder; same = c.requires.same; some = c.requires.some } in
    let one = one_dir c.args.format c.args.left c.args.skip c.args.part.now.files.now c.args.part.now.label.now no_file is c.in-Some.ensures.0 in
    (omega arith, (subst (λ (n : ℕ). Reach n c.args.part.now.files.now) (sym c.in-Some.ensures.1) one.reach, subst (λ (n : ℕ). IsFolder c.args.format c.args.left (shown_from n c.args.part.now.files.now)) (sym c.in-Some.ensures.1) one.folder))

pub plant_part-returns-in_ok-name-in-Some-clause-row : goal.plant_part-returns-in_ok-name-in-Some-clause-row
plant_part-returns-in_ok-name-in-Some-clause-row t c =
    let is : IsPart c.args.format c.args.left c.args.skip c.args.part.now.files.now c.args.part.now.label.now = record { reach = c.requires.reach; folder = c.requires.folder; same = c.requires.same; some = c.requires.some } in
    let one = one_dir c.args.format c.args.left c.args.skip c.args.part.now.files.now c.args.part.now.label.now no_file is c.in-Some.ensures.0 in
    let name : c.in_ok-name-in-Some.name ≡ named (directory_text c.args.format c.args.left (shown_from (c.args.skip + length c.args.part.now.label.now + 1) c.args.part.now.files.now)) =
    c.in_ok-name-in-Some.ensures.name ∙ ap (λ (n : ℕ). named (directory_text c.args.format c.args.left (shown_from n c.args.part.now.files.now))) c.in-Some.ensures.1 in
    let size : c.size_said-in-Some.result ≡ size_said c.args.format (total_of (shown_from (c.args.skip + length c.args.part.now.label.now + 1) c.args.part.now.files.now)) =
    c.size_said-in-Some.ensures ∙ ap (size_said c.args.format) (c.bytes_of.ensures (c.args.skip + length c.args.part.now.label.now + 1)) in
    row_same kinds.Dir c.in_ok-label.label c.args.part.now.label.now c.size_said-in-Some.result _ c.in_ok-name-in-Some.name _ c.in_ok-label.ensures size name ∙ sym one.row

pub plant_part-returns-in_ok-name-in-Some-clause-texts : goal.plant_part-returns-in_ok-name-in-Some-clause-texts
plant_part-returns-in_ok-name-in-Some-clause-texts t c =
    let is : IsPart c.args.format c.args.left c.args.skip c.args.part.now.files.now c.args.part.now.label.now = record { reach = c.requires.reach; folder = c.requires.folder; same = c.requires.same; some = c.requires.some } in
    let one = one_dir c.args.format c.args.left c.args.skip c.args.part.now.files.now c.args.part.now.label.now no_file is c.in-Some.ensures.0 in
    subst (λ (l : List (List ℕ)). AddsTexts (text_of c.args.store.now) (text_of c.plant_dir.new.store) l) (ap (λ (n : ℕ). object_texts c.args.format c.args.left (shown_from n c.args.part.now.files.now)) c.in-Some.ensures.1 ∙ sym one.texts) c.in_ok-name-in-Some.ensures.texts

pub plant_part-bytes_of-requires : goal.plant_part-bytes_of-requires
plant_part-bytes_of-requires t c = part_small c.args.format (c.args.left + 1) c.args.skip c.args.part.now.files.now c.requires.folder
