use Rattle.std.proofs.Common.{◌≡◌, ◌++◌, ◌∷◌, [], ◌-◌, length, List, ℕ, sym, ap, subst, ◌∙◌, arith}
use Rattle.std.specs.Prelude.{OnOk, IfErr}
use Rattle.std.proofs.lemmas.Result.{err_from_is_err_and}
use Rattle.ms_object.specs.Objects.{IsSizedDir}
use Rattle.ms_object.specs.Stores.{text_of}
use Rattle.ms_object.specs.Trees.{Met}
use Rattle.ms_tree.specs.Files.{total_of}
use Rattle.ms_tree.specs.Gathering.{IsFront, IsFilePath, AreFree, Gathers, StopsAt, row_met}
use Rattle.ms_tree.proofs.Walks.{judged_result, judged_stop, row_at_file, row_at_dir, row_into_dir, stops_long, stops_deep, stops_below, rows_met, all_gathered}
use Rattle.ms_tree.proofs.Faults.{Gathers-row, StopsAt-row}
use Rattle.ms_tree.proofs.Fronts.{file_path, front_below}
use Rattle.ms_tree.proofs.Freeing.{free_below, free_after, free_here, label_here, path_back}
use Rattle.ms_tree.proofs.gathering.+gather_rows.Goals as goal

pub gather_row-returns-then-length-gt-PATH_BYTES-clause-err : goal.gather_row-returns-then-length-gt-PATH_BYTES-clause-err
gather_row-returns-then-length-gt-PATH_BYTES-clause-err t c =
    let path = c.extend_from_slice.new.self.items in
    let is : path ≡ c.args.path.now.items ++ c.args.row.now.label = c.in_ok-extend_from_slice.ensures.items ∙ ap (λ (l : List ℕ). c.args.path.now.items ++ l) c.as_slice.ensures in
    stops_long c.args.format c.args.files.now c.args.left (text_of c.args.store.now) c.args.path.now.items path c.args.row.now c.len-length.result is (omega (arith, c.extend_from_slice.new.self.ok.0)) c.if-length-gt-PATH_BYTES.true

pub gather_row-returns-then-left-eq0-clause-err : goal.gather_row-returns-then-left-eq0-clause-err
gather_row-returns-then-left-eq0-clause-err t c =
    let path = c.extend_from_slice.new.self.items in
    let is : path ≡ c.args.path.now.items ++ c.args.row.now.label = c.in_ok-extend_from_slice.ensures.items ∙ ap (λ (l : List ℕ). c.args.path.now.items ++ l) c.as_slice.ensures in
    stops_deep c.args.format c.args.files.now c.args.left (text_of c.args.store.now) c.args.path.now.items path c.args.row.now is (omega (arith, c.extend_from_slice.new.self.ok.0)) c.if-left-eq0.true

pub gather_row-add_file-requires-clause-path : goal.gather_row-add_file-requires-clause-path
gather_row-add_file-requires-clause-path t c =
    let before = c.args.path.now.items in
    let label = c.args.row.now.label in
    let path = c.extend_from_slice.new.self.items in
    let is : path ≡ before ++ label = c.in_ok-extend_from_slice.ensures.items ∙ ap (λ (l : List ℕ). before ++ l) c.as_slice.ensures in
    let shown : c.as_slice-in-File.result.now ≡ before ++ label = c.as_slice-in-File.ensures.value ∙ is in
    subst IsFilePath (sym shown) (file_path c.args.left before label c.requires.front c.requires.label (omega arith) (omega (arith, c.extend_from_slice.new.self.ok.0, ap (λ (l : List ℕ). length l) is)))

pub gather_row-returns-in_err-rows-in-Dir-clause-err : goal.gather_row-returns-in_err-rows-in-Dir-clause-err
gather_row-returns-in_err-rows-in-Dir-clause-err t c =
    let before = c.args.path.now.items in
    let path = c.extend_from_slice.new.self.items in
    let store = text_of c.args.store.now in
    let is : path ≡ before ++ c.args.row.now.label = c.in_ok-extend_from_slice.ensures.items ∙ ap (λ (l : List ℕ). before ++ l) c.as_slice.ensures in
    let at = row_at_dir c.args.format c.args.left store before path c.args.row.now is (omega (arith, c.extend_from_slice.new.self.ok.0)) (omega arith) c.in-Dir.is in
    let p = err_from_is_err_and c.from_residual-in_err-rows-in-Dir.result c.from_residual-in_err-rows-in-Dir.ensures.1 in
    rw (p.1, p.2)
    (subst (λ (m : List Met). StopsAt c.args.files.now m c.in_err-rows-in-Dir.field-0.0) (sym at)
    (stops_below c.args.files.now _ _ c.in_err-rows-in-Dir.field-0.0 c.in_err-rows-in-Dir.ensures.exact))

pub gather_row-gather_rows-requires : goal.gather_row-gather_rows-requires
gather_row-gather_rows-requires t c =
    let before = c.args.path.now.items in
    let label = c.args.row.now.label in
    let is : c.extend_from_slice.new.self.items ≡ before ++ label = c.in_ok-extend_from_slice.ensures.items ∙ ap (λ (l : List ℕ). before ++ l) c.as_slice.ensures in
    let next : c.push.new.self.items ≡ (before ++ label) ++ 47 ∷ [] = c.in_ok-push-in-Dir.ensures.items ∙ ap (λ (l : List ℕ). l ++ 47 ∷ []) is in
    let rows : IsSizedDir c.as_slice-rows.result.now = subst IsSizedDir (sym c.as_slice-rows.ensures) c.in_ok-rows-in-Dir.ensures.rows in
    let front : IsFront (c.args.left - 1) c.push.new.self.items =
    subst (λ (b : List ℕ). IsFront (c.args.left - 1) b) (sym next) (front_below c.args.left before label c.requires.front c.requires.label (omega arith)) in
    let below : AreFree c.args.files.now c.push.new.self.items c.as_slice-rows.result.now =
    subst (λ (b : List ℕ). AreFree c.args.files.now b c.as_slice-rows.result.now) (sym next) (free_below c.args.files.now (before ++ label) c.as_slice-rows.result.now c.requires.free) in
    (omega arith, (front, (rows, below)))

pub gather_row-returns-in-File-clause-ok : goal.gather_row-returns-in-File-clause-ok
gather_row-returns-in-File-clause-ok t c =
    let before = c.args.path.now.items in
    let path = c.as_slice-in-File.result.now in
    let is : path ≡ before ++ c.args.row.now.label = c.as_slice-in-File.ensures.value ∙ c.in_ok-extend_from_slice.ensures.items ∙ ap (λ (l : List ℕ). before ++ l) c.as_slice.ensures in
    let at = row_at_file c.args.format c.args.left (text_of c.args.store.now) before path c.args.row.now is (omega (arith, c.extend_from_slice.new.self.ok.0, c.as_slice-in-File.ensures.len)) (omega arith) c.in-File.is in
    subst (λ (m : List Met). OnOk c.add_file.result (Gathers c.args.files.now c.add_file.new.files m)) (sym at) c.add_file.ensures.ok

pub gather_row-returns-in-File-clause-err : goal.gather_row-returns-in-File-clause-err
gather_row-returns-in-File-clause-err t c =
    let before = c.args.path.now.items in
    let path = c.as_slice-in-File.result.now in
    let is : path ≡ before ++ c.args.row.now.label = c.as_slice-in-File.ensures.value ∙ c.in_ok-extend_from_slice.ensures.items ∙ ap (λ (l : List ℕ). before ++ l) c.as_slice.ensures in
    let at = row_at_file c.args.format c.args.left (text_of c.args.store.now) before path c.args.row.now is (omega (arith, c.extend_from_slice.new.self.ok.0, c.as_slice-in-File.ensures.len)) (omega arith) c.in-File.is in
    subst (λ (m : List Met). IfErr c.add_file.result (StopsAt c.args.files.now m)) (sym at) c.add_file.ensures.err

pub gather_row-returns-in_ok-push-in-Dir-clause-ok : goal.gather_row-returns-in_ok-push-in-Dir-clause-ok
gather_row-returns-in_ok-push-in-Dir-clause-ok t c =
    let before = c.args.path.now.items in
    let path = c.extend_from_slice.new.self.items in
    let is : path ≡ before ++ c.args.row.now.label = c.in_ok-extend_from_slice.ensures.items ∙ ap (λ (l : List ℕ). before ++ l) c.as_slice.ensures in
    let at = row_into_dir c.args.format c.args.left (text_of c.args.store.now) before path c.push.new.self.items c.args.row.now _ c.as_slice-rows.result.now is (omega (arith, c.extend_from_slice.new.self.ok.0)) (omega arith) c.in-Dir.is
    c.in_ok-rows-in-Dir.ensures.exact c.in_ok-push-in-Dir.ensures.items c.as_slice-rows.ensures in
    subst (λ (m : List Met). OnOk c.gather_rows.result (Gathers c.args.files.now c.gather_rows.new.files m)) (sym at) c.gather_rows.ensures.ok

pub gather_row-returns-in_ok-push-in-Dir-clause-err : goal.gather_row-returns-in_ok-push-in-Dir-clause-err
gather_row-returns-in_ok-push-in-Dir-clause-err t c =
    let before = c.args.path.now.items in
    let path = c.extend_from_slice.new.self.items in
    let is : path ≡ before ++ c.args.row.now.label = c.in_ok-extend_from_slice.ensures.items ∙ ap (λ (l : List ℕ). before ++ l) c.as_slice.ensures in
    let at = row_into_dir c.args.format c.args.left (text_of c.args.store.now) before path c.push.new.self.items c.args.row.now _ c.as_slice-rows.result.now is (omega (arith, c.extend_from_slice.new.self.ok.0)) (omega arith) c.in-Dir.is
    c.in_ok-rows-in-Dir.ensures.exact c.in_ok-push-in-Dir.ensures.items c.as_slice-rows.ensures in
    subst (λ (m : List Met). IfErr c.gather_rows.result (StopsAt c.args.files.now m)) (sym at) c.gather_rows.ensures.err

pub gather_rows-gather_judged-requires : goal.gather_rows-gather_judged-requires
gather_rows-gather_judged-requires t c =
    let before = c.args.path.now.items in
    let same : c.loop-row.path.items ≡ before = c.loop-row.invariant.path in
    let front : IsFront c.args.left c.loop-row.path.items = subst (λ (b : List ℕ). IsFront c.args.left b) (sym same) c.requires.front in (
      omega arith,
      (
        front,
        (
          label_here c.args.rows.now c.loop-row.row-index c.row-item.result (omega arith) c.row-item.is c.requires.rows,
          free_here before c.loop-row.path.items c.loop-row.files c.args.rows.now c.loop-row.row-index c.row-item.result same (omega arith) c.row-item.is c.loop-row.invariant.free,
        ),
      ),
    )

pub gather_rows-returns-in_err-gather_judged-clause-err : goal.gather_rows-returns-in_err-gather_judged-clause-err
gather_rows-returns-in_err-gather_judged-clause-err t c =
    let met = row_met c.args.format c.args.left (text_of c.args.store.now) in
    let rows = c.args.rows.now in
    let stop : StopsAt c.loop-row.files (met c.args.path.now.items c.row-item.result) c.in_err-gather_judged.field-0.0 =
    subst (λ (b : List ℕ). StopsAt c.loop-row.files (met b c.row-item.result) c.in_err-gather_judged.field-0.0) c.loop-row.invariant.path c.in_err-gather_judged.ensures.err in
    let all = StopsAt-row (met c.args.path.now.items) c.args.files.now c.loop-row.files rows c.loop-row.row-index c.row-item.result c.in_err-gather_judged.field-0.0 (omega arith) c.row-item.is c.loop-row.invariant.gathered stop in
    let p = err_from_is_err_and c.from_residual.result c.from_residual.ensures.1 in
    rw (p.1, p.2)
    (subst (λ (m : List Met). StopsAt c.args.files.now m c.in_err-gather_judged.field-0.0) (sym (rows_met c.args.format c.args.left (text_of c.args.store.now) c.args.path.now.items rows)) all)

pub gather_rows-loop-row-preserved : goal.gather_rows-loop-row-preserved
gather_rows-loop-row-preserved t c =
    let store = text_of c.args.store.now in
    let before = c.args.path.now.items in
    let rows = c.args.rows.now in
    let i = c.loop-row.row-index in
    let row = c.row-item.result in
    let here : Gathers c.loop-row.files c.gather_judged.new.files (row_met c.args.format c.args.left store before row) =
    subst (λ (b : List ℕ). Gathers c.loop-row.files c.gather_judged.new.files (row_met c.args.format c.args.left store b row)) c.loop-row.invariant.path c.in_ok-gather_judged.ensures.ok in
    record {
      gathered = Gathers-row (row_met c.args.format c.args.left store before) c.args.files.now c.loop-row.files c.gather_judged.new.files rows i row (omega arith) c.row-item.is c.loop-row.invariant.gathered here;
      free = free_after c.args.format c.args.left store before c.loop-row.files c.gather_judged.new.files rows i row c.requires.rows (omega arith) c.row-item.is c.loop-row.invariant.free here;
      path = c.truncate.ensures.items
          ∙ path_back before c.loop-row.path.items c.gather_judged.new.path.items c.len-before.result c.loop-row.invariant.path (omega (arith, c.args.path.now.ok.0)) c.in_ok-gather_judged.ensures.path;
    }

pub gather_rows-returns-clause-ok : goal.gather_rows-returns-clause-ok
gather_rows-returns-clause-ok t c = all_gathered c.args.format c.args.left (text_of c.args.store.now) c.args.path.now.items c.args.files.now c.loop-row.files c.args.rows.now c.loop-row.row-index (omega arith) c.loop-row.invariant.gathered

pub gather_judged-gather_row-requires : goal.gather_judged-gather_row-requires
gather_judged-gather_row-requires t c = (omega arith, (c.requires.front, (c.requires.label, c.requires.free)))

pub gather_judged-returns-in_err-gather_row-clause-err : goal.gather_judged-returns-in_err-gather_row-clause-err
gather_judged-returns-in_err-gather_row-clause-err t c =
    let p = err_from_is_err_and c.from_residual.result c.from_residual.ensures.1 in
    rw (p.1, p.2) (judged_stop c.args.format c.args.left (text_of c.args.store.now) c.args.path.now.items c.args.row.now c.args.files.now _ c.in_err-gather_row.ensures.err)

pub gather_judged-returns-clause-ok : goal.gather_judged-returns-clause-ok
gather_judged-returns-clause-ok t c =
    let bytes : c.total.result - c.total-before.result ≡ total_of c.gather_row.new.files - total_of c.args.files.now = omega (arith, c.total.ensures, c.total-before.ensures) in
    (judged_result c.args.format c.args.left (text_of c.args.store.now) c.args.path.now.items c.args.row.now c.args.files.now c.gather_row.new.files (c.total.result - c.total-before.result) c.check_size.result c.in_ok-gather_row.ensures.ok bytes c.check_size.ensures).0

pub gather_judged-returns-clause-err : goal.gather_judged-returns-clause-err
gather_judged-returns-clause-err t c =
    let bytes : c.total.result - c.total-before.result ≡ total_of c.gather_row.new.files - total_of c.args.files.now = omega (arith, c.total.ensures, c.total-before.ensures) in
    (judged_result c.args.format c.args.left (text_of c.args.store.now) c.args.path.now.items c.args.row.now c.args.files.now c.gather_row.new.files (c.total.result - c.total-before.result) c.check_size.result c.in_ok-gather_row.ensures.ok bytes c.check_size.ensures).1
