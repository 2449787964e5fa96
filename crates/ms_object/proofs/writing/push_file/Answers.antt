use Rattle.std.proofs.Common.{[], ◌∷◌, length}
use Rattle.std.specs.Int.{w32, w64, to_be_bytes}
use Rattle.std.proofs.lemmas.Result.{on_ok_weaker}
use Rattle.ms_object.specs.Objects.{file_tag, names_text}
use Rattle.ms_object.proofs.Pushed.{four_pushed}
use Rattle.ms_object.proofs.writing.push_file.Goals as goal

pub returns-clause-ok : goal.returns-clause-ok
returns-clause-ok c =
    let blobs = c.args.blobs.now in
    on_ok_weaker c.push_names.result
    (λ last. four_pushed c.args.out.now.items (file_tag c.args.format ∷ []) (to_be_bytes w64 c.args.size) (to_be_bytes w32 (length blobs)) (names_text blobs) _ _ _ _
    c.in_ok-push_file_tag.ensures.ok c.in_ok-push_u64.ensures.ok c.in_ok-push_u32.ensures.ok last)
    c.push_names.ensures.ok
