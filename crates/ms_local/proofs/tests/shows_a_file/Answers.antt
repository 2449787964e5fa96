use Rattle.std.proofs.Common.{◌≡◌, ℕ, ◌<◌, ◌&&◌, Bool, true, [], ◌∷◌, Ok, Err, if◌then◌else◌, IsUtf8, ap, sym, subst, ◌∙◌, refl, arith}
use Rattle.std.proofs.lemmas.Bool.Decides.{nat_tests}
use Rattle.std.proofs.lemmas.Str.{IsUtf8-encode, encode_ascii, is_utf8-from_IsUtf8}
use Rattle.std.specs.Char.{IsScalar}
use Rattle.std.specs.List.{list_all}
use Rattle.ms_tree.specs.declared.limits.FilesError.TheVariants as errors
use Rattle.ms_tree.specs.Files.{FileList, added, with_file}
use Rattle.ms_tree.specs.Paths.{is_part, is_path, parts_of}
use Rattle.ms_local.specs.Memory.{Folder}
use Rattle.ms_local.proofs.tests.shows_a_file.Goals as goal

letter_is_text : (b : ℕ) → b < 128 → IsUtf8 (b ∷ [])
letter_is_text b below =
    let scalar : IsScalar b = grind (arith, nat_tests) in
    subst IsUtf8 (encode_ascii b below) (IsUtf8-encode b scalar)

letter_is_path : is_path (98 ∷ []) ≡ true
letter_is_path = ap (λ (t : Bool). t && list_all is_part (parts_of (98 ∷ []))) (is_utf8-from_IsUtf8 (98 ∷ []) (letter_is_text 98 (omega arith)))

-- the file may be placed where there is none
may_place : (files : FileList) → files ≡ [] → added files (98 ∷ []) (66 ∷ []) ≡ Ok (with_file files (98 ∷ []) (66 ∷ []))
may_place files none =
    subst (λ (f : FileList). added f (98 ∷ []) (66 ∷ []) ≡ Ok (with_file f (98 ∷ []) (66 ∷ []))) (sym none)
    (subst (λ (t : Bool). (if t then Ok (with_file [] (98 ∷ []) (66 ∷ [])) else Err errors.BadPath) ≡ Ok (with_file [] (98 ∷ []) (66 ∷ []))) (sym letter_is_path) refl)

pub write-requires : goal.write-requires
write-requires c = record {
  may = λ _. may_place c.new-work.result.files (ap (λ (folder : Folder). folder.files) c.new-work.ensures ∙ c.new.ensures);
}
