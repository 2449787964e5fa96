-- A file of a draft.
use Rattle.std.specs.Prelude.{ℕ, List, string_bytes}
use Rattle.ms_tree.specs.declared.draft.DraftFile.{DraftFile}

-- its path and its text
abbrev pub drafted : DraftFile → List ℕ × List ℕ
drafted file = (string_bytes file.path, file.text.now)
