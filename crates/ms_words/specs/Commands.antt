-- The grammar of the words.
use Rattle.std.specs.Prelude.{◌≡◌, ℕ, ◌==◌, bytes_eq, codes, map, List, [], ◌∷◌, Option, Some, None, IsSome, Result, Ok, Err, slice_index, if◌then◌else◌}
use Rattle.std.specs.Prelude.{string_bytes}
use Rattle.std.specs.Option.{option_and_then, option_map}
use Rattle.std.specs.declared.string.String.{String}
use Rattle.std.specs.declared.alloc.Global.{Global}
use Rattle.ms_words.specs.declared.command.Command.{Command}
use Rattle.ms_words.specs.declared.command.Command.TheVariants.{Audit, Drill, Hash}
use Rattle.ms_words.specs.declared.command.Verb.{Verb}
use Rattle.ms_words.specs.declared.command.Verb.TheVariants as verbs
use Rattle.ms_words.specs.declared.command.WordsError.{WordsError}
use Rattle.ms_words.specs.declared.command.WordsError.TheVariants as errors

-- the bytes of each word
abbrev pub word_texts : List (String Global) → List (List ℕ)
word_texts words = map (λ w. string_bytes w) words

-- one file, whose name does not begin with `-`
abbrev pub one_file : List (List ℕ) → Option (List ℕ)
one_file [] = None
one_file (file ∷ []) = if slice_index file 0 == 45 then None else Some file
one_file (file ∷ more ∷ rest) = None

-- what the first word asks for
abbrev pub verb_of : List ℕ → Option Verb
verb_of word =
    if bytes_eq word (codes "audit") then Some verbs.Audit
    else if bytes_eq word (codes "drill") then Some verbs.Drill
    else if bytes_eq word (codes "hash") then Some verbs.Hash
    else None

-- a verb and its file
abbrev pub command_with : Verb → List ℕ → Command
command_with verbs.Audit file = Audit file
command_with verbs.Drill file = Drill file
command_with verbs.Hash file = Hash file

-- the first word is the verb, and the rest are its words
unfoldable pub command_of : List (List ℕ) → Option Command
command_of [] = None
command_of (word ∷ rest) = option_and_then (λ verb. option_map (command_with verb) (one_file rest)) (verb_of word)

-- what is read is what the words say; memory runs out only where they say something
abbrev pub ReadsWords : Result Command WordsError → Option Command → Type 0
ReadsWords (Ok command) said = said ≡ Some command
ReadsWords (Err errors.Usage) said = said ≡ None
ReadsWords (Err errors.NoMemory) said = IsSome said
