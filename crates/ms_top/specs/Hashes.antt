-- What the command `hash` answers: the tree of a listing's files, or the first fault of the listing.
use Rattle.std.specs.Prelude.{◌≡◌, ℕ, ◌⊎◌, List, length, Some, None, Result, Ok, Err}
use Rattle.ms_base.specs.declared.names.Name.{Name}
use Rattle.ms_base.specs.declared.names.Quantity.TheVariants as quantities
use Rattle.ms_object.specs.declared.format.Format.TheVariants as formats
use Rattle.ms_object.specs.Trees.{Texts}
use Rattle.ms_record.specs.declared.refusal.Refusal.{Refusal}
use Rattle.ms_record.specs.declared.refusal.Refusal.TheVariants as refusals
use Rattle.ms_tree.specs.Files.{FileList}
use Rattle.ms_text.specs.Lines.{lines_of}
use Rattle.ms_tree.specs.Listings.{RanOut, listing_at}
use Rattle.ms_tree.specs.Planting.{IsPlanted, Collide, object_texts, different, first_large}
use Rattle.ms_words.specs.declared.report.Report.{Report}
use Rattle.ms_words.specs.declared.report.Report.TheVariants as reports
use Rattle.ms_top.specs.Inputs.{TextSays}

-- no file is too large for format 1; how many files there are, how many different objects they have, and the root of their tree
pub record IsHash (files : FileList) (count objects : ℕ) (root : Name) : Type 0 where
  pub small : first_large formats.One files ≡ None
  pub count_is : count ≡ length files
  pub store : Texts
  pub planted : IsPlanted formats.One files store root
  pub objects_is : Collide (object_texts formats.One 64 files) ⊎ (objects ≡ different (object_texts formats.One 64 files))

abbrev pub HashIs : FileList → Result Report Refusal → Type 0
HashIs files result = (count : ℕ) × (objects : ℕ) × (root : Name) × IsHash files count objects root × (result ≡ Ok (reports.Hash count objects root))

-- the first file that is too large for format 1 has so many bytes
pub record IsTooLarge (files : FileList) (result : Result Report Refusal) : Type 0 where
  pub bytes : ℕ
  pub first : first_large formats.One files ≡ Some bytes
  pub is : result ≡ Err (refusals.Limit quantities.File bytes)

-- the tree of the files in format 1, or the first file that it does not take
abbrev pub FilesSay : FileList → Result Report Refusal → Type 0
FilesSay files result = HashIs files result ⊎ IsTooLarge files result

-- memory may run out for the tree of files of which none is too large
pub record MayLackTree (files : FileList) : Type 0 where
  pub small : first_large formats.One files ≡ None

-- memory may run out for a listing behind right lines, at one of two words; or for the tree of its files
abbrev pub MayLackListing : List ℕ → Type 0
MayLackListing text = RanOut (lines_of text) ⊎ ((files : FileList) × (listing_at text ≡ Ok files) × MayLackTree files)

-- what the text of a listing is answered with
abbrev pub HashSays : List ℕ → Result Report Refusal → Type 0
HashSays = TextSays listing_at FilesSay MayLackListing
