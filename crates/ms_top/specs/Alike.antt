-- Two runs of one command over inputs that tell the same.
use Rattle.std.specs.Prelude.{◌≡◌, ◌≢◌, ℕ, List, Option, Some, Ok}
use Rattle.ms_base.specs.Outside.{InputsView, SinkView, HasText}
use Rattle.ms_object.specs.declared.format.Format.TheVariants as formats
use Rattle.ms_tree.specs.Files.{FileList}
use Rattle.ms_tree.specs.Listings.{listing_at}
use Rattle.ms_tree.specs.Planting.{Collide, object_texts}
use Rattle.ms_words.specs.declared.command.Command.{Command}
use Rattle.ms_words.specs.declared.command.Command.TheVariants.{Hash}
use Rattle.ms_words.specs.declared.report.Report.{Report}
use Rattle.ms_words.specs.Texts.{status_of}
use Rattle.ms_top.specs.Telling.{Writes}

-- the status of neither a fault nor want of memory
pub record IsJudged (status : ℕ) : Type 0 where
  pub no_fault : status ≢ 3
  pub memory : status ≢ 8

-- both write the lines of one report, and end with its status
pub record AreAlike (before after : SinkView) (status : ℕ) (first last : SinkView) (again : ℕ) : Type 0 where
  pub report : Report
  pub status_is : status ≡ status_of report
  pub again_is : again ≡ status_of report
  pub writes : Writes report before after
  pub writes_again : Writes report first last

-- the command hashes a listing of whose objects two have one SHA-256
pub record HashesCollision (command : Option Command) (inputs : InputsView) : Type 0 where
  pub file : List ℕ
  pub is : command ≡ Some (Hash file)
  pub text : List ℕ
  pub text_of : HasText inputs file text
  pub files : FileList
  pub spells : listing_at text ≡ Ok files
  pub collide : Collide (object_texts formats.One 64 files)
