use Rattle.std.proofs.Common.{refl}
use Rattle.ms_object.specs.Objects.{object_text}
use Rattle.ms_object.proofs.ObjectLaws.{object_is_read, spelled_is_read, one_value}
use Rattle.ms_object.proofs.Sizes.{spelled_size}
use Rattle.ms_object.proofs.object.one_spelling.Goals as goal

pub returns-clause-read : goal.returns-clause-read
returns-clause-read c = object_is_read c.fields_are_spelled.ensures c.spelled_fields_are_read.ensures

pub returns-clause-again : goal.returns-clause-again
returns-clause-again c = spelled_is_read c.fields_are_spelled.ensures c.spelled_fields_are_read.ensures

pub returns-clause-one_value : goal.returns-clause-one_value
returns-clause-one_value c = one_value c.fields_are_spelled.ensures c.spelled_fields_are_read.ensures

pub returns-clause-one_text : goal.returns-clause-one_text
returns-clause-one_text c =
    λ o p h k same. one_value c.fields_are_spelled.ensures c.spelled_fields_are_read.ensures (object_text o) o p (record { ranges = h; spelled = refl }) (record { ranges = k; spelled = same })

pub returns-clause-short : goal.returns-clause-short
returns-clause-short c = spelled_size
