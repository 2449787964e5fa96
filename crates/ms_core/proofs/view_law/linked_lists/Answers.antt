use Rattle.std.proofs.Common.{refl, ◌+◌, length}
use Rattle.ms_core.proofs.Behind.{valid_members}
use Rattle.ms_core.proofs.Telling.{tells}
use Rattle.ms_core.proofs.Viewing.{view_agrees, view_begins, view_links}
use Rattle.ms_record.specs.Voters.{first_known, voters_known}
use Rattle.ms_core.specs.Views.{votes_told}
use Rattle.ms_record.specs.Settings.{origin_of}
use Rattle.ms_core.proofs.view_law.linked_lists.Goals as goal

pub returns-clause-one : goal.returns-clause-one
returns-clause-one c = λ view setting t a b la lb long. c.chain_laws.ensures.one_list (votes_told view) (origin_of setting) a b (view_agrees c.chain_laws.ensures setting view (tells view setting t.closed t.told)) la lb long

pub returns-clause-begins : goal.returns-clause-begins
returns-clause-begins c = λ view setting chain a t is linked. view_begins c.chain_laws.ensures setting view (tells view setting t.closed t.told) a chain linked is.linked (is.longest a linked)

pub returns-clause-goes_on : goal.returns-clause-goes_on
returns-clause-goes_on c = λ view setting a e t linked chosen.
    c.chain_laws.ensures.goes_on (votes_told view) (origin_of setting) a e linked chosen
    (view_links c.chain_laws.ensures setting view (tells view setting t.closed t.told) (length a + 1) e (record { members = a; linked = linked; at = refl; chosen = chosen }))

pub returns-clause-members : goal.returns-clause-members
returns-clause-members c = λ view setting a e t linked valid. valid_members c.chain_laws.ensures setting view (tells view setting t.closed t.told) a e linked valid

pub returns-clause-voters : goal.returns-clause-voters
returns-clause-voters c = λ view setting a service t linked has. voters_known (votes_told view) (origin_of setting) (first_known setting (tells view setting t.closed t.told).ranges) a linked service has
