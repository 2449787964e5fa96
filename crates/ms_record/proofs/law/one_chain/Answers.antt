use Rattle.ms_record.proofs.ChainFound.{chain_found}
use Rattle.ms_record.proofs.ChainLaws.{none_linked, linked_front, linked_begins, linked_same, linked_push, member_chosen, chosen_stands}
use Rattle.ms_record.proofs.law.one_chain.Goals as goal

pub returns-clause-none : goal.returns-clause-none
returns-clause-none x = λ votes origin. none_linked votes origin

pub returns-clause-goes_on : goal.returns-clause-goes_on
returns-clause-goes_on x = λ votes origin c e h chosen links. linked_push votes origin c e h chosen links

pub returns-clause-front : goal.returns-clause-front
returns-clause-front x = λ votes origin c n h. linked_front votes origin c n h

pub returns-clause-chosen : goal.returns-clause-chosen
returns-clause-chosen x = λ votes origin c i e h at. member_chosen votes origin c i e h at

pub returns-clause-begins : goal.returns-clause-begins
returns-clause-begins x = λ votes origin c d agree hc hd l. linked_begins votes origin c d (λ k h. agree k) hc hd l

pub returns-clause-begins_there : goal.returns-clause-begins_there
returns-clause-begins_there x = λ votes origin c d agree hc hd l. linked_begins votes origin c d agree hc hd l

pub returns-clause-one_there : goal.returns-clause-one_there
returns-clause-one_there x = λ votes origin c d agree hc hd h. linked_same votes origin c d agree hc hd h

pub returns-clause-one_list : goal.returns-clause-one_list
returns-clause-one_list x = λ votes origin c d agree hc hd h. linked_same votes origin c d (λ k l. agree k) hc hd h

pub returns-clause-stands : goal.returns-clause-stands
returns-clause-stands x = λ votes origin chain i e agree next chain_is chosen. chosen_stands votes origin chain i e agree next chain_is chosen

pub returns-clause-found : goal.returns-clause-found
returns-clause-found x = λ votes origin one agrees known links. chain_found votes origin one agrees known links
