use Rattle.ms_core.proofs.Telling.{tells}
use Rattle.ms_core.proofs.ViewChain.{view_chain}
use Rattle.ms_core.proofs.Viewing.{view_agrees, view_valid, view_linked, view_stands, view_live, views_agree}
use Rattle.ms_core.proofs.view_law.told_views.Goals as goal

pub returns-clause-one_master : goal.returns-clause-one_master
returns-clause-one_master c = λ view setting t. view_agrees c.chain_laws.ensures setting view (tells view setting t.closed t.told)

pub returns-clause-valid : goal.returns-clause-valid
returns-clause-valid c = λ view setting t k e chosen. view_valid setting view (tells view setting t.closed t.told) k e chosen

pub returns-clause-linked : goal.returns-clause-linked
returns-clause-linked c = λ view setting t i e chosen. view_linked c.chain_laws.ensures setting view (tells view setting t.closed t.told) i e chosen

pub returns-clause-chain : goal.returns-clause-chain
returns-clause-chain c = λ view setting t. view_chain c.chain_laws.ensures setting view (tells view setting t.closed t.told)

pub returns-clause-stands : goal.returns-clause-stands
returns-clause-stands c = λ view setting chain t is i e chosen. view_stands c.chain_laws.ensures setting view chain (tells view setting t.closed t.told) is i e chosen

pub returns-clause-live : goal.returns-clause-live
returns-clause-live c = λ view setting chain t is i e live. view_live c.chain_laws.ensures setting view chain i e (tells view setting t.closed t.told) is live

pub returns-clause-one_list : goal.returns-clause-one_list
returns-clause-one_list c = λ one other setting a b wide p q agree la lb. views_agree c.chain_laws.ensures setting one other a b wide p.closed q.closed agree p.told q.told la lb
