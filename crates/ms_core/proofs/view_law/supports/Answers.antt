use Rattle.std.proofs.Common.{inl, inr}
use Rattle.ms_core.proofs.Telling.{tells, vote_offered, offered, one_offer, log_supported}
use Rattle.ms_ken.specs.Lists.{list_at}
use Rattle.ms_ken.specs.Prefixes.{get_splits}
use Rattle.ms_record.specs.declared.log.LogEvent.TheVariants.{Put, Drop}
use Rattle.ms_core.proofs.view_law.supports.Goals as goal

pub returns-clause-items : goal.returns-clause-items
returns-clause-items c = λ view setting t. (tells view setting t.closed t.told).supported

pub returns-clause-ranges : goal.returns-clause-ranges
returns-clause-ranges c = λ view setting t. (tells view setting t.closed t.told).ranges

pub returns-clause-votes : goal.returns-clause-votes
returns-clause-votes c = λ view setting t s place k b e at. vote_offered view setting (tells view setting t.closed t.told) s place k b e at

pub returns-clause-offers : goal.returns-clause-offers
returns-clause-offers c = λ view setting t k b e o.
    let s = (offered view setting (tells view setting t.closed t.told) k b e o).1.supports in
    (s.declared.justified, record { valid = s.declared.valid; whole = s.whole })

pub returns-clause-one_offer : goal.returns-clause-one_offer
returns-clause-one_offer c = λ view setting t k b e f x y. one_offer setting view (tells view setting t.closed t.told) k b e f x y

pub returns-clause-puts : goal.returns-clause-puts
returns-clause-puts c = λ view setting t s generation name text has. (log_supported view setting (tells view setting t.closed t.told) s (Put generation name text) has).1

pub returns-clause-drops : goal.returns-clause-drops
returns-clause-drops c = λ view setting t s floor has. (log_supported view setting (tells view setting t.closed t.told) s (Drop floor) has).1

pub returns-clause-owners : goal.returns-clause-owners
returns-clause-owners c = λ view setting t owner place item at other.
    let p = get_splits (list_at view owner) place item at in
    elim ((tells view setting t.closed t.told).supported owner p.0 item p.1 other p.3) [ inl s ↦ inl s.0 | inr k ↦ inr (k.0, k.1, k.2) ]
