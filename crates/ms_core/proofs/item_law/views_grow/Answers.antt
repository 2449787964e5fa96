use Rattle.std.proofs.Common.{List, sym, ap, ◌∙◌, subst, Contains}
use Rattle.std.specs.List.{filter_map}
use Rattle.std.proofs.lemmas.List.Elements.{Contains-append_left, filter_map-append}
use Rattle.ms_core.specs.Closing.{logs_grow, offered_stays, whole_stays}
use Rattle.ms_core.specs.Growth.{linked_grows, valid_grows}
use Rattle.ms_core.specs.Valid.{judging_plan}
use Rattle.ms_core.specs.Views.{log_in, owner_of_client, votes_told}
use Rattle.ms_ken.specs.Lists.{list_at}
use Rattle.ms_record.specs.declared.log.LogEvent.{LogEvent}
use Rattle.ms_record.specs.Growing.{is_chosen_grows, texts_append, votes_grow}
use Rattle.ms_record.specs.Items.{offer_in}
use Rattle.ms_record.specs.Logs.{texts_in}
use Rattle.ms_record.specs.Settings.{origin_of}
use Rattle.ms_core.proofs.item_law.views_grow.Goals as goal

pub returns-clause-logs : goal.returns-clause-logs
returns-clause-logs c = logs_grow

pub returns-clause-events : goal.returns-clause-events
returns-clause-events c = λ old new service event begins has.
    let g = logs_grow old new begins service in
    subst (λ (l : List LogEvent). Contains l event) g.1 (Contains-append_left (log_in old service) g.0 event has)

pub returns-clause-texts : goal.returns-clause-texts
returns-clause-texts c = λ old new service number begins.
    let g = logs_grow old new begins service in
    (texts_in number g.0, sym (texts_append number (log_in old service) g.0) ∙ ap (texts_in number) g.1)

pub returns-clause-votes : goal.returns-clause-votes
returns-clause-votes c = λ old new begins. votes_grow (log_in old) (log_in new) (logs_grow old new begins)

pub returns-clause-offers : goal.returns-clause-offers
returns-clause-offers c = λ old new begins client.
    let p = begins (owner_of_client client) in
    (filter_map offer_in p.0, sym (filter_map-append offer_in (list_at old (owner_of_client client)) p.0) ∙ ap (filter_map offer_in) p.1)

pub returns-clause-offered : goal.returns-clause-offered
returns-clause-offered c = λ old new k b e begins there. offered_stays old new begins k b e there

pub returns-clause-linked : goal.returns-clause-linked
returns-clause-linked c = λ old new setting members begins linked. linked_grows setting (log_in old) (log_in new) members (logs_grow old new begins) linked

pub returns-clause-chosen : goal.returns-clause-chosen
returns-clause-chosen c = λ old new setting k e begins chosen. is_chosen_grows (votes_told old) (votes_told new) (origin_of setting) k e (votes_grow (log_in old) (log_in new) (logs_grow old new begins)) chosen

pub returns-clause-master : goal.returns-clause-master
unfolding valid_grows
returns-clause-master c = λ old new setting k e begins master.
    let g = logs_grow old new begins in
    record {
      valid = valid_grows setting (log_in old) (log_in new) k e g master.valid;
      whole = whole_stays (log_in old) (log_in new) (judging_plan setting master.valid.next.members e) e.version g master.whole;
    }

pub returns-clause-next : goal.returns-clause-next
returns-clause-next c = λ old new setting members e begins next.
    record { links = next.links; whole = whole_stays (log_in old) (log_in new) (judging_plan setting members e) e.version (logs_grow old new begins) next.whole }
