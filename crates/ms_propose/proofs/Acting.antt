-- What one act leaves of a desk.
use Rattle.std.proofs.Common.{◌≡◌, ℕ, zero, suc, ◌<◌, ◌≤◌, ◌==◌, Bool, true, false, cond, List, [], ◌∷◌, ◌++◌, Option, Some, inl, inr, Result, Ok, Err, refl, sym, ap, ◌∙◌, subst, length, arith, drop, slice_get}
use Rattle.std.specs.Prelude.{Contains}
use Rattle.std.proofs.lemmas.List.Elements.{Contains-append_right, filter_map-append}
use Rattle.ms_base.specs.Counts.{Rose}
use Rattle.ms_base.specs.declared.names.Name.{Name}
use Rattle.ms_base.specs.declared.names.ServiceId.{ServiceId}
use Rattle.ms_bid.specs.declared.act.Act.{Act}
use Rattle.ms_bid.specs.declared.act.Act.TheVariants.{Keep, Send, Look, Declare, End}
use Rattle.ms_bid.specs.declared.act.Answer.TheVariants.{Kept as KeptAnswer, Sent, Seen, Declared, Failed}
use Rattle.ms_core.specs.Asking.{MayOffer}
use Rattle.ms_core.specs.Views.{View, IsClosed, log_in, owner_of_client, votes_told}
use Rattle.ms_ken.specs.Known.{Known, TableId}
use Rattle.ms_ken.specs.Lists.{list_at, Begins, with_item, with_told}
use Rattle.ms_ken.specs.Prefixes.{get_splits, prefix_self}
use Rattle.ms_ken.specs.Rows.{begins_self, begins_told}
use Rattle.ms_link.specs.Composing.{learns_self}
use Rattle.ms_record.specs.declared.item.Item.{Item}
use Rattle.ms_record.specs.declared.item.Item.TheVariants.{Log, Offer}
use Rattle.ms_record.specs.declared.log.ListId.{ListId}
use Rattle.ms_record.specs.declared.log.LogEvent.{LogEvent}
use Rattle.ms_record.specs.declared.log.LogEvent.TheVariants.{Rec, Put, Drop}
use Rattle.ms_record.specs.declared.ballot.Ballot.{Ballot}
use Rattle.ms_record.specs.declared.entry.Entry.{Entry}
use Rattle.ms_record.specs.declared.record.Record.{Record}
use Rattle.ms_record.specs.declared.record.Record.TheVariants.{Prepare, Accept}
use Rattle.ms_record.specs.Votes.{ballot_of}
use Rattle.ms_record.specs.declared.setting.Setting.{Setting}
use Rattle.ms_record.specs.declared.refusal.Place.TheVariants as places
use Rattle.ms_record.specs.declared.refusal.Refusal.{Refusal}
use Rattle.ms_record.specs.declared.refusal.Refusal.TheVariants as refusals
use Rattle.ms_record.specs.declared.sight.Sight.{Sight}
use Rattle.ms_record.specs.Items.{event_in, events_of}
use Rattle.ms_record.specs.Logs.{texts_in, vote_texts}
use Rattle.ms_record.specs.Reading.{votes_of}
use Rattle.ms_record.specs.Records.{record_text}
use Rattle.ms_record.specs.Sights.{IsSight}
use Rattle.ms_local.specs.declared.deed.Deed.{Deed}
use Rattle.ms_local.specs.declared.kept.Kept.{Kept}
use Rattle.ms_record.specs.declared.key.Key.TheVariants.{Object}
use Rattle.ms_local.specs.Desks.{DeskView, HasKeptRound, IsDesk, KnowsTold, with_deed}
use Rattle.ms_local.specs.Keeping.{MayHaveState, WritesKept}
use Rattle.ms_local.specs.Outside.{KeeperView, WhereTold}
use Rattle.ms_propose.specs.declared.acts.Aim.{Aim}
use Rattle.ms_propose.specs.Acts.{DoesAct, Halts, MayDo, MayHaveKept, deed_of, kept_round, vote_list, with_round}
use Rattle.ms_propose.proofs.Composing.{keeps_self, lanes_self, votes_begin}
use Rattle.ms_propose.specs.Going.{DeskBids, KeepsObjects}
use Rattle.ms_local.specs.Desks.{OnTold, faults_at}
use Rattle.ms_local.specs.Calls.{AppendsAt, DeskCalls}
use Rattle.ms_replay.specs.Looks.{IsInRange}

-- a text that was appended is one of its list
pub text_there : (log : List LogEvent) (text : List ℕ) → Contains log (Rec vote_list text) → Contains (vote_texts log) text
text_there [] text h = absurd (omega (arith, h.1))
text_there (Rec list other ∷ log) text (zero, l, e) = by (list.0 == 0) list_is where
  list_is : (list.0 == 0) ≡ true
  list_is = ap (λ (l : ListId). l.0 == 0) (let q : list ≡ vote_list = (let r : Rec list other ≡ Rec vote_list text = e in cc) in q)

  by : (t : Bool) → t ≡ true → Contains (cond t (other ∷ texts_in 0 log) (texts_in 0 log)) text
  by true q = (zero, omega arith, (let r : Rec list other ≡ Rec vote_list text = e in cc))
  by false q = absurd cc
text_there (Rec list other ∷ log) text (suc k, l, e) = by (list.0 == 0) (text_there log text (k, omega (arith, l), e)) where
  by : (t : Bool) → Contains (texts_in 0 log) text → Contains (cond t (other ∷ texts_in 0 log) (texts_in 0 log)) text
  by true h = (suc h.0, omega (arith, h.1), h.2)
  by false h = h
text_there (Put generation name other ∷ log) text (zero, l, e) = absurd (let q : Put generation name other ≡ Rec vote_list text = e in cc)
text_there (Put generation name other ∷ log) text (suc k, l, e) = text_there log text (k, omega (arith, l), e)
text_there (Drop floor ∷ log) text (zero, l, e) = absurd (let q : Drop floor ≡ Rec vote_list text = e in cc)
text_there (Drop floor ∷ log) text (suc k, l, e) = text_there log text (k, omega (arith, l), e)

-- the event of an item is one of the log
event_there : (items : List Item) (place : ℕ) (event : LogEvent) → slice_get items place ≡ Some (Log event) → Contains (events_of items) event
event_there items place event at =
    let p = get_splits items place (Log event) at in
    subst (λ (xs : List Item). Contains (events_of xs) event) p.3
    (subst (λ (log : List LogEvent). Contains log event) (sym (filter_map-append event_in p.0 (Log event ∷ p.1)))
    (Contains-append_right (events_of p.0) (event ∷ events_of p.1) event (0, omega arith, refl)))

-- ---- calls on the services

module _ (old called : DeskView) (at : ℕ) (noted after : List Deed) (calls : DeskCalls at (record old { deeds = noted }) called) (told : (setting : Setting) → KnowsTold old setting → KnowsTold called setting) where
  keep_same : called.keep ≡ old.keep
  keep_same = ap (λ (d : DeskView). d.keep) calls.same

  pub calls_go : DeskBids old (record called { deeds = after })
  calls_go = record {
    same = λ i. record {
      client = (ap (λ (d : DeskView). d.client) calls.same) i;
      board = (ap (λ (d : DeskView). d.board) calls.same) i;
      pass = called.pass;
      work = (ap (λ (d : DeskView). d.work) calls.same) i;
      keep = called.keep;
      lanes = called.lanes;
      services = (ap (λ (d : DeskView). d.services) calls.same) i;
      deeds = after;
    };
    board = calls.pass.board;
    word = calls.pass.word;
    more = calls.pass.more;
    told = told;
    lanes = calls.lanes;
    keep = subst (λ (k : KeeperView). KeepsObjects old.keep k) (sym keep_same) (keeps_self old.keep);
  }

  pub sent_ok : (aim : Aim) (service : ServiceId) (message : Record) (kept : Kept) → after ≡ old.deeds ++ deed_of (Send service message) Sent ∷ [] → AppendsAt old called service.0 (Rec vote_list (record_text message)) (Ok tt)
      → DoesAct aim (Send service message) Sent old (record called { deeds = after }) kept kept
  sent_ok aim service message kept is there = record {
    fits_it = refl;
    deed = is;
    round = refl;
    goes = calls_go;
    leaves = (calls.pass, keep_same, λ setting known. let e = there setting known in text_there (log_in called.pass.lists service.0) (record_text message) (event_there (list_at called.pass.lists service.0) e.0 (Rec vote_list (record_text message)) e.2));
  }

  pub sent_failed : (aim : Aim) (service : ServiceId) (message : Record) (kept : Kept) → after ≡ old.deeds ++ deed_of (Send service message) Failed ∷ [] → Rose (faults_at old service.0) (faults_at called service.0)
      → DoesAct aim (Send service message) Failed old (record called { deeds = after }) kept kept
  sent_failed aim service message kept is rose = record { fits_it = refl; deed = is; round = refl; goes = calls_go; leaves = (calls.pass, keep_same, rose) }

  pub look_failed : (aim : Aim) (service : ServiceId) (kept : Kept) → after ≡ old.deeds ++ deed_of (Look service) Failed ∷ [] → Rose (faults_at old service.0) (faults_at called service.0)
      → DoesAct aim (Look service) Failed old (record called { deeds = after }) kept kept
  look_failed aim service kept is rose = record { fits_it = refl; deed = is; round = refl; goes = calls_go; leaves = (calls.pass, keep_same, rose) }

  pub look_ok : (aim : Aim) (service : ServiceId) (texts : List (List ℕ)) (sight : Sight) (kept later : Kept) → after ≡ old.deeds ++ deed_of (Look service) (Seen sight) ∷ [] → OnTold old (texts ≡ drop 0 (texts_in 0 (log_in called.pass.lists service.0)))
      → IsSight (votes_of texts) aim.position aim.ballot sight → IsInRange sight → later ≡ with_round kept (kept_round kept.round (Look service) (Seen sight))
      → DoesAct aim (Look service) (Seen sight) old (record called { deeds = after }) kept later
  look_ok aim service texts sight kept later is are seen ranges raised = record {
    fits_it = refl;
    deed = is;
    round = raised;
    goes = calls_go;
    leaves = (
      calls.pass,
      keep_same,
      ranges,
      λ setting known. record {
        list = votes_told called.pass.lists service.0;
        low_begins = votes_begin old.pass.lists called.pass.lists calls.pass.more service.0;
        begins = prefix_self (votes_told called.pass.lists service.0);
        seen = subst (λ (l : List (List ℕ)). IsSight (votes_of l) aim.position aim.ballot sight) (are setting known) seen;
      },
    );
  }

  pub call_halts : (act : Act) (kept : Kept) → ((r : ℕ) → act ≡ Keep r → ⊥) → after ≡ old.deeds → Halts act old (record called { deeds = after }) kept kept
  call_halts act kept other is = record { deed = is; round = refl; goes = calls_go; pass = calls.pass; keep = by act other } where
    by : (a : Act) → ((r : ℕ) → a ≡ Keep r → ⊥) → MayHaveKept a old (record called { deeds = after }) kept
    by (Keep r) apart = absurd (apart r refl)
    by (Send s m) apart = keep_same
    by (Look s) apart = keep_same
    by (Declare o) apart = keep_same
    by (End o) apart = keep_same

-- no room for a deed
pub no_room : (act : Act) (old : DeskView) (after : List Deed) (kept : Kept) → ((r : ℕ) → act ≡ Keep r → MayHaveKept (Keep r) old old kept) → after ≡ old.deeds → Halts act old (record old { deeds = after }) kept kept
no_room act old after kept may is = record {
  deed = is;
  round = refl;
  goes = record { same = refl; board = refl; word = refl; more = begins_self old.pass.lists; told = λ setting told. told; lanes = lanes_self old.lanes; keep = keeps_self old.keep };
  pass = learns_self old.pass;
  keep = by act may;
} where
  by : (a : Act) → ((r : ℕ) → a ≡ Keep r → MayHaveKept (Keep r) old old kept) → MayHaveKept a old (record old { deeds = after }) kept
  by (Keep r) m = m r refl
  by (Send s x) m = refl
  by (Look s) m = refl
  by (Declare o) m = refl
  by (End o) m = refl

-- ---- the keeper

may_objects : (kept : Kept) (old new : KeeperView) (name : Name) → MayHaveState kept old.texts new.texts → new.texts (Object name) ≡ old.texts (Object name)
may_objects kept old new name (inl same) = ap (λ texts. texts (Object name)) same
may_objects kept old new name (inr h) = h.objects name

objects_of : (kept : Kept) (old new : KeeperView) (r : Result Unit Refusal) → WritesKept kept old new r → WhereTold old.told ((name : Name) → new.texts (Object name) ≡ old.texts (Object name))
objects_of kept old new (Ok u) w told name = (w told).objects name
objects_of kept old new (Err (refusals.OutsideFault places.Keep)) w told name = may_objects kept old new name (w.1 told)
objects_of kept old new (Err refusals.NoMemory) w told name = may_objects kept old new name (w told)
objects_of kept old new (Err error) w told name = absurd w

module _ (old : DeskView) (keep : KeeperView) (after : List Deed) (kept : Kept) (round : ℕ) (told : keep.told ≡ old.keep.told) (later : old.keep.faults ≤ keep.faults) where
  keep_goes : (r : Result Unit Refusal) → WritesKept (with_round kept round) old.keep keep r → DeskBids old (record old { keep = keep; deeds = after })
  keep_goes r w = record {
    same = refl;
    board = refl;
    word = refl;
    more = begins_self old.pass.lists;
    told = λ setting known. known;
    lanes = lanes_self old.lanes;
    keep = record { told = told; objects = objects_of (with_round kept round) old.keep keep r w; later = later };
  }

  pub keep_ok : (aim : Aim) (u : Unit) → after ≡ old.deeds ++ deed_of (Keep round) KeptAnswer ∷ [] → WritesKept (with_round kept round) old.keep keep (Ok u)
      → DoesAct aim (Keep round) KeptAnswer old (record old { keep = keep; deeds = after }) kept (with_round kept round)
  keep_ok aim u is w = record { fits_it = refl; deed = is; round = refl; goes = keep_goes (Ok u) w; leaves = (refl, w) }

  pub keep_failed : (aim : Aim) → after ≡ old.deeds ++ deed_of (Keep round) Failed ∷ [] → WritesKept (with_round kept round) old.keep keep (Err (refusals.OutsideFault places.Keep))
      → DoesAct aim (Keep round) Failed old (record old { keep = keep; deeds = after }) kept kept
  keep_failed aim is w = record { fits_it = refl; deed = is; round = refl; goes = keep_goes (Err (refusals.OutsideFault places.Keep)) w; leaves = (refl, w.0, w.1) }

  pub keep_halts : after ≡ old.deeds → WritesKept (with_round kept round) old.keep keep (Err refusals.NoMemory) → Halts (Keep round) old (record old { keep = keep; deeds = after }) kept kept
  keep_halts is w = record { deed = is; round = refl; goes = keep_goes (Err refusals.NoMemory) w; pass = learns_self old.pass; keep = w }

-- ---- the own list

pub told_offer : (aim : Aim) (old : DeskView) (pass : Known Item) (after : List Deed) (offer : Record) (kept : Kept) → after ≡ old.deeds ++ deed_of (Declare offer) Declared ∷ []
    → pass ≡ record old.pass { lists = with_told old.pass.lists old.pass.word (Offer offer) } → ((setting : Setting) → KnowsTold old setting → KnowsTold (record old { pass = pass; deeds = after }) setting)
    → DoesAct aim (Declare offer) Declared old (record old { pass = pass; deeds = after }) kept kept
told_offer aim old pass after offer kept is told_is told = record {
  fits_it = refl;
  deed = is;
  round = refl;
  goes = record {
    same = refl;
    board = ap (λ (k : Known Item). k.board) told_is;
    word = ap (λ (k : Known Item). k.word) told_is;
    more = subst (λ (k : Known Item). Begins old.pass.lists k.lists) (sym told_is) (begins_told old.pass.lists old.pass.word (Offer offer));
    told = told;
    lanes = lanes_self old.lanes;
    keep = keeps_self old.keep;
  };
  leaves = (told_is, refl);
}

-- an offer that may be declared leaves a view that is closed, and a desk
pub closed_offer : (desk : DeskView) (offer : Record) → IsDesk desk → MayDo desk (Declare offer) → IsClosed desk.pass.lists → length desk.pass.lists ≡ desk.pass.board.words
    → ((view : View) (client position : ℕ) (ballot : Ballot) (entry : Entry) → owner_of_client client < length view → MayOffer view client position ballot entry → IsClosed (with_item view (owner_of_client client) (Offer (Accept position ballot entry))))
    → IsClosed (with_told desk.pass.lists desk.pass.word (Offer offer))
closed_offer desk (Prepare k b) h may closed wide law = absurd may
closed_offer desk (Accept k b e) h may closed wide law =
    let words : desk.pass.board.words ≡ 33 = ap (λ (t : TableId). t.words) h.board ∙ h.owners in
    subst (λ (w : Option ℕ). IsClosed (with_told desk.pass.lists w (Offer (Accept k b e)))) (sym h.word)
    (law desk.pass.lists desk.client k b e (omega (arith, wide, words, h.client)) (record { closed = closed; begun = h.knows; client_is = h.client; supported = may.1 }))

round_there : (desk : DeskView) (offer : Record) → MayDo desk (Declare offer) → HasKeptRound desk (ballot_of offer).round
round_there desk (Prepare k b) may = absurd may
round_there desk (Accept k b e) may = may.0

pub desk_offered : (desk : DeskView) (offer : Record) (pass : Known Item) (deeds : List Deed) (deed : Deed) → IsDesk desk → MayDo desk (Declare offer)
    → ((d : DeskView) (o : Record) → IsDesk d → HasKeptRound d (ballot_of o).round → IsDesk (record d { pass = record d.pass { lists = with_told d.pass.lists d.pass.word (Offer o) } }))
    → ((d : DeskView) (x : Deed) → IsDesk d → IsDesk (with_deed d x))
    → pass ≡ record desk.pass { lists = with_told desk.pass.lists desk.pass.word (Offer offer) } → deeds ≡ desk.deeds ++ deed ∷ [] → IsDesk (record desk { pass = pass; deeds = deeds })
desk_offered desk offer pass deeds deed h may offers noted pass_is deeds_are =
    let told = offers desk offer h (round_there desk offer may) in
    subst (λ (p : Known Item). IsDesk (record desk { pass = p; deeds = deeds })) (sym pass_is)
    (subst (λ (xs : List Deed). IsDesk (record desk { pass = record desk.pass { lists = with_told desk.pass.lists desk.pass.word (Offer offer) }; deeds = xs })) (sym deeds_are)
    (noted (record desk { pass = record desk.pass { lists = with_told desk.pass.lists desk.pass.word (Offer offer) } }) deed told))
