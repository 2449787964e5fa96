-- Views that tell a setting of one service, which has a version of nothing: what supports their items.
use Rattle.std.proofs.Common.{◌≡◌, ℕ, zero, suc, ◌+◌, ◌<◌, ◌≤◌, ◌==◌, Bool, true, false, cond, List, [], ◌∷◌, Option, Some, None, inl, inr, refl, sym, ap, ◌∙◌, subst, slice_get, length, map, All, Contains, arith}
use Rattle.std.specs.List.{range_with_len, count_by}
use Rattle.std.specs.Prelude.{slice_index_or, IfSome}
use Rattle.std.proofs.lemmas.Bool.{eqb-true}
use Rattle.sha2.proofs.Facts256.{length-sha256}
use Rattle.sha2.specs.Sha256.{sha256}
use Rattle.ms_base.specs.declared.names.Name.{Name}
use Rattle.ms_core.proofs.EmptyVersion.{nobody, directory, root, version, top, directory_spelled, version_spelled, two_texts, has_directory, has_version, texts_are, no_files}
use Rattle.ms_core.proofs.Following.{tells_item}
use Rattle.ms_base.specs.Places.{in_here, some_same}
use Rattle.ms_core.proofs.Telling.{tells, vote_offered, offered}
use Rattle.ms_core.specs.FirstBids.{with_offer}
use Rattle.ms_base.specs.CountLaws.{count_some}
use Rattle.ms_record.specs.Voters.{first_known, voters_known}
use Rattle.ms_core.specs.Placing.{PlacedBy, HasObject, HoldsVersion, wanted_in}
use Rattle.ms_core.specs.declared.want.Want.{Want}
use Rattle.ms_core.specs.Views.{View, configuration, log_in, offers_told, votes_told, WholeBy, SupportsOffer, SupportsEvent, TellsSetting, IsClosed}
use Rattle.ms_ken.specs.Lists.{list_at, with_item}
use Rattle.ms_object.specs.declared.object.Object.{Object}
use Rattle.ms_object.specs.declared.format.Format.TheVariants as formats
use Rattle.ms_object.specs.Objects.{Spells, format_of, numbered, object_text}
use Rattle.ms_object.specs.Reading.{object_at}
use Rattle.ms_record.specs.declared.ballot.Ballot.{Ballot}
use Rattle.ms_record.specs.declared.entry.Entry.{Entry}
use Rattle.ms_record.specs.declared.item.Item.TheVariants.{Log, Offer, Told}
use Rattle.ms_record.specs.declared.log.LogEvent.{LogEvent}
use Rattle.ms_record.specs.declared.log.LogEvent.TheVariants.{Rec, Put}
use Rattle.ms_record.specs.declared.plan.PlanRow.{PlanRow}
use Rattle.ms_record.specs.declared.record.Record.{Record}
use Rattle.ms_record.specs.declared.record.Record.TheVariants.{Prepare, Accept}
use Rattle.ms_record.specs.declared.setting.Setting.{Setting}
use Rattle.ms_record.specs.Entries.{IsEntry, name_of}
use Rattle.ms_record.specs.Offers.{IsOffered}
use Rattle.ms_record.specs.Plans.{PlanView, IsPlan, no_plan}
use Rattle.ms_record.specs.Reading.{record_at}
use Rattle.ms_record.specs.Records.{IsRecord, record_text}
use Rattle.ms_record.specs.Chains.{IsLinked, plan_after, voters_behind, voters_of}
use Rattle.ms_record.specs.Settings.{IsSetting, genesis_plan, origin_of}
use Rattle.ms_record.specs.Votes.{IsMajority}

-- what the readers of records and objects give
pub record Read : Type 0 where
  pub records : (r : Record) → IsRecord r → record_at (record_text r) ≡ Some r
  pub objects : (text : List ℕ) (o : Object) → Spells text o → object_at text ≡ Some o
  pub one_value : (text : List ℕ) (o p : Object) → Spells text o → Spells text p → o ≡ p

-- ---- the only service

pub only : ℕ → Bool
only s = s == 0

pub only_zero : (s : ℕ) → only s ≡ true → s ≡ 0
unfolding only
only_zero s is = eqb-true s 0 is

pub only_majority : (voters : List ℕ) → voters ≡ 0 ∷ [] → IsMajority only voters
unfolding only
only_majority voters one = subst (λ l. IsMajority (λ s. s == 0) l) (sym one) (record {
  within = λ s is. subst (λ k. Contains (0 ∷ []) k) (sym (eqb-true s 0 is)) (in_here 0 []);
  more_than_half = omega arith;
})

-- it is in each majority
pub in_majority : (setting : Setting) → IsSetting setting → setting.services ≡ 1 → (votes : ℕ → List Record) (members : List Entry) → IsLinked votes (origin_of setting) members
    → (part : ℕ → Bool) → IsMajority part (voters_behind (origin_of setting) members) → part 0 ≡ true
in_majority setting set one votes members linked part m =
    let voters = voters_behind (origin_of setting) members in
    let some = count_some part voters (omega (arith, m.more_than_half)) in
    let below = voters_known votes (origin_of setting) (first_known setting set) members linked some.0 (m.within some.0 some.1) in
    let first : some.0 ≡ 0 = omega (arith, below, one) in
    subst (λ s. part s ≡ true) first some.1

pub some_service : (setting : Setting) → IsSetting setting → 0 < setting.services
some_service setting set = omega (arith, set.some_services)

-- a plan's only row
pub rows_alone : (rows : List PlanRow) (n : ℕ) → n ≤ length rows → map (λ (row : PlanRow). row.service.0) rows ≡ 0 ∷ [] → n ≤ count_by (λ (row : PlanRow). only row.service.0) rows
unfolding only
rows_alone [] n le e = absurd (let q = ap (λ (l : List ℕ). length l) e in omega (arith, q))
rows_alone (row ∷ []) n le e =
    let first : row.service.0 ≡ 0 = ap (λ (l : List ℕ). slice_index_or l 0 0) e in
    subst (λ m. n ≤ m) (sym (ap (λ (k : ℕ). 0 + cond (k == 0) 1 0) first)) le
rows_alone (row ∷ next ∷ rows) n le e = absurd (let q = ap (λ (l : List ℕ). length l) e in omega (arith, q))

-- it is below the number of services
pub rows_below : (rows : List PlanRow) (n i : ℕ) (row : PlanRow) → 0 < n → map (λ (r : PlanRow). r.service.0) rows ≡ 0 ∷ [] → slice_get rows i ≡ Some row → row.service.0 < n
rows_below [] n i row some e at = absurd (let q = ap (λ (l : List ℕ). length l) e in omega (arith, q))
rows_below (first ∷ []) n zero row some e at =
    let none : first.service.0 ≡ 0 = ap (λ (l : List ℕ). slice_index_or l 0 0) e in
    let same : first.service.0 ≡ row.service.0 = ap (λ (r : PlanRow). r.service.0) (some_same first row at) in
    omega (arith, none, same, some)
rows_below (first ∷ []) n (suc i) row some e at = absurd (let q : None ≡ Some row = at in cc)
rows_below (first ∷ next ∷ rows) n i row some e at = absurd (let q = ap (λ (l : List ℕ). length l) e in omega (arith, q))

-- it is marked where enough are
pub row_marked : (rows : List PlanRow) (part : ℕ → Bool) → map (λ (row : PlanRow). row.service.0) rows ≡ 0 ∷ [] → 1 ≤ count_by (λ (row : PlanRow). part row.service.0) rows → part 0 ≡ true
row_marked [] part e le = absurd (let q = ap (λ (l : List ℕ). length l) e in omega (arith, q))
row_marked (row ∷ []) part e le =
    let first : row.service.0 ≡ 0 = ap (λ (l : List ℕ). slice_index_or l 0 0) e in
    by (part 0) refl (subst (λ k. 1 ≤ 0 + cond (part k) 1 0) first le)
  where
    by : (b : Bool) → part 0 ≡ b → 1 ≤ 0 + cond (part 0) 1 0 → part 0 ≡ true
    by true q h = q
    by false q h = absurd (let none : 1 ≤ 0 + 0 = subst (λ (b : Bool). 1 ≤ 0 + cond b 1 0) q h in omega (arith, none))
row_marked (row ∷ next ∷ rows) part e le = absurd (let q = ap (λ (l : List ℕ). length l) e in omega (arith, q))

-- ---- a version of nothing is placed

-- the two texts are a version of nothing
pub holds_two : Read → (format : ℕ) → format ≡ 1 → HoldsVersion format two_texts top
holds_two r format one = record {
  top = record { text = object_text version; is = has_version; object = version; spells = version_spelled; kind = tt };
  below = λ name text o is spells.
      elim (texts_are name.0 text is) [
        | inl d ↦ subst (λ (x : Object). All (λ (want : Want). HasObject two_texts want.name want.wanted) (wanted_in x))
            (r.one_value text directory o (subst (λ t. Spells t directory) d.1 directory_spelled) spells) (λ k w lt. absurd (omega (arith, lt)))
        | inr v ↦ subst (λ (x : Object). All (λ (want : Want). HasObject two_texts want.name want.wanted) (wanted_in x))
            (r.one_value text version o (subst (λ t. Spells t version) v.1 version_spelled) spells) root_only
      ];
  named = λ name text is. elim (texts_are name.0 text is) [ inl d ↦ d.0 ∙ ap sha256 d.1 | inr v ↦ v.0 ∙ ap sha256 v.1 ];
  formats = λ name text is.
      elim (texts_are name.0 text is) [
        | inl d ↦ record { object = directory; spells = subst (λ t. Spells t directory) d.1 directory_spelled; format_is = ap numbered one }
        | inr v ↦ record { object = version; spells = subst (λ t. Spells t version) v.1 version_spelled; format_is = ap numbered one }
      ];
}
  where
    root_only : All (λ (want : Want). HasObject two_texts want.name want.wanted) (wanted_in version)
    root_only zero w lt = record { text = object_text directory; is = has_directory; object = directory; spells = directory_spelled; kind = tt }
    root_only (suc k) w lt = absurd (omega (arith, lt))

pub placed : Read → (has : ℕ → Name → Type 0) (plan : PlanView) → plan.replicas ≤ count_by (λ (row : PlanRow). only row.service.0) plan.rows → plan.format ≡ 1 → has 0 root → has 0 top → PlacedBy has plan top
placed r has plan enough format directory_put version_put = record {
  store = two_texts;
  holds = holds_two r plan.format format;
  put = λ name text is. record {
    part = only;
    have = λ s at. subst (λ k. has k name) (sym (only_zero s at))
        (elim (texts_are name.0 text is) [ inl d ↦ subst (λ (x : List ℕ). has 0 (record { 0 = x })) (sym d.0) directory_put | inr v ↦ subst (λ (x : List ℕ). has 0 (record { 0 = x })) (sym v.0) version_put ]);
    enough = enough;
  };
}

-- and its tree has no files
pub whole : Read → (has : ℕ → Name → Type 0) (plan : PlanView) → plan.replicas ≤ count_by (λ (row : PlanRow). only row.service.0) plan.rows → plan.format ≡ 1 → has 0 root → has 0 top → WholeBy has plan top
unfolding placed
whole r has plan enough format directory_put version_put = record {
  placed = placed r has plan enough format directory_put version_put;
  files = [];
  are = record {
    text = object_text version;
    is = has_version;
    format = formats.One;
    client = nobody;
    number = 0;
    parents = [];
    root = root;
    spells = version_spelled;
    rooted = λ below object is spells. ap format_of (r.one_value below object directory spells
        (subst (λ t. Spells t directory) (some_same (object_text directory) below (sym has_directory ∙ is)) directory_spelled));
    tree = no_files r.objects;
  };
}

abbrev pub put_directory : ℕ → LogEvent
put_directory generation = Put generation root (object_text directory)

abbrev pub put_version : ℕ → LogEvent
put_version generation = Put generation top (object_text version)

-- ---- what is supported

pub not_both : (k j : ℕ) (a b : Ballot) (e : Entry) → Some (Prepare k a) ≡ Some (Accept j b e) → ⊥
not_both k j a b e h = cc h

pub supports_prepare : (setting : Setting) (logs : ℕ → List LogEvent) (offers : ℕ → List Record) (k : ℕ) (b : Ballot) (text : List ℕ) → record_at text ≡ Some (Prepare k b) → SupportsEvent setting logs offers (Rec (record { 0 = 0 }) text)
supports_prepare setting logs offers k b text reads = λ votes j a e spells. absurd (not_both k j b a e (sym reads ∙ spells))

abbrev pub IsOfferedRecord : (ℕ → List Record) → Record → Type 0
IsOfferedRecord offers (Prepare k b) = Unit {0}
IsOfferedRecord offers (Accept k b e) = IsOffered offers k b e

pub supports_accept : (setting : Setting) (logs : ℕ → List LogEvent) (offers : ℕ → List Record) (k : ℕ) (b : Ballot) (e : Entry) (text : List ℕ) → record_at text ≡ Some (Accept k b e) → IsOffered offers k b e
    → SupportsEvent setting logs offers (Rec (record { 0 = 0 }) text)
supports_accept setting logs offers k b e text reads there = λ votes j a f spells.
    let same : Accept k b e ≡ Accept j a f = some_same (Accept k b e) (Accept j a f) (sym reads ∙ spells) in
    subst (λ (x : Record). IsOfferedRecord offers x) same there

pub tells_event : (setting : Setting) (view : View) (event : LogEvent) → IsSetting setting → 0 < length view → TellsSetting view setting → SupportsEvent setting (log_in view) (offers_told view) event
    → TellsSetting (with_item view 0 (Log event)) setting
tells_event setting view event set wide h supports = tells_item setting view 0 (Log event) wide (λ e. absurd (omega (arith, e))) h (inl (some_service setting set, supports))

pub tells_offer : (setting : Setting) (view : View) (k : ℕ) (b : Ballot) (e : Entry) → IsSetting setting → 16 < length view → TellsSetting view setting → SupportsOffer setting (log_in view) 0 (offers_told view 0) k b e
    → TellsSetting (with_offer view k b e) setting
tells_offer setting view k b e set wide h supports = tells_item setting view 16 (Offer (Accept k b e)) wide (λ q. absurd (omega (arith, q))) h (inr (0, refl, omega (arith, set.some_clients), supports))

-- without a promise an offer has no support
pub not_hasty : (setting : Setting) (view : View) (k : ℕ) (b : Ballot) (e : Entry) → setting.services ≡ 1 → list_at view configuration ≡ Told setting ∷ [] → IsOffered (offers_told view) k b e
    → ((i : ℕ) → slice_get (votes_told view 0) i ≡ Some (Prepare k b) → ⊥) → IsClosed view → ⊥
not_hasty setting view k b e one told there unpromised closed =
    let h = tells view setting closed told in
    let j = (offered view setting h k b e there).1.supports.declared.justified in
    let s = j.justified.shown 0 (in_majority setting h.ranges one (votes_told view) j.members j.linked j.justified.part j.justified.majority) in
    unpromised s.place s.first.promised.stands

-- without an offer a vote has no support
pub not_early : (setting : Setting) (view : View) (place k : ℕ) (b : Ballot) (e : Entry) → list_at view configuration ≡ Told setting ∷ [] → slice_get (votes_told view 0) place ≡ Some (Accept k b e)
    → ((i : ℕ) → slice_get (offers_told view b.client.0) i ≡ Some (Accept k b e) → ⊥) → IsClosed view → ⊥
not_early setting view place k b e told stands unoffered closed =
    let o = vote_offered view setting (tells view setting closed told) 0 place k b e stands in unoffered o.0 o.1

-- ---- the bids

abbrev pub ballot_of_round : ℕ → Ballot
ballot_of_round round = record { round = round; client = nobody }

abbrev pub first_entry : Setting → Entry
first_entry setting = record { before = record { 0 = name_of setting.genesis }; client = nobody; number = 0; version = top; plan = None }

abbrev pub second_plan : (setting : Setting) → IsSetting setting → PlanView
second_plan setting set = record set.plan { generation = 2 }

abbrev pub second_entry : (setting : Setting) → IsSetting setting → Entry
second_entry setting set = record { before = record { 0 = name_of (first_entry setting) }; client = nobody; number = 1; version = top; plan = Some (second_plan setting set) }

abbrev pub prepare : ℕ → List ℕ
prepare k = record_text (Prepare k (ballot_of_round k))

abbrev pub accept : ℕ → Entry → List ℕ
accept k e = record_text (Accept k (ballot_of_round k) e)

pub reads_prepare : Read → (k : ℕ) → 1 ≤ k → k ≤ 2 → record_at (prepare k) ≡ Some (Prepare k (ballot_of_round k))
reads_prepare r k low high =
    r.records (Prepare k (ballot_of_round k)) ((low, omega arith), record { some_round = low; last_round = omega arith; client = omega arith })

pub reads_accept : Read → (k : ℕ) (e : Entry) → 1 ≤ k → k ≤ 2 → IsEntry e → record_at (accept k e) ≡ Some (Accept k (ballot_of_round k) e)
reads_accept r k e low high fits =
    r.records (Accept k (ballot_of_round k) e) ((low, omega arith), record { some_round = low; last_round = omega arith; client = omega arith }, fits)

pub first_fits : (setting : Setting) → IsEntry (first_entry setting)
first_fits setting = record { before = length-sha256 _; client = omega arith; number = omega arith; version = length-sha256 _; plan = tt }

pub plan_fits : (setting : Setting) (set : IsSetting setting) → IsPlan set.plan
plan_fits setting set = subst (λ (o : Option PlanView). IfSome o IsPlan) set.plan_is set.genesis.plan

pub second_fits : (setting : Setting) (set : IsSetting setting) → IsEntry (second_entry setting set)
second_fits setting set =
    let p = plan_fits setting set in
    record {
      before = length-sha256 _;
      client = omega arith;
      number = omega arith;
      version = length-sha256 _;
      plan = record {
        some_generation = omega arith;
        last_generation = omega arith;
        some_format = p.some_format;
        last_format = p.last_format;
        some_unit = p.some_unit;
        unit = p.unit;
        some_rows = p.some_rows;
        few_rows = p.few_rows;
        some_replicas = p.some_replicas;
        few_replicas = p.few_replicas;
        rows = p.rows;
        rising = p.rising;
      };
    }

pub rows_are : (setting : Setting) (set : IsSetting setting) → setting.services ≡ 1 → map (λ (row : PlanRow). row.service.0) set.plan.rows ≡ 0 ∷ []
rows_are setting set one = set.first.rows ∙ ap (λ n. range_with_len 0 n) one

-- the first plan
pub genesis_is : (setting : Setting) (set : IsSetting setting) → genesis_plan setting ≡ set.plan
genesis_is setting set = ap (λ (o : Option PlanView). plan_after no_plan o) set.plan_is

pub first_voters : (setting : Setting) (set : IsSetting setting) → setting.services ≡ 1 → voters_behind (origin_of setting) [] ≡ 0 ∷ []
first_voters setting set one = ap voters_of (genesis_is setting set) ∙ rows_are setting set one

pub enough : (setting : Setting) (set : IsSetting setting) → setting.services ≡ 1 → set.plan.replicas ≤ count_by (λ (row : PlanRow). only row.service.0) set.plan.rows
enough setting set one = rows_alone set.plan.rows set.plan.replicas (plan_fits setting set).few_replicas (rows_are setting set one)
