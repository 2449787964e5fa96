-- What comes next behind a linked list of a view that tells a setting.
use Rattle.std.proofs.Common.{◌≡◌, ℕ, ◌+◌, ◌<◌, List, refl, subst, length, Contains, arith}
use Rattle.ms_record.specs.ChainLaws.{ChainLaws}
use Rattle.ms_core.proofs.Telling.{offered}
use Rattle.ms_core.proofs.Viewing.{view_agrees, view_valid}
use Rattle.ms_core.specs.Valid.{IsValid, judging_plan}
use Rattle.ms_core.specs.Views.{View, log_in, offers_told, votes_told, IsNextMaster, IsWhole, IsWholeMaster, SupportsOffer, TellsSetting}
use Rattle.ms_record.specs.declared.ballot.Ballot.{Ballot}
use Rattle.ms_record.specs.declared.entry.Entry.{Entry}
use Rattle.ms_record.specs.declared.record.Record.{Record}
use Rattle.ms_record.specs.declared.record.Record.TheVariants.{Accept}
use Rattle.ms_record.specs.declared.setting.Setting.{Setting}
use Rattle.ms_record.specs.Chains.{IsLinked, LinksBehind, voters_behind}
use Rattle.ms_record.specs.Offers.{IsOffered, JustifiedBy}
use Rattle.ms_record.specs.Settings.{origin_of}
use Rattle.ms_record.specs.Votes.{ChosenBy}

-- the members that a valid entry names are the linked list of that length
pub valid_members : (l : ChainLaws) (setting : Setting) (view : View) → TellsSetting view setting → (c : List Entry) (e : Entry) → IsLinked (votes_told view) (origin_of setting) c
    → (valid : IsValid setting (log_in view) (length c + 1) e) → valid.next.members ≡ c
valid_members l setting view h c e linked valid =
    l.one_list (votes_told view) (origin_of setting) valid.next.members c (view_agrees l setting view h) valid.next.linked linked (omega (arith, valid.next.at))

next_of : (l : ChainLaws) (setting : Setting) (view : View) → TellsSetting view setting → (c : List Entry) (e : Entry) → IsLinked (votes_told view) (origin_of setting) c
    → IsWholeMaster setting (log_in view) (length c + 1) e → IsNextMaster setting (log_in view) c e
next_of l setting view h c e linked master =
    let same = valid_members l setting view h c e linked master.valid in
    record {
      links = subst (λ (members : List Entry). LinksBehind (origin_of setting) members e) same master.valid.next.links;
      whole = subst (λ (members : List Entry). IsWhole (log_in view) (judging_plan setting members e) e.version) same master.whole;
    }

pub next_offered : (l : ChainLaws) (setting : Setting) (view : View) → TellsSetting view setting → (c : List Entry) (b : Ballot) (e : Entry) → IsLinked (votes_told view) (origin_of setting) c
    → IsOffered (offers_told view) (length c + 1) b e → IsNextMaster setting (log_in view) c e
next_offered l setting view h c b e linked there =
    let s = (offered view setting h (length c + 1) b e there).1.supports in
    next_of l setting view h c e linked (record { valid = s.declared.valid; whole = s.whole })

pub next_chosen : (l : ChainLaws) (setting : Setting) (view : View) → TellsSetting view setting → (c : List Entry) (e : Entry) → IsLinked (votes_told view) (origin_of setting) c
    → ChosenBy (votes_told view) (voters_behind (origin_of setting) c) (length c + 1) e → IsNextMaster setting (log_in view) c e
next_chosen l setting view h c e linked chosen =
    next_of l setting view h c e linked (view_valid setting view h (length c + 1) e (record { members = c; linked = linked; at = refl; chosen = chosen }))

pub next_supported : (setting : Setting) (view : View) (c : List Entry) (client : ℕ) (before : List Record) (b : Ballot) (e : Entry) → IsLinked (votes_told view) (origin_of setting) c
    → b.client.0 ≡ client → ((k : ℕ) (a : Ballot) (f : Entry) → Contains before (Accept k a f) → a.round < b.round)
    → JustifiedBy (votes_told view) (voters_behind (origin_of setting) c) (length c + 1) b e → IsNextMaster setting (log_in view) c e → SupportsOffer setting (log_in view) client before (length c + 1) b e
next_supported setting view c client before b e linked own later justified next = record {
  declared = record {
    own = own;
    later = later;
    justified = record { members = c; linked = linked; at = refl; justified = justified };
    valid = record { next = record { members = c; linked = linked; at = refl; links = next.links }; placed = next.whole.placed };
  };
  whole = next.whole;
}
