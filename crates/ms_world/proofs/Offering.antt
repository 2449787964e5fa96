-- What a client's bid comes to, and what it learns, by what it has read.
use Rattle.std.proofs.Common.{◌≡◌, ℕ, false, [], ◌∷◌, ◌++◌, Some, None, get_or, slice_set, ap, ◌∙◌, subst}
use Rattle.ms_world.specs.declared.client.Bidding.{Bidding}
use Rattle.ms_world.specs.declared.rule.Ruling.{Ruling}
use Rattle.ms_world.specs.declared.rule.Ruling.TheVariants as rulings
use Rattle.ms_world.proofs.Acting.{found, quiet}
use Rattle.ms_world.specs.Refusals.{NeedsClient, OfferFails, LearnFails}
use Rattle.ms_world.specs.Rulings.{IsRuling}
use Rattle.ms_world.specs.States.{KnowsOne}
use Rattle.ms_world.specs.Steps.{IsUp, LearnStep, OfferStep, offer_made}
use Rattle.ms_world.specs.Worlds.{ClientView, WorldView, ballot_of_round, known_votes, next_of, voters_of_client}
use Rattle.ms_record.specs.declared.entry.Entry.{Entry}
use Rattle.ms_record.specs.declared.refusal.Why.TheVariants as whys
use Rattle.ms_record.specs.declared.setting.Setting.{Setting}
use Rattle.ms_record.specs.Chains.{LinksBehind}
use Rattle.ms_record.specs.Settings.{origin_of}
use Rattle.ms_record.specs.Votes.{ChosenBy}

abbrev RulesBid : Setting → WorldView → ℕ → ClientView → Bidding → Ruling → Type 0
RulesBid setting w client c bid r = IsRuling (known_votes w c) (voters_of_client setting c) bid.position (ballot_of_round client bid.round) bid.want r

abbrev IsOpenBid : ClientView → Bidding → Type 0
IsOpenBid c bid = (c.bid ≡ Some bid) × (bid.offered ≡ false)

pub offers_nothing : (setting : Setting) (w : WorldView) (client : ℕ) (c : ClientView) (bid : Bidding) (r : Ruling) → IsUp w client c → IsOpenBid c bid
    → RulesBid setting w client c bid r → r ≡ rulings.Nothing → NeedsClient w client whys.Nothing (λ x. OfferFails setting w client whys.Nothing x)
offers_nothing setting w client c bid r up fresh ruling is =
    let fact = subst (λ (x : Ruling). RulesBid setting w client c bid x) is ruling in
    (c, up, (bid, record { up = up; has = fresh.0; fresh = fresh.1 }, fact))

pub offered : (setting : Setting) (w new : WorldView) (client : ℕ) (c : ClientView) (bid : Bidding) (entry : Entry) (r : Ruling) → IsUp w client c → IsOpenBid c bid
    → RulesBid setting w client c bid r → r ≡ rulings.Offer entry → new ≡ offer_made setting w client c bid entry → OfferStep setting w client new
offered setting w new client c bid entry r up fresh ruling is becomes =
    let fact = subst (λ (x : Ruling). RulesBid setting w client c bid x) is ruling in
    record {
      c = c;
      bid = bid;
      has = record { up = up; has = fresh.0; fresh = fresh.1 };
      promises = fact.0;
      entry = entry;
      offers = fact.1;
      becomes = becomes;
    }

abbrev ChosenNext : Setting → WorldView → ClientView → Entry → Type 0
ChosenNext setting w c e = ChosenBy (known_votes w c) (voters_of_client setting c) (next_of c) e

pub none_chosen : (setting : Setting) (w : WorldView) (client : ℕ) (c : ClientView) → IsUp w client c → ((e : Entry) → ChosenNext setting w c e → ⊥)
    → NeedsClient w client whys.Chosen (λ x. LearnFails setting w whys.Chosen x)
none_chosen setting w client c up none = (c, up, λ e can. none e can.chosen)

pub none_links : (setting : Setting) (w : WorldView) (client : ℕ) (c : ClientView) (entry : Entry) → IsUp w client c → KnowsOne setting w
    → ChosenNext setting w c entry → (LinksBehind (origin_of setting) c.chain entry → ⊥) → NeedsClient w client whys.Chosen (λ x. LearnFails setting w whys.Chosen x)
none_links setting w client c entry up one chosen fails =
    (c, up, λ e can. fails (subst (λ (x : Entry). LinksBehind (origin_of setting) c.chain x) (one client c up.is e entry can.chosen chosen) can.links))

pub learnt : (setting : Setting) (inside w : WorldView) (client : ℕ) (c m d : ClientView) (entry : Entry) → inside ≡ w → IsUp w client c
    → ChosenNext setting w c entry → LinksBehind (origin_of setting) c.chain entry → m ≡ get_or inside.clients client m → d ≡ record m { chain = m.chain ++ entry ∷ []; bid = None }
    → LearnStep setting w client (record { logs = inside.logs; requests = inside.requests; clients = slice_set inside.clients client d })
learnt setting inside w client c m d entry e up chosen links read is = record {
  c = c;
  up = up;
  entry = entry;
  can = record { chosen = chosen; links = links };
  becomes = quiet inside w client d (record c { chain = c.chain ++ entry ∷ []; bid = None }) e
      (is ∙ ap (λ (x : ClientView). let v : ClientView = record x { chain = x.chain ++ entry ∷ []; bid = None } in v) (found inside w client c m e up.is read));
}
