-- Answers taken one after another.
use Rattle.std.specs.Prelude.{◌≡◌, ℕ, true, List, [], ◌∷◌}
use Rattle.ms_bid.specs.declared.act.Act.{Act}
use Rattle.ms_bid.specs.declared.act.Act.TheVariants.{Keep, Send, Look, Declare, End}
use Rattle.ms_bid.specs.declared.act.Answer.{Answer}
use Rattle.ms_bid.specs.declared.bid.Bid.{Bid}
use Rattle.ms_bid.specs.Bids.{IsBid, fits, noted}

-- the act asks the service
abbrev pub Asks : Act → ℕ → Type 0
Asks (Keep round) s = ⊥
Asks (Send service message) s = service.0 ≡ s
Asks (Look service) s = service.0 ≡ s
Asks (Declare offer) s = ⊥
Asks (End outcome) s = ⊥

-- the answer was one to the pending act, and was taken
pub record Takes (old : Bid) (answer : Answer) (new : Bid) : Type 0 where
  pub fits_it : fits old.act answer ≡ true
  pub noted_is : new ≡ record (noted old old.act answer) { act = new.act }
  pub bid : IsBid new

-- from this bid, by these answers, to that
abbrev pub Leads : Bid → List Answer → Bid → Type 0
Leads b [] c = b ≡ c
Leads b (answer ∷ answers) c = (next : Bid) × Takes b answer next × Leads next answers c
