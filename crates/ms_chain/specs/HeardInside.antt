-- What is kept beside the texts that were read: their tally, and the greatest position that they show.
use Rattle.std.specs.Prelude.{◌≡◌, ℕ, List, length, map}
use Rattle.ms_chain.specs.declared.heard.Heard.TheInside.{Inside}
use Rattle.ms_chain.specs.Heard.{IsGreatestSeen}
use Rattle.ms_replay.specs.Audits.{lists_of}
use Rattle.ms_replay.specs.Tallies.{IsTallyOf}

abbrev pub view_of : Inside → List (List (List ℕ))
view_of h = map (λ list. list.items) h.lists.items

pub record IsKept (h : Inside) : Type 0 where
  pub services : h.tally.services ≡ length (view_of h)
  pub tally : IsTallyOf (lists_of (view_of h)) h.tally
  pub seen : IsGreatestSeen (lists_of (view_of h)) h.seen
