-- What holds of all vote lists, linked lists and chains.
use Rattle.std.specs.Prelude.{◌≡◌, ℕ, ◌+◌, ◌≤◌, ◌++◌, ◌∷◌, [], List, Some, length, slice_get}
use Rattle.ms_record.specs.declared.entry.Entry.{Entry}
use Rattle.ms_record.specs.declared.record.Record.{Record}
use Rattle.ms_record.specs.Chains.{Origin, IsLinked, IsChain, IsChosen, Agrees, AllLink, AllNext, Begins, LinksBehind, voters_behind}
use Rattle.ms_record.specs.Offers.{IsSound}
use Rattle.ms_record.specs.Reading.{record_at}
use Rattle.ms_record.specs.Records.{IsRecord, record_text}
use Rattle.ms_record.specs.Voters.{AreKnown}
use Rattle.ms_record.specs.Votes.{ChosenBy, HaveOne}

pub record ChainLaws : Type 0 where
  -- two masters of one position are one, where each offer is sound
  pub agrees : (votes offers : ℕ → List Record) (origin : Origin) → IsSound votes offers origin → Agrees votes origin
  -- of linked lists the shorter begins the longer, and two of one length are one
  pub begins : (votes : ℕ → List Record) (origin : Origin) (c d : List Entry) → Agrees votes origin → IsLinked votes origin c → IsLinked votes origin d → length c ≤ length d → Begins c d
  pub one_list : (votes : ℕ → List Record) (origin : Origin) (c d : List Entry) → Agrees votes origin → IsLinked votes origin c → IsLinked votes origin d → length c ≡ length d → c ≡ d
  -- a master stands in the chain
  pub stands : (votes : ℕ → List Record) (origin : Origin) (chain : List Entry) (i : ℕ) (e : Entry) → Agrees votes origin → AllNext votes origin → IsChain votes origin chain
      → IsChosen votes origin (i + 1) e → slice_get chain i ≡ Some e
  -- the list of no members is linked; a member is chosen; a linked list goes on by what is chosen behind it and links on
  pub none : (votes : ℕ → List Record) (origin : Origin) → IsLinked votes origin []
  pub chosen : (votes : ℕ → List Record) (origin : Origin) (c : List Entry) (i : ℕ) (e : Entry) → IsLinked votes origin c → slice_get c i ≡ Some e → IsChosen votes origin (i + 1) e
  pub goes_on : (votes : ℕ → List Record) (origin : Origin) (c : List Entry) (e : Entry) → IsLinked votes origin c → ChosenBy votes (voters_behind origin c) (length c + 1) e
      → LinksBehind origin c e → IsLinked votes origin (c ++ e ∷ [])
  -- there is a chain
  pub found : (votes : ℕ → List Record) (origin : Origin) → HaveOne votes → Agrees votes origin → AreKnown origin.services origin.plan → AllLink votes origin
      → (chain : List Entry) × IsChain votes origin chain
  -- a record is read again from its spelling
  pub read : (r : Record) → IsRecord r → record_at (record_text r) ≡ Some r
