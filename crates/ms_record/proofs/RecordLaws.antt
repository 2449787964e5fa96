-- A record that is read is spelled so, and what is spelled so is read again.
use Rattle.std.proofs.Common.{◌≡◌, ℕ, List, [], ◌∷◌, ◌++◌, Option, Some, None, refl, sym, ap, subst, ◌∙◌, append_assoc, append-nil, arith, inl, inr}
use Rattle.std.specs.Prelude.{IfSome, ◌==◌}
use Rattle.std.specs.Int.{w32, to_be_bytes}
use Rattle.std.proofs.lemmas.Bool.{eqb-true}
use Rattle.ms_base.specs.Places.{some_same}
use Rattle.ms_base.specs.Options.{◌>>=◌, bind_some}
use Rattle.ms_base.specs.declared.limits.TheConstants.{LAST_NUMBER}
use Rattle.ms_record.specs.declared.ballot.Ballot.{Ballot}
use Rattle.ms_record.specs.declared.entry.Entry.{Entry}
use Rattle.ms_record.specs.declared.record.Record.{Record}
use Rattle.ms_record.specs.declared.record.Record.TheVariants.{Prepare, Accept}
use Rattle.ms_base.specs.Fields.{IsBytes, number_within, client_at, at_end}
use Rattle.ms_record.specs.Entries.{IsEntry, entry_text}
use Rattle.ms_record.specs.Records.{IsBallot, IsPosition, IsRecord, ballot_text, record_text}
use Rattle.ms_record.specs.Reading.{entry_at, ballot_at, ending_at, record_at}
use Rattle.ms_base.specs.FieldLaws.{Takes, FieldsRead, FieldsSpelled, ended, IsBytes-rest, Takes-then}
use Rattle.ms_record.proofs.EntryLaws.{either_some, entry_is_read, entry_is_read_again}

ballot_takes : FieldsSpelled → (text : List ℕ) (x : Ballot × List ℕ) → IsBytes text → ballot_at text ≡ Some x → Takes text (ballot_text x.0) x.1 × IsBallot x.0
unfolding ballot_at
ballot_takes law text x fits e =
    let r = bind_some (number_within 1 LAST_NUMBER text) (λ r. client_at r.1 >>= λ c. Some (record { round = r.0; client = c.0 }, c.1)) x e in
    let c = bind_some (client_at r.0.1) (λ c. Some (record { round = r.0.0; client = c.0 }, c.1)) x r.2 in
    let t0 = law.within 1 LAST_NUMBER text r.0 fits r.1 in
    let t1 = law.client r.0.1 c.0 t0.0.bytes c.1 in
    let made : Ballot × List ℕ = (record { round = r.0.0; client = c.0.0 }, c.0.1) in
    subst (λ (y : Ballot × List ℕ). Takes text (ballot_text y.0) y.1 × IsBallot y.0) (some_same made x c.2)
    (Takes-then text (to_be_bytes w32 r.0.0) r.0.1 (to_be_bytes w32 c.0.0.0) c.0.1 t0.0 t1.0, record { some_round = t0.1; last_round = t0.2; client = t1.1 })

ballot_again : FieldsRead → (b : Ballot) (rest : List ℕ) → IsBallot b → ballot_at (ballot_text b ++ rest) ≡ Some (b, rest)
unfolding ballot_at
ballot_again law b rest h =
    let after_round = to_be_bytes w32 b.client.0 ++ rest in
    let regrouped : ballot_text b ++ rest ≡ to_be_bytes w32 b.round ++ after_round = append_assoc (to_be_bytes w32 b.round) (to_be_bytes w32 b.client.0) rest in
    ap ballot_at regrouped
    ∙ rw (law.within 1 LAST_NUMBER b.round after_round h.some_round h.last_round (omega (arith, h.last_round)), law.client b.client rest h.client) refl

-- what a record's text has behind its position and ballot
abbrev ending_text : Record → List ℕ
ending_text (Prepare k b) = []
ending_text (Accept k b e) = entry_text e

-- a record with this tag, position and ballot, whose text ends so
record EndsRecord (tag k : ℕ) (b : Ballot) (text : List ℕ) (r : Record) : Type 0 where
  ranges : IsPosition k → IsBallot b → IsRecord r
  spelled : tag ∷ ((to_be_bytes w32 k ++ ballot_text b) ++ text) ≡ record_text r

ends_prepare : (tag k : ℕ) (b : Ballot) (text : List ℕ) (r : Record) → tag ≡ 80 → (Prepare k b ≡ r) × (text ≡ []) → EndsRecord tag k b text r
ends_prepare tag k b text r is h =
    let front = to_be_bytes w32 k ++ ballot_text b in
    let spelled : tag ∷ (front ++ text) ≡ record_text (Prepare k b) = ap (λ (t : ℕ). t ∷ (front ++ text)) is ∙ ap (λ (x : List ℕ). 80 ∷ (front ++ x)) h.1 ∙ ap (λ (x : List ℕ). 80 ∷ x) (append-nil front) in
    subst (EndsRecord tag k b text) h.0 (record { ranges = λ p q. (p, q); spelled = spelled })

ends_accept : (tag k : ℕ) (b : Ballot) (text : List ℕ) (r : Record) (e : Entry) → tag ≡ 65 → Accept k b e ≡ r → IsEntry e × (text ≡ entry_text e) → EndsRecord tag k b text r
ends_accept tag k b text r e is made h =
    let front = to_be_bytes w32 k ++ ballot_text b in
    let spelled : tag ∷ (front ++ text) ≡ record_text (Accept k b e) = ap (λ (t : ℕ). t ∷ (front ++ text)) is ∙ ap (λ (x : List ℕ). 65 ∷ (front ++ x)) h.1 in
    subst (EndsRecord tag k b text) made (record { ranges = λ p q. (p, q, h.0); spelled = spelled })

ends_record : FieldsSpelled → (tag k : ℕ) (b : Ballot) (text : List ℕ) (r : Record) → IsBytes text → ending_at tag k b text ≡ Some r → EndsRecord tag k b text r
unfolding ending_at
ends_record law tag k b text r fits e =
    elim (either_some (tag == 80) (tag == 65) (at_end (Prepare k b, text)) (entry_at text >>= λ entry. Some (Accept k b entry)) r e) [
      | inl h ↦ ends_prepare tag k b text r (eqb-true tag 80 h.0) (ended (Prepare k b, text) r h.1)
      | inr h ↦
          let a = bind_some (entry_at text) (λ entry. Some (Accept k b entry)) r h.1 in
          ends_accept tag k b text r a.0 (eqb-true tag 65 h.0) (some_same (Accept k b a.0) r a.2) (entry_is_read law text a.0 fits a.1)
    ]

pub record_is_read : FieldsSpelled → (text : List ℕ) (r : Record) → IsBytes text → record_at text ≡ Some r → IsRecord r × (text ≡ record_text r)
unfolding record_at
record_is_read law [] r fits e = absurd cc
record_is_read law (tag ∷ rest) r fits e =
    let k = bind_some (number_within 1 LAST_NUMBER rest) (λ k. ballot_at k.1 >>= λ b. ending_at tag k.0 b.0 b.1) r e in
    let b = bind_some (ballot_at k.0.1) (λ b. ending_at tag k.0.0 b.0 b.1) r k.2 in
    let t0 = law.within 1 LAST_NUMBER rest k.0 (IsBytes-rest tag rest fits) k.1 in
    let t1 = ballot_takes law k.0.1 b.0 t0.0.bytes b.1 in
    let whole = Takes-then rest (to_be_bytes w32 k.0.0) k.0.1 (ballot_text b.0.0) b.0.1 t0.0 t1.0 in
    let last = ends_record law tag k.0.0 b.0.0 b.0.1 r whole.bytes b.2 in
    (last.ranges (t0.1, t0.2) t1.1, ap (λ (x : List ℕ). tag ∷ x) whole.parts ∙ last.spelled)

ending_again : FieldsRead → (r : Record) → IsRecord r → (tag k : ℕ) (b : Ballot) (text : List ℕ) → record_text r ≡ tag ∷ ((to_be_bytes w32 k ++ ballot_text b) ++ text) → IsPosition k → IsBallot b → ending_at tag k b text ≡ Some r
    → record_at (record_text r) ≡ Some r
unfolding record_at
ending_again law r h tag k b text spelled position ballot e =
    let regrouped : record_text r ≡ tag ∷ (to_be_bytes w32 k ++ (ballot_text b ++ text)) = spelled ∙ ap (λ (x : List ℕ). tag ∷ x) (append_assoc (to_be_bytes w32 k) (ballot_text b) text) in
    ap record_at regrouped ∙ rw (law.within 1 LAST_NUMBER k (ballot_text b ++ text) position.0 position.1 (omega (arith, position.1)), ballot_again law b text ballot) e

pub record_is_read_again : FieldsRead → (r : Record) → IsRecord r → record_at (record_text r) ≡ Some r
unfolding ending_at
record_is_read_again law (Prepare k b) h =
    ending_again law (Prepare k b) h 80 k b [] (ap (λ (x : List ℕ). 80 ∷ x) (sym (append-nil (to_be_bytes w32 k ++ ballot_text b)))) h.0 h.1 refl
record_is_read_again law (Accept k b e) h =
    ending_again law (Accept k b e) h 65 k b (entry_text e) refl h.0 h.1 (ap (λ (o : Option Entry). o >>= λ entry. Some (Accept k b entry)) (entry_is_read_again law e h.2))

pub record_is_found : FieldsSpelled → (text : List ℕ) (o : Option Record) → IsBytes text → o ≡ record_at text → IfSome o (λ r. IsRecord r × (text ≡ record_text r))
record_is_found law text None fits is = tt
record_is_found law text (Some r) fits is = record_is_read law text r fits (sym is)
