-- What is kept beside the texts that were read.
use Rattle.std.proofs.Common.{◌≡◌, ℕ, zero, suc, ◌<◌, List, [], ◌∷◌, ◌++◌, Option, Some, None, Result, Ok, Err, inl, inr, refl, sym, ap, ◌∙◌, subst, slice_get, slice_set, slice_index_or, length, map, replicate, max}
use Rattle.std.specs.Prelude.{OnErr}
use Rattle.std.specs.Option.{unwrap_or}
use Rattle.std.proofs.lemmas.Bool.{cases_lt}
use Rattle.std.proofs.lemmas.List.{get_or-map, get_or_past, length-set, map-set, set-get_or}
use Rattle.ms_record.specs.declared.record.Record.{Record}
use Rattle.ms_record.specs.Reading.{record_at, votes_of, with_record}
use Rattle.ms_record.specs.Records.{IsPosition}
use Rattle.ms_record.specs.Votes.{position_of}
use Rattle.ms_replay.specs.Audits.{lists_of}
use Rattle.ms_replay.specs.Tallies.{IsTallyOf, IsVotedAt, TallyView, goes_on}
use Rattle.ms_chain.specs.Heard.{IsGreatestSeen, heard_more}
use Rattle.ms_chain.proofs.Hearing.{goes_on_is, heard_goes_on, seen_on}

pub on_err : {T E : Type 0} (r : Result T E) (P : Type 0) → P → OnErr r P
on_err (Ok x) P p = tt
on_err (Err e) P p = p

-- ---- what contracts see of the lists

at_seen : {A : Type 0} (f : A → List (List ℕ)) (xs : List A) (s : ℕ) (old : A) → s < length xs → old ≡ slice_index_or xs s old → slice_index_or (map f xs) s [] ≡ f old
at_seen {A} f xs s old lt is = get_or-map f xs s old [] lt ∙ ap f (sym is)

-- a list gives place to one with the same texts
pub same_seen : {A : Type 0} (f : A → List (List ℕ)) (xs : List A) (s : ℕ) (old new : A) → s < length xs → old ≡ slice_index_or xs s old → f new ≡ f old → map f (slice_set xs s new) ≡ map f xs
same_seen {A} f xs s old new lt is same = map-set f xs s new ∙ ap (slice_set (map f xs) s) (same ∙ sym (at_seen f xs s old lt is)) ∙ set-get_or (map f xs) s []

-- or to one with a text more
pub more_seen : {A : Type 0} (f : A → List (List ℕ)) (xs : List A) (s : ℕ) (old new : A) (text : List ℕ) → s < length xs → old ≡ slice_index_or xs s old → f new ≡ f old ++ text ∷ []
    → map f (slice_set xs s new) ≡ heard_more (map f xs) s text
more_seen {A} f xs s old new text lt is more =
    map-set f xs s new ∙ ap (slice_set (map f xs) s) (more ∙ ap (λ (t : List (List ℕ)). t ++ text ∷ []) (sym (at_seen f xs s old lt is)))

-- the fields of a tally of these lists, with the greatest position that they show
pub record KeepsFor (lists : List (List (List ℕ))) (kept : TallyView) (top : ℕ) : Type 0 where
  pub services : kept.services ≡ length lists
  pub tally : IsTallyOf (lists_of lists) kept
  pub seen : IsGreatestSeen (lists_of lists) top

pub keeps_more : (lists : List (List (List ℕ))) (tally more : TallyView) (seen s : ℕ) (text : List ℕ) (voted : Option ℕ) → KeepsFor lists tally seen → s < length lists → more.services ≡ tally.services
    → IsTallyOf (goes_on (lists_of lists) s (with_record (record_at text) [])) more → IsVotedAt (lists_of lists s) (record_at text) voted → KeepsFor (heard_more lists s text) more (max seen (unwrap_or voted 0))
keeps_more lists tally more seen s text voted h lt same tallies v =
    let g = heard_goes_on lists s text lt in
    record {
      services = same ∙ h.services ∙ sym (length-set lists s (slice_index_or lists s [] ++ text ∷ []));
      tally = subst (λ (votes : ℕ → List Record). IsTallyOf votes more) (goes_on_is (lists_of lists) (lists_of (heard_more lists s text)) s text g) tallies;
      seen = seen_on (lists_of lists) (lists_of (heard_more lists s text)) s text voted seen g v h.seen;
    }

-- each record that was read has a position in its range
pub positions_of : (lists : List (List (List ℕ))) (tally : TallyView) (seen : ℕ) → KeepsFor lists tally seen → (s place : ℕ) (r : Record) → slice_get (lists_of lists s) place ≡ Some r → IsPosition (position_of r)
positions_of lists tally seen h s place r got =
    elim (cases_lt s (length lists)) [
      | inl lt ↦ h.tally.positions s place r (subst (λ (n : ℕ). s < n) (sym h.services) lt) got
      | inr ge ↦
          let none : lists_of lists s ≡ [] = ap votes_of (get_or_past lists s [] ge) in
          let q : None ≡ Some r = sym (ap (λ (xs : List Record). slice_get xs place) none) ∙ got in
          absurd (cc q)
    ]

nothing_read : (n x : ℕ) → slice_index_or (replicate n []) x [] ≡ (let none : List (List ℕ) = [] in none)
nothing_read zero x = refl
nothing_read (suc n) zero = refl
nothing_read (suc n) (suc x) = nothing_read n x

-- nothing was read
pub keeps_none : (n : ℕ) (tally : TallyView) → tally.services ≡ length (replicate n (let none : List (List ℕ) = [] in none)) → IsTallyOf (λ s. []) tally → KeepsFor (replicate n []) tally 0
keeps_none n tally services start = record {
  services = services;
  tally = subst (λ (votes : ℕ → List Record). IsTallyOf votes tally) (λ i x. ap votes_of (sym (nothing_read n x)) i) start;
  seen = record {
    none_above = λ s place k b e t.
        let q = sym (ap (λ (texts : List (List ℕ)). slice_get (votes_of texts) place) (nothing_read n s)) ∙ t.stands in absurd (cc q);
    stands = inl refl;
  };
}
