-- A dump has one audit.
use Rattle.std.proofs.Common.{◌≡◌, ℕ, ◌≤◌, Bool, true, false, List, Some, None, inl, inr, refl, sym, ap, ◌∙◌, subst, length, arith}
use Rattle.std.specs.Prelude.{bytes_eq}
use Rattle.std.specs.Cmp.Lexicographic.{same_text}
use Rattle.std.proofs.lemmas.Bool.{cases_lt}
use Rattle.ms_record.specs.declared.entry.Entry.{Entry}
use Rattle.ms_record.specs.declared.record.Record.{Record}
use Rattle.ms_record.specs.Chains.{Origin, IsLinked, IsChosen, AgreesAt, voters_behind}
use Rattle.ms_record.specs.Entries.{entry_text, name_of}
use Rattle.ms_record.specs.Votes.{ChosenBy}
use Rattle.ms_replay.specs.declared.audit.Audit.{Audit}
use Rattle.ms_replay.specs.declared.audit.Audit.TheVariants as audits
use Rattle.ms_replay.specs.Audits.{IsLeastSplit, AuditsLists}
use Rattle.ms_replay.specs.Standings.{IsFirstChosen}
use Rattle.ms_replay.proofs.Groups.{bytes_same}
use Rattle.ms_replay.proofs.OneStanding.{first_meet, no_later_meet}

-- linked lists of one length are one, where two chosen entries are one up to their end
abbrev pub OneList : Type 0
OneList = (votes : ℕ → List Record) (origin : Origin) (c d : List Entry) → ((k : ℕ) → k ≤ length c → AgreesAt votes origin k) → IsLinked votes origin c → IsLinked votes origin d → length c ≡ length d → c ≡ d

-- two entries that a split names are chosen
split_chosen : (lists : ℕ → List Record) (origin : Origin) (k : ℕ) (e f : Entry) (h : IsLeastSplit lists origin k e f) (x : Entry) → ChosenBy lists (voters_behind origin h.members) k x → IsChosen lists origin k x
split_chosen lists origin k e f h x c = record { members = h.members; linked = h.linked; at = h.at; chosen = c }

-- where a split is, two chosen entries are not one
split_parts : (lists : ℕ → List Record) (origin : Origin) (k : ℕ) (e f : Entry) → IsLeastSplit lists origin k e f → AgreesAt lists origin k → ⊥
split_parts lists origin k e f h agree =
    h.split.1.differs (agree f e (split_chosen lists origin k e f h f h.split.1.chosen) (split_chosen lists origin k e f h e h.split.0.chosen))

-- the least splits are at one position
least_meet : (lists : ℕ → List Record) (origin : Origin) (k q : ℕ) (e f x y : Entry) → IsLeastSplit lists origin k e f → IsLeastSplit lists origin q x y → k ≡ q
least_meet lists origin k q e f x y h g =
    elim (cases_lt k q) [
      | inl l ↦ absurd (split_parts lists origin k e f h (g.least k l))
      | inr m ↦ elim (cases_lt q k) [ inl l ↦ absurd (split_parts lists origin q x y g (h.least q l)) | inr n ↦ omega (arith, m, n) ]
    ]

-- The entries beside the first have one spelling, whichever of two firsts of one spelling they differ from: were the
-- one beside `e` spelled otherwise, it would be a later one than that beside `f` and an earlier one.
beside_alike : (lists : ℕ → List Record) (voters : List ℕ) (k : ℕ) (e f s t : Entry) → IsFirstChosen lists voters k None e → IsFirstChosen lists voters k None f
    → IsFirstChosen lists voters k (Some e) s → IsFirstChosen lists voters k (Some f) t → (entry_text s ≡ entry_text e → ⊥) → entry_text t ≡ entry_text e → ⊥
beside_alike lists voters k e f s t he hf hs ht other same =
    let text : entry_text e ≡ entry_text f = first_meet lists voters k None e f he hf in
    let behind = ht.first s hs.chosen (λ (p : s ≡ f). other (ap entry_text p ∙ sym text)) in
    let not_e : (t ≡ e) → ⊥ = λ p. other (first_of f (λ (q : f ≡ e). ht.differs (p ∙ sym q)) hf (sym text)) in
    other (sym (no_later_meet ht.chosen.ballot hs.chosen.ballot t s behind (hs.first t ht.chosen not_e)) ∙ same)
  where
    -- where another first of that spelling is beside e, s has it too
    first_of : (x : Entry) → (x ≡ e → ⊥) → IsFirstChosen lists voters k None x → entry_text x ≡ entry_text e → entry_text s ≡ entry_text e
    first_of x apart hx is = sym (no_later_meet hx.chosen.ballot hs.chosen.ballot x s (hx.first s hs.chosen tt) (hs.first x hx.chosen apart)) ∙ is

second_meet : (lists : ℕ → List Record) (voters : List ℕ) (k : ℕ) (e f s t : Entry) → IsFirstChosen lists voters k None e → IsFirstChosen lists voters k None f
    → IsFirstChosen lists voters k (Some e) s → IsFirstChosen lists voters k (Some f) t → entry_text s ≡ entry_text t
second_meet lists voters k e f s t he hf hs ht = by (bytes_eq (entry_text s) (entry_text e)) (bytes_eq (entry_text t) (entry_text f)) refl refl
  where
    text : entry_text e ≡ entry_text f
    text = first_meet lists voters k None e f he hf

    apart : (x y : List ℕ) → bytes_eq x y ≡ false → x ≡ y → ⊥
    apart x y h e = let q = bytes_same x y e in cc

    by : (a b : Bool) → bytes_eq (entry_text s) (entry_text e) ≡ a → bytes_eq (entry_text t) (entry_text f) ≡ b → entry_text s ≡ entry_text t
    by true true p q = same_text (entry_text s) (entry_text e) (sym p) ∙ text ∙ sym (same_text (entry_text t) (entry_text f) (sym q))
    by true false p q = absurd (beside_alike lists voters k f e t s hf he ht hs (apart (entry_text t) (entry_text f) q) (same_text (entry_text s) (entry_text e) (sym p) ∙ text))
    by false true p q = absurd (beside_alike lists voters k e f s t he hf hs ht (apart (entry_text s) (entry_text e) p) (same_text (entry_text t) (entry_text f) (sym q) ∙ sym text))
    by false false p q =
        let not_f : (s ≡ f) → ⊥ = λ r. apart (entry_text s) (entry_text e) p (ap entry_text r ∙ sym text) in
        let not_e : (t ≡ e) → ⊥ = λ r. apart (entry_text t) (entry_text f) q (ap entry_text r ∙ text) in
        no_later_meet hs.chosen.ballot ht.chosen.ballot s t (hs.first t ht.chosen not_e) (ht.first s hs.chosen not_f)

-- the names of the two, where two splits are at one position
pub record NamesMeet (e f s t : Entry) : Type 0 where
  pub first : entry_text e ≡ entry_text f
  pub second : entry_text s ≡ entry_text t

names_meet : (lists : ℕ → List Record) (origin : Origin) (k : ℕ) (e f s t : Entry) → OneList → IsLeastSplit lists origin k e s → IsLeastSplit lists origin k f t → NamesMeet e f s t
names_meet lists origin k e f s t one h g =
    let same : g.members ≡ h.members = one lists origin g.members h.members (λ q l. g.least q (omega (arith, l, g.at))) g.linked h.linked (omega (arith, h.at, g.at)) in
    let voters = voters_behind origin h.members in
    let hf = subst (λ (c : List Entry). IsFirstChosen lists (voters_behind origin c) k None f) same g.split.0 in
    let ht = subst (λ (c : List Entry). IsFirstChosen lists (voters_behind origin c) k (Some f) t) same g.split.1 in
    record { first = first_meet lists voters k None e f h.split.0 hf; second = second_meet lists voters k e f s t h.split.0 hf h.split.1 ht }

-- entries of one spelling have one name
names_alike : (e f : Entry) → entry_text e ≡ entry_text f → name_of e ≡ name_of f
names_alike e f h = cc

pub audits_meet : (lists : ℕ → List Record) (origin : Origin) (a b : Audit) → OneList → AuditsLists lists origin a → AuditsLists lists origin b → a ≡ b
audits_meet lists origin (audits.Linked c) (audits.Linked d) one h g =
    let long : length c ≡ length d = omega (arith, h.1.longest d g.1.linked, g.1.longest c h.1.linked) in
    ap (λ (x : List Entry). audits.Linked x) (one lists origin c d (λ k l. h.0 k) h.1.linked g.1.linked long)
audits_meet lists origin (audits.Linked c) (audits.Split k e s) one h g = absurd (split_parts lists origin k g.one g.other g.split (h.0 k))
audits_meet lists origin (audits.Split k e s) (audits.Linked d) one h g = absurd (split_parts lists origin k h.one h.other h.split (g.0 k))
audits_meet lists origin (audits.Split k e s) (audits.Split q f t) one h g =
    let at : q ≡ k = least_meet lists origin q k g.one g.other h.one h.other g.split h.split in
    let back : k ≡ q = sym at in
    let n = names_meet lists origin k h.one g.one h.other g.other one h.split (subst (λ (p : ℕ). IsLeastSplit lists origin p g.one g.other) at g.split) in
    let first : e.0 ≡ f.0 = h.first_is ∙ names_alike h.one g.one n.first ∙ sym g.first_is in
    let second : s.0 ≡ t.0 = h.second_is ∙ names_alike h.other g.other n.second ∙ sym g.second_is in
    λ i. audits.Split (back i) (record { 0 = first i }) (record { 0 = second i })
