-- Where what was taken was offered and each offer is justified, two chosen entries of one position are one, by induction on the position.
use Rattle.std.proofs.Common.{◌≡◌, ℕ, zero, suc, ◌+◌, List, [], ◌∷◌, ◌++◌, refl, sym, ◌∙◌, subst, length, arith}
use Rattle.ms_record.specs.declared.entry.Entry.{Entry}
use Rattle.ms_record.specs.declared.record.Record.{Record}
use Rattle.ms_record.specs.Chains.{Origin, IsLinked, Agrees, voters_behind}
use Rattle.ms_record.specs.Offers.{IsSound, IsSoundAt, JustifiedBy}
use Rattle.ms_record.specs.Votes.{ChosenBy}
use Rattle.ms_record.proofs.Agreement.{chosen_agree}
use Rattle.ms_record.proofs.ChainLaws.{ends_so, last_chosen, front_linked}

-- linked lists of this length are one
abbrev OneOf : (ℕ → List Record) → Origin → ℕ → Type 0
OneOf votes origin n = (c d : List Entry) → length c ≡ n → length d ≡ n → IsLinked votes origin c → IsLinked votes origin d → c ≡ d

-- so that position has one list of voters
sound_at : (votes offers : ℕ → List Record) (origin : Origin) (c : List Entry) → IsSound votes offers origin → OneOf votes origin (length c) → IsLinked votes origin c
    → IsSoundAt votes offers (voters_behind origin c) (length c + 1)
sound_at votes offers origin c sound one h = record {
  one_offer = λ b e f. sound.one_offer (length c + 1) b e f;
  taken_offered = λ s place b e. sound.taken_offered s place (length c + 1) b e;
  justified = λ b e o.
      let j = sound.justified (length c + 1) b e o in
      let same : j.members ≡ c = one j.members c (omega (arith, j.at)) refl j.linked h in
      subst (λ (xs : List Entry). JustifiedBy votes (voters_behind origin xs) (length c + 1) b e) same j.justified;
}

agree_behind : (votes offers : ℕ → List Record) (origin : Origin) (c d : List Entry) (e f : Entry) → IsSound votes offers origin → OneOf votes origin (length c) → IsLinked votes origin c → c ≡ d
    → ChosenBy votes (voters_behind origin c) (length c + 1) e → ChosenBy votes (voters_behind origin d) (length d + 1) f → e ≡ f
agree_behind votes offers origin c d e f sound one h same ce cf =
    chosen_agree votes offers (voters_behind origin c) (length c + 1) (sound_at votes offers origin c sound one h) e f ce
    (subst (λ (xs : List Entry). ChosenBy votes (voters_behind origin xs) (length xs + 1) f) (sym same) cf)

pushed_one : (votes offers : ℕ → List Record) (origin : Origin) (n : ℕ) (a b : List Entry) (e f : Entry) → IsSound votes offers origin → OneOf votes origin n → length a ≡ n → length b ≡ n
    → IsLinked votes origin (a ++ e ∷ []) → IsLinked votes origin (b ++ f ∷ []) → a ++ e ∷ [] ≡ b ++ f ∷ []
pushed_one votes offers origin n a b e f sound one la lb ha hb =
    let fa = front_linked votes origin a e ha in
    let same : a ≡ b = one a b la lb fa (front_linked votes origin b f hb) in
    let here : OneOf votes origin (length a) = subst (λ (m : ℕ). OneOf votes origin m) (sym la) one in
    let last : e ≡ f = agree_behind votes offers origin a b e f sound here fa same (last_chosen votes origin a e ha) (last_chosen votes origin b f hb) in
    λ i. same i ++ last i ∷ []

pub one_of : (votes offers : ℕ → List Record) (origin : Origin) → IsSound votes offers origin → (n : ℕ) → OneOf votes origin n
one_of votes offers origin sound zero [] [] lc ld hc hd = refl
one_of votes offers origin sound zero [] (y ∷ d) lc ld hc hd = absurd (omega (arith, ld))
one_of votes offers origin sound zero (x ∷ c) d lc ld hc hd = absurd (omega (arith, lc))
one_of votes offers origin sound (suc n) c d lc ld hc hd =
    let a = ends_so c n lc in
    let b = ends_so d n ld in
    let p = pushed_one votes offers origin n a.front b.front a.last b.last sound (one_of votes offers origin sound n) a.long b.long
    (subst (λ (xs : List Entry). IsLinked votes origin xs) (sym a.is) hc) (subst (λ (xs : List Entry). IsLinked votes origin xs) (sym b.is) hd) in
    sym a.is ∙ p ∙ b.is

-- two chosen entries of one position are one
pub masters_agree : (votes offers : ℕ → List Record) (origin : Origin) → IsSound votes offers origin → Agrees votes origin
masters_agree votes offers origin sound k e f ce cf =
    let same : ce.members ≡ cf.members = one_of votes offers origin sound (length ce.members) ce.members cf.members refl (omega (arith, ce.at, cf.at)) ce.linked cf.linked in
    agree_behind votes offers origin ce.members cf.members e f sound (one_of votes offers origin sound (length ce.members)) ce.linked same
    (subst (λ (j : ℕ). ChosenBy votes (voters_behind origin ce.members) j e) ce.at ce.chosen)
    (subst (λ (j : ℕ). ChosenBy votes (voters_behind origin cf.members) j f) cf.at cf.chosen)
