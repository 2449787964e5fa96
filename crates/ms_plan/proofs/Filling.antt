-- Orders and copies that grow, one item after another.
use Rattle.std.proofs.Common.{◌≡◌, ℕ, ◌+◌, ◌-◌, ◌<◌, Bool, true, false, cond, List, [], ◌∷◌, ◌++◌, length, take, drop, map, get_or, refl, sym, ap, subst, ◌∙◌, append_assoc, arith}
use Rattle.std.specs.Prelude.{◌==◌, Some, slice_get}
use Rattle.std.specs.List.{list_any, range_with_len}
use Rattle.std.proofs.lemmas.List.FromFn.{map-range_with_len_more}
use Rattle.std.proofs.lemmas.Option.{slice_get-get_or}
use Rattle.md5.specs.Md5.{md5}
use Rattle.ms_record.specs.declared.plan.PlanRow.{PlanRow}
use Rattle.ms_record.specs.Plans.{PlanView, IsPlan, IsRow}
use Rattle.ms_plan.specs.TableInside.{keyed}
use Rattle.std.proofs.lemmas.List.{take_more, take_all, length-append, map-append}
use Rattle.std.proofs.Math.Seq.{drop-append_seam}
use Rattle.ms_base.specs.declared.names.ServiceId.{ServiceId}
use Rattle.ms_plan.specs.declared.table.copies.KeyedCopy.{KeyedCopy}
use Rattle.ms_plan.specs.Mapping.{ServiceCopy, firsts, key_text}
use Rattle.ms_plan.proofs.Firsts.{firsts-push, holds_service}
use Rattle.ms_plan.proofs.Ordering.{numbered}

abbrev pub key_services : List KeyedCopy → List ServiceId
key_services copies = map (λ c. c.service) copies

-- what stands behind a front
pub behind : {X : Type 0} (xs ys : List X) (start : ℕ) → start ≡ length xs → take (length (xs ++ ys) - start) (drop start (xs ++ ys)) ≡ ys
behind xs ys start e =
    let room : length (xs ++ ys) - start ≡ length ys = omega (arith, length-append xs ys, e) in
    ap (λ (n : ℕ). take n (drop start (xs ++ ys))) room ∙ ap (λ (n : ℕ). take (length ys) (drop n (xs ++ ys))) e ∙ ap (take (length ys)) (drop-append_seam xs ys) ∙ take_all (length ys) ys (omega arith)

-- one more copy: its service goes to the end where it is not yet there
pub firsts_more : (copies : List KeyedCopy) (i : ℕ) (d : KeyedCopy) (before now seen : List ServiceId) (start : ℕ) (found : Bool)
    → i < length copies → start ≡ length before → now ≡ before ++ firsts (key_services (take i copies)) → seen ≡ now
    → found ≡ list_any (λ y. y.0 == (get_or copies i d).service.0) (take (length seen - start) (drop start seen))
    → cond found now (now ++ (get_or copies i d).service ∷ []) ≡ before ++ firsts (key_services (take (i + 1) copies))
firsts_more copies i d before now seen start found below at_start is same look =
    let service : ServiceId = (get_or copies i d).service in
    let so_far : List ServiceId = key_services (take i copies) in
    let whole : seen ≡ before ++ firsts so_far = same ∙ is in
    let part : take (length seen - start) (drop start seen) ≡ firsts so_far = ap (λ (xs : List ServiceId). take (length xs - start) (drop start xs)) whole ∙ behind before (firsts so_far) start at_start in
    let found_is : found ≡ holds_service service (firsts so_far) = look ∙ ap (list_any (λ y. y.0 == service.0)) part in
    let next : key_services (take (i + 1) copies) ≡ so_far ++ service ∷ [] = ap key_services (take_more copies i d below) ∙ map-append (λ (c : KeyedCopy). c.service) (take i copies) (get_or copies i d ∷ []) in
    ap (λ (b : Bool). cond b now (now ++ service ∷ [])) found_is
    ∙ ap (λ (xs : List ServiceId). cond (holds_service service (firsts so_far)) xs (xs ++ service ∷ [])) is
    ∙ elim (holds_service service (firsts so_far)) as (λ (b : Bool). cond b (before ++ firsts so_far) (before ++ firsts so_far ++ service ∷ []) ≡ before ++ cond b (firsts so_far) (firsts so_far ++ service ∷ [])) [
      | true ↦ refl
      | false ↦ append_assoc before (firsts so_far) (service ∷ [])
    ]
    ∙ ap (λ (xs : List ServiceId). before ++ xs) (sym (firsts-push so_far service))
    ∙ ap (λ (xs : List ServiceId). before ++ firsts xs) (sym next)

pub when_found : {X : Type 0} (found : Bool) (now more whole : X) → found ≡ true → cond found now more ≡ whole → now ≡ whole
when_found found now more whole h e = sym (ap (λ (b : Bool). cond b now more) h) ∙ e

pub when_new : {X : Type 0} (found : Bool) (now more whole : X) → found ≡ false → cond found now more ≡ whole → more ≡ whole
when_new found now more whole h e = sym (ap (λ (b : Bool). cond b now more) h) ∙ e

-- one more copy of a service
pub copies_more : (slot : ℕ) (s : ServiceId) (n : ℕ) (before now same more : List KeyedCopy) (key : List ℕ)
    → now ≡ before ++ map (keyed slot) (numbered s (range_with_len 0 n)) → same ≡ now → key ≡ md5 (key_text slot (record { service = s; copy = n }))
    → more ≡ same ++ record { key = key; service = s; copy = n } ∷ [] → more ≡ before ++ map (keyed slot) (numbered s (range_with_len 0 (n + 1)))
copies_more slot s n before now same more key is kept is_key pushed =
    let next : numbered s (range_with_len 0 (n + 1)) ≡ numbered s (range_with_len 0 n) ++ record { service = s; copy = n } ∷ [] = map-range_with_len_more (λ copy. record { service = s; copy = copy }) 0 n n (omega arith) in
    pushed ∙ ap (λ (k : List ℕ). same ++ record { key = k; service = s; copy = n } ∷ []) is_key ∙ ap (λ (xs : List KeyedCopy). xs ++ keyed slot (record { service = s; copy = n }) ∷ []) (kept ∙ is)
    ∙ append_assoc before (map (keyed slot) (numbered s (range_with_len 0 n))) (keyed slot (record { service = s; copy = n }) ∷ [])
    ∙ ap (λ (xs : List KeyedCopy). before ++ xs) (sym (map-append (keyed slot) (numbered s (range_with_len 0 n)) (record { service = s; copy = n } ∷ [])))
    ∙ ap (λ (xs : List ServiceCopy). before ++ map (keyed slot) xs) (sym next)

-- each row of a plan keeps the rules of rows
pub row_rules : (plan : PlanView) (unit : ℕ) (rows : List PlanRow) (i : ℕ) (d : PlanRow) → IsPlan plan → unit ≡ plan.unit → rows ≡ plan.rows → i < length rows → IsRow unit (get_or rows i d)
row_rules plan unit rows i d rules same_unit same_rows below =
    let at : slice_get plan.rows i ≡ Some (get_or rows i d) = ap (λ (xs : List PlanRow). slice_get xs i) (sym same_rows) ∙ slice_get-get_or rows i d below in
    subst (λ (u : ℕ). IsRow u (get_or rows i d)) (sym same_unit) (rules.rows i (get_or rows i d) at)
