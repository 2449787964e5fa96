use Rattle.std.proofs.Common.{rules, tests, ◌≡◌, ◌∙◌, ℕ, List, Option, Bor, eqb, nat_lt, length, sym, ap}
use Rattle.std.specs.List.{find}
use Rattle.std.specs.Option.{option_map, option_map_or}
use Rattle.std.proofs.lemmas.Iterator.Splits.{YieldsList-from_slice_split}
use Rattle.std.proofs.lemmas.Iterator.Search.{find_from_yields_List}
use Rattle.ms_tree.specs.Paths.{parts_of}
use Rattle.ms_tree.proofs.path.long_part.Goals as goal

pub returns-in-Some : goal.returns-in-Some
returns-in-Some c =
    let first : option_map (λ x. x.now) c.find.result ≡ find (λ part. nat_lt 200 (length part)) (parts_of c.args.path.now) =
    find_from_yields_List (λ part. nat_lt 200 (length part)) _ _ c.find.result c.find.ensures.ran
    (YieldsList-from_slice_split _ (λ b. eqb b 47) c.args.path.now (cc) c.split-parts.ensures.done c.split-parts.ensures.closure (λ x b q k. search (rules, tests)))
    (λ x b q k. search (rules, tests)) in
    ap (λ (o : Option (List ℕ)). option_map_or length o 0) (ap (λ (r : Option (Bor (List ℕ))). option_map (λ x. x.now) r) (sym c.in-Some.is) ∙ first)

pub returns-in-None : goal.returns-in-None
returns-in-None c =
    let first : option_map (λ x. x.now) c.find.result ≡ find (λ part. nat_lt 200 (length part)) (parts_of c.args.path.now) =
    find_from_yields_List (λ part. nat_lt 200 (length part)) _ _ c.find.result c.find.ensures.ran
    (YieldsList-from_slice_split _ (λ b. eqb b 47) c.args.path.now (cc) c.split-parts.ensures.done c.split-parts.ensures.closure (λ x b q k. search (rules, tests)))
    (λ x b q k. search (rules, tests)) in
    ap (λ (o : Option (List ℕ)). option_map_or length o 0) (ap (λ (r : Option (Bor (List ℕ))). option_map (λ x. x.now) r) (sym c.in-None.is) ∙ first)
