use Rattle.std.proofs.Common.{◌≡◌, List, ℕ, refl, sym, subst}
use Rattle.std.specs.Str.{IsUtf8}
use Rattle.ms_tree.proofs.ListingLaws.{no_text}
use Rattle.ms_tree.proofs.listing.add_line.Goals as goal

pub returns-in-Some-clause-adds : goal.returns-in-Some-clause-adds
returns-in-Some-clause-adds c =
    let same : c.deref.result.now ≡ c.in-Some.field-0.path.items = cc c.deref.ensures.value in
    rw c.wrong_line.ensures
    (no_text c.args.line c.args.files.now c.args.text.now _ c.in-Some.field-0.path.items c.in-Some.field-0.text.items c.in_ok-path.ensures.row (rw c.in-Some.is refl)
    (λ u. c.in-Err.ensures.cases.0 (subst (λ (p : List ℕ). IsUtf8 p) (sym same) u)))
