-- What was gathered below a root is its tree.
use Rattle.std.proofs.Common.{◌≡◌, ℕ, List, [], ◌⊎◌, Some, Result, Ok, Err, refl, sym, ap, subst, ◌∙◌, append-nil, inl, inr}
use Rattle.ms_object.specs.declared.format.Format.{Format}
use Rattle.ms_base.specs.declared.names.Name.{Name}
use Rattle.ms_object.specs.declared.fault.GatherError.{GatherError}
use Rattle.ms_object.specs.declared.fault.GatherError.TheVariants as faults
use Rattle.ms_object.specs.declared.object.SizedRow.{SizedRow}
use Rattle.ms_object.specs.Trees.{Texts, FileText, Met, IsTree, or_fault, object_named, top_of, met_below, walk, walk_rows, first_fault}
use Rattle.ms_tree.specs.Gathering.{Gives, Gathers, StopsAt}
use Rattle.ms_tree.proofs.Membership.{no_item}
use Rattle.ms_tree.proofs.Walks.{stops_below}

-- the format and the rows of a root
abbrev pub TopRows : Type 0
TopRows = Format × List SizedRow

abbrev below_top : Texts → TopRows → List Met
below_top store top = walk_rows top.0 64 store [] top.1

-- the walk below a root whose rows are known
pub walk_is : (store : Texts) (root : Name) (top : Result TopRows GatherError) → or_fault (object_named store root) (top_of root) ≡ top → walk store root ≡ met_below top (below_top store)
unfolding walk
walk_is store root top e = ap (λ (r : Result TopRows GatherError). met_below r (below_top store)) e

-- a fault that comes first after nothing
first_of : (met : List Met) (e : GatherError) → StopsAt [] met e → (e ≡ faults.NoMemory) ⊎ (first_fault 0 0 met ≡ Some e)
first_of met e (inl none) = inl none
first_of met e (inr stop) = inr (ap (first_fault 0 0) (sym (append-nil met)) ∙ stop [])

pub root_fault : (store : Texts) (root : Name) (e : GatherError) → Gives (or_fault (object_named store root) (top_of root)) (Err e) → (e ≡ faults.NoMemory) ⊎ (first_fault 0 0 (walk store root) ≡ Some e)
root_fault store root e h =
    let top = or_fault (object_named store root) (top_of root) in
    subst (λ (m : List Met). (e ≡ faults.NoMemory) ⊎ (first_fault 0 0 m ≡ Some e)) (sym (walk_is store root top refl)) (first_of (met_below top (below_top store)) e (stops_below [] top (below_top store) e h))

met_is : (store : Texts) (root : Name) (format : Format) (rows slice : List SizedRow) (front : List ℕ) → or_fault (object_named store root) (top_of root) ≡ Ok (format, rows) → slice ≡ rows → front ≡ [] → walk_rows format 64 store front slice ≡ walk store root
met_is store root format rows slice front given same start =
    ap (λ (b : List ℕ). walk_rows format 64 store b slice) start ∙ ap (walk_rows format 64 store []) same ∙ sym (walk_is store root (Ok (format, rows)) given)

pub walk_fault : (store : Texts) (root : Name) (format : Format) (rows slice : List SizedRow) (front : List ℕ) (files : List FileText) (e : GatherError) → or_fault (object_named store root) (top_of root) ≡ Ok (format, rows) → slice ≡ rows → front ≡ [] → files ≡ []
    → StopsAt files (walk_rows format 64 store front slice) e → (e ≡ faults.NoMemory) ⊎ (first_fault 0 0 (walk store root) ≡ Some e)
walk_fault store root format rows slice front files e given same start none stop =
    first_of (walk store root) e (subst (λ (m : List Met). StopsAt [] m e) (met_is store root format rows slice front given same start) (subst (λ (f : List FileText). StopsAt f (walk_rows format 64 store front slice) e) none stop))

pub tree_gathered : (store : Texts) (root : Name) (format : Format) (rows slice : List SizedRow) (front : List ℕ) (old files : List FileText) → or_fault (object_named store root) (top_of root) ≡ Ok (format, rows) → slice ≡ rows → front ≡ [] → old ≡ []
    → Gathers old files (walk_rows format 64 store front slice) → IsTree store root files
tree_gathered store root format rows slice front old files given same start none g =
    by (subst (λ (m : List Met). Gathers [] files m) (met_is store root format rows slice front given same start) (subst (λ (f : List FileText). Gathers f files (walk_rows format 64 store front slice)) none g))
  where
    by : Gathers [] files (walk store root) → IsTree store root files
    by g = record {
      whole = ap (first_fault 0 0) (sym (append-nil (walk store root))) ∙ g.goes_on [];
      found = λ file. (λ h. elim ((g.found file).0 h) [ inl old ↦ absurd (no_item file old) | inr met ↦ met ], λ met. (g.found file).1 (inr met));
    }
