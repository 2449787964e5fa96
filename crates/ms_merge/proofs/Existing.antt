-- A merge of any files: names for its files, and files that have what each path gives.
use Rattle.std.proofs.Common.{◌≡◌, ℕ, ◌+◌, ◌≤◌, Bool, true, false, cond, if◌then◌else◌, List, [], ◌∷◌, ◌++◌, length, length-append, filter, Contains, not, Some, None, is_some, refl, sym, ◌∙◌, ap, subst, arith}
use Rattle.std.specs.List.{list_any, IsDistinct}
use Rattle.std.specs.Map.{keys_of}
use Rattle.std.specs.Option.{option_or}
use Rattle.std.specs.Str.{bytes_eq}
use Rattle.std.proofs.lemmas.Bool.{false≢true, false_from_ne_true}
use Rattle.std.proofs.lemmas.Cmp.{nat_list_eq_equiv}
use Rattle.std.proofs.lemmas.List.{length-map}
use Rattle.std.proofs.lemmas.List.Elements.{recursion_from_All}
use Rattle.std.proofs.lemmas.List.Filters.{length-filter_both}
use Rattle.std.proofs.lemmas.Map.Keys.{IsDistinct-cons}
use Rattle.std.proofs.lemmas.Map.Made.{is_some-lookup, length-le_from_is_member}
use Rattle.std.proofs.lemmas.Slice.Eq.{bytes_eq-Decides}
use Rattle.ms_base.specs.Places.{all_from}
use Rattle.ms_base.specs.Rising.{Rises, Before, not_before_itself, rises_none, rises_first, rises_rest}
use Rattle.ms_tree.specs.Files.{FileList, text_at, with_file}
use Rattle.ms_tree.specs.Paths.{is_directory_of}
use Rattle.ms_tree.specs.Merging.{Side, standing, is_conflict, names_of, conflicts, directories, AreTagged, MayMerge, IsMerge}
use Rattle.ms_merge.proofs.TreeLaws.{TreeLaws}
use Rattle.ms_merge.specs.Settling.{settled_at}
use Rattle.ms_merge.proofs.GivenNames.{as_many}
use Rattle.ms_merge.proofs.FreeNames.{has_free}

-- ---- names for all files

pub record HasNames (base ours theirs : FileList) (tag : List ℕ) (given : List (List ℕ)) (files : FileList) : Type 0 where
  pub named : FileList
  pub are : AreTagged base ours theirs tag given files named

pub has_names : TreeLaws → {base ours theirs : FileList} {tag : List ℕ} → MayMerge base ours theirs tag → (files : FileList) (given : List (List ℕ)) → length given + length files ≤ 2147483648 → HasNames base ours theirs tag given files
has_names laws may [] given few = record { named = []; are = tt }
has_names laws may (f ∷ files) given few =
    let first = has_free laws.directory may given f.0 (omega arith) in
    let rest = has_names laws may files (given ++ first.name ∷ []) (omega (arith, length-append given (first.name ∷ []))) in
    record { named = (first.name, f.1) ∷ rest.named; are = (first.is, refl, rest.are) }

-- ---- files that have what each path gives

put : FileList → List ℕ → Side → FileList
put files path None = files
put files path (Some text) = with_file files path text

put_rises : TreeLaws → (files : FileList) (path : List ℕ) (gives : Side) → Rises (keys_of files) → Rises (keys_of (put files path gives))
unfolding put
put_rises laws files path None rise = rise
put_rises laws files path (Some text) rise = laws.rises files path text rise

-- what the paths of the rows give
pub made : (List ℕ → Side) → FileList → FileList
made gives [] = []
made gives (f ∷ rows) = put (made gives rows) f.0 (gives f.0)

pub made_rises : TreeLaws → (gives : List ℕ → Side) (rows : FileList) → Rises (keys_of (made gives rows))
unfolding made
made_rises laws gives [] = rises_none
made_rises laws gives (f ∷ rows) = put_rises laws (made gives rows) f.0 (gives f.0) (made_rises laws gives rows)

put_at : TreeLaws → (files : FileList) (path q : List ℕ) (gives : Side) → text_at (put files path gives) q ≡ (if bytes_eq q path then option_or gives (text_at files q) else text_at files q)
unfolding put
put_at laws files path q None = by (bytes_eq q path)
  where
    by : (b : Bool) → text_at files q ≡ (if b then text_at files q else text_at files q)
    by true = refl
    by false = refl
put_at laws files path q (Some text) = laws.put files path text q

made_here : (b : Bool) (gives old : Side) (text : List ℕ) (rest now : Side) → rest ≡ (if is_some old then gives else None) → now ≡ (if b then option_or gives rest else rest) → now ≡ (if is_some (cond b (Some text) old) then gives else None)
made_here false gives old text rest now e f = f ∙ e
made_here true (Some x) old text rest now e f = f
made_here true None None text rest now e f = f ∙ e
made_here true None (Some x) text rest now e f = f ∙ e

pub made_at : TreeLaws → (gives : List ℕ → Side) (rows : FileList) (q : List ℕ) → text_at (made gives rows) q ≡ (if is_some (text_at rows q) then gives q else None)
unfolding made
made_at laws gives [] q = refl
made_at laws gives (f ∷ rows) q =
    made_here (bytes_eq q f.0) (gives q) (text_at rows q) f.1 (text_at (made gives rows) q) (text_at (put (made gives rows) f.0 (gives f.0)) q) (made_at laws gives rows q)
    (put_at laws (made gives rows) f.0 q (gives f.0) ∙ at_same (bytes_eq q f.0) refl)
  where
    at_same : (b : Bool) → bytes_eq q f.0 ≡ b → (if b then option_or (gives f.0) (text_at (made gives rows) q) else text_at (made gives rows) q) ≡ (if b then option_or (gives q) (text_at (made gives rows) q) else text_at (made gives rows) q)
    at_same true e = ap (λ (p : List ℕ). option_or (gives p) (text_at (made gives rows) q)) (sym ((bytes_eq-Decides q f.0).0 e))
    at_same false e = refl

-- ---- where nothing stands, nothing is given

text_at-append : (one other : FileList) (q : List ℕ) → text_at (one ++ other) q ≡ option_or (text_at one q) (text_at other q)
text_at-append [] other q = refl
text_at-append (f ∷ one) other q = by (bytes_eq q f.0) (text_at-append one other q)
  where
    by : (b : Bool) → text_at (one ++ other) q ≡ option_or (text_at one q) (text_at other q) → cond b (Some f.1) (text_at (one ++ other) q) ≡ option_or (cond b (Some f.1) (text_at one q)) (text_at other q)
    by true r = refl
    by false r = r

none_stands : (base : Side) → standing base None None ≡ None
none_stands None = refl
none_stands (Some x) = refl

settled_whole : (doubled base ours theirs : Side) → (if is_some (option_or doubled (option_or ours theirs)) then option_or doubled (standing base ours theirs) else None) ≡ option_or doubled (standing base ours theirs)
settled_whole (Some x) base ours theirs = refl
settled_whole None base (Some o) theirs = refl
settled_whole None base None (Some t) = refl
settled_whole None base None None = sym (none_stands base)

files_whole : (moved settled : Side) (left : Bool) → (if is_some (option_or moved settled) then option_or moved (if left then None else settled) else None) ≡ option_or moved (if left then None else settled)
files_whole (Some x) settled left = refl
files_whole None (Some x) left = refl
files_whole None None true = refl
files_whole None None false = refl

-- what single paths give, with the names for conflicts
pub record HasSettled (base ours theirs doubled : FileList) : Type 0 where
  pub settled : FileList
  pub rise : Rises (keys_of settled)
  pub are : (path : List ℕ) → text_at settled path ≡ option_or (text_at doubled path) (settled_at base ours theirs path)

pub has_settled : TreeLaws → (base ours theirs doubled : FileList) → HasSettled base ours theirs doubled
has_settled laws base ours theirs doubled =
    let gives : List ℕ → Side = λ path. option_or (text_at doubled path) (settled_at base ours theirs path) in
    record {
      settled = made gives (doubled ++ (ours ++ theirs));
      rise = made_rises laws gives (doubled ++ (ours ++ theirs));
      are = λ path. made_at laws gives (doubled ++ (ours ++ theirs)) path
          ∙ ap (λ (o : Side). if is_some o then gives path else None) (text_at-append doubled (ours ++ theirs) path ∙ ap (option_or (text_at doubled path)) (text_at-append ours theirs path))
          ∙ settled_whole (text_at doubled path) (text_at base path) (text_at ours path) (text_at theirs path);
    }

-- the merged files, once names were given to all that is moved
pub record HasFiles (settled moved : FileList) : Type 0 where
  pub files : FileList
  pub rise : Rises (keys_of files)
  pub are : (path : List ℕ) → text_at files path ≡ option_or (text_at moved path) (if is_some (text_at (directories settled) path) then None else text_at settled path)

pub has_files : TreeLaws → (settled moved : FileList) → HasFiles settled moved
has_files laws settled moved =
    let gives : List ℕ → Side = λ path. option_or (text_at moved path) (if is_some (text_at (directories settled) path) then None else text_at settled path) in
    record {
      files = made gives (moved ++ settled);
      rise = made_rises laws gives (moved ++ settled);
      are = λ path. made_at laws gives (moved ++ settled) path ∙ ap (λ (o : Side). if is_some o then gives path else None) (text_at-append moved settled path)
          ∙ files_whole (text_at moved path) (text_at settled path) (is_some (text_at (directories settled) path));
    }

-- ---- how many names are given

fewer : {X : Type 0} (p : X → Bool) (xs : List X) → length (filter p xs) ≤ length xs
fewer p xs = omega (arith, length-filter_both p (λ x. not (p x)) (λ x. refl) xs)

rises_distinct : (paths : List (List ℕ)) → Rises paths → IsDistinct bytes_eq paths
unfolding IsDistinct
rises_distinct [] rise = tt
rises_distinct (path ∷ paths) rise = IsDistinct-cons bytes_eq path paths (recursion_from_All (λ q. bytes_eq path q ≡ false) paths (all_from (λ q. bytes_eq path q ≡ false) paths apart)) (rises_distinct paths (rises_rest path paths rise))
  where
    apart : (q : List ℕ) → Contains paths q → bytes_eq path q ≡ false
    apart q has = false_from_ne_true (bytes_eq path q) (λ e. not_before_itself path (subst (λ (p : List ℕ). Before path p) (sym ((bytes_eq-Decides path q).0 e)) (rises_first path paths rise q has)))

from_side : (doubled base ours theirs : Side) → is_some (option_or doubled (standing base ours theirs)) ≡ true → is_some (option_or doubled (option_or ours theirs)) ≡ true
from_side (Some x) base ours theirs h = refl
from_side None base (Some o) theirs h = refl
from_side None base None (Some t) h = refl
from_side None base None None h = absurd (false≢true (ap (λ (o : Side). is_some o) (sym (none_stands base)) ∙ h))

few_settled : (base ours theirs doubled settled : FileList) → Rises (keys_of settled) → ((path : List ℕ) → text_at settled path ≡ option_or (text_at doubled path) (settled_at base ours theirs path))
    → length settled ≤ length doubled + (length ours + length theirs)
few_settled base ours theirs doubled settled rise are =
    let all : FileList = doubled ++ (ours ++ theirs) in
    let less : length (keys_of settled) ≤ length (keys_of all) = length-le_from_is_member nat_list_eq_equiv (keys_of settled) (keys_of all) (rises_distinct (keys_of settled) rise) (λ q has.
    sym (is_some-lookup (bytes_eq q) all) ∙ ap (λ (o : Side). is_some o) (text_at-append doubled (ours ++ theirs) q ∙ ap (option_or (text_at doubled q)) (text_at-append ours theirs q))
    ∙ from_side (text_at doubled q) (text_at base q) (text_at ours q) (text_at theirs q) (ap (λ (o : Side). is_some o) (sym (are q)) ∙ is_some-lookup (bytes_eq q) settled ∙ has)) in
    omega (arith, length-map settled (λ (f : List ℕ × List ℕ). f.0), length-map all (λ (f : List ℕ × List ℕ). f.0), length-append doubled (ours ++ theirs), length-append ours theirs)

pub few_conflicts : {base ours theirs : FileList} {tag : List ℕ} → MayMerge base ours theirs tag → length (conflicts base ours theirs) ≤ 100000
few_conflicts {base} {ours} {theirs} may = omega (arith, may.ours_whole.count, fewer (λ f. is_conflict (text_at base f.0) (Some f.1) (text_at theirs f.0)) ours)

pub few_doubled : {base ours theirs : FileList} {tag : List ℕ} → MayMerge base ours theirs tag → (doubled : FileList) → AreTagged base ours theirs tag [] (conflicts base ours theirs) doubled → length doubled ≤ 100000
few_doubled {base} {ours} {theirs} {tag} may doubled are = omega (arith, few_conflicts may, as_many base ours theirs tag [] (conflicts base ours theirs) doubled are)

pub few_directories : {base ours theirs : FileList} {tag : List ℕ} → MayMerge base ours theirs tag → (doubled settled : FileList) → length doubled ≤ 100000 → Rises (keys_of settled)
    → ((path : List ℕ) → text_at settled path ≡ option_or (text_at doubled path) (settled_at base ours theirs path)) → length (directories settled) ≤ 300000
few_directories {base} {ours} {theirs} may doubled settled few rise are =
    omega (arith, may.ours_whole.count, may.theirs_whole.count, few_settled base ours theirs doubled settled rise are, fewer (λ f. list_any (λ g. is_directory_of f.0 g.0) settled) settled)

pub few_names : {base ours theirs : FileList} {tag : List ℕ} → MayMerge base ours theirs tag → (files : FileList) (merge : IsMerge base ours theirs tag files) → length (names_of merge) ≤ 400000
few_names {base} {ours} {theirs} {tag} may files m =
    let few = few_doubled may m.doubled m.are_doubled in
    let moved : length m.moved ≤ 300000 = omega (arith, as_many base ours theirs tag (keys_of m.doubled) (directories m.settled) m.moved m.are_moved, few_directories may m.doubled m.settled few m.settled_rise m.are_settled) in
    omega (arith, length-append (keys_of m.doubled) (keys_of m.moved), length-map m.doubled (λ (f : List ℕ × List ℕ). f.0), length-map m.moved (λ (f : List ℕ × List ℕ). f.0))

-- ---- the merge

pub has_merge : TreeLaws → {base ours theirs : FileList} {tag : List ℕ} → MayMerge base ours theirs tag → (files : FileList) × IsMerge base ours theirs tag files
has_merge laws {base} {ours} {theirs} {tag} may =
    let d = has_names laws may (conflicts base ours theirs) [] (omega (arith, few_conflicts may)) in
    let few = few_doubled may d.named d.are in
    let s = has_settled laws base ours theirs d.named in
    let m = has_names laws may (directories s.settled) (keys_of d.named) (omega (arith, few, few_directories may d.named s.settled few s.rise s.are, length-map d.named (λ (f : List ℕ × List ℕ). f.0))) in
    let f = has_files laws s.settled m.named in (
      f.files,
      record { doubled = d.named; settled = s.settled; moved = m.named; are_doubled = d.are; settled_rise = s.rise; are_settled = s.are; are_moved = m.are; rise = f.rise; are_files = f.are },
    )
