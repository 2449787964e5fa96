-- The steps of a merge together.
use Rattle.std.proofs.Common.{◌≡◌, ℕ, ◌+◌, ◌≤◌, if◌then◌else◌, List, [], ◌++◌, length, map, Some, None, is_some, Err, refl, sym, ◌∙◌, ap, subst, arith}
use Rattle.std.specs.Ordering.{nat_cmp}
use Rattle.std.specs.Cmp.Lexicographic.{slice_cmp}
use Rattle.std.specs.List.Sorted.{IsStrictlySortedBy}
use Rattle.std.specs.Map.{keys_of}
use Rattle.std.specs.Option.{option_or}
use Rattle.std.proofs.lemmas.List.{map-append, length-map}
use Rattle.ms_record.specs.declared.refusal.Refusal.{Refusal}
use Rattle.ms_record.specs.declared.refusal.Refusal.TheVariants as refusals
use Rattle.ms_tree.specs.declared.draft.DraftFile.{DraftFile}
use Rattle.ms_tree.specs.DraftFiles.{drafted}
use Rattle.ms_tree.specs.Files.{FileList, text_at, IsFiles}
use Rattle.ms_tree.specs.Merging.{Side, standing, conflicts, directories, AreTagged, MayMerge, IsMerge, names_of, IsMerged, KeepsLimits, PassesLimit, Merges}
use Rattle.ms_merge.specs.Settling.{settled_at, Settles, Removes, HasMerged}
use Rattle.ms_merge.specs.Naming.{IsNamed}
use Rattle.ms_merge.specs.Passing.{Fits}
use Rattle.ms_merge.proofs.Existing.{few_conflicts, few_doubled, few_directories}

-- where ours and theirs have nothing, nothing stands
or_none : (gives : Side) → option_or gives None ≡ gives
or_none None = refl
or_none (Some x) = refl

twice : (gives : Side) → option_or gives (option_or gives None) ≡ gives
twice None = refl
twice (Some x) = refl

both_sides : (base ours theirs : Side) → (if is_some theirs then option_or (standing base ours theirs) (if is_some ours then option_or (standing base ours theirs) None else None) else (if is_some ours then option_or (standing base ours theirs) None else None)) ≡ standing base ours theirs
both_sides base None None = by base
  where
    by : (base : Side) → None ≡ standing base None None
    by None = refl
    by (Some x) = refl
both_sides base (Some o) None = or_none (standing base (Some o) None)
both_sides base None (Some t) = or_none (standing base None (Some t))
both_sides base (Some o) (Some t) = twice (standing base (Some o) (Some t))

pub settled_both : (base ours theirs start one both : FileList) → start ≡ [] → Settles base ours theirs ours start one → Settles base ours theirs theirs one both → (path : List ℕ) → text_at both path ≡ settled_at base ours theirs path
settled_both base ours theirs start one both none s t path =
    let first : text_at one path ≡ (if is_some (text_at ours path) then option_or (settled_at base ours theirs path) None else None) =
    s.there path ∙ ap (λ (l : FileList). if is_some (text_at ours path) then option_or (settled_at base ours theirs path) (text_at l path) else text_at l path) none in
    t.there path ∙ ap (λ (o : Side). if is_some (text_at theirs path) then option_or (settled_at base ours theirs path) o else o) first
    ∙ both_sides (text_at base path) (text_at ours path) (text_at theirs path)

pub merged : (base ours theirs : FileList) (tag : List ℕ) (given more both settled left files : FileList) → ((path : List ℕ) → text_at both path ≡ settled_at base ours theirs path)
    → (doubled : IsNamed base ours theirs tag (conflicts base ours theirs) [] given both settled) → IsStrictlySortedBy (slice_cmp nat_cmp) (keys_of settled) → Removes (directories settled) settled left
    → (moved : IsNamed base ours theirs tag (directories settled) given more left files) → IsStrictlySortedBy (slice_cmp nat_cmp) (keys_of files) → IsMerge base ours theirs tag files
merged base ours theirs tag given more both settled left files stands doubled settled_rise removed moved rise = record {
  doubled = doubled.named;
  settled = settled;
  moved = moved.named;
  are_doubled = doubled.are;
  settled_rise = settled_rise;
  are_settled = λ path. doubled.there path ∙ ap (option_or (text_at doubled.named path)) (stands path);
  are_moved = subst (λ (l : FileList). AreTagged base ours theirs tag (keys_of l) (directories settled) moved.named) doubled.is moved.are;
  rise = rise;
  are_files = λ path. moved.there path ∙ ap (option_or (text_at moved.named path)) (removed.there path);
}

pub merged_names : (base ours theirs : FileList) (tag : List ℕ) (given more both settled left files : FileList) (stands : (path : List ℕ) → text_at both path ≡ settled_at base ours theirs path)
    (doubled : IsNamed base ours theirs tag (conflicts base ours theirs) [] given both settled) (settled_rise : IsStrictlySortedBy (slice_cmp nat_cmp) (keys_of settled)) (removed : Removes (directories settled) settled left)
    (moved : IsNamed base ours theirs tag (directories settled) given more left files) (rise : IsStrictlySortedBy (slice_cmp nat_cmp) (keys_of files))
    → names_of (merged base ours theirs tag given more both settled left files stands doubled settled_rise removed moved rise) ≡ keys_of more
unfolding merged
merged_names base ours theirs tag given more both settled left files stands doubled settled_rise removed moved rise =
    sym (ap keys_of (moved.is ∙ ap (λ (l : FileList). l ++ moved.named) doubled.is) ∙ map-append (λ (f : List ℕ × List ℕ). f.0) doubled.named moved.named)

pub settled_rows : (base ours theirs one_rows other_rows start one both : FileList) → start ≡ [] → one_rows ≡ ours → other_rows ≡ theirs → Settles base ours theirs one_rows start one → Settles base ours theirs other_rows one both
    → (path : List ℕ) → text_at both path ≡ settled_at base ours theirs path
settled_rows base ours theirs one_rows other_rows start one both none e f s t =
    settled_both base ours theirs start one both none (subst (λ (l : FileList). Settles base ours theirs l start one) e s) (subst (λ (l : FileList). Settles base ours theirs l one both) f t)

pub has_merged : (base ours theirs : FileList) (tag : List ℕ) (doubled removed moved before given more both settled left files : FileList) → ((path : List ℕ) → text_at both path ≡ settled_at base ours theirs path)
    → doubled ≡ conflicts base ours theirs → before ≡ [] → IsNamed base ours theirs tag doubled before given both settled → IsStrictlySortedBy (slice_cmp nat_cmp) (keys_of settled)
    → removed ≡ directories settled → Removes removed settled left → moved ≡ directories settled → IsNamed base ours theirs tag moved given more left files → IsStrictlySortedBy (slice_cmp nat_cmp) (keys_of files)
    → HasMerged base ours theirs tag files more
has_merged base ours theirs tag doubled removed moved before given more both settled left files stands d none named settled_rise r gone m last rise =
    let first : IsNamed base ours theirs tag (conflicts base ours theirs) [] given both settled =
    subst (λ (l : FileList). IsNamed base ours theirs tag (conflicts base ours theirs) l given both settled) none (subst (λ (l : FileList). IsNamed base ours theirs tag l before given both settled) d named) in
    let gone' : Removes (directories settled) settled left = subst (λ (l : FileList). Removes l settled left) r gone in
    let last' : IsNamed base ours theirs tag (directories settled) given more left files = subst (λ (l : FileList). IsNamed base ours theirs tag l given more left files) m last in
    record {
      merge = merged base ours theirs tag given more both settled left files stands first settled_rise gone' last' rise;
      names_are = merged_names base ours theirs tag given more both settled left files stands first settled_rise gone' last' rise;
    }

-- ---- room for all names

pub room_for_doubled : {base ours theirs : FileList} {tag : List ℕ} → MayMerge base ours theirs tag → (before doubled : List DraftFile) → before ≡ [] → map drafted doubled ≡ conflicts base ours theirs → length before + length doubled ≤ 2147483648
room_for_doubled may before doubled none are =
    let n = sym (length-map doubled drafted) ∙ ap length are in
    let zero : length before ≡ 0 = ap length none in
    omega (arith, zero, n, few_conflicts may)

pub room_for_moved : {base ours theirs : FileList} {tag : List ℕ} → MayMerge base ours theirs tag → (doubled before : FileList) (given moved : List DraftFile) (both settled : FileList) → ((path : List ℕ) → text_at both path ≡ settled_at base ours theirs path)
    → doubled ≡ conflicts base ours theirs → before ≡ [] → IsNamed base ours theirs tag doubled before (map drafted given) both settled → IsStrictlySortedBy (slice_cmp nat_cmp) (keys_of settled)
    → map drafted moved ≡ directories settled → length given + length moved ≤ 2147483648
room_for_moved {base} {ours} {theirs} {tag} may doubled before given moved both settled stands d none named rise are =
    let first : IsNamed base ours theirs tag (conflicts base ours theirs) [] (map drafted given) both settled =
    subst (λ (l : FileList). IsNamed base ours theirs tag (conflicts base ours theirs) l (map drafted given) both settled) none (subst (λ (l : FileList). IsNamed base ours theirs tag l before (map drafted given) both settled) d named) in
    let few = few_doubled may first.named first.are in
    let more = few_directories may first.named settled few rise (λ path. first.there path ∙ ap (option_or (text_at first.named path)) (stands path)) in
    let one = sym (length-map given drafted) ∙ ap length first.is in
    let other = sym (length-map moved drafted) ∙ ap length are in
    omega (arith, few, more, one, other)

-- the same files and names
pub same_merged : (base ours theirs : FileList) (tag : List ℕ) (files names others other_names : FileList) → HasMerged base ours theirs tag others other_names → files ≡ others → names ≡ other_names → HasMerged base ours theirs tag files names
same_merged base ours theirs tag files names others other_names h e f =
    subst (λ (l : FileList). HasMerged base ours theirs tag l names) (sym e) (subst (λ (l : FileList). HasMerged base ours theirs tag others l) (sym f) h)

-- ---- what is answered

-- what was judged is kept by the merge
pub judged_fit : (base ours theirs : FileList) (tag : List ℕ) (files names rows named : FileList) (h : HasMerged base ours theirs tag files names) → rows ≡ files → named ≡ names → KeepsLimits rows (keys_of named) → KeepsLimits files (names_of h.merge)
judged_fit base ours theirs tag files names rows named h e f fits =
    subst (λ (l : List (List ℕ)). KeepsLimits files l) (ap keys_of f ∙ sym h.names_are) (subst (λ (l : FileList). KeepsLimits l (keys_of named)) e fits)

pub refused : (base ours theirs : FileList) (tag : List ℕ) (files names rows named : FileList) → HasMerged base ours theirs tag files names → rows ≡ files → named ≡ names → (e : Refusal) → Fits rows (keys_of named) (Err e) → Merges base ours theirs tag (Err e)
refused base ours theirs tag files names rows named h e f (refusals.Limit what value) passed =
    (files, h.merge, subst (λ (l : List (List ℕ)). PassesLimit files l what value) (ap keys_of f ∙ sym h.names_are) (subst (λ (l : FileList). PassesLimit l (keys_of named) what value) e passed))
refused base ours theirs tag files names rows named h e f refusals.NoMemory passed = tt
refused base ours theirs tag files names rows named h e f other passed = absurd passed

pub answered : (base ours theirs : FileList) (tag : List ℕ) (files names answer : FileList) → HasMerged base ours theirs tag files names → IsFiles files → answer ≡ files → IsMerged base ours theirs tag answer
answered base ours theirs tag files names answer h whole e = subst (λ (l : FileList). IsMerged base ours theirs tag l) (sym e) (record { merge = h.merge; whole = whole })
