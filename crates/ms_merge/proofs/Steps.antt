-- One row more: what stands once it was looked at.
use Rattle.std.proofs.Common.{◌≡◌, ℕ, ◌+◌, ◌<◌, ◌≤◌, Bool, true, false, cond, ◌||◌, if◌then◌else◌, List, [], ◌∷◌, ◌++◌, length, map, take, get_or, take_all, Some, None, is_some, refl, sym, ◌∙◌, ap, subst, append-nil}
use Rattle.std.specs.Option.{option_or}
use Rattle.std.specs.Str.{bytes_eq}
use Rattle.std.proofs.lemmas.Bool.{false≢true}
use Rattle.std.proofs.lemmas.List.{take_more, map-append}
use Rattle.std.proofs.lemmas.List.Elements.{filter-append}
use Rattle.std.proofs.lemmas.Slice.Eq.{bytes_eq-Decides}
use Rattle.ms_tree.specs.declared.files.FileRef.{FileRef}
use Rattle.ms_tree.specs.declared.draft.DraftFile.{DraftFile}
use Rattle.ms_tree.specs.DraftFiles.{drafted}
use Rattle.ms_tree.specs.Files.{FileList, text_at}
use Rattle.ms_tree.specs.Merging.{Side, is_conflict, conflicts}
use Rattle.ms_merge.specs.Settling.{settled_at, Settles, Removes}

-- what stands at a path of a list with one file more
pub text_more : (files : FileList) (f : List ℕ × List ℕ) (path : List ℕ) → text_at (files ++ f ∷ []) path ≡ option_or (text_at files path) (if bytes_eq path f.0 then Some f.1 else None)
text_more [] f path = refl
text_more (g ∷ files) f path = by (bytes_eq path g.0) (text_more files f path)
  where
    by : (b : Bool) → text_at (files ++ f ∷ []) path ≡ option_or (text_at files path) (if bytes_eq path f.0 then Some f.1 else None)
        → cond b (Some g.1) (text_at (files ++ f ∷ []) path) ≡ option_or (cond b (Some g.1) (text_at files path)) (if bytes_eq path f.0 then Some f.1 else None)
    by true r = refl
    by false r = r

has_more : (one : Side) (b : Bool) (text : List ℕ) → is_some (option_or one (if b then Some text else None)) ≡ (is_some one || b)
has_more None true text = refl
has_more None false text = refl
has_more (Some x) b text = refl

-- the first rows, and one more
pub shown_more : {X : Type 0} (shown : X → List ℕ × List ℕ) (rows : List X) (place : ℕ) (d : X) → place < length rows → map shown (take (place + 1) rows) ≡ map shown (take place rows) ++ shown (get_or rows place d) ∷ []
shown_more shown rows place d there = ap (map shown) (take_more rows place d there) ∙ map-append shown (take place rows) (get_or rows place d ∷ [])

-- the same of a row that is read
pub shown_item : {X : Type 0} (shown : X → List ℕ × List ℕ) (rows : List X) (place : ℕ) (x : X) → place < length rows → x ≡ get_or rows place x → map shown (take (place + 1) rows) ≡ map shown (take place rows) ++ shown x ∷ []
shown_item {X} shown rows place x there is = shown_more shown rows place x there ∙ ap (λ (y : X). map shown (take place rows) ++ shown y ∷ []) (sym is)

pub shown_all : {X : Type 0} (shown : X → List ℕ × List ℕ) (rows : List X) (place : ℕ) → length rows ≤ place → map shown (take place rows) ≡ map shown rows
shown_all shown rows place all = ap (map shown) (take_all place rows all)

-- a row of files
abbrev pub shown : FileRef → List ℕ × List ℕ
shown row = (row.path.now, row.text.now)

-- what a loop shows where there is no row
abbrev pub no_row : FileRef
no_row = record { path = record { ref_ptr = (0, 0); now = [] }; text = record { ref_ptr = (0, 0); now = [] } }

-- ---- what paths give

pub settles_none : (base ours theirs old : FileList) → Settles base ours theirs [] old old
settles_none base ours theirs old = record { there = λ path. refl }

settle_at : (here : Bool) (b : Bool) (gives old before new : Side) → before ≡ (if here then option_or gives old else old) → new ≡ (if b then option_or gives before else before)
    → new ≡ (if here || b then option_or gives old else old)
settle_at true true (Some x) old before new e f = f
settle_at true true None old before new e f = f ∙ e
settle_at true false gives old before new e f = f ∙ e
settle_at false true gives old before new e f = f ∙ ap (option_or gives) e
settle_at false false gives old before new e f = f ∙ e

pub settles_more : (base ours theirs rows more old before new : FileList) (f : List ℕ × List ℕ) → Settles base ours theirs rows old before → more ≡ rows ++ f ∷ []
    → ((path : List ℕ) → text_at new path ≡ (if bytes_eq path f.0 then option_or (settled_at base ours theirs path) (text_at before path) else text_at before path)) → Settles base ours theirs more old new
settles_more base ours theirs rows more old before new f s grown step = record {
  there = λ path.
      let has : is_some (text_at more path) ≡ (is_some (text_at rows path) || bytes_eq path f.0) =
      ap (λ (l : FileList). is_some (text_at l path)) grown ∙ ap (λ (o : Side). is_some o) (text_more rows f path) ∙ has_more (text_at rows path) (bytes_eq path f.0) f.1 in
      rw has (settle_at (is_some (text_at rows path)) (bytes_eq path f.0) (settled_at base ours theirs path) (text_at old path) (text_at before path) (text_at new path) (s.there path) (step path));
}

pub settles_all : (base ours theirs old new : FileList) (rows : List FileRef) (place : ℕ) → Settles base ours theirs (map shown (take place rows)) old new → length rows ≤ place → Settles base ours theirs (map shown rows) old new
settles_all base ours theirs old new rows place s all = subst (λ (l : FileList). Settles base ours theirs l old new) (shown_all shown rows place all) s

-- ---- conflicts

pub conflict_is : (base theirs : FileList) (path text : List ℕ) (one other : Side) (said b : Bool) → said ≡ is_conflict one (Some text) other → one ≡ text_at base path → other ≡ text_at theirs path → said ≡ b
    → is_conflict (text_at base path) (Some text) (text_at theirs path) ≡ b
conflict_is base theirs path text one other said b h e f is = ap (λ (o : Side). is_conflict o (Some text) (text_at theirs path)) (sym e) ∙ ap (λ (o : Side). is_conflict one (Some text) o) (sym f) ∙ sym h ∙ is

pub conflicts_none : (base theirs : FileList) (found : List DraftFile) → found ≡ [] → map drafted found ≡ conflicts base [] theirs
conflicts_none base theirs found none = ap (map drafted) none

conflicts_push : (base theirs rows : FileList) (f : List ℕ × List ℕ) (b : Bool) → is_conflict (text_at base f.0) (Some f.1) (text_at theirs f.0) ≡ b
    → conflicts base (rows ++ f ∷ []) theirs ≡ conflicts base rows theirs ++ (if b then f ∷ [] else [])
conflicts_push base theirs rows f b e = filter-append (λ g. is_conflict (text_at base g.0) (Some g.1) (text_at theirs g.0)) rows (f ∷ []) ∙ ap (λ (c : Bool). conflicts base rows theirs ++ (if c then f ∷ [] else [])) e

pub conflicts_more : (base theirs rows more : FileList) (f : List ℕ × List ℕ) (found new : List DraftFile) (file : DraftFile) → map drafted found ≡ conflicts base rows theirs → more ≡ rows ++ f ∷ []
    → is_conflict (text_at base f.0) (Some f.1) (text_at theirs f.0) ≡ true → drafted file ≡ f → new ≡ found ++ file ∷ [] → map drafted new ≡ conflicts base more theirs
conflicts_more base theirs rows more f found new file are grown here is pushed =
    ap (map drafted) pushed ∙ map-append drafted found (file ∷ []) ∙ ap (λ (l : FileList). l ++ drafted file ∷ []) are ∙ ap (λ (g : List ℕ × List ℕ). conflicts base rows theirs ++ g ∷ []) is
    ∙ sym (conflicts_push base theirs rows f true here) ∙ ap (λ (l : FileList). conflicts base l theirs) (sym grown)

pub conflicts_other : (base theirs rows more : FileList) (f : List ℕ × List ℕ) (found : List DraftFile) → map drafted found ≡ conflicts base rows theirs → more ≡ rows ++ f ∷ []
    → is_conflict (text_at base f.0) (Some f.1) (text_at theirs f.0) ≡ false → map drafted found ≡ conflicts base more theirs
conflicts_other base theirs rows more f found are grown here =
    are ∙ sym (append-nil (conflicts base rows theirs)) ∙ sym (conflicts_push base theirs rows f false here) ∙ ap (λ (l : FileList). conflicts base l theirs) (sym grown)

pub conflicts_all : (base ours theirs : FileList) (found : List DraftFile) (rows : List FileRef) (place : ℕ) → map drafted found ≡ conflicts base (map shown (take place rows)) theirs → map shown rows ≡ ours → length rows ≤ place
    → map drafted found ≡ conflicts base ours theirs
conflicts_all base ours theirs found rows place are is all = are ∙ ap (λ (l : FileList). conflicts base l theirs) (shown_all shown rows place all ∙ is)

-- ---- what is taken away

pub removes_none : (old : FileList) → Removes [] old old
removes_none old = record { there = λ path. refl }

remove_at : (here b : Bool) (old before new : Side) → before ≡ (if here then None else old) → new ≡ (if b then None else before) → new ≡ (if here || b then None else old)
remove_at true true old before new e f = f
remove_at true false old before new e f = f ∙ e
remove_at false true old before new e f = f
remove_at false false old before new e f = f ∙ e

same_way : (x y : List ℕ) → bytes_eq x y ≡ bytes_eq y x
same_way x y = by (bytes_eq x y) refl (bytes_eq y x) refl
  where
    by : (a : Bool) → bytes_eq x y ≡ a → (b : Bool) → bytes_eq y x ≡ b → a ≡ b
    by true e true f = refl
    by false e false f = refl
    by true e false f = absurd (false≢true (sym f ∙ (bytes_eq-Decides y x).1 (sym ((bytes_eq-Decides x y).0 e))))
    by false e true f = absurd (false≢true (sym e ∙ (bytes_eq-Decides x y).1 (sym ((bytes_eq-Decides y x).0 f))))

pub removes_more : (rows more old before new : FileList) (f : List ℕ × List ℕ) → Removes rows old before → more ≡ rows ++ f ∷ []
    → ((path : List ℕ) → text_at new path ≡ (if bytes_eq f.0 path then None else text_at before path)) → Removes more old new
removes_more rows more old before new f s grown step = record {
  there = λ path.
      let has : is_some (text_at more path) ≡ (is_some (text_at rows path) || bytes_eq path f.0) =
      ap (λ (l : FileList). is_some (text_at l path)) grown ∙ ap (λ (o : Side). is_some o) (text_more rows f path) ∙ has_more (text_at rows path) (bytes_eq path f.0) f.1 in
      rw has (remove_at (is_some (text_at rows path)) (bytes_eq path f.0) (text_at old path) (text_at before path) (text_at new path) (s.there path) (step path ∙ ap (λ (b : Bool). if b then None else text_at before path) (same_way f.0 path)));
}

pub removes_all : (old new : FileList) (files : List DraftFile) (place : ℕ) → Removes (map drafted (take place files)) old new → length files ≤ place → Removes (map drafted files) old new
removes_all old new files place s all = subst (λ (l : FileList). Removes l old new) (shown_all drafted files place all) s
