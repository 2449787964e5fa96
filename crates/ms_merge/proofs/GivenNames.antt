-- Names that are given, one after the other.
use Rattle.std.proofs.Common.{◌≡◌, ℕ, ◌<◌, ◌≤◌, Bool, true, false, not, ◌||◌, if◌then◌else◌, List, [], ◌∷◌, ◌++◌, map, take, length, Some, None, is_some, refl, sym, ◌∙◌, ap, subst, append_assoc, append-nil, length-append, arith, suc, ◌+◌}
use Rattle.std.specs.List.{list_any}
use Rattle.std.specs.Map.{keys_of}
use Rattle.std.specs.Option.{option_or}
use Rattle.std.specs.Str.{bytes_eq}
use Rattle.std.proofs.lemmas.Bool.{false≢true}
use Rattle.std.proofs.lemmas.List.{map-append, length-map, length-take}
use Rattle.std.proofs.lemmas.List.Folds.{list_any-append}
use Rattle.std.proofs.lemmas.Map.Made.{is_some-lookup}
use Rattle.std.proofs.lemmas.Slice.Eq.{bytes_eq-Decides}
use Rattle.ms_tree.specs.declared.draft.DraftFile.{DraftFile}
use Rattle.ms_tree.specs.DraftFiles.{drafted}
use Rattle.ms_tree.specs.Files.{FileList, text_at}
use Rattle.ms_tree.specs.Merging.{Side, tagged, is_taken, is_free, IsTagged, AreTagged}
use Rattle.ms_merge.specs.Naming.{IsGiven, IsNamed}
use Rattle.ms_merge.proofs.Steps.{text_more, shown_all}

-- ---- the first name that is free

pub free_is : (base ours theirs : FileList) (given : List (List ℕ)) (said name wanted : List ℕ) (b r : Bool) → b ≡ is_free base ours theirs given said → said ≡ name → name ≡ wanted → b ≡ r
    → is_free base ours theirs given wanted ≡ r
free_is base ours theirs given said name wanted b r h e f is = ap (is_free base ours theirs given) (sym (e ∙ f)) ∙ sym h ∙ is

pub tagged_first : (base ours theirs : FileList) (given : List (List ℕ)) (tag path said name : List ℕ) (number : ℕ) (b : Bool) → b ≡ is_free base ours theirs given said → said ≡ name → name ≡ tagged tag path number → b ≡ true
    → ((k : ℕ) → k < number → is_free base ours theirs given (tagged tag path k) ≡ false) → IsTagged base ours theirs tag given path name
tagged_first base ours theirs given tag path said name number b h e f is first = record { number = number; spelled = f; free = ap (is_free base ours theirs given) (sym e) ∙ sym h ∙ is; first = first }

-- ---- one name more

pub tagged_push : (base ours theirs : FileList) (tag : List ℕ) (files named : FileList) (given : List (List ℕ)) (f n : List ℕ × List ℕ) → AreTagged base ours theirs tag given files named
    → IsTagged base ours theirs tag (given ++ keys_of named) f.0 n.0 → n.1 ≡ f.1 → AreTagged base ours theirs tag given (files ++ f ∷ []) (named ++ n ∷ [])
tagged_push base ours theirs tag [] [] given f n are is text = (subst (λ (l : List (List ℕ)). IsTagged base ours theirs tag l f.0 n.0) (append-nil given) is, text, tt)
tagged_push base ours theirs tag [] (m ∷ named) given f n are is text = absurd are
tagged_push base ours theirs tag (g ∷ files) [] given f n are is text = absurd are
tagged_push base ours theirs tag (g ∷ files) (m ∷ named) given f n are is text =
    (are.0, are.1, tagged_push base ours theirs tag files named (given ++ m.0 ∷ []) f n are.2 (subst (λ (l : List (List ℕ)). IsTagged base ours theirs tag l f.0 n.0) (sym (append_assoc given (m.0 ∷ []) (keys_of named))) is) text)

-- each file has its name
pub as_many : (base ours theirs : FileList) (tag : List ℕ) (given : List (List ℕ)) (files named : FileList) → AreTagged base ours theirs tag given files named → length named ≡ length files
as_many base ours theirs tag given [] [] are = refl
as_many base ours theirs tag given [] (n ∷ named) are = absurd are
as_many base ours theirs tag given (f ∷ files) [] are = absurd are
as_many base ours theirs tag given (f ∷ files) (n ∷ named) are = ap suc (as_many base ours theirs tag (given ++ n.0 ∷ []) files named are.2)

neither : (a b : Bool) → (a || b) ≡ false → (a ≡ false) × (b ≡ false)
neither false false h = (refl, refl)
neither false true h = absurd (false≢true (sym h))
neither true b h = absurd (false≢true (sym h))

none_of_four : (a b c d : Bool) → not (a || (b || (c || d))) ≡ true → d ≡ false
none_of_four true b c d h = absurd (false≢true h)
none_of_four false true c d h = absurd (false≢true h)
none_of_four false false true d h = absurd (false≢true h)
none_of_four false false false true h = absurd (false≢true h)
none_of_four false false false false h = refl

is_none : (o : Side) → is_some o ≡ false → o ≡ None
is_none None h = refl
is_none (Some x) h = absurd (false≢true (sym h))

-- nothing has a name that is free
none_yet : (base ours theirs given named : FileList) (name : List ℕ) → is_free base ours theirs (keys_of (given ++ named)) name ≡ true → text_at named name ≡ None
none_yet base ours theirs given named name free =
    let away : list_any (bytes_eq name) (keys_of (given ++ named)) ≡ false = none_of_four (is_taken base name) (is_taken ours name) (is_taken theirs name) (list_any (bytes_eq name) (keys_of (given ++ named))) free in
    let both : (list_any (bytes_eq name) (keys_of given) || list_any (bytes_eq name) (keys_of named)) ≡ false =
    sym (list_any-append (bytes_eq name) (keys_of given) (keys_of named)) ∙ ap (list_any (bytes_eq name)) (sym (map-append (λ (f : List ℕ × List ℕ). f.0) given named)) ∙ away in
    is_none (text_at named name) (is_some-lookup (bytes_eq name) named ∙ (neither _ _ both).1)

pub named_none : (base ours theirs : FileList) (tag : List ℕ) (given old : FileList) → IsNamed base ours theirs tag [] given given old old
named_none base ours theirs tag given old = record { named = []; is = sym (append-nil given); are = tt; there = λ path. refl }

put_at : (b : Bool) (has old before new : Side) (text : List ℕ) → (b ≡ true → has ≡ None) → before ≡ option_or has old → new ≡ (if b then Some text else before) → new ≡ option_or (option_or has (if b then Some text else None)) old
put_at true None old before new text none e f = f
put_at true (Some x) old before new text none e f = absurd (let q : Some x ≡ None = none refl in cc)
put_at false None old before new text none e f = f ∙ e
put_at false (Some x) old before new text none e f = f ∙ e

pub named_more : (base ours theirs : FileList) (tag : List ℕ) (files more given before_given after_given old before new : FileList) (f : List ℕ × List ℕ) (name : List ℕ) → IsNamed base ours theirs tag files given before_given old before
    → IsTagged base ours theirs tag (keys_of before_given) f.0 name → ((path : List ℕ) → text_at new path ≡ (if bytes_eq path name then Some f.1 else text_at before path))
    → more ≡ files ++ f ∷ [] → after_given ≡ before_given ++ (name, f.1) ∷ [] → IsNamed base ours theirs tag more given after_given old new
named_more base ours theirs tag files more given before_given after_given old before new f name n is put grown pushed =
    let keys : keys_of before_given ≡ keys_of given ++ keys_of n.named = ap keys_of n.is ∙ map-append (λ (g : List ℕ × List ℕ). g.0) given n.named in
    let free : is_free base ours theirs (keys_of (given ++ n.named)) name ≡ true = subst (λ (l : FileList). is_free base ours theirs (keys_of l) name ≡ true) n.is is.free in
    record {
      named = n.named ++ (name, f.1) ∷ [];
      is = pushed ∙ ap (λ (l : FileList). l ++ (name, f.1) ∷ []) n.is ∙ append_assoc given n.named ((name, f.1) ∷ []);
      are = subst (λ (l : FileList). AreTagged base ours theirs tag (keys_of given) l (n.named ++ (name, f.1) ∷ [])) (sym grown)
          (tagged_push base ours theirs tag files n.named (keys_of given) f (name, f.1) n.are (subst (λ (l : List (List ℕ)). IsTagged base ours theirs tag l f.0 name) keys is) refl);
      there = λ path.
          put_at (bytes_eq path name) (text_at n.named path) (text_at old path) (text_at before path) (text_at new path) f.1
          (λ e. ap (text_at n.named) ((bytes_eq-Decides path name).0 e) ∙ none_yet base ours theirs given n.named name free) (n.there path) (put path)
          ∙ ap (λ (o : Side). option_or o (text_at old path)) (sym (text_more n.named (name, f.1) path));
    }

given_at : (has b : Bool) (before new : Side) (text : List ℕ) → is_some before ≡ has → new ≡ (if b then Some text else before) → is_some new ≡ (has || (b || false))
given_at true true before new text e f = ap (λ (o : Side). is_some o) f
given_at true false before new text e f = ap (λ (o : Side). is_some o) f ∙ e
given_at false true before new text e f = ap (λ (o : Side). is_some o) f
given_at false false before new text e f = ap (λ (o : Side). is_some o) f ∙ e

pub given_more : (by_name order new more : FileList) (name text : List ℕ) → IsGiven by_name order → ((path : List ℕ) → text_at new path ≡ (if bytes_eq path name then Some text else text_at by_name path)) → more ≡ order ++ (name, text) ∷ []
    → IsGiven new more
given_more by_name order new more name text g put pushed = record {
  same = λ path.
      given_at (list_any (bytes_eq path) (keys_of order)) (bytes_eq path name) (text_at by_name path) (text_at new path) text (g.same path) (put path)
      ∙ sym (list_any-append (bytes_eq path) (keys_of order) (name ∷ []))
      ∙ ap (list_any (bytes_eq path)) (sym (ap keys_of pushed ∙ map-append (λ (f : List ℕ × List ℕ). f.0) order ((name, text) ∷ [])));
}

pub named_all : (base ours theirs : FileList) (tag : List ℕ) (given more old new : FileList) (files : List DraftFile) (place : ℕ) → IsNamed base ours theirs tag (map drafted (take place files)) given more old new → length files ≤ place
    → IsNamed base ours theirs tag (map drafted files) given more old new
named_all base ours theirs tag given more old new files place n all = subst (λ (l : FileList). IsNamed base ours theirs tag l given more old new) (shown_all drafted files place all) n

-- ---- how many there are

pub length-names : (files : List DraftFile) → length (keys_of (map drafted files)) ≡ length files
length-names files = length-map (map drafted files) (λ (f : List ℕ × List ℕ). f.0) ∙ length-map files drafted

-- there is room for the next name
pub room : (base ours theirs : FileList) (tag : List ℕ) (files before after : List DraftFile) (place : ℕ) (old new : FileList) → IsNamed base ours theirs tag (map drafted (take place files)) (map drafted before) (map drafted after) old new
    → length before + length files ≤ 2147483648 → length after ≤ 2147483648
room base ours theirs tag files before after place old new n few =
    let all : length (map drafted after) ≡ length (map drafted before ++ n.named) = ap length n.is in
    omega (
      arith,
      all,
      length-append (map drafted before) n.named,
      as_many base ours theirs tag (keys_of (map drafted before)) (map drafted (take place files)) n.named n.are,
      length-map (take place files) drafted,
      length-map before drafted,
      length-map after drafted,
      length-take place files,
    )
