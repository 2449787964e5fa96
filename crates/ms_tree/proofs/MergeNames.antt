-- Names that a merge gives: each has its file, and each file has its name.
use Rattle.std.proofs.Common.{◌≡◌, ℕ, ◌<◌, Bool, true, false, cond, not, ◌||◌, List, [], ◌∷◌, ◌++◌, Contains, Option, Some, None, IsSome, is_some, refl, sym, ◌∙◌, ap, subst, inl, inr, arith}
use Rattle.std.specs.List.{list_any}
use Rattle.std.specs.Str.{bytes_eq}
use Rattle.std.proofs.lemmas.Bool.{false≢true, cases_lt}
use Rattle.std.proofs.lemmas.List.Folds.{list_any-append}
use Rattle.std.proofs.lemmas.Slice.Eq.{bytes_eq-Decides}
use Rattle.ms_base.specs.Places.{in_here, in_later, in_cases, in_none}
use Rattle.ms_tree.specs.Paths.{is_directory_of, IsDirectoryOf}
use Rattle.ms_tree.specs.Files.{FileList, text_at}
use Rattle.ms_tree.specs.Merging.{tagged, is_taken, is_free, IsTagged, AreTagged}
use Rattle.ms_tree.proofs.PathLaws.{directory_Decides}
use Rattle.ms_tree.proofs.FileLaws.{none_at}

-- ---- a name that is free

neither : (a b : Bool) → (a || b) ≡ false → (a ≡ false) × (b ≡ false)
neither false false h = (refl, refl)
neither false true h = absurd (false≢true (sym h))
neither true b h = absurd (false≢true (sym h))

none_of_four : (a b c d : Bool) → not (a || (b || (c || d))) ≡ true → (a ≡ false) × (b ≡ false) × (c ≡ false) × (d ≡ false)
none_of_four true b c d h = absurd (false≢true h)
none_of_four false true c d h = absurd (false≢true h)
none_of_four false false true d h = absurd (false≢true h)
none_of_four false false false true h = absurd (false≢true h)
none_of_four false false false false h = (refl, refl, refl, refl)

is_none : (o : Option (List ℕ)) → is_some o ≡ false → o ≡ None
is_none None h = refl
is_none (Some x) h = absurd (false≢true (sym h))

-- no path of the files, and no directory of one
pub record IsOutside (files : FileList) (name : List ℕ) : Type 0 where
  pub no_path : text_at files name ≡ None
  pub no_directory : (path : List ℕ) → IsSome (text_at files path) → IsDirectoryOf name path → ⊥

outside : (files : FileList) (name : List ℕ) → is_taken files name ≡ false → IsOutside files name
outside files name h =
    let both = neither (is_some (text_at files name)) (list_any (λ f. is_directory_of name f.0) files) h in
    record {
      no_path = is_none (text_at files name) both.0;
      no_directory = λ path here d. false≢true (sym (none_at (λ p. is_directory_of name p) files path both.1 here) ∙ (directory_Decides name path).1 d);
    }

pub record IsFresh (base ours theirs : FileList) (given : List (List ℕ)) (name : List ℕ) : Type 0 where
  pub of_base : IsOutside base name
  pub of_ours : IsOutside ours name
  pub of_theirs : IsOutside theirs name
  pub not_given : list_any (bytes_eq name) given ≡ false

pub fresh : (base ours theirs : FileList) (given : List (List ℕ)) (name : List ℕ) → is_free base ours theirs given name ≡ true → IsFresh base ours theirs given name
fresh base ours theirs given name h =
    let all = none_of_four (is_taken base name) (is_taken ours name) (is_taken theirs name) (list_any (bytes_eq name) given) h in
    record { of_base = outside base name all.0; of_ours = outside ours name all.1; of_theirs = outside theirs name all.2; not_given = all.3 }

-- fresh beside fewer names
fresh_less : (base ours theirs : FileList) (given more : List (List ℕ)) (name : List ℕ) → IsFresh base ours theirs (given ++ more) name → IsFresh base ours theirs given name
fresh_less base ours theirs given more name f = record {
  of_base = f.of_base;
  of_ours = f.of_ours;
  of_theirs = f.of_theirs;
  not_given = (neither (list_any (bytes_eq name) given) (list_any (bytes_eq name) more) (sym (list_any-append (bytes_eq name) given more) ∙ f.not_given)).0;
}

same_bytes : (x : List ℕ) → bytes_eq x x ≡ true
same_bytes x = (bytes_eq-Decides x x).1 refl

module _ (base ours theirs : FileList) (tag : List ℕ) where
  -- the name was given to a file with this text
  pub record HasFile (given : List (List ℕ)) (files : FileList) (name text : List ℕ) : Type 0 where
    pub path : List ℕ
    pub number : ℕ
    pub spelled : name ≡ tagged tag path number
    pub inside : Contains files (path, text)
    pub is_fresh : IsFresh base ours theirs given name

  -- a name was given to the file
  pub record HasName (given : List (List ℕ)) (named : FileList) (path text : List ℕ) : Type 0 where
    pub name : List ℕ
    pub number : ℕ
    pub spelled : name ≡ tagged tag path number
    pub stands : text_at named name ≡ Some text
    pub is_fresh : IsFresh base ours theirs given name

  file_later : (given more : List (List ℕ)) (file : List ℕ × List ℕ) (files : FileList) (name text : List ℕ) → HasFile (given ++ more) files name text → HasFile given (file ∷ files) name text
  file_later given more file files name text h = record {
    path = h.path;
    number = h.number;
    spelled = h.spelled;
    inside = in_later file files (h.path, text) h.inside;
    is_fresh = fresh_less base ours theirs given more name h.is_fresh;
  }

  pub has_file : (files named : FileList) (given : List (List ℕ)) → AreTagged base ours theirs tag given files named → (name text : List ℕ) → text_at named name ≡ Some text → HasFile given files name text
  has_file [] [] given are name text h = absurd cc
  has_file [] (n ∷ named) given are name text h = absurd are
  has_file (f ∷ files) [] given are name text h = absurd are
  has_file (f ∷ files) (n ∷ named) given are name text h = by (bytes_eq name n.0) refl h (has_file files named (given ++ n.0 ∷ []) are.2 name text)
    where
      by : (b : Bool) → bytes_eq name n.0 ≡ b → cond b (Some n.1) (text_at named name) ≡ Some text
          → (text_at named name ≡ Some text → HasFile (given ++ n.0 ∷ []) files name text) → HasFile given (f ∷ files) name text
      by true e h later =
          let same : name ≡ n.0 = (bytes_eq-Decides name n.0).0 e in
          let words : n.1 ≡ text = cc in
          let text_is : f.1 ≡ text = sym are.1 ∙ words in
          record {
            path = f.0;
            number = are.0.number;
            spelled = same ∙ are.0.spelled;
            inside = subst (λ (t : List ℕ). Contains (f ∷ files) (f.0, t)) text_is (in_here f files);
            is_fresh = subst (λ (p : List ℕ). IsFresh base ours theirs given p) (sym same) (fresh base ours theirs given n.0 are.0.free);
          }
      by false e h later = file_later given (n.0 ∷ []) f files name text (later h)

  name_later : (given : List (List ℕ)) (n : List ℕ × List ℕ) (named : FileList) (path text : List ℕ) → HasName (given ++ n.0 ∷ []) named path text → HasName given (n ∷ named) path text
  name_later given n named path text h =
      let apart = neither (bytes_eq h.name n.0) false (neither (list_any (bytes_eq h.name) given) (list_any (bytes_eq h.name) (n.0 ∷ [])) (sym (list_any-append (bytes_eq h.name) given (n.0 ∷ [])) ∙ h.is_fresh.not_given)).1 in
      let off : bytes_eq h.name n.0 ≡ false = apart.0 in
      record {
        name = h.name;
        number = h.number;
        spelled = h.spelled;
        stands = rw off h.stands;
        is_fresh = fresh_less base ours theirs given (n.0 ∷ []) h.name h.is_fresh;
      }

  pub has_name : (files named : FileList) (given : List (List ℕ)) → AreTagged base ours theirs tag given files named → (path text : List ℕ) → Contains files (path, text) → HasName given named path text
  has_name [] [] given are path text h = absurd (in_none (path, text) h)
  has_name [] (n ∷ named) given are path text h = absurd are
  has_name (f ∷ files) [] given are path text h = absurd are
  has_name (f ∷ files) (n ∷ named) given are path text h =
      elim (in_cases f files (path, text) h) [
        | inl e ↦ (let p : f.0 ≡ path = ap (λ (x : List ℕ × List ℕ). x.0) e in
            let t : n.1 ≡ text = are.1 ∙ ap (λ (x : List ℕ × List ℕ). x.1) e in
            let here : bytes_eq n.0 n.0 ≡ true = same_bytes n.0 in
            record {
              name = n.0;
              number = are.0.number;
              spelled = are.0.spelled ∙ ap (λ (x : List ℕ). tagged tag x are.0.number) p;
              stands = rw here (ap (λ (x : List ℕ). Some x) t);
              is_fresh = fresh base ours theirs given n.0 are.0.free;
            })
        | inr later ↦ name_later given n named path text (has_name files named (given ++ n.0 ∷ []) are.2 path text later)
      ]

  -- ---- there is one way to give names

  one_number : (given : List (List ℕ)) (path one other : List ℕ) (a : IsTagged base ours theirs tag given path one) (b : IsTagged base ours theirs tag given path other) → a.number < b.number → ⊥
  one_number given path one other a b less =
      false≢true (sym (b.first a.number less) ∙ ap (is_free base ours theirs given) (sym a.spelled) ∙ a.free)

  pub one_name : (given : List (List ℕ)) (path one other : List ℕ) → IsTagged base ours theirs tag given path one → IsTagged base ours theirs tag given path other → one ≡ other
  one_name given path one other a b =
      elim (cases_lt a.number b.number) [
        | inl less ↦ absurd (one_number given path one other a b less)
        | inr back ↦ elim (cases_lt b.number a.number) [
          | inl less ↦ absurd (one_number given path other one b a less)
          | inr fore ↦ (let same : a.number ≡ b.number = omega arith in a.spelled ∙ ap (tagged tag path) same ∙ sym b.spelled)
        ]
      ]

  pub one_naming : (files one other : FileList) (given : List (List ℕ)) → AreTagged base ours theirs tag given files one → AreTagged base ours theirs tag given files other → one ≡ other
  one_naming [] [] [] given a b = refl
  one_naming [] [] (m ∷ other) given a b = absurd b
  one_naming [] (n ∷ one) other given a b = absurd a
  one_naming (f ∷ files) [] other given a b = absurd a
  one_naming (f ∷ files) (n ∷ one) [] given a b = absurd b
  one_naming (f ∷ files) (n ∷ one) (m ∷ other) given a b =
      let name : n.0 ≡ m.0 = one_name given f.0 n.0 m.0 a.0 b.0 in
      let text : n.1 ≡ m.1 = a.1 ∙ sym b.1 in
      let rest : one ≡ other = one_naming files one other (given ++ n.0 ∷ []) a.2 (subst (λ (x : List ℕ). AreTagged base ours theirs tag (given ++ x ∷ []) files other) (sym name) b.2) in
      ap (λ (x : List ℕ). (x, n.1) ∷ one) name ∙ ap (λ (x : List ℕ). (m.0, x) ∷ one) text ∙ ap (λ (l : FileList). m ∷ l) rest
