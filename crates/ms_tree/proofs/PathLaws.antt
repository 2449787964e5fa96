-- The tests on paths decide the rules.
use Rattle.std.proofs.Common.{◌≡◌, ℕ, eqb, List, [], ◌∷◌, ◌++◌, length, drop, refl, sym, ◌∙◌, append_assoc, codes, Decides, ap, arith}
use Rattle.std.specs.List.{list_any, list_all, Contains}
use Rattle.std.proofs.lemmas.Bool.Decides.{Decides-not, Decides-and, Decides-like, Decides-by_or, Decides-by_and, Decides-eqb}
use Rattle.std.proofs.lemmas.List.Elements.{Decides-contains}
use Rattle.std.proofs.lemmas.Slice.Eq.{bytes_eq-Decides, starts_is}
use Rattle.std.proofs.lemmas.Str.{is_utf8-from_IsUtf8, IsUtf8-from_is_utf8}
use Rattle.ms_tree.specs.Paths.{parts_of, is_part, is_path, is_directory_of, IsPart, IsPath, IsDirectoryOf}

nil_from_length : (xs : List ℕ) → length xs ≡ 0 → xs ≡ []
nil_from_length [] h = refl
nil_from_length (x ∷ xs) h = absurd (omega arith)

nil_Decides : (xs : List ℕ) → Decides (eqb (length xs) 0) (xs ≡ [])
nil_Decides xs = Decides-like _ (nil_from_length xs) (λ e. ap length e) (Decides-eqb (length xs) 0)

zero_Decides : (xs : List ℕ) → Decides (list_any (λ b. eqb b 0) xs) (Contains xs 0)
zero_Decides xs = Decides-contains xs 0 _ (Decides-by_or (λ b. eqb b 0) (λ b. b ≡ 0) (list_any (λ b. eqb b 0)) (λ b. Decides-eqb b 0) refl (λ _ _. refl) xs)

pub part_Decides : (part : List ℕ) → Decides (is_part part) (IsPart part)
part_Decides part = Decides-like _
    (λ h. record { filled = h.0.0.0; not_here = h.0.0.1; not_above = h.0.1; no_nul = h.1 })
    (λ p. (((p.filled, p.not_here), p.not_above), p.no_nul))
    (Decides-and _ _ (Decides-and _ _ (Decides-and _ _ (Decides-not _ (nil_Decides part)) (Decides-not _ (bytes_eq-Decides part (codes "."))))
    (Decides-not _ (bytes_eq-Decides part (codes ".."))))
    (Decides-not _ (zero_Decides part)))

pub path_Decides : (path : List ℕ) → Decides (is_path path) (IsPath path)
path_Decides path = Decides-like _
    (λ h. record { utf8 = h.0; parts = h.1 })
    (λ p. (p.utf8, p.parts))
    (Decides-and _ _ (IsUtf8-from_is_utf8 path, is_utf8-from_IsUtf8 path) (Decides-by_and is_part IsPart (list_all is_part) part_Decides refl (λ _ _. refl) (parts_of path)))

pub directory_Decides : (dir path : List ℕ) → Decides (is_directory_of dir path) (IsDirectoryOf dir path)
directory_Decides dir path =
    let h = starts_is Decides-eqb path (dir ++ 47 ∷ []) (is_directory_of dir path) refl in
    (λ e. (drop (length (dir ++ 47 ∷ [])) path, h.0 e ∙ append_assoc dir (47 ∷ []) _), λ d. h.1 d.0 (d.1 ∙ sym (append_assoc dir (47 ∷ []) d.0)))
