-- Texts under their names.
use Rattle.std.proofs.Common.{◌≡◌, ℕ, Bool, true, false, cond, List, [], ◌∷◌, Option, Some, None, refl, sym, ap, subst, ◌∙◌}
use Rattle.std.specs.Prelude.{IfSome, IsSome, Contains, ◌↔◌, Result, Ok, Err, OnOk, OnErr, bytes_eq, unwrap_or, is_some}
use Rattle.std.specs.BTreeMap.{insert_entry}
use Rattle.std.specs.declared.cmp.Ordering.{Ordering}
use Rattle.std.specs.declared.cmp.Ordering.TheVariants.{Less, Equal, Greater}
use Rattle.std.specs.Ordering.{nat_cmp, is_eq, match_ordering}
use Rattle.std.specs.Cmp.{IsTotalOrder}
use Rattle.std.specs.Cmp.Lexicographic.{slice_cmp}
use Rattle.std.proofs.lemmas.Cmp.{nat_list_cmp_total, on_total, eq_by_cmp_equiv}
use Rattle.std.proofs.lemmas.List.Elements.{All-nil}
use Rattle.std.proofs.lemmas.Map.Lookups.{CmpEqualImpliesEq, exact_bytes}
use Rattle.std.proofs.lemmas.Map.Views.{Contains-keys_from_lookup, IsSome-lookup_from_Contains, tells_apart}
use Rattle.std.proofs.lemmas.Map.Text.{is_eq-slice_cmp}
use Rattle.std.proofs.lemmas.Slice.Eq.{bytes_eq-Decides}
use Rattle.ms_base.specs.declared.names.Name.{Name}
use Rattle.ms_object.specs.Objects.{name_of}
use Rattle.ms_object.specs.Stores.{StoreView, AreNamed, name_cmp, names_in, text_of, text_after}
use Rattle.ms_object.proofs.FieldLaws.{All-cons, All-first, All-rest}

names_total : IsTotalOrder name_cmp
names_total = on_total (λ (name : Name). name.0) nat_list_cmp_total

exact_names : CmpEqualImpliesEq name_cmp
exact_names a b e = let is = exact_bytes a.0 b.0 e in λ i. record { 0 = is i }

-- a name is there where it has a text
pub names_there : (store : StoreView) (name : Name) → Contains (names_in store) name ↔ IsSome (text_of store name.0)
names_there store name =
    (λ h. IsSome-lookup_from_Contains (eq_by_cmp_equiv names_total) name store h, λ h. Contains-keys_from_lookup (tells_apart exact_names) name store h)

abbrev is_named : Name × List ℕ → Type 0
is_named entry = entry.0.0 ≡ name_of entry.1

-- a text that is put under its name
insert_named : (name : Name) (text : List ℕ) (entry : Name × List ℕ) (store more : StoreView) → name.0 ≡ name_of text → AreNamed (entry ∷ store) → AreNamed more
    → (o : Ordering) → name_cmp name entry.0 ≡ o → AreNamed (match_ordering o ((name, text) ∷ entry ∷ store) ((entry.0, text) ∷ store) (entry ∷ more))
insert_named name text entry store more is old new Less e = All-cons is_named (name, text) (entry ∷ store) is old
insert_named name text entry store more is old new Equal e =
    All-cons is_named (entry.0, text) store (sym (exact_bytes name.0 entry.0.0 e) ∙ is) (All-rest is_named entry store old)
insert_named name text entry store more is old new Greater e = All-cons is_named entry more (All-first is_named entry store old) new

named_with : (name : Name) (text : List ℕ) (store : StoreView) → name.0 ≡ name_of text → AreNamed store → AreNamed (insert_entry name_cmp store name text)
named_with name text [] is old = All-cons is_named (name, text) [] is (All-nil is_named)
named_with name text (entry ∷ store) is old =
    insert_named name text entry store (insert_entry name_cmp store name text) is old (named_with name text store is (All-rest is_named entry store old)) (name_cmp name entry.0) refl

pub stays_named : {A E : Type 0} (r : Result A E) (name : Name) (text : List ℕ) (old new : StoreView) → name.0 ≡ name_of text → AreNamed old
    → OnOk r (new ≡ insert_entry name_cmp old name text) → OnErr r (new ≡ old) → AreNamed new
stays_named (Ok a) name text old new is named ok err = subst AreNamed (sym ok) (named_with name text old is named)
stays_named (Err e) name text old new is named ok err = subst AreNamed (sym err) named

-- what is found under a name has that name
found_named : (o : Ordering) (entry : Name × List ℕ) (name : List ℕ) (others : Option (List ℕ)) → slice_cmp nat_cmp name entry.0.0 ≡ o → is_named entry
    → IfSome others (λ text. name ≡ name_of text) → IfSome (cond (is_eq o) (Some entry.1) others) (λ text. name ≡ name_of text)
found_named Less entry name others e is more = more
found_named Equal entry name others e is more = exact_bytes name entry.0.0 e ∙ is
found_named Greater entry name others e is more = more

pub text_named : (store : StoreView) (name : List ℕ) → AreNamed store → IfSome (text_of store name) (λ text. name ≡ name_of text)
text_named [] name named = tt
text_named (entry ∷ store) name named =
    found_named (slice_cmp nat_cmp name entry.0.0) entry name (text_of store name) refl (All-first is_named entry store named) (text_named store name (All-rest is_named entry store named))

-- ---- a text that is added

same_where : (b : Bool) (there : Option (List ℕ)) (text : List ℕ) → (b ≡ true → there ≡ None) → cond b (Some text) there ≡ cond b (Some (unwrap_or there text)) there
same_where true there text none = ap (λ (t : Option (List ℕ)). Some (unwrap_or t text)) (sym (none refl))
same_where false there text none = refl

none_is : (there : Option (List ℕ)) → is_some there ≡ false → there ≡ None
none_is None h = refl
none_is (Some text) h = absurd cc

pub text_added : (texts news : List ℕ → Option (List ℕ)) (name text : List ℕ) → name ≡ name_of text → is_some (texts name) ≡ false
    → ((q : List ℕ) → news q ≡ cond (is_eq (slice_cmp nat_cmp name q)) (Some text) (texts q)) → (q : List ℕ) → news q ≡ text_after texts text q
text_added texts news name text is none h q =
    let same : is_eq (slice_cmp nat_cmp name q) ≡ bytes_eq (name_of text) q = is_eq-slice_cmp name q ∙ ap (λ (n : List ℕ). bytes_eq n q) is in
    let absent : bytes_eq (name_of text) q ≡ true → texts q ≡ None = λ e. ap texts (sym (is ∙ (bytes_eq-Decides (name_of text) q).0 e)) ∙ none_is (texts name) none in
    h q ∙ ap (λ (b : Bool). cond b (Some text) (texts q)) same ∙ same_where (bytes_eq (name_of text) q) (texts q) text absent

stays_where : (b : Bool) (there : Option (List ℕ)) (text : List ℕ) → (b ≡ true → is_some there ≡ true) → there ≡ cond b (Some (unwrap_or there text)) there
stays_where true (Some t) text some = refl
stays_where true None text some = let e = some refl in absurd cc
stays_where false there text some = refl

pub text_stays : (texts : List ℕ → Option (List ℕ)) (name text : List ℕ) → name ≡ name_of text → is_some (texts name) ≡ true → (q : List ℕ) → texts q ≡ text_after texts text q
text_stays texts name text is some q =
    stays_where (bytes_eq (name_of text) q) (texts q) text (λ e. ap (λ (n : List ℕ). is_some (texts n)) (sym (is ∙ (bytes_eq-Decides (name_of text) q).0 e)) ∙ some)
