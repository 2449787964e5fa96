-- Joining blobs one after another.
use Rattle.std.proofs.Common.{◌≡◌, ℕ, ◌+◌, ◌-◌, ◌<◌, ◌≤◌, ◌==◌, Bool, true, false, cond, min, List, ◌++◌, length, get_or, drop, Option, Some, None, Result, Ok, Err, refl, sym, ap, subst, ◌∙◌, append_assoc, append-nil, arith}
use Rattle.std.proofs.lemmas.Bool.{eqb-true}
use Rattle.std.proofs.lemmas.List.{drop_more, drop_all}
use Rattle.ms_object.specs.declared.format.Format.{Format}
use Rattle.ms_base.specs.declared.names.Name.{Name}
use Rattle.ms_object.specs.declared.fault.GatherError.{GatherError}
use Rattle.ms_object.specs.declared.fault.GatherError.TheVariants as faults
use Rattle.ms_object.specs.declared.object.Object.{Object}
use Rattle.ms_object.specs.Trees.{Texts, or_fault, object_named, object_or_fault, of_size, blob_of, blobs_joined}
use Rattle.ms_object.specs.Objects.{blob_size}
use Rattle.ms_object.specs.Reading.{blob_bytes}
use Rattle.ms_tree.specs.Gathering.{Gives, joined_on}

-- that very answer is one that may come
pub Gives-same : {A : Type 0} (given result : Result A GatherError) → given ≡ result → Gives given result
Gives-same given (Ok a) e = e
Gives-same given (Err faults.NoMemory) e = tt
Gives-same given (Err (faults.Missing name)) e = e
Gives-same given (Err (faults.WrongKind name)) e = e
Gives-same given (Err (faults.Limit what value)) e = e

pub blob_size_is : (format : Format) (name : Name) (size : ℕ) (found : Result Object GatherError) (bytes : List ℕ) → or_fault found (blob_of format name size) ≡ Ok bytes → length bytes ≡ size
blob_size_is format name size (Err e) bytes h = absurd cc
blob_size_is format name size (Ok p) bytes h = by (blob_bytes format (Some p)) h
  where
    on : (text : List ℕ) (b : Bool) → (length text == size) ≡ b → object_or_fault name (cond b (Some text) None) ≡ Ok bytes → length bytes ≡ size
    on text true e h = let q : text ≡ bytes = cc in subst (λ (t : List ℕ). length t ≡ size) q (eqb-true (length text) size e)
    on text false e h = absurd cc

    by : (o : Option (List ℕ)) → object_or_fault name (of_size size o) ≡ Ok bytes → length bytes ≡ size
    by None h = absurd cc
    by (Some text) h = on text (length text == size) refl h

-- the blobs of which the first is known
blobs_first : (format : Format) → (store : Texts) (left wanted : ℕ) (blobs : List Name) (i : ℕ) (none : Name) (first : Result (List ℕ) GatherError) → i < length blobs → wanted ≡ min (blob_size format) left
    → or_fault (object_named store (get_or blobs i none)) (blob_of format (get_or blobs i none) wanted) ≡ first
    → blobs_joined format store left (drop i blobs) ≡ or_fault first (λ bytes. joined_on bytes (blobs_joined format store (left - wanted) (drop (i + 1) blobs)))
unfolding blobs_joined
blobs_first format store left wanted blobs i none first l size e =
    let name = get_or blobs i none in
    let before : left - blob_size format ≡ left - wanted = omega arith in
    let here : or_fault (object_named store name) (blob_of format name (min (blob_size format) left)) ≡ first = subst (λ (w : ℕ). or_fault (object_named store name) (blob_of format name w) ≡ first) size e in
    ap (blobs_joined format store left) (drop_more blobs i none l)
    ∙ ap (λ (n : ℕ). or_fault (or_fault (object_named store name) (blob_of format name (min (blob_size format) left))) (λ bytes. joined_on bytes (blobs_joined format store n (drop (i + 1) blobs)))) before
    ∙ ap (λ (r : Result (List ℕ) GatherError). or_fault r (λ bytes. joined_on bytes (blobs_joined format store (left - wanted) (drop (i + 1) blobs)))) here

joined_assoc : (text bytes : List ℕ) (others : Result (List ℕ) GatherError) → joined_on text (joined_on bytes others) ≡ joined_on (text ++ bytes) others
joined_assoc text bytes (Err e) = refl
joined_assoc text bytes (Ok more) = ap (λ (t : List ℕ). Ok t) (sym (append_assoc text bytes more))

pub joined_step : (format : Format) → (store : Texts) (left wanted : ℕ) (blobs : List Name) (i : ℕ) (none : Name) (text bytes longer : List ℕ) (given : Result (List ℕ) GatherError) → i < length blobs → wanted ≡ min (blob_size format) left
    → joined_on text (blobs_joined format store left (drop i blobs)) ≡ given → or_fault (object_named store (get_or blobs i none)) (blob_of format (get_or blobs i none) wanted) ≡ Ok bytes
    → longer ≡ text ++ bytes → joined_on longer (blobs_joined format store (left - wanted) (drop (i + 1) blobs)) ≡ given
joined_step format store left wanted blobs i none text bytes longer given l size so_far e grown =
    ap (λ (t : List ℕ). joined_on t (blobs_joined format store (left - wanted) (drop (i + 1) blobs))) grown
    ∙ sym (joined_assoc text bytes (blobs_joined format store (left - wanted) (drop (i + 1) blobs)))
    ∙ ap (joined_on text) (sym (blobs_first format store left wanted blobs i none (Ok bytes) l size e)) ∙ so_far

pub joined_fault : (format : Format) → (store : Texts) (left wanted : ℕ) (blobs : List Name) (i : ℕ) (none : Name) (text : List ℕ) (error : GatherError) (given : Result (List ℕ) GatherError) → i < length blobs → wanted ≡ min (blob_size format) left
    → joined_on text (blobs_joined format store left (drop i blobs)) ≡ given → or_fault (object_named store (get_or blobs i none)) (blob_of format (get_or blobs i none) wanted) ≡ Err error → given ≡ Err error
joined_fault format store left wanted blobs i none text error given l size so_far e = sym so_far ∙ ap (joined_on text) (blobs_first format store left wanted blobs i none (Err error) l size e)

pub joined_end : (format : Format) → (store : Texts) (left : ℕ) (blobs : List Name) (i : ℕ) (text : List ℕ) (given : Result (List ℕ) GatherError) → length blobs ≤ i
    → joined_on text (blobs_joined format store left (drop i blobs)) ≡ given → given ≡ Ok text
unfolding blobs_joined
joined_end format store left blobs i text given past so_far =
    sym so_far ∙ ap (λ (names : List Name). joined_on text (blobs_joined format store left names)) (drop_all i blobs past) ∙ ap (λ (t : List ℕ). Ok t) (append-nil text)
