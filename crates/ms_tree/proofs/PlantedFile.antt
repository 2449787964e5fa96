-- A store that has the texts of a file's objects has the file.
use Rattle.std.proofs.Common.{◌≡◌, ℕ, zero, suc, ◌-◌, ◌<◌, ◌≤◌, List, [], ◌∷◌, ◌++◌, length, map, take, drop, min, Contains, Some, Result, Ok, refl, sym, ap, subst, ◌∙◌, take-append-drop, arith}
use Rattle.std.proofs.lemmas.List.{length-map, length-take, length-drop}
use Rattle.std.proofs.lemmas.List.Elements.{Contains-append_left, Contains-append_right}
use Rattle.sha2.specs.Sha256.{sha256}
use Rattle.sha2.proofs.Facts256.{length-sha256}
use Rattle.ms_base.specs.Places.{in_here, in_later, all_from}
use Rattle.ms_object.specs.declared.format.Format.{Format}
use Rattle.ms_base.specs.declared.names.Name.{Name}
use Rattle.ms_object.specs.declared.fault.GatherError.{GatherError}
use Rattle.ms_object.specs.declared.object.Object.{Object}
use Rattle.ms_object.specs.declared.format.Format.TheVariants as formats
use Rattle.ms_object.specs.Objects.{Spells, IsBlob, IsFile, IsObject, AreNames, blob_object, file_object, object_text, blob_size, blobs_in, most_file}
use Rattle.ms_object.specs.Reading.{object_at}
use Rattle.ms_object.specs.Trees.{Texts, or_fault, object_named, blob_of, file_of, blobs_joined, file_named}
use Rattle.ms_tree.specs.Planting.{named, pieces, blob_texts, file_text}
use Rattle.ms_tree.proofs.Members.{map_from}
use Rattle.ms_tree.proofs.Named.{named_object, size_right}
use Rattle.ms_tree.proofs.Pieces.{count_more}

-- what is spelled is read
abbrev pub Reads : Type 0
Reads = (text : List ℕ) (o : Object) → Spells text o → object_at text ≡ Some o

-- the store has these texts, each under its SHA-256
abbrev pub Has : Texts → List (List ℕ) → Type 0
Has store texts = (text : List ℕ) → Contains texts text → store (sha256 text) ≡ Some text

-- an object whose text is there stands under its name
pub object_there : (store : Texts) (o : Object) → Reads → IsObject o → store (sha256 (object_text o)) ≡ Some (object_text o) → object_named store (named (object_text o)) ≡ Ok o
object_there store o reads is there = named_object store (named (object_text o)) (object_text o) o there (reads (object_text o) o (record { ranges = is; spelled = refl }))

pub names_fit : (texts : List (List ℕ)) → AreNames (map named texts)
names_fit texts = all_from (λ (n : Name). length n.0 ≡ 32) (map named texts) (λ n has. let t = map_from named texts n has in
    subst (λ (m : Name). length m.0 ≡ 32) t.2 (length-sha256 t.0))

-- one blob
blob_fits : (format : Format) (piece : List ℕ) → IsBlob format piece → IsObject (blob_object format piece)
blob_fits formats.One piece is = is
blob_fits formats.Two piece is = is

blob_taken : (format : Format) (name : Name) (piece : List ℕ) (size : ℕ) → length piece ≡ size → blob_of format name size (blob_object format piece) ≡ Ok piece
blob_taken formats.One name piece size same = size_right name size piece same
blob_taken formats.Two name piece size same = size_right name size piece same

blob_there : (format : Format) (store : Texts) (piece : List ℕ) (size : ℕ) → Reads → IsBlob format piece → length piece ≡ size → store (sha256 (object_text (blob_object format piece))) ≡ Some (object_text (blob_object format piece))
    → or_fault (object_named store (named (object_text (blob_object format piece)))) (blob_of format (named (object_text (blob_object format piece))) size) ≡ Ok piece
blob_there format store piece size reads is same there =
    let name = named (object_text (blob_object format piece)) in
    ap (λ (r : Result Object GatherError). or_fault r (blob_of format name size)) (object_there store (blob_object format piece) reads (blob_fits format piece is) there)
    ∙ blob_taken format name piece size same

-- as many blobs as are needed
count_some : (format : Format) (n : ℕ) → 0 < n → 0 < blobs_in format n
count_some formats.One n some = omega arith
count_some formats.Two n some = omega arith

count_none : (format : Format) → blobs_in format 0 ≡ 0
count_none formats.One = refl
count_none formats.Two = refl

pub piece_is : (format : Format) (piece : List ℕ) (n : ℕ) → length piece ≡ min (blob_size format) n → 0 < n → IsBlob format piece
piece_is formats.One piece n long some = record { some = omega arith; few = omega (arith, long) }
piece_is formats.Two piece n long some = record { some = omega (arith, long, some); few = omega (arith, long) }

-- all blobs of a file
pub blobs_there : (format : Format) (store : Texts) (count : ℕ) (bytes : List ℕ) → Reads → count ≡ blobs_in format (length bytes)
    → Has store (map (λ piece. object_text (blob_object format piece)) (pieces format count bytes))
    → blobs_joined format store (length bytes) (map named (map (λ piece. object_text (blob_object format piece)) (pieces format count bytes))) ≡ Ok bytes
unfolding blobs_joined
blobs_there format store zero [] reads is has = refl
blobs_there format store zero (b ∷ bytes) reads is has = let some = count_some format (length (b ∷ bytes)) (omega arith) in absurd (omega (arith, some, is))
blobs_there format store (suc count) [] reads is has = let none = count_none format in absurd (omega (arith, is, none))
blobs_there format store (suc count) (b ∷ bytes) reads is has =
    let all = b ∷ bytes in
    let piece = take (blob_size format) all in
    let rest = drop (blob_size format) all in
    let some : 0 < length all = omega arith in
    let long : length piece ≡ min (blob_size format) (length all) = length-take (blob_size format) all in
    let left : length rest ≡ length all - blob_size format = length-drop (blob_size format) all in
    let first = blob_there format store piece (min (blob_size format) (length all)) reads (piece_is format piece (length all) long some) long (has (object_text (blob_object format piece)) (in_here _ _)) in
    let less : count ≡ blobs_in format (length all - blob_size format) = let more = count_more format (length all) some in omega (arith, more, is) in
    let others = blobs_there format store count rest reads (less ∙ ap (blobs_in format) (sym left)) (λ t h. has t (in_later _ _ t h)) in
    let next : blobs_joined format store (length all - blob_size format) (map named (map (λ piece. object_text (blob_object format piece)) (pieces format count rest))) ≡ Ok rest =
    ap (λ (n : ℕ). blobs_joined format store n (map named (map (λ piece. object_text (blob_object format piece)) (pieces format count rest)))) (sym left) ∙ others in
    rw (first, next) (ap (λ (l : List ℕ). let r : Result (List ℕ) GatherError = Ok l in r) (take-append-drop (blob_size format) all))

pieces_count : (format : Format) → (count : ℕ) (bytes : List ℕ) → length (pieces format count bytes) ≡ count
pieces_count format zero bytes = refl
pieces_count format (suc count) bytes = ap suc (pieces_count format count (drop (blob_size format) bytes))

-- the file object
file_fits : (format : Format) (size : ℕ) (blobs : List Name) → IsFile format size blobs → AreNames blobs → IsObject (file_object format size blobs)
file_fits formats.One size blobs is names = (is, names)
file_fits formats.Two size blobs is names = (is, names)

pub file_is : (format : Format) (bytes : List ℕ) → length bytes ≤ most_file format → IsObject (file_object format (length bytes) (map named (blob_texts format bytes)))
file_is format bytes fits =
    file_fits format (length bytes) (map named (blob_texts format bytes))
    (record {
      fits = fits;
      count = length-map (blob_texts format bytes) named ∙ length-map (pieces format (blobs_in format (length bytes)) bytes) (λ piece. object_text (blob_object format piece)) ∙ pieces_count format (blobs_in format (length bytes)) bytes;
    })
    (names_fit (blob_texts format bytes))

file_taken : (format : Format) (name : Name) (size : ℕ) (blobs : List Name) → file_of format name (file_object format size blobs) ≡ Ok (size, blobs)
file_taken formats.One name size blobs = refl
file_taken formats.Two name size blobs = refl

-- a whole file
pub file_there : (format : Format) (store : Texts) (bytes : List ℕ) → Reads → length bytes ≤ most_file format → Has store (blob_texts format bytes ++ file_text format bytes ∷ []) → file_named format store (named (file_text format bytes)) ≡ Ok bytes
unfolding file_named
file_there format store bytes reads fits has =
    let name = named (file_text format bytes) in
    let blobs = map named (blob_texts format bytes) in
    let o = file_object format (length bytes) blobs in
    let object : object_named store name ≡ Ok o = object_there store o reads (file_is format bytes fits) (has (file_text format bytes) (Contains-append_right (blob_texts format bytes) (file_text format bytes ∷ []) (file_text format bytes) (in_here (file_text format bytes) []))) in
    let joined = blobs_there format store (blobs_in format (length bytes)) bytes reads refl (λ t h. has t (Contains-append_left (blob_texts format bytes) (file_text format bytes ∷ []) t h)) in
    let taken = file_taken format name (length bytes) blobs in
    rw (object, taken) joined
