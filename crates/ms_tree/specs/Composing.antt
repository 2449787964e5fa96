-- A tree is put together of its rows: a file by its label, and the row's own tree with the label before it.
use Rattle.std.specs.Prelude.{◌≡◌, ℕ, List, ◌∷◌, ◌++◌, Contains, None, Ok}
use Rattle.ms_base.specs.declared.names.Name.{Name}
use Rattle.ms_object.specs.declared.format.Format.{Format}
use Rattle.ms_object.specs.declared.object.Kind.{Kind}
use Rattle.ms_object.specs.declared.object.Kind.TheVariants as kinds
use Rattle.ms_object.specs.declared.object.SizedRow.{SizedRow}
use Rattle.ms_object.specs.Objects.{children_of}
use Rattle.ms_object.specs.declared.object.Object.{Object}
use Rattle.ms_object.specs.Trees.{Texts, or_fault, object_named, top_of, file_named, walk, first_fault}

-- the directory of that name is of this format and has these rows
abbrev pub IsRoot : Texts → Name → Format → List SizedRow → Type 0
IsRoot store root format rows = or_fault (object_named store root) (top_of root) ≡ Ok (format, rows)

-- there is a tree below the root: a walk meets no fault and passes no limit
abbrev pub HasTree : Texts → Name → Type 0
HasTree store root = first_fault 0 0 (walk store root) ≡ None

-- there is a tree below the root, and the path has these bytes in it
abbrev pub TreeHas : Texts → Name → List ℕ → List ℕ → Type 0
TreeHas store root path bytes = HasTree store root × Contains (walk store root) (Ok (path, bytes))

-- a file gives its bytes to its label, and a directory gives what a path has in its tree to label, slash and path
abbrev pub KindGives : Format → Texts → Kind → List ℕ → Name → List ℕ → List ℕ → Type 0
KindGives format store kinds.File label name path bytes = (path ≡ label) × (file_named format store name ≡ Ok bytes)
KindGives format store kinds.Dir label name path bytes = (rest : List ℕ) × (path ≡ label ++ 47 ∷ rest) × TreeHas store name rest bytes

-- the row gives these bytes to the path
abbrev pub RowGives : Format → Texts → SizedRow → List ℕ → List ℕ → Type 0
RowGives format store row path bytes = KindGives format store row.kind row.label row.name path bytes

-- ---- what a walk looks at

-- both stores have the same under each of these names, be it a text or nothing
abbrev pub AgreeOn : Texts → Texts → List Name → Type 0
AgreeOn one other names = (name : Name) → Contains names name → one name.0 ≡ other name.0

-- each object of these names has its children among them
abbrev pub HasChildren : Texts → List Name → Type 0
HasChildren store names = (name child : Name) (object : Object) → Contains names name → object_named store name ≡ Ok object → Contains (children_of object) child → Contains names child
