-- Pieces that are fed in turn are the text that they make.
use Rattle.std.proofs.Common.{◌≡◌, ℕ, ◌+◌, ◌<◌, List, [], ◌∷◌, ◌++◌, sym, ap, ◌∙◌, append_assoc, append-nil, length, take, get_or}
use Rattle.std.specs.Int.{Width, w32, w64, to_be_bytes}
use Rattle.std.specs.List.{flat_map}
use Rattle.std.proofs.lemmas.List.{take_more}
use Rattle.std.proofs.lemmas.Grind.{flat_map-append}
use Rattle.std.proofs.lemmas.List.Concat.{flat_map-cons}
use Rattle.ms_record.specs.declared.plan.PlanRow.{PlanRow}
use Rattle.ms_record.specs.declared.ballot.Ballot.{Ballot}
use Rattle.ms_record.specs.declared.entry.Entry.{Entry}
use Rattle.ms_record.specs.declared.record.Record.{Record}
use Rattle.ms_record.specs.declared.record.Record.TheVariants.{Prepare, Accept}
use Rattle.ms_record.specs.Entries.{entry_text}
use Rattle.ms_record.specs.Plans.{PlanView, row_text, plan_text}
use Rattle.ms_record.specs.Records.{head_text, record_text}

regrouped : (m a b c d e f : List ℕ) → (((((m ++ a) ++ b) ++ c) ++ d) ++ e) ++ f ≡ m ++ (((((a ++ b) ++ c) ++ d) ++ e) ++ f)
regrouped m a b c d e f = simp append_assoc

pub plan_parts : (m : List ℕ) (p : PlanView)
    → m ++ to_be_bytes w32 p.generation ++ to_be_bytes w32 p.format ++ to_be_bytes w32 p.replicas ++ to_be_bytes w64 p.unit ++ to_be_bytes w32 (length p.rows) ++ flat_map row_text p.rows ≡ m ++ plan_text p
plan_parts m p = regrouped m (to_be_bytes w32 p.generation) (to_be_bytes w32 p.format) (to_be_bytes w32 p.replicas) (to_be_bytes w64 p.unit) (to_be_bytes w32 (length p.rows)) (flat_map row_text p.rows)

last_row : (m front service capacity : List ℕ) → ((m ++ front) ++ service) ++ capacity ≡ m ++ (front ++ ((service ++ capacity) ++ []))
last_row m front service capacity = simp (append_assoc, append-nil)

pub row_parts : (m : List ℕ) (rows : List PlanRow) (i : ℕ) (d : PlanRow) → i < length rows
    → m ++ flat_map row_text (take i rows) ++ to_be_bytes w32 (get_or rows i d).service.0 ++ to_be_bytes w64 (get_or rows i d).capacity ≡ m ++ flat_map row_text (take (i + 1) rows)
row_parts m rows i d within =
    let row = get_or rows i d in
    let more : flat_map row_text (take (i + 1) rows) ≡ flat_map row_text (take i rows) ++ (row_text row ++ []) = rw (take_more rows i d within) (flat_map-append row_text (take i rows) (row ∷ []) ∙ ap (λ (x : List ℕ). flat_map row_text (take i rows) ++ x) (flat_map-cons row_text row [])) in
    last_row m (flat_map row_text (take i rows)) (to_be_bytes w32 row.service.0) (to_be_bytes w64 row.capacity) ∙ ap (λ (x : List ℕ). m ++ x) (sym more)

joined_two : (m a b x y : List ℕ) → x ≡ m ++ a → y ≡ x ++ b → y ≡ m ++ (a ++ b)
joined_two m a b x y e f = f ∙ ap (λ (z : List ℕ). z ++ b) e ∙ append_assoc m a b

put_same : (m : List ℕ) (w : Width) (x : List ℕ) (n k : ℕ) → n ≡ k → x ≡ m ++ to_be_bytes w n → x ≡ m ++ to_be_bytes w k
put_same m w x n k e h = h ∙ ap (λ (j : ℕ). m ++ to_be_bytes w j) e

-- pieces that are put down in turn are the text of a plan
pub plan_joined : (m : List ℕ) (p : PlanView) (x y z u v w : List ℕ)
    → x ≡ m ++ to_be_bytes w32 p.generation → y ≡ x ++ to_be_bytes w32 p.format → z ≡ y ++ to_be_bytes w32 p.replicas → u ≡ z ++ to_be_bytes w64 p.unit
    → v ≡ u ++ to_be_bytes w32 (length p.rows) → w ≡ v ++ flat_map row_text p.rows → w ≡ m ++ plan_text p
plan_joined m p x y z u v w a b c d e f =
    let ab = joined_two m (to_be_bytes w32 p.generation) (to_be_bytes w32 p.format) x y a b in
    let abc = joined_two m (to_be_bytes w32 p.generation ++ to_be_bytes w32 p.format) (to_be_bytes w32 p.replicas) y z ab c in
    let abcd = joined_two m (to_be_bytes w32 p.generation ++ to_be_bytes w32 p.format ++ to_be_bytes w32 p.replicas) (to_be_bytes w64 p.unit) z u abc d in
    let abcde = joined_two m (to_be_bytes w32 p.generation ++ to_be_bytes w32 p.format ++ to_be_bytes w32 p.replicas ++ to_be_bytes w64 p.unit) (to_be_bytes w32 (length p.rows)) u v abcd e in
    joined_two m (to_be_bytes w32 p.generation ++ to_be_bytes w32 p.format ++ to_be_bytes w32 p.replicas ++ to_be_bytes w64 p.unit ++ to_be_bytes w32 (length p.rows)) (flat_map row_text p.rows) v w abcde f

-- a row more
pub row_joined : (m : List ℕ) (rows : List PlanRow) (i : ℕ) (d : PlanRow) (x y z : List ℕ) → i < length rows → x ≡ m ++ flat_map row_text (take i rows)
    → y ≡ x ++ to_be_bytes w32 (get_or rows i d).service.0 → z ≡ y ++ to_be_bytes w64 (get_or rows i d).capacity → z ≡ m ++ flat_map row_text (take (i + 1) rows)
row_joined m rows i d x y z within a b c =
    c ∙ ap (λ (t : List ℕ). t ++ to_be_bytes w64 (get_or rows i d).capacity) (b ∙ ap (λ (t : List ℕ). t ++ to_be_bytes w32 (get_or rows i d).service.0) a) ∙ row_parts m rows i d within

pub record_joined : (r : Record) (m x y : List ℕ) (k : ℕ) (b : Ballot) (e : Entry) → r ≡ Accept k b e → x ≡ m ++ head_text 65 k b → y ≡ x ++ entry_text e → y ≡ m ++ record_text r
record_joined r m x y k b e is f g = joined_two m (head_text 65 k b) (entry_text e) x y f g ∙ ap (λ (s : Record). m ++ record_text s) (sym is)

pub prepare_joined : (r : Record) (m x : List ℕ) (k : ℕ) (b : Ballot) → r ≡ Prepare k b → x ≡ m ++ head_text 80 k b → x ≡ m ++ record_text r
prepare_joined r m x k b is f = f ∙ ap (λ (s : Record). m ++ record_text s) (sym is)

rows_same : (m : List ℕ) (x : List ℕ) (rows others : List PlanRow) → rows ≡ others → x ≡ m ++ flat_map row_text rows → x ≡ m ++ flat_map row_text others
rows_same m x rows others e h = h ∙ ap (λ (rs : List PlanRow). m ++ flat_map row_text rs) e

-- the same of what a plan's readers gave
pub plan_joined_of : (m : List ℕ) (p : PlanView) (g f r t : ℕ) (rows : List PlanRow) (x y z u v w : List ℕ) → g ≡ p.generation → f ≡ p.format → r ≡ p.replicas → t ≡ p.unit → rows ≡ p.rows
    → x ≡ m ++ to_be_bytes w32 g → y ≡ x ++ to_be_bytes w32 f → z ≡ y ++ to_be_bytes w32 r → u ≡ z ++ to_be_bytes w64 t
    → v ≡ u ++ to_be_bytes w32 (length rows) → w ≡ v ++ flat_map row_text rows → w ≡ m ++ plan_text p
plan_joined_of m p g f r t rows x y z u v w eg ef er et es a b c d e h =
    plan_joined m p x y z u v w (put_same m w32 x g p.generation eg a) (put_same x w32 y f p.format ef b) (put_same y w32 z r p.replicas er c) (put_same z w64 u t p.unit et d)
    (put_same u w32 v (length rows) (length p.rows) (ap (λ (rs : List PlanRow). length rs) es) e) (rows_same v w rows p.rows es h)
