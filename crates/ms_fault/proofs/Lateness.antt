-- What may be done later stays so while its link makes other calls.
use Rattle.std.proofs.Common.{◌≡◌, ℕ, zero, suc, Bool, true, false, cond, refl, ◌<◌, ◌≤◌, List, [], ◌∷◌, ◌++◌, None, All, take, sym, ap, ◌∙◌, subst, length, slice_index_or, slice_set, arith}
use Rattle.std.proofs.lemmas.Bool.Decides.{nat_tests}
use Rattle.std.specs.Prelude.{nat_lt}
use Rattle.std.proofs.lemmas.List.Elements.{All-push, All-filter, filter_passes}
use Rattle.ms_base.specs.declared.limits.TheConstants.{OBJECT_BYTES}
use Rattle.ms_fault.specs.Changes.{size_of}
use Rattle.ms_fault.specs.Late.{IsDue, waiting}
use Rattle.ms_fault.specs.declared.late.LateChange.{LateChange}
use Rattle.ms_core.specs.Views.{IsClosed}
use Rattle.ms_ken.specs.Known.{Known}
use Rattle.ms_ken.specs.Lists.{MayFollow}
use Rattle.ms_link.specs.Links.{LinkView, Stays}
use Rattle.ms_record.specs.declared.item.Item.{Item}
use Rattle.ms_record.specs.declared.item.Item.TheVariants.{Log}
use Rattle.ms_record.specs.declared.log.LogEvent.{LogEvent}

pub due_stays : (old new : LinkView) (late : LateChange) → Stays old new → IsDue old late → IsDue new late
due_stays old new late stays h =
    subst (λ (link : LinkView). IsDue link late) (sym stays.same) (record { board = h.board; note = h.note; short = h.short; follows = h.follows })

pub all_due : (old new : LinkView) (late : List LateChange) → Stays old new → All (IsDue old) late → All (IsDue new) late
all_due old new late stays all = λ k d lt. due_stays old new _ stays (all k d lt)

-- a change that was kept with a note may be done
pub kept_due : (link : LinkView) (pass note : Known Item) (event : LogEvent) (before : ℕ) → note ≡ record pass { word = None } → pass.board ≡ link.board → size_of event ≤ OBJECT_BYTES
    → MayFollow IsClosed link.board.words pass.lists link.service (Log event) → IsDue link (record { note = note; event = event; before = before })
kept_due link pass note event before is board short follows = record {
  board = ap (λ (k : Known Item). k.board) is ∙ board;
  note = ap (λ (k : Known Item). k.word) is;
  short = short;
  follows = subst (λ (lists : List (List Item)). MayFollow IsClosed link.board.words lists link.service (Log event)) (sym (ap (λ (k : Known Item). k.lists) is)) follows;
}

pub more_due : (link : LinkView) (late more : List LateChange) (change : LateChange) → more ≡ late ++ change ∷ [] → All (IsDue link) late → IsDue link change → All (IsDue link) more
more_due link late more change is all due = subst (All (IsDue link)) (sym is) (All-push (IsDue link) late change all due)

kept_as : (call : ℕ) (old new : LateChange) (rest : List LateChange) → new.before ≡ old.before → (call < old.before → new ≡ old) → waiting call (new ∷ rest) ≡ waiting call (old ∷ rest)
kept_as call old new rest before same = by (nat_lt call old.before) refl
  where
    by : (b : Bool) → nat_lt call old.before ≡ b → waiting call (new ∷ rest) ≡ waiting call (old ∷ rest)
    by true is = ap (λ (change : LateChange). waiting call (change ∷ rest)) (same (grind (arith, nat_tests)))
    by false is =
        let gone : nat_lt call new.before ≡ false = ap (nat_lt call) before ∙ is in
        ap (λ (b : Bool). cond b (new ∷ waiting call rest) (waiting call rest)) gone ∙ sym (ap (λ (b : Bool). cond b (old ∷ waiting call rest) (waiting call rest)) is)

-- a change is put where one stood that is as late, and that is the same where it waits: the same changes wait
pub waits_as : (call : ℕ) (late : List LateChange) (place : ℕ) (d new : LateChange) → place < length late → new.before ≡ (slice_index_or late place d).before → (call < (slice_index_or late place d).before → new ≡ slice_index_or late place d)
    → waiting call (slice_set late place new) ≡ waiting call late
waits_as call [] place d new lt before same = absurd (omega arith)
waits_as call (x ∷ xs) zero d new lt before same = kept_as call x new xs before same
waits_as call (x ∷ xs) (suc place) d new lt before same = ap (λ (l : List LateChange). cond (nat_lt call x.before) (x ∷ l) l) (waits_as call xs place d new (omega arith) before same)

-- where all wait, the one at a place does
pub all_wait : (call : ℕ) (late : List LateChange) (place : ℕ) (d : LateChange) → place < length late → waiting call late ≡ late → call < (slice_index_or late place d).before
all_wait call late place d lt all =
    let passes : All (λ (change : LateChange). nat_lt call change.before ≡ true) late =
    subst (λ (l : List LateChange). All (λ (change : LateChange). nat_lt call change.before ≡ true) l) all (filter_passes (λ (change : LateChange). nat_lt call change.before) late) in
    let waits : nat_lt call (slice_index_or late place d).before ≡ true = passes place d lt in
    grind (arith, nat_tests)

pub waiting_due : (link : LinkView) (call : ℕ) (late rest : List LateChange) → rest ≡ waiting call late → All (IsDue link) late → All (IsDue link) rest
waiting_due link call late rest is all = subst (All (IsDue link)) (sym is) (All-filter (λ (change : LateChange). nat_lt call change.before) (IsDue link) late all)

-- a change at a place says nothing of those behind it
pub set_else : (late : List LateChange) (place k : ℕ) (d new : LateChange) → place < k → slice_index_or (slice_set late place new) k d ≡ slice_index_or late k d
set_else [] place k d new lt = refl
set_else (x ∷ xs) place zero d new lt = absurd (omega arith)
set_else (x ∷ xs) zero (suc k) d new lt = refl
set_else (x ∷ xs) (suc place) (suc k) d new lt = set_else xs place k d new (omega arith)

all_taken : (n : ℕ) (late rest : List LateChange) → n ≡ length late → take n (late ++ rest) ≡ late
all_taken n late rest is = ap (λ (m : ℕ). take m (late ++ rest)) is ∙ all late
  where
    all : (xs : List LateChange) → take (length xs) (xs ++ rest) ≡ xs
    all [] = refl
    all (x ∷ xs) = ap (λ (l : List LateChange). x ∷ l) (all xs)

-- those that wait of the changes, which stand at the front of a vector's memory
pub those_kept : (n call : ℕ) (late first rest kept : List LateChange) → kept ≡ waiting call (take n (late ++ rest)) → n ≡ length late → waiting call late ≡ waiting call first → kept ≡ waiting call first
those_kept n call late first rest kept is whole waits = is ∙ (ap (waiting call) (all_taken n late rest whole) ∙ waits)
