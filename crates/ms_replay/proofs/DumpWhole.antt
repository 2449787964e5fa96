-- A dump is read exactly where it is spelled so.
use Rattle.std.proofs.Common.{◌≡◌, ℕ, ◌+◌, ◌<◌, ◌≤◌, Bool, true, false, cond, List, [], ◌∷◌, ◌++◌, Option, Some, None, inl, inr, Ok, refl, sym, ap, ◌∙◌, subst, length, get_or, get_or-set_same, get_or-set_other, append_assoc, append-nil, arith}
use Rattle.std.specs.Prelude.{◌==◌}
use Rattle.std.specs.Option.{option_map}
use Rattle.std.proofs.lemmas.Bool.{cases_eq}
use Rattle.std.proofs.lemmas.Bool.Decides.{nat_tests}
use Rattle.std.proofs.lemmas.List.{get_or-replicate, get_or_default, length-replicate, length-set, same_lists}
use Rattle.ms_base.specs.declared.names.Name.{Name}
use Rattle.ms_text.specs.Lines.{lines_of, or_wrong, on_or_wrong, read_lines}
use Rattle.ms_replay.specs.declared.dump.Dump.{Dump}
use Rattle.ms_replay.specs.DumpLines.{SpellsHead, SpellRows, SpellsDump, texts_of}
use Rattle.ms_replay.specs.Dumps.{head_at, row_at, push_at, with_head, with_row, dump_line, whole, dump_at}
use Rattle.ms_replay.proofs.DumpSpelling.{WordLaws, head_spelled, head_read, row_spelled, row_read}

-- what stands after these rows
abbrev after_rows : Dump → List (ℕ × List ℕ) → Dump
after_rows d [] = d
after_rows d (row ∷ rows) = after_rows (with_row d row) rows

-- the lines spell rows, and the dump is what stands after them
record ReadRows (d : Dump) (lines : List (List ℕ)) (last : Dump) : Type 0 where
  pub rows : List (ℕ × List ℕ)
  pub spelled : SpellRows d.services lines rows
  pub is : last ≡ after_rows d rows

none_read : (from : ℕ) (d last : Dump) → or_wrong from (Some d) ≡ Ok last → ReadRows d [] last
none_read from d last h = let same : last ≡ d = cc in record { rows = []; spelled = tt; is = same }

one_read : WordLaws → (from : ℕ) (d last : Dump) (line : List ℕ) (lines : List (List ℕ)) (o : Option (ℕ × List ℕ)) → row_at d.services line ≡ o
    → ((r : ℕ × List ℕ) → read_lines dump_line whole (from + 1) (Some (with_row d r)) lines ≡ Ok last → ReadRows (with_row d r) lines last)
    → on_or_wrong from (λ next. read_lines dump_line whole (from + 1) next lines) (option_map (λ r. Some (with_row d r)) o) ≡ Ok last → ReadRows d (line ∷ lines) last
one_read laws from d last line lines None is later h = absurd cc
one_read laws from d last line lines (Some (service, text)) is later h =
    let more = later (service, text) h in
    record { rows = (service, text) ∷ more.rows; spelled = (row_spelled laws d.services line service text is, more.spelled); is = more.is }

rows_read : WordLaws → (from : ℕ) (d last : Dump) (lines : List (List ℕ)) → read_lines dump_line whole from (Some d) lines ≡ Ok last → ReadRows d lines last
rows_read laws from d last [] h = none_read from d last h
rows_read laws from d last (line ∷ lines) h =
    one_read laws from d last line lines (row_at d.services line) refl (λ r g. rows_read laws (from + 1) (with_row d r) last lines g) h

rows_again : WordLaws → (from : ℕ) (d : Dump) (lines : List (List ℕ)) (rows : List (ℕ × List ℕ)) → d.services ≤ 16 → SpellRows d.services lines rows
    → read_lines dump_line whole from (Some d) lines ≡ Ok (after_rows d rows)
rows_again laws from d [] [] few h = refl
rows_again laws from d [] (row ∷ rows) few h = absurd h
rows_again laws from d (line ∷ lines) [] few h = absurd h
rows_again laws from d (line ∷ lines) (row ∷ rows) few h =
    ap (λ (o : Option (ℕ × List ℕ)). on_or_wrong from (λ next. read_lines dump_line whole (from + 1) next lines) (option_map (λ r. Some (with_row d r)) o)) (row_read laws d.services line row.0 row.1 few h.0)
    ∙ rows_again laws (from + 1) (with_row d row) lines rows few h.1

-- ---- the lists

-- the lists after some rows
record AreAfter (d : Dump) (rows : List (ℕ × List ℕ)) (last : Dump) : Type 0 where
  pub services : last.services ≡ d.services
  pub genesis : last.genesis ≡ d.genesis
  pub count : length last.lists ≡ length d.lists
  pub lists : (s : ℕ) → s < length d.lists → get_or last.lists s [] ≡ get_or d.lists s [] ++ texts_of rows s

same_test : (m n : ℕ) → m ≡ n → (m == n) ≡ true
same_test m n e = grind (arith, nat_tests)

other_test : (m n : ℕ) → (m ≡ n → ⊥) → (m == n) ≡ false
other_test m n e = grind (arith, nat_tests)

one_more : (lists : List (List (List ℕ))) (row : ℕ × List ℕ) (rows : List (ℕ × List ℕ)) (s : ℕ) → row.0 < length lists
    → get_or (push_at lists row.0 row.1) s [] ++ texts_of rows s ≡ get_or lists s [] ++ texts_of (row ∷ rows) s
one_more lists row rows s l =
    elim (cases_eq row.0 s) [
      | inl e ↦
          let here : get_or (push_at lists row.0 row.1) s [] ≡ get_or lists row.0 [] ++ row.1 ∷ [] =
          ap (λ (n : ℕ). get_or (push_at lists row.0 row.1) n []) (sym e) ∙ get_or-set_same lists row.0 (get_or lists row.0 [] ++ row.1 ∷ []) [] l in
          ap (λ (xs : List (List ℕ)). xs ++ texts_of rows s) here ∙ append_assoc (get_or lists row.0 []) (row.1 ∷ []) (texts_of rows s)
          ∙ ap (λ (n : ℕ). get_or lists n [] ++ row.1 ∷ texts_of rows s) e
          ∙ ap (λ (b : Bool). get_or lists s [] ++ cond b (row.1 ∷ texts_of rows s) (texts_of rows s)) (sym (same_test row.0 s e))
      | inr n ↦
          ap (λ (xs : List (List ℕ)). xs ++ texts_of rows s) (get_or-set_other lists row.0 s (get_or lists row.0 [] ++ row.1 ∷ []) [] (λ e. n (sym e)))
          ∙ ap (λ (b : Bool). get_or lists s [] ++ cond b (row.1 ∷ texts_of rows s) (texts_of rows s)) (sym (other_test row.0 s n))
    ]

are_after : (d : Dump) (lines : List (List ℕ)) (rows : List (ℕ × List ℕ)) → length d.lists ≡ d.services → SpellRows d.services lines rows → AreAfter d rows (after_rows d rows)
are_after d [] [] count h = record { services = refl; genesis = refl; count = refl; lists = λ s l. sym (append-nil (get_or d.lists s [])) }
are_after d [] (row ∷ rows) count h = absurd h
are_after d (line ∷ lines) [] count h = absurd h
are_after d (line ∷ lines) (row ∷ rows) count h =
    let long : length (push_at d.lists row.0 row.1) ≡ length d.lists = length-set d.lists row.0 (get_or d.lists row.0 [] ++ row.1 ∷ []) in
    let more = are_after (with_row d row) lines rows (long ∙ count) h.1 in
    record {
      services = more.services;
      genesis = more.genesis;
      count = more.count ∙ long;
      lists = λ s l. more.lists s (omega (arith, l, long)) ∙ one_more d.lists row rows s (omega (arith, count, h.0.known));
    }

-- after the rows behind a head each list has the texts of its service
behind_head : (head : ℕ × List ℕ) (lines : List (List ℕ)) (rows : List (ℕ × List ℕ)) → SpellRows head.0 lines rows → AreAfter (with_head head) rows (after_rows (with_head head) rows)
behind_head head lines rows h = are_after (with_head head) lines rows (length-replicate head.0 []) h

list_is : (head : ℕ × List ℕ) (rows : List (ℕ × List ℕ)) (last : Dump) (s : ℕ) → AreAfter (with_head head) rows last → s < head.0 → get_or last.lists s [] ≡ texts_of rows s
list_is head rows last s a l =
    a.lists s (omega (arith, l, length-replicate head.0 (nothing [])))
    ∙ ap (λ (xs : List (List ℕ)). xs ++ texts_of rows s) (get_or-replicate head.0 s [] [] l)
  where
    nothing : List (List ℕ) → List (List ℕ)
    nothing xs = xs

-- ---- the whole

head_first : WordLaws → (text first : List ℕ) (rest : List (List ℕ)) (dump : Dump) (o : Option (ℕ × List ℕ)) → lines_of text ≡ first ∷ rest → head_at first ≡ o
    → on_or_wrong 1 (λ next. read_lines dump_line whole 2 next rest) (option_map (λ h. Some (with_head h)) o) ≡ Ok dump → SpellsDump text dump
head_first laws text first rest dump None cut is h = absurd cc
head_first laws text first rest dump (Some (services, genesis)) cut is h =
    let r = rows_read laws 2 (with_head (services, genesis)) dump rest h in
    let a = subst (λ (d : Dump). AreAfter (with_head (services, genesis)) r.rows d) (sym r.is) (behind_head (services, genesis) rest r.rows r.spelled) in
    let name : genesis ≡ dump.genesis.0 = ap (λ (n : Name). n.0) (sym a.genesis) in
    let head = head_spelled laws first services genesis is in
    record {
      head = first;
      lines = rest;
      rows = r.rows;
      cut = cut;
      head_is = subst (λ (n : ℕ). SpellsHead first n dump.genesis.0) (sym a.services) (subst (λ (g : List ℕ). SpellsHead first services g) name head);
      rows_are = subst (λ (n : ℕ). SpellRows n rest r.rows) (sym a.services) r.spelled;
      count = a.count ∙ length-replicate services [] ∙ sym a.services;
      lists = λ s l. list_is (services, genesis) r.rows dump s a (omega (arith, l, a.services));
    }

cut_first : WordLaws → (text : List ℕ) (dump : Dump) (lines : List (List ℕ)) → lines_of text ≡ lines → read_lines dump_line whole 1 None lines ≡ Ok dump → SpellsDump text dump
cut_first laws text dump [] cut h = absurd cc
cut_first laws text dump (first ∷ rest) cut h = head_first laws text first rest dump (head_at first) cut refl h

pub dump_spelled : WordLaws → (text : List ℕ) (dump : Dump) → dump_at text ≡ Ok dump → SpellsDump text dump
dump_spelled laws text dump h = cut_first laws text dump (lines_of text) refl h

same_dump : (d e : Dump) → d.services ≡ e.services → d.genesis ≡ e.genesis → d.lists ≡ e.lists → d ≡ e
same_dump d e services genesis lists i = record { services = services i; genesis = genesis i; lists = lists i }

pub dump_read : WordLaws → (text : List ℕ) (dump : Dump) → SpellsDump text dump → dump_at text ≡ Ok dump
dump_read laws text dump h =
    let head : ℕ × List ℕ = (dump.services, dump.genesis.0) in
    let few = h.head_is.few in
    let a = behind_head head h.lines h.rows h.rows_are in
    let last = after_rows (with_head head) h.rows in
    let long : length last.lists ≡ dump.services = a.count ∙ length-replicate dump.services [] in
    let lists : last.lists ≡ dump.lists = same_lists last.lists dump.lists (long ∙ sym h.count)
    (λ k x l.
    get_or_default last.lists k x [] l ∙ list_is head h.rows last k a (omega (arith, l, long)) ∙ sym (h.lists k (omega (arith, l, long)))
    ∙ get_or_default dump.lists k [] x (omega (arith, l, long, h.count))) in
    let same : last ≡ dump = same_dump last dump a.services a.genesis lists in
    ap (λ (ls : List (List ℕ)). read_lines dump_line whole 1 None ls) h.cut
    ∙ ap (λ (o : Option (ℕ × List ℕ)). on_or_wrong 1 (λ next. read_lines dump_line whole 2 next h.lines) (option_map (λ x. Some (with_head x)) o)) (head_read laws h.head dump.services dump.genesis.0 h.head_is)
    ∙ rows_again laws 2 (with_head head) h.lines h.rows few h.rows_are ∙ ap (λ (d : Dump). Ok d) same
