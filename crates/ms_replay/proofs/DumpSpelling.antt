-- A line of a dump is read exactly where it is spelled so.
use Rattle.std.proofs.Common.{◌≡◌, ◌≢◌, ℕ, zero, suc, ◌+◌, ◌^◌, ◌<◌, ◌≤◌, Bool, true, false, ◌&&◌, not, List, [], ◌∷◌, ◌++◌, Option, Some, None, Result, Err, refl, sym, ap, ◌∙◌, subst, lt-ltb, arith}
use Rattle.std.specs.Prelude.{bytes_eq, codes, nat_le, nat_lt, ◌==◌}
use Rattle.std.specs.Cmp.Lexicographic.{same_text}
use Rattle.std.specs.Fmt.{decimal}
use Rattle.std.specs.List.{list_all}
use Rattle.std.specs.Option.{option_map}
use Rattle.std.proofs.lemmas.Bool.{leb-true, le-leb, ltb-true}
use Rattle.std.proofs.lemmas.Option.{cond_some}
use Rattle.ms_base.specs.Options.{bind_some, both, ◌>>=◌}
use Rattle.ms_text.specs.Lines.{lines_of, or_wrong, on_or_wrong, read_lines}
use Rattle.ms_text.specs.Words.{HasNoSpace, WordsAreJoined, two_words, number_at, bytes_at, name_at, spaced}
use Rattle.ms_replay.specs.DumpLines.{SpellsHead, SpellsRow}
use Rattle.ms_replay.specs.declared.dump.Dump.{Dump}
use Rattle.ms_replay.specs.Dumps.{head_at, row_at, with_head, dump_line, whole, dump_at}

-- what is known of words
pub record WordLaws : Type 0 where
  pub words : WordsAreJoined
  pub read : (most n : ℕ) (word : List ℕ) → most < 2 ^ 64 → number_at most word ≡ Some n → (word ≡ decimal n) × (n ≤ most)
  pub again : (most n : ℕ) (word : List ℕ) → most < 2 ^ 64 → word ≡ decimal n → n ≤ most → number_at most word ≡ Some n
  pub no_space : (n : ℕ) → n < 2 ^ 64 → HasNoSpace (decimal n)

abbrev is_no_space : ℕ → Bool
is_no_space b = not (b == 32)

clear : (text : List ℕ) → list_all is_no_space text ≡ true → HasNoSpace text
clear [] h i l e = absurd (omega arith)
clear (c ∷ cs) h zero l e =
    let q = both (is_no_space c) (list_all is_no_space cs) h in
    let space : is_no_space 32 ≡ true = subst (λ (b : ℕ). is_no_space b ≡ true) e q.0 in
    cc
clear (c ∷ cs) h (suc i) l e = clear cs (both (is_no_space c) (list_all is_no_space cs) h).1 i (omega arith) e

-- four words, of which the first three have no space
four : WordsAreJoined → (line a b c d r s : List ℕ) → two_words line ≡ Some (a, r) → two_words r ≡ Some (b, s) → two_words s ≡ Some (c, d) → line ≡ spaced (a ∷ b ∷ c ∷ d ∷ [])
four words line a b c d r s p q t =
    (words.parted line a r p).0 ∙ ap (λ (x : List ℕ). a ++ 32 ∷ x) ((words.parted r b s q).0 ∙ ap (λ (x : List ℕ). b ++ 32 ∷ x) (words.parted s c d t).0)

pub head_spelled : WordLaws → (line : List ℕ) (services : ℕ) (genesis : List ℕ) → head_at line ≡ Some (services, genesis) → SpellsHead line services genesis
unfolding head_at
head_spelled laws line services genesis h =
    let a = bind_some (two_words line) _ (services, genesis) h in
    let b = bind_some (two_words a.0.1) _ (services, genesis) a.2 in
    let c = bind_some (two_words b.0.1) _ (services, genesis) b.2 in
    let n = bind_some (number_at 16 c.0.0) _ (services, genesis) c.2 in
    let g = bind_some (name_at c.0.1) _ (services, genesis) n.2 in
    let t = cond_some (bytes_eq a.0.0 (codes "metasync-dump") && bytes_eq b.0.0 (codes "1") && nat_le 1 n.0) (n.0, g.0) (services, genesis) g.2 in
    let u = both (bytes_eq a.0.0 (codes "metasync-dump") && bytes_eq b.0.0 (codes "1")) (nat_le 1 n.0) t.0 in
    let v = both (bytes_eq a.0.0 (codes "metasync-dump")) (bytes_eq b.0.0 (codes "1")) u.0 in
    let number = laws.read 16 n.0 c.0.0 (omega arith) n.1 in
    let count : n.0 ≡ services = ap (λ (x : ℕ × List ℕ). x.0) t.1 in
    let name : g.0 ≡ genesis = ap (λ (x : ℕ × List ℕ). x.1) t.1 in
    let word : c.0.0 ≡ decimal services = number.0 ∙ ap decimal count in
    record {
      some = omega (arith, count, leb-true 1 n.0 u.1);
      few = omega (arith, count, number.1);
      digits = c.0.1;
      name = g.1 ∙ ap (λ (x : List ℕ). Some x) name;
      words = four laws.words line a.0.0 b.0.0 c.0.0 c.0.1 a.0.1 b.0.1 a.1 b.1 c.1
          ∙ ap (λ (x : List ℕ). spaced (x ∷ b.0.0 ∷ c.0.0 ∷ c.0.1 ∷ [])) (same_text a.0.0 (codes "metasync-dump") (sym v.0))
          ∙ ap (λ (x : List ℕ). spaced (codes "metasync-dump" ∷ x ∷ c.0.0 ∷ c.0.1 ∷ [])) (same_text b.0.0 (codes "1") (sym v.1))
          ∙ ap (λ (x : List ℕ). spaced (codes "metasync-dump" ∷ codes "1" ∷ x ∷ c.0.1 ∷ [])) word;
    }

pub head_read : WordLaws → (line : List ℕ) (services : ℕ) (genesis : List ℕ) → SpellsHead line services genesis → head_at line ≡ Some (services, genesis)
unfolding head_at
head_read laws line services genesis h =
    let last = decimal services ++ 32 ∷ h.digits in
    let rest = codes "1" ++ 32 ∷ last in
    let one = laws.words.joined (codes "metasync-dump") rest (clear (codes "metasync-dump") refl) in
    let two = laws.words.joined (codes "1") last (clear (codes "1") refl) in
    let three = laws.words.joined (decimal services) h.digits (laws.no_space services (omega (arith, h.few))) in
    let number = laws.again 16 services (decimal services) (omega arith) refl h.few in
    let some : nat_le 1 services ≡ true = le-leb 1 services h.some in
    ap head_at h.words ∙ rw (one, two, three, number, h.name, some) refl

pub row_spelled : WordLaws → (services : ℕ) (line : List ℕ) (service : ℕ) (text : List ℕ) → row_at services line ≡ Some (service, text) → SpellsRow services line service text
unfolding row_at
row_spelled laws services line service text h =
    let w = bind_some (two_words line) _ (service, text) h in
    let s = bind_some (number_at 4294967295 w.0.0) _ (service, text) w.2 in
    let b = bind_some (bytes_at w.0.1) _ (service, text) s.2 in
    let t = cond_some (nat_lt s.0 services) (s.0, b.0) (service, text) b.2 in
    let number = laws.read 4294967295 s.0 w.0.0 (omega arith) s.1 in
    let count : s.0 ≡ service = ap (λ (x : ℕ × List ℕ). x.0) t.1 in
    let bytes : b.0 ≡ text = ap (λ (x : ℕ × List ℕ). x.1) t.1 in
    record {
      known = omega (arith, count, below s.0 services t.0);
      digits = w.0.1;
      bytes = b.1 ∙ ap (λ (x : List ℕ). Some x) bytes;
      words = (laws.words.parted line w.0.0 w.0.1 w.1).0 ∙ ap (λ (x : List ℕ). x ++ 32 ∷ w.0.1) (number.0 ∙ ap decimal count);
    }
  where
    below : (m n : ℕ) → nat_lt m n ≡ true → m < n
    below m n h = ltb-true m n h

pub row_read : WordLaws → (services : ℕ) (line : List ℕ) (service : ℕ) (text : List ℕ) → services ≤ 16 → SpellsRow services line service text → row_at services line ≡ Some (service, text)
unfolding row_at
row_read laws services line service text few h =
    let one = laws.words.joined (decimal service) h.digits (laws.no_space service (omega (arith, few, h.known))) in
    let number = laws.again 4294967295 service (decimal service) (omega arith) refl (omega (arith, few, h.known)) in
    let known : nat_lt service services ≡ true = lt-ltb service services h.known in
    ap (row_at services) h.words ∙ rw (one, number, h.bytes, known) refl

-- ---- wrong lines

or_behind : {V : Type 0} (from line : ℕ) (o : Option V) → or_wrong from o ≡ Err line → from ≤ line
or_behind from line None e = let same : from ≡ line = cc in omega (arith, same)
or_behind from line (Some v) e = absurd cc

on_behind : {S V : Type 0} (from line : ℕ) (next : S → Result V ℕ) (o : Option S) → ((s : S) → next s ≡ Err line → from ≤ line) → on_or_wrong from next o ≡ Err line → from ≤ line
on_behind from line next None later e = let same : from ≡ line = cc in omega (arith, same)
on_behind from line next (Some s) later e = later s e

-- a wrong line is none before the first that is read
line_behind : {S V : Type 0} (step : S → List ℕ → Option S) (finish : S → Option V) (from line : ℕ) (start : S) (texts : List (List ℕ)) → read_lines step finish from start texts ≡ Err line → from ≤ line
line_behind step finish from line start [] h = or_behind from line (finish start) h
line_behind step finish from line start (text ∷ texts) h =
    on_behind from line (λ next. read_lines step finish (from + 1) next texts) (step start text) (λ next e. omega (arith, line_behind step finish (from + 1) line next texts e)) h

-- behind the head no wrong line is the first
pub not_first : (so_far : Option Dump) (texts : List (List ℕ)) → read_lines dump_line whole 2 so_far texts ≢ Err 1
not_first so_far texts h = absurd (omega (arith, line_behind dump_line whole 2 1 so_far texts h))

-- nor where the first line is a head
pub head_is_right : (text first : List ℕ) (rest : List (List ℕ)) (h : ℕ × List ℕ) → lines_of text ≡ first ∷ rest → Some h ≡ head_at first → dump_at text ≢ Err 1
head_is_right text first rest h lines is wrong =
    not_first (Some (with_head h)) rest
    (ap (λ (o : Option (ℕ × List ℕ)). on_or_wrong 1 (λ next. read_lines dump_line whole 2 next rest) (option_map (λ x. Some (with_head x)) o)) is
    ∙ ap (λ (ts : List (List ℕ)). read_lines dump_line whole 1 None ts) (sym lines) ∙ wrong)
