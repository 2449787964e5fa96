-- Each step keeps the rule.
use Rattle.std.proofs.Common.{◌≡◌, ◌≢◌, ◌⊎◌, ℕ, zero, suc, ◌+◌, ◌<◌, ◌%◌, ◌^◌, List, [], ◌∷◌, ◌++◌, length, set, refl, sym, ap, ◌∙◌, subst, inl, inr, ⊎_elim, arith, length-append, length-set, get_or-set_same}
use Rattle.std.proofs.lemmas.List.{get_or-set_other, set-get_or}
use Rattle.std.proofs.Math.Nat.{mod-add-mod}
use Rattle.std.specs.Prelude.{slice_index, replicate, Option, Some, IfSome}
use mathlib.Core.Option.{none, some, some-ne-none, some-injective}
use mathlib.Core.List.{IsPrefix}
use mathlib.Core.Logic.{dite}
use native.Mathlib.Decide.{ℕ_discrete}
use lib.ListN.{get_elem?}
use Rattle.atomic_table.specs.Table.{State, Me, step, opening, Allows, Splits, Joins}
use Rattle.atomic_table.specs.Table.Act.{keeps}
use Rattle.atomic_table.proofs.Lists.{at_set, set_else}
use Rattle.ms_ken.specs.declared.view.View.{View}
use Rattle.ms_ken.specs.Lists.{list_at, longer, longer_lists, with_item}
use Rattle.ms_ken.specs.Rule.{Owns, fresh, spent, note_of, others_of, first_of, settled, old_views, taken, Spans, Fits, Keeps, Tells, Settles, IsRuled}
use Rattle.ms_ken.specs.Prefixes.{prefix_self, prefix_trans, prefix_of_nil, longer_begins, first_begins, second_begins, longer_to_prefix}
use Rattle.ms_ken.specs.Rows.{list_at-longer_lists, begins_item, item_here, item_else, item_same, begins_same, list_at-replicate, agree_within}

module _ {V : Type 0} (P : ℕ → V → Type 0) where
  -- a change of one view
  pub set_view : (views : List V) (id : ℕ) (w : V) → ((j : ℕ) (u : V) → j ≢ id → get_elem? views j ≡ some u → P j u) → P id w → (j : ℕ) (u : V) → get_elem? (set views id w) j ≡ some u → P j u
  set_view views id w others mine j u e =
      ⊎_elim
      (λ (x : (j ≡ id) × (w ≡ u)). subst (λ (y : ℕ × V). P y.0 y.1) (λ i. (sym x.0 i, x.1 i)) mine)
      (λ (x : (j ≢ id) × (get_elem? views j ≡ some u)). others j u x.0 x.1)
      (at_set views id j w u e)

  -- one view more
  pub more_view : (views : List V) (w : V) → ((j : ℕ) (u : V) → get_elem? views j ≡ some u → P j u) → P (length views) w → (j : ℕ) (u : V) → get_elem? (views ++ w ∷ []) j ≡ some u → P j u
  more_view views w others mine j u e =
      ⊎_elim (others j u)
      (λ (x : (w ≡ u) × (length views ≡ j)). subst (λ (y : ℕ × V). P y.0 y.1) (λ i. (x.1 i, x.0 i)) mine)
      (last views w u j e)
    where
      last : (l : List V) (a b : V) (j : ℕ) → get_elem? (l ++ a ∷ []) j ≡ some b → (get_elem? l j ≡ some b) ⊎ ((a ≡ b) × (length l ≡ j))
      last [] a b zero e = inr (some-injective a b e, refl)
      last [] a b (suc j) e = absurd (some-ne-none b (sym e))
      last (x ∷ xs) a b zero e = inl e
      last (x ∷ xs) a b (suc j) e = ⊎_elim (λ h. inl h) (λ (h : (a ≡ b) × (length xs ≡ j)). inr (h.0, ap suc h.1)) (last xs a b j e)

index_replicate : (n k : ℕ) → slice_index (replicate n 0) k ≡ 0
index_replicate zero k = refl
index_replicate (suc n) zero = refl
index_replicate (suc n) (suc k) = index_replicate n k

length_replicate : {A : Type 0} (n : ℕ) (a : A) → length (replicate n a) ≡ n
length_replicate zero a = refl
length_replicate (suc n) a = ap suc (length_replicate n a)

module _ {E : Type 0} where
  pub opens : (n : ℕ) → Keeps {E = E} n (opening (replicate n 0) [] (fresh n))
  opens n = record {
    top = replicate n [];
    seats = replicate n 0;
    words = length_replicate n 0;
    lists = length_replicate n [];
    seated = length_replicate n 0;
    counts = λ k lt. index_replicate n k ∙ ap (λ (l : List E). length l % 2 ^ 64) (sym (list_at-replicate n k));
    views = first;
  }
    where
      first : (id : ℕ) (v : View E) → get_elem? (fresh n ∷ []) id ≡ some v → Fits n (replicate n []) (replicate n 0) id v
      first zero v e = subst (Fits n (replicate n []) (replicate n 0) 0) (some-injective _ _ e) record { begins = λ k. prefix_self _; owner = λ k o. (o.1, sym (index_replicate n k), refl); kept = tt }
      first (suc id) v e = absurd (some-ne-none v (sym e))

  pub tells : (n slots id : ℕ) (me : Me ℕ (View E)) (k : ℕ) (item : Option E) (x : E) → item ≡ Some x → Owns me.0 k → k < length me.0.lists
      → Allows (Keeps n) slots id me k (λ m. (m + 1) % 2 ^ 64) (Tells item (step slots k 1 0 none) me)
  tells n slots id me k item x is owns long s kept homes at small =
      let mine = kept.views id me.0 at in
      let own = mine.owner k owns in
      let top = with_item kept.top k x in
      let w = settled me.0 (with_item me.0.lists k x) in
      let in_top : k < length kept.top = omega (arith, own.0, kept.lists) in
      let in_words : k < length s.words = omega (arith, own.0, kept.words) in (
        w,
        keeps,
        tt,
        record {
          top = top;
          seats = kept.seats;
          words = length-set s.words k _ ∙ kept.words;
          lists = length-set kept.top k _ ∙ kept.lists;
          seated = kept.seated;
          counts = λ j lt. dite (ℕ_discrete j k)
              (λ e. subst (λ i. slice_index (set s.words k ((slice_index s.words k + 1) % 2 ^ 64)) i ≡ length (list_at top i) % 2 ^ 64) (sym e)
              (get_or-set_same s.words k _ 0 in_words ∙ (ap (λ m. (m + 1) % 2 ^ 64) (kept.counts k own.0) ∙ (mod-add-mod (length (list_at kept.top k)) (2 ^ 64) 1 ∙ ap (λ m. m % 2 ^ 64) (sym (length-append (list_at kept.top k) (x ∷ [])) ∙ ap length (sym (item_here kept.top k x in_top)))))))
              (λ ne. get_or-set_other s.words k j _ 0 ne ∙ (kept.counts j lt ∙ ap (λ l. length l % 2 ^ 64) (sym (item_else kept.top k x j ne))));
          views = set_view (Fits n top kept.seats) s.views id w
              (λ j u apart e. let f = kept.views j u e in record {
                begins = λ i. prefix_trans (list_at u.lists i) (list_at kept.top i) (list_at top i) (f.begins i) (begins_item kept.top k x i);
                owner = λ i o. let g = f.owner i o in (g.0, g.1, g.2 ∙ sym (item_else kept.top k x i (λ same. apart (g.1 ∙ (ap (slice_index kept.seats) same ∙ sym own.1)))));
                kept = f.kept;
              })
              record {
                begins = begins_same me.0.lists kept.top k x long in_top own.2 mine.begins;
                owner = λ i o. let g = mine.owner i o in (g.0, g.1, item_same me.0.lists kept.top k x i long in_top own.2 g.2);
                kept = tt;
              };
        },
        λ y e. ap (λ z. (settled me.0 (with_item me.0.lists k z), me.1)) (cc (is, e)),
      )

  pub notes : (n id : ℕ) (v : View E) → Splits (Keeps n) id v v (note_of v)
  notes n id v s kept at =
      let mine = kept.views id v at in
      let F = Fits n kept.top kept.seats in
      record {
        top = kept.top;
        seats = kept.seats;
        words = kept.words;
        lists = kept.lists;
        seated = kept.seated;
        counts = kept.counts;
        views = more_view F (set s.views id v) (note_of v) (set_view F s.views id v (λ j u apart e. kept.views j u e) mine)
            record { begins = mine.begins; owner = λ k o. absurd (omega (arith, o.1)); kept = tt };
      }

  pub hands : (n id : ℕ) (v : View E) → v.from < v.to → Splits (Keeps n) id v (others_of v) (first_of v)
  hands n id v some_left s kept at =
      let mine = kept.views id v at in
      let new = length (set s.views id (others_of v)) in
      let seats = set kept.seats v.from new in
      let F = Fits n kept.top seats in
      let own = mine.owner v.from (omega arith, some_left) in
      let in_seats : v.from < length kept.seats = omega (arith, own.0, kept.seated) in
      let stays : (i : ℕ) → i ≢ v.from → slice_index kept.seats i ≡ slice_index seats i = λ i ne. sym (get_or-set_other kept.seats v.from i new 0 ne) in
      record {
        top = kept.top;
        seats = seats;
        words = kept.words;
        lists = kept.lists;
        seated = length-set kept.seats v.from new ∙ kept.seated;
        counts = kept.counts;
        views = more_view F (set s.views id (others_of v)) (first_of v)
            (set_view F s.views id (others_of v)
            (λ j u apart e. let f = kept.views j u e in record {
              begins = f.begins;
              owner = λ i o. let h = f.owner i o in (h.0, h.1 ∙ stays i (λ same. apart (h.1 ∙ (ap (slice_index kept.seats) same ∙ sym own.1))), h.2);
              kept = f.kept;
            })
            record {
              begins = mine.begins;
              owner = λ i o. let h = mine.owner i (omega (arith, o.0), o.1) in (h.0, h.1 ∙ stays i (λ same. absurd (omega (arith, o.0, same))), h.2);
              kept = tt;
            })
            record {
              begins = mine.begins;
              owner = λ i o. let same : v.from ≡ i = omega (arith, o.0, o.1) in subst (λ k. (k < n) × (new ≡ slice_index seats k) × (list_at v.lists k ≡ list_at kept.top k)) same (own.0, sym (get_or-set_same kept.seats v.from new 0 in_seats), own.2);
              kept = tt;
            };
      }

  pub takes : (n id : ℕ) (v : View E) (other : ℕ) (w : View E) → Joins (Keeps n) id v other w (taken v w) spent
  takes n id v other w s kept at apart later =
      let mine = kept.views id v at in
      let theirs = kept.views other w (sym (set_else s.views id other (taken v w) apart) ∙ later) in
      let F = Fits n kept.top kept.seats in
      let is : (k : ℕ) → list_at (longer_lists v.lists w.lists) k ≡ longer (list_at v.lists k) (list_at w.lists k) = λ k. list_at-longer_lists v.lists w.lists k in
      let whole : (k : ℕ) → Owns v k → list_at (longer_lists v.lists w.lists) k ≡ list_at v.lists k = λ k o. is k ∙ longer_to_prefix (list_at v.lists k) (list_at w.lists k) (subst (IsPrefix (list_at w.lists k)) (sym (mine.owner k o).2) (theirs.begins k)) in
      record {
        top = kept.top;
        seats = kept.seats;
        words = kept.words;
        lists = kept.lists;
        seated = kept.seated;
        counts = kept.counts;
        views = set_view F (set s.views id (taken v w)) other spent
            (λ j u _ e. set_view F s.views id (taken v w) (λ i t _ f. kept.views i t f)
            record {
              begins = λ k. subst (λ l. IsPrefix l (list_at kept.top k)) (sym (is k)) (longer_begins (list_at v.lists k) (list_at w.lists k) (list_at kept.top k) (mine.begins k) (theirs.begins k));
              owner = λ k o. let h = mine.owner k o in (h.0, h.1, whole k o ∙ h.2);
              kept = record {
                mine = λ k. subst (IsPrefix (list_at v.lists k)) (sym (is k)) (first_begins (list_at v.lists k) (list_at w.lists k) (list_at kept.top k) (mine.begins k) (theirs.begins k));
                theirs = λ k. subst (IsPrefix (list_at w.lists k)) (sym (is k)) (second_begins (list_at v.lists k) (list_at w.lists k) (list_at kept.top k) (mine.begins k) (theirs.begins k));
                own = λ k o. sym (whole k o);
              };
            } j u e)
            record { begins = λ k. prefix_of_nil (list_at kept.top k); owner = λ k o. absurd (omega (arith, o.1)); kept = tt };
      }

  pub settles : (n slots id : ℕ) (me : Me ℕ (View E)) → Allows (Keeps n) slots id me 0 (λ m. m) (Settles (step slots 0 0 0 none) me)
  settles n slots id me s kept homes at small =
      let mine = kept.views id me.0 at in
      let F = Fits n kept.top kept.seats in
      let w = settled me.0 me.0.lists in (
        w,
        keeps,
        tt,
        record {
          top = kept.top;
          seats = kept.seats;
          words = length-set s.words 0 _ ∙ kept.words;
          lists = kept.lists;
          seated = kept.seated;
          counts = λ k lt. ap (λ l. slice_index l k) (set-get_or s.words 0 0) ∙ kept.counts k lt;
          views = set_view F s.views id w (λ j u _ e. kept.views j u e) record { begins = mine.begins; owner = mine.owner; kept = tt };
        },
        (refl, mine.kept),
      )

  -- what a take and its settling tell
  pub spans : (joined after : Me ℕ (View E)) (v w : View E) → joined.0 ≡ taken v w
      → (after ≡ (settled joined.0 joined.0.lists, joined.1)) × IfSome joined.0.old (Spans joined.0) → Spans after.0 (old_views v.lists w.lists)
  spans joined after v w has told =
      let span : Spans joined.0 (old_views v.lists w.lists) = subst (λ o. IfSome o (Spans joined.0)) (ap (λ j. j.old) has) told.1 in
      subst (λ (m : Me ℕ (View E)). Spans m.0 (old_views v.lists w.lists)) (sym told.0) record { mine = span.mine; theirs = span.theirs; own = span.own }

  pub ruled : (n : ℕ) (s : State ℕ (View E)) → Keeps n s → IsRuled n s
  ruled n s kept = record {
    agree = λ i j v w at_v at_w. agree_within v.lists w.lists kept.top (kept.views i v at_v).begins (kept.views j w at_w).begins;
    within = λ i v k at own. ((kept.views i v at).owner k own).0;
    one_owner = λ i j v w k at_v at_w own_v own_w. ((kept.views i v at_v).owner k own_v).1 ∙ sym ((kept.views j w at_w).owner k own_w).1;
    longest = λ i j v w k at_v at_w own. subst (IsPrefix (list_at w.lists k)) (sym ((kept.views i v at_v).owner k own).2) ((kept.views j w at_w).begins k);
    count = λ i v k at own. let o = (kept.views i v at).owner k own in kept.counts k o.0 ∙ ap (λ l. length l % 2 ^ 64) (sym o.2);
    kept = λ i v at. (kept.views i v at).kept;
  }
