-- A pass between calls, after a take.
use Rattle.std.proofs.Common.{◌≡◌, ℕ, List, length, Option, Some, None, refl, sym, ◌∙◌, subst, arith}
use Rattle.std.specs.Prelude.{IfSome}
use mathlib.Core.List.{IsPrefix}
use Rattle.atomic_table.specs.Table.{Me}
use Rattle.ms_ken.specs.declared.view.View.{View}
use Rattle.ms_ken.specs.Lists.{list_at, longer_lists}
use Rattle.ms_ken.specs.Rule.{Owns, Spans, settled, old_views}
use Rattle.ms_ken.specs.Rest.{IsAtRest}
use Rattle.ms_ken.specs.Rows.{length-longer_lists}

module _ {E : Type 0} where
  pub rest_taken : (word : Option ℕ) (n : ℕ) (me after : Me ℕ (View E)) (lists : List (List E)) → IsAtRest word n me → length lists ≡ n
      → after ≡ (settled me.0 (longer_lists me.0.lists lists), me.1) → IsAtRest word n after
  rest_taken word n me after lists rest wide is =
      subst (IsAtRest word n) (sym is) record { settled = refl; no_slot = rest.no_slot; wide = length-longer_lists me.0.lists lists (rest.wide ∙ sym wide) ∙ rest.wide; owns = rest.owns }

  -- what the note knew of the pass's own list begins it
  pub behind_taken : (word : Option ℕ) (n : ℕ) (me after : Me ℕ (View E)) (lists : List (List E)) → IsAtRest word n me
      → after ≡ (settled me.0 (longer_lists me.0.lists lists), me.1) → Spans after.0 (old_views me.0.lists lists) → IfSome word (λ k. IsPrefix (list_at lists k) (list_at me.0.lists k))
  behind_taken None n me after lists rest is span = tt
  behind_taken (Some k) n me after lists rest is span =
      let owns : Owns after.0 k = subst (λ (m : Me ℕ (View E)). Owns m.0 k) (sym is) (omega (arith, rest.owns), omega (arith, rest.owns)) in
      subst (IsPrefix (list_at lists k)) (sym (span.own k owns)) (span.theirs k)
