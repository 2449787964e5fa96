use Rattle.std.proofs.Common.{◌≡◌, ℕ, ◌<◌, List, [], ◌∷◌, ◌++◌, Some, refl, ap, ◌∙◌, sym, subst, length, slice_get, slice_index_or, arith}
use Rattle.std.proofs.lemmas.Option.{slice_get_read}
use Rattle.ms_record.specs.declared.entry.Entry.{Entry}
use Rattle.ms_record.specs.Chains.{LinksBehind}
use Rattle.ms_record.specs.Settings.{origin_of}
use Rattle.ms_base.specs.declared.limits.TheConstants.{LAST_NUMBER}
use Rattle.ms_chain.specs.LineInside.{IsLined}
use Rattle.ms_chain.specs.Lines.{LineView}
use Rattle.ms_chain.proofs.Lining.{lined_after}
use Rattle.ms_chain.proofs.line.Line.push.Goals as goal

pub invariant_of-self-2 : goal.invariant_of-self-2
invariant_of-self-2 c =
    let l = c.self.inside in
    let e = c.args.entry.now in
    let lined = c.self.invariant.lined in
    let before = c.index-before.result.now in
    let members : c.push_reserved.new.self.items ≡ l.members.items ++ e ∷ [] = c.push_reserved.ensures.items ∙ ap (λ (ms : List Entry). ms ++ e ∷ []) c.reserve.ensures.items in
    let in_force : c.push_reserved-2.new.self.items ≡ l.in_force.items ++ c.in_ok-place.place ∷ [] = c.push_reserved-2.ensures.items ∙ ap (λ (ps : List ℕ). ps ++ c.in_ok-place.place ∷ []) c.reserve-2.ensures.items in
    let count : c.len.result ≡ length l.members.items = (let a = c.len.ensures in let b = c.reserve.ensures.len in let d = l.members.ok.0 in omega arith) in
    let read : before ≡ slice_index_or l.in_force.items (length l.members.items) before =
    c.index-before.ensures ∙ ap (λ (ps : List ℕ). slice_index_or ps c.len.result before) c.reserve-2.ensures.items ∙ ap (λ (n : ℕ). slice_index_or l.in_force.items n before) count in
    let at : slice_get l.in_force.items (length l.members.items) ≡ Some before =
    slice_get_read l.in_force.items (length l.in_force.items) (length l.members.items) before refl (let counts = lined.counts in omega arith) read in
    let room : length l.members.items < LAST_NUMBER = subst (λ (v : LineView). length v.members < LAST_NUMBER) (sym c.self.view_is) c.requires.room in
    let links = subst (λ (v : LineView). LinksBehind (origin_of v.setting) v.members e) (sym c.self.view_is) c.requires.links in
    let whole = lined_after l.setting l.members.items l.last c.entry_name-self-inside.result l.plans.items c.place_after.new.plans.items l.in_force.items e before c.in_ok-place.place e.plan lined room links
    c.entry_name-self-inside.ensures refl at c.in_ok-place.ensures.ok in
    record {
      setting = c.self.invariant.setting;
      lined =
          subst (λ (ms : List Entry). IsLined l.setting ms c.entry_name-self-inside.result c.place_after.new.plans.items c.push_reserved-2.new.self.items) (sym members)
          (subst (λ (ps : List ℕ). IsLined l.setting (l.members.items ++ e ∷ []) c.entry_name-self-inside.result c.place_after.new.plans.items ps) (sym in_force) whole);
    }
