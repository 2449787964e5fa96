use Rattle.std.proofs.Common.{◌≡◌, refl, rules}
use Rattle.std.proofs.lemmas.Map.Entries.{filter_from_retain_pairs}
use Rattle.std.specs.Prelude.{nat_le}
use Rattle.ms_memory.proofs.Storing.{dropped_gone, dropped_kept}
use Rattle.ms_memory.proofs.store.Store.drop_below.Goals as goal

pub returns-clause-gone : goal.returns-clause-gone
returns-clause-gone c =
    let kept = filter_from_retain_pairs _ (λ f. f.0.now ≡ c.args.floor) (λ e. nat_le c.args.floor e.0.generation)
    (λ g k v b w g' i t. search rules)
    _ c.args.self.now.texts.entries c.retain.new.self.entries refl c.retain.ensures.filtered in
    dropped_gone c.args.floor c.args.self.now.texts.entries c.retain.new.self.entries kept

pub returns-clause-kept : goal.returns-clause-kept
returns-clause-kept c =
    let kept = filter_from_retain_pairs _ (λ f. f.0.now ≡ c.args.floor) (λ e. nat_le c.args.floor e.0.generation)
    (λ g k v b w g' i t. search rules)
    _ c.args.self.now.texts.entries c.retain.new.self.entries refl c.retain.ensures.filtered in
    dropped_kept c.args.floor c.args.self.now.texts.entries c.retain.new.self.entries kept
