use Rattle.std.proofs.Common.{◌≡◌, List, sym, subst, rules}
use Rattle.std.specs.Prelude.{◌↔◌, Contains, IsSome}
use Rattle.ms_base.specs.declared.names.Name.{Name}
use Rattle.ms_object.specs.Stores.{names_in, text_of}
use Rattle.ms_object.proofs.StoreLaws.{names_there}
use Rattle.ms_object.proofs.store.Store.names.Goals as goal

pub returns-clause-there : goal.returns-clause-there
returns-clause-there c =
    let all : c.from_vec.result ≡ names_in c.args.self.now = search rules in
    subst (λ (names : List Name). (name : Name) → Contains names name ↔ IsSome (text_of c.args.self.now name.0)) (sym all) (names_there c.args.self.now)
