use Rattle.std.specs.List.{list_any}
use Rattle.std.specs.Prelude.{◌==◌}
use Rattle.ms_chain.proofs.Places.{among_is, bool_same, is_among as among}
use Rattle.ms_chain.proofs.line.is_among.Goals as goal

pub returns : goal.returns
returns c =
    let services = c.args.services.now in
    let s = c.args.service.0 in
    bool_same c.has.result (list_any (λ v. v == s) services) (λ yes. among services s (c.has.ensures.0 yes)) (λ yes. c.has.ensures.1 (among_is services s yes))
