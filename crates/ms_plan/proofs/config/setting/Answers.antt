use Rattle.std.proofs.Common.{◌≡◌, ap, subst, length, arith}
use Rattle.ms_plan.specs.Drafts.{DraftView, IsDraft}
use Rattle.ms_plan.proofs.FirstPlan.{first_fits}
use Rattle.ms_plan.proofs.config.setting.Goals as goal

pub returns-clause-fits : goal.returns-clause-fits
returns-clause-fits c =
    let draft = c.args.draft.now in
    let services : c.len-services.result ≡ length draft.services = omega (arith, c.len-services.ensures, c.draft.inside.services.ok.0, ap (λ (d : DraftView). length d.services) c.draft.view_is) in
    let clients : c.len-clients.result ≡ length draft.clients = omega (arith, c.len-clients.ensures, c.draft.inside.clients.ok.0, ap (λ (d : DraftView). length d.clients) c.draft.view_is) in
    let f = first_fits draft c.len-services.result c.len-clients.result c.first_plan-plan.result services clients c.first_plan-plan.ensures.is (subst IsDraft c.draft.view_is c.draft.invariant.rules) c.requires in
    c.first.ensures.fits f.0 f.1 f.2 f.3 f.4
