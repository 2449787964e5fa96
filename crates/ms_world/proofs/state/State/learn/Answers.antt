use Rattle.std.proofs.Common.{Option, IfSome, refl, length, ap, subst, arith, rules}
use Rattle.std.proofs.lemmas.Option.{slice_get_within}
use Rattle.ms_world.proofs.Offering.{none_chosen, none_links, learnt}
use Rattle.ms_world.specs.Worlds.{WorldView, known_votes, next_of, voters_of_client}
use Rattle.ms_record.specs.declared.entry.Entry.{Entry}
use Rattle.ms_record.specs.Votes.{ChosenBy}
use Rattle.ms_world.proofs.state.State.learn.Goals as goal

pub returns-in_default-clause-ok : goal.returns-in_default-clause-ok
returns-in_default-clause-ok c = (
  none_chosen c.args.setting.now c.args.self.now c.args.client.0 c.in-Ok.c.now c.in-Ok.ensures.up (c.in_ok-entry.ensures.none c.in_default.is),
  refl,
)

pub returns-then-not-links-clause-ok : goal.returns-then-not-links-clause-ok
returns-then-not-links-clause-ok c =
    let w = c.args.self.now in
    let it = c.in-Ok.c.now in
    let chosen = subst (λ (o : Option Entry). IfSome o (ChosenBy (known_votes w it) (voters_of_client c.args.setting.now it) (next_of it))) c.in-Some.is c.in_ok-entry.ensures.some in (
      none_links c.args.setting.now w c.args.client.0 it c.in-Some.entry c.in-Ok.ensures.up c.requires.one chosen (λ links. let yes = c.if-not-links.ensures.1 links in search rules),
      refl,
    )

pub index_mut-requires : goal.index_mut-requires
index_mut-requires c =
    let there = slice_get_within c.args.self.now.clients c.args.client.0 c.in-Ok.c.now c.in-Ok.ensures.up.is in
    omega (arith, there, ap (λ (w : WorldView). length w.clients) c.self.view_is, c.self.inside.clients.ok.0)

pub returns-clause-ok : goal.returns-clause-ok
returns-clause-ok c =
    let i = c.self.inside in
    let inside : WorldView = record { logs = i.logs.items; requests = i.requests.items; clients = i.clients.items } in
    let w = c.args.self.now in
    let it = c.in-Ok.c.now in
    let chosen = subst (λ (o : Option Entry). IfSome o (ChosenBy (known_votes w it) (voters_of_client c.args.setting.now it) (next_of it))) c.in-Some.is c.in_ok-entry.ensures.some in
    learnt c.args.setting.now inside w c.args.client.0 it c.index_mut.result.now c.learn.new.self c.in-Some.entry c.self.view_is c.in-Ok.ensures.up
    chosen (c.if-not-links.ensures.0 (search rules)) c.index_mut.ensures.value c.in_ok-learn.ensures.ok
