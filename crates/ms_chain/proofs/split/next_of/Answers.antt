use Rattle.std.proofs.Common.{ℕ, ◌+◌, ◌<◌, ◌∙◌, ap, sym, subst, arith}
use Rattle.ms_chain.proofs.Standings.{StandsBehind, below_behind, next_else, next_member, next_past, next_two, next_unlinked, stands_behind}
use Rattle.ms_chain.proofs.split.next_of.Goals as goal

pub returns-then-end : goal.returns-then-end
returns-then-end c = next_past c.args.line.now c.args.heard.now c.end-end.result c.end-end.ensures.count (omega (arith, c.if-end.true)) c.shows_positions.ensures

pub standing-requires-clause-below : goal.standing-requires-clause-below
standing-requires-clause-below c = λ s is. subst (λ (n : ℕ). s < n) (sym c.requires) (c.voters_behind.ensures.below s is)

pub returns-then-links : goal.returns-then-links
returns-then-links c =
    let line = c.args.line.now in
    let lists = c.args.heard.now in
    let h = stands_behind line lists c.end-end.result c.voters_behind.result c.standing.result c.end-end.ensures.count c.voters_behind.ensures.are c.standing.ensures in
    next_member line lists c.in-Chosen.entry (let count = c.end-end.ensures.count in let few = c.end-end.ensures.few in let not = c.if-end.false in omega arith) (c.links.ensures.0 c.if-links.true)
    (subst (StandsBehind line lists) c.in-Chosen.is h)

pub returns-else-links : goal.returns-else-links
returns-else-links c =
    let line = c.args.line.now in
    let lists = c.args.heard.now in
    let h = stands_behind line lists c.end-end.result c.voters_behind.result c.standing.result c.end-end.ensures.count c.voters_behind.ensures.are c.standing.ensures in
    next_unlinked line lists c.in-Chosen.entry (λ links. let yes = c.links.ensures.1 links in cc (c.if-links.false, yes)) (subst (StandsBehind line lists) c.in-Chosen.is h)

pub returns-in-Split : goal.returns-in-Split
returns-in-Split c =
    let line = c.args.line.now in
    let lists = c.args.heard.now in
    let h = stands_behind line lists c.end-end.result c.voters_behind.result c.standing.result c.end-end.ensures.count c.voters_behind.ensures.are c.standing.ensures in
    next_two line lists c.in-Split.first c.in-Split.second c.split_of.result (subst (StandsBehind line lists) c.in-Split.is h)
    (c.split_of.ensures.position ∙ ap (λ (n : ℕ). n + 1) c.end-end.ensures.count) c.split_of.ensures.names.0 c.split_of.ensures.names.1

pub returns-in_default : goal.returns-in_default
returns-in_default c =
    let line = c.args.line.now in
    let lists = c.args.heard.now in
    let h = stands_behind line lists c.end-end.result c.voters_behind.result c.standing.result c.end-end.ensures.count c.voters_behind.ensures.are c.standing.ensures in
    next_else line lists c.standing.result (below_behind line lists c.end-end.result c.voters_behind.result c.requires c.end-end.ensures.count c.voters_behind.ensures.are c.voters_behind.ensures.below) h
    c.in_default.not-Chosen c.in_default.not-Split
