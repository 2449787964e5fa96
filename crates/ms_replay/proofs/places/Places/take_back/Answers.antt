use Rattle.std.proofs.Common.{◌≡◌, ℕ, Bool, cond, None, sym, ap, ◌∙◌}
use Rattle.std.specs.BTreeMap.{is_at}
use Rattle.std.specs.Map.{remove_entry, set_value}
use Rattle.std.specs.Ordering.{nat_cmp}
use Rattle.ms_replay.specs.Places.{lowered, maybe_taken_back}
use Rattle.ms_replay.specs.Tallies.{TallyView, found_at, place_at}
use Rattle.ms_replay.proofs.Writing.{set_absent}
use Rattle.ms_replay.proofs.places.Places.take_back.Goals as goal

pub returns-in_default-get_mut-clause-places : goal.returns-in_default-get_mut-clause-places
returns-in_default-get_mut-clause-places c =
    let es = c.self.inside.places.entries in
    let put = c.in-Some.put in
    let service = c.args.service in
    let test = is_at (nat_cmp put.position) in
    let absent : found_at es put.position ≡ None = sym c.in_default-get_mut.ensures.value in
    let place = lowered service put (place_at es put.position) in
    ap (λ m. m.entries) c.get_mut.follows.holds-at-none ∙ sym (set_absent test place es absent) ∙ ap (λ (b : Bool). cond b (remove_entry test es) (set_value test es place)) (sym c.if-put.false)
    ∙ ap (λ o. maybe_taken_back service o es) (sym c.in-Some.is) ∙ ap (λ (t : TallyView). maybe_taken_back service c.args.put.now t.places) c.self.view_is
