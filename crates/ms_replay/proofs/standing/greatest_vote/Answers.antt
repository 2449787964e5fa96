use Rattle.std.proofs.Common.{◌≡◌, sym, refl, length, Some, slice_get}
use Rattle.std.proofs.lemmas.Option.{slice_get_read}
use Rattle.ms_replay.proofs.Groups.{greatest_here, of_last}
use Rattle.ms_replay.proofs.standing.greatest_vote.Goals as goal

pub returns-clause-some : goal.returns-clause-some
returns-clause-some c =
    let part = c.args.part.now in
    let at = c.first_of_ballot-place.result in
    let v = c.index-part-place.result in
    let last = c.in_ok-last.last.now in
    let gv : slice_get part at ≡ Some v = slice_get_read part (length part) at v refl c.first_of_ballot-place.ensures.within c.index-part-place.is in
    let gl = sym c.in_ok-last.ensures.value in
    greatest_here c.args.position part at v last c.vote.result c.requires gv gl (of_last part at v last gv gl (c.first_of_ballot-place.ensures.here v gv)) c.first_of_ballot-place.ensures.before
    c.vote.ensures.ballot c.vote.ensures.entry
