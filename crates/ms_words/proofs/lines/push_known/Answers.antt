use Rattle.std.proofs.Common.{refl, get_or}
use Rattle.ms_words.specs.Texts.{known_line}
use Rattle.ms_words.proofs.Members.{known_on}
use Rattle.ms_words.proofs.lines.push_known.Goals as goal

pub loop-i-preserved : goal.loop-i-preserved
loop-i-preserved c =
    rw c.in_ok-push_known_line.ensures
    (known_on c.args.known.now c.loop-i.i 0 c.loop-i.out.items (known_line c.loop-i.i (get_or c.args.known.now c.loop-i.i 0)) _ c.loop-i-test.true refl c.loop-i.invariant)
