use Rattle.std.proofs.Common.{◌+◌, ap}
use Rattle.ms_words.specs.Texts.{member_line}
use Rattle.ms_words.proofs.Members.{members_on}
use Rattle.ms_words.proofs.lines.push_members.Goals as goal

pub loop-i-preserved : goal.loop-i-preserved
loop-i-preserved c =
    let line = member_line (c.loop-i.i + 1) c.index-entries-i.result in
    rw c.in_ok-push_member.ensures
    (members_on c.args.entries.now c.loop-i.i c.index-entries-i.result c.loop-i.out.items line _ c.loop-i-test.true (ap (member_line (c.loop-i.i + 1)) c.index-entries-i.is) c.loop-i.invariant)
