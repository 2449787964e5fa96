use Rattle.std.proofs.Common.{sym, ap, ◌∙◌, rules}
use Rattle.ms_ken.proofs.Meeting.{Met, met}
use Rattle.ms_ken.proofs.board.Board.meet.Goals as goal

pub returns : goal.returns
returns g c =
    let wide = c.recall.ensures.owners ∙ (ap (λ t. t.words) (c.requires.0 ∙ sym c.requires.1) ∙ sym c.recall-2.ensures.owners) in
    let m : Met {E = g.row.C-Event.Denot} c.args.one.now c.args.other.now c.note-2.new.pass c.take-2.new.pass = met _ _ _ _ _ _ _ _ wide c.note.ensures.same c.note.ensures.note c.take.ensures.longer c.take.ensures.keeps c.take.ensures.learns c.note-2.ensures.same c.note-2.ensures.note c.take-2.ensures.longer in
    record { one = search rules; other = m.other; same = m.same; both_know_one = m.first; both_know_other = m.second; own_one = search rules; own_other = search rules }
