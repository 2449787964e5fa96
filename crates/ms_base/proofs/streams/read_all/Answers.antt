use Rattle.std.proofs.Common.{length-take, arith}
use Rattle.ms_base.proofs.Known.{piece_ends}
use Rattle.ms_base.proofs.streams.read_all.Goals as goal

pub returns-in-Err-clause-all : goal.returns-in-Err-clause-all
returns-in-Err-clause-all g c =
    let i = c.loop-text.invariant in
    piece_ends c.args.limit _ (g.S.Source.seen c.args.source.now) (g.S.Source.seen c.loop-text.source) (g.S.Source.seen c.read_piece.new.source) _ _ c.in-Err.error i.came c.in-Err.ensures.piece (omega arith) (omega (arith, length-take c.min-room.result c.deref_mut.result.now)) (omega (arith, i.steady))
