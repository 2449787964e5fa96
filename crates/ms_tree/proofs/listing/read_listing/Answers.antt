use Rattle.std.proofs.Common.{◌+◌, arith}
use Rattle.ms_text.specs.Lines.{lines_of}
use Rattle.ms_tree.proofs.ListingLaws.{first_fault, has_read_more, lines_go_on}
use Rattle.ms_tree.proofs.listing.read_listing.Goals as goal

pub returns-in_err-add_line-clause-first : goal.returns-in_err-add_line-clause-first
returns-in_err-add_line-clause-first c = first_fault (lines_of c.args.text.now)

pub loop-rest-preserved : goal.loop-rest-preserved
loop-rest-preserved c = record {
  same = lines_go_on c.loop-rest.files c.add_line.new.files (c.count-line.result + 1) c.next_line.result.0.now (lines_of c.loop-rest.rest.now) (lines_of c.next_line.result.1.now) _ c.next_line.ensures.lines
      (omega (arith, c.count-line.ensures.count)) c.in_ok-add_line.ensures.adds c.in_ok-add_line.ensures.one_more c.loop-rest.invariant.same;
  read = has_read_more c.loop-rest.files c.add_line.new.files (c.count-line.result + 1) c.next_line.result.0.now (lines_of c.args.text.now) (lines_of c.loop-rest.rest.now) (lines_of c.next_line.result.1.now) c.next_line.ensures.lines
      (omega (arith, c.count-line.ensures.count)) c.in_ok-add_line.ensures.adds c.in_ok-add_line.ensures.one_more c.loop-rest.invariant.read;
}
