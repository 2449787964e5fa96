use Rattle.ms_tree.proofs.ListingLaws.{none_found, one_file_more}
use Rattle.ms_tree.proofs.listing.add_row.Goals as goal

pub returns-in-Ok-clause-one_more : goal.returns-in-Ok-clause-one_more
returns-in-Ok-clause-one_more c =
    one_file_more c.args.files.now c.add.new.self c.args.path.now c.args.text c.shows.ensures (none_found c.get.result _ c.get.ensures c.if-is_some.ensures) c.in-Ok.ensures
