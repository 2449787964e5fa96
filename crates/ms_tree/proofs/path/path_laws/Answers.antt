use Rattle.ms_tree.proofs.PathLaws.{part_Decides, path_Decides, directory_Decides}
use Rattle.ms_tree.proofs.path.path_laws.Goals as goal

pub returns-clause-part : goal.returns-clause-part
returns-clause-part c = part_Decides

pub returns-clause-path : goal.returns-clause-path
returns-clause-path c = path_Decides

pub returns-clause-directory : goal.returns-clause-directory
returns-clause-directory c = directory_Decides
