use Rattle.tx_tree.proofs.PathsOnce.{spelled_once}
use Rattle.tx_tree.proofs.PathsPrinted.{printed_path, printed_place}
use Rattle.tx_tree.proofs.path_laws.path_law.Goals as goal

pub returns-clause-once : goal.returns-clause-once
returns-clause-once c = spelled_once

pub returns-clause-path : goal.returns-clause-path
returns-clause-path c = printed_path

pub returns-clause-place : goal.returns-clause-place
returns-clause-place c = printed_place
