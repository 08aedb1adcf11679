use Rattle.grammar.proofs.Claims.{only_good_lines}
use Rattle.grammar.proofs.only_lines_read.Goals as goal

pub returns : goal.returns
returns c = only_good_lines
