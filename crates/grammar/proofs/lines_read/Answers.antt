use Rattle.grammar.proofs.Claims.{good_lines_read}
use Rattle.grammar.proofs.lines_read.Goals as goal

pub returns : goal.returns
returns c = good_lines_read
