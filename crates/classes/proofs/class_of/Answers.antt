use borrow.Author.Rules.{rules}
use Rattle.grammar.specs.Bytes.{class}
use Rattle.classes.specs.declared.kinds.ByteClass.TheVariants.{WordByte}
use Rattle.classes.proofs.Rule.{class_rule}
use Rattle.classes.proofs.class_of.Goals as goal

-- the table is what `class_rule` speaks of, which antt computes here
pub returns : goal.returns
unfolding class
returns c = class_rule c.args.b c.from.result WordByte c.from.ensures (search rules)
