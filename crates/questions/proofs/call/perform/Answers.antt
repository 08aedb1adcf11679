use Rattle.safety.specs.Laws.{ListsJudged}
use Rattle.safety.proofs.Judge.{lists_judged}
use Rattle.questions.proofs.call.perform.Given as given
use Rattle.questions.proofs.call.perform.Goals as goal
use Rattle.questions.proofs.call.perform.Goals.{After-subject_types}

-- the law over all lists of calls needs only that the table is well-formed
lists : (g : given.Over) (c : After-subject_types g)
    → ListsJudged 32 (g.B.RuleBook.meaning c.args.book.now) c.args.table.now
lists g c = lists_judged 32 (g.B.RuleBook.meaning c.args.book.now) (g.met.B.RuleBook.lawful c.args.book.now)
    c.args.table.now c.subject_types.ensures.well_formed

pub returns-in-Act-clause-lists : goal.returns-in-Act-clause-lists
returns-in-Act-clause-lists g c = lists g (goal.at.returns-in-Act-clause-lists g c).After-subject_types

pub returns-in-Ask-clause-lists : goal.returns-in-Ask-clause-lists
returns-in-Ask-clause-lists g c = lists g (goal.at.returns-in-Ask-clause-lists g c).After-subject_types
