use Rattle.std.proofs.Common.{◌≡◌, rules}
use Rattle.safety.specs.Questions.{asked}
use Rattle.questions.proofs.Verdicts.{question_judged}
use Rattle.questions.proofs.call.answer.Goals as goal

pub returns-in-Ok : goal.returns-in-Ok
returns-in-Ok g c =
    let m = g.B.RuleBook.meaning c.args.book.now in
    let S = c.args.table.now in
    let rule : (c.answer.new.list, c.answer.result) ≡ asked 32 m S c.args.question c.args.run.now = search rules in
    let law = question_judged m (g.met.B.RuleBook.lawful c.args.book.now) S c.subject_types.ensures.well_formed
    c.args.question c.args.run.now _ _ rule in
    record { rule = rule; law = law }
