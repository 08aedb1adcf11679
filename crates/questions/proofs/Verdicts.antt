-- The law, of the calls that the program makes.
use Rattle.std.proofs.Common.{◌≡◌, List, sym, subst}
use Rattle.books.specs.Meaning.{Meaning, Lawful}
use Rattle.monitor.specs.declared.step.Step.{Step}
use Rattle.monitor.specs.States.{State, WellFormed}
use Rattle.safety.specs.declared.question.Question.{Question}
use Rattle.safety.specs.declared.question.Reply.{Reply}
use Rattle.safety.specs.Questions.{asked}
use Rattle.safety.specs.Laws.{Judged}
use Rattle.safety.proofs.Judge.{judged}

pub question_judged : (m : Meaning) → Lawful m → (S : State) → WellFormed S
    → (q : Question) (list new : List Step) (r : Reply) → (new, r) ≡ asked 32 m S q list
    → Judged 32 m S q list new r
question_judged m law S sound q list new r e = subst (λ x. Judged 32 m S q list x.0 x.1) (sym e) (judged 32 m law S sound q list)
