-- What is asked, by the place that is looked at.
use Rattle.std.specs.Prelude.{ℕ, List, length, Option}
use Rattle.books.specs.Meaning.{Meaning}
use Rattle.monitor.specs.Columns.{Cells}
use Rattle.monitor.specs.declared.step.Step.{Step}
use Rattle.monitor.specs.Columns.{object_of}
use Rattle.safety.specs.declared.question.Question.{Question}
use Rattle.safety.specs.declared.question.Question.TheVariants.{Can, CanNew}
use Rattle.safety.specs.Rule.{shown}
use Rattle.questions.specs.Fields.{Field, field_of}
use Rattle.questions.specs.declared.asked.Asked.{Asked}
use Rattle.questions.specs.declared.asked.Place.{Place}
use Rattle.questions.specs.declared.asked.Place.TheVariants.{Old, New}

-- what a search for it works on, in this column
abbrev pub field_in : {B : Type 0} → Asked B → ℕ → Cells → Field
field_in a o column =
    field_of a.table.now.subjects a.subject a.right o (object_of (length a.table.now.subjects) column)

abbrev pub question_at : {B : Type 0} → Asked B → Place → Question
question_at a (Old o) = Can a.subject o a.right
question_at a (New t) = CanNew a.subject t a.right

-- the run that is shown for it, under what its book means
abbrev pub run_of : {B : Type 0} → ℕ → Meaning → Asked B → Option (List Step)
run_of w m a = shown w m a.table.now (question_at a a.place)
