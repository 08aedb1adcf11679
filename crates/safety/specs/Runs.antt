-- Lists of steps and lists of calls, and the holding that a question asks for.
use Rattle.std.specs.Prelude.{◌≡◌, ℕ, ◌<◌, ◌≤◌, T, List, [], ◌∷◌, length}
use Rattle.rights.specs.Sets.{has}
use Rattle.books.specs.Meaning.{Meaning}
use Rattle.monitor.specs.declared.step.Step.{Step}
use Rattle.monitor.specs.States.{State, object, cell}
use Rattle.monitor.specs.Machine.{perform}
use Rattle.safety.specs.declared.question.Question.{Question}
use Rattle.safety.specs.declared.question.Question.TheVariants.{Can, CanNew}
use Rattle.safety.specs.declared.question.Call.{Call}
use Rattle.safety.specs.declared.question.Call.TheVariants.{Act, Ask}

-- the table after a list of steps; refused steps may be among them, and leave it as it was
abbrev pub after : ℕ → Meaning → State → List Step → State
after w m S [] = S
after w m S (x ∷ xs) = after w m (perform w m S x).0 xs

-- the table after a list of calls; a question leaves it as it was
abbrev pub after_calls : ℕ → Meaning → State → List Call → State
after_calls w m S [] = S
after_calls w m S (Act x ∷ calls) = after_calls w m (perform w m S x).0 calls
after_calls w m S (Ask q ∷ calls) = after_calls w m S calls

-- The asked holding stands in the table End, where the question was put to the table S: r is in the cell of s for o; or it
-- is in the cell of s for some object of type t that S lacks.
abbrev pub Attained : State → Question → State → Type 0
Attained S (Can s o r) End = T (has (cell End s o) r)
Attained S (CanNew s t r) End =
    (o : ℕ) × (length S.objects ≤ o) × (o < length End.objects) × ((object End o).type ≡ t) × T (has (cell End s o) r)
