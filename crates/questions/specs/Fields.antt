-- What a search works on, and what it has before it.
use Rattle.std.specs.Prelude.{ℕ, Bool, cond, List, ◌++◌, Some, None, Option}
use Rattle.rights.specs.Sets.{has}
use Rattle.books.specs.Meaning.{Meaning}
use Rattle.monitor.specs.declared.step.Step.{Step}
use Rattle.monitor.specs.States.{Object}
use Rattle.safety.specs.declared.question.Move.{Move}
use Rattle.safety.specs.Rule.{held, moved, step_for, next, find, as_steps}

-- the types of the subjects; the subject and the right that are asked for; an object, its type, and a cell for each
-- subject
pub record Field : Type 0 where
  pub types : List ℕ
  pub subject : ℕ
  pub right : ℕ
  pub object : ℕ
  pub type : ℕ
  pub cells : List ℕ

abbrev pub field_of : List ℕ → ℕ → ℕ → ℕ → Object → Field
field_of types s r o x = record { types = types; subject = s; right = r; object = o; type = x.type; cells = x.cells }

-- does the subject hold the right?
abbrev pub attained : Field → Bool
attained f = has (held f.cells f.subject) f.right

-- the first move that adds a right
abbrev pub next_in : ℕ → Meaning → Field → Option Move
next_in w m f = next w m f.types f.type f.cells

abbrev pub moved_in : Field → Move → Field
moved_in f v = record f { cells = moved f.cells v }

-- the field after the move, if there is one, and the move as a step
abbrev pub stepped : Field → Option Move → Field × Option Step
stepped f None = (f, None)
stepped f (Some v) = (moved_in f v, Some (step_for f.object v))

-- the run from here, of at most so many steps
abbrev pub ahead : ℕ → Meaning → ℕ → Field → Option (List Step)
ahead w m fuel f = as_steps f.object (find w m f.types f.type f.subject f.right fuel f.cells)

-- a run that goes on behind these steps
abbrev pub onward : List Step → Option (List Step) → Option (List Step)
onward xs None = None
onward xs (Some ys) = Some (xs ++ ys)

-- the run, if it was found
abbrev pub if_found : Bool → List Step → Option (List Step)
if_found found run = cond found (Some run) None
