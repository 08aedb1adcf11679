-- What the calls of a reading come to, besides want of memory.
use Rattle.std.specs.Prelude.{◌≡◌, ℕ, List, Ok, Err, Result}
use Rattle.faults.specs.declared.fault.Fault.{Fault}
use Rattle.words.specs.declared.stop.Failed.{Failed}
use Rattle.words.specs.declared.stop.Failed.TheVariants.{Memory, Because}
use Rattle.words.specs.Stops.{Stop, Denial}
use Rattle.meaning.specs.Named.{Named, nothing_named}
use Rattle.meaning.specs.Schemes.{in_scheme}
use Rattle.meaning.specs.Means.{SchemeMeans}

-- what was due was answered, as `view` sees it, or not, for the reason that was due
abbrev pub Answered : {A B E : Type 0} → (A → B) → Result B E → Result A (Failed E) → Type 0
Answered view due (Ok x) = due ≡ Ok (view x)
Answered view due (Err (Because e)) = due ≡ Err e
Answered view due (Err Memory) = Unit {0}

-- what was due was declared; if not, for the reason that was due or for want of memory, the scheme is as it was
abbrev pub DeclaredAs : {E : Type 0} → Result Named E → Named → Named → Result (Unit {0}) (Failed E) → Type 0
DeclaredAs due before after (Ok _) = due ≡ Ok after
DeclaredAs due before after (Err (Because e)) = (due ≡ Err e) × (after ≡ before)
DeclaredAs due before after (Err Memory) = after ≡ before

-- why a text was not read
abbrev pub Failure : Type 0
Failure = Failed Fault

-- a text came to a scheme or to its first fault
abbrev pub ReadAs : Result Named Fault → Result Named Failure → Type 0
ReadAs = Answered (λ s. s)

-- and fills a scheme with it, which is the empty one otherwise
abbrev pub FilledAs : Result Named Fault → Named → Result (Unit {0}) Failure → Type 0
FilledAs due = DeclaredAs due nothing_named

-- what was read means the lines of the text
abbrev pub MeansIfRead : List ℕ → Named → Result (Unit {0}) Failure → Type 0
MeansIfRead text after (Ok _) = SchemeMeans text after
MeansIfRead text after (Err _) = Unit {0}

-- why a line was not read, or not declared
abbrev pub stopped_at : ℕ → Stop → Failure
stopped_at line Memory = Memory
stopped_at line (Because a) = Because (in_scheme a.refusal line)

abbrev pub denied_at : ℕ → Denial → Failure
denied_at line Memory = Memory
denied_at line (Because e) = Because (in_scheme e line)
