-- How a question and a call are answered.
use Rattle.std.specs.Prelude.{ℕ, ◌+◌, Bool, cond, ◌&&◌, List, ◌++◌, length, drop, Some, None, Ok, Err, Option, Result, nat_le, nat_lt}
use Rattle.rights.specs.Limits.{max_object_types}
use Rattle.rights.specs.Refusals.{refusal_number, demand, settle}
use Rattle.rights.specs.declared.refusal.Refusal.{Refusal}
use Rattle.rights.specs.declared.refusal.Refusal.TheVariants.{OutOfRange, TooShort}
use Rattle.books.specs.Meaning.{Meaning}
use Rattle.monitor.specs.declared.step.Step.{Step}
use Rattle.monitor.specs.declared.step.Done.{Done}
use Rattle.monitor.specs.declared.step.Done.TheVariants.{Made, Added, Taken}
use Rattle.monitor.specs.States.{State, is_subject, in_table}
use Rattle.monitor.specs.Machine.{perform}
use Rattle.safety.specs.declared.question.Question.{Question}
use Rattle.safety.specs.declared.question.Question.TheVariants.{Can, CanNew}
use Rattle.safety.specs.declared.question.Call.{Call}
use Rattle.safety.specs.declared.question.Call.TheVariants.{Act, Ask}
use Rattle.safety.specs.declared.question.Reply.{Reply}
use Rattle.safety.specs.declared.question.Reply.TheVariants as reply
use Rattle.safety.specs.Rule.{most_moves, shown}

-- the numbers of a question: a subject and an object of the table, a right, an object type
abbrev pub in_range : ℕ → State → Question → Bool
in_range w S (Can s o r) = in_table S s o && nat_lt r w
in_range w S (CanNew s t r) = is_subject S s && nat_lt t max_object_types && nat_lt r w

-- the places that a run list needs: as many as a column can want moves, and one for a create
abbrev pub list_places : ℕ → ℕ
list_places w = most_moves w + 1

-- the run in the first places of the list, and the rest of the list as it was
abbrev pub placed : List Step → List Step → List Step
placed run list = run ++ drop (length run) list

-- Never leaves the list as it was; can puts the run into it, and answers how many steps it has.
abbrev pub told : List Step → Option (List Step) → List Step × Reply
told list None = (list, reply.Never)
told list (Some run) = (placed run list, reply.Can (length run))

-- the reply, or the refusal as a reply
abbrev pub reply_from : Result Reply Refusal → Reply
reply_from (Ok r) = r
reply_from (Err e) = reply.Refused e

-- A question, put with a run list: the list after it, or the refusal, by the first test that fails.
abbrev pub considered : ℕ → Meaning → State → Question → List Step → Result (List Step × Reply) Refusal
considered w m S q list =
    demand (in_range w S q) OutOfRange
    (demand (nat_le (list_places w) (length list)) TooShort
    (Ok (told list (shown w m S q))))

-- The list after the question, and the reply. A refused question leaves the list as it was.
abbrev pub asked : ℕ → Meaning → State → Question → List Step → List Step × Reply
asked w m S q list =
    let done = settle list (considered w m S q list) in
    (done.0, reply_from done.1)

abbrev pub step_reply : Result Done Refusal → Reply
step_reply (Ok (Made n)) = reply.Made n
step_reply (Ok (Added new)) = reply.Added new
step_reply (Ok Taken) = reply.Taken
step_reply (Err e) = reply.Refused e

-- The values of a reply, case by case: the number of the object made; 1 where the right was new in its cell, else 0; the
-- number of steps of the shown run; the number of the refusal. Taken has none, and never counts no step.
abbrev pub reply_value : Reply → Option ℕ
reply_value (reply.Made n) = Some n
reply_value (reply.Added new) = Some (cond new 1 0)
reply_value reply.Taken = None
reply_value reply.Never = Some 0
reply_value (reply.Can n) = Some n
reply_value (reply.Refused e) = Some (refusal_number e)

-- Any call, with a run list: the table and the list after it, and the reply. A step leaves the list, a question the table.
abbrev pub called : ℕ → Meaning → State → Call → List Step → State × List Step × Reply
called w m S (Act x) list = ((perform w m S x).0, list, step_reply (perform w m S x).1)
called w m S (Ask q) list = (S, (asked w m S q list).0, (asked w m S q list).1)
