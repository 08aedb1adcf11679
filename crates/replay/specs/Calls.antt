-- What the calls of a line come to, in the terms of the libraries that they are made on.
use Rattle.std.specs.Prelude.{ℕ, Some, None, vec_items, Result}
use Rattle.rights.specs.Limits.{max_rights}
use Rattle.rights.specs.Refusals.{on_ok}
use Rattle.rights.specs.declared.refusal.Refusal.{Refusal}
use Rattle.books.specs.Meaning.{Meaning}
use Rattle.rows.specs.Rules.{book_meaning}
use Rattle.rows.specs.Drafts.{Declared, declare_right, declare_subject_type, declare_object_type, declare_owner, declare_creation, declare_row}
use Rattle.flags.specs.Flags.{flags_meaning}
use Rattle.monitor.specs.States.{State}
use Rattle.monitor.specs.Machine.{build_subject, build_object, build_holding}
use Rattle.safety.specs.declared.question.Reply.{Reply}
use Rattle.safety.specs.declared.question.Reply.TheVariants as reply
use Rattle.replay.specs.declared.answer.Answer.{Answer}
use Rattle.replay.specs.declared.answer.Answer.TheVariants.{Accepted, Number}
use Rattle.replay.specs.declared.command.Building.{Building}
use Rattle.replay.specs.declared.command.Building.TheVariants.{Subject, Object, Hold}
use Rattle.replay.specs.declared.command.Declaration.{Declaration}
use Rattle.replay.specs.declared.command.Declaration.TheVariants as declaration
use Rattle.replay.specs.declared.session.Book.{Book}
use Rattle.replay.specs.declared.session.Book.TheVariants.{Rows, Flags}

-- the rules of the current book
abbrev pub rules_in : Book → Meaning
rules_in (Rows b) = book_meaning b
rules_in (Flags b) = flags_meaning b

-- how many steps of a run the reply shows
abbrev pub shown_length : Reply → ℕ
shown_length (reply.Made _) = 0
shown_length (reply.Added _) = 0
shown_length reply.Taken = 0
shown_length reply.Never = 0
shown_length (reply.Can n) = n
shown_length (reply.Refused _) = 0

-- a call with its answer as a line shows it
abbrev pub answered : {S A : Type 0} → (A → Answer) → S × Result A Refusal → S × Result Answer Refusal
answered f call = (call.0, on_ok f call.1)

abbrev pub built : State → Building → State × Result Answer Refusal
built S (Subject u) = answered Number (build_subject S u)
built S (Object o) = answered Number (build_object S o)
built S (Hold s o r) = answered (λ _. Accepted) (build_holding max_rights S s o r)

abbrev pub declared_by : Declared → Declaration → Declared × Result Answer Refusal
declared_by d declaration.Right = answered Number (declare_right d)
declared_by d declaration.SubjectType = answered Number (declare_subject_type d)
declared_by d declaration.ObjectType = answered Number (declare_object_type d)
declared_by d (declaration.Owner r) = answered (λ _. Accepted) (declare_owner d r)
declared_by d (declaration.Creation u o gets) = answered (λ _. Accepted) (declare_creation d u o (vec_items gets))
declared_by d (declaration.Transform u o need gives) =
    answered (λ _. Accepted) (declare_row d u None o (vec_items need) (vec_items gives))
declared_by d (declaration.Grant u v o need gives) =
    answered (λ _. Accepted) (declare_row d u (Some v) o (vec_items need) (vec_items gives))
