-- What a scheme text comes to: a scheme, or its first fault.
use Rattle.std.specs.Prelude.{ℕ, suc, cond, List, [], ◌∷◌, length, Some, None, Ok, Err, Option, Result, nat_le}
use Rattle.rights.specs.declared.refusal.Refusal.{Refusal}
use Rattle.rights.specs.declared.refusal.Refusal.TheVariants.{TextTooLong, WrongForm, NoSuchName}
use Rattle.grammar.specs.Limits.{max_text}
use Rattle.grammar.specs.Items.{Items}
use Rattle.grammar.specs.Entries.{entries}
use Rattle.grammar.specs.Texts.{Split, all_lines, line_refused, split}
use Rattle.entries.specs.Lookup.{place_of}
use Rattle.faults.specs.declared.fault.Fault.{Fault}
use Rattle.faults.specs.declared.fault.Text.TheVariants.{Scheme}
use Rattle.meaning.specs.Named.{Named, nothing_named}
use Rattle.meaning.specs.Declarations.{right_named, subject_type_named, object_type_named, owner_set, creation_added, row_added}
use Rattle.meaning.specs.Forms.{Form, right, subject_type, object_type, owner, create, itrans, grant, note, form_of}

-- the first refusal decides
abbrev pub and_then : {A B : Type 0} → Result A Refusal → (A → Result B Refusal) → Result B Refusal
and_then (Ok x) more = more x
and_then (Err e) more = Err e

abbrev pub at_place : Option ℕ → Result ℕ Refusal
at_place (Some k) = Ok k
at_place None = Err NoSuchName

-- the number of a name of its kind
abbrev pub found : List ℕ → List (List ℕ) → Result ℕ Refusal
found name names = at_place (place_of name names)

-- the numbers of names, from left to right
abbrev pub all_found : List (List ℕ) → List (List ℕ) → Result (List ℕ) Refusal
all_found [] names = Ok []
all_found (n ∷ ns) names = and_then (found n names) (λ k. and_then (all_found ns names) (λ ks. Ok (k ∷ ks)))

-- a declaration, its answer left out
abbrev pub quiet : {A : Type 0} → Result (Named × A) Refusal → Result Named Refusal
quiet (Ok done) = Ok done.0
quiet (Err e) = Err e

-- what a form declares: its names are looked up from left to right, then the declaration is made by number
abbrev pub meant : Named → Form → Result Named Refusal
meant s (right n) = quiet (right_named s n)
meant s (subject_type n) = quiet (subject_type_named s n)
meant s (object_type n) = quiet (object_type_named s n)
meant s (owner n) = and_then (found n s.names.rights) (λ r. quiet (owner_set s r))
meant s (create u o gets) =
    and_then (found u s.names.subject_types) (λ by.
    and_then (found o s.names.object_types) (λ on.
    and_then (all_found gets s.names.rights) (λ rs. quiet (creation_added s by on rs))))
meant s (itrans u o need gives) =
    and_then (found u s.names.subject_types) (λ by.
    and_then (found o s.names.object_types) (λ on.
    and_then (all_found need s.names.rights) (λ ns.
    and_then (all_found gives s.names.rights) (λ gs. quiet (row_added s by None on ns gs)))))
meant s (grant u v o need gives) =
    and_then (found u s.names.subject_types) (λ by.
    and_then (found v s.names.subject_types) (λ to.
    and_then (found o s.names.object_types) (λ on.
    and_then (all_found need s.names.rights) (λ ns.
    and_then (all_found gives s.names.rights) (λ gs. quiet (row_added s by (Some to) on ns gs))))))
meant s note = Ok s

abbrev pub form_meant : Named → Option Form → Result Named Refusal
form_meant s None = Err WrongForm
form_meant s (Some f) = meant s f

-- what a good line declares
abbrev pub line_meant : Named → Items → Result Named Refusal
line_meant s F = form_meant s (form_of (entries F))

abbrev pub in_scheme : Refusal → ℕ → Fault
in_scheme e line = record { refusal = e; text = Scheme; line = line }

abbrev pub go_on : Result Named Refusal → ℕ → (Named → Result Named Fault) → Result Named Fault
go_on (Ok s) line more = more s
go_on (Err e) line more = Err (in_scheme e line)

-- the lines from this one on, one after the other, and then the end of the text; the first faulty line decides
abbrev pub lines_meant : Named → ℕ → List Items → (Named → Result Named Fault) → Result Named Fault
lines_meant s line [] end = end s
lines_meant s line (F ∷ Fs) end = go_on (line_meant s F) line (λ t. lines_meant t (suc line) Fs end)

abbrev pub split_meant : Split → Result Named Fault
split_meant (all_lines Fs) = lines_meant nothing_named 1 Fs (λ s. Ok s)
split_meant (line_refused Fs line why k) = lines_meant nothing_named 1 Fs (λ _. Err (in_scheme why line))

abbrev pub scheme_text : List ℕ → Result Named Fault
scheme_text text = cond (nat_le (length text) max_text) (split_meant (split text)) (Err (in_scheme TextTooLong 0))
