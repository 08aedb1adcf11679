-- The lines of a text, one after the other, each accepted.
use Rattle.std.proofs.Common.{◌≡◌, ℕ, suc, List, [], ◌∷◌, Some, None, Ok, Err, Option, Result, refl, subst, arith}
use Rattle.rights.specs.declared.refusal.Refusal.{Refusal}
use Rattle.grammar.specs.Items.{Items}
use Rattle.grammar.specs.Entries.{entries}
use Rattle.faults.specs.declared.fault.Fault.{Fault}
use Rattle.meaning.specs.Named.{Named}
use Rattle.meaning.specs.Forms.{Form, form_of}
use Rattle.meaning.specs.Schemes.{meant, form_meant, line_meant, go_on, lines_meant}
use Rattle.meaning.specs.Means.{Apart, LinesWritten}
use Rattle.meaning.proofs.Reading.{forms_read}
use Rattle.meaning.proofs.Booking.{Lines, no_line, one_line}
use Rattle.meaning.proofs.Naming.{Differs, step_differs, Grown, not_grown, step_grown, grown_later}
use Rattle.meaning.proofs.Accepting.{Accepted, accepted}

pub data Run : Named → List Form → Named → Type 0 where
  no_more : {s : Named} → Run s [] s
  one_more : {s t end : Named} {f : Form} {fs : List Form} → Accepted s f t → Run t fs end → Run s (f ∷ fs) end

-- what all lines together do to the names, and to the book under the names at the end
pub run_differs : {s end : Named} {fs : List Form} → Run s fs end → Differs s.names → Differs end.names
run_differs no_more d = d
run_differs {s} (one_more {t = t} {f = f} a run) d = run_differs run (step_differs f s.names t.names a.its_names d)

pub run_grown : {s end : Named} {fs : List Form} → Run s fs end → Grown s.names fs end.names
run_grown {s} no_more = not_grown s.names
run_grown {s} {end} (one_more {t = t} {f = f} {fs = fs} a run) =
    step_grown f s.names t.names a.its_names fs end.names (run_grown run)

pub run_lines : {s end : Named} {fs : List Form} → Run s fs end → Apart end.names.rights → Lines end.names fs s.book end.book
run_lines no_more apart = no_line
run_lines {s} {end} {fs} (one_more a run) apart =
    one_line (a.its_line end.names (grown_later s.names fs end.names (run_grown (one_more a run))) apart) (run_lines run apart)

-- a line that was accepted is a form written out
went_on : (r : Result Named Refusal) (line : ℕ) (more : Named → Result Named Fault) (end : Named) → go_on r line more ≡ Ok end
    → (t : Named) × (r ≡ Ok t) × (more t ≡ Ok end)
went_on (Ok t) line more end e = (t, refl, e)
went_on (Err d) line more end e = absurd (let z : ◌≡◌ {A = ℕ} 0 1 = cc in omega arith)

form_there : (s : Named) (o : Option Form) (t : Named) → form_meant s o ≡ Ok t → (f : Form) × (o ≡ Some f) × (meant s f ≡ Ok t)
form_there s None t e = absurd (let z : ◌≡◌ {A = ℕ} 0 1 = cc in omega arith)
form_there s (Some f) t e = (f, refl, e)

pub lines_run : (s : Named) (line : ℕ) (Fs : List Items) (end : Named) → lines_meant s line Fs (λ t. Ok t) ≡ Ok end
    → (fs : List Form) × LinesWritten Fs fs × Run s fs end
lines_run s line [] end e = let same : s ≡ end = cc in ([], tt, subst (Run s []) same no_more)
lines_run s line (F ∷ Fs) end e =
    let (t, h, g) = went_on (line_meant s F) line (λ t. lines_meant t (suc line) Fs (λ x. Ok x)) end e in
    let (f, is, k) = form_there s (form_of (entries F)) t h in
    let (fs, written, run) = lines_run t (suc line) Fs end g in
    (f ∷ fs, (forms_read.only f (entries F) is, written), one_more (accepted s f t k) run)

-- a text with a refused line is no scheme
pub never_refused : (s : Named) (line : ℕ) (Fs : List Items) (why : Fault) (end : Named) → lines_meant s line Fs (λ t. Err why) ≡ Ok end → ⊥
never_refused s line [] why end e = let z : ◌≡◌ {A = ℕ} 0 1 = cc in omega arith
never_refused s line (F ∷ Fs) why end e =
    let (t, h, g) = went_on (line_meant s F) line (λ t. lines_meant t (suc line) Fs (λ x. Err why)) end e in
    never_refused t (suc line) Fs why end g
