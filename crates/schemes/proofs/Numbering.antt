-- A row declared on the draft by number: as many of each kind stay declared as have names, and the names stay.
use Rattle.std.proofs.Common.{◌≡◌, Bool, true, false, length, Ok, Err, Result, ltb, refl, sym, ap, subst, ◌∙◌}
use Rattle.rights.specs.Limits.{max_rows}
use Rattle.rights.specs.Refusals.{demand, settle}
use Rattle.rights.specs.declared.refusal.Refusal.{Refusal}
use Rattle.rights.specs.declared.refusal.Refusal.TheVariants.{LimitReached}
use Rattle.rows.specs.Rules.{Rule, more_rules}
use Rattle.rows.specs.Drafts.{Counts, Declared, with_rule}
use Rattle.meaning.specs.Named.{Named, numbered}
use Rattle.meaning.specs.Declarations.{by_number}
use Rattle.schemes.specs.declared.draft.SchemeDraft.TheInside.{Inside}

-- What is due, and what the draft by number was left as, with its answer: as many of each kind are declared as have
-- names, and with the names it is what was due of the scheme.
abbrev Kept : Named → Declared × Result (Unit {0}) Refusal → Declared × Result (Unit {0}) Refusal → Type 0
Kept s due left =
    (left.0 ≡ numbered (record { names = s.names; book = left.0.book }))
    × ◌≡◌ {A = Named × Result (Unit {0}) Refusal} (record { names = s.names; book = left.0.book }, left.1) (settle s (by_number s due))

rule_kept : (s : Named) (rule : Result Rule Refusal) → let due = settle (numbered s) (with_rule (numbered s) rule) in Kept s due due
rule_kept s (Err e) = (refl, refl)
rule_kept s (Ok rule) = with_room (ltb (length s.book.rules) max_rows) where
  with_room : (b : Bool) → let due = settle (numbered s) (demand b LimitReached (Ok (record { counts = (numbered s).counts; book = more_rules s.book rule }, tt))) in Kept s due due
  with_room true = (refl, refl)
  with_room false = (refl, refl)

-- a draft, and the row that its counts make of what is declared
module _ (d : Inside) (counted : d.draft ≡ numbered (record { names = d.names; book = d.draft.book })) (row : Counts → Result Rule Refusal) where
  abbrev pub s : Named
  s = record { names = d.names; book = d.draft.book }

  abbrev pub due : Declared → Declared × Result (Unit {0}) Refusal
  due x = settle x (with_rule x (row x.counts))

  pub row_kept : (after : Declared) (r : Result (Unit {0}) Refusal) → (after, r) ≡ due d.draft
      → (after ≡ numbered (record { names = d.names; book = after.book }))
      × ◌≡◌ {A = Named × Result (Unit {0}) Refusal} (record { names = d.names; book = after.book }, r) (settle s (by_number s (due (numbered s))))
  row_kept after r h = subst (Kept s (due (numbered s))) (sym (h ∙ ap due counted)) (rule_kept s (row (numbered s).counts))
