-- The answer of a declaration, passed on as that of a line.
use Rattle.std.proofs.Common.{◌≡◌, ℕ, Ok, Err, Result, sym, refl, ap}
use Rattle.std.specs.Result.{MatchResult, IsOkAnd, IsErrAnd}
use Rattle.rights.specs.Refusals.{settle}
use Rattle.rights.specs.declared.refusal.Refusal.{Refusal}
use Rattle.words.specs.Stops.{Denial}
use Rattle.words.specs.declared.stop.Failed.TheVariants.{Memory, Because}
use Rattle.meaning.specs.Named.{Named}
use Rattle.meaning.specs.Schemes.{quiet}
use Rattle.schemes.specs.Calls.{CarriedOut}
use Rattle.readings.specs.Results.{DeclaredAs}

-- a declaration by number, its refusal as a denial
settled : (s after : Named) (r : Result (Named × Unit {0}) Refusal) (x : Result (Unit {0}) Refusal) (out : Result (Unit {0}) Denial) → after ≡ (settle s r).0 → x ≡ (settle s r).1
    → MatchResult x (λ y. out ≡ Ok y) (λ e. IsErrAnd out (λ d. d ≡ Because e)) → DeclaredAs (quiet r) s after out
settled s after (Ok done) (Ok y) out left is m = rw m (ap (λ s. Ok s) (sym left))
settled s after (Err e) (Err d) (Err f) left is m = let k : f ≡ Because e = cc in rw k (refl, left)
settled s after (Ok done) (Err d) out left is m = absurd (cc)
settled s after (Err e) (Ok y) out left is m = absurd (cc)
settled s after (Err e) (Err d) (Ok y) left is m = absurd m

pub settled_as : (s after : Named) (due : Result Named Refusal) (r : Result (Named × Unit {0}) Refusal) (x : Result (Unit {0}) Refusal) (out : Result (Unit {0}) Denial) → due ≡ quiet r
    → ◌≡◌ {A = Named × Result (Unit {0}) Refusal} (after, x) (settle s r) → MatchResult x (λ y. out ≡ Ok y) (λ e. IsErrAnd out (λ d. d ≡ Because e)) → DeclaredAs due s after out
settled_as s after due r x out is h m = rw is (settled s after r x out (ap (λ p. p.0) h) (ap (λ p. p.1) h) m)

-- a new name, its number left out
pub named_as : (s after : Named) (due : Result (Named × ℕ) Refusal) (x : Result ℕ Denial) (out : Result (Unit {0}) Denial) (P : ℕ → Unit {0} → Type 0)
    → CarriedOut due s after x → MatchResult x (λ n. IsOkAnd out (P n)) (λ d. out ≡ Err d) → DeclaredAs (quiet due) s after out
named_as s after due (Ok n) (Ok y) P h m = ap quiet h
named_as s after due (Ok n) (Err d) P h m = absurd m
named_as s after due (Err (Because e)) out P h m = rw m (ap quiet h.0, h.1)
named_as s after due (Err Memory) out P h m = rw m h
