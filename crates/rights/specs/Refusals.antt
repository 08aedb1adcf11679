-- The number of each refusal, case by case.
use Rattle.std.specs.Prelude.{ℕ, Bool, true, false, cond, Ok, Err, Result, nat_lt}
use Rattle.rights.specs.declared.refusal.Refusal.{Refusal}
use Rattle.rights.specs.declared.refusal.Refusal.TheVariants.{TextTooLong, BadByte, LineBroken, TooDeep, WordTooLong, WrongForm, NoSuchName, Repeated, EmptyNeed, OutOfRange, SameSubject, LimitReached, NotPermitted, NotOwner, NotHeld, TooShort}

abbrev pub refusal_number : Refusal → ℕ
refusal_number TextTooLong = 1
refusal_number BadByte = 2
refusal_number LineBroken = 3
refusal_number TooDeep = 4
refusal_number WordTooLong = 5
refusal_number WrongForm = 6
refusal_number NoSuchName = 7
refusal_number Repeated = 8
refusal_number EmptyNeed = 9
refusal_number OutOfRange = 10
refusal_number SameSubject = 11
refusal_number LimitReached = 20
refusal_number NotPermitted = 21
refusal_number NotOwner = 22
refusal_number NotHeld = 23
refusal_number TooShort = 24

-- a number below the limit is itself, any other is refused
abbrev pub checked : ℕ → ℕ → Result ℕ Refusal
checked limit n = cond (nat_lt n limit) (Ok n) (Err OutOfRange)

-- a result with a part of its value in place of the value
abbrev pub on_ok : {A B : Type 0} → (A → B) → Result A Refusal → Result B Refusal
on_ok f (Ok x) = Ok (f x)
on_ok f (Err e) = Err e

-- refused with e unless the test holds: tests that follow one another are written one inside the other
abbrev pub demand : {A : Type 0} → Bool → Refusal → Result A Refusal → Result A Refusal
demand true e next = next
demand false e next = Err e

-- A call on a state. Accepted, it leaves a new state and answers; refused, it leaves the state as it was.
abbrev pub settle : {S A : Type 0} → S → Result (S × A) Refusal → S × Result A Refusal
settle before (Ok done) = (done.0, Ok done.1)
settle before (Err e) = (before, Err e)
