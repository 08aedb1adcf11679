-- What the monitor does, in plain terms: when it accepts a step, and what an accepted step changes.
use Rattle.std.specs.Prelude.{◌≡◌, ℕ, ◌+◌, ◌<◌, not, ◌&&◌, ◌||◌, T, length, is_ok, Some, Ok, Err, Result, ◌==◌, ◌≢◌}
use Rattle.rights.specs.Limits.{max_object_types, max_objects}
use Rattle.rights.specs.Sets.{nothing, has}
use Rattle.rights.specs.declared.refusal.Refusal.{Refusal}
use Rattle.books.specs.Meaning.{Meaning}
use Rattle.monitor.specs.declared.step.Step.{Step}
use Rattle.monitor.specs.declared.step.Step.TheVariants.{Create, Transform, Grant, Revoke}
use Rattle.monitor.specs.declared.step.Done.{Done}
use Rattle.monitor.specs.declared.step.Done.TheVariants.{Made, Added, Taken}
use Rattle.monitor.specs.States.{State, object, type_of, cell}

-- The condition of a step: its numbers are those of subjects, objects, rights and types, and the book lets it pass.
abbrev pub Permitted : ℕ → Meaning → State → Step → Type 0
Permitted w m S (Create s t) =
    (s < length S.subjects) × (t < max_object_types)
    × ((rights : ℕ) × (m.creation (type_of S s) t ≡ Some rights)) × (length S.objects < max_objects)
Permitted w m S (Transform s o r) =
    (s < length S.subjects) × (o < length S.objects) × (r < w)
    × T (has (m.may_add (type_of S s) (object S o).type (cell S s o)) r)
Permitted w m S (Grant s d o r) =
    (s < length S.subjects) × (d < length S.subjects) × (o < length S.objects) × (r < w)
    × (s ≢ d) × T (has (m.may_give (type_of S s) (type_of S d) (object S o).type (cell S s o)) r)
Permitted w m S (Revoke s d o r) =
    (s < length S.subjects) × (d < length S.subjects) × (o < length S.objects) × (r < w)
    × ((mark : ℕ) × (m.owner ≡ Some mark) × T (has (cell S s o) mark)) × T (has (cell S d o) r)

-- all but the cell of d for o is as it was
pub record SameBut (S : State) (d o : ℕ) (New : State) : Type 0 where
  pub subjects : New.subjects ≡ S.subjects
  pub count : length New.objects ≡ length S.objects
  pub types : (i : ℕ) → (object New i).type ≡ (object S i).type
  pub others : (s i : ℕ) → ((s ≡ d) × (i ≡ o) → ⊥) → cell New s i ≡ cell S s i

-- r is in the cell of d for o, and nothing else has changed; the answer says whether it is new there
pub record Joins (S : State) (d o r : ℕ) (New : State) (done : Done) : Type 0 where
  pub rest : SameBut S d o New
  pub in_cell : (q : ℕ) → has (cell New d o) q ≡ (has (cell S d o) q || q == r)
  pub answer : done ≡ Added (not (has (cell S d o) r))

-- r is gone from the cell of d for o, and nothing else has changed
pub record Leaves (S : State) (d o r : ℕ) (New : State) (done : Done) : Type 0 where
  pub rest : SameBut S d o New
  pub in_cell : (q : ℕ) → has (cell New d o) q ≡ (has (cell S d o) q && not (q == r))
  pub answer : done ≡ Taken

-- there is one object more, of type t, for which s holds what the creation brings and nobody else holds anything
pub record AddsObject (m : Meaning) (S : State) (s t : ℕ) (New : State) (done : Done) : Type 0 where
  pub subjects : New.subjects ≡ S.subjects
  pub count : length New.objects ≡ length S.objects + 1
  pub old : (i : ℕ) → i < length S.objects → object New i ≡ object S i
  pub its_type : (object New (length S.objects)).type ≡ t
  pub creator : (rights : ℕ) → m.creation (type_of S s) t ≡ Some rights → cell New s (length S.objects) ≡ rights
  pub others : (u : ℕ) → (u ≢ s) → cell New u (length S.objects) ≡ nothing
  pub answer : done ≡ Made (length S.objects)

abbrev pub Effect : Meaning → State → Step → State → Done → Type 0
Effect m S (Create s t) New done = AddsObject m S s t New done
Effect m S (Transform s o r) New done = Joins S s o r New done
Effect m S (Grant s d o r) New done = Joins S d o r New done
Effect m S (Revoke s d o r) New done = Leaves S d o r New done

-- A step from S led to New with this reply: it was accepted exactly when it is permitted, an accepted step has its
-- effect and no other, and a refused step has none.
pub record Obeys (w : ℕ) (m : Meaning) (S : State) (step : Step) (New : State) (reply : Result Done Refusal) : Type 0 where
  pub accepted : Permitted w m S step → T (is_ok reply)
  pub permitted : T (is_ok reply) → Permitted w m S step
  pub effect : (done : Done) → reply ≡ Ok done → Effect m S step New done
  pub refused : (e : Refusal) → reply ≡ Err e → New ≡ S
