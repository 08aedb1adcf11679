-- What no list of steps gets past: the asked columns stay below closed ones that lack the asked holding.
use Rattle.std.proofs.Common.{◌≡◌, ℕ, ◌<◌, ◌≤◌, T, List, length, set, Some, arith}
use Rattle.rights.specs.Limits.{max_objects}
use Rattle.rights.specs.Sets.{has}
use Rattle.books.specs.Meaning.{Meaning, Lawful}
use Rattle.monitor.specs.declared.step.Step.{Step}
use Rattle.monitor.specs.States.{State, object, type_of, cell, with_cell}
use Rattle.monitor.specs.Machine.{perform}
use Rattle.monitor.proofs.Obedience.{same_but}
use Rattle.safety.specs.Runs.{after}
use Rattle.safety.specs.Rule.{receiver, fresh}
use Rattle.safety.proofs.Columns.{Below, leave, leave_below, below_trans}
use Rattle.safety.proofs.Earliest.{Closed}
use Rattle.safety.proofs.Search.{Bounded, moved_below}
use Rattle.safety.proofs.Steps.{with_made, objects_more, each_cell, each_made, perform_keeps, run_keeps}

-- Asked o t: the object o, of type t, is asked about. Objects from number N on may be new.
pub record Guard (w : ℕ) (m : Meaning) (s r N : ℕ) (Asked : ℕ → ℕ → Type 0) (S : State) : Type 0 where
  pub grown : N ≤ length S.objects
  pub born : (c t rights : ℕ) → c < length S.subjects → m.creation (type_of S c) t ≡ Some rights
      → (o : ℕ) → N ≤ o → o < max_objects → Asked o t → Bounded w m S.subjects t s r (fresh (length S.subjects) c rights)
  pub bounded : (o : ℕ) → o < length S.objects → Asked o (object S o).type
      → Bounded w m S.subjects (object S o).type s r (object S o).cells

module _ (w : ℕ) (m : Meaning) (law : Lawful m) (s r : ℕ) {N : ℕ} {Asked : ℕ → ℕ → Type 0} where
  -- a column with another cell, that lies below each closed column that the old one lies below
  guard_cell : (S : State) → Guard w m s r N Asked S → (d o x : ℕ) → o < length S.objects
      → ((b : List ℕ) → Closed w m S.subjects (object S o).type b → Below (object S o).cells b → Below (set (object S o).cells d x) b)
      → Guard w m s r N Asked (with_cell S d o x)
  guard_cell S g d o x l stays = record {
    grown = omega (arith, (same_but S d o x l).count, g.grown);
    born = g.born;
    bounded = each_cell (λ i c. Asked i c.type → Bounded w m S.subjects c.type s r c.cells) S d o x l g.bounded
        (λ a. let h = g.bounded o l a in (h.0, h.1, stays h.0 h.1 h.2, h.3));
  }

  guard_made : (S : State) → Guard w m s r N Asked S → (t : ℕ) (new : List ℕ)
      → (Asked (length S.objects) t → Bounded w m S.subjects t s r new)
      → Guard w m s r N Asked (with_made S t new)
  guard_made S g t new b = record {
    grown = omega (arith, objects_more S t new, g.grown);
    born = g.born;
    bounded = each_made (λ i x. Asked i x.type → Bounded w m S.subjects x.type s r x.cells) S t new g.bounded b;
  }

  guard_step : (S : State) → Guard w m s r N Asked S → (x : Step) → Guard w m s r N Asked (perform w m S x).0
  guard_step S g =
      perform_keeps w m S (Guard w m s r N Asked) g
      (λ c t rights l e room. guard_made S g t (fresh (length S.subjects) c rights)
      (g.born c t rights l e (length S.objects) g.grown room))
      (λ o v l i p h. guard_cell S g (receiver v) o _ l
      (λ b closed below. moved_below w m S.subjects (object S o).type law (object S o).cells b closed below v i p h))
      (λ o d q l. guard_cell S g d o _ l
      (λ b closed below. below_trans (leave (object S o).cells d q) (object S o).cells b (leave_below (object S o).cells d q) below))

  -- from a guarded table no list of steps brings the asked holding to an asked object
  pub guard_holds : (S : State) → Guard w m s r N Asked S → (xs : List Step)
      → (o : ℕ) → (N ≤ length (after w m S xs).objects → o < length (after w m S xs).objects) → Asked o (object (after w m S xs) o).type
      → T (has (cell (after w m S xs) s o) r) → ⊥
  guard_holds S g xs o l a h =
      let end = run_keeps w m (Guard w m s r N Asked) guard_step S g xs in
      let b = end.bounded o (l end.grown) a in
      b.3 (b.2 s r h)
