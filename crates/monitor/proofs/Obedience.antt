-- The machine obeys its laws, step by step.
use Rattle.std.proofs.Common.{◌≡◌, ℕ, ◌<◌, T, ◌≢◌, length, set, is_ok, Some, Ok, Result, sym, refl, subst, arith}
use Rattle.std.proofs.lemmas.Grind.{common_steps}
use Rattle.rights.specs.Sets.{add, remove}
use Rattle.rights.specs.Refusals.{settle}
use Rattle.rights.specs.declared.refusal.Refusal.{Refusal}
use Rattle.rights.proofs.SetLaws.{added, removed}
use Rattle.rights.proofs.Checks.{settle_ok, settle_done, settle_refused}
use Rattle.books.specs.Meaning.{Meaning}
use Rattle.monitor.specs.declared.step.Step.{Step}
use Rattle.monitor.specs.declared.step.Step.TheVariants.{Create, Transform, Grant, Revoke}
use Rattle.monitor.specs.declared.step.Done.{Done}
use Rattle.monitor.specs.declared.step.Done.TheVariants.{Made, Taken}
use Rattle.monitor.specs.States.{State, object, type_of, cell, with_object, with_cell, WellFormed}
use Rattle.monitor.specs.Machine.{join, outcome, perform}
use Rattle.monitor.specs.Laws.{Permitted, SameBut, Joins, Leaves, AddsObject, Effect, Obeys}

-- one cell written
module _ (S : State) (d o x : ℕ) (lo : o < length S.objects) where
  pub object_same : object (with_cell S d o x) o ≡ record { type = (object S o).type; cells = set (object S o).cells d x }
  object_same = grind (arith, common_steps)

  pub object_other : (i : ℕ) → i ≢ o → object (with_cell S d o x) i ≡ object S i
  object_other i ne = grind (arith, common_steps)

  pub cell_same : d < length (object S o).cells → cell (with_cell S d o x) d o ≡ x
  cell_same ld = grind (arith, common_steps)

  pub same_but : SameBut S d o (with_cell S d o x)
  same_but = record {
    subjects = refl;
    count = grind (arith, common_steps);
    types = λ i. grind (arith, common_steps);
    others = λ s i apart. grind (arith, common_steps);
  }

module _ (S : State) (wf : WellFormed S) (d o r : ℕ) (ld : d < length S.subjects) (lo : o < length S.objects) where
  inside : d < length (object S o).cells
  inside = omega (arith, wf.square o lo)

  pub joins : Joins S d o r (join S d o r).0 (join S d o r).1
  joins = record {
    rest = same_but S d o (add (cell S d o) r) lo;
    in_cell = λ q. rw (cell_same S d o (add (cell S d o) r) lo inside) (added (cell S d o) r q);
    answer = refl;
  }

  leaves : Leaves S d o r (with_cell S d o (remove (cell S d o) r)) Taken
  leaves = record {
    rest = same_but S d o (remove (cell S d o) r) lo;
    in_cell = λ q. rw (cell_same S d o (remove (cell S d o) r) lo inside) (removed (cell S d o) r q);
    answer = refl;
  }

-- an object made
module _ (m : Meaning) (S : State) (s t rights : ℕ) (ls : s < length S.subjects) (may : m.creation (type_of S s) t ≡ Some rights) where
  adds_object : AddsObject m S s t (with_cell (with_object S t) s (length S.objects) rights) (Made (length S.objects))
  adds_object = record {
    subjects = refl;
    count = grind (arith, common_steps);
    old = λ i l. grind (arith, common_steps);
    its_type = grind (arith, common_steps);
    creator = λ q e. grind (arith, common_steps);
    others = λ u ne. grind (arith, common_steps);
    answer = refl;
  }

module _ (w : ℕ) (m : Meaning) (S : State) where
  -- the tests of a step against its condition
  accepts : (step : Step) → Permitted w m S step → T (is_ok (outcome w m S step))
  accepts (Create s t) p = grind (arith, common_steps)
  accepts (Transform s o r) p = grind (arith, common_steps)
  accepts (Grant s d o r) p = grind (arith, common_steps)
  accepts (Revoke s d o r) p = grind (arith, common_steps)

  permits : (step : Step) → T (is_ok (outcome w m S step)) → Permitted w m S step
  permits (Create s t) h = grind (arith, common_steps)
  permits (Transform s o r) h = grind (arith, common_steps)
  permits (Grant s d o r) h = grind (arith, common_steps)
  permits (Revoke s d o r) h = grind (arith, common_steps)

  module _ (wf : WellFormed S) where
    -- what was accepted is what the step says
    effects : (step : Step) (x : State × Done) → Ok x ≡ outcome w m S step → Permitted w m S step → Effect m S step x.0 x.1
    effects (Create s t) x h p =
        let e : x ≡ (with_cell (with_object S t) s (length S.objects) p.2.0, Made (length S.objects)) = grind (arith, common_steps) in
        rw e (adds_object m S s t p.2.0 p.0 p.2.1)
    effects (Transform s o r) x h p =
        let e : x ≡ join S s o r = grind (arith, common_steps) in
        rw e (joins S wf s o r p.0 p.1)
    effects (Grant s d o r) x h p =
        let e : x ≡ join S d o r = grind (arith, common_steps) in
        rw e (joins S wf d o r p.1 p.2)
    effects (Revoke s d o r) x h p =
        let e : x ≡ (with_cell S d o (remove (cell S d o) r), Taken) = grind (arith, common_steps) in
        rw e (leaves S wf d o r p.1 p.2)

    obeys : (step : Step) → Obeys w m S step (perform w m S step).0 (perform w m S step).1
    obeys step =
        let out = outcome w m S step in
        record {
          accepted = λ p. rw (settle_ok S out) (accepts step p);
          permitted = λ t. permits step (rw (settle_ok S out) at t);
          effect = λ done e.
              let x = settle_done S out done e in
              effects step ((settle S out).0, done) x (permits step (subst (λ y. T (is_ok y)) x tt));
          refused = settle_refused S out;
        }

    pub obeyed : (step : Step) (New : State) (reply : Result Done Refusal) → (New, reply) ≡ perform w m S step → Obeys w m S step New reply
    obeyed step New reply e = subst (λ y. Obeys w m S step y.0 y.1) (sym e) (obeys step)
