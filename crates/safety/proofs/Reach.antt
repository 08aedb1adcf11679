-- What follows the run rule in one column, the monitor performs.
use Rattle.std.proofs.Common.{◌≡◌, ℕ, ◌<◌, T, List, [], ◌∷◌, map, length, is_ok, Ok, Result, sym, ap, ◌∙◌, subst, arith}
use Rattle.std.proofs.lemmas.Grind.{common_steps}
use Rattle.rights.specs.Sets.{has, add}
use Rattle.rights.specs.Refusals.{settle}
use Rattle.rights.specs.declared.refusal.Refusal.{Refusal}
use Rattle.books.specs.Meaning.{Meaning}
use Rattle.monitor.specs.declared.step.Step.{Step}
use Rattle.monitor.specs.declared.step.Done.{Done}
use Rattle.monitor.specs.States.{Object, State, object, cell, with_cell, WellFormed}
use Rattle.monitor.specs.Machine.{join, outcome}
use Rattle.monitor.proofs.Obedience.{object_same, same_but, joins}
use Rattle.safety.specs.declared.question.Move.{Move}
use Rattle.safety.specs.declared.question.Move.TheVariants.{Add, Give}
use Rattle.safety.specs.Runs.{after}
use Rattle.safety.specs.Rule.{step_for, receiver, right, adds}
use Rattle.safety.specs.Laws.{OneMore, Grows, EachWorks, Inside, FollowsRule}
use Rattle.safety.proofs.Search.{receiver_inside, adds_new}
use Rattle.safety.proofs.Steps.{well_cell}

-- a move as a step
grows_for : (S New : State) (o : ℕ) (v : Move) → OneMore S (receiver v) o (right v) New → Grows S (step_for o v) New
grows_for S New o (Add d r) h = h
grows_for S New o (Give s d r) h = h

module _ (w : ℕ) (m : Meaning) (S : State) (o : ℕ) (l : o < length S.objects) where
  -- a move that adds a right is performed
  performs : (v : Move) → Inside w S.subjects v → T (adds m S.subjects (object S o).type (object S o).cells v)
      → outcome w m S (step_for o v) ≡ Ok (join S (receiver v) o (right v))
  performs (Add d r) i a = grind (arith, common_steps)
  performs (Give s d r) i a = grind (arith, common_steps)

  -- and adds just that right
  adds_one : WellFormed S → (v : Move) → Inside w S.subjects v → T (adds m S.subjects (object S o).type (object S o).cells v)
      → OneMore S (receiver v) o (right v) (join S (receiver v) o (right v)).0
  adds_one wf v i a =
      let j = joins S wf (receiver v) o (right v) (receiver_inside w S.subjects v i) l in
      record {
        lacked = grind (arith, adds_new m S.subjects (object S o).type (object S o).cells v a);
        in_cell = j.in_cell;
        rest = j.rest;
      }

module _ (w : ℕ) (m : Meaning) (s r o : ℕ) where
  -- each step works, and at the end there are n objects, o has the type t, and s holds r for it
  pub record Reached (n t : ℕ) (S : State) (xs : List Step) : Type 0 where
    pub works : EachWorks w m S xs
    pub objects : length (after w m S xs).objects ≡ n
    pub type : (object (after w m S xs) o).type ≡ t
    pub holds : T (has (cell (after w m S xs) s o) r)

  pub reached_after : (n t : ℕ) (S : State) (x : Step) (xs : List Step) (done : State × Done) → outcome w m S x ≡ Ok done → Grows S x done.0
      → Reached n t done.0 xs → Reached n t S (x ∷ xs)
  reached_after n t S x xs done e g h =
      let all = subst (λ (y : Result (State × Done) Refusal). T (is_ok (settle S y).1) × Grows S x (settle S y).0 × Reached n t (settle S y).0 xs) (sym e) (tt, g, h) in
      record { works = (all.0, all.1, all.2.works); objects = all.2.objects; type = all.2.type; holds = all.2.holds }

  pub follows_reach : (vs : List Move) (S : State) (n t : ℕ) → WellFormed S → o < length S.objects → length S.objects ≡ n → (object S o).type ≡ t
      → FollowsRule w m S.subjects (object S o).type s r (object S o).cells vs → Reached n t S (map (step_for o) vs)
  follows_reach [] S n t wf l en et h = record { works = tt; objects = en; type = et; holds = h }
  follows_reach (v ∷ vs) S n t wf l en et h =
      let d = receiver v in
      let set_there = add (cell S d o) (right v) in
      let same = object_same S d o set_there l in
      let count = (same_but S d o set_there l).count in
      reached_after n t S (step_for o v) (map (step_for o) vs) (join S d o (right v)) (performs w m S o l v h.1.inside h.1.adds_right)
      (grows_for S (join S d o (right v)).0 o v (adds_one w m S o l wf v h.1.inside h.1.adds_right))
      (follows_reach vs (with_cell S d o set_there) n t (well_cell S wf d o set_there l) (omega arith) (count ∙ en)
      (ap (λ (x : Object). x.type) same ∙ et)
      (rw same h.2))
