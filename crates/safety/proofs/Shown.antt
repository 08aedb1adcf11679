-- The shown run follows its rule; where there is none, the asked columns lie below closed ones that lack the holding.
use Rattle.std.proofs.Common.{◌≡◌, ℕ, ◌<◌, ◌≤◌, Bool, true, false, cond, ltb, List, ◌∷◌, map, length, Some, None, Option, refl, ap, le_trans, mul-le-mul_right, arith}
use Rattle.rights.specs.Limits.{max_subjects, max_objects}
use Rattle.books.specs.Meaning.{Meaning}
use Rattle.monitor.specs.declared.step.Step.{Step}
use Rattle.monitor.specs.declared.step.Step.TheVariants.{Create}
use Rattle.monitor.specs.States.{State, object, type_of}
use Rattle.safety.specs.declared.question.Move.{Move}
use Rattle.safety.specs.declared.question.Question.{Question}
use Rattle.safety.specs.declared.question.Question.TheVariants.{Can, CanNew}
use Rattle.safety.specs.Rule.{step_for, before, find, most_moves, as_steps, find_for, fresh, after_create, find_new, shown}
use Rattle.safety.specs.Laws.{FollowsRule, Ruled, RuleFollowed}
use Rattle.safety.proofs.Splits.{Split, split_none, split_is, first_split}
use Rattle.safety.proofs.Columns.{missing, missing_le}
use Rattle.safety.proofs.Search.{Bounded, BoundedBy, find_split, follows_short}

-- at most 64 subjects, and a cell for each
abbrev pub Sized : State → List ℕ → Type 0
Sized S cells = (length S.subjects ≤ max_subjects) × (length cells ≡ length S.subjects)

pub missing_most : (w : ℕ) (S : State) (cells : List ℕ) → Sized S cells → missing w cells ≤ most_moves w
missing_most w S cells k =
    let few : length cells ≤ max_subjects = omega (arith, k.0, k.1) in
    le_trans (missing_le w cells) (mul-le-mul_right w few)

module _ (w : ℕ) (m : Meaning) (S : State) (s r : ℕ) where
  pub short : (t : ℕ) (cells : List ℕ) (vs : List Move) → Sized S cells → FollowsRule w m S.subjects t s r cells vs → length vs ≤ most_moves w
  short t cells vs k h = le_trans (follows_short w m S.subjects t s r cells vs k.1 h) (missing_most w S cells k)

  -- the search for the object o, as steps
  abbrev HopelessIn : ℕ → List ℕ → Type 0
  HopelessIn t cells = Sized S cells → Bounded w m S.subjects t s r cells

  abbrev Way : ℕ → ℕ → List ℕ → List Step → Type 0
  Way o t cells run = (vs : List Move) × (run ≡ map (step_for o) vs) × FollowsRule w m S.subjects t s r cells vs

  as_steps_split : (o t : ℕ) (cells : List ℕ) (found : Option (List Move))
      → Split found (BoundedBy w m S.subjects t s r (most_moves w) cells) (FollowsRule w m S.subjects t s r cells)
      → Split (as_steps o found) (HopelessIn t cells) (Way o t cells)
  as_steps_split o t cells None h = λ k. h k.1 (missing_most w S cells k)
  as_steps_split o t cells (Some vs) h = (vs, refl, h)

  find_for_split : (o t : ℕ) (cells : List ℕ) → Split (find_for w m S o t s r cells) (HopelessIn t cells) (Way o t cells)
  find_for_split o t cells =
      as_steps_split o t cells (find w m S.subjects t s r (most_moves w) cells) (find_split w m S.subjects t s r (most_moves w) cells)

  -- an object yet to be made, for which there is room
  module _ (t : ℕ) where
    abbrev by : ℕ → Option (List Step)
    by c = after_create w m S c s t r (m.creation (type_of S c) t)

    abbrev Barren : ℕ → Type 0
    Barren c = (rights : ℕ) → m.creation (type_of S c) t ≡ Some rights → HopelessIn t (fresh (length S.subjects) c rights)

    -- by a creator of the table
    abbrev MadeWay : List Step → Type 0
    MadeWay run = Ruled w m S (CanNew s t r) run

    module _ (room : length S.objects < max_objects) where
      new_before : (c rights : ℕ) → c < length S.subjects → ((e : ℕ) → e < c → by e ≡ None) → m.creation (type_of S c) t ≡ Some rights
          → (found : Option (List Step))
          → Split found (HopelessIn t (fresh (length S.subjects) c rights)) (Way (length S.objects) t (fresh (length S.subjects) c rights))
          → Split (before (Create c t) found) (Barren c) MadeWay
      new_before c rights l none e None h =
          λ others e'. let same : rights ≡ others = cc in rw (← same) h
      new_before c rights l none e (Some run) h = (c, rights, h.0, ap (λ xs. Create c t ∷ xs) h.1, e, h.2, none, l, room)

      creator_split : (c : ℕ) → c < length S.subjects → ((e : ℕ) → e < c → by e ≡ None)
          → (made : Option ℕ) → m.creation (type_of S c) t ≡ made → Split (after_create w m S c s t r made) (Barren c) MadeWay
      creator_split c l none None e = λ rights e'. cc
      creator_split c l none (Some rights) e =
          new_before c rights l none e (find_for w m S (length S.objects) t s r (fresh (length S.subjects) c rights))
          (find_for_split (length S.objects) t (fresh (length S.subjects) c rights))

      find_new_split : Split (find_new w m S s t r) ((c : ℕ) → c < length S.subjects → (by c ≡ None) × Barren c) MadeWay
      find_new_split =
          first_split (length S.subjects) by (λ c. (by c ≡ None) × Barren c) MadeWay (λ c l none.
          split_is (by c) (Barren c) MadeWay (creator_split c l (λ e k. (none e k).0) (m.creation (type_of S c) t) refl))

    abbrev HopelessNew : Type 0
    HopelessNew = (c : ℕ) → c < length S.subjects → length S.objects < max_objects → Barren c

    room_split : (b : Bool) → ltb (length S.objects) max_objects ≡ b → Split (cond b (find_new w m S s t r) None) HopelessNew MadeWay
    room_split true e =
        split_none (find_new w m S s t r) _ HopelessNew MadeWay (λ h c l room. (h c l).1)
        (find_new_split (grind arith))
    room_split false e = λ c l room. absurd (grind arith)

module _ (w : ℕ) (m : Meaning) (S : State) where
  -- what is known where there is no run, and of a run
  abbrev pub Hopeless : Question → Type 0
  Hopeless (Can s o r) = HopelessIn w m S s r (object S o).type (object S o).cells
  Hopeless (CanNew s t r) = HopelessNew w m S s r t

  pub shown_split : (q : Question) → Split (shown w m S q) (Hopeless q) (Ruled w m S q)
  shown_split (Can s o r) = find_for_split w m S s r o (object S o).type (object S o).cells
  shown_split (CanNew s t r) = room_split w m S s r t (ltb (length S.objects) max_objects) refl

pub rule_followed : RuleFollowed
rule_followed w m S q run e = rw e at (shown_split w m S q)
