-- The search in one column: what it finds follows the run rule, and where it finds none the column lies below a closed
-- one that lacks the asked holding.
use Rattle.std.proofs.Common.{◌≡◌, ℕ, zero, suc, ◌<◌, ◌≤◌, Bool, true, false, cond, not, T, List, [], ◌∷◌, length, get_or, Some, None, Option, refl, ap, ◌∙◌, arith, length-set}
use Rattle.rights.specs.Sets.{has}
use Rattle.books.specs.Meaning.{Meaning, Lawful}
use Rattle.safety.specs.declared.question.Move.{Move}
use Rattle.safety.specs.declared.question.Move.TheVariants.{Add, Give}
use Rattle.safety.specs.Rule.{receiver, right, apart, held, allowance, adds, moved, next, before, stop_or_move, find}
use Rattle.safety.specs.Laws.{Inside, Earliest, FollowsRule}
use Rattle.safety.proofs.Splits.{Split}
use Rattle.safety.proofs.Columns.{Below, join_keeps, join_below, below_trans, missing, missing_join}
use Rattle.safety.proofs.Earliest.{Closed, next_split}

pub receiver_inside : (w : ℕ) (types : List ℕ) (v : Move) → Inside w types v → receiver v < length types
receiver_inside w types (Add d r) h = h.0
receiver_inside w types (Give s d r) h = h.1

right_inside : (w : ℕ) (types : List ℕ) (v : Move) → Inside w types v → right v < w
right_inside w types (Add d r) h = h.1
right_inside w types (Give s d r) h = h.2

pub adds_new : (m : Meaning) (types : List ℕ) (t : ℕ) (cells : List ℕ) (v : Move) → T (adds m types t cells v) → T (not (has (held cells (receiver v)) (right v)))
adds_new m types t cells v a = grind arith

has_or_not : (b : Bool) → (T (not b) → ⊥) → T b
has_or_not true f = tt
has_or_not false f = f tt

module _ (w : ℕ) (m : Meaning) (types : List ℕ) (t : ℕ) where
  -- who holds more may do no less: the one place where the law is used
  allowance_more : Lawful m → (a b : List ℕ) (v : Move) → Below a b → T (has (allowance m types t a v) (right v)) → T (has (allowance m types t b v) (right v))
  allowance_more law a b (Add d r) below h = law.adds_more (get_or types d 0) t (held a d) (held b d) (below d) r h
  allowance_more law a b (Give s d r) below h = law.gives_more (get_or types s 0) (get_or types d 0) t (held a s) (held b s) (below s) r h

  -- so a move below a closed column stays below it
  pub moved_below : Lawful m → (a b : List ℕ) → Closed w m types t b → Below a b → (v : Move) → Inside w types v → T (apart v)
      → T (has (allowance m types t a v) (right v)) → Below (moved a v) b
  moved_below law a b closed below v l p h =
      join_below a b (receiver v) (right v) below
      (has_or_not (has (held b (receiver v)) (right v)) (λ new.
      closed v l (grind (arith, allowance_more law a b v below h))))

  pub adds_fewer : (cells : List ℕ) (v : Move) → length cells ≡ length types → Inside w types v → T (adds m types t cells v)
      → missing w (moved cells v) < missing w cells
  adds_fewer cells v e l a =
      missing_join w cells (receiver v) (right v) (omega (arith, receiver_inside w types v l)) (right_inside w types v l) (adds_new m types t cells v a)

  pub moved_length : (cells : List ℕ) (v : Move) → length cells ≡ length types → length (moved cells v) ≡ length types
  moved_length cells v e = length-set cells (receiver v) _ ∙ e

  module _ (s r : ℕ) where
    -- some closed column above this one, in which s lacks r
    abbrev pub Bounded : List ℕ → Type 0
    Bounded cells = (b : List ℕ) × Closed w m types t b × Below cells b × (T (has (held b s) r) → ⊥)

    -- where the column has a cell for each subject, and fuel was enough
    abbrev pub BoundedBy : ℕ → List ℕ → Type 0
    BoundedBy fuel cells = length cells ≡ length types → missing w cells ≤ fuel → Bounded cells

    abbrev Follows : List ℕ → List Move → Type 0
    Follows = FollowsRule w m types t s r

    stopped : (cells : List ℕ) (b : Bool) → has (held cells s) r ≡ b → Split (cond b (Some []) None) (BoundedBy 0 cells) (Follows cells)
    stopped cells true e = rw e tt
    stopped cells false e = λ k few. (cells, λ v l a. (let h = adds_fewer cells v k l a in omega arith), λ x q u. u, λ u. rw e at u)

    went : (fuel : ℕ) (cells : List ℕ) (v : Move) → (T (has (held cells s) r) → ⊥) → Earliest w m types t cells v → (o : Option (List Move))
        → Split o (BoundedBy fuel (moved cells v)) (Follows (moved cells v)) → Split (before v o) (BoundedBy (suc fuel) cells) (Follows cells)
    went fuel cells v lacks f None h =
        λ k few.
        let less = adds_fewer cells v k f.inside f.adds_right in
        let b = h (moved_length cells v k) (omega arith) in
        (b.0, b.1, below_trans cells (moved cells v) b.0 (join_keeps cells (receiver v) (right v)) b.2, b.3)
    went fuel cells v lacks f (Some vs) h = (lacks, f, h)

    decided : (fuel : ℕ) (cells : List ℕ) (b : Bool) → has (held cells s) r ≡ b
        → (o : Option Move) → Split o (Closed w m types t cells) (Earliest w m types t cells)
        → (go : Move → Option (List Move)) → ((v : Move) → Split (go v) (BoundedBy fuel (moved cells v)) (Follows (moved cells v)))
        → Split (stop_or_move b o go) (BoundedBy (suc fuel) cells) (Follows cells)
    decided fuel cells true e o h go k = rw e tt
    decided fuel cells false e None h go k = λ _ _. (cells, h, λ x q u. u, λ u. rw e at u)
    decided fuel cells false e (Some v) h go k = went fuel cells v (λ u. rw e at u) h (go v) (k v)

    pub find_split : (fuel : ℕ) (cells : List ℕ) → Split (find w m types t s r fuel cells) (BoundedBy fuel cells) (Follows cells)
    unfolding find
    find_split zero cells = stopped cells (has (held cells s) r) refl
    find_split (suc fuel) cells =
        decided fuel cells (has (held cells s) r) refl (next w m types t cells) (next_split w m types t cells)
        (λ v. find w m types t s r fuel (moved cells v)) (λ v. find_split fuel (moved cells v))

    -- each move adds one of the missing rights
    pub follows_short : (cells : List ℕ) (vs : List Move) → length cells ≡ length types → Follows cells vs → length vs ≤ missing w cells
    follows_short cells [] e h = omega arith
    follows_short cells (v ∷ vs) e h =
        omega (arith, adds_fewer cells v e h.1.inside h.1.adds_right, follows_short (moved cells v) vs (moved_length cells v e) h.2)

    -- what a program's loop proves of the search: it stops, it ends, or it goes on
    turned : (fuel : ℕ) (cells : List ℕ) (b : Bool) (o : Option Move) → has (held cells s) r ≡ b → next w m types t cells ≡ o
        → find w m types t s r (suc fuel) cells ≡ stop_or_move b o (λ v. find w m types t s r fuel (moved cells v))
    unfolding find
    turned fuel cells b o e n =
        let go : Move → Option (List Move) = λ v. find w m types t s r fuel (moved cells v) in
        ap (λ x. stop_or_move x (next w m types t cells) go) e ∙ ap (λ x. stop_or_move b x go) n

    pub find_stops : (fuel : ℕ) (cells : List ℕ) → has (held cells s) r ≡ true → find w m types t s r fuel cells ≡ Some []
    unfolding find
    find_stops zero cells e = ap (λ b. cond b (Some []) None) e
    find_stops (suc fuel) cells e = turned fuel cells true (next w m types t cells) e refl

    pub find_ends : (fuel : ℕ) (cells : List ℕ) → has (held cells s) r ≡ false → next w m types t cells ≡ None → find w m types t s r fuel cells ≡ None
    unfolding find
    find_ends zero cells e n = ap (λ b. cond b (Some []) None) e
    find_ends (suc fuel) cells e n = turned fuel cells false None e n

    pub find_goes : (fuel : ℕ) (cells : List ℕ) (v : Move) → has (held cells s) r ≡ false → next w m types t cells ≡ Some v
        → find w m types t s r (suc fuel) cells ≡ before v (find w m types t s r fuel (moved cells v))
    find_goes fuel cells v e n = turned fuel cells false (Some v) e n
