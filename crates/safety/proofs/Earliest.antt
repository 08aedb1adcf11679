-- The next move of the run rule is the earliest of all that add a right; where there is none, no move adds one.
use Rattle.std.proofs.Common.{◌≡◌, ℕ, ◌<◌, Bool, true, false, cond, T, ◌⊎◌, List, length, Some, None, inl, inr, arith}
use Rattle.rights.specs.Firsts.{first}
use Rattle.books.specs.Meaning.{Meaning}
use Rattle.safety.specs.declared.question.Move.{Move}
use Rattle.safety.specs.declared.question.Move.TheVariants.{Add, Give}
use Rattle.safety.specs.Rule.{adds, try, next_to, next}
use Rattle.safety.specs.Laws.{Earlier, Inside, Earliest}
use Rattle.safety.proofs.Splits.{Split, split_none, or_else_split, first_split}

-- of two moves that differ, one is the earlier
ordered : (u v : Move) → (u ≡ v) ⊎ (Earlier v u ⊎ Earlier u v)
ordered (Add d r) (Add e q) = grind arith
ordered (Add d r) (Give s e q) = grind arith
ordered (Give s d r) (Add e q) = grind arith
ordered (Give s d r) (Give x e q) = grind arith

-- one column: w rights, among subjects of these types, of an object of type t
module _ (w : ℕ) (m : Meaning) (types : List ℕ) (t : ℕ) (cells : List ℕ) where
  abbrev pub Adds : Move → Type 0
  Adds v = T (adds m types t cells v)

  -- no move adds a right
  abbrev pub Closed : Type 0
  Closed = (v : Move) → Inside w types v → Adds v → ⊥

  -- no earlier move than v adds a right
  abbrev pub NoneBefore : Move → Type 0
  NoneBefore v = (u : Move) → Inside w types u → Earlier u v → Adds u → ⊥

  -- no transform of d does; no grant from s to d; no move to d
  abbrev pub NoAdd : ℕ → Type 0
  NoAdd d = (r : ℕ) → r < w → Adds (Add d r) → ⊥

  abbrev pub NoGive : ℕ → ℕ → Type 0
  NoGive d s = (r : ℕ) → r < w → Adds (Give s d r) → ⊥

  abbrev pub NoneTo : ℕ → Type 0
  NoneTo d = NoAdd d × ((s : ℕ) → s < length types → NoGive d s)

  pub none_at_all : ((d : ℕ) → d < length types → NoneTo d) → Closed
  none_at_all h (Add d r) l = (h d l.0).0 r l.1
  none_at_all h (Give s d r) l = (h d l.1).1 s l.0 r l.2

  -- where a search by receiver, then giver, then right stands at a move, no earlier move adds a right
  pub before_add : (d r : ℕ) → ((e : ℕ) → e < d → NoneTo e) → ((q : ℕ) → q < r → Adds (Add d q) → ⊥) → NoneBefore (Add d r)
  before_add d r none lower (Add e q) i (inl l) a = (none e l).0 q i.1 a
  before_add d r none lower (Add e q) i (inr l) a = lower q l.1 (rw l.0 at a)
  before_add d r none lower (Give s e q) i l a = (none e l).1 s i.0 q i.2 a

  pub before_give : (s d r : ℕ) → ((e : ℕ) → e < d → NoneTo e) → NoAdd d → ((x : ℕ) → x < s → NoGive d x)
      → ((q : ℕ) → q < r → Adds (Give s d q) → ⊥) → NoneBefore (Give s d r)
  before_give s d r none own givers lower (Add e q) i (inl l) a = (none e l).0 q i.1 a
  before_give s d r none own givers lower (Add e q) i (inr p) a = own q i.1 (rw p at a)
  before_give s d r none own givers lower (Give x e q) i (inl l) a = (none e l).1 x i.0 q i.2 a
  before_give s d r none own givers lower (Give x e q) i (inr (p, inl l)) a = givers x l q i.2 (rw p at a)
  before_give s d r none own givers lower (Give x e q) i (inr (p, inr (o, l))) a =
      lower q l (rw (p, o) at a)

  pub earliest : (v : Move) → Inside w types v → Adds v → NoneBefore v → Earliest w m types t cells v
  earliest v i a before = record {
    inside = i;
    adds_right = a;
    first_of = λ u k b. elim (ordered u v) [ inl e ↦ inl e | inr (inl l) ↦ inr l | inr (inr l) ↦ absurd (before u k l b) ];
  }

  cond_split : (v : Move) (b : Bool) (P : Move → Type 0) → (T b → P v) → Split (cond b (Some v) None) (T b → ⊥) P
  cond_split v true P f = f tt
  cond_split v false P f = λ x. x

  abbrev First : Move → Type 0
  First = Earliest w m types t cells

  try_split : (v : Move) → Inside w types v → NoneBefore v → Split (try m types t cells v) (Adds v → ⊥) First
  try_split v i before = cond_split v (adds m types t cells v) First (λ a. earliest v i a before)

  next_to_split : (d : ℕ) → d < length types → ((e : ℕ) → e < d → NoneTo e) → Split (next_to w m types t cells d) (NoneTo d) First
  next_to_split d ld none =
      or_else_split (first w (λ r. try m types t cells (Add d r)))
      (first (length types) (λ s. first w (λ r. try m types t cells (Give s d r))))
      (NoAdd d) ((s : ℕ) → s < length types → NoGive d s) First
      (first_split w _ (λ r. Adds (Add d r) → ⊥) First (λ r lr lower. try_split (Add d r) (ld, lr) (before_add d r none lower)))
      (λ own. first_split (length types) _ (NoGive d) First (λ s ls givers.
      first_split w _ (λ r. Adds (Give s d r) → ⊥) First (λ r lr lower.
      try_split (Give s d r) (ls, ld, lr) (before_give s d r none own givers lower))))

  pub next_split : Split (next w m types t cells) Closed First
  next_split =
      split_none (next w m types t cells) _ Closed First none_at_all
      (first_split (length types) (next_to w m types t cells) NoneTo First next_to_split)
